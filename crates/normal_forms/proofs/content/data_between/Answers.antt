use Rattle.std.proofs.Common.{Some, None, ◌++◌}
use Rattle.std.proofs.lemmas.Bool.Decides.{Decides-eqb}
use Rattle.std.proofs.lemmas.Slice.Eq.{strip_prefix_is, strip_suffix_is}
use Rattle.normal_forms.proofs.OneChunk.{between_of, one_end}
use Rattle.normal_forms.proofs.content.data_between.Goals as goal

pub returns-in-Some : goal.returns-in-Some
returns-in-Some c =
    between_of c.args.bytes.now c.args.line.now c.in-Some.rest.now c.strip_suffix.result
    (strip_prefix_is Decides-eqb c.args.bytes.now c.args.line.now (Some c.in-Some.rest) c.in-Some.ensures.cases)
    (strip_suffix_is Decides-eqb c.in-Some.rest.now one_end c.strip_suffix.result c.strip_suffix.ensures.cases)

pub returns-in-None : goal.returns-in-None
returns-in-None c between e = strip_prefix_is Decides-eqb c.args.bytes.now c.args.line.now None c.in-None.ensures.cases (between ++ one_end) e
