use Rattle.std.proofs.lemmas.Bool.Decides.{Decides-eqb}
use Rattle.std.proofs.lemmas.Slice.Eq.{strip_prefix_is}
use Rattle.byte_grammar.proofs.Given.{at_some, at_none}
use Rattle.byte_grammar.proofs.texts.rest_after.Goals as goal

pub returns-clause-some : goal.returns-clause-some
returns-clause-some c = at_some _ _ c.strip_prefix.result (strip_prefix_is Decides-eqb c.args.bytes.now c.args.prefix.now c.strip_prefix.result c.strip_prefix.ensures.cases)

pub returns-clause-none : goal.returns-clause-none
returns-clause-none c = at_none _ _ c.strip_prefix.result (strip_prefix_is Decides-eqb c.args.bytes.now c.args.prefix.now c.strip_prefix.result c.strip_prefix.ensures.cases)
