use Rattle.std.proofs.Common.{ap, ◌∙◌}
use Rattle.std.specs.Int.{from_be_bytes, w128}
use Rattle.line_index.proofs.FirstBytes.{same_first}
use Rattle.line_index.proofs.index.lowered_first_bytes.Goals as goal

pub returns : goal.returns
returns c =
    c.from_be_bytes.ensures ∙ ap (from_be_bytes w128) c.make_ascii_lowercase.ensures.after ∙ same_first c.copy_first.new.bytes c.args.name.now c.copy_first.ensures
