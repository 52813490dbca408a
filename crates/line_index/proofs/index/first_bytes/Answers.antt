use Rattle.std.proofs.Common.{◌∙◌}
use Rattle.line_index.proofs.FirstBytes.{same_number}
use Rattle.line_index.proofs.index.first_bytes.Goals as goal

pub returns : goal.returns
returns c = c.from_be_bytes.ensures ∙ same_number c.copy_first.new.bytes c.args.name.now c.copy_first.ensures
