use Rattle.std.proofs.Common.{◌∙◌}
use Rattle.conf_values.proofs.StandardNames.{standard_listed}
use Rattle.conf_values.proofs.entries.is_standard_field.Goals as goal

pub returns : goal.returns
returns c = c.is_listed.ensures ∙ standard_listed c.args.name.now
