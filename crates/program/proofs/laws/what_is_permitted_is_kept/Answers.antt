use Rattle.program.proofs.AuditedInputs.{kept_where_permitted}
use Rattle.program.proofs.laws.what_is_permitted_is_kept.Goals as goal

pub returns : goal.returns
returns c = kept_where_permitted
