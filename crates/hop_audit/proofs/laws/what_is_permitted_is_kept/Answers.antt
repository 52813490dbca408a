use Rattle.hop_audit.proofs.Permitted.{keeps_fate}
use Rattle.hop_audit.proofs.SameVerdicts.{what_is_permitted_is_kept}
use Rattle.hop_audit.proofs.laws.what_is_permitted_is_kept.Goals as goal

pub returns : goal.returns
returns c = record { fate = keeps_fate; report = what_is_permitted_is_kept }
