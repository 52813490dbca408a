use Rattle.program.proofs.RewrittenInputs.{has_rewritten, verdict_kept}
use Rattle.program.proofs.laws.what_is_rewritten_keeps_its_verdict.Goals as goal

pub returns : goal.returns
returns c = record { rewritten = has_rewritten; verdict = verdict_kept }
