use Rattle.std.proofs.Common.{◌≡◌, ◌∙◌, ℕ, List, Option, Some, Bor, ap}
use Rattle.std.specs.Prelude.{option_map}
use Rattle.std.proofs.lemmas.Result.{err_from_is_err_and}
use Rattle.recording.specs.Chains.{responses}
use Rattle.recording.specs.RecordedChains.{subject_meant}
use Rattle.hop_audit.proofs.AuditAnswers.{related_refused}
use Rattle.hop_audit.proofs.chain_audit.related_request.Goals as goal

pub returns-in_err-request-in-Responses-Some : goal.returns-in_err-request-in-Responses-Some
returns-in_err-request-in-Responses-Some c =
    let p = err_from_is_err_and c.from_residual.result c.from_residual.ensures.1 in
    let text = c.in-Responses-Some.text in
    let same = rw c.in-Responses-Some.is at c.in-Responses-Some.field-0-is in
    let is : subject_meant c.args.chain.now.subject ≡ responses (Some text.now) =
    ap subject_meant c.in-Responses-Some.is ∙ ap (λ (o : Option (Bor (List ℕ))). responses (option_map (λ (t : Bor (List ℕ)). t.now) o)) same in
    rw (p.1, p.2) (related_refused c.args.chain.now c.reading_of-reading.result text.now c.in_err-request-in-Responses-Some.field-0.0 is c.reading_of-reading.ensures
    c.in_err-request-in-Responses-Some.ensures)
