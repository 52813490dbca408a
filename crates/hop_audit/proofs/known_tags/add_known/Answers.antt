use Rattle.std.proofs.Common.{◌≡◌}
use Rattle.std.proofs.lemmas.Result.{on_ok_weaker}
use Rattle.sfv_text.specs.Keys.{put}
use Rattle.verdicts.specs.KnownTags.{HasKnownTag}
use Rattle.hop_audit.proofs.CarriedTags.{known_more}
use Rattle.hop_audit.proofs.known_tags.add_known.Goals as goal

pub returns-in_ok-from_bytes-in-Some : goal.returns-in_ok-from_bytes-in-Some
returns-in_ok-from_bytes-in-Some c conf context knows has =
    let own : HasKnownTag conf context c.args.label.now c.in-Some.is_right = rw c.in-Some.is at has in
    on_ok_weaker c.put.result (λ (is : c.put.new.self ≡ put c.args.known.now c.in_ok-from_bytes-in-Some.field-0 c.in-Some.is_right).
    rw (is, c.in_ok-from_bytes-in-Some.ensures.ok) (known_more conf context c.args.known.now c.args.label.now c.in-Some.is_right knows own)) c.put.ensures.ok
