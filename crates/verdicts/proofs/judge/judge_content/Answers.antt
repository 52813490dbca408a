use Rattle.std.proofs.lemmas.Result.{err_from_is_err_and}
use Rattle.verdicts.specs.Verification.{verification_by}
use Rattle.signatures.specs.Rules.{IsFirstFailure}
use Rattle.verdicts.specs.Policies.{HasRoom}
use Rattle.verdicts.specs.Rules.{Fails, asks_digest_of}
use Rattle.verdicts.specs.tools.Judged.{AcceptsContent, FailsByMac, FailsByDigest, FailsByRoom}
use Rattle.verdicts.proofs.RuleOrder.{says_failure}
use Rattle.verdicts.proofs.Judging.{explains_by, mac_or_lack_fails, digest_fails, room_fails}
use Rattle.verdicts.proofs.KnownTagLaws.{known_of}
use Rattle.verdicts.proofs.judge.judge_content.Goals as goal

pub judge_mac-requires-clause-in_range : goal.judge_mac-requires-clause-in_range
judge_mac-requires-clause-in_range c = c.requires.in_range

pub judge_mac-requires-clause-known : goal.judge_mac-requires-clause-known
judge_mac-requires-clause-known c =
    let signed = c.args.signed.now in
    let v = verification_by c.args.verifier.now c.args.exchange.now.context signed.label.now in
    let has = c.requires.has.1 in
    known_of v.conf v.context v.label signed.read.now.params signed.read.now.tag c.requires.has.0 c.args.key.now has.under.signature has.under.is has.is signed.is_right c.requires.known

pub returns-in_err-judge_mac-clause-explains : goal.returns-in_err-judge_mac-clause-explains
returns-in_err-judge_mac-clause-explains c =
    let signed = c.args.signed.now in
    let v = verification_by c.args.verifier.now c.args.exchange.now.context signed.label.now in
    let read = signed.read.now in
    let key = c.args.key.now in
    let has = c.requires.has.1 in
    let p = err_from_is_err_and c.from_residual.result c.from_residual.ensures.1 in
    rw (p.1, p.2)
    (says_failure (Fails v) (FailsByMac v.context read.params read.tag key) c.in_err-judge_mac.field-0.0 (mac_or_lack_fails v read.params read.tag has.under.signature has.under.alg c.requires.has.0 has.under.is key has.is c.args.policy.now has.by) c.in_err-judge_mac.ensures.explains)

pub returns-in_err-judge_digest-clause-explains : goal.returns-in_err-judge_digest-clause-explains
returns-in_err-judge_digest-clause-explains c =
    let signed = c.args.signed.now in
    let v = verification_by c.args.verifier.now c.args.exchange.now.context signed.label.now in
    let read = signed.read.now in
    let key = c.args.key.now in
    let has = c.requires.has.1 in
    let mac = c.in_ok-judge_mac.ensures.explains in
    let p = err_from_is_err_and c.from_residual-in_err-judge_digest.result c.from_residual-in_err-judge_digest.ensures.1 in
    rw (p.1, p.2)
    (says_failure (Fails v) (FailsByDigest (asks_digest_of v c.args.policy.now) v.context.message read.params.ids) c.in_err-judge_digest.field-0.0 (digest_fails v read.params read.tag has.under.signature has.under.alg c.requires.has.0 has.under.is key has.is c.args.policy.now has.by mac.0 mac.1 mac.2)
    (rw c.in_ok-judge_mac.ensures.exchange at c.in_err-judge_digest.ensures.explains))

pub returns-clause-explains : goal.returns-clause-explains
returns-clause-explains c =
    let signed = c.args.signed.now in
    let v = verification_by c.args.verifier.now c.args.exchange.now.context signed.label.now in
    let read = signed.read.now in
    let policy = c.args.policy.now in
    let key = c.args.key.now in
    let has = c.requires.has.1 in
    let mac = c.in_ok-judge_mac.ensures.explains in
    let digest = rw c.in_ok-judge_mac.ensures.exchange at c.in_ok-judge_digest.ensures.explains in
    explains_by (λ _. HasRoom v.now v.seen policy read.params) (λ _. AcceptsContent v read.params read.tag key policy) (FailsByRoom v.now v.seen policy read.params) (IsFirstFailure (Fails v)) c.judge_room.result
    (λ _ room. record { values = mac.0; have = mac.1; mac = mac.2; digest = digest; room = room })
    (room_fails v read.params read.tag has.under.signature has.under.alg c.requires.has.0 has.under.is key has.is c.args.policy.now has.by mac.0 mac.1 mac.2 digest)
    (c.judge_room.ensures v.now c.requires.now)
