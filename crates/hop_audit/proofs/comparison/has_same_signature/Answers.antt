use Rattle.std.proofs.lemmas.Bool.{false≢true}
use Rattle.hop_audit.proofs.Comparing.{same_signature}
use Rattle.hop_audit.proofs.comparison.has_same_signature.Goals as goal

pub returns-in-Some : goal.returns-in-Some
returns-in-Some c message label is =
    let has = rw c.in-Some.is at is in
    same_signature message label c.in-Some.own.now.params c.args.read.now.params c.in-Some.own.now.tag c.args.read.now.tag c.is_same.result has c.is_same.ensures

pub returns-in-None : goal.returns-in-None
returns-in-None c message label is =
    let none = rw c.in-None.is at is in
    (λ yes. absurd (false≢true yes), λ has. absurd (none c.args.read.now.params c.args.read.now.tag has))
