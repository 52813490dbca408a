use Rattle.std.proofs.Common.{refl}
use Rattle.std.proofs.lemmas.Bool.{false≢true}
use Rattle.framing.proofs.Codings.{begins_with, begins_not_with}
use Rattle.framing.proofs.coding.rest_after.Goals as goal

pub returns-then-not-eq_ignore_ascii_case-clause-none :
    goal.returns-then-not-eq_ignore_ascii_case-clause-none
returns-then-not-eq_ignore_ascii_case-clause-none c more joined =
    let cut = c.in_ok-first.ensures.cases in
    begins_not_with c.args.text.now c.args.piece.now c.in_ok-first.first.now more cut.1 cut.3 (λ same. false≢true (c.if-not-eq_ignore_ascii_case.ensures.test.1 same)) joined

pub returns-clause-some : goal.returns-clause-some
returns-clause-some c =
    let cut = c.in_ok-first.ensures.cases in
    begins_with c.args.text.now c.args.piece.now c.in_ok-first.first.now c.in_ok-first.rest.now cut.1 cut.2 (c.if-not-eq_ignore_ascii_case.ensures.test.0 refl)
