use Rattle.std.proofs.Common.{◌≡◌, ◌≢◌, ℕ, ◌+◌, ◌-◌, List, get_or, Some, None, codes, subst, ap, ◌∙◌, arith}
use Rattle.std.proofs.lemmas.List.{length-drop}
use Rattle.memchr.specs.Find.{FindsNeedle}
use Rattle.msg_head.proofs.Prefixes.{given_none}
use Rattle.msg_head.proofs.Ends.{none_from, none_up_to, none_past, section_around}
use Rattle.msg_head.proofs.section.head_section.Goals.{else-at-gt0-via-then-at-gt0+else-bytes-at-eq13, else-at-gt0-via-else-at-gt0}
use Rattle.msg_head.proofs.section.head_section.Goals as goal

pub returns-in_err-at-clause-none : goal.returns-in_err-at-clause-none
returns-in_err-at-clause-none c =
    let found = subst (λ (s : List ℕ). FindsNeedle s (codes "\n\r\n") 0 None) c.rest_from.ensures (rw c.in_err-at.was at c.find.ensures) in
    given_none c.from_residual.result (none_from c.args.bytes.now c.ends.from c.ends.invariant.none found)

pub returns-then-bytes-at-eq13-clause-some : goal.returns-then-bytes-at-eq13-clause-some
returns-then-bytes-at-eq13-clause-some c =
    let from = c.ends.from in
    let n = c.in_ok-at.field-0 in
    let found = subst (λ (s : List ℕ). FindsNeedle s (codes "\n\r\n") 0 (Some n)) c.rest_from.ensures (rw c.in_ok-at.was at c.find.ensures) in
    let next : from + n ≡ from + n - 1 + 1 = omega (arith, c.if-at-gt0.true) in
    section_around c.args.bytes.now from n (from + n - 1) next c.if-bytes-at-eq13.true c.ends.invariant.none found

pub ends-preserved : goal.ends-preserved
ends-preserved c =
    let bytes = c.args.bytes.now in
    let from = c.ends.from in
    let n = c.in_ok-at.field-0 in
    let found = subst (λ (s : List ℕ). FindsNeedle s (codes "\n\r\n") 0 (Some n)) c.rest_from.ensures (rw c.in_ok-at.was at c.find.ensures) in
    let no_cr : (p : ℕ) → from + n ≡ p + 1 → get_or bytes p 0 ≢ 13 = λ p same cr. elim c.else-at-gt0.branch [
      | else-at-gt0-via-then-at-gt0+else-bytes-at-eq13 w ↦
          let here : from + n - 1 ≡ p = omega (arith, same) in
          w.if-bytes-at-eq13.false (ap (λ (m : ℕ). get_or bytes m 0) here ∙ cr)
      | else-at-gt0-via-else-at-gt0 w ↦ omega (arith, same, w.if-at-gt0.false)
    ] in
    record {
      within = omega (arith, found.1.fits, length-drop {A = ℕ} from bytes, c.ends.invariant.within);
      none = none_past bytes (from + n) (none_up_to bytes from n c.ends.invariant.none found) no_cr;
    }
