use Rattle.std.proofs.Common.{◌≡◌, ◌++◌, ◌∷◌, [], ◌/◌, ℕ, List, OnOk, append_assoc, ap, false, subst, sym, ◌∙◌}
use Rattle.std.specs.Fmt.{digits}
use Rattle.std.proofs.lemmas.Fmt.{hex_one_digit}
use Rattle.framing.proofs.SizeDigits.{hex_step}
use Rattle.framing.proofs.write.+append_hexadecimal.Goals as goal

pub returns-then-number-lt16 : goal.returns-then-number-lt16
returns-then-number-lt16 t c =
    subst (λ (ds : List ℕ). OnOk c.push.result (c.push.new.self ≡ c.args.text.now ++ ds)) (ap (λ d. d ∷ []) c.hex_digit.ensures ∙ sym (hex_one_digit false c.args.number c.if-number-lt16.true)) c.push.ensures.ok

pub returns : goal.returns
returns t c =
    let n = c.args.number in
    subst (λ (text : List ℕ). OnOk c.push-2.result (c.push-2.new.self ≡ text))
    ((λ i. c.in_ok-append_hexadecimal.ensures i ++ c.hex_digit-2.ensures i ∷ [])
    ∙ (append_assoc c.args.text.now (digits 16 false (n / 16)) _ ∙ ap (λ ds. c.args.text.now ++ ds) (sym (hex_step n c.if-number-lt16.false c.ranges.number.fits))))
    c.push-2.ensures.ok
