use Rattle.std.proofs.Common.{◌≡◌, ◌<◌, ◌^◌, ◌∙◌, ◌+◌, ℕ, List, ap, arith, get_or, length, sym, subst, take}
use Rattle.std.proofs.lemmas.List.{take_all}
use Rattle.std.specs.Str.Parse.{digits_value}
use Rattle.command_options.proofs.Moments.{digit_here, is_below, more_below, value_more}
use Rattle.command_options.proofs.options.number_of.Goals as goal

pub overflow_sub-byte : goal.overflow_sub-byte
overflow_sub-byte c =
    let word = c.args.word.now in
    let same = c.as_bytes-bytes.ensures.value in
    let lt = subst (λ (ws : List ℕ). c.loop-byte.byte-index < length ws) same c.loop-byte-test.true in
    omega (arith, ap (λ (ws : List ℕ). get_or ws c.loop-byte.byte-index 0) same, digit_here word c.requires c.loop-byte.byte-index lt)

pub overflow_mul-number : goal.overflow_mul-number
overflow_mul-number c =
    let word = c.args.word.now in
    let same = c.as_bytes-bytes.ensures.value in
    let lt = subst (λ (ws : List ℕ). c.loop-byte.byte-index < length ws) same c.loop-byte-test.true in
    let value : c.loop-byte.number ≡ digits_value 10 (take c.loop-byte.byte-index word) = c.loop-byte.invariant ∙ ap (λ (ws : List ℕ). digits_value 10 (take c.loop-byte.byte-index ws)) same in
    omega (arith, value, more_below word c.requires c.loop-byte.byte-index lt)

pub overflow_add-number : goal.overflow_add-number
overflow_add-number c =
    let word = c.args.word.now in
    let same = c.as_bytes-bytes.ensures.value in
    let lt = subst (λ (ws : List ℕ). c.loop-byte.byte-index < length ws) same c.loop-byte-test.true in
    let value : c.loop-byte.number ≡ digits_value 10 (take c.loop-byte.byte-index word) = c.loop-byte.invariant ∙ ap (λ (ws : List ℕ). digits_value 10 (take c.loop-byte.byte-index ws)) same in
    omega (arith, value, c.from.ensures, ap (λ (ws : List ℕ). get_or ws c.loop-byte.byte-index 0) same, more_below word c.requires c.loop-byte.byte-index lt)

pub loop-byte-preserved : goal.loop-byte-preserved
loop-byte-preserved c =
    let word = c.args.word.now in
    let same = c.as_bytes-bytes.ensures.value in
    let index = c.loop-byte.byte-index in
    let lt = subst (λ (ws : List ℕ). index < length ws) same c.loop-byte-test.true in
    let value : c.loop-byte.number ≡ digits_value 10 (take index word) = c.loop-byte.invariant ∙ ap (λ (ws : List ℕ). digits_value 10 (take index ws)) same in
    let more = value_more word c.requires index lt in
    omega (arith, value, more, c.from.ensures, ap (λ (ws : List ℕ). get_or ws index 0) same, ap (λ (ws : List ℕ). digits_value 10 (take (index + 1) ws)) same)

pub returns-clause-value : goal.returns-clause-value
returns-clause-value c =
    let bytes = c.as_bytes-bytes.result.now in
    c.loop-byte.invariant ∙ ap (digits_value 10) (take_all c.loop-byte.byte-index bytes c.loop-byte-test.false ∙ c.as_bytes-bytes.ensures.value)

pub returns-clause-timely : goal.returns-clause-timely
returns-clause-timely c =
    let bytes = c.as_bytes-bytes.result.now in
    let value : c.loop-byte.number ≡ digits_value 10 c.args.word.now = c.loop-byte.invariant ∙ ap (digits_value 10) (take_all c.loop-byte.byte-index bytes c.loop-byte-test.false ∙ c.as_bytes-bytes.ensures.value) in
    subst (λ (n : ℕ). n < 10 ^ 15) (sym value) (is_below c.args.word.now c.requires)
