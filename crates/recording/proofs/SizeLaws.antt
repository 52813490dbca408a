-- How many bytes an item has, and how many are held where nothing is found.
use Rattle.std.proofs.Common.{◌≡◌, ℕ, ◌+◌, ◌≤◌, Bool, List, ◌++◌, length, take, drop, subst, Option, Some, None, Result, Ok, Err, inl, inr, refl, sym, ap, ◌∙◌, append_assoc, arith, codes}
use Rattle.std.proofs.Math.Seq.{take-append_seam}
use Rattle.std.proofs.lemmas.Bool.{cases_lt}
use Rattle.std.proofs.lemmas.Fmt.{length-decimal-le}
use Rattle.std.proofs.lemmas.List.{length-append, take-append-drop, take-append-le}
use Rattle.std.specs.Fmt.{decimal}
use Rattle.byte_grammar.proofs.Laws.{Meets}
use Rattle.recording.specs.declared.item.Role.TheVariants.{Request, Response, Related}
use Rattle.recording.specs.declared.limits.TheConstants.{MAX_ITEM_BYTES}
use Rattle.recording.specs.declared.read.Stop.{Stop}
use Rattle.recording.specs.declared.read.Stop.TheVariants as stop
use Rattle.byte_grammar.specs.Numbers.{number_line, IsNumber}
use Rattle.recording.specs.Items.{Body, moment, stored, Kind, message, script, kind_word, body_text, number_of}
use Rattle.recording.specs.tools.Running.{IsAllowedAfter}
use Rattle.byte_grammar.specs.tools.CountedTexts.{IsLiteral}
use Rattle.recording.specs.tools.RecordingTexts.{IsTurn}
use Rattle.byte_grammar.specs.tools.CountedWalk.{literal_read}
use Rattle.recording.specs.tools.RecordingWalk.{number_line_read, turn_read, then_step, item_step, first_step}
use Rattle.byte_grammar.proofs.LiteralLaws.{meets_literal}
use Rattle.recording.proofs.NumberLaws.{meets_number_line}
use Rattle.recording.proofs.FormLaws.{meets_turn}
use Rattle.recording.proofs.WalkLaws.{Says, step_says, step_long}

-- ---- items

pub word_short : (kind : Kind) → length (kind_word kind) ≤ 9
word_short (message Request) = omega arith
word_short (message Response) = omega arith
word_short (message Related) = omega arith
word_short script = omega arith

number_short : (n : ℕ) → IsNumber n → length (decimal n ++ codes "\n") ≤ 16
number_short n is = omega (arith, length-append (decimal n) (codes "\n"), length-decimal-le 15 n (omega arith) is (omega (arith, is)))

line_short : (word : List ℕ) (n : ℕ) → length word ≤ 9 → IsNumber n → length (number_line word n) ≤ 25
line_short word n few is = omega (arith, few, length-append word (decimal n ++ codes "\n"), number_short n is)

stored_size : (kind : Kind) (d : List ℕ) → IsNumber (length d) → length (body_text (stored kind d)) ≤ 26 + length d
stored_size kind d is =
    omega (arith, line_short (kind_word kind) (length d) (word_short kind) is, length-append (number_line (kind_word kind) (length d)) (d ++ codes "\n"), length-append d (codes "\n"))

-- an item that is allowed has not too many bytes beside its line
pub body_short : (last : ℕ) (item : Body) → IsNumber (number_of item) → IsAllowedAfter last item → length (body_text item) ≤ MAX_ITEM_BYTES + 32
body_short last (moment n) is allowed = omega (arith, line_short (codes "at ") n (omega arith) is)
body_short last (stored kind d) is allowed = omega (arith, stored_size kind d is, allowed)

-- ---- prefixes

-- of two prefixes of a text the longer one begins with the shorter one
pub begins_with : (a b c d : List ℕ) → a ++ b ≡ c ++ d → length c ≤ length a → a ≡ c ++ drop (length c) a
begins_with a b c d e short =
    let first : take (length c) a ≡ c = sym (take-append-le (length c) a b short) ∙ ap (take (length c)) e ∙ take-append_seam c d in
    sym (take-append-drop (length c) a) ∙ ap (λ (y : List ℕ). y ++ drop (length c) a) first

-- ---- what is held

-- where a reader stops at the end, the bytes are no more than its language has
err_short : {V : Type 0} {L : List ℕ → V → Type 0} {F : V → ℕ → Bool} {p : List ℕ → Result (V × List ℕ) ℕ} → Meets L F p → (most : ℕ)
    → ((x : List ℕ) (v : V) → L x v → length x ≤ most) → (bytes : List ℕ) → p bytes ≡ Err 0 → length bytes ≤ most
err_short m most few bytes e =
    let w = m.err bytes 0 e in
    let b = w.4 in
    omega (arith, few (w.0 ++ b.0) b.1 b.2, length-append w.0 b.0, ap (λ (y : List ℕ). length y) w.2, length-append w.0 w.1, w.3)

-- bytes that begin an item, and would have to be one that is allowed
item_short : (last : ℕ) (bytes x rest more : List ℕ) (item : Body) → item_step last bytes ≡ Err (stop.Left 0) → bytes ≡ x ++ rest → x ++ more ≡ body_text item → IsNumber (number_of item) → length x ≤ MAX_ITEM_BYTES + 26
item_short last bytes x rest more (moment n) e is whole number = omega (arith, ap (λ (y : List ℕ). length y) whole, length-append x more, line_short (codes "at ") n (omega arith) number)
item_short last bytes x rest more (stored kind d) e is whole number =
    let line : List ℕ = number_line (kind_word kind) (length d) in
    let size = ap (λ (y : List ℕ). length y) whole in
    elim (cases_lt MAX_ITEM_BYTES (length d)) [
      | inl long ↦ elim (cases_lt (length x) (length line)) [
        | inl short ↦ omega (arith, short, line_short (kind_word kind) (length d) (word_short kind) number)
        | inr all ↦
            let first : x ≡ line ++ drop (length line) x = begins_with x more line (d ++ codes "\n") whole all in
            let text : bytes ≡ line ++ (drop (length line) x ++ rest) = is ∙ ap (λ (y : List ℕ). y ++ rest) first ∙ append_assoc line (drop (length line) x) rest in
            let stops = sym e ∙ ap (item_step last) text ∙ step_long last line (drop (length line) x ++ rest) (record { kind = kind; size = length d; is = refl; number = number; long = long }) in
            absurd (cc stops)
      ]
      | inr fits ↦ omega (arith, size, length-append x more, stored_size kind d number, fits)
    ]

turn_short : (last : ℕ) (bytes x rest more : List ℕ) (o : Option Body) → item_step last bytes ≡ Err (stop.Left 0) → bytes ≡ x ++ rest → IsTurn (x ++ more) o → length x ≤ MAX_ITEM_BYTES + 26
turn_short last bytes x rest more None e is t = omega (arith, ap (λ (y : List ℕ). length y) t, length-append x more)
turn_short last bytes x rest more (Some item) e is t = item_short last bytes x rest more item e is t.0 t.1

pub next_short : (last : ℕ) (bytes : List ℕ) → item_step last bytes ≡ Err (stop.Left 0) → length bytes ≤ MAX_ITEM_BYTES + 32
next_short last bytes e =
    let stops : turn_read bytes ≡ Err 0 = subst (λ (s : Result (Option Body × List ℕ) Stop). Says last bytes (turn_read bytes) s) e (step_says last bytes) in
    let w = meets_turn.err bytes 0 stops in
    omega (arith, turn_short last bytes w.0 w.1 w.4.0 w.4.1 e w.2 w.4.2, ap (λ (y : List ℕ). length y) w.2, length-append w.0 w.1, w.3)

literal_few : (t x v : List ℕ) → IsLiteral t x v → length x ≤ length t
literal_few t x v l = omega (arith, ap (λ (y : List ℕ). length y) l.0)

pub first_short : (bytes : List ℕ) → first_step bytes ≡ Err (stop.Left 0) → length bytes ≤ MAX_ITEM_BYTES + 32
unfolding first_step
first_short bytes e = go (literal_read (codes "hms-recording 1\n") bytes) refl e
  where
    number : (l after : List ℕ) → length bytes ≤ 16 + length l → length l ≤ 3 + length after → (r : Result (ℕ × List ℕ) ℕ) → number_line_read after ≡ r
        → then_step r Ok ≡ Err (stop.Left 0) → length bytes ≤ MAX_ITEM_BYTES + 32
    number l after a b (Ok x) f e = absurd (cc e)
    number l after a b (Err n) f e =
        let none : n ≡ 0 = cc e in
        let few : length after ≤ 16 = err_short meets_number_line 16 (λ x n t. omega (arith, number_short n t.1, ap (λ (y : List ℕ). length y) t.0)) after (f ∙ ap (λ (n : ℕ). Err n) none) in
        omega (arith, a, b, few)

    at_word : (l : List ℕ) → length bytes ≤ 16 + length l → (r : Result (List ℕ × List ℕ) ℕ) → literal_read (codes "at ") l ≡ r
        → then_step r (λ a. then_step (number_line_read a.1) Ok) ≡ Err (stop.Left 0) → length bytes ≤ MAX_ITEM_BYTES + 32
    at_word l a (Err n) f e =
        let none : n ≡ 0 = cc e in
        omega (arith, a, err_short (meets_literal (codes "at ")) 3 (literal_few (codes "at ")) l (f ∙ ap (λ (n : ℕ). Err n) none))
    at_word l a (Ok (v, after)) f e =
        let w = (meets_literal (codes "at ")).ok l v after f in
        number l after a (omega (arith, ap (λ (y : List ℕ). length y) w.1, length-append w.0 after, ap (λ (y : List ℕ). length y) w.2.0)) (number_line_read after) refl e

    go : (r : Result (List ℕ × List ℕ) ℕ) → literal_read (codes "hms-recording 1\n") bytes ≡ r
        → then_step r (λ l. then_step (literal_read (codes "at ") l.1) (λ a. then_step (number_line_read a.1) Ok)) ≡ Err (stop.Left 0) → length bytes ≤ MAX_ITEM_BYTES + 32
    go (Err n) f e =
        let none : n ≡ 0 = cc e in
        omega (arith, err_short (meets_literal (codes "hms-recording 1\n")) 16 (literal_few (codes "hms-recording 1\n")) bytes (f ∙ ap (λ (n : ℕ). Err n) none))
    go (Ok (v, l)) f e =
        let w = (meets_literal (codes "hms-recording 1\n")).ok bytes v l f in
        at_word l (omega (arith, ap (λ (y : List ℕ). length y) w.1, length-append w.0 l, ap (λ (y : List ℕ). length y) w.2.0)) (literal_read (codes "at ") l) refl e
