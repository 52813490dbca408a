-- The readers that judge limits and the order of moments, beside those of the form.
use Rattle.std.proofs.Common.{cond, ltb, ◌≡◌, ℕ, ◌≤◌, ◌<◌, Bool, true, false, List, ◌++◌, length, Option, Some, None, Result, Ok, Err, refl, sym, ap, subst, ◌∙◌, append_assoc, arith, codes}
use Rattle.std.proofs.lemmas.Bool.{ltb-false, ltb-true, lt-ltb, le-ltb}
use Rattle.std.specs.Fmt.{decimal}
use Rattle.byte_grammar.specs.Walk.{◌>>=◌}
use Rattle.byte_grammar.proofs.Laws.{any_next}
use Rattle.byte_grammar.proofs.TurnLaws.{shorter}
use Rattle.recording.specs.declared.limits.TheConstants.{MAX_ITEM_BYTES}
use Rattle.recording.specs.declared.word.Word.{Word}
use Rattle.recording.specs.declared.word.Word.TheVariants as word
use Rattle.recording.specs.declared.read.Stop.{Stop}
use Rattle.recording.specs.declared.read.Stop.TheVariants as stop
use Rattle.byte_grammar.specs.Numbers.{number_line, IsNumber}
use Rattle.recording.specs.Items.{Kind, message, script, Body, moment, stored, kind_word, body_text, number_of}
use Rattle.recording.specs.tools.Running.{IsAllowedAfter, IsLongAfter, IsFallingAfter}
use Rattle.byte_grammar.specs.tools.CountedWalk.{counted_read}
use Rattle.recording.specs.tools.RecordingWalk.{word_text, word_read, number_line_read, stored_read, body_read, turn_read, then_step, mapped_step, moment_step, stored_step, body_step, item_step}
use Rattle.recording.proofs.WordLaws.{meets_word}
use Rattle.recording.proofs.NumberLaws.{meets_number_line}
use Rattle.byte_grammar.proofs.CountedLaws.{meets_counted}
use Rattle.recording.proofs.FormLaws.{meets_turn, grows}

-- ---- what a step says

-- the bytes begin with such a line
abbrev pub BeginsWith : (ℕ → List ℕ → Type 0) → ℕ → List ℕ → Type 0
BeginsWith IsSuch last bytes = (line more : List ℕ) × (bytes ≡ line ++ more) × IsSuch last line

abbrev pub Says : ℕ → List ℕ → Result (Option Body × List ℕ) ℕ → Result (Option Body × List ℕ) Stop → Type 0
Says last bytes turn (Ok (None, rest)) = turn ≡ Ok (None, rest)
Says last bytes turn (Ok (Some item, rest)) = (turn ≡ Ok (Some item, rest)) × IsAllowedAfter last item
Says last bytes turn (Err (stop.Left n)) = turn ≡ Err n
Says last bytes turn (Err (stop.TooLong n)) = (n ≡ length bytes) × BeginsWith IsLongAfter last bytes
Says last bytes turn (Err (stop.MomentFalls n)) = (n ≡ length bytes) × BeginsWith IsFallingAfter last bytes

-- a word, and the line of a number after it, come first
line_first : (bytes rest after : List ℕ) (w : Word) (n : ℕ) → word_read bytes ≡ Ok (w, rest) → number_line_read rest ≡ Ok (n, after) → (bytes ≡ number_line (word_text w) n ++ after) × IsNumber n
line_first bytes rest after w n e f =
    let s = meets_word.ok bytes w rest e in
    let t = meets_number_line.ok rest n after f in
    (cc (s.1, s.2, t.1, t.2.0, append_assoc (word_text w) (decimal n ++ codes "\n") after), t.2.1)

moment_says : (last : ℕ) (bytes rest : List ℕ) → word_read bytes ≡ Ok (word.At, rest) → Says last bytes (body_read word.At rest) (body_step last (length bytes) word.At rest)
unfolding body_read body_step moment_step
moment_says last bytes rest e = go (number_line_read rest) refl
  where
    judged : (b : Bool) (n : ℕ) (after : List ℕ) → number_line_read rest ≡ Ok (n, after) → ltb n last ≡ b
        → Says last bytes (Ok (Some (moment n), after)) (mapped_step (λ (n : ℕ × List ℕ). (Some (moment n.0), n.1)) (cond b (Err (stop.MomentFalls (length bytes))) (Ok (n, after))))
    judged true n after f is =
        let l = line_first bytes rest after word.At n e f in
        (refl, (number_line (codes "at ") n, after, l.0, record { seconds = n; is = refl; number = l.1; falls = ltb-true _ _ is }))
    judged false n after f is = (refl, ltb-false _ _ is)

    go : (r : Result (ℕ × List ℕ) ℕ) → number_line_read rest ≡ r
        → Says last bytes (r >>= λ n. Ok (Some (moment n.0), n.1)) (mapped_step (λ (n : ℕ × List ℕ). (Some (moment n.0), n.1)) (then_step r (λ n. cond (ltb n.0 last) (Err (stop.MomentFalls (length bytes))) (Ok n))))
    go (Err n) f = refl
    go (Ok (n, after)) f = judged (ltb n last) n after f refl

abbrev put : Kind → List ℕ × List ℕ → Option Body × List ℕ
put kind d = (Some (stored kind d.0), d.1)

stored_says : (kind : Kind) (w : Word) (last : ℕ) (bytes rest : List ℕ) → word_text w ≡ kind_word kind → word_read bytes ≡ Ok (w, rest)
    → Says last bytes (stored_read rest >>= λ d. Ok (put kind d)) (mapped_step (put kind) (stored_step (length bytes) rest))
unfolding stored_read stored_step
stored_says kind w last bytes rest same e = go (number_line_read rest) refl
  where
    text : (n : ℕ) (after : List ℕ) → n ≤ MAX_ITEM_BYTES → (r : Result (List ℕ × List ℕ) ℕ) → counted_read n after ≡ r → Says last bytes (r >>= λ d. Ok (put kind d)) (mapped_step (put kind) (then_step r Ok))
    text n after fits (Err k) f = refl
    text n after fits (Ok (d, end)) f = let s = (meets_counted n).ok after d end f in (refl, omega (arith, fits, s.2.1))

    judged : (b : Bool) (n : ℕ) (after : List ℕ) → number_line_read rest ≡ Ok (n, after) → ltb MAX_ITEM_BYTES n ≡ b
        → Says last bytes (counted_read n after >>= λ d. Ok (put kind d)) (mapped_step (put kind) (cond b (Err (stop.TooLong (length bytes))) (then_step (counted_read n after) Ok)))
    judged true n after f is =
        let l = line_first bytes rest after w n e f in
        (refl, (number_line (kind_word kind) n, after, l.0 ∙ ap (λ (y : List ℕ). number_line y n ++ after) same, record { kind = kind; size = n; is = refl; number = l.1; long = ltb-true _ _ is }))
    judged false n after f is = text n after (ltb-false _ _ is) (counted_read n after) refl

    go : (r : Result (ℕ × List ℕ) ℕ) → number_line_read rest ≡ r
        → Says last bytes ((r >>= λ n. counted_read n.0 n.1) >>= λ d. Ok (put kind d)) (mapped_step (put kind) (then_step r (λ n. cond (ltb MAX_ITEM_BYTES n.0) (Err (stop.TooLong (length bytes))) (then_step (counted_read n.0 n.1) Ok))))
    go (Err n) f = refl
    go (Ok (n, after)) f = judged (ltb MAX_ITEM_BYTES n) n after f refl

body_says : (w : Word) (last : ℕ) (bytes rest : List ℕ) → word_read bytes ≡ Ok (w, rest) → Says last bytes (body_read w rest) (body_step last (length bytes) w rest)
unfolding body_read body_step
body_says word.End last bytes rest e = refl
body_says word.At last bytes rest e = moment_says last bytes rest e
body_says (word.Message role) last bytes rest e = stored_says (message role) (word.Message role) last bytes rest refl e
body_says word.Script last bytes rest e = stored_says script word.Script last bytes rest refl e

pub step_says : (last : ℕ) (bytes : List ℕ) → Says last bytes (turn_read bytes) (item_step last bytes)
unfolding turn_read item_step
step_says last bytes = go (word_read bytes) refl
  where
    go : (r : Result (Word × List ℕ) ℕ) → word_read bytes ≡ r → Says last bytes (r >>= λ w. body_read w.0 w.1) (then_step r (λ w. body_step last (length bytes) w.0 w.1))
    go (Err n) e = refl
    go (Ok (w, rest)) e = body_says w last bytes rest e

-- an item takes bytes
pub step_some : (last : ℕ) (bytes : List ℕ) (item : Body) (rest : List ℕ) → item_step last bytes ≡ Ok (Some item, rest) → (bytes ≡ body_text item ++ rest) × IsNumber (number_of item) × IsAllowedAfter last item × (length rest < length bytes)
step_some last bytes item rest e =
    let says = subst (λ (s : Result (Option Body × List ℕ) Stop). Says last bytes (turn_read bytes) s) e (step_says last bytes) in
    let s = meets_turn.ok bytes (Some item) rest says.0 in
    (s.1 ∙ ap (λ (y : List ℕ). y ++ rest) s.2.0, s.2.1, says.1, shorter meets_turn grows bytes item rest says.0)

-- ---- a step over its text

at_word : (last : ℕ) (bytes rest : List ℕ) (w : Word) → word_read bytes ≡ Ok (w, rest) → item_step last bytes ≡ body_step last (length bytes) w rest
unfolding item_step
at_word last bytes rest w e = ap (λ (r : Result (Word × List ℕ) ℕ). then_step r (λ w. body_step last (length bytes) w.0 w.1)) e

word_of : Kind → Word
word_of (message role) = word.Message role
word_of script = word.Script

word_of_text : (kind : Kind) → word_text (word_of kind) ≡ kind_word kind
unfolding word_of
word_of_text (message role) = refl
word_of_text script = refl

stored_at : (kind : Kind) (last line : ℕ) (rest : List ℕ) → body_step last line (word_of kind) rest ≡ mapped_step (put kind) (stored_step line rest)
unfolding word_of body_step
stored_at (message role) last line rest = refl
stored_at script last line rest = refl

-- the word of a line is read
word_first : (w : Word) (n : ℕ) (more : List ℕ) → word_read (number_line (word_text w) n ++ more) ≡ Ok (w, (decimal n ++ codes "\n") ++ more)
word_first w n more =
    ap word_read (append_assoc (word_text w) (decimal n ++ codes "\n") more) ∙ meets_word.only (word_text w) ((decimal n ++ codes "\n") ++ more) w refl (any_next ((decimal n ++ codes "\n") ++ more))

number_first : (n : ℕ) (more : List ℕ) → IsNumber n → number_line_read ((decimal n ++ codes "\n") ++ more) ≡ Ok (n, more)
number_first n more is = meets_number_line.only (decimal n ++ codes "\n") more n (refl, is) (any_next more)

moment_at : (last line n : ℕ) (rest more : List ℕ) → number_line_read rest ≡ Ok (n, more) → body_step last line word.At rest ≡ mapped_step (λ (n : ℕ × List ℕ). (Some (moment n.0), n.1)) (cond (ltb n last) (Err (stop.MomentFalls line)) (Ok (n, more)))
unfolding body_step moment_step
moment_at last line n rest more e =
    ap (λ (r : Result (ℕ × List ℕ) ℕ). mapped_step (λ (n : ℕ × List ℕ). (Some (moment n.0), n.1)) (then_step r (λ n. cond (ltb n.0 last) (Err (stop.MomentFalls line)) (Ok n)))) e

size_at : (line n : ℕ) (rest more : List ℕ) → number_line_read rest ≡ Ok (n, more) → stored_step line rest ≡ cond (ltb MAX_ITEM_BYTES n) (Err (stop.TooLong line)) (then_step (counted_read n more) Ok)
unfolding stored_step
size_at line n rest more e =
    ap (λ (r : Result (ℕ × List ℕ) ℕ). then_step r (λ n. cond (ltb MAX_ITEM_BYTES n.0) (Err (stop.TooLong line)) (then_step (counted_read n.0 n.1) Ok))) e

pub moment_line : (last n : ℕ) (more : List ℕ) → IsNumber n → item_step last (number_line (codes "at ") n ++ more) ≡ mapped_step (λ (n : ℕ × List ℕ). (Some (moment n.0), n.1)) (cond (ltb n last) (Err (stop.MomentFalls (length (number_line (codes "at ") n ++ more)))) (Ok (n, more)))
moment_line last n more is =
    at_word last (number_line (codes "at ") n ++ more) ((decimal n ++ codes "\n") ++ more) word.At (word_first word.At n more)
    ∙ moment_at last (length (number_line (codes "at ") n ++ more)) n ((decimal n ++ codes "\n") ++ more) more (number_first n more is)

size_line : (kind : Kind) (last n : ℕ) (more : List ℕ) → IsNumber n → item_step last (number_line (kind_word kind) n ++ more) ≡ mapped_step (put kind) (cond (ltb MAX_ITEM_BYTES n) (Err (stop.TooLong (length (number_line (kind_word kind) n ++ more)))) (then_step (counted_read n more) Ok))
size_line kind last n more is =
    let bytes : List ℕ = number_line (kind_word kind) n ++ more in
    let rest : List ℕ = (decimal n ++ codes "\n") ++ more in
    let first : word_read bytes ≡ Ok (word_of kind, rest) = ap (λ (y : List ℕ). word_read (number_line y n ++ more)) (sym (word_of_text kind)) ∙ word_first (word_of kind) n more in
    at_word last bytes rest (word_of kind) first
    ∙ stored_at kind last (length bytes) rest
    ∙ ap (mapped_step (put kind)) (size_at (length bytes) n rest more (number_first n more is))

pub step_item : (last : ℕ) (item : Body) (more : List ℕ) → IsNumber (number_of item) → IsAllowedAfter last item → item_step last (body_text item ++ more) ≡ Ok (Some item, more)
step_item last (moment n) more is allowed =
    moment_line last n more is ∙ ap (λ (b : Bool). mapped_step (λ (n : ℕ × List ℕ). (Some (moment n.0), n.1)) (cond b (Err (stop.MomentFalls (length (number_line (codes "at ") n ++ more)))) (Ok (n, more)))) (le-ltb n last allowed)
step_item last (stored kind d) more is allowed =
    let n = length d in
    let after : List ℕ = (d ++ codes "\n") ++ more in
    let text : counted_read n after ≡ Ok (d, more) = (meets_counted n).only (d ++ codes "\n") more d (refl, refl) (any_next more) in
    ap (item_step last) (append_assoc (number_line (kind_word kind) n) (d ++ codes "\n") more)
    ∙ size_line kind last n after is
    ∙ ap (λ (b : Bool). mapped_step (put kind) (cond b (Err (stop.TooLong (length (number_line (kind_word kind) n ++ after)))) (then_step (counted_read n after) Ok))) (le-ltb MAX_ITEM_BYTES n allowed)
    ∙ ap (λ (r : Result (List ℕ × List ℕ) ℕ). mapped_step (put kind) (then_step r Ok)) text

pub step_end : (last : ℕ) (more : List ℕ) → item_step last (codes "end\n" ++ more) ≡ Ok (None, more)
unfolding body_step
step_end last more = at_word last (codes "end\n" ++ more) more word.End (meets_word.only (codes "end\n") more word.End refl (any_next more))

pub step_long : (last : ℕ) (line more : List ℕ) → IsLongAfter last line → item_step last (line ++ more) ≡ Err (stop.TooLong (length (line ++ more)))
step_long last line more h =
    let bytes : List ℕ = number_line (kind_word h.kind) h.size ++ more in
    let same : line ++ more ≡ bytes = ap (λ (y : List ℕ). y ++ more) h.is in
    ap (item_step last) same
    ∙ size_line h.kind last h.size more h.number
    ∙ ap (λ (b : Bool). mapped_step (put h.kind) (cond b (Err (stop.TooLong (length bytes))) (then_step (counted_read h.size more) Ok))) (lt-ltb MAX_ITEM_BYTES h.size h.long)
    ∙ ap (λ (y : List ℕ). Err (stop.TooLong (length y))) (sym same)

pub step_falls : (last : ℕ) (line more : List ℕ) → IsFallingAfter last line → item_step last (line ++ more) ≡ Err (stop.MomentFalls (length (line ++ more)))
step_falls last line more h =
    let bytes : List ℕ = number_line (codes "at ") h.seconds ++ more in
    let same : line ++ more ≡ bytes = ap (λ (y : List ℕ). y ++ more) h.is in
    ap (item_step last) same
    ∙ moment_line last h.seconds more h.number
    ∙ ap (λ (b : Bool). mapped_step (λ (n : ℕ × List ℕ). (Some (moment n.0), n.1)) (cond b (Err (stop.MomentFalls (length bytes))) (Ok (h.seconds, more)))) (lt-ltb h.seconds last h.falls)
    ∙ ap (λ (y : List ℕ). Err (stop.MomentFalls (length y))) (sym same)
