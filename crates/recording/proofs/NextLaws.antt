-- The next item, or the last line, as its reader says it.
use Rattle.std.proofs.Common.{◌≡◌, ℕ, ◌+◌, ◌-◌, ◌≤◌, List, ◌++◌, length, take, drop, Option, Some, None, Result, Ok, Err, sym, ap, subst, ◌∙◌, arith}
use Rattle.std.specs.Prelude.{MatchResult}
use Rattle.std.proofs.lemmas.List.{length-append, length-drop, take-append-drop, take_at}
use Rattle.byte_grammar.specs.Language.{Begins}
use Rattle.byte_grammar.specs.tools.Walks.{left}
use Rattle.recording.specs.declared.read.Stop.{Stop}
use Rattle.recording.specs.declared.read.Stop.TheVariants as stop
use Rattle.recording.specs.Items.{Body}
use Rattle.recording.specs.tools.RecordingTexts.{IsTurn}
use Rattle.recording.specs.tools.RecordingWalk.{turn_read, form_read, item_step, first_step}
use Rattle.recording.specs.tools.NextItems.{BeginsWithFirst, BeginsWithNext, IsUnread, IsStop, bytes_left}
use Rattle.recording.specs.tools.Judged.{Gives}
use Rattle.recording.proofs.FormLaws.{meets_turn}
use Rattle.recording.proofs.WalkLaws.{Says, step_says, step_some, step_item, step_end}
use Rattle.recording.proofs.WholeLaws.{FirstSays, first_says}
use Rattle.recording.proofs.RecordingLaws.{stopped_within}

unread : (bytes : List ℕ) (n : ℕ) → turn_read bytes ≡ Err n → IsUnread bytes n
unread bytes n e =
    let m = meets_turn.err bytes n e in
    let size : length bytes ≡ length m.0 + n = omega (arith, ap (λ (y : List ℕ). length y) m.2, length-append m.0 m.1, m.3) in
    let place : length m.0 ≡ length bytes - n = omega (arith, size) in
    let first : take (length bytes - n) bytes ≡ m.0 = ap (λ (y : List ℕ). take (length bytes - n) y) m.2 ∙ take_at m.0 m.1 (length bytes - n) place in
    let count = length bytes - n + 1 in
    record {
      within = omega (arith, size);
      begins = subst (λ (y : List ℕ). Begins IsTurn y) (sym first) m.4;
      last = λ some b.
          let read : turn_read (take count bytes ++ drop count bytes) ≡ Err n = ap turn_read (take-append-drop count bytes) ∙ e in
          let far = meets_turn.far (take count bytes) b.0 (drop count bytes) b.1 b.2 in
          let long : left (turn_read (take count bytes ++ drop count bytes)) ≡ n = ap (λ (r : Result (Option Body × List ℕ) ℕ). left r) read in
          omega (arith, some, size, far, long, length-drop count bytes);
    }

-- what the reader says of what it gives
abbrev NextSays : ℕ → List ℕ → Result (Option Body × List ℕ) Stop → Type 0
NextSays last bytes (Ok x) = BeginsWithNext last x.0 x.1 bytes
NextSays last bytes (Err s) = IsStop last bytes s

pub next_says : (last : ℕ) (bytes : List ℕ) (r : Result (Option Body × List ℕ) Stop) → item_step last bytes ≡ r → NextSays last bytes r
next_says last bytes r e = at r e (subst (λ (s : Result (Option Body × List ℕ) Stop). Says last bytes (turn_read bytes) s) e (step_says last bytes))
  where
    at : (r : Result (Option Body × List ℕ) Stop) → item_step last bytes ≡ r → Says last bytes (turn_read bytes) r → NextSays last bytes r
    at (Ok (None, rest)) e t = let m = meets_turn.ok bytes None rest t in record { joined = m.1 ∙ ap (λ (y : List ℕ). y ++ rest) m.2; number = tt; allowed = tt }
    at (Ok (Some item, rest)) e t = let s = step_some last bytes item rest e in record { joined = s.0; number = s.1; allowed = s.2 }
    at (Err (stop.Left n)) e t = unread bytes n t
    at (Err (stop.TooLong n)) e t = t
    at (Err (stop.MomentFalls n)) e t = t

step_next : (last : ℕ) (next : Option Body) (rest bytes : List ℕ) → BeginsWithNext last next rest bytes → item_step last bytes ≡ Ok (next, rest)
step_next last None rest bytes b = ap (item_step last) b.joined ∙ step_end last rest
step_next last (Some item) rest bytes b = ap (item_step last) b.joined ∙ step_item last item rest b.number b.allowed

pub pair_is : (x y : Option Body × List ℕ) → ◌≡◌ {A = Result (Option Body × List ℕ) Stop} (Ok x) (Ok y) → x ≡ y
pair_is x y e = cc

no_stop : (s : Stop) (x : Option Body × List ℕ) → ◌≡◌ {A = Result (Option Body × List ℕ) Stop} (Err s) (Ok x) → ⊥
no_stop s x e = absurd (cc e)

module _ {R : Type 0} (next : R → Option Body) (rest : R → List ℕ) (last : ℕ) (bytes : List ℕ) (result : Result R Stop) (g : Gives (λ (x : R). (next x, rest x)) result (item_step last bytes)) where
  pub given_is : MatchResult result (λ x. BeginsWithNext last (next x) (rest x) bytes) (λ s. IsStop last bytes s)
  given_is = of result g
    where
      of : (result : Result R Stop) → Gives (λ (x : R). (next x, rest x)) result (item_step last bytes) → MatchResult result (λ x. BeginsWithNext last (next x) (rest x) bytes) (λ s. IsStop last bytes s)
      of (Ok x) g = next_says last bytes (Ok (next x, rest x)) g
      of (Err s) g = next_says last bytes (Err s) g

  pub only_given : (n : Option Body) (more : List ℕ) → BeginsWithNext last n more bytes → MatchResult result (λ x. (next x ≡ n) × (rest x ≡ more)) (λ _. ⊥)
  only_given n more b = of result g (step_next last n more bytes b)
    where
      of : (result : Result R Stop) → Gives (λ (x : R). (next x, rest x)) result (item_step last bytes) → item_step last bytes ≡ Ok (n, more) → MatchResult result (λ x. (next x ≡ n) × (rest x ≡ more)) (λ _. ⊥)
      of (Ok x) g e = let pair = pair_is (next x, rest x) (n, more) (sym g ∙ e) in (ap (λ (y : Option Body × List ℕ). y.0) pair, ap (λ (y : Option Body × List ℕ). y.1) pair)
      of (Err s) g e = no_stop s (n, more) (sym g ∙ e)

-- what the reader of the first item says
pub first_given : {R : Type 0} (first : R → ℕ) (rest : R → List ℕ) (text : List ℕ) (result : Result R Stop) → Gives (λ (x : R). (first x, rest x)) result (first_step text)
    → MatchResult result (λ x. BeginsWithFirst (first x) (rest x) text) (λ s. bytes_left s ≤ length text)
first_given {R} first rest text result g = of result g
  where
    says : (r : Result (ℕ × List ℕ) Stop) → first_step text ≡ r → FirstSays text (form_read text) r
    says r e = subst (λ (r : Result (ℕ × List ℕ) Stop). FirstSays text (form_read text) r) e (first_says text)

    of : (result : Result R Stop) → Gives (λ (x : R). (first x, rest x)) result (first_step text) → MatchResult result (λ x. BeginsWithFirst (first x) (rest x) text) (λ s. bytes_left s ≤ length text)
    of (Ok x) g = let s = says (Ok (first x, rest x)) g in record { joined = s.1; number = s.2 }
    of (Err (stop.Left n)) g = stopped_within text n (says (Err (stop.Left n)) g)
    of (Err (stop.TooLong n)) g = absurd (says (Err (stop.TooLong n)) g)
    of (Err (stop.MomentFalls n)) g = absurd (says (Err (stop.MomentFalls n)) g)
