-- What a Display String's readers add to a text.
use Rattle.std.proofs.Common.{◌≡◌, ℕ, zero, suc, ◌-◌, ◌<◌, true, false, length, List, [], ◌∷◌, ◌++◌, Result, Ok, Err, refl, sym, ap, ◌∙◌, append_assoc, arith}
use Rattle.std.proofs.lemmas.List.{append-nil}
use Rattle.byte_grammar.specs.Language.{starts_in}
use Rattle.byte_grammar.specs.Walk.{◌>>=◌, all_read}
use Rattle.byte_grammar.specs.tools.Walks.{turns_read, with_state}
use Rattle.byte_grammar.proofs.Loops.{state_last, state_err, state_more}
use Rattle.sfv_text.specs.Range.{is_unencoded}
use Rattle.sfv_read.specs.Class.{is_percent}
use Rattle.sfv_read.specs.declared.display_string.HexDigits.{HexDigits}
use Rattle.sfv_read.specs.tools.DisplayWalk.{any_digit, continuation, encoded_read, continuations_read, encoded_character_read, with_run, encoded_run_read, next_encoded_run_read, appended}
use Rattle.sfv_read.proofs.DisplayStrings.{runs_step, runs_shorter, no_run, some_run, run_err}

-- what was added, where something was read
pub appended_ok : (text new rest : List ℕ) (r : Result (List ℕ × List ℕ) ℕ) → appended text r ≡ Ok (new, rest) → (more : List ℕ) × (r ≡ Ok (more, rest)) × (new ≡ text ++ more)
appended_ok text new rest (Ok a) e =
    let pair : (text ++ a.0, a.1) ≡ (new, rest) = cc in
    (a.0, ap (λ (p : List ℕ × List ℕ). Ok (a.0, p.1)) pair, ap (λ (p : List ℕ × List ℕ). p.0) (sym pair))
appended_ok text new rest (Err n) e = absurd cc

pub appended_err : (text : List ℕ) (n : ℕ) (r : Result (List ℕ × List ℕ) ℕ) → appended text r ≡ Err n → r ≡ Err n
appended_err text n (Ok a) e = absurd cc
appended_err text n (Err m) e = cc

appended_more : (text : List ℕ) (b : ℕ) (r : Result (List ℕ × List ℕ) ℕ) → appended (text ++ b ∷ []) r ≡ appended text (r >>= λ cs. Ok (b ∷ cs.0, cs.1))
appended_more text b (Ok a) = ap (λ (t : List ℕ). Ok (t, a.1)) (append_assoc text (b ∷ []) a.0)
appended_more text b (Err n) = refl

-- ---- a byte more of a character

module _ (text : List ℕ) (firsts : HexDigits) (bytes : List ℕ) where
  pub continuations_more : (left b : ℕ) (rest : List ℕ) → 0 < left → encoded_read firsts any_digit bytes ≡ Ok (b, rest)
      → appended (text ++ b ∷ []) (continuations_read (left - 1) continuation rest) ≡ appended text (continuations_read left firsts bytes)
  unfolding continuations_read
  continuations_more zero b rest some e = absurd (omega (arith, some))
  continuations_more (suc n) b rest some e =
      let before : suc n - 1 ≡ n = omega arith in
      rw (before, e) (appended_more text b (continuations_read n continuation rest))

  pub continuations_err : (left n : ℕ) → 0 < left → encoded_read firsts any_digit bytes ≡ Err n → appended text (continuations_read left firsts bytes) ≡ Err n
  unfolding continuations_read
  continuations_err zero n some e = absurd (omega (arith, some))
  continuations_err (suc k) n some e = rw e refl

  pub continuations_last : (left : ℕ) → left ≡ 0 → appended text (continuations_read left firsts bytes) ≡ Ok (text, bytes)
  unfolding continuations_read
  continuations_last zero e = ap (λ (t : List ℕ). Ok (t, bytes)) (append-nil text)
  continuations_last (suc n) e = absurd (omega (arith, e))

-- ---- a run more of a Display String

module _ (text bytes : List ℕ) where
  pub run_added : (mid new rest run after : List ℕ) → appended text (encoded_character_read bytes) ≡ Ok (mid, rest) → all_read is_unencoded rest ≡ Ok (run, after) → new ≡ mid ++ run
      → appended text (encoded_run_read bytes) ≡ Ok (new, after)
  unfolding encoded_run_read
  run_added mid new rest run after e f is =
      let c = appended_ok text mid rest (encoded_character_read bytes) e in
      let joined : text ++ (c.0 ++ run) ≡ new = sym (append_assoc text c.0 run) ∙ ap (λ (t : List ℕ). t ++ run) (sym c.2) ∙ sym is in
      rw (c.1, f) (ap (λ (t : List ℕ). Ok (t, after)) joined)

  -- where a `%` comes
  module _ (some : starts_in is_percent bytes ≡ true) (total : Result (List ℕ × List ℕ) ℕ) (so_far : with_state with_run text (turns_read next_encoded_run_read bytes) ≡ total) where
    pub runs_more : (new rest : List ℕ) → appended text (encoded_run_read bytes) ≡ Ok (new, rest) → with_state with_run new (turns_read next_encoded_run_read rest) ≡ total
    runs_more new rest e =
        let c = appended_ok text new rest (encoded_run_read bytes) e in
        ap (λ (t : List ℕ). with_state with_run t (turns_read next_encoded_run_read rest)) c.2
        ∙ state_more with_run next_encoded_run_read runs_step text bytes total so_far c.0 rest (some_run bytes c.0 rest some c.1)

    pub runs_err : (n : ℕ) → appended text (encoded_run_read bytes) ≡ Err n → total ≡ Err n
    runs_err n e = state_err with_run next_encoded_run_read runs_step text bytes total so_far n (run_err bytes n some (appended_err text n (encoded_run_read bytes) e))

  pub runs_less : (new rest : List ℕ) → starts_in is_percent bytes ≡ true → appended text (encoded_run_read bytes) ≡ Ok (new, rest) → length rest < length bytes
  runs_less new rest some e =
      let c = appended_ok text new rest (encoded_run_read bytes) e in
      runs_shorter bytes c.0 rest (some_run bytes c.0 rest some c.1)

  pub runs_last : (total : Result (List ℕ × List ℕ) ℕ) → with_state with_run text (turns_read next_encoded_run_read bytes) ≡ total → starts_in is_percent bytes ≡ false → total ≡ Ok (text, bytes)
  runs_last total so_far none = state_last with_run next_encoded_run_read runs_step text bytes total so_far bytes (no_run bytes none)
