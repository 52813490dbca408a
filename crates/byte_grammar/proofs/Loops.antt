-- Turn after turn, as a loop takes them.
use Rattle.std.proofs.Common.{◌≡◌, ℕ, List, [], ◌∷◌, ◌++◌, Option, Some, None, Result, Ok, Err, refl, sym, ap, ◌∙◌, append_assoc}
use Rattle.std.proofs.lemmas.List.{append-nil}
use Rattle.byte_grammar.specs.Walk.{◌>>=◌}
use Rattle.byte_grammar.specs.tools.Walks.{IsLoop, with_turns, turns_read, with_prefix, with_state}

module _ {V : Type 0} (p : List ℕ → Result (Option V × List ℕ) ℕ) (step : IsLoop p) (prefix : List V) (rest : List ℕ) (total : Result (List V × List ℕ) ℕ)
    (so_far : with_prefix prefix (turns_read p rest) ≡ total) where
  pub loop_last : (after : List ℕ) → p rest ≡ Ok (None, after) → total ≡ Ok (prefix, after)
  loop_last after e = sym so_far ∙ ap (with_prefix prefix) (step rest ∙ ap (λ (r : Result (Option V × List ℕ) ℕ). r >>= λ a. with_turns a.0 a.1 (turns_read p a.1)) e) ∙ ap (λ (vs : List V). Ok (vs, after)) (append-nil prefix)

  pub loop_err : (n : ℕ) → p rest ≡ Err n → total ≡ Err n
  loop_err n e = sym so_far ∙ ap (with_prefix prefix) (step rest ∙ ap (λ (r : Result (Option V × List ℕ) ℕ). r >>= λ a. with_turns a.0 a.1 (turns_read p a.1)) e)

  regroup : (v : V) (r : Result (List V × List ℕ) ℕ) → with_prefix (prefix ++ v ∷ []) r ≡ with_prefix prefix (r >>= λ b. Ok (v ∷ b.0, b.1))
  regroup v (Ok b) = ap (λ (vs : List V). Ok (vs, b.1)) (append_assoc prefix (v ∷ []) b.0)
  regroup v (Err n) = refl

  pub loop_more : (v : V) (after : List ℕ) → p rest ≡ Ok (Some v, after) → with_prefix (prefix ++ v ∷ []) (turns_read p after) ≡ total
  loop_more v after e = regroup v (turns_read p after) ∙ sym (ap (with_prefix prefix) (step rest ∙ ap (λ (r : Result (Option V × List ℕ) ℕ). r >>= λ a. with_turns a.0 a.1 (turns_read p a.1)) e)) ∙ so_far

pub loop_first : {V : Type 0} (r : Result (List V × List ℕ) ℕ) → with_prefix [] r ≡ r
loop_first (Ok b) = refl
loop_first (Err n) = refl

-- a turn whose value is known
pub some_next : {V : Type 0} (r : Result (V × List ℕ) ℕ) (o p : V) (after : List ℕ) → r ≡ Ok (o, after) → o ≡ p → r ≡ Ok (p, after)
some_next {V} r o p after e is = e ∙ ap (λ (q : V). Ok (q, after)) is

-- ---- the same, where each turn changes a state

pub state_cons : {S V : Type 0} (f : S → V → S) (s : S) (v : V) (r : Result (List V × List ℕ) ℕ) → with_state f (f s v) r ≡ with_state f s (r >>= λ b. Ok (v ∷ b.0, b.1))
state_cons f s v (Ok b) = refl
state_cons f s v (Err n) = refl

module _ {S V : Type 0} (f : S → V → S) (p : List ℕ → Result (Option V × List ℕ) ℕ) (step : IsLoop p) (s : S) (rest : List ℕ) (total : Result (S × List ℕ) ℕ)
    (so_far : with_state f s (turns_read p rest) ≡ total) where
  pub state_last : (after : List ℕ) → p rest ≡ Ok (None, after) → total ≡ Ok (s, after)
  state_last after e = sym so_far ∙ ap (with_state f s) (step rest ∙ ap (λ (r : Result (Option V × List ℕ) ℕ). r >>= λ a. with_turns a.0 a.1 (turns_read p a.1)) e)

  pub state_err : (n : ℕ) → p rest ≡ Err n → total ≡ Err n
  state_err n e = sym so_far ∙ ap (with_state f s) (step rest ∙ ap (λ (r : Result (Option V × List ℕ) ℕ). r >>= λ a. with_turns a.0 a.1 (turns_read p a.1)) e)

  pub state_more : (v : V) (after : List ℕ) → p rest ≡ Ok (Some v, after) → with_state f (f s v) (turns_read p after) ≡ total
  state_more v after e = state_cons f s v (turns_read p after) ∙ sym (ap (with_state f s) (step rest ∙ ap (λ (r : Result (Option V × List ℕ) ℕ). r >>= λ a. with_turns a.0 a.1 (turns_read p a.1)) e)) ∙ so_far
