-- Laws of readers that the first byte chooses.
use Rattle.std.proofs.Common.{eqb, ◌||◌, cond, not, ◌≡◌, ℕ, suc, ◌≤◌, Bool, true, false, List, [], ◌∷◌, ◌++◌, length, Option, Some, None, Result, Ok, Err, refl, sym, ap, subst, ◌∙◌, arith, inl, inr, ◌⊎◌}
use Rattle.std.proofs.lemmas.Bool.{eqb-true}
use Rattle.std.specs.List.{list_all, list_any}
use Rattle.byte_grammar.specs.Language.{starts_in, Begins, IsRun}
use Rattle.byte_grammar.specs.tools.Languages.{Among, Optional}
use Rattle.byte_grammar.specs.Walk.{◌>>=◌}
use Rattle.byte_grammar.specs.Classes.{is_one_of}
use Rattle.byte_grammar.specs.tools.Walks.{left, Next, kind_read, first_kind, pick_read, optional_if, optional_read, choose_read}
use Rattle.byte_grammar.proofs.Laws.{Meets, left_less, bind_ok, bind_err, and_is, not_err, as_prefix, ok_is, meets_same}

-- ---- by the first byte

-- the byte that a text of this kind begins with
abbrev pub Heads : {I : Type 0} → (ℕ → Option I) → I → List ℕ → Type 0
Heads pick i [] = ⊥
Heads pick i (c ∷ rest) = pick c ≡ Some i

module _ {I V : Type 0} {L : I → List ℕ → V → Type 0} {F : V → ℕ → Bool} {q : I → List ℕ → Result (V × List ℕ) ℕ} {pick : ℕ → Option I}
    (m : (i : I) → Meets (L i) F (q i)) (heads : (i : I) (x : List ℕ) (v : V) → L i x v → Heads pick i x) where
  pick_ok : (o : Option I) (bytes : List ℕ) (v : V) (rest : List ℕ) → kind_read q o bytes ≡ Ok (v, rest) → (x : List ℕ) × (bytes ≡ x ++ rest) × Among L x v
  pick_ok None bytes v rest e = absurd cc
  pick_ok (Some i) bytes v rest e = let s = (m i).ok bytes v rest e in (s.0, s.1, (i, s.2))

  pick_err : (some : (x : List ℕ) × (v : V) × Among L x v) (o : Option I) (bytes : List ℕ) (n : ℕ) → kind_read q o bytes ≡ Err n → (x rest : List ℕ) × (bytes ≡ x ++ rest) × (length rest ≡ n) × Begins (Among L) x
  pick_err some None bytes n e = ([], bytes, refl, cc, some)
  pick_err some (Some i) bytes n e = let s = (m i).err bytes n e in (s.0, s.1, s.2, s.3, (s.4.0, s.4.1, (i, s.4.2)))

  pick_less : (o : Option I) (bytes : List ℕ) → left (kind_read q o bytes) ≤ length bytes
  pick_less None bytes = omega arith
  pick_less (Some i) bytes = left_less (m i) bytes

  pub meets_pick : (some : (x : List ℕ) × (v : V) × Among L x v) → Meets (Among L) F (pick_read pick q)
  unfolding pick_read
  meets_pick some = record {
    ok = λ bytes v rest e. pick_ok (first_kind pick bytes) bytes v rest e;
    err = λ bytes n e. pick_err some (first_kind pick bytes) bytes n e;
    only = only;
    far = far;
  }
    where
      only : (x r : List ℕ) (v : V) → Among L x v → Next (F v) r → pick_read pick q (x ++ r) ≡ Ok (v, r)
      only [] r v h after = absurd (heads h.0 [] v h.1)
      only (c ∷ x) r v h after = ap (λ (o : Option I). kind_read q o (c ∷ x ++ r)) (heads h.0 (c ∷ x) v h.1) ∙ (m h.0).only (c ∷ x) r v h.1 after

      far : (x more r : List ℕ) (v : V) → Among L (x ++ more) v → left (pick_read pick q (x ++ r)) ≤ length r
      far [] more r v h = pick_less (first_kind pick r) r
      far (c ∷ x) more r v h = subst (λ (o : Option I). left (kind_read q o (c ∷ x ++ r)) ≤ length r) (sym (heads h.0 (c ∷ x ++ more) v h.1)) ((m h.0).far (c ∷ x) more r v h.1)

-- ---- a text or none

abbrev pub optional_follow : {V : Type 0} → (ℕ → Bool) → (V → ℕ → Bool) → Option V → ℕ → Bool
optional_follow class F None c = not (class c)
optional_follow class F (Some v) c = F v c

-- the text begins with a byte of the class
abbrev pub Starts : (ℕ → Bool) → List ℕ → Type 0
Starts class [] = ⊥
Starts class (c ∷ rest) = class c ≡ true

module _ {V : Type 0} {L : List ℕ → V → Type 0} {F : V → ℕ → Bool} {p : List ℕ → Result (V × List ℕ) ℕ} (class : ℕ → Bool)
    (m : Meets L F p) (heads : (x : List ℕ) (v : V) → L x v → Starts class x) where
  pub meets_optional : Meets (Optional L) (optional_follow class F) (optional_read class p)
  unfolding optional_read
  meets_optional = record { ok = λ bytes o rest e. ok_at (starts_in class bytes) bytes o rest e; err = λ bytes n e. err_at (starts_in class bytes) bytes n e; only = only; far = far }
    where
      ok_at : (b : Bool) (bytes : List ℕ) (o : Option V) (rest : List ℕ) → optional_if b p bytes ≡ Ok (o, rest) → (x : List ℕ) × (bytes ≡ x ++ rest) × Optional L x o
      ok_at true bytes o rest e =
          let b = bind_ok (p bytes) (λ a. Ok (Some a.0, a.1)) (o, rest) e in
          let s = m.ok bytes b.0.0 b.0.1 b.1 in
          let pair : (Some b.0.0, b.0.1) ≡ (o, rest) = ok_is _ _ b.2 in
          (s.0, s.1 ∙ ap (λ (a : Option V × List ℕ). s.0 ++ a.1) pair, subst (λ (a : Option V × List ℕ). Optional L s.0 a.0) pair s.2)
      ok_at false bytes o rest e =
          let pair : (None, bytes) ≡ (o, rest) = ok_is _ _ e in
          ([], ap (λ (a : Option V × List ℕ). a.1) pair, subst (λ (a : Option V × List ℕ). Optional L [] a.0) pair refl)

      err_at : (b : Bool) (bytes : List ℕ) (n : ℕ) → optional_if b p bytes ≡ Err n → (x rest : List ℕ) × (bytes ≡ x ++ rest) × (length rest ≡ n) × Begins (Optional L) x
      err_at true bytes n e =
          elim (bind_err (p bytes) (λ a. Ok (Some a.0, a.1)) n e) [
            | inl w ↦ let s = m.err bytes n w in (s.0, s.1, s.2, s.3, (s.4.0, Some s.4.1, s.4.2))
            | inr w ↦ absurd (not_err _ _ w.2)
          ]
      err_at false bytes n e = absurd (not_err _ _ e)

      none_at : (b : Bool) (bytes : List ℕ) → not b ≡ true → optional_if b p bytes ≡ Ok (None, bytes)
      none_at true bytes e = absurd cc
      none_at false bytes e = refl

      none : (r : List ℕ) → Next (λ c. not (class c)) r → optional_read class p r ≡ Ok (None, r)
      none [] after = refl
      none (c ∷ r) after = none_at (class c) (c ∷ r) after

      some : (x r : List ℕ) → Starts class x → optional_read class p (x ++ r) ≡ (p (x ++ r) >>= λ a. Ok (Some a.0, a.1))
      some [] r h = absurd h
      some (c ∷ x) r h = ap (λ (b : Bool). optional_if b p (c ∷ x ++ r)) h

      only : (x r : List ℕ) (o : Option V) → Optional L x o → Next (optional_follow class F o) r → optional_read class p (x ++ r) ≡ Ok (o, r)
      only x r None h after = ap (λ (y : List ℕ). optional_read class p (y ++ r)) h ∙ none r after
      only x r (Some v) h after = some x r (heads x v h) ∙ ap (λ (a : Result (V × List ℕ) ℕ). a >>= λ a. Ok (Some a.0, a.1)) (m.only x r v h after)

      less_at : (b : Bool) (bytes : List ℕ) → left (optional_if b p bytes) ≤ length bytes
      less_at true bytes = omega (arith, as_prefix (λ (v : V). Some v) (p bytes), left_less m bytes)
      less_at false bytes = omega arith

      less : (bytes : List ℕ) → left (optional_read class p bytes) ≤ length bytes
      less bytes = less_at (starts_in class bytes) bytes

      empty : (x more : List ℕ) → x ++ more ≡ [] → x ≡ []
      empty [] more e = refl
      empty (c ∷ x) more e = absurd cc

      far : (x more r : List ℕ) (o : Option V) → Optional L (x ++ more) o → left (optional_read class p (x ++ r)) ≤ length r
      far x more r None h = subst (λ (y : List ℕ). left (optional_read class p (y ++ r)) ≤ length r) (sym (empty x more h)) (less r)
      far [] more r (Some v) h = less r
      far (c ∷ x) more r (Some v) h =
          subst (λ (a : Result (Option V × List ℕ) ℕ). left a ≤ length r) (sym (some (c ∷ x) r (heads (c ∷ x ++ more) v h)))
          (omega (arith, as_prefix (λ (v : V). Some v) (p (c ∷ x ++ r)), m.far (c ∷ x) more r v h))

-- ---- bytes that come next

-- what holds of each of these bytes
pub of_each : (P : ℕ → Bool) (ends : List ℕ) → list_all P ends ≡ true → (c : ℕ) → is_one_of ends c ≡ true → P c ≡ true
of_each P [] all c is = absurd cc
of_each P (d ∷ ends) all c is = go (λ h. of_each P ends (and_is (P d) (list_all P ends) all).1 c h) (eqb d c) refl is
  where
    go : (list_any (λ d. eqb d c) ends ≡ true → P c ≡ true) → (b : Bool) → eqb d c ≡ b → (b || list_any (λ d. eqb d c) ends) ≡ true → P c ≡ true
    go others true e is = ap P (sym (eqb-true d c e)) ∙ (and_is (P d) (list_all P ends) all).0
    go others false e is = others is

-- a byte of a class is none that the class doesn't allow
pub apart : (P : ℕ → Bool) (k : ℕ) → P k ≡ false → (c : ℕ) → P c ≡ true → not (eqb c k) ≡ true
apart P k out c is = go (eqb c k) refl
  where
    go : (b : Bool) → eqb c k ≡ b → not b ≡ true
    go true e = absurd (cc (ap P (eqb-true c k e), out, is))
    go false e = refl

pub starts_next : (P Q : ℕ → Bool) → ((c : ℕ) → P c ≡ true → Q c ≡ true) → (x r : List ℕ) → Starts P x → Next Q (x ++ r)
starts_next P Q sub [] r h = absurd h
starts_next P Q sub (c ∷ x) r h = sub c h

pub run_starts : (P : ℕ → Bool) (lo hi : ℕ) (x v : List ℕ) → IsRun P (suc lo) hi x v → Starts P x
run_starts P lo hi x v h = subst (λ (y : List ℕ). Starts P y) (sym h.same) (go v h.passes h.least)
  where
    go : (v : List ℕ) → list_all P v ≡ true → suc lo ≤ length v → Starts P v
    go [] all le = absurd (omega arith)
    go (c ∷ v) all le = (and_is (P c) (list_all P v) all).0

-- ---- a choice of two

module _ {V : Type 0} {K L : List ℕ → V → Type 0} {F : V → ℕ → Bool} {p q : List ℕ → Result (V × List ℕ) ℕ} (class : ℕ → Bool)
    (m : Meets K F p) (n : Meets L F q) (heads : (x : List ℕ) (v : V) → K x v → Starts class x) (others : (x : List ℕ) (v : V) → L x v → Starts (λ c. not (class c)) x) where
  By : Bool → List ℕ → V → Type 0
  By true x v = K x v
  By false x v = L x v

  by_meets : (b : Bool) → Meets (By b) F (cond b p q)
  unfolding By
  by_meets true = m
  by_meets false = n

  starts_true : (x : List ℕ) → Starts class x → Heads (λ c. Some (class c)) true x
  starts_true [] h = absurd h
  starts_true (c ∷ x) h = ap (λ (b : Bool). Some b) h

  starts_false : (x : List ℕ) → Starts (λ c. not (class c)) x → Heads (λ c. Some (class c)) false x
  starts_false [] h = absurd h
  starts_false (c ∷ x) h = go (class c) h
    where
      go : (b : Bool) → not b ≡ true → Some b ≡ Some false
      go true e = absurd (cc (e))
      go false e = refl

  by_heads : (b : Bool) (x : List ℕ) (v : V) → By b x v → Heads (λ c. Some (class c)) b x
  unfolding By
  by_heads true x v h = starts_true x (heads x v h)
  by_heads false x v h = starts_false x (others x v h)

  pub meets_choose : (x : List ℕ) (v : V) → K x v → Meets (λ x v. K x v ⊎ L x v) F (choose_read class p q)
  unfolding choose_read By
  meets_choose some some_value is = meets_same (meets_pick by_meets by_heads (some, some_value, (true, is))) to from (λ v c h. h)
    where
      to : (x : List ℕ) (v : V) → Among By x v → K x v ⊎ L x v
      to x v (true, h) = inl h
      to x v (false, h) = inr h

      from : (x : List ℕ) (v : V) → K x v ⊎ L x v → Among By x v
      from x v (inl h) = (true, h)
      from x v (inr h) = (false, h)
