-- Laws of turns: a text after a text.
use Rattle.std.proofs.Common.{not, ◌≡◌, ℕ, zero, suc, ◌≤◌, ◌<◌, Bool, true, List, [], ◌∷◌, ◌++◌, length, Option, Some, None, Result, Ok, Err, refl, sym, ap, subst, ◌∙◌, append_assoc, arith, inl, inr, ◌⊎◌}
use Rattle.std.proofs.lemmas.List.{length-append}
use Rattle.byte_grammar.specs.Language.{Begins, Each}
use Rattle.byte_grammar.specs.tools.Languages.{Turns, Optional}
use Rattle.byte_grammar.specs.Walk.{◌>>=◌}
use Rattle.byte_grammar.specs.tools.Walks.{left, Next, with_turns, turns_in, turns_read, optional_read}
use Rattle.byte_grammar.proofs.Laws.{Meets, left_less, prefixes, bind_ok, bind_err, not_err, as_prefix, ok_is, next_more, meets_same}
use Rattle.byte_grammar.proofs.ChoiceLaws.{optional_follow, Starts, meets_optional, starts_next}

-- ---- turn after turn

module _ {V : Type 0} {L : List ℕ → Option V → Type 0} {F : Option V → ℕ → Bool} {p : List ℕ → Result (Option V × List ℕ) ℕ}
    (m : Meets L F p) (grows : (x : List ℕ) (v : V) → L x (Some v) → 0 < length x) where
  -- a turn with a value takes bytes
  pub shorter : (bytes : List ℕ) (v : V) (rest : List ℕ) → p bytes ≡ Ok (Some v, rest) → length rest < length bytes
  shorter bytes v rest e =
      let s = m.ok bytes (Some v) rest e in
      let some : 0 < length s.0 = grows s.0 v s.2 in
      omega (arith, some, length-append s.0 rest, ap (λ (t : List ℕ). length t) s.1)

  enough : (i j : ℕ) (bytes : List ℕ) → length bytes < i → length bytes < j → turns_in i p bytes ≡ turns_in j p bytes
  unfolding turns_in
  enough zero j bytes lt more = absurd (omega arith)
  enough (suc i) zero bytes lt more = absurd (omega arith)
  enough (suc i) (suc j) bytes lt more = go (λ rest l k. enough i j rest l k) (p bytes) refl
    where
      go : ((rest : List ℕ) → length rest < i → length rest < j → turns_in i p rest ≡ turns_in j p rest) → (r : Result (Option V × List ℕ) ℕ) → p bytes ≡ r → (r >>= λ a. with_turns a.0 a.1 (turns_in i p a.1)) ≡ (r >>= λ a. with_turns a.0 a.1 (turns_in j p a.1))
      go again (Ok (None, rest)) e = refl
      go again (Ok (Some v, rest)) e =
          let less : length rest < length bytes = shorter bytes v rest e in
          ap (with_turns (Some v) rest) (again rest (omega arith) (omega arith))
      go again (Err k) e = refl

  -- one turn, and the turns after it
  pub turns_step : (bytes : List ℕ) → turns_read p bytes ≡ (p bytes >>= λ a. with_turns a.0 a.1 (turns_read p a.1))
  unfolding turns_in turns_read
  turns_step bytes = go (p bytes) refl
    where
      go : (r : Result (Option V × List ℕ) ℕ) → p bytes ≡ r → (r >>= λ a. with_turns a.0 a.1 (turns_in (length bytes) p a.1)) ≡ (r >>= λ a. with_turns a.0 a.1 (turns_in (suc (length a.1)) p a.1))
      go (Ok (None, rest)) e = refl
      go (Ok (Some v, rest)) e =
          let less : length rest < length bytes = shorter bytes v rest e in
          ap (with_turns (Some v) rest) (enough (length bytes) (suc (length rest)) rest (omega arith) (omega arith))
      go (Err k) e = refl

  in_less : (k : ℕ) (bytes : List ℕ) → left (turns_in k p bytes) ≤ length bytes
  unfolding turns_in
  in_less zero bytes = omega arith
  in_less (suc k) bytes = go (λ rest. in_less k rest) (p bytes) (left_less m bytes)
    where
      go : ((rest : List ℕ) → left (turns_in k p rest) ≤ length rest) → (r : Result (Option V × List ℕ) ℕ) → left r ≤ length bytes
          → left (r >>= λ a. with_turns a.0 a.1 (turns_in k p a.1)) ≤ length bytes
      go again (Ok (None, rest)) le = le
      go again (Ok (Some v, rest)) le = omega (arith, as_prefix (λ (vs : List V). v ∷ vs) (turns_in k p rest), again rest)
      go again (Err n) le = le

  turned_less : (r : Result (Option V × List ℕ) ℕ) → left (r >>= λ a. with_turns a.0 a.1 (turns_read p a.1)) ≤ left r
  unfolding turns_read
  turned_less (Ok (None, rest)) = omega arith
  turned_less (Ok (Some v, rest)) = omega (arith, as_prefix (λ (vs : List V). v ∷ vs) (turns_in (suc (length rest)) p rest), in_less (suc (length rest)) rest)
  turned_less (Err n) = omega arith

  in_ok : (k : ℕ) (bytes : List ℕ) (vs : List V) (rest : List ℕ) → turns_in k p bytes ≡ Ok (vs, rest) → (x : List ℕ) × (bytes ≡ x ++ rest) × Turns L x vs
  unfolding turns_in
  in_ok zero bytes vs rest e = absurd cc
  in_ok (suc k) bytes vs rest e = go (λ b ws c h. in_ok k b ws c h) (p bytes) refl e
    where
      go : ((b : List ℕ) (ws : List V) (c : List ℕ) → turns_in k p b ≡ Ok (ws, c) → (x : List ℕ) × (b ≡ x ++ c) × Turns L x ws)
          → (r : Result (Option V × List ℕ) ℕ) → p bytes ≡ r → (r >>= λ a. with_turns a.0 a.1 (turns_in k p a.1)) ≡ Ok (vs, rest) → (x : List ℕ) × (bytes ≡ x ++ rest) × Turns L x vs
      go again (Ok (None, c)) e h =
          let s = m.ok bytes None c e in
          let pair = ok_is ([], c) (vs, rest) h in
          (s.0, s.1 ∙ ap (λ (a : List V × List ℕ). s.0 ++ a.1) pair, subst (λ (a : List V × List ℕ). Turns L s.0 a.0) pair s.2)
      go again (Ok (Some v, c)) e h =
          let s = m.ok bytes (Some v) c e in
          let b = bind_ok (turns_in k p c) (λ b. Ok (v ∷ b.0, b.1)) (vs, rest) h in
          let t = again c b.0.0 b.0.1 b.1 in
          let pair = ok_is (v ∷ b.0.0, b.0.1) (vs, rest) b.2 in (
            s.0 ++ t.0,
            s.1 ∙ ap (λ (y : List ℕ). s.0 ++ y) t.1 ∙ sym (append_assoc s.0 t.0 b.0.1) ∙ ap (λ (a : List V × List ℕ). (s.0 ++ t.0) ++ a.1) pair,
            subst (λ (a : List V × List ℕ). Turns L (s.0 ++ t.0) a.0) pair (s.0, t.0, refl, s.2, t.2),
          )
      go again (Err n) e h = absurd cc

  module _ (done : (x : List ℕ) × L x None) (next : (v : V) (x : List ℕ) (o : Option V) (r : List ℕ) → L x o → Next (F o) r → Next (F (Some v)) (x ++ r)) where
    starts : (vs : List V) (x : List ℕ) (v : V) (r : List ℕ) → Turns L x vs → Next (F None) r → Next (F (Some v)) (x ++ r)
    starts [] x v r h after = next v x None r h after
    starts (w ∷ vs) x v r h after =
        let rest = starts vs h.1 w r h.4 after in
        subst (λ (y : List ℕ). Next (F (Some v)) y) (sym (ap (λ (y : List ℕ). y ++ r) h.2 ∙ append_assoc h.0 h.1 r)) (next v h.0 (Some w) (h.1 ++ r) h.3 rest)

    in_err : (k : ℕ) (bytes : List ℕ) (n : ℕ) → length bytes < k → turns_in k p bytes ≡ Err n → (x rest : List ℕ) × (bytes ≡ x ++ rest) × (length rest ≡ n) × Begins (Turns L) x
    unfolding turns_in
    in_err zero bytes n lt e = absurd (omega arith)
    in_err (suc k) bytes n lt e = go (λ b i l h. in_err k b i l h) (p bytes) refl e
      where
        go : ((b : List ℕ) (i : ℕ) → length b < k → turns_in k p b ≡ Err i → (x rest : List ℕ) × (b ≡ x ++ rest) × (length rest ≡ i) × Begins (Turns L) x)
            → (r : Result (Option V × List ℕ) ℕ) → p bytes ≡ r → (r >>= λ a. with_turns a.0 a.1 (turns_in k p a.1)) ≡ Err n → (x rest : List ℕ) × (bytes ≡ x ++ rest) × (length rest ≡ n) × Begins (Turns L) x
        go again (Ok (None, c)) e h = absurd cc
        go again (Ok (Some v, c)) e h =
            let s = m.ok bytes (Some v) c e in
            let less : length c < length bytes = shorter bytes v c e in
            elim (bind_err (turns_in k p c) (λ b. Ok (v ∷ b.0, b.1)) n h) [
              | inl w ↦
                  let t = again c n (omega arith) w in (
                    s.0 ++ t.0,
                    t.1,
                    s.1 ∙ ap (λ (y : List ℕ). s.0 ++ y) t.2 ∙ sym (append_assoc s.0 t.0 t.1),
                    t.3,
                    (t.4.0, v ∷ t.4.1, (s.0, t.0 ++ t.4.0, append_assoc s.0 t.0 t.4.0, s.2, t.4.2)),
                  )
              | inr b ↦ absurd (not_err _ _ b.2)
            ]
        go again (Err i) e h =
            let s = m.err bytes i e in
            let same : i ≡ n = cc in
            (s.0, s.1, s.2, s.3 ∙ same, finish s.0 s.4.0 s.4.1 s.4.2)
          where
            finish : (x more : List ℕ) (o : Option V) → L (x ++ more) o → Begins (Turns L) x
            finish x more None h = (more, [], h)
            finish x more (Some v) h = (more ++ done.0, v ∷ [], (x ++ more, done.0, sym (append_assoc x more done.0), h, done.1))

    turns_only : (vs : List V) (x r : List ℕ) → Turns L x vs → Next (F None) r → turns_read p (x ++ r) ≡ Ok (vs, r)
    turns_only [] x r h after = turns_step (x ++ r) ∙ ap (λ (a : Result (Option V × List ℕ) ℕ). a >>= λ a. with_turns a.0 a.1 (turns_read p a.1)) (m.only x r None h after)
    turns_only (v ∷ vs) x r h after =
        let one = m.only h.0 (h.1 ++ r) (Some v) h.3 (starts vs h.1 v r h.4 after) in
        let text : x ++ r ≡ h.0 ++ (h.1 ++ r) = ap (λ (y : List ℕ). y ++ r) h.2 ∙ append_assoc h.0 h.1 r in
        turns_step (x ++ r) ∙ ap (λ (y : List ℕ). p y >>= λ a. with_turns a.0 a.1 (turns_read p a.1)) text
        ∙ ap (λ (a : Result (Option V × List ℕ) ℕ). a >>= λ a. with_turns a.0 a.1 (turns_read p a.1)) one
        ∙ ap (with_turns (Some v) (h.1 ++ r)) (turns_only vs h.1 r h.4 after)

    turns_far : (vs : List V) (x more r : List ℕ) → Turns L (x ++ more) vs → left (turns_read p (x ++ r)) ≤ length r
    turns_far [] x more r h =
        let far = m.far x more r None h in
        subst (λ (a : Result (List V × List ℕ) ℕ). left a ≤ length r) (sym (turns_step (x ++ r))) (omega (arith, turned_less (p (x ++ r)), far))
    turns_far (v ∷ vs) x more r h = go (λ y m s t. turns_far vs y m s t) (prefixes x more h.0 h.1 h.2)
      where
        go : ((y m s : List ℕ) → Turns L (y ++ m) vs → left (turns_read p (y ++ s)) ≤ length s)
            → ((m : List ℕ) × (h.0 ≡ x ++ m) × (more ≡ m ++ h.1)) ⊎ ((k : ℕ) × (m : List ℕ) × (x ≡ h.0 ++ k ∷ m) × (h.1 ≡ k ∷ m ++ more)) → left (turns_read p (x ++ r)) ≤ length r
        go again (inl w) =
            let far = m.far x w.0 r (Some v) (subst (λ (y : List ℕ). L y (Some v)) w.1 h.3) in
            subst (λ (a : Result (List V × List ℕ) ℕ). left a ≤ length r) (sym (turns_step (x ++ r))) (omega (arith, turned_less (p (x ++ r)), far))
        go again (inr w) =
            let tail : List ℕ = w.0 ∷ w.1 in
            let begin : Next (F (Some v)) (w.0 ∷ (w.1 ++ r)) = subst (λ (y : List ℕ). Next (F (Some v)) (y ++ [])) w.3 (starts vs h.1 v [] h.4 tt) in
            let one = m.only h.0 (tail ++ r) (Some v) h.3 begin in
            let two = again tail more r (subst (λ (y : List ℕ). Turns L y vs) w.3 h.4) in
            let text : x ++ r ≡ h.0 ++ (tail ++ r) = ap (λ (y : List ℕ). y ++ r) w.2 ∙ append_assoc h.0 tail r in
            let whole = turns_step (x ++ r) ∙ ap (λ (y : List ℕ). p y >>= λ a. with_turns a.0 a.1 (turns_read p a.1)) text
            ∙ ap (λ (a : Result (Option V × List ℕ) ℕ). a >>= λ a. with_turns a.0 a.1 (turns_read p a.1)) one in
            subst (λ (a : Result (List V × List ℕ) ℕ). left a ≤ length r) (sym whole) (omega (arith, as_prefix (λ (ws : List V). v ∷ ws) (turns_read p (tail ++ r)), two))

    pub meets_turns : Meets (Turns L) (λ _. F None) (turns_read p)
    unfolding turns_read
    meets_turns = record {
      ok = λ bytes vs rest e. in_ok (suc (length bytes)) bytes vs rest e;
      err = λ bytes n e. in_err (suc (length bytes)) bytes n (omega arith) e;
      only = λ x r vs h after. turns_only vs x r h after;
      far = λ x more r vs h. turns_far vs x more r h;
    }

-- ---- one after the other, where a byte of the class comes

module _ {V : Type 0} (L : List ℕ → V → Type 0) where
  pub each_turns : (vs : List V) (x : List ℕ) → Turns (Optional L) x vs → Each L x vs
  each_turns [] x h = h
  each_turns (v ∷ vs) x h = (h.0, h.1, h.2, h.3, each_turns vs h.1 h.4)

  pub turns_each : (vs : List V) (x : List ℕ) → Each L x vs → Turns (Optional L) x vs
  turns_each [] x h = h
  turns_each (v ∷ vs) x h = (h.0, h.1, h.2, h.3, turns_each vs h.1 h.4)

pub starts_length : (class : ℕ → Bool) (x : List ℕ) → Starts class x → 0 < length x
starts_length class [] h = absurd h
starts_length class (c ∷ x) h = omega arith

-- G is what may follow them all: no byte of the class, and only what may follow each
pub meets_each : {V : Type 0} {L : List ℕ → V → Type 0} {F : V → ℕ → Bool} {p : List ℕ → Result (V × List ℕ) ℕ} (class : ℕ → Bool) (G : ℕ → Bool)
    (m : Meets L F p) (heads : (x : List ℕ) (v : V) → L x v → Starts class x)
    → ((v : V) (c : ℕ) → class c ≡ true → F v c ≡ true) → ((v : V) (c : ℕ) → G c ≡ true → F v c ≡ true) → ((c : ℕ) → G c ≡ true → not (class c) ≡ true)
    → Meets (Each L) (λ _. G) (turns_read (optional_read class p))
meets_each {V} {L} {F} {p} class G m heads again last other =
    meets_same (meets_turns opt (λ x v h. starts_length class x (heads x v h)) ([], refl) next) (λ x vs h. each_turns L vs x h) (λ x vs h. turns_each L vs x h) (λ vs c h. h)
  where
    follow : Option V → ℕ → Bool
    follow None = G
    follow (Some v) = F v

    opt : Meets (Optional L) follow (optional_read class p)
    opt = meets_same (meets_optional class m heads) (λ x o h. h) (λ x o h. h) sub
      where
        sub : (o : Option V) (c : ℕ) → follow o c ≡ true → optional_follow class F o c ≡ true
        sub None c h = other c h
        sub (Some v) c h = h

    next : (v : V) (x : List ℕ) (o : Option V) (r : List ℕ) → Optional L x o → Next (follow o) r → Next (F v) (x ++ r)
    next v x None r h after = subst (λ (y : List ℕ). Next (F v) (y ++ r)) (sym h) (next_more G (F v) (last v) r after)
    next v x (Some w) r h after = starts_next class (F v) (again v) x r (heads x w h)
