-- Laws of readers: one reader after another, and the same reader seen as other values.
use Rattle.std.proofs.Common.{◌&&◌, ◌≡◌, ℕ, ◌≤◌, Bool, true, false, List, [], ◌∷◌, ◌++◌, length, Result, Ok, Err, refl, sym, ap, subst, ◌∙◌, append_assoc, arith, inl, inr, ◌⊎◌}
use Rattle.std.proofs.lemmas.List.{length-append}
use Rattle.byte_grammar.specs.Language.{Begins}
use Rattle.byte_grammar.specs.tools.Languages.{Then, Mapped}
use Rattle.byte_grammar.specs.Walk.{◌>>=◌}
use Rattle.byte_grammar.specs.tools.Walks.{left, Next, then_read}

-- A reader reads a language: what it gives is spelled in this way, where it stops the text so far begins the
-- language, a text of the language is read where its value's followers come, and no prefix of the language
-- stops it.
pub record Meets {V : Type 0} (L : List ℕ → V → Type 0) (F : V → ℕ → Bool) (p : List ℕ → Result (V × List ℕ) ℕ) : Type 0 where
  pub ok : (bytes : List ℕ) (v : V) (rest : List ℕ) → p bytes ≡ Ok (v, rest) → (x : List ℕ) × (bytes ≡ x ++ rest) × L x v
  pub err : (bytes : List ℕ) (n : ℕ) → p bytes ≡ Err n → (x rest : List ℕ) × (bytes ≡ x ++ rest) × (length rest ≡ n) × Begins L x
  pub only : (x r : List ℕ) (v : V) → L x v → Next (F v) r → p (x ++ r) ≡ Ok (v, r)
  pub far : (x more r : List ℕ) (v : V) → L (x ++ more) v → left (p (x ++ r)) ≤ length r

-- a reader takes bytes from the prefix
pub left_less : {V : Type 0} {L : List ℕ → V → Type 0} {F : V → ℕ → Bool} {p : List ℕ → Result (V × List ℕ) ℕ} → Meets L F p → (bytes : List ℕ) → left (p bytes) ≤ length bytes
left_less {V} {L} {F} {p} m bytes = go (p bytes) refl
  where
    go : (r : Result (V × List ℕ) ℕ) → p bytes ≡ r → left r ≤ length bytes
    go (Ok a) e = let w = m.ok bytes a.0 a.1 e in omega (arith, length-append w.0 a.1, ap (λ (t : List ℕ). length t) w.1)
    go (Err n) e = let w = m.err bytes n e in omega (arith, length-append w.0 w.1, ap (λ (t : List ℕ). length t) w.2, w.3)

-- two ways to cut one text in two: one prefix ends within the other
pub prefixes : (a b c d : List ℕ) → a ++ b ≡ c ++ d → ((m : List ℕ) × (c ≡ a ++ m) × (b ≡ m ++ d)) ⊎ ((k : ℕ) × (m : List ℕ) × (a ≡ c ++ k ∷ m) × (d ≡ k ∷ m ++ b))
prefixes [] b c d e = inl (c, refl, e)
prefixes (x ∷ a) b [] d e = inr (x, a, refl, sym e)
prefixes (x ∷ a) b (y ∷ c) d e =
    let same : x ≡ y = cc in
    let rest : a ++ b ≡ c ++ d = cc in
    elim (prefixes a b c d rest) [
      | inl w ↦ inl (w.0, cc (same, w.1), w.2)
      | inr w ↦ inr (w.0, w.1, cc (same, w.2), w.3)
    ]

abbrev pub the_ok : {A : Type 0} → A → Result A ℕ
the_ok x = Ok x

pub bind_ok : {A B : Type 0} (r : Result A ℕ) (f : A → Result B ℕ) (y : B) → (r >>= f) ≡ Ok y → (x : A) × (r ≡ Ok x) × (f x ≡ Ok y)
bind_ok (Ok x) f y e = (x, refl, e)
bind_ok (Err d) f y e = absurd cc

pub bind_err : {A B : Type 0} (r : Result A ℕ) (f : A → Result B ℕ) (n : ℕ) → (r >>= f) ≡ Err n → (r ≡ Err n) ⊎ ((x : A) × (r ≡ Ok x) × (f x ≡ Err n))
bind_err (Ok x) f n e = inr (x, refl, e)
bind_err (Err d) f n e = inl (cc)

pub and_is : (a b : Bool) → (a && b) ≡ true → (a ≡ true) × (b ≡ true)
and_is true b e = (refl, e)
and_is false b e = absurd cc

-- ---- one reader after another

-- all but where it stops
pub record Partly {V : Type 0} (L : List ℕ → V → Type 0) (F : V → ℕ → Bool) (p : List ℕ → Result (V × List ℕ) ℕ) : Type 0 where
  pub ok : (bytes : List ℕ) (v : V) (rest : List ℕ) → p bytes ≡ Ok (v, rest) → (x : List ℕ) × (bytes ≡ x ++ rest) × L x v
  pub less : (bytes : List ℕ) → left (p bytes) ≤ length bytes
  pub only : (x r : List ℕ) (v : V) → L x v → Next (F v) r → p (x ++ r) ≡ Ok (v, r)
  pub far : (x more r : List ℕ) (v : V) → L (x ++ more) v → left (p (x ++ r)) ≤ length r

pub partly : {V : Type 0} {L : List ℕ → V → Type 0} {F : V → ℕ → Bool} {p : List ℕ → Result (V × List ℕ) ℕ} → Meets L F p → Partly L F p
partly m = record { ok = m.ok; less = left_less m; only = m.only; far = m.far }

module _ {U V : Type 0} {K : List ℕ → U → Type 0} {L : U → List ℕ → V → Type 0} {F : U → ℕ → Bool} {G : V → ℕ → Bool}
    {p : List ℕ → Result (U × List ℕ) ℕ} {q : U → List ℕ → Result (V × List ℕ) ℕ}
    (m : Meets K F p) (n : (u : U) → Partly (L u) G (q u)) where
  then_less : (r : Result (U × List ℕ) ℕ) → left (r >>= λ a. q a.0 a.1) ≤ left r
  then_less (Ok a) = (n a.0).less a.1
  then_less (Err e) = omega arith

  -- where either stops the whole begins
  pub meets_then_with : (first : (x : List ℕ) → Begins K x → Begins (Then K L) x)
      → (second : (x : List ℕ) (u : U) → K x u → (bytes : List ℕ) (k : ℕ) → q u bytes ≡ Err k → (y rest : List ℕ) × (bytes ≡ y ++ rest) × (length rest ≡ k) × Begins (Then K L) (x ++ y))
      → (next : (u : U) (y : List ℕ) (v : V) (r : List ℕ) → L u y v → Next (G v) r → Next (F u) (y ++ r))
      → Meets (Then K L) G (then_read p q)
  meets_then_with first second next = record {
    ok = λ bytes v rest e.
        let b = bind_ok (p bytes) (λ a. q a.0 a.1) (v, rest) e in
        let s = m.ok bytes b.0.0 b.0.1 b.1 in
        let t = (n b.0.0).ok b.0.1 v rest b.2 in (
          s.0 ++ t.0,
          s.1 ∙ ap (λ (y : List ℕ). s.0 ++ y) t.1 ∙ sym (append_assoc s.0 t.0 rest),
          record { first = s.0; second = t.0; value = b.0.0; joined = refl; spells = s.2; more = t.2 },
        );
    err = λ bytes k e.
        elim (bind_err (p bytes) (λ a. q a.0 a.1) k e) [
          | inl w ↦
              let s = m.err bytes k w in
              (s.0, s.1, s.2, s.3, first s.0 s.4)
          | inr b ↦
              let s = m.ok bytes b.0.0 b.0.1 b.1 in
              let t = second s.0 b.0.0 s.2 b.0.1 k b.2 in
              (s.0 ++ t.0, t.1, s.1 ∙ ap (λ (y : List ℕ). s.0 ++ y) t.2 ∙ sym (append_assoc s.0 t.0 t.1), t.3, t.4)
        ];
    only = λ x r v t h.
        let one = m.only t.first (t.second ++ r) t.value t.spells (next t.value t.second v r t.more h) in
        let two = (n t.value).only t.second r v t.more h in
        let text : x ++ r ≡ t.first ++ (t.second ++ r) = ap (λ (y : List ℕ). y ++ r) t.joined ∙ append_assoc t.first t.second r in
        ap (then_read p q) text ∙ ap (λ (a : Result (U × List ℕ) ℕ). a >>= λ a. q a.0 a.1) one ∙ two;
    far = λ x more r v t.
        elim (prefixes x more t.first t.second t.joined) [
          | inl w ↦
              let one = m.far x w.0 r t.value (subst (λ (y : List ℕ). K y t.value) w.1 t.spells) in
              omega (arith, then_less (p (x ++ r)), one)
          | inr w ↦
              let tail : List ℕ = w.0 ∷ w.1 in
              let start : Next (F t.value) (w.0 ∷ (w.1 ++ r)) = subst (λ (y : List ℕ). Next (F t.value) (y ++ [])) w.3 (next t.value t.second v [] t.more tt) in
              let one = m.only t.first (tail ++ r) t.value t.spells start in
              let two = (n t.value).far tail more r v (subst (λ (y : List ℕ). L t.value y v) w.3 t.more) in
              let text : x ++ r ≡ t.first ++ (tail ++ r) = ap (λ (y : List ℕ). y ++ r) w.2 ∙ append_assoc t.first tail r in
              let whole = ap (then_read p q) text ∙ ap (λ (a : Result (U × List ℕ) ℕ). a >>= λ a. q a.0 a.1) one in
              subst (λ (a : Result (V × List ℕ) ℕ). left a ≤ length r) (sym whole) two
        ];
  }

module _ {U V : Type 0} {K : List ℕ → U → Type 0} {L : U → List ℕ → V → Type 0} {F : U → ℕ → Bool} {G : V → ℕ → Bool}
    {p : List ℕ → Result (U × List ℕ) ℕ} {q : U → List ℕ → Result (V × List ℕ) ℕ}
    (m : Meets K F p) (n : (u : U) → Meets (L u) G (q u)) where
  pub meets_then : (fill : (x : List ℕ) (u : U) → K x u → (y : List ℕ) × (v : V) × L u y v)
      → (next : (u : U) (y : List ℕ) (v : V) (r : List ℕ) → L u y v → Next (G v) r → Next (F u) (y ++ r))
      → Meets (Then K L) G (then_read p q)
  meets_then fill next =
      meets_then_with m (λ u. partly (n u))
      (λ x b. let f = fill _ b.1 b.2 in
      (b.0 ++ f.0, f.1, record { first = x ++ b.0; second = f.0; value = b.1; joined = sym (append_assoc x b.0 f.0); spells = b.2; more = f.2 }))
      (λ x u h bytes k e.
      let t = (n u).err bytes k e in
      (t.0, t.1, t.2, t.3, (t.4.0, t.4.1, record { first = x; second = t.0 ++ t.4.0; value = u; joined = append_assoc x t.0 t.4.0; spells = h; more = t.4.2 })))
      next

-- ---- the same language and reader, seen as other values

as_left : {V W : Type 0} (f : V → W) (r : Result (V × List ℕ) ℕ) → left {V = W} (r >>= λ a. Ok (f a.0, a.1)) ≡ left r
as_left f (Ok a) = refl
as_left f (Err n) = refl

pub not_err : {A : Type 0} (x : A) (n : ℕ) → the_ok x ≡ Err n → ⊥
not_err x n e = cc

pub as_prefix : {A B : Type 0} (f : A → B) (r : Result (A × List ℕ) ℕ) → left {V = B} (r >>= λ b. Ok (f b.0, b.1)) ≡ left r
as_prefix f (Ok a) = refl
as_prefix f (Err n) = refl

pub ok_is : {A : Type 0} (x y : A) → the_ok x ≡ the_ok y → x ≡ y
ok_is x y e = cc

pub any_next : (r : List ℕ) → Next (λ _. true) r
any_next [] = tt
any_next (c ∷ r) = refl

pub next_more : (g h : ℕ → Bool) → ((c : ℕ) → g c ≡ true → h c ≡ true) → (r : List ℕ) → Next g r → Next h r
next_more g h sub [] e = tt
next_more g h sub (c ∷ r) e = sub c e

module _ {V W : Type 0} {L : List ℕ → V → Type 0} {F : V → ℕ → Bool} {p : List ℕ → Result (V × List ℕ) ℕ}
    {M : List ℕ → W → Type 0} {G : W → ℕ → Bool} (m : Meets L F p) (f : V → W) where
  pub meets_as : (to : (x : List ℕ) (v : V) → L x v → M x (f v))
      → (from : (x : List ℕ) (w : W) → M x w → (v : V) × L x v × (f v ≡ w) × ((c : ℕ) → G w c ≡ true → F v c ≡ true))
      → Meets M G (λ bytes. p bytes >>= λ a. Ok (f a.0, a.1))
  meets_as to from = record {
    ok = λ bytes w rest e.
        let b = bind_ok (p bytes) (λ a. Ok (f a.0, a.1)) (w, rest) e in
        let s = m.ok bytes b.0.0 b.0.1 b.1 in
        let pair : (f b.0.0, b.0.1) ≡ (w, rest) = ok_is _ _ b.2 in
        let same : f b.0.0 ≡ w = ap (λ (a : W × List ℕ). a.0) pair in
        let after : b.0.1 ≡ rest = ap (λ (a : W × List ℕ). a.1) pair in
        (s.0, s.1 ∙ ap (λ (y : List ℕ). s.0 ++ y) after, subst (λ (v : W). M s.0 v) same (to s.0 b.0.0 s.2));
    err = λ bytes k e.
        elim (bind_err (p bytes) (λ a. Ok (f a.0, a.1)) k e) [
          | inl w ↦
              let s = m.err bytes k w in
              (s.0, s.1, s.2, s.3, (s.4.0, f s.4.1, to (s.0 ++ s.4.0) s.4.1 s.4.2))
          | inr b ↦ absurd (cc (b.2))
        ];
    only = λ x r w h after.
        let s = from x w h in
        ap (λ (a : Result (V × List ℕ) ℕ). a >>= λ a. Ok (f a.0, a.1)) (m.only x r s.0 s.1 (next_more (G w) (F s.0) s.3 r after)) ∙ ap (λ (v : W). Ok (v, r)) s.2;
    far = λ x more r w h.
        let s = from (x ++ more) w h in
        omega (arith, as_left f (p (x ++ r)), m.far x more r s.0 s.1);
  }

-- the same texts and reader, with other values
pub meets_map : {V W : Type 0} {L : List ℕ → V → Type 0} {F : V → ℕ → Bool} {G : W → ℕ → Bool} {p : List ℕ → Result (V × List ℕ) ℕ} (m : Meets L F p) (f : V → W)
    → ((v : V) (c : ℕ) → G (f v) c ≡ true → F v c ≡ true) → Meets (Mapped f L) G (λ bytes. p bytes >>= λ a. Ok (f a.0, a.1))
meets_map {V} {W} {L} {F} {G} m f sub = meets_as m f (λ x v h. (v, h, refl)) (λ x w h. (h.0, h.1, h.2, λ c e. sub h.0 c (subst (λ (w : W). G w c ≡ true) (sym h.2) e)))

-- another form of the same language, and fewer followers
pub meets_same : {V : Type 0} {L M : List ℕ → V → Type 0} {F G : V → ℕ → Bool} {p : List ℕ → Result (V × List ℕ) ℕ} (m : Meets L F p)
    → (to : (x : List ℕ) (v : V) → L x v → M x v) → (from : (x : List ℕ) (v : V) → M x v → L x v) → ((v : V) (c : ℕ) → G v c ≡ true → F v c ≡ true) → Meets M G p
meets_same {V} {L} {M} {F} {G} {p} m to from sub = record {
  ok = λ bytes v rest e. let s = m.ok bytes v rest e in (s.0, s.1, to s.0 v s.2);
  err = λ bytes n e. let s = m.err bytes n e in (s.0, s.1, s.2, s.3, (s.4.0, s.4.1, to (s.0 ++ s.4.0) s.4.1 s.4.2));
  only = λ x r v h after. m.only x r v (from x v h) (next_more (G v) (F v) (sub v) r after);
  far = λ x more r v h. m.far x more r v (from (x ++ more) v h);
}

-- nothing is read
pub meets_done : {V : Type 0} (w : V) (F : V → ℕ → Bool) → Meets (λ x v. (x ≡ []) × (w ≡ v)) F (λ bytes. Ok (w, bytes))
meets_done {V} w F = record {
  ok = λ bytes v rest e.
      let pair : (w, bytes) ≡ (v, rest) = ok_is _ _ e in
      ([], ap (λ (a : V × List ℕ). a.1) pair, (refl, ap (λ (a : V × List ℕ). a.0) pair));
  err = λ bytes n e. absurd (not_err _ _ e);
  only = λ x r v h after. ap (λ (y : List ℕ). the_ok {A = V × List ℕ} (w, y ++ r)) h.0 ∙ ap (λ (v : V). the_ok {A = V × List ℕ} (v, r)) h.1;
  far = λ x more r v h. omega (arith, length-append x more, length-append x r, ap (λ (y : List ℕ). length y) h.0);
}
