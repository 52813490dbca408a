-- Readers that judge limits, beside those of the form.
use Rattle.std.proofs.Common.{cond, ◌≡◌, ℕ, zero, suc, ◌<◌, Bool, true, false, List, [], ◌∷◌, ◌++◌, length, Option, Some, None, Result, Ok, Err, refl, sym, ap, subst, ◌∙◌, append_assoc, arith, inl, inr, ◌⊎◌}
use Rattle.std.proofs.lemmas.List.Elements.{All-nil, All-cons, All-head, All-tail}
use Rattle.std.specs.List.{All}
use Rattle.byte_grammar.specs.Language.{Each, starts_in}
use Rattle.byte_grammar.specs.Walk.{◌>>=◌}
use Rattle.byte_grammar.specs.tools.CountedTexts.{Anything}
use Rattle.byte_grammar.specs.tools.Walks.{Next, optional_if, optional_read, then_read, with_turns, turns_read}
use Rattle.byte_grammar.proofs.Laws.{Meets, any_next, bind_ok}
use Rattle.byte_grammar.proofs.TurnLaws.{shorter, turns_step}
use Rattle.list_texts.specs.declared.stop.Stop.{Stop}
use Rattle.list_texts.specs.declared.stop.Stop.TheVariants as stop
use Rattle.list_texts.specs.tools.FieldWalk.{◌>>-◌, lifted, judged_step, optional_step_if, with_others, each_in, each_step}

-- the text has a line that passes a limit, with so many bytes from it on
pub record LongIn (Long : List ℕ → List ℕ → Type 0) (bytes : List ℕ) (n : ℕ) : Type 0 where
  pub front : List ℕ
  pub line : List ℕ
  pub more : List ℕ
  pub joined : bytes ≡ front ++ (line ++ more)
  pub such : Long front line
  pub count : n ≡ length (line ++ more)

-- One reader gives what the other does where it is within limits, and stops where the other does, or before it
-- at the first line that passes one.
pub record Checks {V : Type 0} (Good : V → Type 0) (Long : List ℕ → List ℕ → Type 0) (p : List ℕ → Result (V × List ℕ) ℕ) (c : List ℕ → Result (V × List ℕ) Stop) : Type 0 where
  pub ok : (bytes : List ℕ) (v : V) (rest : List ℕ) → c bytes ≡ Ok (v, rest) → (p bytes ≡ Ok (v, rest)) × Good v
  pub left : (bytes : List ℕ) (n : ℕ) → c bytes ≡ Err (stop.Left n) → p bytes ≡ Err n
  pub long : (bytes : List ℕ) (n : ℕ) → c bytes ≡ Err (stop.TooLong n) → LongIn Long bytes n
  pub only : (bytes : List ℕ) (v : V) (rest : List ℕ) → p bytes ≡ Ok (v, rest) → Good v → c bytes ≡ Ok (v, rest)
  pub stops : (front line more : List ℕ) → Long front line → c (front ++ (line ++ more)) ≡ Err (stop.TooLong (length (line ++ more)))

-- ---- results

abbrev the_value : {A : Type 0} → A → Result A Stop
the_value a = Ok a

value_is : {A : Type 0} (a b : A) → the_value a ≡ the_value b → a ≡ b
value_is a b e = cc

abbrev the_stop : {A : Type 0} → Stop → Result A Stop
the_stop s = Err s

stop_is : {A : Type 0} (s t : Stop) → the_stop {A = A} s ≡ the_stop t → s ≡ t
stop_is s t e = cc

left_is : (n m : ℕ) → stop.Left n ≡ stop.Left m → n ≡ m
left_is n m e = cc

long_is : (n m : ℕ) → stop.TooLong n ≡ stop.TooLong m → n ≡ m
long_is n m e = cc

not_long : (n m : ℕ) → stop.Left n ≡ stop.TooLong m → ⊥
not_long n m e = absurd (cc e)

value_or : {A : Type 0} (a : A) (s : Stop) → the_value a ≡ Err s → ⊥
value_or a s e = absurd (cc e)

-- a result of a reader that judges nothing
lifted_ok : {A : Type 0} (r : Result A ℕ) (a : A) → lifted r ≡ Ok a → r ≡ Ok a
lifted_ok (Ok b) a e = ap (λ (x : _). Ok x) (value_is b a e)
lifted_ok (Err n) a e = absurd (cc e)

lifted_left : {A : Type 0} (r : Result A ℕ) (n : ℕ) → lifted r ≡ Err (stop.Left n) → r ≡ Err n
lifted_left (Ok b) n e = absurd (value_or b (stop.Left n) e)
lifted_left {A} (Err m) n e = ap (λ (x : ℕ). Err x) (left_is m n (stop_is {A = A} (stop.Left m) (stop.Left n) e))

lifted_long : {A : Type 0} (r : Result A ℕ) (n : ℕ) → lifted r ≡ Err (stop.TooLong n) → ⊥
lifted_long (Ok b) n e = value_or b (stop.TooLong n) e
lifted_long {A} (Err m) n e = not_long m n (stop_is {A = A} (stop.Left m) (stop.TooLong n) e)

-- where both of two readers one after the other are
then_ok : {A B : Type 0} (r : Result A Stop) (f : A → Result B Stop) (b : B) → (r >>- f) ≡ Ok b → (a : A) × (r ≡ Ok a) × (f a ≡ Ok b)
then_ok (Ok a) f b e = (a, refl, e)
then_ok (Err s) f b e = absurd (cc e)

then_err : {A B : Type 0} (r : Result A Stop) (f : A → Result B Stop) (s : Stop) → (r >>- f) ≡ Err s → (r ≡ Err s) ⊎ ((a : A) × (r ≡ Ok a) × (f a ≡ Err s))
then_err (Ok a) f s e = inr (a, refl, e)
then_err {A} {B} (Err t) f s e = inl (ap (λ (x : Stop). Err x) (stop_is {A = B} t s e))

-- ---- a reader that judges nothing

abbrev pub Any : {V : Type 0} → V → Type 0
Any _ = Unit {0}

abbrev pub NoLine : List ℕ → List ℕ → Type 0
NoLine _ _ = ⊥

pub checks_lifted : {V : Type 0} (p : List ℕ → Result (V × List ℕ) ℕ) → Checks Any NoLine p (λ bytes. lifted (p bytes))
checks_lifted p = record {
  ok = λ bytes v rest e. (lifted_ok (p bytes) (v, rest) e, tt);
  left = λ bytes n e. lifted_left (p bytes) n e;
  long = λ bytes n e. absurd (lifted_long (p bytes) n e);
  only = λ bytes v rest e good. ap lifted e;
  stops = λ front line more l. absurd l;
}

-- ---- a line that is judged, and what comes after it

-- the line itself comes first
abbrev pub LongLine : {S : Type 0} → (List ℕ → S → Type 0) → (S → Bool) → List ℕ → List ℕ → Type 0
LongLine {S} K is_long front text = (front ≡ []) × (s : S) × K text s × (is_long s ≡ true)

module _ {S V : Type 0} {K : List ℕ → S → Type 0} {line : List ℕ → Result (S × List ℕ) ℕ} (m : Meets K Anything line) (is_long : S → Bool) (rest : S → List ℕ → Result (V × List ℕ) ℕ) (Good : V → Type 0)
    (good : (s : S) (bytes : List ℕ) (v : V) (after : List ℕ) → rest s bytes ≡ Ok (v, after) → is_long s ≡ false → Good v)
    (back : (s : S) (bytes : List ℕ) (v : V) (after : List ℕ) → rest s bytes ≡ Ok (v, after) → Good v → is_long s ≡ false) where
  after_line : List ℕ → S × List ℕ → Result (V × List ℕ) Stop
  after_line bytes s = cond (is_long s.0) (Err (stop.TooLong (length bytes))) (lifted (rest s.0 s.1))

  judged_ok : (bytes : List ℕ) (s : S × List ℕ) (v : V) (after : List ℕ) (b : Bool) → is_long s.0 ≡ b → cond b (Err (stop.TooLong (length bytes))) (lifted (rest s.0 s.1)) ≡ Ok (v, after) → (rest s.0 s.1 ≡ Ok (v, after)) × Good v
  judged_ok bytes s v after true is e = absurd (cc e)
  judged_ok bytes s v after false is e = let r = lifted_ok (rest s.0 s.1) (v, after) e in (r, good s.0 s.1 v after r is)

  judged_left : (bytes : List ℕ) (s : S × List ℕ) (n : ℕ) (b : Bool) → cond b (Err (stop.TooLong (length bytes))) (lifted (rest s.0 s.1)) ≡ Err (stop.Left n) → rest s.0 s.1 ≡ Err n
  judged_left bytes s n true e = absurd (not_long n (length bytes) (sym (stop_is {A = V × List ℕ} (stop.TooLong (length bytes)) (stop.Left n) e)))
  judged_left bytes s n false e = lifted_left (rest s.0 s.1) n e

  judged_long : (bytes : List ℕ) (s : S × List ℕ) (n : ℕ) (b : Bool) → is_long s.0 ≡ b → cond b (Err (stop.TooLong (length bytes))) (lifted (rest s.0 s.1)) ≡ Err (stop.TooLong n) → (is_long s.0 ≡ true) × (length bytes ≡ n)
  judged_long bytes s n true is e = (is, long_is (length bytes) n (stop_is {A = V × List ℕ} (stop.TooLong (length bytes)) (stop.TooLong n) e))
  judged_long bytes s n false is e = absurd (lifted_long (rest s.0 s.1) n e)

  pub checks_judged : Checks Good (LongLine K is_long) (λ bytes. line bytes >>= λ s. rest s.0 s.1) (judged_step line is_long rest)
  unfolding after_line
  checks_judged = record {
    ok = λ bytes v after e.
        let t = then_ok (lifted (line bytes)) (after_line bytes) (v, after) e in
        let r = lifted_ok (line bytes) t.0 t.1 in
        let j = judged_ok bytes t.0 v after (is_long t.0.0) refl t.2 in
        (ap (λ (r : Result (S × List ℕ) ℕ). r >>= λ s. rest s.0 s.1) r ∙ j.0, j.1);
    left = λ bytes n e. elim (then_err (lifted (line bytes)) (after_line bytes) (stop.Left n) e) [
      | inl w ↦ ap (λ (r : Result (S × List ℕ) ℕ). r >>= λ s. rest s.0 s.1) (lifted_left (line bytes) n w)
      | inr t ↦ ap (λ (r : Result (S × List ℕ) ℕ). r >>= λ s. rest s.0 s.1) (lifted_ok (line bytes) t.0 t.1) ∙ judged_left bytes t.0 n (is_long t.0.0) t.2
    ];
    long = λ bytes n e. elim (then_err (lifted (line bytes)) (after_line bytes) (stop.TooLong n) e) [
      | inl w ↦ absurd (lifted_long (line bytes) n w)
      | inr t ↦
          let s = m.ok bytes t.0.0 t.0.1 (lifted_ok (line bytes) t.0 t.1) in
          let j = judged_long bytes t.0 n (is_long t.0.0) refl t.2 in
          record { front = []; line = s.0; more = t.0.1; joined = s.1; such = (refl, t.0.0, s.2, j.0); count = sym j.1 ∙ ap (λ (y : List ℕ). length y) s.1 }
    ];
    only = λ bytes v after e g.
        let b = bind_ok (line bytes) (λ s. rest s.0 s.1) (v, after) e in
        ap (λ (r : Result (S × List ℕ) ℕ). lifted r >>- after_line bytes) b.1
        ∙ ap (λ (t : Bool). cond t (Err (stop.TooLong (length bytes))) (lifted (rest b.0.0 b.0.1))) (back b.0.0 b.0.1 v after b.2 g)
        ∙ ap lifted b.2;
    stops = λ front text more l.
        let bytes : List ℕ = front ++ (text ++ more) in
        let same : bytes ≡ text ++ more = ap (λ (y : List ℕ). y ++ (text ++ more)) l.0 in
        let read : line bytes ≡ Ok (l.1, more) = ap line same ∙ m.only text more l.1 l.2 (any_next more) in
        ap (λ (r : Result (S × List ℕ) ℕ). lifted r >>- after_line bytes) read
        ∙ ap (λ (b : Bool). cond b (Err (stop.TooLong (length bytes))) (lifted (rest l.1 more))) l.3
        ∙ ap (λ (y : List ℕ). Err (stop.TooLong (length y))) same;
  }

-- ---- where a byte of the class comes

abbrev pub GoodOption : {V : Type 0} → (V → Type 0) → Option V → Type 0
GoodOption Good None = Unit {0}
GoodOption Good (Some v) = Good v

module _ {V : Type 0} {Good : V → Type 0} {Long : List ℕ → List ℕ → Type 0} {p : List ℕ → Result (V × List ℕ) ℕ} {c : List ℕ → Result (V × List ℕ) Stop} (class : ℕ → Bool) (k : Checks Good Long p c)
    (heads : (front line more : List ℕ) → Long front line → starts_in class (front ++ (line ++ more)) ≡ true) where
  option_ok : (b : Bool) (bytes : List ℕ) (o : Option V) (rest : List ℕ) → optional_step_if b c bytes ≡ Ok (o, rest) → (optional_if b p bytes ≡ Ok (o, rest)) × GoodOption Good o
  option_ok true bytes o rest e =
      let t = then_ok (c bytes) (λ a. Ok (Some a.0, a.1)) (o, rest) e in
      let r = k.ok bytes t.0.0 t.0.1 t.1 in
      let pair : (Some t.0.0, t.0.1) ≡ (o, rest) = value_is _ _ t.2 in
      (ap (λ (r : Result (V × List ℕ) ℕ). r >>= λ a. Ok (Some a.0, a.1)) r.0 ∙ ap (λ (a : Option V × List ℕ). Ok a) pair, subst (λ (a : Option V × List ℕ). GoodOption Good a.0) pair r.1)
  option_ok false bytes o rest e =
      let pair : (None, bytes) ≡ (o, rest) = value_is _ _ e in
      (ap (λ (a : Option V × List ℕ). Ok a) pair, subst (λ (a : Option V × List ℕ). GoodOption Good a.0) pair tt)

  option_left : (b : Bool) (bytes : List ℕ) (n : ℕ) → optional_step_if b c bytes ≡ Err (stop.Left n) → optional_if b p bytes ≡ Err n
  option_left true bytes n e = elim (then_err (c bytes) (λ a. Ok (Some a.0, a.1)) (stop.Left n) e) [
    | inl w ↦ ap (λ (r : Result (V × List ℕ) ℕ). r >>= λ a. Ok (Some a.0, a.1)) (k.left bytes n w)
    | inr t ↦ absurd (value_or _ _ t.2)
  ]
  option_left false bytes n e = absurd (value_or _ _ e)

  option_long : (b : Bool) (bytes : List ℕ) (n : ℕ) → optional_step_if b c bytes ≡ Err (stop.TooLong n) → LongIn Long bytes n
  option_long true bytes n e = elim (then_err (c bytes) (λ a. Ok (Some a.0, a.1)) (stop.TooLong n) e) [
    | inl w ↦ k.long bytes n w
    | inr t ↦ absurd (value_or _ _ t.2)
  ]
  option_long false bytes n e = absurd (value_or _ _ e)

  option_only : (b : Bool) (bytes : List ℕ) (o : Option V) (rest : List ℕ) → optional_if b p bytes ≡ Ok (o, rest) → GoodOption Good o → optional_step_if b c bytes ≡ Ok (o, rest)
  option_only true bytes o rest e g =
      let t = bind_ok (p bytes) (λ a. Ok (Some a.0, a.1)) (o, rest) e in
      let pair : (Some t.0.0, t.0.1) ≡ (o, rest) = ok_pair _ _ t.2 in
      let good : Good t.0.0 = subst (λ (a : Option V × List ℕ). GoodOption Good a.0) (sym pair) g in
      ap (λ (r : Result (V × List ℕ) Stop). r >>- λ a. Ok (Some a.0, a.1)) (k.only bytes t.0.0 t.0.1 t.1 good) ∙ ap (λ (a : Option V × List ℕ). Ok a) pair
    where
      ok_pair : (a b : Option V × List ℕ) → ◌≡◌ {A = Result (Option V × List ℕ) ℕ} (Ok a) (Ok b) → a ≡ b
      ok_pair a b e = cc
  option_only false bytes o rest e g = ap (λ (a : Option V × List ℕ). Ok a) (ok_pair _ _ e)
    where
      ok_pair : (a b : Option V × List ℕ) → ◌≡◌ {A = Result (Option V × List ℕ) ℕ} (Ok a) (Ok b) → a ≡ b
      ok_pair a b e = cc

  pub checks_optional : Checks (GoodOption Good) Long (optional_read class p) (λ bytes. optional_step_if (starts_in class bytes) c bytes)
  unfolding optional_read
  checks_optional = record {
    ok = λ bytes o rest e. option_ok (starts_in class bytes) bytes o rest e;
    left = λ bytes n e. option_left (starts_in class bytes) bytes n e;
    long = λ bytes n e. option_long (starts_in class bytes) bytes n e;
    only = λ bytes o rest e g. option_only (starts_in class bytes) bytes o rest e g;
    stops = λ front line more l.
        let bytes : List ℕ = front ++ (line ++ more) in
        ap (λ (b : Bool). optional_step_if b c bytes) (heads front line more l)
        ∙ ap (λ (r : Result (V × List ℕ) Stop). r >>- λ a. Ok (Some a.0, a.1)) (k.stops front line more l);
  }

-- ---- one after the other

-- a turn with a value
abbrev pub Further : {V : Type 0} → (List ℕ → Option V → Type 0) → List ℕ → V → Type 0
Further L text v = L text (Some v)

-- texts that are good, and then such a line
pub record LongEach {V : Type 0} (L : List ℕ → V → Type 0) (Good : V → Type 0) (Long : List ℕ → List ℕ → Type 0) (front line : List ℕ) : Type 0 where
  pub values : List V
  pub first : List ℕ
  pub second : List ℕ
  pub joined : front ≡ first ++ second
  pub are : Each L first values
  pub good : All Good values
  pub such : Long second line

module _ {V : Type 0} {L : List ℕ → Option V → Type 0} {F : Option V → ℕ → Bool} {Good : V → Type 0} {Long : List ℕ → List ℕ → Type 0} {p : List ℕ → Result (Option V × List ℕ) ℕ} {c : List ℕ → Result (Option V × List ℕ) Stop}
    (m : Meets L F p) (grows : (x : List ℕ) (v : V) → L x (Some v) → 0 < length x) (follow : (v : V) (r : List ℕ) → Next (F (Some v)) r) (k : Checks (GoodOption Good) Long p c) where
  pub more_less : (bytes : List ℕ) (v : V) (rest : List ℕ) → c bytes ≡ Ok (Some v, rest) → length rest < length bytes
  more_less bytes v rest e = shorter m grows bytes v rest (k.ok bytes (Some v) rest e).0

  each_enough : (i j : ℕ) (bytes : List ℕ) → length bytes < i → length bytes < j → each_in i c bytes ≡ each_in j c bytes
  unfolding each_in
  each_enough zero j bytes lt more = absurd (omega (arith, lt))
  each_enough (suc i) zero bytes lt more = absurd (omega (arith, more))
  each_enough (suc i) (suc j) bytes lt more = go (λ rest l k. each_enough i j rest l k) (c bytes) refl
    where
      go : ((rest : List ℕ) → length rest < i → length rest < j → each_in i c rest ≡ each_in j c rest) → (r : Result (Option V × List ℕ) Stop) → c bytes ≡ r → (r >>- λ a. with_others a.0 a.1 (each_in i c a.1)) ≡ (r >>- λ a. with_others a.0 a.1 (each_in j c a.1))
      go again (Ok (None, rest)) e = refl
      go again (Ok (Some v, rest)) e =
          let less : length rest < length bytes = more_less bytes v rest e in
          ap (with_others (Some v) rest) (again rest (omega (arith, less, lt)) (omega (arith, less, more)))
      go again (Err s) e = refl

  -- one turn, and those after it
  pub each_next : (bytes : List ℕ) → each_step c bytes ≡ (c bytes >>- λ a. with_others a.0 a.1 (each_step c a.1))
  unfolding each_in each_step
  each_next bytes = go (c bytes) refl
    where
      go : (r : Result (Option V × List ℕ) Stop) → c bytes ≡ r → (r >>- λ a. with_others a.0 a.1 (each_in (length bytes) c a.1)) ≡ (r >>- λ a. with_others a.0 a.1 (each_in (suc (length a.1)) c a.1))
      go (Ok (None, rest)) e = refl
      go (Ok (Some v, rest)) e =
          let less : length rest < length bytes = more_less bytes v rest e in
          ap (with_others (Some v) rest) (each_enough (length bytes) (suc (length rest)) rest less (omega arith))
      go (Err s) e = refl

  turn_is : (bytes : List ℕ) (r : Result (Option V × List ℕ) ℕ) → p bytes ≡ r → turns_read p bytes ≡ (r >>= λ a. with_turns a.0 a.1 (turns_read p a.1))
  turn_is bytes r e = turns_step m grows bytes ∙ ap (λ (r : Result (Option V × List ℕ) ℕ). r >>= λ a. with_turns a.0 a.1 (turns_read p a.1)) e

  next_is : (bytes : List ℕ) (r : Result (Option V × List ℕ) Stop) → c bytes ≡ r → each_step c bytes ≡ (r >>- λ a. with_others a.0 a.1 (each_step c a.1))
  next_is bytes r e = each_next bytes ∙ ap (λ (r : Result (Option V × List ℕ) Stop). r >>- λ a. with_others a.0 a.1 (each_step c a.1)) e

  -- what is said of all turns
  abbrev EachSays : List ℕ → Result (List V × List ℕ) Stop → Type 0
  EachSays bytes (Ok (vs, rest)) = (turns_read p bytes ≡ Ok (vs, rest)) × All Good vs
  EachSays bytes (Err (stop.Left n)) = turns_read p bytes ≡ Err n
  EachSays bytes (Err (stop.TooLong n)) = LongIn (LongEach (Further L) Good Long) bytes n

  says_later : (bytes : List ℕ) (v : V) (rest : List ℕ) → p bytes ≡ Ok (Some v, rest) → Good v → (r : Result (List V × List ℕ) Stop) → EachSays rest r → EachSays bytes (with_others (Some v) rest r)
  says_later bytes v rest e g (Ok (vs, after)) w = (turn_is bytes (Ok (Some v, rest)) e ∙ ap (with_turns (Some v) rest) w.0, All-cons Good v vs g w.1)
  says_later bytes v rest e g (Err (stop.Left n)) w = turn_is bytes (Ok (Some v, rest)) e ∙ ap (with_turns (Some v) rest) w
  says_later bytes v rest e g (Err (stop.TooLong n)) w =
      let s = m.ok bytes (Some v) rest e in
      record {
        front = s.0 ++ w.front;
        line = w.line;
        more = w.more;
        joined = s.1 ∙ ap (λ (y : List ℕ). s.0 ++ y) w.joined ∙ sym (append_assoc s.0 w.front (w.line ++ w.more));
        such = record {
          values = v ∷ w.such.values;
          first = s.0 ++ w.such.first;
          second = w.such.second;
          joined = ap (λ (y : List ℕ). s.0 ++ y) w.such.joined ∙ sym (append_assoc s.0 w.such.first w.such.second);
          are = (s.0, w.such.first, refl, s.2, w.such.are);
          good = All-cons Good v w.such.values g w.such.good;
          such = w.such.such;
        };
        count = w.count;
      }

  says_in : (i : ℕ) (bytes : List ℕ) → length bytes < i → EachSays bytes (each_in i c bytes)
  unfolding each_in
  says_in zero bytes lt = absurd (omega (arith, lt))
  says_in (suc i) bytes lt = go (λ rest l. says_in i rest l) (c bytes) refl
    where
      go : ((rest : List ℕ) → length rest < i → EachSays rest (each_in i c rest)) → (r : Result (Option V × List ℕ) Stop) → c bytes ≡ r → EachSays bytes (r >>- λ a. with_others a.0 a.1 (each_in i c a.1))
      go again (Ok (None, rest)) e = (turn_is bytes (Ok (None, rest)) (k.ok bytes None rest e).0, All-nil Good)
      go again (Ok (Some v, rest)) e =
          let o = k.ok bytes (Some v) rest e in
          says_later bytes v rest o.0 o.1 (each_in i c rest) (again rest (omega (arith, more_less bytes v rest e, lt)))
      go again (Err (stop.Left n)) e = turn_is bytes (Err n) (k.left bytes n e)
      go again (Err (stop.TooLong n)) e =
          let l = k.long bytes n e in
          record {
            front = l.front;
            line = l.line;
            more = l.more;
            joined = l.joined;
            such = record { values = []; first = []; second = l.front; joined = refl; are = refl; good = All-nil Good; such = l.such };
            count = l.count;
          }

  each_says : (bytes : List ℕ) → EachSays bytes (each_step c bytes)
  unfolding each_step
  each_says bytes = says_in (suc (length bytes)) bytes (omega arith)

  says_at : (bytes : List ℕ) (r : Result (List V × List ℕ) Stop) → each_step c bytes ≡ r → EachSays bytes r
  says_at bytes r e = subst (λ (r : Result (List V × List ℕ) Stop). EachSays bytes r) e (each_says bytes)

  ok_is : (a b : List V × List ℕ) → ◌≡◌ {A = Result (List V × List ℕ) ℕ} (Ok a) (Ok b) → a ≡ b
  ok_is a b e = cc

  -- values before, and what the rest gives
  abbrev with_before : List V → Result (List V × List ℕ) Stop → Result (List V × List ℕ) Stop
  with_before vs r = r >>- λ b. Ok (vs ++ b.0, b.1)

  before_none : (r : Result (List V × List ℕ) Stop) → r ≡ with_before [] r
  before_none (Ok b) = refl
  before_none (Err s) = refl

  before_more : (v : V) (vs : List V) (rest : List ℕ) (r : Result (List V × List ℕ) Stop) → with_others (Some v) rest (with_before vs r) ≡ with_before (v ∷ vs) r
  before_more v vs rest (Ok b) = refl
  before_more v vs rest (Err s) = refl

  -- good texts, and what comes after them
  each_good : (vs : List V) (x rest : List ℕ) → Each (Further L) x vs → All Good vs → each_step c (x ++ rest) ≡ with_before vs (each_step c rest)
  each_good [] x rest h all = ap (λ (y : List ℕ). each_step c (y ++ rest)) h ∙ before_none (each_step c rest)
  each_good (v ∷ vs) x rest h all =
      let after : List ℕ = h.1 ++ rest in
      let text : x ++ rest ≡ h.0 ++ after = ap (λ (y : List ℕ). y ++ rest) h.2 ∙ append_assoc h.0 h.1 rest in
      let one : p (h.0 ++ after) ≡ Ok (Some v, after) = m.only h.0 after (Some v) h.3 (follow v after) in
      let two : c (h.0 ++ after) ≡ Ok (Some v, after) = k.only (h.0 ++ after) (Some v) after one (All-head Good v vs all) in
      ap (each_step c) text
      ∙ next_is (h.0 ++ after) (Ok (Some v, after)) two
      ∙ ap (with_others (Some v) after) (each_good vs h.1 rest h.4 (All-tail Good v vs all))
      ∙ before_more v vs after (each_step c rest)

  -- what the form gives is given, where it is good
  only_none : (bytes rest : List ℕ) → turns_read p bytes ≡ Ok ([], rest) → each_step c bytes ≡ Ok ([], rest)
  only_none bytes rest e = go (p bytes) refl (sym (turns_step m grows bytes) ∙ e)
    where
      go : (r : Result (Option V × List ℕ) ℕ) → p bytes ≡ r → (r >>= λ a. with_turns a.0 a.1 (turns_read p a.1)) ≡ Ok ([], rest) → each_step c bytes ≡ Ok ([], rest)
      go (Err n) r f = absurd (cc f)
      go (Ok (None, after)) r f =
          next_is bytes (Ok (None, after)) (k.only bytes None after r tt) ∙ ap (λ (a : List V × List ℕ). Ok a) (ok_is _ _ f)
      go (Ok (Some v, after)) r f =
          let b = bind_ok (turns_read p after) (λ b. Ok (v ∷ b.0, b.1)) ([], rest) f in
          none v b.0.0 (ap (λ (a : List V × List ℕ). a.0) (ok_is (v ∷ b.0.0, b.0.1) ([], rest) b.2))
        where
          none : (v : V) (vs : List V) → v ∷ vs ≡ [] → each_step c bytes ≡ Ok ([], rest)
          none v vs e = absurd cc

  abbrev IsOnly : List V → List ℕ → List ℕ → Type 0
  IsOnly vs bytes rest = turns_read p bytes ≡ Ok (vs, rest) → All Good vs → each_step c bytes ≡ Ok (vs, rest)

  only_more : (w : V) (ws : List V) (bytes rest : List ℕ) → ((after : List ℕ) → IsOnly ws after rest) → IsOnly (w ∷ ws) bytes rest
  only_more w ws bytes rest again e all = go (p bytes) refl (sym (turns_step m grows bytes) ∙ e)
    where
      go : (r : Result (Option V × List ℕ) ℕ) → p bytes ≡ r → (r >>= λ a. with_turns a.0 a.1 (turns_read p a.1)) ≡ Ok (w ∷ ws, rest) → each_step c bytes ≡ Ok (w ∷ ws, rest)
      go (Err n) r f = absurd (cc f)
      go (Ok (None, after)) r f = none (ap (λ (a : List V × List ℕ). a.0) (ok_is ([], after) (w ∷ ws, rest) f))
        where
          none : [] ≡ w ∷ ws → each_step c bytes ≡ Ok (w ∷ ws, rest)
          none e = absurd cc
      go (Ok (Some v, after)) r f =
          let b = bind_ok (turns_read p after) (λ b. Ok (v ∷ b.0, b.1)) (w ∷ ws, rest) f in
          let pair = ok_is (v ∷ b.0.0, b.0.1) (w ∷ ws, rest) b.2 in
          let values : v ∷ b.0.0 ≡ w ∷ ws = ap (λ (a : List V × List ℕ). a.0) pair in
          let same : v ≡ w = cc in
          let others : b.0.0 ≡ ws = cc in
          let end : b.0.1 ≡ rest = ap (λ (a : List V × List ℕ). a.1) pair in
          let g : Good v = subst Good (sym same) (All-head Good w ws all) in
          next_is bytes (Ok (Some v, after)) (k.only bytes (Some v) after r g)
          ∙ ap (with_others (Some v) after) (again after (b.1 ∙ ap (λ (a : List V × List ℕ). Ok a) (λ i. (others i, end i))) (All-tail Good w ws all))
          ∙ ap (λ (u : V). Ok (u ∷ ws, rest)) same

  only_in : (vs : List V) (bytes rest : List ℕ) → IsOnly vs bytes rest
  only_in [] bytes rest e all = only_none bytes rest e
  only_in (w ∷ ws) bytes rest e all = only_more w ws bytes rest (λ after. only_in ws after rest) e all

  pub checks_each : Checks (All Good) (LongEach (Further L) Good Long) (turns_read p) (each_step c)
  checks_each = record {
    ok = λ bytes vs rest e. says_at bytes (Ok (vs, rest)) e;
    left = λ bytes n e. says_at bytes (Err (stop.Left n)) e;
    long = λ bytes n e. says_at bytes (Err (stop.TooLong n)) e;
    only = λ bytes vs rest e all. only_in vs bytes rest e all;
    stops = λ front line more l.
        let rest : List ℕ = l.second ++ (line ++ more) in
        let text : front ++ (line ++ more) ≡ l.first ++ rest = ap (λ (y : List ℕ). y ++ (line ++ more)) l.joined ∙ append_assoc l.first l.second (line ++ more) in
        ap (each_step c) text
        ∙ each_good l.values l.first rest l.are l.good
        ∙ ap (with_before l.values) (next_is rest (Err (stop.TooLong (length (line ++ more)))) (k.stops l.second line more l.such));
  }

-- ---- one reader after another

-- such a line is in the text of the first, or it comes after that text in that of the second
pub data LongThen {U : Type 0} (K : List ℕ → U → Type 0) (Good : U → Type 0) (One : List ℕ → List ℕ → Type 0) (Two : U → List ℕ → List ℕ → Type 0) (front line : List ℕ) : Type 0 where
  in_first : One front line → LongThen K Good One Two front line
  in_second : (u : U) (x y : List ℕ) → front ≡ x ++ y → K x u → Good u → Two u y line → LongThen K Good One Two front line

module _ {U V : Type 0} {K : List ℕ → U → Type 0} {F : U → ℕ → Bool} {Good : U → Type 0} {GoodThen : U → V → Type 0} {One : List ℕ → List ℕ → Type 0} {Two : U → List ℕ → List ℕ → Type 0}
    {p : List ℕ → Result (U × List ℕ) ℕ} {c : List ℕ → Result (U × List ℕ) Stop} {q : U → List ℕ → Result (V × List ℕ) ℕ} {d : U → List ℕ → Result (V × List ℕ) Stop}
    (m : Meets K F p) (j : Checks Good One p c) (k : (u : U) → Checks (GoodThen u) (Two u) (q u) (d u)) (All : V → Type 0)
    (joins : (u : U) (bytes : List ℕ) (v : V) (rest : List ℕ) → q u bytes ≡ Ok (v, rest) → Good u → GoodThen u v → All v)
    (parts : (u : U) (bytes : List ℕ) (v : V) (rest : List ℕ) → q u bytes ≡ Ok (v, rest) → All v → Good u × GoodThen u v)
    (follow : (u : U) (y line more : List ℕ) → Two u y line → Next (F u) (y ++ (line ++ more))) where
  pub checks_then : Checks All (LongThen K Good One Two) (then_read p q) (λ bytes. c bytes >>- λ a. d a.0 a.1)
  checks_then = record {
    ok = λ bytes v rest e.
        let t = then_ok (c bytes) (λ a. d a.0 a.1) (v, rest) e in
        let one = j.ok bytes t.0.0 t.0.1 t.1 in
        let two = (k t.0.0).ok t.0.1 v rest t.2 in
        (ap (λ (r : Result (U × List ℕ) ℕ). r >>= λ a. q a.0 a.1) one.0 ∙ two.0, joins t.0.0 t.0.1 v rest two.0 one.1 two.1);
    left = λ bytes n e. elim (then_err (c bytes) (λ a. d a.0 a.1) (stop.Left n) e) [
      | inl w ↦ ap (λ (r : Result (U × List ℕ) ℕ). r >>= λ a. q a.0 a.1) (j.left bytes n w)
      | inr t ↦ ap (λ (r : Result (U × List ℕ) ℕ). r >>= λ a. q a.0 a.1) (j.ok bytes t.0.0 t.0.1 t.1).0 ∙ (k t.0.0).left t.0.1 n t.2
    ];
    long = λ bytes n e. elim (then_err (c bytes) (λ a. d a.0 a.1) (stop.TooLong n) e) [
      | inl w ↦
          let l = j.long bytes n w in
          record { front = l.front; line = l.line; more = l.more; joined = l.joined; such = in_first l.such; count = l.count }
      | inr t ↦
          let one = j.ok bytes t.0.0 t.0.1 t.1 in
          let s = m.ok bytes t.0.0 t.0.1 one.0 in
          let l = (k t.0.0).long t.0.1 n t.2 in
          record {
            front = s.0 ++ l.front;
            line = l.line;
            more = l.more;
            joined = s.1 ∙ ap (λ (y : List ℕ). s.0 ++ y) l.joined ∙ sym (append_assoc s.0 l.front (l.line ++ l.more));
            such = in_second t.0.0 s.0 l.front refl s.2 one.1 l.such;
            count = l.count;
          }
    ];
    only = λ bytes v rest e g.
        let b = bind_ok (p bytes) (λ a. q a.0 a.1) (v, rest) e in
        let both = parts b.0.0 b.0.1 v rest b.2 g in
        ap (λ (r : Result (U × List ℕ) Stop). r >>- λ a. d a.0 a.1) (j.only bytes b.0.0 b.0.1 b.1 both.0) ∙ (k b.0.0).only b.0.1 v rest b.2 both.1;
    stops = stops;
  }
    where
      stops : (front line more : List ℕ) → LongThen K Good One Two front line → (c (front ++ (line ++ more)) >>- λ a. d a.0 a.1) ≡ Err (stop.TooLong (length (line ++ more)))
      stops front line more (in_first l) = ap (λ (r : Result (U × List ℕ) Stop). r >>- λ a. d a.0 a.1) (j.stops front line more l)
      stops front line more (in_second u x y e is g l) =
          let rest : List ℕ = y ++ (line ++ more) in
          let text : front ++ (line ++ more) ≡ x ++ rest = ap (λ (z : List ℕ). z ++ (line ++ more)) e ∙ append_assoc x y (line ++ more) in
          let one : c (x ++ rest) ≡ Ok (u, rest) = j.only (x ++ rest) u rest (m.only x rest u is (follow u y line more l)) g in
          ap (λ (z : List ℕ). c z >>- λ a. d a.0 a.1) text
          ∙ ap (λ (r : Result (U × List ℕ) Stop). r >>- λ a. d a.0 a.1) one
          ∙ (k u).stops y line more l

-- ---- the same with other values

module _ {V W : Type 0} {Good : V → Type 0} {Long : List ℕ → List ℕ → Type 0} {p : List ℕ → Result (V × List ℕ) ℕ} {c : List ℕ → Result (V × List ℕ) Stop} (k : Checks Good Long p c) (f : V → W) (GoodTo : W → Type 0)
    (to : (v : V) → Good v → GoodTo (f v)) (back : (v : V) → GoodTo (f v) → Good v) where
  ok_pair : (a b : W × List ℕ) → ◌≡◌ {A = Result (W × List ℕ) ℕ} (Ok a) (Ok b) → a ≡ b
  ok_pair a b e = cc

  pub checks_map : Checks GoodTo Long (λ bytes. p bytes >>= λ a. Ok (f a.0, a.1)) (λ bytes. c bytes >>- λ a. Ok (f a.0, a.1))
  checks_map = record {
    ok = λ bytes w rest e.
        let t = then_ok (c bytes) (λ a. Ok (f a.0, a.1)) (w, rest) e in
        let one = k.ok bytes t.0.0 t.0.1 t.1 in
        let pair : (f t.0.0, t.0.1) ≡ (w, rest) = value_is _ _ t.2 in
        (ap (λ (r : Result (V × List ℕ) ℕ). r >>= λ a. Ok (f a.0, a.1)) one.0 ∙ ap (λ (a : W × List ℕ). Ok a) pair, subst (λ (a : W × List ℕ). GoodTo a.0) pair (to t.0.0 one.1));
    left = λ bytes n e. elim (then_err (c bytes) (λ a. Ok (f a.0, a.1)) (stop.Left n) e) [
      | inl w ↦ ap (λ (r : Result (V × List ℕ) ℕ). r >>= λ a. Ok (f a.0, a.1)) (k.left bytes n w)
      | inr t ↦ absurd (value_or _ _ t.2)
    ];
    long = λ bytes n e. elim (then_err (c bytes) (λ a. Ok (f a.0, a.1)) (stop.TooLong n) e) [
      | inl w ↦ k.long bytes n w
      | inr t ↦ absurd (value_or _ _ t.2)
    ];
    only = λ bytes w rest e g.
        let b = bind_ok (p bytes) (λ a. Ok (f a.0, a.1)) (w, rest) e in
        let pair : (f b.0.0, b.0.1) ≡ (w, rest) = ok_pair _ _ b.2 in
        let good : Good b.0.0 = back b.0.0 (subst (λ (a : W × List ℕ). GoodTo a.0) (sym pair) g) in
        ap (λ (r : Result (V × List ℕ) Stop). r >>- λ a. Ok (f a.0, a.1)) (k.only bytes b.0.0 b.0.1 b.1 good) ∙ ap (λ (a : W × List ℕ). Ok a) pair;
    stops = λ front line more l. ap (λ (r : Result (V × List ℕ) Stop). r >>- λ a. Ok (f a.0, a.1)) (k.stops front line more l);
  }
