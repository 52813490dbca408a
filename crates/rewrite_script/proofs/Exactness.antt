-- Readers that read exactly the texts of values.
use Rattle.std.proofs.Common.{◌≡◌, ◌⊎◌, inl, inr, ℕ, Bool, true, false, cond, not, ◌&&◌, List, ◌∷◌, ◌++◌, Option, Some, None, codes, refl, sym, ap, subst, ◌∙◌, bytes_eq}
use Rattle.std.specs.List.{list_all}
use Rattle.std.proofs.lemmas.Bool.{cases_Bool, and_parts, and_from}
use Rattle.std.proofs.lemmas.Slice.Eq.{bytes_eq-Decides}
use Rattle.byte_grammar.specs.Classes.{is_line_byte, is_one_of}
use Rattle.byte_grammar.proofs.ChoiceLaws.{of_each}
use Rattle.byte_grammar.proofs.ListLaws.{all_joined}
use Rattle.rewrite_script.specs.declared.rewrite.Rewrite.{Rewrite}
use Rattle.rewrite_script.specs.Lines.{is_writable, rewrite_words}
use Rattle.rewrite_script.specs.tools.LineWalk.{◌>>=◌, cut_read, first_read, some_if, spaced, then_read}
use Rattle.rewrite_script.proofs.Cuts.{but, cut_found, cut_sound}

-- The reader reads the text of each value that is right, and nothing else; the texts break no line.
pub record IsExact {V : Type 0} (text : V → List ℕ) (right : V → Bool) (read : List ℕ → Option V) : Type 0 where
  pub sound : (bytes : List ℕ) (v : V) → read bytes ≡ Some v → (right v ≡ true) × (bytes ≡ text v)
  pub complete : (v : V) → right v ≡ true → read (text v) ≡ Some v
  pub clean : (v : V) → right v ≡ true → list_all is_line_byte (text v) ≡ true

pub some_is : {X : Type 0} (x y : X) → Some x ≡ Some y → x ≡ y
some_is x y e = cc

pub bind_some : {A B : Type 0} (o : Option A) (f : A → Option B) (y : B) → (o >>= f) ≡ Some y → (x : A) × (o ≡ Some x) × (f x ≡ Some y)
bind_some (Some x) f y e = (x, refl, e)
bind_some None f y e = absurd cc

-- a byte of a class with no NUL, CR and LF breaks no line
pub line_byte_of : (class : ℕ → Bool) → list_all (λ c. not (class c)) (codes "\0\r\n") ≡ true → (c : ℕ) → class c ≡ true → is_line_byte c ≡ true
line_byte_of class none c is = elim (cases_Bool (is_one_of (codes "\0\r\n") c)) [
  | inl ends ↦ let other : not (class c) ≡ true = of_each (λ d. not (class d)) (codes "\0\r\n") none c ends in absurd (cc (rw is at other))
  | inr inside ↦ rw inside refl
]

-- ---- a text up to the first such byte, and what comes after it

module _ {V : Type 0} {text : V → List ℕ} {right : V → Bool} {read : List ℕ → Option V} (exact : IsExact text right read)
    (end : ℕ) (is_end : but end end ≡ false) (free : (v : V) → right v ≡ true → list_all (but end) (text v) ≡ true) where
  pub first_sound : (bytes : List ℕ) (v : V) (rest : List ℕ) → first_read end read bytes ≡ Some (v, rest) → (right v ≡ true) × (bytes ≡ text v ++ end ∷ rest)
  unfolding first_read
  first_sound bytes v rest e =
      let w = bind_some (cut_read end bytes) (λ w. read w.0 >>= λ v. Some (v, w.1)) (v, rest) e in
      let u = bind_some (read w.0.0) (λ v. Some (v, w.0.1)) (v, rest) w.2 in
      let pair : (u.0, w.0.1) ≡ (v, rest) = some_is _ _ u.2 in
      let cut : bytes ≡ w.0.0 ++ end ∷ w.0.1 = cut_sound end bytes w.0 w.1 in
      let s = exact.sound w.0.0 u.0 u.1 in
      subst (λ (a : V × List ℕ). (right a.0 ≡ true) × (bytes ≡ text a.0 ++ end ∷ a.1)) pair
      (s.0, cut ∙ ap (λ (y : List ℕ). y ++ end ∷ w.0.1) s.1)

  pub first_complete : (v : V) (rest : List ℕ) → right v ≡ true → first_read end read (text v ++ end ∷ rest) ≡ Some (v, rest)
  unfolding first_read
  first_complete v rest is =
      ap (λ (o : Option (List ℕ × List ℕ)). o >>= λ w. read w.0 >>= λ v. Some (v, w.1)) (cut_found end (text v) end rest (free v is) is_end)
      ∙ ap (λ (o : Option V). o >>= λ u. Some (u, rest)) (exact.complete v is)

-- ---- words, with SP between them

module _ {U V : Type 0} {t : U → List ℕ} {r : U → Bool} {p : List ℕ → Option U} {s : V → List ℕ} {k : V → Bool} {q : List ℕ → Option V}
    (first : IsExact t r p) (free : (u : U) → r u ≡ true → list_all (but 32) (t u) ≡ true) (second : IsExact s k q) where
  pub then_exact : IsExact (λ a. t a.0 ++ 32 ∷ s a.1) (λ a. r a.0 && k a.1) (then_read p q)
  unfolding then_read
  then_exact = record {
    sound = λ bytes v e.
        let u = bind_some (first_read 32 p bytes) (λ u. q u.1 >>= λ w. Some (u.0, w)) v e in
        let w = bind_some (q u.0.1) (λ w. Some (u.0.0, w)) v u.2 in
        let same : (u.0.0, w.0) ≡ v = some_is _ _ w.2 in
        let a = first_sound first 32 refl free bytes u.0.0 u.0.1 u.1 in
        let b = second.sound u.0.1 w.0 w.1 in
        subst (λ (x : U × V). ((r x.0 && k x.1) ≡ true) × (bytes ≡ t x.0 ++ 32 ∷ s x.1)) same
        (and_from (r u.0.0) (k w.0) a.0 b.0, a.1 ∙ ap (λ (y : List ℕ). t u.0.0 ++ 32 ∷ y) b.1);
    complete = λ v is.
        let both = and_parts (r v.0) (k v.1) is in
        ap (λ (o : Option (U × List ℕ)). o >>= λ u. q u.1 >>= λ w. Some (u.0, w)) (first_complete first 32 refl free v.0 (s v.1) both.0)
        ∙ ap (λ (o : Option V). o >>= λ w. Some (v.0, w)) (second.complete v.1 both.1);
    clean = λ v is.
        let both = and_parts (r v.0) (k v.1) is in
        all_joined is_line_byte (t v.0) (32 ∷ s v.1) (first.clean v.0 both.0) (second.clean v.1 both.1);
  }

-- ---- texts that are their own values

pub some_if_is : {V : Type 0} (b : Bool) (v w : V) → some_if b v ≡ Some w → (b ≡ true) × (v ≡ w)
some_if_is true v w e = (refl, cc)
some_if_is false v w e = absurd cc

pub itself_exact : (test : List ℕ → Bool) → ((text : List ℕ) → test text ≡ true → list_all is_line_byte text ≡ true) → IsExact (λ text. text) test (λ text. some_if (test text) text)
itself_exact test clean = record {
  sound = λ bytes v e. let is = some_if_is (test bytes) bytes v e in (ap test (sym is.1) ∙ is.0, is.1);
  complete = λ v is. ap (λ (b : Bool). some_if b v) is;
  clean = clean;
}

-- ---- a kind, whose word comes first

abbrev pub IsWrittenBy : List ℕ → Rewrite → Type 0
IsWrittenBy line rewrite = (is_writable rewrite ≡ true) × (line ≡ spaced (rewrite_words rewrite))

pub made_sound : {V : Type 0} {text : V → List ℕ} {right : V → Bool} {read : List ℕ → Option V} → IsExact text right read → (make : V → Rewrite) (kind : List ℕ)
    → ((v : V) → right v ≡ true → IsWrittenBy (kind ++ 32 ∷ text v) (make v))
    → (rest : List ℕ) (rewrite : Rewrite) → (read rest >>= λ v. Some (make v)) ≡ Some rewrite → IsWrittenBy (kind ++ 32 ∷ rest) rewrite
made_sound {V} {text} {right} {read} exact make kind written rest rewrite e =
    let u = bind_some (read rest) (λ v. Some (make v)) rewrite e in
    let s = exact.sound rest u.0 u.1 in
    let same : make u.0 ≡ rewrite = some_is _ _ u.2 in
    let line = written u.0 s.0 in
    subst (IsWrittenBy (kind ++ 32 ∷ rest)) same (line.0, ap (λ (y : List ℕ). kind ++ 32 ∷ y) s.1 ∙ line.1)

-- a line of one word
pub word_is : (line word : List ℕ) (made rewrite : Rewrite) → bytes_eq line word ≡ true → Some made ≡ Some rewrite → IsWrittenBy word made → IsWrittenBy line rewrite
word_is line word made rewrite is e written = subst (IsWrittenBy line) (some_is _ _ e) (written.0, (bytes_eq-Decides line word).0 is ∙ written.1)

pub kind_is : (kind word rest : List ℕ) (rewrite : Rewrite) → bytes_eq kind word ≡ true → IsWrittenBy (word ++ 32 ∷ rest) rewrite → IsWrittenBy (kind ++ 32 ∷ rest) rewrite
kind_is kind word rest rewrite is written = (written.0, ap (λ (k : List ℕ). k ++ 32 ∷ rest) ((bytes_eq-Decides kind word).0 is) ∙ written.1)

pub choice : {V : Type 0} (b : Bool) (x y : Option V) (v : V) → cond b x y ≡ Some v → ((b ≡ true) × (x ≡ Some v)) ⊎ (y ≡ Some v)
choice true x y v e = inl (refl, e)
choice false x y v e = inr e
