-- Lists of lines with one line of a name.
use Rattle.std.proofs.Common.{◌≡◌, ◌⊎◌, ℕ, zero, suc, ◌+◌, ◌<◌, Bool, true, false, ◌||◌, Option, Some, List, [], ◌∷◌, ◌++◌, length, get_or, take, drop, refl, sym, ap, subst, ◌∙◌, inl, inr, arith}
use Rattle.std.specs.Prelude.{IsSomeAnd, slice_get}
use Rattle.std.proofs.lemmas.Bool.{cases_Bool, false≢true, or_left, or_right}
use Rattle.std.proofs.lemmas.Slice.Eq.{bytes_eq-Decides}
use Rattle.std.proofs.Math.Seq.{take-append_seam, drop-append_seam}
use Rattle.msg_head.specs.Lines.{FieldLine}
use Rattle.msg_head.specs.Names.{has_name}
use Rattle.msg_head.specs.Values.{is_there}
use Rattle.msg_body.specs.SameFields.{name_of}
use Rattle.whole_rewrites.specs.Lines.{IsLineFor}
use Rattle.whole_rewrites.specs.tools.HeadLines.{IsOnly}

-- ---- lists in parts

parts_at : {A : Type 0} (xs ys us vs : List A) → length xs ≡ length us → xs ++ ys ≡ us ++ vs → (xs ≡ us) × (ys ≡ vs)
parts_at xs ys us vs long same = (
  sym (take-append_seam xs ys) ∙ (ap (take (length xs)) same ∙ (ap (λ n. take n (us ++ vs)) long ∙ take-append_seam us vs)),
  sym (drop-append_seam xs ys) ∙ (ap (drop (length xs)) same ∙ (ap (λ n. drop n (us ++ vs)) long ∙ drop-append_seam us vs)),
)

same_first : {A : Type 0} (x y : A) (xs ys : List A) → x ∷ xs ≡ y ∷ ys → x ≡ y
same_first {A} x y xs ys same = ap (λ (l : List A). get_or l 0 x) same

element_at : {A : Type 0} (xs : List A) (y : A) (ys : List A) → slice_get (xs ++ y ∷ ys) (length xs) ≡ Some y
element_at [] y ys = refl
element_at (x ∷ xs) y ys = element_at xs y ys

-- ---- the one line of a name

pub has_own : (name : List ℕ) (line : FieldLine) → name_of line ≡ name → has_name name line ≡ true
has_own name line is = (bytes_eq-Decides (name_of line) name).1 is

pub own_name : (name : List ℕ) (line : FieldLine) → has_name name line ≡ true → name_of line ≡ name
own_name name line is = (bytes_eq-Decides (name_of line) name).0 is

-- a line of the name is where the only one is
pub only_at : (name : List ℕ) (before : List FieldLine) (line : FieldLine) (after : List FieldLine) (index : ℕ) → is_there before name ≡ false → is_there after name ≡ false
    → IsSomeAnd (slice_get (before ++ line ∷ after) index) (λ other. has_name name other ≡ true) → index ≡ length before
only_at name [] line after zero none none_too named = refl
only_at name [] line after (suc index) none none_too named = absurd (false≢true (sym none_too ∙ there after index named))
  where
    there : (lines : List FieldLine) (index : ℕ) → IsSomeAnd (slice_get lines index) (λ other. has_name name other ≡ true) → is_there lines name ≡ true
    there [] index named = absurd named
    there (other ∷ lines) zero named = or_left (has_name name other) (is_there lines name) named
    there (other ∷ lines) (suc index) named = or_right (has_name name other) (is_there lines name) (there lines index named)
only_at name (other ∷ before) line after zero none none_too named = absurd (false≢true (sym none ∙ or_left (has_name name other) (is_there before name) named))
only_at name (other ∷ before) line after (suc index) none none_too named = elim (cases_Bool (has_name name other)) [
  | inl is ↦ absurd (false≢true (sym none ∙ or_left (has_name name other) (is_there before name) is))
  | inr not ↦ ap suc (only_at name before line after index (rw not at none) none_too named)
]

middle_there : (name : List ℕ) (before : List FieldLine) (line : FieldLine) (after : List FieldLine) → has_name name line ≡ true → is_there (before ++ line ∷ after) name ≡ true
middle_there name [] line after is = or_left (has_name name line) (is_there after name) is
middle_there name (other ∷ before) line after is = or_right (has_name name other) (is_there (before ++ line ∷ after) name) (middle_there name before line after is)

-- where it is, by its account
module _ (name : List ℕ) (new : FieldLine) (lines replaced : List FieldLine) (is : IsLineFor name new lines replaced) where
  pub line_there : is_there lines name ≡ true
  line_there = ap (λ (ls : List FieldLine). is_there ls name) is.lines_are ∙ middle_there name is.before is.line is.after (has_own name is.line is.named)

  pub where_only : (index : ℕ) → IsSomeAnd (slice_get lines index) (λ other. has_name name other ≡ true) → index ≡ length is.before
  where_only index named =
      only_at name is.before is.line is.after index is.none_before is.none_after
      (subst (λ (ls : List FieldLine). IsSomeAnd (slice_get ls index) (λ other. has_name name other ≡ true)) is.lines_are named)

  pub here_named : IsSomeAnd (slice_get lines (length is.before)) (λ other. has_name name other ≡ true)
  here_named =
      subst (λ (o : Option FieldLine). IsSomeAnd o (λ other. has_name name other ≡ true))
      (sym (ap (λ (ls : List FieldLine). slice_get ls (length is.before)) is.lines_are ∙ element_at is.before is.line is.after)) (has_own name is.line is.named)

pub one_line_for : (name : List ℕ) (new : FieldLine) (lines replaced others : List FieldLine) → IsLineFor name new lines replaced → IsLineFor name new lines others → replaced ≡ others
one_line_for name new lines replaced others a b =
    let long : length a.before ≡ length b.before = where_only name new lines others b (length a.before) (here_named name new lines replaced a) in
    let parts = parts_at a.before (a.line ∷ a.after) b.before (b.line ∷ b.after) long (sym a.lines_are ∙ b.lines_are) in
    let rest = ap (drop 1) parts.1 in
    a.replaced_are ∙ ((λ i. parts.0 i ++ a.becomes i ∷ rest i) ∙ (ap (λ (l : FieldLine). b.before ++ l ∷ b.after) (sym b.becomes) ∙ sym b.replaced_are))

-- ---- whether there is one

abbrev HasLineFor : List ℕ → FieldLine → List FieldLine → Type 0
HasLineFor name new lines = ((replaced : List FieldLine) × IsLineFor name new lines replaced) ⊎ ((replaced : List FieldLine) → ¬ IsLineFor name new lines replaced)

no_line : (name : List ℕ) (new : FieldLine) (replaced : List FieldLine) → ¬ IsLineFor name new [] replaced
no_line name new replaced is = absurd (false≢true (line_there name new [] replaced is))

first_line : (name : List ℕ) (new line : FieldLine) (lines : List FieldLine) → has_name name line ≡ true → HasLineFor name new (line ∷ lines)
first_line name new line lines named = elim (cases_Bool (is_there lines name)) [
  | inr none ↦ inl (
    new ∷ lines,
    record {
      before = [];
      line = line;
      other = new;
      after = lines;
      lines_are = refl;
      named = own_name name line named;
      none_before = refl;
      none_after = none;
      becomes = refl;
      replaced_are = refl;
    },
  )
  | inl there ↦ inr (λ replaced is.
      let here = where_only name new (line ∷ lines) replaced is 0 named in
      let parts = parts_at [] (line ∷ lines) is.before (is.line ∷ is.after) here is.lines_are in
      false≢true (sym is.none_after ∙ (ap (λ (ls : List FieldLine). is_there (drop 1 ls) name) (sym parts.1) ∙ there)))
]

later_line : (name : List ℕ) (new line : FieldLine) (lines : List FieldLine) → has_name name line ≡ false → HasLineFor name new lines → HasLineFor name new (line ∷ lines)
later_line name new line lines other (inl found) =
    let is = found.1 in
    inl (
      line ∷ found.0,
      record {
        before = line ∷ is.before;
        line = is.line;
        other = is.other;
        after = is.after;
        lines_are = ap (λ (ls : List FieldLine). line ∷ ls) is.lines_are;
        named = is.named;
        none_before = rw other is.none_before;
        none_after = is.none_after;
        becomes = is.becomes;
        replaced_are = ap (λ (ls : List FieldLine). line ∷ ls) is.replaced_are;
      },
    )
later_line name new line lines other (inr none) = inr (λ replaced is. go replaced is is.before is.lines_are is.none_before)
  where
    go : (replaced : List FieldLine) (is : IsLineFor name new (line ∷ lines) replaced) (before : List FieldLine) → line ∷ lines ≡ before ++ is.line ∷ is.after → is_there before name ≡ false → ⊥
    go replaced is [] e first =
        false≢true (sym other ∙ (ap (has_name name) (same_first line is.line lines is.after e) ∙ has_own name is.line is.named))
    go replaced is (b ∷ before) e first =
        none (before ++ new ∷ is.after) (record {
          before = before;
          line = is.line;
          other = new;
          after = is.after;
          lines_are = ap (drop 1) e;
          named = is.named;
          none_before = rest b (has_name name b) refl first;
          none_after = is.none_after;
          becomes = refl;
          replaced_are = refl;
        })
      where
        rest : (b : FieldLine) (t : Bool) → has_name name b ≡ t → (t || is_there before name) ≡ false → is_there before name ≡ false
        rest b true h f = absurd (false≢true (sym f))
        rest b false h f = f

pub line_for_or_not : (name : List ℕ) (new : FieldLine) (lines : List FieldLine) → HasLineFor name new lines
line_for_or_not name new [] = inr (no_line name new)
line_for_or_not name new (line ∷ lines) = elim (cases_Bool (has_name name line)) [
  | inl is ↦ first_line name new line lines is
  | inr other ↦ later_line name new line lines other (line_for_or_not name new lines)
]

-- ---- the one line by its index

pub line_for : (name : List ℕ) (new : FieldLine) (lines : List FieldLine) (index : ℕ) → IsOnly name lines index → IsLineFor name new lines (take index lines ++ new ∷ drop (index + 1) lines)
line_for name new lines index is =
    let next : index + 1 ≡ suc index = omega arith in
    let found = cut_at lines index is.named in
    record {
      before = take index lines;
      line = found.0;
      other = new;
      after = drop (index + 1) lines;
      lines_are = found.1 ∙ ap (λ n. take index lines ++ found.0 ∷ drop n lines) (sym next);
      named = own_name name found.0 found.2;
      none_before = is.none_before;
      none_after = is.none_after;
      becomes = refl;
      replaced_are = refl;
    }
  where
    cut_at : (lines : List FieldLine) (index : ℕ) → IsSomeAnd (slice_get lines index) (λ line. has_name name line ≡ true)
        → (line : FieldLine) × (lines ≡ take index lines ++ line ∷ drop (suc index) lines) × (has_name name line ≡ true)
    cut_at [] index named = absurd named
    cut_at (line ∷ lines) zero named = (line, refl, named)
    cut_at (line ∷ lines) (suc index) named = let rest = cut_at lines index named in (rest.0, ap (λ (ls : List FieldLine). line ∷ ls) rest.1, rest.2)

-- two lines of the name
pub two_lines : (name : List ℕ) (new : FieldLine) (lines : List FieldLine) (one other : ℕ) → one < other → IsSomeAnd (slice_get lines one) (λ line. has_name name line ≡ true)
    → IsSomeAnd (slice_get lines other) (λ line. has_name name line ≡ true) → (replaced : List FieldLine) → ¬ IsLineFor name new lines replaced
two_lines name new lines one other less first second replaced is =
    omega (arith, less, where_only name new lines replaced is one first, where_only name new lines replaced is other second)
