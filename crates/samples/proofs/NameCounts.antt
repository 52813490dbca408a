-- How many lines of a list have a name.
use Rattle.std.proofs.Common.{◌≡◌, ◌≤◌, ◌+◌, ℕ, suc, true, false, List, [], ◌∷◌, ◌++◌, length, inl, inr, refl, sym, ap, ◌∙◌, arith}
use Rattle.std.specs.Prelude.{⊤}
use Rattle.std.proofs.lemmas.Bool.{both_ways, cases_Bool}
use Rattle.std.proofs.lemmas.Slice.Eq.{bytes_eq-Decides}
use Rattle.msg_head.specs.Lines.{FieldLine}
use Rattle.msg_head.specs.Names.{has_name}
use Rattle.msg_head.specs.Values.{is_there, values}
use Rattle.msg_body.specs.SameFields.{name_of}

abbrev count : List FieldLine → List ℕ → ℕ
count lines name = length (values lines name)

one_more : (line : FieldLine) (lines : List FieldLine) (name : List ℕ) → has_name name line ≡ true → count (line ∷ lines) name ≡ suc (count lines name)
one_more line lines name is = rw is refl

no_more : (line : FieldLine) (lines : List FieldLine) (name : List ℕ) → has_name name line ≡ false → count (line ∷ lines) name ≡ count lines name
no_more line lines name not = rw not refl

is_first : (line : FieldLine) (lines : List FieldLine) (name : List ℕ) → has_name name line ≡ true → is_there (line ∷ lines) name ≡ true
is_first line lines name is = rw is refl

is_later : (line : FieldLine) (lines : List FieldLine) (name : List ℕ) → has_name name line ≡ false → is_there (line ∷ lines) name ≡ is_there lines name
is_later line lines name not = rw not refl

counted : (lines more : List FieldLine) (name : List ℕ) → count (lines ++ more) name ≡ count lines name + count more name
counted [] more name = omega arith
counted (line ∷ lines) more name = elim (cases_Bool (has_name name line)) [
  | inl is ↦ omega (arith, counted lines more name, one_more line (lines ++ more) name is, one_more line lines name is)
  | inr not ↦ omega (arith, counted lines more name, no_more line (lines ++ more) name not, no_more line lines name not)
]

none_counted : (lines : List FieldLine) (name : List ℕ) → is_there lines name ≡ false → count lines name ≡ 0
none_counted [] name none = refl
none_counted (line ∷ lines) name none = elim (cases_Bool (has_name name line)) [
  | inl is ↦ absurd (both_ways (is_there (line ∷ lines) name) none (is_first line lines name is))
  | inr not ↦ no_more line lines name not ∙ none_counted lines name (sym (is_later line lines name not) ∙ none)
]

some_counted : (lines : List FieldLine) (name : List ℕ) → is_there lines name ≡ true → 1 ≤ count lines name
some_counted [] name some = absurd cc
some_counted (line ∷ lines) name some = elim (cases_Bool (has_name name line)) [
  | inl is ↦ omega (arith, one_more line lines name is)
  | inr not ↦ omega (arith, no_more line lines name not, some_counted lines name (sym (is_later line lines name not) ∙ some))
]

-- ---- lines of other names

abbrev pub AreApart : List FieldLine → Type 0
AreApart [] = ⊤
AreApart (line ∷ lines) = (is_there lines (name_of line) ≡ false) × AreApart lines

-- no name has two lines
abbrev pub HasEachOnce : List FieldLine → Type 0
HasEachOnce lines = (name : List ℕ) → length (values lines name) ≤ 1

pub each_once : (lines : List FieldLine) → AreApart lines → HasEachOnce lines
each_once [] apart name = omega arith
each_once (line ∷ lines) apart name = elim (cases_Bool (has_name name line)) [
  | inl is ↦
      let same : name_of line ≡ name = (bytes_eq-Decides (name_of line) name).0 is in
      omega (arith, one_more line lines name is, none_counted lines name (ap (is_there lines) (sym same) ∙ apart.0))
  | inr not ↦ omega (arith, no_more line lines name not, each_once lines apart.1 name)
]

-- a line passes none of its name
pub none_passed : (lines before passed after : List FieldLine) (line : FieldLine) → lines ≡ before ++ line ∷ (passed ++ after) → HasEachOnce lines → is_there passed (name_of line) ≡ false
none_passed lines before passed after line are once =
    let name = name_of line in elim (cases_Bool (is_there passed name)) [
      | inr none ↦ none
      | inl some ↦ absurd (omega (
        arith,
        ap (λ (ls : List FieldLine). count ls name) are,
        counted before (line ∷ (passed ++ after)) name,
        one_more line (passed ++ after) name ((bytes_eq-Decides name name).1 refl),
        counted passed after name,
        some_counted passed name some,
        once name,
      ))
    ]

pub none_passing : (lines before passed after : List FieldLine) (line : FieldLine) → lines ≡ before ++ (passed ++ line ∷ after) → HasEachOnce lines → is_there passed (name_of line) ≡ false
none_passing lines before passed after line are once =
    let name = name_of line in elim (cases_Bool (is_there passed name)) [
      | inr none ↦ none
      | inl some ↦ absurd (omega (
        arith,
        ap (λ (ls : List FieldLine). count ls name) are,
        counted before (passed ++ line ∷ after) name,
        counted passed (line ∷ after) name,
        one_more line after name ((bytes_eq-Decides name name).1 refl),
        some_counted passed name some,
        once name,
      ))
    ]
