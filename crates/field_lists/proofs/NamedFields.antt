-- Fields of a name.
use Rattle.std.proofs.Common.{◌≡◌, ℕ, zero, true, false, List, [], ◌∷◌, length, refl, sym, ap, subst, ◌∙◌, inl, inr, arith}
use Rattle.std.specs.Prelude.{filter}
use Rattle.std.specs.List.{Contains}
use Rattle.std.proofs.lemmas.Bool.{cases_Bool, false≢true, or_parts}
use Rattle.std.proofs.lemmas.Slice.Eq.{bytes_eq-Decides}
use Rattle.list_texts.specs.declared.list.Field.{Field}
use Rattle.field_lists.specs.Controls.{field_of}
use Rattle.field_lists.specs.ToMessages.{has_field}
use Rattle.field_lists.specs.tools.Sizes.{is_named}
use Rattle.field_lists.proofs.PseudoLaws.{contains_cons, kept}

pub not_named : (name : List ℕ) (fields : List Field) → has_field name fields ≡ false → filter (is_named name) fields ≡ []
not_named name [] none = refl
not_named name (f ∷ fs) none =
    let both = or_parts (is_named name f) (has_field name fs) none in
    rw both.0 (not_named name fs both.1)

pub some_named : (name : List ℕ) (fields : List Field) → has_field name fields ≡ true → (first : Field) × (rest : List Field) × (filter (is_named name) fields ≡ first ∷ rest)
some_named name [] some = absurd (false≢true some)
some_named name (f ∷ fs) some = elim (cases_Bool (is_named name f)) [
  | inl is ↦ (f, filter (is_named name) fs, rw is refl)
  | inr fails ↦ let more = some_named name fs (rw fails at some) in (more.0, more.1, rw fails more.2)
]

-- the field that comes first
first_there : (name : List ℕ) (fields : List Field) (first : Field) (rest : List Field) → filter (is_named name) fields ≡ first ∷ rest → Contains fields first × (is_named name first ≡ true)
first_there name [] first rest cut = absurd cc
first_there name (f ∷ fs) first rest cut = elim (cases_Bool (is_named name f)) [
  | inl is ↦
      let parts : f ∷ filter (is_named name) fs ≡ first ∷ rest = rw is at cut in
      let same : f ≡ first = cc in
      ((zero, omega arith, same), ap (is_named name) (sym same) ∙ is)
  | inr fails ↦
      let more = first_there name fs first rest (rw fails at cut) in
      (contains_cons f fs first more.0, more.1)
]

pub value_of_first : (name : List ℕ) (fields : List Field) (first : Field) (rest : List Field) → filter (is_named name) fields ≡ first ∷ rest → Contains fields (field_of name first.value)
value_of_first name fields first rest cut =
    let found = first_there name fields first rest cut in
    let is : first.name ≡ name = (bytes_eq-Decides first.name name).0 found.1 in
    let same : first ≡ field_of name first.value = λ i. record { name = is i; value = first.value } in
    subst (λ (f : Field). Contains fields f) same found.0

pub no_value : (name : List ℕ) (fields : List Field) → filter (is_named name) fields ≡ [] → (value : List ℕ) → ¬ Contains fields (field_of name value)
no_value name fields none value there =
    let at = kept (is_named name) fields (field_of name value) ((bytes_eq-Decides name name).1 refl) there in
    absurd (omega (arith, at.1, ap (λ (fs : List Field). length fs) none))
