-- The control data with which a list begins is one: four fields of four names are those of a request in one way.
use Rattle.std.proofs.Common.{◌≡◌, ℕ, zero, suc, ◌+◌, ◌≤◌, Bool, true, false, not, ◌&&◌, List, [], ◌∷◌, ◌++◌, length, take, drop, refl, sym, ap, subst, ◌∙◌, inl, inr, arith, codes}
use Rattle.std.specs.Prelude.{filter}
use Rattle.std.specs.List.{Contains, list_any}
use Rattle.std.specs.Str.{bytes_eq}
use Rattle.std.proofs.lemmas.Bool.{cases_Bool, and_parts, or_parts, not-true}
use Rattle.std.proofs.lemmas.List.{take_at, drop_at}
use Rattle.std.proofs.lemmas.List.Filters.{length-filter_both}
use Rattle.std.proofs.lemmas.Slice.Eq.{bytes_eq-Decides}
use Rattle.list_texts.specs.declared.list.Field.{Field}
use Rattle.list_texts.specs.declared.list.FieldList.{FieldList}
use Rattle.field_lists.specs.Controls.{Control, RequestControl, request, response, field_of, AreOfRequest, HasPseudo, IsOf}
use Rattle.field_lists.specs.ToCauses.{HasControl}

-- ---- what a filter keeps

pub contains_cons : {X : Type 0} (y : X) (ys : List X) (x : X) → Contains ys x → Contains (y ∷ ys) x
contains_cons y ys x (k, lt, at) = (suc k, omega arith, at)

pub kept : {X : Type 0} (p : X → Bool) (xs : List X) (x : X) → p x ≡ true → Contains xs x → Contains (filter p xs) x
kept p [] x passes (k, lt, at) = absurd (omega arith)
kept p (y ∷ ys) x passes (zero, lt, at) =
    let here : p y ≡ true = ap p at ∙ passes in rw here (zero, omega arith, at)
kept p (y ∷ ys) x passes (suc k, lt, at) =
    let rest = kept p ys x passes (k, omega arith, at) in elim (cases_Bool (p y)) [
      | inl is ↦ rw is (contains_cons y (filter p ys) x rest)
      | inr fails ↦ rw fails rest
    ]

some_kept : {X : Type 0} (p : X → Bool) (xs : List X) (x : X) → p x ≡ true → Contains xs x → 1 ≤ length (filter p xs)
some_kept p xs x passes there = let at = kept p xs x passes there in omega arith

same_if_one : {X : Type 0} (xs : List X) (x y : X) → length xs ≤ 1 → Contains xs x → Contains xs y → x ≡ y
same_if_one [] x y few (k, lt, at) other = absurd (omega arith)
same_if_one (z ∷ []) x y few (zero, lt, at) (zero, less, there) = sym at ∙ there
same_if_one (z ∷ []) x y few (suc k, lt, at) other = absurd (omega arith)
same_if_one (z ∷ []) x y few (zero, lt, at) (suc k, less, there) = absurd (omega arith)
same_if_one (z ∷ (w ∷ rest)) x y few one other = absurd (omega arith)

-- ---- fields of names that are apart

-- the field has the name of the other
abbrev pub named : Field → Field → Bool
named f g = bytes_eq g.name f.name

-- no two of the fields have one name
abbrev pub are_apart : List Field → Bool
are_apart [] = true
are_apart (f ∷ fs) = not (list_any (named f) fs) && are_apart fs

-- each of the first is one of the others
abbrev pub AreIn : List Field → List Field → Type 0
AreIn [] fields = Unit {0}
AreIn (f ∷ fs) fields = Contains fields f × AreIn fs fields

are_in_rest : (f : Field) (fs fields : List Field) → list_any (named f) fs ≡ false → AreIn fs fields → AreIn fs (filter (λ g. not (named f g)) fields)
are_in_rest f [] fields none are = tt
are_in_rest f (g ∷ fs) fields none are =
    let both = or_parts (named f g) (list_any (named f) fs) none in
    let passes : not (named f g) ≡ true = rw both.0 refl in
    (kept (λ h. not (named f h)) fields g passes are.0, are_in_rest f fs fields both.1 are.1)

both_parts : (f : Field) (fields : List Field) → length (filter (named f) fields) + length (filter (λ g. not (named f g)) fields) ≡ length fields
both_parts f fields = length-filter_both (named f) (λ g. not (named f g)) (λ _. refl) fields

itself : (f : Field) → named f f ≡ true
itself f = (bytes_eq-Decides f.name f.name).1 refl

pub are_enough : (fs fields : List Field) → are_apart fs ≡ true → AreIn fs fields → length fs ≤ length fields
are_enough [] fields apart are = omega arith
are_enough (f ∷ fs) fields apart are =
    let both = and_parts (not (list_any (named f) fs)) (are_apart fs) apart in
    let rest = are_enough fs (filter (λ g. not (named f g)) fields) both.1 (are_in_rest f fs fields (not-true (list_any (named f) fs) both.0) are.1) in
    omega (arith, some_kept (named f) fields f (itself f) are.0, both_parts f fields, rest)

-- where the fields are as many as those, a field that has the name of one is that one
is_that : (f g : Field) (fs fields : List Field) → are_apart (f ∷ fs) ≡ true → AreIn (f ∷ fs) fields → length fields ≡ suc (length fs) → named f g ≡ true → Contains fields g → f ≡ g
is_that f g fs fields apart are count same there =
    let both = and_parts (not (list_any (named f) fs)) (are_apart fs) apart in
    let rest = are_enough fs (filter (λ h. not (named f h)) fields) both.1 (are_in_rest f fs fields (not-true (list_any (named f) fs) both.0) are.1) in
    let few : length (filter (named f) fields) ≤ 1 = omega (arith, both_parts f fields, rest, count) in
    same_if_one (filter (named f) fields) f g few (kept (named f) fields f (itself f) are.0) (kept (named f) fields g same there)

-- ---- the control data of a request

module _ (fields : List Field) (c d : RequestControl) (one : AreOfRequest fields c) (other : AreOfRequest fields d) where
  abbrev method : Field
  method = field_of (codes ":method") c.method

  abbrev scheme : Field
  scheme = field_of (codes ":scheme") c.scheme

  abbrev authority : Field
  authority = field_of (codes ":authority") c.authority

  abbrev path : Field
  path = field_of (codes ":path") c.path

  same_method : c.method ≡ d.method
  same_method =
      let g = field_of (codes ":method") d.method in
      ap (λ (f : Field). f.value) (is_that method g (scheme ∷ authority ∷ path ∷ []) fields refl (one.method, (one.scheme, (one.authority, (one.path, tt)))) one.count refl other.method)

  same_scheme : c.scheme ≡ d.scheme
  same_scheme =
      let g = field_of (codes ":scheme") d.scheme in
      ap (λ (f : Field). f.value) (is_that scheme g (method ∷ authority ∷ path ∷ []) fields refl (one.scheme, (one.method, (one.authority, (one.path, tt)))) one.count refl other.scheme)

  same_authority : c.authority ≡ d.authority
  same_authority =
      let g = field_of (codes ":authority") d.authority in
      ap (λ (f : Field). f.value) (is_that authority g (scheme ∷ method ∷ path ∷ []) fields refl (one.authority, (one.scheme, (one.method, (one.path, tt)))) one.count refl other.authority)

  same_path : c.path ≡ d.path
  same_path =
      let g = field_of (codes ":path") d.path in
      ap (λ (f : Field). f.value) (is_that path g (scheme ∷ authority ∷ method ∷ []) fields refl (one.path, (one.scheme, (one.authority, (one.method, tt)))) one.count refl other.path)

  same_request : c ≡ d
  same_request = λ i. record { method = same_method i; scheme = same_scheme i; authority = same_authority i; path = same_path i }

-- none of the four fields is the status
no_status : (fields : List Field) (c : RequestControl) (code : List ℕ) → AreOfRequest fields c → ¬ Contains fields (field_of (codes ":status") code)
no_status fields c code are status =
    let enough = are_enough
    (field_of (codes ":status") code ∷ field_of (codes ":method") c.method ∷ field_of (codes ":scheme") c.scheme ∷ field_of (codes ":authority") c.authority ∷ field_of (codes ":path") c.path ∷ [])
    fields refl (status, (are.method, (are.scheme, (are.authority, (are.path, tt))))) in
    omega (arith, enough, are.count)

first_of : (xs ys zs : List Field) (f : Field) → length xs ≡ 4 → xs ++ ys ≡ f ∷ zs → Contains xs f
first_of [] ys zs f four e = absurd (omega arith)
first_of (x ∷ xs) ys zs f four e = let same : x ≡ f = cc in (zero, omega arith, same)

-- ---- the control data of a list

pub one_pseudo : (fields : List Field) (c d : Control) (xs ys : List Field) → HasPseudo fields c xs → HasPseudo fields d ys → (c ≡ d) × (xs ≡ ys)
one_pseudo fields (request c) (request d) xs ys one other =
    let joined : one.pseudo ++ xs ≡ other.pseudo ++ ys = sym one.joined ∙ other.joined in
    let fronts : one.pseudo ≡ other.pseudo =
    sym (take_at one.pseudo xs 4 one.are.count) ∙ (ap (take 4) joined ∙ take_at other.pseudo ys 4 other.are.count) in
    let others : xs ≡ ys = sym (drop_at one.pseudo xs 4 one.are.count) ∙ (ap (drop 4) joined ∙ drop_at other.pseudo ys 4 other.are.count) in
    (ap request (same_request other.pseudo c d (subst (λ (fs : List Field). AreOfRequest fs c) fronts one.are) other.are), others)
one_pseudo fields (response a) (response b) xs ys one other =
    let joined : one.pseudo ++ xs ≡ other.pseudo ++ ys = sym one.joined ∙ other.joined in
    let cut : field_of (codes ":status") a ∷ xs ≡ field_of (codes ":status") b ∷ ys =
    ap (λ (fs : List Field). fs ++ xs) (sym one.are) ∙ (joined ∙ ap (λ (fs : List Field). fs ++ ys) other.are) in
    let first : field_of (codes ":status") a ≡ field_of (codes ":status") b = cc in
    let others : xs ≡ ys = cc in
    (ap (λ (f : Field). response f.value) first, others)
one_pseudo fields (request c) (response b) xs ys one other =
    let joined : one.pseudo ++ xs ≡ field_of (codes ":status") b ∷ ys =
    sym one.joined ∙ (other.joined ∙ ap (λ (fs : List Field). fs ++ ys) other.are) in
    absurd (no_status one.pseudo c b one.are (first_of one.pseudo xs ys (field_of (codes ":status") b) one.are.count joined))
one_pseudo fields (response a) (request d) xs ys one other =
    let joined : other.pseudo ++ ys ≡ field_of (codes ":status") a ∷ xs =
    sym other.joined ∙ (one.joined ∙ ap (λ (fs : List Field). fs ++ xs) one.are) in
    absurd (no_status other.pseudo d a other.are (first_of other.pseudo ys xs (field_of (codes ":status") a) other.are.count joined))

-- the fact holds of the control data that the list has
pub fact_of : (list : FieldList) (control : Control) (others : List Field) → IsOf list control others → (Fact : Control → List Field → Type 0) → HasControl list Fact → Fact control others
fact_of list control others is Fact (c, xs, own, fact) =
    let same = one_pseudo list.fields c control xs others own.begins is.begins in
    subst (λ (d : Control). Fact d others) same.0 (subst (λ (ys : List Field). Fact c ys) same.1 fact)
