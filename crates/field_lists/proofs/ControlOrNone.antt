-- A list begins with pseudo-header fields that are right, or doesn't.
use Rattle.std.proofs.Common.{◌≡◌, ◌≢◌, ◌⊎◌, ℕ, zero, suc, ◌<◌, ◌≤◌, false, List, [], ◌∷◌, ◌++◌, length, get_or, take, drop, refl, sym, ap, subst, ◌∙◌, inl, inr, arith, codes}
use Rattle.std.specs.List.{Contains}
use Rattle.std.specs.Str.{bytes_eq}
use Rattle.std.proofs.lemmas.Bool.{cases_Bool, cases_lt, false≢true}
use Rattle.std.proofs.lemmas.List.{length-append, length-take, take-append-drop, take_at}
use Rattle.std.proofs.lemmas.Slice.Eq.{bytes_eq-Decides}
use Rattle.byte_grammar.specs.Classes.{is_token}
use Rattle.msg_head.specs.Starts.{is_code}
use Rattle.list_texts.specs.declared.list.Field.{Field}
use Rattle.list_texts.specs.declared.list.FieldList.{FieldList}
use Rattle.field_lists.specs.Controls.{Control, RequestControl, request, response, field_of, is_lower_scheme, is_path_text, is_text, AreOfRequest, HasPseudo, IsAllowed, IsOf}
use Rattle.field_lists.proofs.PseudoLaws.{one_pseudo}

-- ---- the value of a name

-- the field at the index is the one of its name and value
value_at : (fields : List Field) (k : ℕ) (f : Field) (name value : List ℕ) → k < length fields → f ≡ get_or fields k f → f.name ≡ name → f.value ≡ value → Contains fields (field_of name value)
value_at fields k f name value lt at is has =
    let same : f ≡ field_of name value = λ i. record { name = is i; value = has i } in
    (k, lt, subst (λ (g : Field). get_or fields k g ≡ g) same (sym at))

value_or_none : (name : List ℕ) (fields : List Field) → ((value : List ℕ) × Contains fields (field_of name value)) ⊎ ((value : List ℕ) → ¬ Contains fields (field_of name value))
value_or_none name [] = inr (λ value there. absurd (omega (arith, there.1)))
value_or_none name (f ∷ fs) = elim (cases_Bool (bytes_eq f.name name)) [
  | inl same ↦ inl (f.value, value_at (f ∷ fs) 0 f name f.value (omega arith) refl ((bytes_eq-Decides f.name name).0 same) refl)
  | inr apart ↦ elim (value_or_none name fs) [
    | inl found ↦ inl (found.0, (suc found.1.0, omega (arith, found.1.1), found.1.2))
    | inr none ↦ inr (λ value there. later f fs name value apart (none value) there)
  ]
]
  where
    later : (f : Field) (fs : List Field) (name value : List ℕ) → bytes_eq f.name name ≡ false → ¬ Contains fs (field_of name value) → ¬ Contains (f ∷ fs) (field_of name value)
    later f fs name value apart none (zero, lt, at) = false≢true (sym apart ∙ (bytes_eq-Decides f.name name).1 (ap (λ (g : Field). g.name) at))
    later f fs name value apart none (suc k, lt, at) = none (k, omega arith, at)

-- ---- the control data

four_or_none : (fields : List Field) → length fields ≡ 4 → ((control : RequestControl) × AreOfRequest fields control) ⊎ ((control : RequestControl) → ¬ AreOfRequest fields control)
four_or_none fields four = elim (value_or_none (codes ":method") fields) [
  | inr none ↦ inr (λ control are. none control.method are.method)
  | inl method ↦ elim (value_or_none (codes ":scheme") fields) [
    | inr none ↦ inr (λ control are. none control.scheme are.scheme)
    | inl scheme ↦ elim (value_or_none (codes ":authority") fields) [
      | inr none ↦ inr (λ control are. none control.authority are.authority)
      | inl authority ↦ elim (value_or_none (codes ":path") fields) [
        | inr none ↦ inr (λ control are. none control.path are.path)
        | inl path ↦ inl (
          record { method = method.0; scheme = scheme.0; authority = authority.0; path = path.0 },
          record { count = four; method = method.1; scheme = scheme.1; authority = authority.1; path = path.1 },
        )
      ]
    ]
  ]
]

-- fields that begin with four of a request are four or more, and these are the first
pub enough_fields : (fields : List Field) (control : RequestControl) (others : List Field) → HasPseudo fields (request control) others → (4 ≤ length fields) × AreOfRequest (take 4 fields) control
enough_fields fields control others has =
    let count = has.are.count in
    let front : has.pseudo ≡ take 4 fields = sym (take_at has.pseudo others 4 count) ∙ ap (take 4) (sym has.joined) in
    (omega (arith, ap length has.joined, length-append has.pseudo others, count), subst (λ (fs : List Field). AreOfRequest fs control) front has.are)

pub with_four : (fields : List Field) (control : RequestControl) → AreOfRequest (take 4 fields) control → HasPseudo fields (request control) (drop 4 fields)
with_four fields control are = record { pseudo = take 4 fields; are = are; joined = sym (take-append-drop 4 fields) }

request_or_none : (fields : List Field) → ((control : RequestControl) × (others : List Field) × HasPseudo fields (request control) others) ⊎ ((control : RequestControl) (others : List Field) → ¬ HasPseudo fields (request control) others)
request_or_none fields = elim (cases_lt (length fields) 4) [
  | inl few ↦ inr (λ control others has. absurd (omega (arith, few, (enough_fields fields control others has).0)))
  | inr enough ↦ elim (four_or_none (take 4 fields) (length-take 4 fields ∙ omega arith)) [
    | inr none ↦ inr (λ control others has. none control (enough_fields fields control others has).1)
    | inl found ↦ inl (found.0, drop 4 fields, with_four fields found.0 found.1)
  ]
]

-- the first field says the status
pub with_status : (first : Field) (others : List Field) → first.name ≡ codes ":status" → HasPseudo (first ∷ others) (response first.value) others
with_status first others is = record {
  pseudo = field_of (codes ":status") first.value ∷ [];
  are = refl;
  joined = ap (λ (f : Field). f ∷ others) (λ i. record { name = is i; value = first.value });
}

pub status_first : (fields : List Field) (code : List ℕ) (others : List Field) → HasPseudo fields (response code) others → fields ≡ field_of (codes ":status") code ∷ others
status_first fields code others has = has.joined ∙ ap (λ (fs : List Field). fs ++ others) has.are

response_or_none : (fields : List Field) → ((code : List ℕ) × (others : List Field) × HasPseudo fields (response code) others) ⊎ ((code : List ℕ) (others : List Field) → ¬ HasPseudo fields (response code) others)
response_or_none [] = inr (λ code others has. let e = status_first [] code others has in absurd cc)
response_or_none (f ∷ fs) = elim (cases_Bool (bytes_eq f.name (codes ":status"))) [
  | inl same ↦ inl (f.value, fs, with_status f fs ((bytes_eq-Decides f.name (codes ":status")).0 same))
  | inr apart ↦ inr (λ code others has.
      let e = status_first (f ∷ fs) code others has in
      let first : f ≡ field_of (codes ":status") code = cc in
      false≢true (sym apart ∙ (bytes_eq-Decides f.name (codes ":status")).1 (ap (λ (g : Field). g.name) first)))
]

pub neither_begins : (fields : List Field) → ((code : List ℕ) (others : List Field) → ¬ HasPseudo fields (response code) others) → ((control : RequestControl) (others : List Field) → ¬ HasPseudo fields (request control) others)
    → (control : Control) (others : List Field) → ¬ HasPseudo fields control others
neither_begins fields none other (request c) others has = other c others has
neither_begins fields none other (response code) others has = none code others has

pub begins_or_none : (fields : List Field) → ((control : Control) × (others : List Field) × HasPseudo fields control others) ⊎ ((control : Control) (others : List Field) → ¬ HasPseudo fields control others)
begins_or_none fields = elim (response_or_none fields) [
  | inl found ↦ inl (response found.0, found.1, found.2)
  | inr none ↦ elim (request_or_none fields) [
    | inl found ↦ inl (request found.0, found.1, found.2)
    | inr other ↦ inr (neither_begins fields none other)
  ]
]

-- ---- values that are allowed

pub text_or_not : (text other : List ℕ) → (text ≡ other) ⊎ (text ≢ other)
text_or_not text other = elim (cases_Bool (bytes_eq text other)) [
  | inl same ↦ inl ((bytes_eq-Decides text other).0 same)
  | inr apart ↦ inr (λ e. false≢true (sym apart ∙ (bytes_eq-Decides text other).1 e))
]

pub allowed_or_not : (control : Control) → IsAllowed control ⊎ ¬ IsAllowed control
allowed_or_not (response code) = elim (cases_Bool (is_code code)) [
  | inl is ↦ inl is
  | inr fails ↦ inr (λ is. false≢true (sym fails ∙ is))
]
allowed_or_not (request c) = elim (cases_Bool (is_token c.method)) [
  | inr fails ↦ inr (λ is. false≢true (sym fails ∙ is.method))
  | inl method ↦ elim (text_or_not c.method (codes "CONNECT")) [
    | inl tunnel ↦ inr (λ is. is.no_tunnel tunnel)
    | inr no_tunnel ↦ elim (cases_Bool (is_lower_scheme c.scheme)) [
      | inr fails ↦ inr (λ is. false≢true (sym fails ∙ is.scheme))
      | inl scheme ↦ elim (cases_Bool (is_text c.authority)) [
        | inr fails ↦ inr (λ is. false≢true (sym fails ∙ is.authority))
        | inl authority ↦ elim (cases_Bool (is_path_text c.path)) [
          | inr fails ↦ inr (λ is. false≢true (sym fails ∙ is.path))
          | inl path ↦ inl (record { method = method; no_tunnel = no_tunnel; scheme = scheme; authority = authority; path = path })
        ]
      ]
    ]
  ]
]

-- the values of the control data with which a list begins aren't allowed
pub not_allowed : (list : FieldList) (control : Control) (others : List Field) → HasPseudo list.fields control others → ¬ IsAllowed control → (other : Control) (rest : List Field) → ¬ IsOf list other rest
not_allowed list control others has refused other rest is =
    let same = one_pseudo list.fields other control rest others is.begins has in
    refused (subst IsAllowed same.0 is.allowed)
