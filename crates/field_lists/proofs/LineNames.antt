-- The values of a name in the lines of a message, and in the fields of its list.
use Rattle.std.proofs.Common.{◌≡◌, ◌≢◌, ℕ, suc, Bool, true, false, not, ◌&&◌, ◌||◌, List, [], ◌∷◌, ◌++◌, length, map, refl, sym, ap, subst, ◌∙◌, inl, inr, arith, codes}
use Rattle.std.specs.Prelude.{filter, nat_lt}
use Rattle.std.specs.Char.{is_ascii_uppercase, to_ascii_lowercase}
use Rattle.std.specs.List.{Contains, list_all, list_any}
use Rattle.std.specs.Str.{byte, bytes_eq, str_to_ascii_lowercase}
use Rattle.std.proofs.lemmas.Bool.{and_parts, cases_Bool, false≢true, not-true, or_cases, or_parts}
use Rattle.std.proofs.lemmas.Bool.Decides.{nat_tests}
use Rattle.std.proofs.lemmas.List.{append-nil, map-append}
use Rattle.std.proofs.lemmas.List.Elements.{filter-append}
use Rattle.std.proofs.lemmas.List.Folds.{list_any-append}
use Rattle.std.proofs.lemmas.Slice.Eq.{bytes_eq-Decides}
use Rattle.byte_grammar.specs.Classes.{is_field_name, is_line_byte, is_name_byte, is_tchar}
use Rattle.msg_head.specs.Lines.{FieldLine}
use Rattle.msg_head.specs.Names.{has_name}
use Rattle.msg_head.specs.Values.{is_there, value, values}
use Rattle.msg_body.specs.SameFields.{HasSameValues}
use Rattle.msg_body.proofs.ValueLaws.{forgets_spacing_at_ends}
use Rattle.list_texts.specs.declared.list.Field.{Field}
use Rattle.field_lists.specs.Controls.{Control, RequestControl, request, response, field_of, AreOfRequest, ArePseudo}
use Rattle.field_lists.specs.ListValues.{raw_line}
use Rattle.field_lists.specs.ToCauses.{is_good, is_refused_name}
use Rattle.field_lists.specs.ToMessages.{coding_lines, has_field, head_lines, host_lines, line_of_field}
use Rattle.field_lists.specs.tools.Sizes.{is_named}
use Rattle.field_lists.proofs.PseudoLaws.{named, are_enough}

-- ---- lines that are joined

pub values_joined : (xs ys : List FieldLine) (name : List ℕ) → values (xs ++ ys) name ≡ values xs name ++ values ys name
values_joined xs ys name =
    ap (λ (ls : List FieldLine). map (λ (line : FieldLine). value line.raw) ls) (filter-append (has_name name) xs ys)
    ∙ map-append (λ (line : FieldLine). value line.raw) (filter (has_name name) xs) (filter (has_name name) ys)

pub there_joined : (xs ys : List FieldLine) (name : List ℕ) → is_there (xs ++ ys) name ≡ (is_there xs name || is_there ys name)
there_joined xs ys name = list_any-append (has_name name) xs ys

pub no_values : (lines : List FieldLine) (name : List ℕ) → is_there lines name ≡ false → values lines name ≡ []
no_values [] name none = refl
no_values (line ∷ lines) name none =
    let both = or_parts (has_name name line) (is_there lines name) none in
    rw both.0 (no_values lines name both.1)

pub or_none : (b : Bool) → (b || false) ≡ b
or_none true = refl
or_none false = refl

-- lines of other names before and after them change nothing
pub around : (before lines after : List FieldLine) (name : List ℕ) → is_there before name ≡ false → is_there after name ≡ false → HasSameValues lines (before ++ (lines ++ after)) name
around before lines after name none nor = record {
  there = there_joined before (lines ++ after) name ∙ (rw none (there_joined lines after name ∙ (ap (λ b. is_there lines name || b) nor ∙ or_none (is_there lines name))));
  same = values_joined before (lines ++ after) name
      ∙ (ap (λ (vs : List (List ℕ)). vs ++ values (lines ++ after) name) (no_values before name none)
      ∙ (values_joined lines after name ∙ (ap (λ (vs : List (List ℕ)). values lines name ++ vs) (no_values after name nor) ∙ append-nil (values lines name))));
}

-- ---- a field as a line

-- the SP before a value counts for nothing
pub spaced : (text : List ℕ) → value (byte " " ∷ text) ≡ value text
spaced text = ap (λ (t : List ℕ). value (byte " " ∷ t)) (sym (append-nil text)) ∙ forgets_spacing_at_ends (codes " ") text [] refl refl

pub same_values : (fields : List Field) (name : List ℕ) → values (map line_of_field fields) name ≡ values (map raw_line fields) name
same_values [] name = refl
same_values (f ∷ fs) name = elim (cases_Bool (bytes_eq (str_to_ascii_lowercase f.name) name)) [
  | inl is ↦ rw is (λ i. spaced f.value i ∷ same_values fs name i)
  | inr fails ↦ rw fails (same_values fs name)
]

pub same_there : (fields : List Field) (name : List ℕ) → is_there (map line_of_field fields) name ≡ is_there (map raw_line fields) name
same_there [] name = refl
same_there (f ∷ fs) name = ap (λ b. bytes_eq (str_to_ascii_lowercase f.name) name || b) (same_there fs name)

-- ---- names

-- texts that a test tells apart aren't equal
apart_by : (test : List ℕ → Bool) (text other : List ℕ) → test text ≡ false → test other ≡ true → bytes_eq text other ≡ false
apart_by test text other fails passes = elim (cases_Bool (bytes_eq text other)) [
  | inr apart ↦ apart
  | inl same ↦ absurd (false≢true (sym fails ∙ (ap test ((bytes_eq-Decides text other).0 same) ∙ passes)))
]

pub other_text : (text other : List ℕ) → other ≢ text → bytes_eq text other ≡ false
other_text text other apart = elim (cases_Bool (bytes_eq text other)) [
  | inr fails ↦ fails
  | inl same ↦ absurd (apart (sym ((bytes_eq-Decides text other).0 same)))
]

-- a field whose name in lower case is a field name has none of the names of pseudo-header fields
no_such_name : (word : List ℕ) (f : Field) (name : List ℕ) → is_field_name (str_to_ascii_lowercase word) ≡ false → is_field_name name ≡ true → has_name name (raw_line f) ≡ true → bytes_eq word f.name ≡ false
no_such_name word f name fails is has =
    apart_by (λ text. is_field_name (str_to_ascii_lowercase text)) word f.name fails
    (ap is_field_name ((bytes_eq-Decides (str_to_ascii_lowercase f.name) name).0 has) ∙ is)

found_named : (fields : List Field) (name : List ℕ) → is_there (map raw_line fields) name ≡ true → (f : Field) × Contains fields f × (has_name name (raw_line f) ≡ true)
found_named [] name there = absurd (false≢true there)
found_named (f ∷ fs) name there = elim (or_cases (has_name name (raw_line f)) (is_there (map raw_line fs) name) there) [
  | inl is ↦ (f, (0, omega arith, refl), is)
  | inr later ↦ let more = found_named fs name later in (more.0, (suc more.1.0, omega (arith, more.1.1), more.1.2), more.2)
]

no_pseudo_of_request : (fields : List Field) (c : RequestControl) (name : List ℕ) → AreOfRequest fields c → is_field_name name ≡ true → ¬ (is_there (map raw_line fields) name ≡ true)
no_pseudo_of_request fields c name are is there =
    let f = found_named fields name there in
    let method = no_such_name (codes ":method") f.0 name refl is f.2 in
    let scheme = no_such_name (codes ":scheme") f.0 name refl is f.2 in
    let authority = no_such_name (codes ":authority") f.0 name refl is f.2 in
    let path = no_such_name (codes ":path") f.0 name refl is f.2 in
    let four : List Field = field_of (codes ":method") c.method ∷ field_of (codes ":scheme") c.scheme ∷ field_of (codes ":authority") c.authority ∷ field_of (codes ":path") c.path ∷ [] in
    let none : list_any (named f.0) four ≡ false = rw (method, scheme, authority, path) refl in
    let enough = are_enough (f.0 ∷ four) fields (rw none refl) (f.1, (are.method, (are.scheme, (are.authority, (are.path, tt))))) in
    omega (arith, enough, are.count)

pub no_pseudo : (fields : List Field) (control : Control) (name : List ℕ) → ArePseudo fields control → is_field_name name ≡ true → is_there (map raw_line fields) name ≡ false
no_pseudo fields (request c) name are is = elim (cases_Bool (is_there (map raw_line fields) name)) [
  | inr fails ↦ fails
  | inl there ↦ absurd (no_pseudo_of_request fields c name are is there)
]
no_pseudo fields (response code) name are is =
    ap (λ (fs : List Field). is_there (map raw_line fs) name) are
    ∙ (ap (λ b. b || false) (apart_by is_field_name (codes ":status") name refl is))

-- ---- fields that are turned

pub record IsGood (f : Field) : Type 0 where
  pub name : is_field_name f.name ≡ true
  pub kept : is_refused_name f.name ≡ false
  pub clean : list_all is_line_byte f.value ≡ true

pub good_parts : (f : Field) → is_good f ≡ true → IsGood f
good_parts f good =
    let both = and_parts (is_field_name f.name && not (is_refused_name f.name)) (list_all is_line_byte f.value) good in
    let names = and_parts (is_field_name f.name) (not (is_refused_name f.name)) both.0 in
    record { name = names.0; kept = not-true (is_refused_name f.name) names.1; clean = both.1 }

lower_byte : (c : ℕ) → not (is_ascii_uppercase c) ≡ true → to_ascii_lowercase c ≡ c
lower_byte c is = grind (arith, nat_tests)

lower_text : (text : List ℕ) → list_all is_name_byte text ≡ true → str_to_ascii_lowercase text ≡ text
lower_text [] all = refl
lower_text (c ∷ cs) all =
    let both = and_parts (is_name_byte c) (list_all is_name_byte cs) all in
    let lower = lower_byte c (and_parts (is_tchar c) (not (is_ascii_uppercase c)) both.0).1 in
    λ i. lower i ∷ lower_text cs both.1 i

pub lower_name : (name : List ℕ) → is_field_name name ≡ true → str_to_ascii_lowercase name ≡ name
lower_name name is = lower_text name (and_parts (nat_lt 0 (length name)) (list_all is_name_byte name) is).1

-- the lines of such fields have the names that these have
pub plain_there : (fields : List Field) (name : List ℕ) → list_all is_good fields ≡ true → is_there (map line_of_field fields) name ≡ has_field name fields
plain_there [] name all = refl
plain_there (f ∷ fs) name all =
    let both = and_parts (is_good f) (list_all is_good fs) all in
    let lower = lower_name f.name (good_parts f both.0).name in
    λ i. bytes_eq (lower i) name || plain_there fs name both.1 i

pub plain_values : (fields : List Field) (name : List ℕ) → list_all is_good fields ≡ true → values (map line_of_field fields) name ≡ map (λ field. value field.value) (filter (is_named name) fields)
plain_values [] name all = refl
plain_values (f ∷ fs) name all =
    let both = and_parts (is_good f) (list_all is_good fs) all in
    let lower = lower_name f.name (good_parts f both.0).name in elim (cases_Bool (bytes_eq f.name name)) [
      | inl is ↦ rw (lower, is) (λ i. spaced f.value i ∷ plain_values fs name both.1 i)
      | inr fails ↦ rw (lower, fails) (plain_values fs name both.1)
    ]

-- none of them has a name that is refused
pub none_refused : (fields : List Field) (name : List ℕ) → is_refused_name name ≡ true → list_all is_good fields ≡ true → has_field name fields ≡ false
none_refused [] name refused all = refl
none_refused (f ∷ fs) name refused all =
    let both = and_parts (is_good f) (list_all is_good fs) all in
    let apart = apart_by is_refused_name f.name name (good_parts f both.0).kept refused in
    rw apart (none_refused fs name refused both.1)

-- ---- the lines of a head

no_coding : (in_chunks : Bool) (name : List ℕ) → name ≢ codes "transfer-encoding" → is_there (coding_lines in_chunks) name ≡ false
no_coding false name other = refl
no_coding true name other = ap (λ b. b || false) (other_text (codes "transfer-encoding") name other)

no_host : (control : Control) (name : List ℕ) → name ≢ codes "host" → is_there (host_lines control) name ≡ false
no_host (response code) name other = refl
no_host (request c) name other = ap (λ b. b || false) (other_text (codes "host") name other)

-- the lines of another name than `Host` and `Transfer-Encoding` are those of the other fields
pub head_values : (control : Control) (others : List Field) (in_chunks : Bool) (name : List ℕ) → name ≢ codes "host" → name ≢ codes "transfer-encoding"
    → HasSameValues (map line_of_field others) (head_lines control others in_chunks) name
head_values control others in_chunks name no_host_name no_coding_name =
    around (host_lines control) (map line_of_field others) (coding_lines in_chunks) name (no_host control name no_host_name) (no_coding in_chunks name no_coding_name)

-- those of the list are those of the other fields
pub list_values : (fields pseudo others : List Field) (control : Control) (name : List ℕ) → ArePseudo pseudo control → fields ≡ pseudo ++ others → is_field_name name ≡ true
    → HasSameValues (map raw_line others) (map raw_line fields) name
list_values fields pseudo others control name are joined is =
    let front = no_pseudo pseudo control name are is in
    let here = around (map raw_line pseudo) (map raw_line others) [] name front refl in
    let cut : map raw_line pseudo ++ (map raw_line others ++ []) ≡ map raw_line fields =
    ap (λ (ls : List FieldLine). map raw_line pseudo ++ ls) (append-nil (map raw_line others)) ∙ (sym (map-append raw_line pseudo others) ∙ ap (map raw_line) (sym joined)) in
    subst (λ (ls : List FieldLine). HasSameValues (map raw_line others) ls name) cut here
