-- The value of a derived component is printable ASCII.
use Rattle.std.proofs.Common.{◌≡◌, ℕ, true, List, [], ◌∷◌, ◌++◌, length, ◌==◌, Option, Some, None, Ok, Err, inl, inr, refl, ◌∙◌, arith}
use Rattle.std.specs.Prelude.{option_map, unwrap_or, ok_or, IfSome, codes}
use Rattle.std.specs.Char.{to_ascii_lowercase, is_ascii_alphanumeric}
use Rattle.std.specs.List.{list_all}
use Rattle.std.specs.Result.{result_map_both}
use Rattle.std.specs.Str.{byte, str_to_ascii_lowercase}
use Rattle.std.proofs.lemmas.Bool.{cases_Bool, and_parts, or_cases}
use Rattle.std.proofs.lemmas.Bool.Decides.{nat_tests}
use Rattle.std.proofs.lemmas.List.Folds.{list_all-map}
use Rattle.byte_grammar.specs.Classes.{is_visible, is_tchar, is_digit, is_one_of}
use Rattle.byte_grammar.proofs.ChoiceLaws.{of_each}
use Rattle.byte_grammar.proofs.ListLaws.{all_joined, all_implied}
use Rattle.sfv_text.specs.Range.{is_string_byte}
use Rattle.sfv_text.specs.declared.pair.Pair.{Pair}
use Rattle.sfv_text.specs.declared.value.BareItem.{BareItem}
use Rattle.msg_head.specs.Lines.{FieldLine}
use Rattle.msg_head.specs.Starts.{StartLine, request, status, IsStartLine}
use Rattle.component_ids.specs.declared.scheme.Scheme.{Scheme}
use Rattle.component_ids.specs.declared.scheme.Scheme.TheVariants.{Http, Https}
use Rattle.derived_values.specs.Targets.{TargetParts, has_path, path_of, query_of, query_text}
use Rattle.derived_values.specs.Query.{matches}
use Rattle.derived_values.specs.TargetLaws.{AreVisible}
use Rattle.derived_values.proofs.Visible.{has_visible_parts, has_visible_value}
use Rattle.derived_values.proofs.ValueLaws.{matches_printable}
use Rattle.derived_values.specs.declared.derived.DerivedName.{DerivedName}
use Rattle.derived_values.specs.declared.derived.DerivedName.TheVariants.{Method, RequestTarget, Status, OfTarget}
use Rattle.derived_values.specs.declared.derived.TargetName.{TargetName}
use Rattle.derived_values.specs.declared.derived.TargetName.TheVariants as name
use Rattle.derived_values.specs.declared.lack.Lack.{Lack}
use Rattle.derived_values.specs.declared.lack.Lack.TheVariants.{Underivable}
use Rattle.derived_values.specs.Derived.{RequestParts, sole_value, scheme_text, scheme_of, named_authority, AuthorityRow, TargetAuthorityRow, uri_text, TargetUriRow, param_name, param_value, TargetRow, FormedRow, RequestRow, response_value, StartRow, DerivedRow}
use Rattle.component_values.proofs.DerivedRows.{Answer}

abbrev IsPrintable : List ℕ → Type 0
IsPrintable text = list_all is_string_byte text ≡ true

-- ---- bytes

visible_byte : (c : ℕ) → is_visible c ≡ true → is_string_byte c ≡ true
visible_byte c is = grind (arith, nat_tests)

visible : (text : List ℕ) → list_all is_visible text ≡ true → IsPrintable text
visible text is = all_implied is_visible is_string_byte visible_byte text is

lowered_byte : (c : ℕ) → is_visible c ≡ true → is_string_byte (to_ascii_lowercase c) ≡ true
lowered_byte c is = grind (arith, nat_tests)

lowered : (text : List ℕ) → list_all is_visible text ≡ true → IsPrintable (str_to_ascii_lowercase text)
lowered text is =
    list_all-map is_string_byte to_ascii_lowercase text
    ∙ all_implied is_visible (λ c. is_string_byte (to_ascii_lowercase c)) lowered_byte text is

token_byte : (c : ℕ) → is_tchar c ≡ true → is_string_byte c ≡ true
token_byte c is = elim (or_cases (is_ascii_alphanumeric c) (is_one_of (codes "!#$%&'*+-.^_`|~") c) is) [
  | inl letter ↦ grind (arith, nat_tests)
  | inr mark ↦ of_each is_string_byte (codes "!#$%&'*+-.^_`|~") refl c mark
]

digit_byte : (c : ℕ) → is_digit c ≡ true → is_string_byte c ≡ true
digit_byte c is = grind (arith, nat_tests)

-- ---- answers

-- a value is the answer
abbrev valued : List ℕ → Answer
valued value = Ok value

of_answer : (value text : List ℕ) → IsPrintable text → valued value ≡ Ok text → IsPrintable value
of_answer value text is row = let same : value ≡ text = cc in rw same is

of_some : (found : Option (List ℕ)) (lack : Lack) (value : List ℕ) → IfSome found IsPrintable → Ok value ≡ ok_or found lack → IsPrintable value
of_some None lack value is row = absurd cc
of_some (Some text) lack value is row = let same : value ≡ text = cc in rw same is

of_sole : (texts : List (List ℕ)) (value : List ℕ) → list_all (list_all is_string_byte) texts ≡ true → Ok value ≡ sole_value texts → IsPrintable value
of_sole [] value all row = absurd cc
of_sole (text ∷ []) value all row = let same : value ≡ text = cc in rw same (and_parts (list_all is_string_byte text) true all).0
of_sole (text ∷ other ∷ others) value all row = absurd cc

-- ---- parts

scheme_printable : (configured : Scheme) → IsPrintable (scheme_text configured)
scheme_printable Http = refl
scheme_printable Https = refl

one_scheme : (configured : Scheme) (scheme : Option (List ℕ)) → IfSome scheme (λ text. list_all is_visible text ≡ true)
    → IsPrintable (unwrap_or (option_map str_to_ascii_lowercase scheme) (scheme_text configured))
one_scheme configured None is = scheme_printable configured
one_scheme configured (Some text) is = lowered text is

authority_printable : (scheme : List ℕ) (named : Answer) (value : List ℕ) → AuthorityRow scheme named (Ok value) → IsPrintable value
authority_printable scheme (Err lack) value row = absurd cc
authority_printable scheme (Ok text) value row = visible value (has_visible_value scheme text value row)

path_printable : (target : TargetParts) → AreVisible target → IfSome (path_of target) IsPrintable
path_printable target are = elim (cases_Bool (has_path target.form)) [
  | inl has ↦ elim (cases_Bool (length target.path == 0)) [
    | inl empty ↦ rw (has, empty) refl
    | inr some ↦ rw (has, some) (visible target.path are.path)
  ]
  | inr none ↦ rw none tt
]

visible_query : (query : Option (List ℕ)) → IfSome query (λ text. list_all is_visible text ≡ true) → IsPrintable (byte "?" ∷ unwrap_or query [])
visible_query None is = refl
visible_query (Some text) is = visible text is

query_printable : (target : TargetParts) → AreVisible target → IfSome (option_map (λ query. byte "?" ∷ unwrap_or query []) (query_of target)) IsPrintable
query_printable target are = elim (cases_Bool (has_path target.form)) [
  | inl has ↦ rw has (visible_query target.query are.query)
  | inr none ↦ rw none tt
]

query_text_printable : (query : Option (List ℕ)) → IfSome query (λ text. list_all is_visible text ≡ true) → IsPrintable (query_text query)
query_text_printable None is = refl
query_text_printable (Some text) is = visible text is

uri_printable : (parts : RequestParts) (target : TargetParts) → AreVisible target → (path authority : List ℕ) → IsPrintable path → IsPrintable authority
    → IsPrintable (uri_text parts target path authority)
uri_printable parts target are path authority has is =
    let query = query_text target.query in
    let last = all_joined is_string_byte path query has (query_text_printable target.query are.query) in
    let rest = all_joined is_string_byte authority (path ++ query) is last in
    all_joined is_string_byte (scheme_of parts target) (codes "://" ++ (authority ++ (path ++ query))) (one_scheme parts.scheme target.scheme are.scheme)
    (all_joined is_string_byte (codes "://") (authority ++ (path ++ query)) refl rest)

uri_value : (parts : RequestParts) (target : TargetParts) → AreVisible target → (path : List ℕ) → IsPrintable path → (authority : Answer) (value : List ℕ) → TargetAuthorityRow parts target authority
    → Ok value ≡ result_map_both (uri_text parts target path) (λ lack. lack) authority → IsPrintable value
uri_value parts target are path has (Err lack) value row is = absurd cc
uri_value parts target are path has (Ok authority) value row is =
    let named = authority_printable (scheme_of parts target) (named_authority parts target.authority) authority row in
    of_answer value (uri_text parts target path authority) (uri_printable parts target are path authority has named) is

uri_row : (path : Option (List ℕ)) → IfSome path IsPrintable → (parts : RequestParts) (target : TargetParts) → AreVisible target → (value : List ℕ) → TargetUriRow path parts target (Ok value)
    → IsPrintable value
uri_row None has parts target are value row = absurd cc
uri_row (Some path) has parts target are value row = uri_value parts target are path has row.0 value row.1 row.2

param_row : (query : Option (Option (List ℕ))) (params : List (Pair BareItem)) (value : List ℕ) → Ok value ≡ param_value query params → IsPrintable value
param_row None params value row = absurd cc
param_row (Some query) params value row =
    of_sole (matches (unwrap_or query []) (param_name params)) value (matches_printable (unwrap_or query []) (param_name params)) row

-- ---- rows

target_row : (of_target : TargetName) (params : List (Pair BareItem)) (parts : RequestParts) (target : TargetParts) → AreVisible target → (value : List ℕ)
    → TargetRow of_target params parts target (Ok value) → IsPrintable value
target_row name.Scheme params parts target are value row = of_answer value (scheme_of parts target) (one_scheme parts.scheme target.scheme are.scheme) row
target_row name.Authority params parts target are value row = authority_printable (scheme_of parts target) (named_authority parts target.authority) value row
target_row name.Path params parts target are value row = of_some (path_of target) Underivable value (path_printable target are) row
target_row name.Query params parts target are value row =
    of_some (option_map (λ query. byte "?" ∷ unwrap_or query []) (query_of target)) Underivable value (query_printable target are) row
target_row name.TargetUri params parts target are value row = uri_row (path_of target) (path_printable target are) parts target are value row
target_row name.QueryParam params parts target are value row = param_row (query_of target) params value row

formed_row : (of_target : TargetName) (params : List (Pair BareItem)) (parts : RequestParts) → list_all is_visible parts.target ≡ true → (value : List ℕ)
    → FormedRow of_target params parts (Ok value) → IsPrintable value
formed_row of_target params parts is value (inl (target, spells, row)) =
    target_row of_target params parts target (has_visible_parts parts.method parts.target target spells is) value row
formed_row of_target params parts is value (inr (none, row)) = absurd cc

request_row : (derived : DerivedName) (params : List (Pair BareItem)) (parts : RequestParts) → list_all is_tchar parts.method ≡ true → list_all is_visible parts.target ≡ true → (value : List ℕ)
    → RequestRow derived params parts (Ok value) → IsPrintable value
request_row Method params parts method target value row = of_answer value parts.method (all_implied is_tchar is_string_byte token_byte parts.method method) row
request_row RequestTarget params parts method target value row = of_answer value parts.target (visible parts.target target) row
request_row Status params parts method target value row = absurd cc
request_row (OfTarget of_target) params parts method target value row = formed_row of_target params parts target value row

response_row : (derived : DerivedName) (code value : List ℕ) → list_all is_digit code ≡ true → Ok value ≡ response_value derived code → IsPrintable value
response_row Status code value is row = of_answer value code (all_implied is_digit is_string_byte digit_byte code is) row
response_row Method code value is row = absurd cc
response_row RequestTarget code value is row = absurd cc
response_row (OfTarget of_target) code value is row = absurd cc

start_row : (derived : DerivedName) (params : List (Pair BareItem)) (scheme : Scheme) (lines : List FieldLine) (start : StartLine) → IsStartLine start → (value : List ℕ)
    → StartRow derived params scheme lines start (Ok value) → IsPrintable value
start_row derived params scheme lines (request line) is value row =
    let parts : RequestParts = record { method = line.method; target = line.target; lines = lines; scheme = scheme } in
    request_row derived params parts (and_parts _ (list_all is_tchar line.method) is.method).1 (and_parts _ (list_all is_visible line.target) is.target).1 value row
start_row derived params scheme lines (status line) is value row =
    response_row derived line.code value (and_parts _ (list_all is_digit line.code) is.code).1 row

pub derived_printable : (derived : Option DerivedName) (params : List (Pair BareItem)) (scheme : Scheme) (lines : List FieldLine) (start : StartLine) → IsStartLine start → (value : List ℕ)
    → DerivedRow derived params scheme lines start (Ok value) → list_all is_string_byte value ≡ true
derived_printable (Some derived) params scheme lines start is value row = start_row derived params scheme lines start is value row
derived_printable None params scheme lines start is value row = absurd cc
