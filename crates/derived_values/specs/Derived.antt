-- The value of a derived component, or how it lacks one: the rows of the names that begin with `@`
-- (RFC 9421 section 2.2).
use Rattle.std.specs.Prelude.{◌≡◌, ◌⊎◌, ℕ, Option, Some, None, unwrap_or, option_map, option_and_then, ok_or, List, [], ◌∷◌, ◌++◌, Result, Ok, Err, codes, if◌then◌else◌}
use Rattle.std.specs.Result.{result_map_both}
use Rattle.std.specs.Str.{byte, bytes_eq, str_to_ascii_lowercase}
use Rattle.sfv_text.specs.Parts.{string_in}
use Rattle.sfv_text.specs.Keys.{value_of}
use Rattle.sfv_text.specs.declared.pair.Pair.{Pair}
use Rattle.sfv_text.specs.declared.value.BareItem.{BareItem}
use Rattle.msg_head.specs.Lines.{FieldLine}
use Rattle.msg_head.specs.Starts.{StartLine, request, status}
use Rattle.msg_head.specs.Values.{values}
use Rattle.component_ids.specs.declared.scheme.Scheme.{Scheme}
use Rattle.component_ids.specs.declared.scheme.Scheme.TheVariants.{Http, Https}
use Rattle.derived_values.specs.Targets.{TargetParts, SpellsTarget, path_of, query_of, query_text}
use Rattle.derived_values.specs.Authorities.{IsAuthorityValue}
use Rattle.derived_values.specs.Query.{matches}
use Rattle.derived_values.specs.declared.derived.DerivedName.{DerivedName}
use Rattle.derived_values.specs.declared.derived.DerivedName.TheVariants.{Method, RequestTarget, Status, OfTarget}
use Rattle.derived_values.specs.declared.derived.TargetName.{TargetName}
use Rattle.derived_values.specs.declared.derived.TargetName.TheVariants as name
use Rattle.derived_values.specs.declared.lack.Lack.{Lack}
use Rattle.derived_values.specs.declared.lack.Lack.TheVariants.{Absent, Ambiguous, Underivable}

-- ---- names

-- the name of a component that is drawn from the parts of a target
abbrev pub target_name_of : List ℕ → Option TargetName
target_name_of text =
    if bytes_eq text (codes "@target-uri") then Some name.TargetUri
    else if bytes_eq text (codes "@authority") then Some name.Authority
    else if bytes_eq text (codes "@scheme") then Some name.Scheme
    else if bytes_eq text (codes "@path") then Some name.Path
    else if bytes_eq text (codes "@query") then Some name.Query
    else if bytes_eq text (codes "@query-param") then Some name.QueryParam
    else None

-- the name of a derived component (sections 2.2.1 to 2.2.9)
abbrev pub derived_of : List ℕ → Option DerivedName
derived_of text =
    if bytes_eq text (codes "@method") then Some Method
    else if bytes_eq text (codes "@request-target") then Some RequestTarget
    else if bytes_eq text (codes "@status") then Some Status
    else option_map OfTarget (target_name_of text)

-- ---- parts of a request

-- the one value of a list: none is absent, and several are ambiguous
abbrev pub sole_value : List (List ℕ) → Result (List ℕ) Lack
sole_value [] = Err Absent
sole_value (value ∷ []) = Ok value
sole_value (value ∷ other ∷ others) = Err Ambiguous

-- the scheme as `@scheme` and `@target-uri` have it, in lower case (section 2.2.4)
abbrev pub scheme_text : Scheme → List ℕ
scheme_text Http = codes "http"
scheme_text Https = codes "https"

-- a request's method, target and field lines, and the scheme that is configured
pub record RequestParts : Type 0 where
  pub method : List ℕ
  pub target : List ℕ
  pub lines : List FieldLine
  pub scheme : Scheme

-- the target's scheme in lower case, or the configured one where the target has none
-- (section 2.2.4)
abbrev pub scheme_of : RequestParts → TargetParts → List ℕ
scheme_of parts target =
    unwrap_or (option_map str_to_ascii_lowercase target.scheme) (scheme_text parts.scheme)

-- the target's authority, or the value of the one `Host` line where the target has none
-- (section 2.2.3)
abbrev pub named_authority : RequestParts → Option (List ℕ) → Result (List ℕ) Lack
named_authority parts (Some text) = Ok text
named_authority parts None = sole_value (values parts.lines (codes "host"))

-- the value of an authority that has a name in this way; a text that is none is underivable
abbrev pub AuthorityRow : List ℕ → Result (List ℕ) Lack → Result (List ℕ) Lack → Type 0
AuthorityRow scheme (Err lack) result = result ≡ Err lack
AuthorityRow scheme (Ok text) (Ok value) = IsAuthorityValue scheme text value
AuthorityRow scheme (Ok text) (Err lack) =
    (lack ≡ Underivable) × ((value : List ℕ) → ¬ IsAuthorityValue scheme text value)

-- `@authority` (section 2.2.3)
abbrev pub TargetAuthorityRow : RequestParts → TargetParts → Result (List ℕ) Lack → Type 0
TargetAuthorityRow parts target result =
    AuthorityRow (scheme_of parts target) (named_authority parts target.authority) result

-- `@path` (section 2.2.6)
abbrev pub path_value : TargetParts → Result (List ℕ) Lack
path_value target = ok_or (path_of target) Underivable

-- `@query`: `?` and the query, `?` alone where there is none (section 2.2.7)
abbrev pub query_value : TargetParts → Result (List ℕ) Lack
query_value target =
    ok_or (option_map (λ query. byte "?" ∷ unwrap_or query []) (query_of target)) Underivable

-- the scheme, `://`, the authority, the path, and `?` with the query where there is a `?`
abbrev pub uri_text : RequestParts → TargetParts → List ℕ → List ℕ → List ℕ
uri_text parts target path authority =
    scheme_of parts target
    ++ (codes "://" ++ (authority ++ (path ++ query_text target.query)))

-- `@target-uri` of a target with this path: it lacks as `@authority` does (section 2.2.2)
abbrev pub TargetUriRow : Option (List ℕ) → RequestParts → TargetParts
    → Result (List ℕ) Lack → Type 0
TargetUriRow None parts target result = result ≡ Err Underivable
TargetUriRow (Some path) parts target result = (authority : Result (List ℕ) Lack)
    × TargetAuthorityRow parts target authority
    × (result ≡ result_map_both (uri_text parts target path) (λ lack. lack) authority)

-- the characters of the String that the parameter `name` is
abbrev pub param_name : List (Pair BareItem) → List ℕ
param_name params = unwrap_or (option_and_then string_in (value_of params (codes "name"))) []

-- `@query-param` of a target with this query, if it has a `?`: the one value under the name
-- (section 2.2.8)
abbrev pub param_value : Option (Option (List ℕ)) → List (Pair BareItem) → Result (List ℕ) Lack
param_value None params = Err Underivable
param_value (Some query) params =
    sole_value (matches (unwrap_or query []) (param_name params))

-- ---- rows

-- what is drawn from the parts of a target
abbrev pub TargetRow : TargetName → List (Pair BareItem) → RequestParts → TargetParts
    → Result (List ℕ) Lack → Type 0
TargetRow name.Scheme params parts target result = result ≡ Ok (scheme_of parts target)
TargetRow name.Authority params parts target result = TargetAuthorityRow parts target result
TargetRow name.Path params parts target result = result ≡ path_value target
TargetRow name.Query params parts target result = result ≡ query_value target
TargetRow name.TargetUri params parts target result =
    TargetUriRow (path_of target) parts target result
TargetRow name.QueryParam params parts target result =
    result ≡ param_value (query_of target) params

-- a target in no form has no parts to draw from
abbrev pub FormedRow : TargetName → List (Pair BareItem) → RequestParts
    → Result (List ℕ) Lack → Type 0
FormedRow of_target params parts result =
    ((target : TargetParts) × SpellsTarget parts.method parts.target target
    × TargetRow of_target params parts target result)
    ⊎ (((target : TargetParts) → ¬ SpellsTarget parts.method parts.target target)
    × (result ≡ Err Underivable))

-- a derived component of a request: the method and the target as sent, and by this row what
-- is drawn from the target; it has no status (sections 2.2.1, 2.2.5 and 2.2.9)
abbrev pub RequestRowBy : (TargetName → Result (List ℕ) Lack → Type 0) → DerivedName → RequestParts
    → Result (List ℕ) Lack → Type 0
RequestRowBy OfTargetRow Method parts result = result ≡ Ok parts.method
RequestRowBy OfTargetRow RequestTarget parts result = result ≡ Ok parts.target
RequestRowBy OfTargetRow Status parts result = result ≡ Err Underivable
RequestRowBy OfTargetRow (OfTarget of_target) parts result = OfTargetRow of_target result

-- a derived component of a request, whose target is cut as its form is
abbrev pub RequestRow : DerivedName → List (Pair BareItem) → RequestParts
    → Result (List ℕ) Lack → Type 0
RequestRow derived params parts result =
    RequestRowBy (λ of_target answer. FormedRow of_target params parts answer) derived parts result

-- a derived component of a response: the status alone (section 2.2.9)
abbrev pub response_value : DerivedName → List ℕ → Result (List ℕ) Lack
response_value Status code = Ok code
response_value derived code = Err Underivable

-- a derived component, by the kind of the message: of a request or of a response
abbrev pub StartRow : DerivedName → List (Pair BareItem) → Scheme → List FieldLine → StartLine
    → Result (List ℕ) Lack → Type 0
StartRow derived params scheme lines (request line) result = RequestRow derived params (record {
  method = line.method;
  target = line.target;
  lines = lines;
  scheme = scheme;
}) result
StartRow derived params scheme lines (status line) result =
    result ≡ response_value derived line.code

-- a derived component, by its name, and by this row for each; no message has a component of another
-- name
abbrev pub NamedRow : (DerivedName → Result (List ℕ) Lack → Type 0) → Option DerivedName
    → Result (List ℕ) Lack → Type 0
NamedRow OfNameRow (Some derived) result = OfNameRow derived result
NamedRow OfNameRow None result = result ≡ Err Underivable

-- a derived component, by its name
abbrev pub DerivedRow : Option DerivedName → List (Pair BareItem) → Scheme → List FieldLine
    → StartLine → Result (List ℕ) Lack → Type 0
DerivedRow derived params scheme lines start result =
    NamedRow (λ name answer. StartRow name params scheme lines start answer) derived result
