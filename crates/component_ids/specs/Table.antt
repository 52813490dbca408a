-- The names of components and the parameters that go with them (RFC 9421 sections 2 to 2.4).
use Rattle.std.specs.Prelude.{ℕ, Bool, ◌&&◌, ◌||◌, not, Option, Some, None, is_some, unwrap_or, List, [], ◌∷◌, codes, if◌then◌else◌}
use Rattle.std.specs.List.{list_any}
use Rattle.std.specs.Str.{bytes_eq}
use Rattle.sfv_text.specs.Keys.{value_of}
use Rattle.sfv_text.specs.Parts.{is_string, is_true}
pub use Rattle.byte_grammar.specs.Classes.{is_name_byte, is_field_name}
use Rattle.sfv_text.specs.declared.pair.Pair.{Pair}
use Rattle.sfv_text.specs.declared.value.BareItem.{BareItem}

-- ---- the table of names

-- the text is one of the texts
abbrev pub is_listed : List (List ℕ) → List ℕ → Bool
is_listed texts text = list_any (bytes_eq text) texts

-- the derived components of a request without a parameter of their own (section 2.2)
abbrev pub request_names : List (List ℕ)
request_names =
    codes "@method" ∷ codes "@target-uri" ∷ codes "@authority" ∷ codes "@scheme"
    ∷ codes "@request-target" ∷ codes "@path" ∷ codes "@query" ∷ []

-- The table: the keys of the parameters that go with a name, or None where no component has it
-- (sections 2.1, 2.2 and 2.4; `@signature-params` is no covered component, section 2.3).
abbrev pub keys_of : List ℕ → Option (List (List ℕ))
keys_of name =
    if is_field_name name then
    Some (codes "sf" ∷ codes "key" ∷ codes "bs" ∷ codes "tr" ∷ codes "req" ∷ [])
    else if is_listed request_names name then Some (codes "req" ∷ [])
    else if bytes_eq name (codes "@query-param") then Some (codes "name" ∷ codes "req" ∷ [])
    else if bytes_eq name (codes "@status") then Some []
    else None

-- the name has a row
abbrev pub is_name : List ℕ → Bool
is_name name = is_some (keys_of name)

-- a parameter of the key goes with the name
abbrev pub goes_with : List ℕ → List ℕ → Bool
goes_with name key = is_listed (unwrap_or (keys_of name) []) key

-- ---- what else is asked of the parameters

-- `key` and `name` are Strings, `sf`, `bs`, `tr` and `req` are Boolean true (sections 2.1, 2.2.8
-- and 2.4)
abbrev pub has_value_type : Pair BareItem → Bool
has_value_type param =
    if is_listed (codes "key" ∷ codes "name" ∷ []) param.key then is_string param.value
    else is_true param.value

-- a parameter of the key is there
abbrev pub has_param : List (Pair BareItem) → List ℕ → Bool
has_param params key = is_some (value_of params key)

-- `bs` goes with neither `sf` nor `key` (section 2.1)
abbrev pub have_clash : List (Pair BareItem) → Bool
have_clash params =
    has_param params (codes "bs")
    && (has_param params (codes "sf") || has_param params (codes "key"))

-- `@query-param` has its `name` (section 2.2.8)
abbrev pub has_needed : List ℕ → List (Pair BareItem) → Bool
has_needed name params =
    not (bytes_eq name (codes "@query-param")) || has_param params (codes "name")
