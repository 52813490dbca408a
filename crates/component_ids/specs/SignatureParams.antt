-- Signature parameters (RFC 9421 section 2.3).
use Rattle.std.specs.Prelude.{◌≡◌, ◌≤◌, ℕ, Bool, true, IsTrue, ◌&&◌, List, [], ◌∷◌, length, map, codes, if◌then◌else◌}
use Rattle.std.specs.List.{list_all}
use Rattle.sfv_text.specs.Parts.{is_integer, is_string}
use Rattle.sfv_text.specs.Range.{are_params_in_range}
use Rattle.sfv_text.specs.Strict.{inner_text}
use Rattle.sfv_text.specs.declared.pair.Pair.{Pair}
use Rattle.sfv_text.specs.declared.value.BareItem.{BareItem}
use Rattle.sfv_text.specs.declared.value.InnerList.{InnerList}
use Rattle.component_ids.specs.declared.params.SigParams.{SigParams}
use Rattle.component_ids.specs.declared.params.TheConstants.{MAX_COMPONENTS}
use Rattle.component_ids.specs.Table.{is_listed}
use Rattle.component_ids.specs.Identifiers.{item_of, is_identifier, is_id_in_range, AreDistinct}

-- the parameters that are Strings
abbrev pub string_keys : List (List ℕ)
string_keys = codes "nonce" ∷ codes "alg" ∷ codes "keyid" ∷ codes "tag" ∷ []

-- `created` and `expires` are Integers, `nonce`, `alg`, `keyid` and `tag` are Strings, and others
-- are of any type
abbrev pub is_typed : Pair BareItem → Bool
is_typed param =
    if is_listed (codes "created" ∷ codes "expires" ∷ []) param.key then is_integer param.value
    else if is_listed string_keys param.key then is_string param.value
    else true

-- identifiers, not too many and no two of them the same, and parameters of the right types
pub record IsSigParams (params : SigParams) : Type 0 where
  pub few : length params.ids ≤ MAX_COMPONENTS
  pub each : IsTrue (list_all (λ id. is_identifier (item_of id)) params.ids)
  pub distinct : AreDistinct params.ids
  pub typed : IsTrue (list_all is_typed params.params)

-- the Inner List that stands for signature parameters
abbrev pub list_of : SigParams → InnerList
list_of params = record { items = map item_of params.ids; params = params.params }

-- the Inner List is these signature parameters
abbrev pub IsParamsOf : InnerList → SigParams → Type 0
IsParamsOf list params = IsSigParams params × (list_of params ≡ list)

-- the strict text of signature parameters is that of their Inner List
abbrev pub sig_params_text : SigParams → List ℕ
sig_params_text params = inner_text (list_of params)

-- their values can be written as a structured field
abbrev pub are_sig_params_in_range : SigParams → Bool
are_sig_params_in_range params =
    list_all is_id_in_range params.ids && are_params_in_range params.params
