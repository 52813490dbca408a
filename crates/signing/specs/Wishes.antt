-- What a field `Accept-Signature` wishes to be signed (RFC 9421 section 5.1).
use Rattle.std.specs.Prelude.{◌≡◌, ⊤, ℕ, Bool, true, ◌&&◌, is_some, IsTrue, Option, Some, None, option_and_then, unwrap_or, IfSome, List, [], ◌∷◌, ◌++◌, map, codes, if◌then◌else◌}
use Rattle.std.specs.FinMap as finite
use Rattle.std.specs.List.{list_all}
use Rattle.std.specs.Str.{bytes_eq}
use Rattle.sfv_text.specs.declared.pair.Pair.{Pair}
use Rattle.sfv_text.specs.declared.value.BareItem.{BareItem}
use Rattle.sfv_text.specs.declared.value.BareItem.TheVariants.{Str}
use Rattle.sfv_text.specs.declared.value.InnerList.{InnerList}
use Rattle.sfv_text.specs.declared.value.Member.{Member}
use Rattle.sfv_text.specs.declared.value.Member.TheVariants.{InnerList as InnerMember}
use Rattle.sfv_text.specs.Keys.{value_of}
use Rattle.sfv_text.specs.Parts.{is_string, is_true, string_in}
use Rattle.component_ids.specs.Table.{is_listed, has_param}
use Rattle.component_ids.specs.SignatureParams.{string_keys, IsParamsOf}
use Rattle.msg_body.specs.Messages.{Message}
use Rattle.settings.specs.Configuration.{Configuration}
use Rattle.settings.specs.Covered.{params_of}
use Rattle.settings.specs.declared.sign_conf.SignConf.{SignConf}
use Rattle.signatures.specs.Signatures.{HasDict}
use Rattle.signatures.specs.Algorithms.{supported_algorithm}
use Rattle.signing.specs.Asked.{expires_at, moment_item, digest_algorithm}
use Rattle.signing.specs.declared.spec.SignSpec.{SignSpec}

-- the field that has the signatures that are wished
abbrev pub wish_name : List ℕ
wish_name = codes "accept-signature"

-- ---- the parameters of a wish

-- The wish for a parameter can be met: `created` and `expires` are wished by their keys alone, and
-- `expires` only where it is configured; the others of RFC 9421 section 2.3 are Strings.
abbrev pub can_be_met : Option ℕ → Pair BareItem → Bool
can_be_met after param =
    if bytes_eq param.key (codes "created") then is_true param.value
    else if bytes_eq param.key (codes "expires") then is_true param.value && is_some after
    else if is_listed string_keys param.key then is_string param.value
    else true

-- the moment of `expires`, where it is configured
abbrev pub expires_item : ℕ → Option ℕ → BareItem → BareItem
expires_item now None wished = wished
expires_item now (Some after) wished = moment_item (expires_at now after)

-- the parameter as it is signed: `created` and `expires` have their moments, and the others are as
-- they are wished
abbrev pub filled_value : ℕ → Option ℕ → Pair BareItem → BareItem
filled_value now after param =
    if bytes_eq param.key (codes "created") then moment_item now
    else if bytes_eq param.key (codes "expires") then expires_item now after param.value
    else param.value

abbrev pub filled : ℕ → Option ℕ → Pair BareItem → Pair BareItem
filled now after param = record { key = param.key; value = filled_value now after param }

-- the parameter of the key, where none has it
abbrev pub where_missing : List (Pair BareItem) → List ℕ → BareItem → List (Pair BareItem)
where_missing params key value =
    if has_param params key then [] else record { key = key; value = value } ∷ []

-- the parameters of a wish as they are signed, and after them `created` and `keyid` where they
-- aren't wished
abbrev pub wished_params : SignConf → ℕ → List (Pair BareItem) → List (Pair BareItem)
wished_params sign now params =
    map (filled now sign.expires_after) params
    ++ (where_missing params (codes "created") (moment_item now)
    ++ where_missing params (codes "keyid") (Str sign.keyid))

-- ---- a wish

-- the characters of the parameter, where it is a String
abbrev pub string_of_key : List (Pair BareItem) → List ℕ → Option (List ℕ)
string_of_key params key = option_and_then string_in (value_of params key)

-- the name of the algorithm that is wished
abbrev pub wished_alg : InnerList → Option (List ℕ)
wished_alg list = string_of_key list.params (codes "alg")

-- the keyid that is wished, or else the one that is configured
abbrev pub wished_keyid : SignConf → InnerList → List ℕ
wished_keyid sign list = unwrap_or (string_of_key list.params (codes "keyid")) sign.keyid

-- the key that the configuration has for a wish
abbrev pub wished_key : Configuration → SignConf → InnerList → Option (List ℕ)
wished_key conf sign list = finite.get conf.keys (wished_keyid sign list)

-- the covered components of a wish alone
abbrev pub components_in : InnerList → InnerList
components_in list = record { items = list.items; params = [] }

-- this is what the member of the field wishes
pub record MeetsWish (conf : Configuration) (now : ℕ) (wish : Pair Member) (spec : SignSpec)
    : Type 0 where
  pub sign : SignConf
  pub sign_is : conf.sign ≡ Some sign
  pub list : InnerList
  pub list_is : wish.value ≡ InnerMember list
  pub label : spec.label ≡ wish.key
  pub ids : IsParamsOf (components_in list) (params_of spec.params.ids)
  pub can : IsTrue (list_all (can_be_met sign.expires_after) list.params)
  pub params : spec.params.params ≡ wished_params sign now list.params
  pub alg : IfSome (wished_alg list) (λ alg. alg ≡ supported_algorithm)
  pub key : wished_key conf sign list ≡ Some spec.key
  pub digest : spec.digest ≡ digest_algorithm sign.digest

-- each of them is what the member of the same place wishes
abbrev pub MeetWishes : Configuration → ℕ → List (Pair Member) → List SignSpec → Type 0
MeetWishes conf now [] [] = ⊤
MeetWishes conf now (wish ∷ wishes) (spec ∷ specs) =
    MeetsWish conf now wish spec × MeetWishes conf now wishes specs
MeetWishes conf now [] (spec ∷ specs) = ⊥
MeetWishes conf now (wish ∷ wishes) [] = ⊥

-- The message's field is a Dictionary of wishes, and each of these is what the wish of the same
-- place asks for. Of an empty Dictionary they are none; then there is a fault, `Absent`.
abbrev pub AreWished : Configuration → ℕ → Message → List SignSpec → Type 0
AreWished conf now message specs =
    (wishes : List (Pair Member)) × HasDict message wish_name wishes
    × MeetWishes conf now wishes specs
