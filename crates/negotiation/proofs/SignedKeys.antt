-- What is signed as a message wishes names the key that it is signed with.
use Rattle.std.proofs.Common.{◌≡◌, ℕ, true, false, Option, Some, None, List, [], ◌∷◌, ◌++◌, map, codes, refl, ap, subst, ◌∙◌, inl, inr}
use Rattle.std.specs.Prelude.{option_and_then}
use Rattle.std.specs.List.{list_all}
use Rattle.std.proofs.lemmas.Bool.{and_parts, cases_Bool, false≢true}
use Rattle.std.proofs.lemmas.Slice.Eq.{bytes_eq-Decides}
use Rattle.sfv_text.specs.Keys.{has_key, value_of}
use Rattle.sfv_text.specs.Parts.{is_string, string_in}
use Rattle.sfv_text.specs.declared.pair.Pair.{Pair}
use Rattle.sfv_text.specs.declared.value.BareItem.{BareItem}
use Rattle.sfv_text.specs.declared.value.BareItem.TheVariants.{Str}
use Rattle.sfv_text.specs.declared.value.InnerList.{InnerList}
use Rattle.sfv_text.specs.declared.value.Member.{Member}
use Rattle.component_ids.specs.Table.{has_param}
use Rattle.settings.specs.Configuration.{Configuration}
use Rattle.settings.specs.declared.sign_conf.SignConf.{SignConf}
use Rattle.signing.specs.Asked.{moment_item}
use Rattle.signing.specs.Wishes.{MeetsWish, can_be_met, filled, filled_value, where_missing, wished_keyid, wished_params}
use Rattle.signing.specs.declared.spec.SignSpec.{SignSpec}
use Rattle.verdicts.specs.Parameters.{keyid_of}

abbrev keyid : List ℕ
keyid = codes "keyid"

-- `created` and `expires` alone are filled in
value_filled : (now : ℕ) (after : Option ℕ) (ps : List (Pair BareItem)) → value_of (map (filled now after) ps) keyid ≡ value_of ps keyid
value_filled now after [] = refl
value_filled now after (p ∷ ps) = elim (cases_Bool (has_key keyid p)) [
  | inr other ↦ rw other (value_filled now after ps)
  | inl found ↦
      let is : p.key ≡ keyid = (bytes_eq-Decides p.key keyid).0 found in
      let same : filled_value now after p ≡ p.value = rw is refl in
      rw (found, same) refl
]

-- the parameter of a key that others come after
value_joined : (ps rest : List (Pair BareItem)) (bare : BareItem) → value_of ps keyid ≡ Some bare → value_of (ps ++ rest) keyid ≡ Some bare
value_joined [] rest bare is = absurd cc
value_joined (p ∷ ps) rest bare is = elim (cases_Bool (has_key keyid p)) [
  | inl found ↦ rw found (rw found at is)
  | inr other ↦ rw other (value_joined ps rest bare (rw other at is))
]

value_after : (ps rest : List (Pair BareItem)) → value_of ps keyid ≡ None → value_of (ps ++ rest) keyid ≡ value_of rest keyid
value_after [] rest none = refl
value_after (p ∷ ps) rest none = elim (cases_Bool (has_key keyid p)) [
  | inl found ↦ absurd (cc (rw found at none))
  | inr other ↦ rw other (value_after ps rest (rw other at none))
]

-- a wish names its key by a String
named_by_string : (after : Option ℕ) (ps : List (Pair BareItem)) (bare : BareItem) → list_all (can_be_met after) ps ≡ true → value_of ps keyid ≡ Some bare → is_string bare ≡ true
named_by_string after [] bare can is = absurd cc
named_by_string after (p ∷ ps) bare can is =
    let both = and_parts (can_be_met after p) (list_all (can_be_met after) ps) can in
    elim (cases_Bool (has_key keyid p)) [
      | inr other ↦ named_by_string after ps bare both.1 (rw other at is)
      | inl found ↦
          let key : p.key ≡ keyid = (bytes_eq-Decides p.key keyid).0 found in
          let value : Some p.value ≡ Some bare = rw found at is in
          let same : p.value ≡ bare = cc in
          subst (λ (b : BareItem). is_string b ≡ true) same (rw key at both.0)
    ]

string_is : (bare : BareItem) → is_string bare ≡ true → (text : List ℕ) × (bare ≡ Str text)
string_is (Str text) is = (text, refl)
string_is bare is = absurd (false≢true is)

-- the configured keyid comes last, where none is wished
added : (sign : SignConf) (now : ℕ) (ps : List (Pair BareItem)) → has_param ps keyid ≡ false
    → value_of (where_missing ps (codes "created") (moment_item now) ++ where_missing ps keyid (Str sign.keyid)) keyid ≡ Some (Str sign.keyid)
added sign now ps none = elim (cases_Bool (has_param ps (codes "created"))) [
  | inl there ↦ rw (there, none) refl
  | inr missing ↦ rw (missing, none) refl
]

wished_is : (sign : SignConf) (now : ℕ) (list : InnerList) → list_all (can_be_met sign.expires_after) list.params ≡ true
    → option_and_then string_in (value_of (wished_params sign now list.params) keyid) ≡ Some (wished_keyid sign list)
wished_is sign now list can = by_value (value_of list.params keyid) refl where
  filled_params : List (Pair BareItem)
  filled_params = map (filled now sign.expires_after) list.params

  rest : List (Pair BareItem)
  rest = where_missing list.params (codes "created") (moment_item now) ++ where_missing list.params keyid (Str sign.keyid)

  by_value : (o : Option BareItem) → value_of list.params keyid ≡ o → option_and_then string_in (value_of (wished_params sign now list.params) keyid) ≡ Some (wished_keyid sign list)
  by_value None is =
      let missing : has_param list.params keyid ≡ false = rw is refl in
      let value : value_of (wished_params sign now list.params) keyid ≡ Some (Str sign.keyid) =
      value_after filled_params rest (value_filled now sign.expires_after list.params ∙ is) ∙ added sign now list.params missing in
      rw (value, is) refl
  by_value (Some bare) is =
      let text = string_is bare (named_by_string sign.expires_after list.params bare can is) in
      let value : value_of (wished_params sign now list.params) keyid ≡ Some bare =
      value_joined filled_params rest bare (value_filled now sign.expires_after list.params ∙ is) in
      rw (value, is, text.1) refl

pub wish_names_key : (conf : Configuration) (now : ℕ) (wish : Pair Member) (spec : SignSpec) (is : MeetsWish conf now wish spec) → keyid_of spec.params ≡ Some (wished_keyid is.sign is.list)
wish_names_key conf now wish spec is =
    ap (λ (params : List (Pair BareItem)). option_and_then string_in (value_of params keyid)) is.params ∙ wished_is is.sign now is.list is.can
