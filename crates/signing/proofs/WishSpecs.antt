-- What a wish asks for can be signed.
use Rattle.std.proofs.Common.{◌≡◌, ◌≤◌, ℕ, true, false, ◌&&◌, nat_le, Option, Some, None, IfSome, length, map, codes, refl, sym, ap, subst, ◌∙◌}
use Rattle.std.specs.List.{list_all}
use Rattle.std.proofs.lemmas.Bool.{and_from, and_parts}
use Rattle.std.proofs.lemmas.List.Folds.{list_all-map}
use Rattle.sfv_text.specs.Keys.{value_of}
use Rattle.sfv_text.specs.Range.{is_key, is_item_in_range, is_member_in_range, is_inner_in_range, are_params_in_range, is_string_byte, is_dict_member_in_range}
use Rattle.sfv_text.specs.declared.pair.Pair.{Pair}
use Rattle.sfv_text.specs.declared.value.BareItem.{BareItem}
use Rattle.sfv_text.specs.declared.value.InnerList.{InnerList}
use Rattle.sfv_text.specs.declared.value.Member.{Member}
use Rattle.sfv_text.specs.declared.value.Member.TheVariants.{InnerList as InnerMember}
use Rattle.component_ids.specs.Identifiers.{item_of, is_id_in_range}
use Rattle.component_ids.specs.SignatureParams.{IsParamsOf}
use Rattle.component_ids.specs.Table.{has_param}
use Rattle.nonces.specs.declared.limits.TheConstants.{MAX_KEYID_BYTES, MAX_MOMENT}
use Rattle.settings.specs.Covered.{params_of}
use Rattle.settings.specs.Keys.{is_keyid}
use Rattle.settings.specs.declared.sign_conf.SignConf.{SignConf}
use Rattle.signing.specs.Specs.{IsValidSpec}
use Rattle.settings.specs.Configuration.{Configuration}
use Rattle.signing.specs.Asked.{digest_algorithm}
use Rattle.signatures.specs.Algorithms.{supported_algorithm}
use Rattle.signing.specs.declared.wish.WishFault.{WishFault}
use Rattle.signing.specs.tools.Wished.{IsWishCause}
use Rattle.signing.proofs.Wishing.{no_wish_cause}
use Rattle.signing.specs.Wishes.{can_be_met, components_in, wished_alg, wished_key, wished_keyid, wished_params, MeetsWish}
use Rattle.signing.specs.declared.spec.SignSpec.{SignSpec}
use Rattle.signing.proofs.Filling.{wished_typed, wished_in_range}

-- the configured keyid is one where none is wished
own_keyid : (sign : SignConf) (list : InnerList) → is_keyid (wished_keyid sign list) ≡ true → has_param list.params (codes "keyid") ≡ false → list_all is_string_byte sign.keyid ≡ true
own_keyid sign list is none = characters (value_of list.params (codes "keyid")) refl none where
  characters : (o : Option BareItem) → value_of list.params (codes "keyid") ≡ o → has_param list.params (codes "keyid") ≡ false → list_all is_string_byte sign.keyid ≡ true
  characters None there lacks =
      let own : is_keyid sign.keyid ≡ true = rw there at is in
      (and_parts (nat_le 1 (length sign.keyid) && nat_le (length sign.keyid) MAX_KEYID_BYTES) (list_all is_string_byte sign.keyid) own).1
  characters (Some bare) there lacks = absurd (cc (rw there at lacks))

pub wish_is_valid : (sign : SignConf) (now : ℕ) (wish : Pair Member) (list : InnerList) (spec : SignSpec) → is_dict_member_in_range wish ≡ true → wish.value ≡ InnerMember list → now ≤ MAX_MOMENT
    → is_keyid (wished_keyid sign list) ≡ true → IsParamsOf (components_in list) (params_of spec.params.ids) → list_all (can_be_met sign.expires_after) list.params ≡ true → spec.label ≡ wish.key
    → spec.params.params ≡ wished_params sign now list.params → IsValidSpec spec
wish_is_valid sign now wish list spec in_range list_is timely keyid ids can label params =
    let member = and_parts (is_key wish.key) (is_member_in_range wish.value) in_range in
    let inner : is_inner_in_range list ≡ true = ap is_member_in_range (sym list_is) ∙ member.1 in
    let both = and_parts (list_all is_item_in_range list.items) (are_params_in_range list.params) inner in
    let items : map item_of spec.params.ids ≡ list.items = ap (λ (l : InnerList). l.items) ids.1 in
    let ranged : list_all is_id_in_range spec.params.ids ≡ true = sym (list_all-map is_item_in_range item_of spec.params.ids) ∙ (ap (list_all is_item_in_range) items ∙ both.0) in
    record {
      label = rw label member.0;
      params = record {
        few = ids.0.few;
        each = ids.0.each;
        distinct = ids.0.distinct;
        typed = rw params (wished_typed sign now list.params can);
      };
      in_range = and_from (list_all is_id_in_range spec.params.ids) (are_params_in_range spec.params.params) ranged
          (rw params (wished_in_range sign now list.params timely (own_keyid sign list keyid) both.1));
    }

-- all of a wish that is met
pub wish_met : (conf : Configuration) (sign : SignConf) (now : ℕ) (wish : Pair Member) (list : InnerList) (spec : SignSpec) → conf.sign ≡ Some sign → is_dict_member_in_range wish ≡ true
    → wish.value ≡ InnerMember list → now ≤ MAX_MOMENT → is_keyid (wished_keyid sign list) ≡ true → IsParamsOf (components_in list) (params_of spec.params.ids)
    → list_all (can_be_met sign.expires_after) list.params ≡ true → IfSome (wished_alg list) (λ alg. alg ≡ supported_algorithm) → spec.label ≡ wish.key
    → spec.params.params ≡ wished_params sign now list.params → wished_key conf sign list ≡ Some spec.key → spec.digest ≡ digest_algorithm sign.digest
    → MeetsWish conf now wish spec × IsValidSpec spec × ((fault : WishFault) → ¬ IsWishCause conf sign wish.value fault)
wish_met conf sign now wish list spec configured in_range list_is timely keyid ids can fine label params key digest = (
  record {
    sign = sign;
    sign_is = configured;
    list = list;
    list_is = list_is;
    label = label;
    ids = ids;
    can = can;
    params = params;
    alg = fine;
    key = key;
    digest = digest;
  },
  wish_is_valid sign now wish list spec in_range list_is timely keyid ids can label params,
  λ fault. subst (λ (m : Member). ¬ IsWishCause conf sign m fault) (sym list_is) (no_wish_cause conf sign list spec.params.ids ids can fine spec.key key fault),
)
