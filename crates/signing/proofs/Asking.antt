-- The parameters that a configuration asks for, and that what it asks for can be signed.
use Rattle.std.proofs.Common.{◌≡◌, ◌≤◌, ℕ, Bool, true, false, ◌&&◌, nat_le, nat_lt, Option, Some, None, IfSome, List, [], ◌++◌, codes, length, ◌+◌, ◌^◌, if◌then◌else◌, refl, arith, Result, Ok, Err, OnOk}
use Rattle.std.specs.Prelude.{option_map}
use Rattle.std.specs.List.{list_all}
use Rattle.std.proofs.Math.Nat.{min-le_right}
use Rattle.std.specs.Option.{ForSome}
use Rattle.std.proofs.lemmas.Bool.{and_from, and_parts, lt-ltb}
use Rattle.byte_grammar.proofs.ListLaws.{all_joined}
use Rattle.sfv_text.specs.Keys.{have_distinct_keys}
use Rattle.sfv_text.specs.Range.{is_string_byte, is_param_in_range, are_params_in_range}
use Rattle.sfv_text.specs.declared.pair.Pair.{Pair}
use Rattle.sfv_text.specs.declared.value.BareItem.{BareItem}
use Rattle.sfv_text.specs.declared.value.BareItem.TheVariants.{Str}
use Rattle.component_ids.specs.SignatureParams.{is_typed}
use Rattle.component_ids.specs.Identifiers.{is_id_in_range}
use Rattle.nonces.specs.declared.limits.TheConstants.{MAX_KEYID_BYTES, MAX_MOMENT}
use Rattle.settings.specs.Keys.{KeyMap, is_keyid}
use Rattle.settings.specs.Valid.{IsValidSign}
use Rattle.settings.specs.ValidSections.{AreValidComponents}
use Rattle.settings.specs.declared.sign_conf.SignConf.{SignConf}
use Rattle.signatures.specs.Algorithms.{supported_algorithm}
use Rattle.signing.specs.Asked.{moment_item, given, expires_at, asked_params, covered_ids}
use Rattle.signing.specs.Specs.{IsValidSpec}
use Rattle.signing.specs.declared.spec.SignSpec.{SignSpec}
use Rattle.signing.specs.tools.Params.{put_given}

-- the parameters by their values
abbrev pub params_of_values : ℕ → Option ℕ → Option (List ℕ) → Option (List ℕ) → List ℕ → Option (List ℕ) → List (Pair BareItem)
params_of_values now expires nonce alg keyid tag =
    given (codes "created") moment_item (Some now) ++ (given (codes "expires") moment_item expires
    ++ (given (codes "nonce") Str nonce ++ (given (codes "alg") Str alg ++ (given (codes "keyid") Str (Some keyid) ++ given (codes "tag") Str tag))))

-- put one after the other they are so, since each key is new
put_values : (now : ℕ) (expires : Option ℕ) (nonce alg : Option (List ℕ)) (keyid : List ℕ) (tag : Option (List ℕ))
    → put_given (put_given (put_given (put_given (put_given (put_given [] (codes "created") moment_item (Some now)) (codes "expires") moment_item expires) (codes "nonce") Str nonce) (codes "alg") Str alg)
    (codes "keyid") Str (Some keyid)) (codes "tag") Str tag ≡ params_of_values now expires nonce alg keyid tag
put_values now None None None keyid None = refl
put_values now None None None keyid (Some t) = refl
put_values now None None (Some a) keyid None = refl
put_values now None None (Some a) keyid (Some t) = refl
put_values now None (Some n) None keyid None = refl
put_values now None (Some n) None keyid (Some t) = refl
put_values now None (Some n) (Some a) keyid None = refl
put_values now None (Some n) (Some a) keyid (Some t) = refl
put_values now (Some e) None None keyid None = refl
put_values now (Some e) None None keyid (Some t) = refl
put_values now (Some e) None (Some a) keyid None = refl
put_values now (Some e) None (Some a) keyid (Some t) = refl
put_values now (Some e) (Some n) None keyid None = refl
put_values now (Some e) (Some n) None keyid (Some t) = refl
put_values now (Some e) (Some n) (Some a) keyid None = refl
put_values now (Some e) (Some n) (Some a) keyid (Some t) = refl

-- by what each step leaves
asked_by_steps : (now : ℕ) (expires : Option ℕ) (nonce alg : Option (List ℕ)) (keyid : List ℕ) (tag : Option (List ℕ)) (p0 p1 p2 p3 p4 p5 p6 : List (Pair BareItem)) → p0 ≡ []
    → p1 ≡ put_given p0 (codes "created") moment_item (Some now) → p2 ≡ put_given p1 (codes "expires") moment_item expires → p3 ≡ put_given p2 (codes "nonce") Str nonce
    → p4 ≡ put_given p3 (codes "alg") Str alg → p5 ≡ put_given p4 (codes "keyid") Str (Some keyid) → p6 ≡ put_given p5 (codes "tag") Str tag
    → p6 ≡ params_of_values now expires nonce alg keyid tag
asked_by_steps now expires nonce alg keyid tag p0 p1 p2 p3 p4 p5 p6 e0 e1 e2 e3 e4 e5 e6 =
    rw (e6, e5, e4, e3, e2, e1, e0) (put_values now expires nonce alg keyid tag)

pub put_by_steps : {E : Type 0} (now : ℕ) (expires : Option ℕ) (nonce alg : Option (List ℕ)) (keyid : List ℕ) (tag : Option (List ℕ)) (p0 p1 p2 p3 p4 p5 p6 : List (Pair BareItem)) (result : Result Unit E)
    → p0 ≡ [] → p1 ≡ put_given p0 (codes "created") moment_item (Some now) → p2 ≡ put_given p1 (codes "expires") moment_item expires → p3 ≡ put_given p2 (codes "nonce") Str nonce
    → p4 ≡ put_given p3 (codes "alg") Str alg → p5 ≡ put_given p4 (codes "keyid") Str (Some keyid) → OnOk result (p6 ≡ put_given p5 (codes "tag") Str tag)
    → OnOk result (p6 ≡ params_of_values now expires nonce alg keyid tag)
put_by_steps now expires text alg keyid tag p0 p1 p2 p3 p4 p5 p6 (Ok done) e0 e1 e2 e3 e4 e5 e6 = asked_by_steps now expires text alg keyid tag p0 p1 p2 p3 p4 p5 p6 e0 e1 e2 e3 e4 e5 e6
put_by_steps now expires text alg keyid tag p0 p1 p2 p3 p4 p5 p6 (Err fault) e0 e1 e2 e3 e4 e5 e6 = tt

-- ---- what is asked for can be signed

typed_given : {T : Type 0} (key : List ℕ) (item_of : T → BareItem) → ((value : T) → is_typed (record { key = key; value = item_of value }) ≡ true) → (o : Option T)
    → list_all is_typed (given key item_of o) ≡ true
typed_given key item_of typed None = refl
typed_given key item_of typed (Some value) = and_from (is_typed (record { key = key; value = item_of value })) true (typed value) refl

ranged_given : {T : Type 0} (key : List ℕ) (item_of : T → BareItem) (P : T → Type 0) → ((value : T) → P value → is_param_in_range (record { key = key; value = item_of value }) ≡ true)
    → (o : Option T) → IfSome o P → list_all is_param_in_range (given key item_of o) ≡ true
ranged_given key item_of P ranged None p = refl
ranged_given key item_of P ranged (Some value) p = and_from (is_param_in_range (record { key = key; value = item_of value })) true (ranged value p) refl

distinct_values : (now : ℕ) (expires : Option ℕ) (nonce alg : Option (List ℕ)) (keyid : List ℕ) (tag : Option (List ℕ)) → have_distinct_keys (params_of_values now expires nonce alg keyid tag) ≡ true
distinct_values now None None None keyid None = refl
distinct_values now None None None keyid (Some t) = refl
distinct_values now None None (Some a) keyid None = refl
distinct_values now None None (Some a) keyid (Some t) = refl
distinct_values now None (Some n) None keyid None = refl
distinct_values now None (Some n) None keyid (Some t) = refl
distinct_values now None (Some n) (Some a) keyid None = refl
distinct_values now None (Some n) (Some a) keyid (Some t) = refl
distinct_values now (Some e) None None keyid None = refl
distinct_values now (Some e) None None keyid (Some t) = refl
distinct_values now (Some e) None (Some a) keyid None = refl
distinct_values now (Some e) None (Some a) keyid (Some t) = refl
distinct_values now (Some e) (Some n) None keyid None = refl
distinct_values now (Some e) (Some n) None keyid (Some t) = refl
distinct_values now (Some e) (Some n) (Some a) keyid None = refl
distinct_values now (Some e) (Some n) (Some a) keyid (Some t) = refl

abbrev AreCharacters : List ℕ → Type 0
AreCharacters text = list_all is_string_byte text ≡ true

module _ (now : ℕ) (expires : Option ℕ) (nonce alg : Option (List ℕ)) (keyid : List ℕ) (tag : Option (List ℕ)) where
  -- a test that passes on the parameters of each key
  all_values : (test : Pair BareItem → Bool) → list_all test (given (codes "created") moment_item (Some now)) ≡ true → list_all test (given (codes "expires") moment_item expires) ≡ true
      → list_all test (given (codes "nonce") Str nonce) ≡ true → list_all test (given (codes "alg") Str alg) ≡ true → list_all test (given (codes "keyid") Str (Some keyid)) ≡ true
      → list_all test (given (codes "tag") Str tag) ≡ true → list_all test (params_of_values now expires nonce alg keyid tag) ≡ true
  all_values test a b c d e f =
      let from_keyid = given (codes "keyid") Str (Some keyid) ++ given (codes "tag") Str tag in
      let from_alg = given (codes "alg") Str alg ++ from_keyid in
      let from_nonce = given (codes "nonce") Str nonce ++ from_alg in
      let from_expires = given (codes "expires") moment_item expires ++ from_nonce in
      all_joined test (given (codes "created") moment_item (Some now)) from_expires a
      (all_joined test (given (codes "expires") moment_item expires) from_nonce b
      (all_joined test (given (codes "nonce") Str nonce) from_alg c
      (all_joined test (given (codes "alg") Str alg) from_keyid d (all_joined test (given (codes "keyid") Str (Some keyid)) (given (codes "tag") Str tag) e f))))

  typed_values : list_all is_typed (params_of_values now expires nonce alg keyid tag) ≡ true
  typed_values =
      all_values is_typed (typed_given (codes "created") moment_item (λ n. refl) (Some now)) (typed_given (codes "expires") moment_item (λ n. refl) expires)
      (typed_given (codes "nonce") Str (λ t. refl) nonce) (typed_given (codes "alg") Str (λ t. refl) alg) (typed_given (codes "keyid") Str (λ t. refl) (Some keyid))
      (typed_given (codes "tag") Str (λ t. refl) tag)

  in_range : (n : ℕ) → n ≤ MAX_MOMENT → nat_lt n (10 ^ 15) ≡ true
  in_range n le = lt-ltb n (10 ^ 15) (omega (arith, le))

  ranged_values : now ≤ MAX_MOMENT → IfSome expires (λ n. n ≤ MAX_MOMENT) → IfSome nonce AreCharacters → IfSome alg AreCharacters → AreCharacters keyid → IfSome tag AreCharacters
      → are_params_in_range (params_of_values now expires nonce alg keyid tag) ≡ true
  ranged_values timely later a b c d =
      and_from (have_distinct_keys (params_of_values now expires nonce alg keyid tag)) (list_all is_param_in_range (params_of_values now expires nonce alg keyid tag))
      (distinct_values now expires nonce alg keyid tag)
      (all_values is_param_in_range (ranged_given (codes "created") moment_item (λ n. n ≤ MAX_MOMENT) in_range (Some now) timely)
      (ranged_given (codes "expires") moment_item (λ n. n ≤ MAX_MOMENT) in_range expires later) (ranged_given (codes "nonce") Str AreCharacters (λ t h. h) nonce a)
      (ranged_given (codes "alg") Str AreCharacters (λ t h. h) alg b) (ranged_given (codes "keyid") Str AreCharacters (λ t h. h) (Some keyid) c)
      (ranged_given (codes "tag") Str AreCharacters (λ t h. h) tag d))

-- the components of a request, or of a response
valid_ids : (sign : SignConf) (of_request : Bool) → AreValidComponents sign.components_request → AreValidComponents sign.components_response → AreValidComponents (covered_ids sign of_request)
valid_ids sign true a b = a
valid_ids sign false a b = b

expires_within : (now : ℕ) (after : Option ℕ) → IfSome (option_map (expires_at now) after) (λ n. n ≤ MAX_MOMENT)
expires_within now None = tt
expires_within now (Some n) = min-le_right (now + n) MAX_MOMENT

alg_characters : (asked : Bool) → IfSome (if asked then Some supported_algorithm else None) AreCharacters
alg_characters true = refl
alg_characters false = tt

tag_characters : (tag : Option (List ℕ)) → ForSome tag AreCharacters → IfSome tag AreCharacters
tag_characters None all = tt
tag_characters (Some tag) all = all tag refl

pub valid_of : (keys : KeyMap) (sign : SignConf) (of_request : Bool) (now : ℕ) (nonce : Option (List ℕ)) (spec : SignSpec) → IsValidSign keys sign → is_keyid sign.keyid ≡ true
    → now ≤ MAX_MOMENT → IfSome nonce AreCharacters → spec.label ≡ sign.label → spec.params.ids ≡ covered_ids sign of_request → spec.params.params ≡ asked_params sign now nonce → IsValidSpec spec
valid_of keys sign of_request now nonce spec valid keyid timely characters label ids params =
    let components = valid_ids sign of_request valid.components_request valid.components_response in
    let expires = option_map (expires_at now) sign.expires_after in
    let alg = if sign.alg then Some supported_algorithm else None in
    let named = and_parts (nat_le 1 (length sign.keyid) && nat_le (length sign.keyid) MAX_KEYID_BYTES) (list_all is_string_byte sign.keyid) keyid in
    record {
      label = rw label valid.label;
      params = record {
        few = rw ids components.components.few;
        each = rw ids components.components.each;
        distinct = rw ids components.components.distinct;
        typed = rw params (typed_values now expires nonce alg sign.keyid sign.tag);
      };
      in_range = rw (ids, params) (and_from (list_all is_id_in_range (covered_ids sign of_request)) (are_params_in_range (asked_params sign now nonce)) components.in_range
          (ranged_values now expires nonce alg sign.keyid sign.tag timely (expires_within now sign.expires_after) characters (alg_characters sign.alg) named.1 (tag_characters sign.tag valid.tag)));
    }
