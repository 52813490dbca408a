-- The parameters of a wish as they are signed, step by step.
use Rattle.std.proofs.Common.{◌≡◌, ◌≤◌, ◌+◌, ◌^◌, ℕ, Bool, true, false, ◌&&◌, ◌||◌, nat_lt, is_some, Option, Some, None, List, [], ◌∷◌, ◌++◌, map, codes, if◌then◌else◌, refl, sym, ap, subst, ◌∙◌, append_assoc, arith, inl, inr, Result, Ok, Err, OnOk}
use Rattle.std.specs.List.{list_all, list_any}
use Rattle.std.specs.Str.{bytes_eq}
use Rattle.std.proofs.lemmas.Bool.{and_from, and_parts, cases_Bool, false≢true, lt-ltb}
use Rattle.std.proofs.lemmas.List.{append-nil}
use Rattle.std.proofs.lemmas.List.Folds.{list_any-append}
use Rattle.byte_grammar.proofs.ListLaws.{all_joined}
use Rattle.sfv_text.specs.Keys.{has_key, have_distinct_keys, put, with_value}
use Rattle.sfv_text.specs.declared.pair.Pair.{Pair}
use Rattle.sfv_text.specs.declared.value.BareItem.{BareItem}
use Rattle.sfv_text.specs.declared.value.BareItem.TheVariants.{Str}
use Rattle.sfv_text.specs.Parts.{is_true}
use Rattle.sfv_text.specs.Range.{is_key, is_bare_in_range, is_param_in_range, are_params_in_range, is_string_byte}
use Rattle.sfv_text.proofs.PutLaws.{put_distinct, put_new}
use Rattle.std.proofs.Math.Nat.{min-le_right}
use Rattle.component_ids.specs.Table.{has_param}
use Rattle.component_ids.specs.SignatureParams.{is_typed}
use Rattle.nonces.specs.declared.limits.TheConstants.{MAX_MOMENT}
use Rattle.settings.specs.declared.sign_conf.SignConf.{SignConf}
use Rattle.signing.specs.Asked.{moment_item, expires_at}
use Rattle.signing.specs.Wishes.{can_be_met, expires_item, filled, filled_value, where_missing, wished_params}
use Rattle.signing.specs.tools.Wished.{created_filled, expires_filled}

-- ---- whether a key is there

there_any : (params : List (Pair BareItem)) (key : List ℕ) → has_param params key ≡ list_any (has_key key) params
there_any [] key = refl
there_any (p ∷ ps) key = elim (cases_Bool (has_key key p)) [
  | inl found ↦ rw found refl
  | inr none ↦ rw none (there_any ps key)
]

-- a change that keeps the key
abbrev Keeps : (Pair BareItem → Pair BareItem) → Type 0
Keeps f = (p : Pair BareItem) → (f p).key ≡ p.key

any_mapped : (f : Pair BareItem → Pair BareItem) → Keeps f → (ps : List (Pair BareItem)) (key : List ℕ) → list_any (has_key key) (map f ps) ≡ list_any (has_key key) ps
any_mapped f keeps [] key = refl
any_mapped f keeps (p ∷ ps) key = rw (keeps p, any_mapped f keeps ps key) refl

there_mapped : (f : Pair BareItem → Pair BareItem) → Keeps f → (ps : List (Pair BareItem)) (key : List ℕ) → has_param (map f ps) key ≡ has_param ps key
there_mapped f keeps ps key = there_any (map f ps) key ∙ (any_mapped f keeps ps key ∙ sym (there_any ps key))

keeps_expires : (now : ℕ) (after : Option ℕ) → Keeps (expires_filled now after)
keeps_expires now after p = elim (cases_Bool (bytes_eq p.key (codes "expires"))) [ inl found ↦ rw found refl | inr none ↦ rw none refl ]

-- ---- the steps

-- where no parameter has the key, none changes
map_none : (key : List ℕ) (value : BareItem) (ps : List (Pair BareItem)) → list_any (has_key key) ps ≡ false → map (with_value key value) ps ≡ ps
map_none key value [] none = refl
map_none key value (p ∷ ps) none = elim (cases_Bool (has_key key p)) [
  | inl found ↦ absurd (cc (rw found at none))
  | inr not_here ↦ rw not_here (ap (λ (qs : List (Pair BareItem)). p ∷ qs) (map_none key value ps (rw not_here at none)))
]

-- a key that is put takes its value where it is, or comes last
pub put_is : (key : List ℕ) (value : BareItem) (ps : List (Pair BareItem)) → put ps key value ≡ map (with_value key value) ps ++ where_missing ps key value
put_is key value ps = elim (cases_Bool (list_any (has_key key) ps)) [
  | inl found ↦ let there = there_any ps key ∙ found in rw (found, there) (sym (append-nil (map (with_value key value) ps)))
  | inr none ↦ let missing = there_any ps key ∙ none in rw (none, missing) (ap (λ (qs : List (Pair BareItem)). qs ++ record { key = key; value = value } ∷ []) (sym (map_none key value ps none)))
]

pub created_put : (now : ℕ) (ps : List (Pair BareItem)) → put ps (codes "created") (moment_item now) ≡ map (created_filled now) ps ++ where_missing ps (codes "created") (moment_item now)
created_put now ps = put_is (codes "created") (moment_item now) ps

pub expires_put : (now after : ℕ) (ps : List (Pair BareItem)) → has_param ps (codes "expires") ≡ true → put ps (codes "expires") (moment_item (expires_at now after)) ≡ map (expires_filled now (Some after)) ps
expires_put now after ps there =
    put_is (codes "expires") (moment_item (expires_at now after)) ps
    ∙ (ap (λ (b : Bool). map (expires_filled now (Some after)) ps ++ (if b then [] else record { key = codes "expires"; value = moment_item (expires_at now after) } ∷ [])) there
    ∙ append-nil (map (expires_filled now (Some after)) ps))

pub expires_missing : (now after : ℕ) (ps : List (Pair BareItem)) → has_param ps (codes "expires") ≡ false → ps ≡ map (expires_filled now (Some after)) ps
expires_missing now after ps none = sym (map_none (codes "expires") (moment_item (expires_at now after)) ps (sym (there_any ps (codes "expires")) ∙ none))

pub expires_unset : (now : ℕ) (ps : List (Pair BareItem)) → ps ≡ map (expires_filled now None) ps
expires_unset now [] = refl
expires_unset now (p ∷ ps) = elim (cases_Bool (bytes_eq p.key (codes "expires"))) [
  | inl found ↦ rw found (ap (λ (qs : List (Pair BareItem)). p ∷ qs) (expires_unset now ps))
  | inr none ↦ rw none (ap (λ (qs : List (Pair BareItem)). p ∷ qs) (expires_unset now ps))
]

pub keyid_put : (ps : List (Pair BareItem)) (value : BareItem) → has_param ps (codes "keyid") ≡ false → put ps (codes "keyid") value ≡ ps ++ where_missing ps (codes "keyid") value
keyid_put ps value none = let lacks = sym (there_any ps (codes "keyid")) ∙ none in rw (none, lacks) refl

-- ---- all steps

filled_twice : (now : ℕ) (after : Option ℕ) (p : Pair BareItem) → created_filled now (expires_filled now after p) ≡ filled now after p
filled_twice now after p = elim (cases_Bool (bytes_eq p.key (codes "created"))) [
  | inl created ↦ elim (cases_Bool (bytes_eq p.key (codes "expires"))) [ inl expires ↦ rw (expires, created) refl | inr other ↦ rw (other, created) refl ]
  | inr different ↦ elim (cases_Bool (bytes_eq p.key (codes "expires"))) [ inl expires ↦ rw (expires, different) refl | inr other ↦ rw (other, different) refl ]
]

all_filled : (now : ℕ) (after : Option ℕ) (ps : List (Pair BareItem)) → map (created_filled now) (map (expires_filled now after) ps) ≡ map (filled now after) ps
all_filled now after [] = refl
all_filled now after (p ∷ ps) = λ i. filled_twice now after p i ∷ all_filled now after ps i

keeps_filled : (now : ℕ) (after : Option ℕ) → Keeps (filled now after)
keeps_filled now after p = refl

-- no keyid is added with `created`
no_keyid : (ps qs : List (Pair BareItem)) (now : ℕ) → has_param (ps ++ where_missing qs (codes "created") (moment_item now)) (codes "keyid") ≡ has_param ps (codes "keyid")
no_keyid ps qs now = elim (cases_Bool (has_param qs (codes "created"))) [
  | inl there ↦ rw (there, append-nil ps) refl
  | inr none ↦
      let created = record { key = codes "created"; value = moment_item now } ∷ [] in
      rw none (there_any (ps ++ created) (codes "keyid") ∙ (list_any-append (has_key (codes "keyid")) ps created ∙ (or_none (list_any (has_key (codes "keyid")) ps) ∙ sym (there_any ps (codes "keyid")))))
]
  where
    or_none : (a : Bool) → (a || false) ≡ a
    or_none true = refl
    or_none false = refl

-- the keyid is there after `created` is filled in where it was there
keyid_same : (now : ℕ) (after : Option ℕ) (ps : List (Pair BareItem))
    → has_param (map (filled now after) ps ++ where_missing ps (codes "created") (moment_item now)) (codes "keyid") ≡ has_param ps (codes "keyid")
keyid_same now after ps = no_keyid (map (filled now after) ps) ps now ∙ there_mapped (filled now after) (keeps_filled now after) ps (codes "keyid")

wished_by_steps : (sign : SignConf) (now : ℕ) (p0 p1 p2 p3 p4 : List (Pair BareItem)) → p1 ≡ p0 → p2 ≡ map (expires_filled now sign.expires_after) p1
    → p3 ≡ map (created_filled now) p2 ++ where_missing p2 (codes "created") (moment_item now) → p4 ≡ p3 ++ where_missing p3 (codes "keyid") (Str sign.keyid) → p4 ≡ wished_params sign now p0
wished_by_steps sign now p0 p1 p2 p3 p4 e1 e2 e3 e4 =
    let after = sign.expires_after in
    let filled_all = map (filled now after) p0 in
    let two : p2 ≡ map (expires_filled now after) p0 = e2 ∙ ap (λ (ps : List (Pair BareItem)). map (expires_filled now after) ps) e1 in
    let created : has_param p2 (codes "created") ≡ has_param p0 (codes "created") = ap (λ (ps : List (Pair BareItem)). has_param ps (codes "created")) two ∙ there_mapped (expires_filled now after) (keeps_expires now after) p0 (codes "created") in
    let added = where_missing p0 (codes "created") (moment_item now) in
    let three : p3 ≡ filled_all ++ added =
    e3 ∙ (ap (λ (b : Bool). map (created_filled now) p2 ++ (if b then [] else record { key = codes "created"; value = moment_item now } ∷ [])) created
    ∙ ap (λ (ps : List (Pair BareItem)). ps ++ added) (ap (λ (ps : List (Pair BareItem)). map (created_filled now) ps) two ∙ all_filled now after p0)) in
    let keyid : has_param p3 (codes "keyid") ≡ has_param p0 (codes "keyid") =
    ap (λ (ps : List (Pair BareItem)). has_param ps (codes "keyid")) three ∙ keyid_same now after p0 in
    e4 ∙ (ap (λ (b : Bool). p3 ++ (if b then [] else record { key = codes "keyid"; value = Str sign.keyid } ∷ [])) keyid
    ∙ (ap (λ (ps : List (Pair BareItem)). ps ++ where_missing p0 (codes "keyid") (Str sign.keyid)) three ∙ append_assoc filled_all added (where_missing p0 (codes "keyid") (Str sign.keyid))))

pub filled_by_steps : {E : Type 0} (sign : SignConf) (now : ℕ) (p1 p2 p3 p4 : List (Pair BareItem)) (result : Result Unit E) → p2 ≡ map (expires_filled now sign.expires_after) p1
    → p3 ≡ map (created_filled now) p2 ++ where_missing p2 (codes "created") (moment_item now) → OnOk result (p4 ≡ p3 ++ where_missing p3 (codes "keyid") (Str sign.keyid))
    → OnOk result (p4 ≡ wished_params sign now p1)
filled_by_steps sign now p1 p2 p3 p4 (Ok done) e2 e3 e4 = wished_by_steps sign now p1 p1 p2 p3 p4 refl e2 e3 e4
filled_by_steps sign now p1 p2 p3 p4 (Err fault) e2 e3 e4 = tt

-- ---- the parameters can be signed

all_mapped : (test other : Pair BareItem → Bool) (f : Pair BareItem → Pair BareItem) → ((p : Pair BareItem) → test p ≡ true → other (f p) ≡ true) → (ps : List (Pair BareItem)) → list_all test ps ≡ true
    → list_all other (map f ps) ≡ true
all_mapped test other f each [] all = refl
all_mapped test other f each (p ∷ ps) all =
    let both = and_parts (test p) (list_all test ps) all in
    and_from (other (f p)) (list_all other (map f ps)) (each p both.0) (all_mapped test other f each ps both.1)

missing_passes : (test : Pair BareItem → Bool) (ps : List (Pair BareItem)) (key : List ℕ) (value : BareItem) → (has_param ps key ≡ false → test (record { key = key; value = value }) ≡ true)
    → list_all test (where_missing ps key value) ≡ true
missing_passes test ps key value passes = elim (cases_Bool (has_param ps key)) [
  | inl there ↦ rw there refl
  | inr none ↦ rw none (and_from (test (record { key = key; value = value })) true (passes none) refl)
]

typed_filled : (now : ℕ) (after : Option ℕ) (p : Pair BareItem) → can_be_met after p ≡ true → is_typed (filled now after p) ≡ true
typed_filled now after p can = elim (cases_Bool (bytes_eq p.key (codes "created"))) [
  | inl created ↦ rw created refl
  | inr other ↦ elim (cases_Bool (bytes_eq p.key (codes "expires"))) [
    | inl expires ↦ wished after (rw (other, expires) at can) expires other
    | inr another ↦ rw (other, another) (rw (other, another) at can)
  ]
]
  where
    wished : (o : Option ℕ) → (is_true p.value && is_some o) ≡ true → bytes_eq p.key (codes "expires") ≡ true → bytes_eq p.key (codes "created") ≡ false → is_typed (filled now o p) ≡ true
    wished None both expires other = absurd (false≢true (and_parts (is_true p.value) false both).1)
    wished (Some n) both expires other = rw (other, expires) refl

in_time : (n : ℕ) → n ≤ MAX_MOMENT → nat_lt n (10 ^ 15) ≡ true
in_time n le = lt-ltb n (10 ^ 15) (omega (arith, le))

ranged_filled : (now : ℕ) (after : Option ℕ) → now ≤ MAX_MOMENT → (p : Pair BareItem) → is_param_in_range p ≡ true → is_param_in_range (filled now after p) ≡ true
ranged_filled now after timely p in_range =
    let both = and_parts (is_key p.key) (is_bare_in_range p.value) in_range in
    and_from (is_key p.key) (is_bare_in_range (filled_value now after p)) both.0
    (elim (cases_Bool (bytes_eq p.key (codes "created"))) [
      | inl created ↦ rw created (in_time now timely)
      | inr other ↦ elim (cases_Bool (bytes_eq p.key (codes "expires"))) [
        | inl expires ↦ rw (other, expires) (later after both.1)
        | inr another ↦ rw (other, another) both.1
      ]
    ])
  where
    later : (o : Option ℕ) → is_bare_in_range p.value ≡ true → is_bare_in_range (expires_item now o p.value) ≡ true
    later None own = own
    later (Some n) own = in_time (expires_at now n) (min-le_right (now + n) MAX_MOMENT)

distinct_mapped : (f : Pair BareItem → Pair BareItem) → Keeps f → (ps : List (Pair BareItem)) → have_distinct_keys (map f ps) ≡ have_distinct_keys ps
distinct_mapped f keeps [] = refl
distinct_mapped f keeps (p ∷ ps) = rw (keeps p, any_mapped f keeps ps p.key, distinct_mapped f keeps ps) refl

distinct_missing : (ps qs : List (Pair BareItem)) (key : List ℕ) (value : BareItem) → has_param qs key ≡ has_param ps key → have_distinct_keys ps ≡ true
    → have_distinct_keys (ps ++ where_missing qs key value) ≡ true
distinct_missing ps qs key value same distinct = elim (cases_Bool (has_param qs key)) [
  | inl there ↦ rw (there, append-nil ps) distinct
  | inr none ↦
      let lacks : list_any (has_key key) ps ≡ false = sym (there_any ps key) ∙ (sym same ∙ none) in
      rw none (subst (λ (l : List (Pair BareItem)). have_distinct_keys l ≡ true) (sym (put_new ps key value lacks)) (put_distinct ps key value distinct))
]

module _ (sign : SignConf) (now : ℕ) (ps : List (Pair BareItem)) where
  pub wished_typed : list_all (can_be_met sign.expires_after) ps ≡ true → list_all is_typed (wished_params sign now ps) ≡ true
  wished_typed can =
      let after = sign.expires_after in
      all_joined is_typed (map (filled now after) ps) (where_missing ps (codes "created") (moment_item now) ++ where_missing ps (codes "keyid") (Str sign.keyid))
      (all_mapped (can_be_met after) is_typed (filled now after) (typed_filled now after) ps can)
      (all_joined is_typed (where_missing ps (codes "created") (moment_item now)) (where_missing ps (codes "keyid") (Str sign.keyid))
      (missing_passes is_typed ps (codes "created") (moment_item now) (λ _. refl)) (missing_passes is_typed ps (codes "keyid") (Str sign.keyid) (λ _. refl)))

  pub wished_in_range : now ≤ MAX_MOMENT → (has_param ps (codes "keyid") ≡ false → list_all is_string_byte sign.keyid ≡ true) → are_params_in_range ps ≡ true
      → are_params_in_range (wished_params sign now ps) ≡ true
  wished_in_range timely keyid in_range =
      let after = sign.expires_after in
      let both = and_parts (have_distinct_keys ps) (list_all is_param_in_range ps) in_range in
      let all_filled_params = map (filled now after) ps in
      let created = where_missing ps (codes "created") (moment_item now) in
      let added = where_missing ps (codes "keyid") (Str sign.keyid) in
      let distinct_filled = distinct_mapped (filled now after) (keeps_filled now after) ps ∙ both.0 in
      let distinct_created = distinct_missing all_filled_params ps (codes "created") (moment_item now) (sym (there_mapped (filled now after) (keeps_filled now after) ps (codes "created"))) distinct_filled in
      let distinct_all = distinct_missing (all_filled_params ++ created) ps (codes "keyid") (Str sign.keyid) (sym (keyid_same now after ps)) distinct_created in
      and_from (have_distinct_keys (wished_params sign now ps)) (list_all is_param_in_range (wished_params sign now ps))
      (subst (λ (l : List (Pair BareItem)). have_distinct_keys l ≡ true) (append_assoc all_filled_params created added) distinct_all)
      (all_joined is_param_in_range all_filled_params (created ++ added)
      (all_mapped is_param_in_range is_param_in_range (filled now after) (ranged_filled now after timely) ps both.1)
      (all_joined is_param_in_range created added (missing_passes is_param_in_range ps (codes "created") (moment_item now) (λ _. in_time now timely))
      (missing_passes is_param_in_range ps (codes "keyid") (Str sign.keyid) keyid)))
