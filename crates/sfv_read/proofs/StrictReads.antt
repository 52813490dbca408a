-- The strict text of a value in range reads as that value.
use Rattle.std.proofs.Common.{◌≡◌, ℕ, ◌+◌, ◌-◌, ◌*◌, ◌/◌, ◌%◌, ◌^◌, ◌<◌, ◌≤◌, ℤ, pos, negsuc, Bool, true, false, cond, eqb, ◌||◌, List, [], ◌∷◌, ◌++◌, length, codes, refl, sym, ap, ◌∙◌, arith, inl, inr, append_assoc}
use Rattle.std.specs.Prelude.{unsigned_abs}
use Rattle.std.specs.Fmt.{decimal}
use Rattle.std.specs.List.{list_all, list_any, flat_map, join_by}
use Rattle.std.proofs.lemmas.Bool.{ltb-true, eqb-true}
use Rattle.std.proofs.lemmas.Bool.Decides.{nat_tests}
use Rattle.std.proofs.lemmas.Fmt.{decimal_by_steps, length-decimal-le}
use Rattle.std.proofs.lemmas.List.{append-nil, length-append}
use Rattle.std.proofs.lemmas.List.Folds.{list_all-append, list_any-append}
use Rattle.byte_grammar.specs.Language.{IsWord, IsRun, Each, IsFurther, Padded, after_all}
use Rattle.byte_grammar.proofs.Laws.{and_is}
use Rattle.sfv_text.specs.declared.value.BareItem.{BareItem}
use Rattle.sfv_text.specs.declared.value.BareItem.TheVariants.{Integer, Decimal, Str, Token, Bytes, Bool as Boolean, Date, Display}
use Rattle.sfv_text.specs.declared.value.Item.{Item}
use Rattle.sfv_text.specs.declared.value.InnerList.{InnerList}
use Rattle.sfv_text.specs.declared.value.Member.{Member}
use Rattle.sfv_text.specs.declared.value.Member.TheVariants.{Item as ItemMember, InnerList as InnerMember}
use Rattle.sfv_text.specs.declared.pair.Pair.{Pair}
use Rattle.sfv_text.specs.Keys.{has_key, have_distinct_keys, put}
use Rattle.sfv_text.specs.Range.{is_byte, is_unencoded, is_word, is_token_first, is_token_rest, is_key_first, is_key_rest, is_key, is_number_in_range, is_bare_in_range, is_param_in_range, are_params_in_range, is_item_in_range, is_inner_in_range, is_member_in_range, is_list_in_range, is_dict_member_in_range, is_dict_in_range}
use Rattle.sfv_text.specs.Strict.{sign_text, integer_text, fraction_text, decimal_text, encoded_byte, display_byte_text, bare_text, param_value_text, param_text, params_text, item_text, inner_text, member_text, list_text, dict_item_text, dict_value_text, dict_member_text, dict_text}
use Rattle.sfv_text.proofs.PutLaws.{bytes_eq-sym, distinct_parts, put_new}
use Rattle.sfv_text.proofs.Utf8Bytes.{utf8_bytes}
use Rattle.byte_grammar.specs.Classes.{is_digit, is_space}
use Rattle.sfv_read.specs.Class.{is_minus}
use Rattle.std.specs.Str.Parse.{digits_value, digits_value_after}
use Rattle.sfv_read.specs.BareItem.{with_sign, IsInteger, IsDecimal, IsDisplayByte, IsBareItem}
use Rattle.sfv_read.specs.Item.{IsValue, IsParameter, AreParameters, put_pair, distinct_pairs, IsItem}
use Rattle.sfv_read.specs.Inner.{AreSpaces, AreItems, IsInner}
use Rattle.sfv_read.specs.Member.{IsMember, IsDictValue, IsDictMember, IsComma, AreMembers, true_item}
use Rattle.sfv_read.specs.Reads.{ReadsItem, ReadsInner, ReadsList, ReadsDict}
use Rattle.sfv_read.specs.tools.ItemWalk.{item_with}
use Rattle.sfv_read.proofs.Digits.{digit_of, value_append}

-- ---- numbers

-- digits that spell a number
record Spells (n : ℕ) (ds : List ℕ) : Type 0 where
  digits : list_all is_digit ds ≡ true
  some : 1 ≤ length ds
  value : digits_value 10 ds ≡ n

digit_is : (n : ℕ) → n < 10 → is_digit (48 + n) ≡ true
digit_is n lt = grind (arith, nat_tests)

decimal_spells : (n : ℕ) → n < 2 ^ 64 → Spells n (decimal n)
decimal_spells n lt = decimal_by_steps Spells
    (λ n small. record { digits = rw (digit_is n small) refl; some = omega arith; value = omega (arith, digit_of n small) })
    (λ n ds large s. record {
      digits = list_all-append is_digit ds ((48 + n % 10) ∷ []) ∙ rw (s.digits, digit_is (n % 10) (omega arith)) refl;
      some = omega (arith, length-append ds ((48 + n % 10) ∷ []));
      value = value_append 0 ds ((48 + n % 10) ∷ []) ∙ omega (arith, s.value, digit_of (n % 10) (omega arith));
    }) n lt

-- the part of a Decimal after its point, after the number w
record IsFraction (w m : ℕ) (part : List ℕ) : Type 0 where
  digits : list_all is_digit part ≡ true
  least : 1 ≤ length part
  most : length part ≤ 3
  value : digits_value_after 10 w part * 10 ^ (3 - length part) ≡ w * 1000 + m

fraction_if : (w m : ℕ) → m < 1000 → (p q : Bool) → eqb (m % 100) 0 ≡ p → eqb (m % 10) 0 ≡ q → IsFraction w m ((48 + m / 100) ∷ cond p [] ((48 + m / 10 % 10) ∷ cond q [] ((48 + m % 10) ∷ [])))
fraction_if w m lt true q e f =
    let zero_end : m % 100 ≡ 0 = eqb-true _ _ e in
    record { digits = rw (digit_is (m / 100) (omega arith)) refl; least = omega arith; most = omega arith; value = omega (arith, digit_of (m / 100) (omega arith)) }
fraction_if w m lt false true e f =
    let zero_end : m % 10 ≡ 0 = eqb-true _ _ f in
    record { digits = rw (digit_is (m / 100) (omega arith), digit_is (m / 10 % 10) (omega arith)) refl; least = omega arith; most = omega arith; value = omega (arith, digit_of (m / 100) (omega arith), digit_of (m / 10 % 10) (omega arith)) }
fraction_if w m lt false false e f =
    record { digits = rw (digit_is (m / 100) (omega arith), digit_is (m / 10 % 10) (omega arith), digit_is (m % 10) (omega arith)) refl; least = omega arith; most = omega arith; value = omega (arith, digit_of (m / 100) (omega arith), digit_of (m / 10 % 10) (omega arith), digit_of (m % 10) (omega arith)) }

fraction_is : (w m : ℕ) → m < 1000 → IsFraction w m (fraction_text m)
fraction_is w m lt = fraction_if w m lt (eqb (m % 100) 0) (eqb (m % 10) 0) refl refl

signed_abs : (z : ℤ) → z ≡ with_sign (sign_text z) (unsigned_abs z)
signed_abs (pos n) = refl
signed_abs (negsuc n) = refl

sign_is : (z : ℤ) → IsRun is_minus 0 1 (sign_text z) (sign_text z)
sign_is (pos n) = record { same = refl; passes = refl; least = omega arith; most = omega arith }
sign_is (negsuc n) = record { same = refl; passes = refl; least = omega arith; most = omega arith }

integer_reads : (z : ℤ) → is_number_in_range z ≡ true → IsInteger (integer_text z) z
integer_reads z h =
    let lt : unsigned_abs z < 10 ^ 15 = ltb-true _ _ h in
    let small : unsigned_abs z < 2 ^ 64 = omega arith in
    let s = decimal_spells (unsigned_abs z) small in
    record {
      sign = sign_text z;
      digits = decimal (unsigned_abs z);
      joined = refl;
      minus = sign_is z;
      whole = record { same = refl; passes = s.digits; least = s.some; most = length-decimal-le 15 (unsigned_abs z) (omega arith) lt small };
      value = signed_abs z ∙ ap (with_sign (sign_text z)) (sym s.value);
    }

decimal_reads : (z : ℤ) → is_number_in_range z ≡ true → IsDecimal (decimal_text z) z
decimal_reads z h =
    let lt : unsigned_abs z < 10 ^ 15 = ltb-true _ _ h in
    let w : ℕ = unsigned_abs z / 1000 in
    let m : ℕ = unsigned_abs z % 1000 in
    let few : unsigned_abs z / 1000 < 10 ^ 12 = omega arith in
    let small : unsigned_abs z / 1000 < 2 ^ 64 = omega arith in
    let s = decimal_spells (unsigned_abs z / 1000) small in
    let f = fraction_is (unsigned_abs z / 1000) (unsigned_abs z % 1000) (omega arith) in
    let joined_value : digits_value 10 (decimal (unsigned_abs z / 1000) ++ fraction_text (unsigned_abs z % 1000)) ≡ digits_value_after 10 (unsigned_abs z / 1000) (fraction_text (unsigned_abs z % 1000)) =
    value_append 0 (decimal (unsigned_abs z / 1000)) (fraction_text (unsigned_abs z % 1000)) ∙ ap (λ (n : ℕ). digits_value_after 10 n (fraction_text (unsigned_abs z % 1000))) s.value in
    let whole_value : unsigned_abs z ≡ unsigned_abs z / 1000 * 1000 + unsigned_abs z % 1000 = omega arith in
    record {
      sign = sign_text z;
      digits = decimal (unsigned_abs z / 1000);
      part = fraction_text (unsigned_abs z % 1000);
      joined = refl;
      minus = sign_is z;
      whole = record { same = refl; passes = s.digits; least = s.some; most = length-decimal-le 12 (unsigned_abs z / 1000) (omega arith) few small };
      fraction = record { same = refl; passes = f.digits; least = f.least; most = f.most };
      value = signed_abs z ∙ ap (with_sign (sign_text z)) (whole_value ∙ sym f.value ∙ ap (λ (n : ℕ). n * 10 ^ (3 - length (fraction_text (unsigned_abs z % 1000)))) (sym joined_value));
    }

-- ---- bare items

word_reads : (first others : ℕ → Bool) (word : List ℕ) → is_word first others word ≡ true → IsWord first others word word
word_reads first others [] h = absurd cc
word_reads first others (c ∷ cs) h = let both = and_is (first c) (list_all others cs) h in (refl, both.0, both.1)

-- texts one after the other
each_reads : {V : Type 0} (L : List ℕ → V → Type 0) (f : V → List ℕ) (test : V → Bool) → ((v : V) → test v ≡ true → L (f v) v) → (vs : List V) → list_all test vs ≡ true → Each L (flat_map f vs) vs
each_reads L f test one [] all = refl
each_reads L f test one (v ∷ vs) all =
    let both = and_is (test v) (list_all test vs) all in
    (f v, flat_map f vs, refl, one v both.0, each_reads L f test one vs both.1)

display_byte_reads : (b : ℕ) → is_byte b ≡ true → IsDisplayByte (display_byte_text b) b
display_byte_reads b h = go (is_unencoded b) refl
  where
    go : (plain : Bool) → is_unencoded b ≡ plain → IsDisplayByte (cond plain (b ∷ []) (encoded_byte b)) b
    go true e = inl (refl, e)
    go false e = inr (refl, h)

pub bare_reads : (v : BareItem) → is_bare_in_range v ≡ true → IsBareItem (bare_text v) v
bare_reads (Integer z) h = integer_reads z h
bare_reads (Decimal z) h = decimal_reads z h
bare_reads (Str s) h = record { joined = refl; printable = h }
bare_reads (Token t) h = word_reads is_token_first is_token_rest t h
bare_reads (Bytes b) h = record { are_bytes = h; joined = inl refl }
bare_reads (Boolean b) h = refl
bare_reads (Date z) h = record { number = integer_text z; joined = refl; is_number = integer_reads z h }
bare_reads (Display b) h = record {
  inside = flat_map display_byte_text b;
  joined = refl;
  each = each_reads IsDisplayByte display_byte_text is_byte display_byte_reads b (utf8_bytes b h);
  utf8 = h;
}

-- ---- parameters

value_reads : (v : BareItem) → is_bare_in_range v ≡ true → IsValue (param_value_text v) v
value_reads (Boolean true) h = inr (refl, refl)
value_reads (Boolean false) h = inl (bare_text (Boolean false), refl, refl)
value_reads (Integer z) h = inl (bare_text (Integer z), refl, bare_reads (Integer z) h)
value_reads (Decimal z) h = inl (bare_text (Decimal z), refl, bare_reads (Decimal z) h)
value_reads (Str s) h = inl (bare_text (Str s), refl, bare_reads (Str s) h)
value_reads (Token t) h = inl (bare_text (Token t), refl, bare_reads (Token t) h)
value_reads (Bytes b) h = inl (bare_text (Bytes b), refl, bare_reads (Bytes b) h)
value_reads (Date z) h = inl (bare_text (Date z), refl, bare_reads (Date z) h)
value_reads (Display b) h = inl (bare_text (Display b), refl, bare_reads (Display b) h)

param_reads : (p : Pair BareItem) → is_param_in_range p ≡ true → IsParameter (param_text p) p
param_reads p h =
    let both = and_is (is_key p.key) (is_bare_in_range p.value) h in
    record { spaces = []; key = p.key; value = param_value_text p.value; joined = refl; are_spaces = refl; is_key = word_reads is_key_first is_key_rest p.key both.0; is_value = value_reads p.value both.1 }

or_false : (a b : Bool) → (a || b) ≡ false → (a ≡ false) × (b ≡ false)
or_false true b h = absurd cc
or_false false b h = (refl, h)

module _ {V : Type 0} where
  -- a key that comes later stands nowhere before
  new_key : (qs : List (Pair V)) (p : Pair V) (ps : List (Pair V)) → have_distinct_keys (qs ++ p ∷ ps) ≡ true → list_any (has_key p.key) qs ≡ false
  new_key [] p ps d = refl
  new_key (q ∷ qs) p ps d =
      let h = distinct_parts q (qs ++ p ∷ ps) d in
      let apart = or_false (list_any (has_key q.key) qs) (list_any (has_key q.key) (p ∷ ps)) (sym (list_any-append (has_key q.key) qs (p ∷ ps)) ∙ h.0) in
      let other = or_false (has_key q.key p) (list_any (has_key q.key) ps) apart.1 in
      rw (bytes_eq-sym q.key p.key ∙ other.0, new_key qs p ps h.1) refl

  kept_same_from : (ps qs : List (Pair V)) → have_distinct_keys (qs ++ ps) ≡ true → after_all put_pair qs ps ≡ qs ++ ps
  kept_same_from [] qs d = sym (append-nil qs)
  kept_same_from (p ∷ ps) qs d =
      let new : qs ++ p ∷ [] ≡ put qs p.key p.value = put_new qs p.key p.value (new_key qs p ps d) in
      let group : (qs ++ p ∷ []) ++ ps ≡ qs ++ p ∷ ps = append_assoc qs (p ∷ []) ps in
      ap (λ (rs : List (Pair V)). after_all put_pair rs ps) (sym new)
      ∙ kept_same_from ps (qs ++ p ∷ []) (ap (λ (rs : List (Pair V)). have_distinct_keys rs) group ∙ d) ∙ group

  -- pairs with distinct keys are all distinct_pairs
  pub kept_same : (ps : List (Pair V)) → have_distinct_keys ps ≡ true → ps ≡ distinct_pairs ps
  kept_same ps d = sym (kept_same_from ps [] d)

parameters_read : (ps : List (Pair BareItem)) → are_params_in_range ps ≡ true → AreParameters (params_text ps) ps × (ps ≡ distinct_pairs ps)
parameters_read ps h =
    let both = and_is (have_distinct_keys ps) (list_all is_param_in_range ps) h in
    (each_reads IsParameter param_text is_param_in_range param_reads ps both.1, kept_same ps both.0)

-- ---- Items and Inner Lists

pub item_reads : (item : Item) → is_item_in_range item ≡ true → IsItem (item_text item) item
item_reads item h =
    let both = and_is (is_bare_in_range item.bare) (are_params_in_range item.params) h in
    let params = parameters_read item.params both.1 in
    record { bare = bare_text item.bare; params = params_text item.params; written = item.params; joined = refl; is_bare = bare_reads item.bare both.0; are_params = params.0; are_distinct = params.1 }

spaced_reads : (item : Item) → is_item_in_range item ≡ true → IsFurther AreSpaces IsItem (codes " " ++ item_text item) item
spaced_reads item h = record { separator = 32 ∷ []; rest = item_text item; joined = refl; separates = record { some = omega arith; spaces = refl }; spells = item_reads item h }

items_read : (items : List Item) → list_all is_item_in_range items ≡ true → AreItems (join_by item_text (codes " ") items) items
items_read [] all = refl
items_read (v ∷ vs) all =
    let both = and_is (is_item_in_range v) (list_all is_item_in_range vs) all in
    (item_text v, flat_map (λ w. codes " " ++ item_text w) vs, refl, item_reads v both.0, each_reads (IsFurther AreSpaces IsItem) (λ w. codes " " ++ item_text w) is_item_in_range spaced_reads vs both.1)

pub inner_reads : (list : InnerList) → is_inner_in_range list ≡ true → IsInner (inner_text list) list
inner_reads list h =
    let both = and_is (list_all is_item_in_range list.items) (are_params_in_range list.params) h in
    let params = parameters_read list.params both.1 in
    record {
      before = [];
      items = join_by item_text (codes " ") list.items;
      after = [];
      params = params_text list.params;
      written = list.params;
      joined = refl;
      spaces_before = refl;
      spaces_after = refl;
      are_items = items_read list.items both.0;
      are_params = params.0;
      are_distinct = params.1;
    }

-- ---- Lists and Dictionaries

member_reads : (v : Member) → is_member_in_range v ≡ true → IsMember (member_text v) v
member_reads (ItemMember item) h = item_reads item h
member_reads (InnerMember list) h = inner_reads list h

dict_item_reads : (bare : BareItem) (params : List (Pair BareItem)) → is_item_in_range (item_with bare params) ≡ true → IsDictValue (dict_item_text bare params) (ItemMember (item_with bare params))
dict_item_reads (Boolean true) params h =
    let read = parameters_read params h in
    inr (params, read.0, ap (λ (ps : List (Pair BareItem)). ItemMember (true_item ps)) read.1)
dict_item_reads (Boolean false) params h = inl (item_text (item_with (Boolean false) params), refl, item_reads (item_with (Boolean false) params) h)
dict_item_reads (Integer z) params h = inl (item_text (item_with (Integer z) params), refl, item_reads (item_with (Integer z) params) h)
dict_item_reads (Decimal z) params h = inl (item_text (item_with (Decimal z) params), refl, item_reads (item_with (Decimal z) params) h)
dict_item_reads (Str s) params h = inl (item_text (item_with (Str s) params), refl, item_reads (item_with (Str s) params) h)
dict_item_reads (Token t) params h = inl (item_text (item_with (Token t) params), refl, item_reads (item_with (Token t) params) h)
dict_item_reads (Bytes b) params h = inl (item_text (item_with (Bytes b) params), refl, item_reads (item_with (Bytes b) params) h)
dict_item_reads (Date z) params h = inl (item_text (item_with (Date z) params), refl, item_reads (item_with (Date z) params) h)
dict_item_reads (Display b) params h = inl (item_text (item_with (Display b) params), refl, item_reads (item_with (Display b) params) h)

dict_value_reads : (v : Member) → is_member_in_range v ≡ true → IsDictValue (dict_value_text v) v
dict_value_reads (ItemMember item) h = dict_item_reads item.bare item.params h
dict_value_reads (InnerMember list) h = inl (inner_text list, refl, inner_reads list h)

pub dict_member_reads : (p : Pair Member) → is_dict_member_in_range p ≡ true → IsDictMember (dict_member_text p) p
dict_member_reads p h =
    let both = and_is (is_key p.key) (is_member_in_range p.value) h in
    record { key = p.key; rest = dict_value_text p.value; joined = refl; is_key = word_reads is_key_first is_key_rest p.key both.0; value = dict_value_reads p.value both.1 }

module _ {V : Type 0} (M : List ℕ → V → Type 0) (f : V → List ℕ) (test : V → Bool) (one : (v : V) → test v ≡ true → M (f v) v) where
  further_reads : (v : V) → test v ≡ true → IsFurther IsComma M (codes ", " ++ f v) v
  further_reads v h = record { separator = codes ", "; rest = f v; joined = refl; separates = record { before = []; after = 32 ∷ []; joined = refl; blanks_before = refl; blanks_after = refl }; spells = one v h }

  members_read : (vs : List V) → list_all test vs ≡ true → AreMembers M (join_by f (codes ", ") vs) vs
  members_read [] all = refl
  members_read (v ∷ vs) all =
      let both = and_is (test v) (list_all test vs) all in
      record {
        before = [];
        members = join_by f (codes ", ") (v ∷ vs);
        after = [];
        joined = sym (append-nil (join_by f (codes ", ") (v ∷ vs)));
        spaces_before = refl;
        blanks_after = refl;
        are_members = (f v, flat_map (λ w. codes ", " ++ f w) vs, refl, one v both.0, each_reads (IsFurther IsComma M) (λ w. codes ", " ++ f w) test further_reads vs both.1);
      }

-- ---- the four kinds

whole_reads : {V : Type 0} (L : List ℕ → V → Type 0) (text : List ℕ) (v : V) → L text v → Padded is_space L text v
whole_reads L text v h = record { before = []; middle = text; after = []; joined = sym (append-nil text); class_before = refl; class_after = refl; spells = h }

pub item_text_reads : (item : Item) → is_item_in_range item ≡ true → ReadsItem (item_text item) item
item_text_reads item h = whole_reads IsItem (item_text item) item (item_reads item h)

pub inner_text_reads : (list : InnerList) → is_inner_in_range list ≡ true → ReadsInner (inner_text list) list
inner_text_reads list h = whole_reads IsInner (inner_text list) list (inner_reads list h)

pub list_text_reads : (list : List Member) → is_list_in_range list ≡ true → ReadsList (list_text list) list
list_text_reads list h = members_read IsMember member_text is_member_in_range member_reads list h

pub dict_text_reads : (dict : List (Pair Member)) → is_dict_in_range dict ≡ true → ReadsDict (dict_text dict) dict
dict_text_reads dict h =
    let both = and_is (have_distinct_keys dict) (list_all is_dict_member_in_range dict) h in
    (dict, members_read IsDictMember dict_member_text is_dict_member_in_range dict_member_reads dict both.1, kept_same dict both.0)
