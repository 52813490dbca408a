-- What is read is in range.
use Rattle.std.proofs.Common.{◌≡◌, ℕ, zero, suc, ◌+◌, ◌-◌, ◌*◌, ◌^◌, ◌<◌, ◌≤◌, ℤ, Bool, true, ◌&&◌, List, [], ◌∷◌, ◌++◌, length, refl, sym, ap, subst, ◌∙◌, arith, inl, inr}
use Rattle.std.specs.Prelude.{unsigned_abs}
use Rattle.std.specs.List.{list_all}
use Rattle.std.specs.Char.{digit_value}
use Rattle.std.proofs.lemmas.Bool.{lt-ltb}
use Rattle.std.proofs.lemmas.Bool.Decides.{nat_tests}
use Rattle.byte_grammar.specs.Language.{IsWord, Each, IsFurther, SeparatedBy, after_all}
use Rattle.byte_grammar.proofs.Laws.{and_is}
use Rattle.sfv_text.specs.declared.value.BareItem.{BareItem}
use Rattle.sfv_text.specs.declared.value.BareItem.TheVariants.{Integer, Decimal, Str, Token, Bytes, Bool as Boolean, Date, Display}
use Rattle.sfv_text.specs.declared.value.Item.{Item}
use Rattle.sfv_text.specs.declared.value.InnerList.{InnerList}
use Rattle.sfv_text.specs.declared.value.Member.{Member}
use Rattle.sfv_text.specs.declared.value.Member.TheVariants.{Item as ItemMember, InnerList as InnerMember}
use Rattle.sfv_text.specs.declared.pair.Pair.{Pair}
use Rattle.sfv_text.specs.Keys.{have_distinct_keys, put}
use Rattle.sfv_text.specs.Range.{is_word, is_token_first, is_token_rest, is_key_first, is_key_rest, is_number_in_range, is_bare_in_range, is_param_in_range, are_params_in_range, is_item_in_range, is_inner_in_range, is_member_in_range, is_list_in_range, is_dict_member_in_range, is_dict_in_range}
use Rattle.sfv_text.proofs.PutLaws.{put_distinct, put_kept}
use Rattle.byte_grammar.specs.Classes.{is_digit}
use Rattle.std.specs.Str.Parse.{digits_value, digits_value_after}
use Rattle.sfv_read.specs.BareItem.{with_sign, IsInteger, IsDecimal, IsBareItem}
use Rattle.sfv_read.specs.Item.{IsValue, IsParameter, AreParameters, put_pair, distinct_pairs, IsItem}
use Rattle.sfv_read.specs.Inner.{AreSpaces, IsInner}
use Rattle.sfv_read.specs.Member.{IsMember, IsDictValue, IsDictMember, IsComma, AreMembers}
use Rattle.sfv_read.specs.Reads.{ReadsItem, ReadsInner, ReadsList, ReadsDict}
use Rattle.sfv_read.proofs.Digits.{digit_is, room_more, pow_room, scaled_room, value_append}

-- ---- numbers

pub abs_signed : (sign : List ℕ) (n : ℕ) → unsigned_abs (with_sign sign n) ≡ n
abs_signed [] n = refl
abs_signed (_ ∷ _) zero = refl
abs_signed (_ ∷ _) (suc n) = refl

digit_below : (c : ℕ) → is_digit c ≡ true → digit_value c < 10
digit_below c is =
    let small : c - 48 < 10 = grind (arith, nat_tests) in
    omega (arith, small, digit_is c is)

value_below : (n : ℕ) (ds : List ℕ) → list_all is_digit ds ≡ true → digits_value_after 10 n ds + 1 ≤ (n + 1) * 10 ^ length ds
value_below n [] all = omega arith
value_below n (d ∷ ds) all =
    let both = and_is (is_digit d) (list_all is_digit ds) all in
    let more = value_below (n * 10 + digit_value d) ds both.1 in
    let room = room_more n (digit_value d) (length ds) ((n + 1) * 10 ^ suc (length ds)) (digit_below d both.0) (omega arith) in
    omega (arith, more, room)

in_range : (z : ℤ) (sign : List ℕ) (n : ℕ) → z ≡ with_sign sign n → n < 1000000000000000 → is_number_in_range z ≡ true
in_range z sign n e lt = lt-ltb (unsigned_abs z) 1000000000000000 (subst (λ (m : ℕ). m < 1000000000000000) (sym (ap unsigned_abs e ∙ abs_signed sign n)) lt)

integer_in_range : (text : List ℕ) (z : ℤ) → IsInteger text z → is_number_in_range z ≡ true
integer_in_range text z h =
    let below = value_below 0 h.digits h.whole.passes in
    in_range z h.sign (digits_value 10 h.digits) h.value (omega (arith, below, pow_room (length h.digits) h.whole.most))

decimal_in_range : (text : List ℕ) (z : ℤ) → IsDecimal text z → is_number_in_range z ≡ true
decimal_in_range text z h =
    let whole = value_below 0 h.digits h.whole.passes in
    let both = value_below (digits_value 10 h.digits) h.part h.fraction.passes in
    let below = scaled_room (digits_value_after 10 (digits_value 10 h.digits) h.part) (digits_value 10 h.digits) (length h.digits) (length h.part) both whole h.whole.most h.fraction.most in
    in_range z h.sign (digits_value 10 (h.digits ++ h.part) * 10 ^ (3 - length h.part)) h.value (subst (λ (n : ℕ). n * 10 ^ (3 - length h.part) < 1000000000000000) (sym (value_append 0 h.digits h.part)) below)

word_in_range : (first others : ℕ → Bool) (text word : List ℕ) → IsWord first others text word → is_word first others word ≡ true
word_in_range first others text [] h = absurd h
word_in_range first others text (c ∷ cs) h = rw (h.1, h.2) refl

pub bare_in_range : (text : List ℕ) (v : BareItem) → IsBareItem text v → is_bare_in_range v ≡ true
bare_in_range text (Integer z) h = integer_in_range text z h
bare_in_range text (Decimal z) h = decimal_in_range text z h
bare_in_range text (Str s) h = h.printable
bare_in_range text (Token t) h = word_in_range is_token_first is_token_rest text t h
bare_in_range text (Bytes b) h = h.are_bytes
bare_in_range text (Boolean b) h = refl
bare_in_range text (Date z) h = integer_in_range h.number z h.is_number
bare_in_range text (Display b) h = h.utf8

-- ---- parameters

value_in_range : (text : List ℕ) (v : BareItem) → IsValue text v → is_bare_in_range v ≡ true
value_in_range text v (inl h) = bare_in_range h.0 v h.2
value_in_range text v (inr h) = ap is_bare_in_range h.1

param_in_range : (text : List ℕ) (p : Pair BareItem) → IsParameter text p → is_param_in_range p ≡ true
param_in_range text p h = rw (word_in_range is_key_first is_key_rest h.key p.key h.is_key, value_in_range h.value p.value h.is_value) refl

-- what holds of each text holds of them all
pub each_in_range : {V : Type 0} (L : List ℕ → V → Type 0) (test : V → Bool) → ((text : List ℕ) (v : V) → L text v → test v ≡ true) → (vs : List V) (text : List ℕ) → Each L text vs → list_all test vs ≡ true
each_in_range L test one [] text h = refl
each_in_range L test one (v ∷ vs) text h = rw (one h.0 v h.3, each_in_range L test one vs h.1 h.4) refl

module _ {V : Type 0} where
  kept_from : (test : Pair V → Bool) (ps qs : List (Pair V)) → list_all test qs ≡ true → list_all test ps ≡ true → list_all test (after_all put_pair qs ps) ≡ true
  kept_from test [] qs old new = old
  kept_from test (p ∷ ps) qs old new =
      let both = and_is (test p) (list_all test ps) new in
      kept_from test ps (put qs p.key p.value) (put_kept test qs p.key p.value old both.0) both.1

  distinct_from : (ps qs : List (Pair V)) → have_distinct_keys qs ≡ true → have_distinct_keys (after_all put_pair qs ps) ≡ true
  distinct_from [] qs d = d
  distinct_from (p ∷ ps) qs d = distinct_from ps (put qs p.key p.value) (put_distinct qs p.key p.value d)

  pub kept_in_range : (test : Pair V → Bool) (ps : List (Pair V)) → list_all test ps ≡ true → (have_distinct_keys (distinct_pairs ps) && list_all test (distinct_pairs ps)) ≡ true
  kept_in_range test ps all = rw (distinct_from ps [] refl, kept_from test ps [] refl all) refl

params_in_range : (text : List ℕ) (written : List (Pair BareItem)) → AreParameters text written → are_params_in_range (distinct_pairs written) ≡ true
params_in_range text written h = kept_in_range is_param_in_range written (each_in_range IsParameter is_param_in_range param_in_range written text h)

-- ---- Items and Inner Lists

pub item_in_range : (text : List ℕ) (item : Item) → IsItem text item → is_item_in_range item ≡ true
item_in_range text item h = rw (bare_in_range h.bare item.bare h.is_bare, ap are_params_in_range h.are_distinct ∙ params_in_range h.params h.written h.are_params) refl

-- what holds of each element holds of them all
separated_in_range : {V : Type 0} (S : List ℕ → Type 0) (L : List ℕ → V → Type 0) (test : V → Bool) → ((text : List ℕ) (v : V) → L text v → test v ≡ true) → (text : List ℕ) (vs : List V) → SeparatedBy S L text vs → list_all test vs ≡ true
separated_in_range S L test one text [] h = refl
separated_in_range S L test one text (v ∷ vs) h = rw (one h.0 v h.3, each_in_range (IsFurther S L) test (λ x w f. one f.rest w f.spells) vs h.1 h.4) refl

pub inner_in_range : (text : List ℕ) (list : InnerList) → IsInner text list → is_inner_in_range list ≡ true
inner_in_range text list h = rw (separated_in_range AreSpaces IsItem is_item_in_range item_in_range h.items list.items h.are_items, ap are_params_in_range h.are_distinct ∙ params_in_range h.params h.written h.are_params) refl

-- ---- Lists and Dictionaries

member_in_range : (text : List ℕ) (v : Member) → IsMember text v → is_member_in_range v ≡ true
member_in_range text (ItemMember item) h = item_in_range text item h
member_in_range text (InnerMember list) h = inner_in_range text list h

dict_member_in_range : (text : List ℕ) (p : Pair Member) → IsDictMember text p → is_dict_member_in_range p ≡ true
dict_member_in_range text p h = rw (word_in_range is_key_first is_key_rest h.key p.key h.is_key, value h.value) refl
  where
    value : IsDictValue h.rest p.value → is_member_in_range p.value ≡ true
    value (inl m) = member_in_range m.0 p.value m.2
    value (inr m) = ap is_member_in_range m.2 ∙ params_in_range h.rest m.0 m.1

members_in_range : {V : Type 0} (M : List ℕ → V → Type 0) (test : V → Bool) → ((text : List ℕ) (v : V) → M text v → test v ≡ true) → (text : List ℕ) (vs : List V) → AreMembers M text vs → list_all test vs ≡ true
members_in_range M test one text [] h = refl
members_in_range M test one text (v ∷ vs) h = separated_in_range IsComma M test one h.members (v ∷ vs) h.are_members

-- ---- the four kinds

pub item_read_in_range : (text : List ℕ) (item : Item) → ReadsItem text item → is_item_in_range item ≡ true
item_read_in_range text item h = item_in_range h.middle item h.spells

pub inner_read_in_range : (text : List ℕ) (list : InnerList) → ReadsInner text list → is_inner_in_range list ≡ true
inner_read_in_range text list h = inner_in_range h.middle list h.spells

pub list_read_in_range : (text : List ℕ) (list : List Member) → ReadsList text list → is_list_in_range list ≡ true
list_read_in_range text list h = members_in_range IsMember is_member_in_range member_in_range text list h

pub dict_read_in_range : (text : List ℕ) (dict : List (Pair Member)) → ReadsDict text dict → is_dict_in_range dict ≡ true
dict_read_in_range text dict h = ap is_dict_in_range h.2 ∙ kept_in_range is_dict_member_in_range h.0 (members_in_range IsDictMember is_dict_member_in_range dict_member_in_range text h.0 h.1)
