-- Lists and dictionaries: what is read is one, and one is read.
use Rattle.std.proofs.Common.{◌≡◌, ℕ, ◌||◌, Bool, true, false, not, eqb, List, [], ◌∷◌, ◌++◌, length, Option, Some, None, Ok, refl, sym, ap, subst, ◌∙◌, append_assoc, ◌<◌, inl, inr, ◌⊎◌}
use Rattle.std.proofs.lemmas.Bool.{eqb-true}
use Rattle.std.proofs.lemmas.List.{append-nil}
use Rattle.byte_grammar.specs.Language.{after_all}
use Rattle.byte_grammar.specs.tools.Languages.{Then, Mapped, Optional}
use Rattle.byte_grammar.specs.Walk.{◌>>=◌}
use Rattle.byte_grammar.specs.Classes.{is_one_of, is_blank}
use Rattle.byte_grammar.specs.tools.Walks.{Next, with_turns, turns_read}
use Rattle.sfv_read.specs.tools.BareWalk.{kind_of_bare_item}
use Rattle.sfv_text.specs.Range.{is_key_first, is_key_rest}
use Rattle.sfv_read.specs.Class.{is_equals, is_open}
use Rattle.sfv_read.specs.Inner.{IsInner}
use Rattle.sfv_read.specs.Item.{IsItem, IsKey, AreParameters, distinct_pairs}
use Rattle.sfv_read.specs.Member.{IsMember, IsDictValue, IsDictMember, AreMembers, true_item}
use Rattle.sfv_read.specs.tools.MemberWalk.{inner_member_read, item_member_read, member_read, equals_member_read, given_or_true, dict_value_read, dict_member_read, with_last, list_read, dict_read, separated_read, next_member_read}
use Rattle.sfv_text.specs.declared.value.BareItem.{BareItem}
use Rattle.sfv_read.specs.declared.bare.BareKind.{BareKind}
use Rattle.byte_grammar.proofs.Laws.{Meets, meets_then, meets_done, meets_same, meets_map, any_next}
use Rattle.byte_grammar.proofs.ChoiceLaws.{Starts, meets_optional, optional_follow, meets_choose, of_each, apart}
use Rattle.byte_grammar.proofs.LeafLaws.{meets_byte}
use Rattle.sfv_text.specs.declared.value.Item.{Item}
use Rattle.sfv_text.specs.declared.value.InnerList.{InnerList}
use Rattle.sfv_text.specs.declared.value.Member.{Member}
use Rattle.sfv_text.specs.declared.value.Member.TheVariants.{Item as ItemMember, InnerList as InnerMember}
use Rattle.sfv_text.specs.declared.pair.Pair.{Pair}
use Rattle.sfv_read.specs.tools.ItemWalk.{pair_with}
use Rattle.sfv_read.specs.tools.InnerWalk.{inner_of}
use Rattle.sfv_read.specs.Reads.{ReadsList, ReadsDict}
use Rattle.sfv_read.proofs.BareItems.{word_starts, none_some}
use Rattle.sfv_read.proofs.Items.{after_params, AreDistinct, meets_key, meets_kept, meets_item, params_next, item_starts, starts_append}
use Rattle.sfv_read.proofs.InnerLists.{meets_inner}
use Rattle.byte_grammar.proofs.Whole.{Nothing}
use Rattle.sfv_read.proofs.SeparatedTexts.{meets_separated, separated_step, separated_shorter}

After : {V : Type 0} → V → ℕ → Bool
After _ c = is_one_of after_params c

kind_open : (k : BareKind) (c : ℕ) → kind_of_bare_item c ≡ Some k → not (is_open c) ≡ true
kind_open k c e = go (eqb c 40) refl
  where
    go : (b : Bool) → eqb c 40 ≡ b → not b ≡ true
    go true is = absurd (none_some k (ap kind_of_bare_item (sym (eqb-true c 40 is)) ∙ e))
    go false is = refl

kind_ows : (k : BareKind) (c : ℕ) → kind_of_bare_item c ≡ Some k → not (is_blank c) ≡ true
kind_ows k c e = go (eqb c 32) (eqb c 9) refl refl
  where
    go : (a b : Bool) → eqb c 32 ≡ a → eqb c 9 ≡ b → not (a || b) ≡ true
    go true b is other = absurd (none_some k (ap kind_of_bare_item (sym (eqb-true c 32 is)) ∙ e))
    go false true is other = absurd (none_some k (ap kind_of_bare_item (sym (eqb-true c 9 other)) ∙ e))
    go false false is other = refl

pub inner_starts : (P : ℕ → Bool) → P 40 ≡ true → (x : List ℕ) (v : InnerList) → IsInner x v → Starts P x
inner_starts P is x v h = subst (λ (y : List ℕ). Starts P y) (sym h.joined) is

true_read : IsItem (63 ∷ 49 ∷ []) (true_item [])
true_read = record { bare = 63 ∷ 49 ∷ []; params = []; written = []; joined = refl; is_bare = refl; are_params = refl; are_distinct = refl }

some_list : IsInner (40 ∷ 41 ∷ []) (inner_of [] [])
some_list = record { before = []; items = []; after = []; params = []; written = []; joined = refl; spaces_before = refl; spaces_after = refl; are_items = refl; are_params = refl; are_distinct = refl }

meets_member : Meets IsMember After member_read
unfolding member_read inner_member_read item_member_read After
meets_member =
    meets_same
    (meets_choose is_open (meets_map meets_inner (λ (v : InnerList). InnerMember v) (λ v c h. h)) (meets_map meets_item (λ (v : Item). ItemMember v) (λ v c h. h))
    (λ x v h. inner_starts is_open refl x h.0 h.1) (λ x v h. item_starts (λ c. not (is_open c)) kind_open x h.0 h.1) (40 ∷ 41 ∷ []) (InnerMember (inner_of [] [])) (inner_of [] [], some_list, refl))
    to from (λ v c h. h)
  where
    to : (x : List ℕ) (v : Member) → Mapped (λ (v : InnerList). InnerMember v) IsInner x v ⊎ Mapped (λ (v : Item). ItemMember v) IsItem x v → IsMember x v
    to x v (inl h) = subst (λ (v : Member). IsMember x v) h.2 h.1
    to x v (inr h) = subst (λ (v : Member). IsMember x v) h.2 h.1

    from : (x : List ℕ) (v : Member) → IsMember x v → Mapped (λ (v : InnerList). InnerMember v) IsInner x v ⊎ Mapped (λ (v : Item). ItemMember v) IsItem x v
    from x (ItemMember v) h = inr (v, h, refl)
    from x (InnerMember v) h = inl (v, h, refl)

pub member_starts : (x : List ℕ) (v : Member) → IsMember x v → Starts (λ c. not (is_blank c)) x
member_starts x (ItemMember v) h = item_starts (λ c. not (is_blank c)) kind_ows x v h
member_starts x (InnerMember v) h = inner_starts (λ c. not (is_blank c)) refl x v h

pub after_ows : (c : ℕ) → is_blank c ≡ true → is_one_of after_params c ≡ true
after_ows c e = go (eqb c 32) (eqb c 9) refl refl e
  where
    go : (a b : Bool) → eqb c 32 ≡ a → eqb c 9 ≡ b → (a || b) ≡ true → is_one_of after_params c ≡ true
    go true b is other e = subst (λ (c : ℕ). is_one_of after_params c ≡ true) (sym (eqb-true c 32 is)) refl
    go false true is other e = subst (λ (c : ℕ). is_one_of after_params c ≡ true) (sym (eqb-true c 9 other)) refl
    go false false is other e = absurd (cc (e))

-- members added one after the other, each at the end
all_last : {V : Type 0} (vs ws : List V) → after_all with_last vs ws ≡ vs ++ ws
all_last vs [] = sym (append-nil vs)
all_last vs (w ∷ ws) = all_last (vs ++ w ∷ []) ws ∙ append_assoc vs (w ∷ []) ws

pub meets_list : Meets ReadsList Nothing (λ bytes. list_read bytes)
unfolding After
meets_list =
    meets_same
    (meets_map {G = Nothing} (meets_separated meets_member member_starts (λ v. refl) (λ v c h. after_ows c h) (63 ∷ 49 ∷ []) (ItemMember (true_item [])) true_read) (λ (vs : List Member). after_all with_last [] vs) (λ v c h. h))
    (λ x v h. subst (λ (vs : List Member). ReadsList x vs) (sym (all_last [] h.0) ∙ h.2) h.1) (λ x v h. (v, h, all_last [] v)) (λ v c h. h)

-- ---- dictionaries

EqualsMember : List ℕ → Member → Type 0
EqualsMember x v = (member : List ℕ) × (x ≡ 61 ∷ member) × IsMember member v

meets_equals_member : Meets EqualsMember After equals_member_read
unfolding equals_member_read EqualsMember After
meets_equals_member =
    meets_same
    (meets_then (meets_byte is_equals 61 refl (λ _ _. true)) (λ _. meets_member) (λ x u h. (63 ∷ 49 ∷ [], ItemMember (true_item []), true_read)) (λ u y v r h after. any_next (y ++ r)))
    (λ x v t. (t.second, cc (t.joined, t.spells.same, eqb-true t.value 61 t.spells.passes), t.more))
    (λ x v h. record { first = 61 ∷ []; second = h.0; value = 61; joined = h.1; spells = record { same = refl; passes = refl }; more = h.2 })
    (λ v c h. h)

MemberOr : Option Member → List ℕ → Member → Type 0
MemberOr None x v = Mapped (λ (ps : List (Pair BareItem)). ItemMember (true_item ps)) AreDistinct x v
MemberOr (Some w) x v = (x ≡ []) × (w ≡ v)

meets_member_or : (o : Option Member) → Meets (MemberOr o) After (given_or_true o)
unfolding MemberOr After
meets_member_or None = meets_map meets_kept (λ (ps : List (Pair BareItem)). ItemMember (true_item ps)) (λ v c h. h)
meets_member_or (Some v) = meets_done v (λ _ c. is_one_of after_params c)

PairValue : List ℕ → Member → Type 0
PairValue x v = Then (Optional EqualsMember) MemberOr x v

meets_dict_value : Meets PairValue After dict_value_read
unfolding dict_value_read PairValue EqualsMember MemberOr After
meets_dict_value =
    meets_then (meets_optional is_equals meets_equals_member (λ x v h. subst (λ (y : List ℕ). Starts is_equals y) (sym h.1) refl)) meets_member_or
    (λ x o h. fill o) (λ o y v r h after. next o y v r h after)
  where
    fill : (o : Option Member) → (y : List ℕ) × (v : Member) × MemberOr o y v
    fill None = ([], ItemMember (true_item []), ([], ([], refl, refl), refl))
    fill (Some w) = ([], w, (refl, refl))

    next : (o : Option Member) (y : List ℕ) (v : Member) (r : List ℕ) → MemberOr o y v → Next (λ c. is_one_of after_params c) r → Next (optional_follow is_equals (λ (_ : Member) c. is_one_of after_params c) o) (y ++ r)
    next None y v r h after = params_next (λ c. not (is_equals c)) refl (λ c e. of_each (λ c. not (is_equals c)) after_params refl c e) y h.1.0 r h.1.1 after
    next (Some w) y v r h after = subst (λ (y : List ℕ). Next (λ c. is_one_of after_params c) (y ++ r)) (sym h.0) after

to_value : (rest : List ℕ) (v : Member) → PairValue rest v
    → IsDictValue rest v
unfolding PairValue EqualsMember MemberOr
to_value rest v t = go t.value t.spells t.more
  where
    go : (o : Option Member) → Optional EqualsMember t.first o → MemberOr o t.second v
        → IsDictValue rest v
    go None e h = inr (h.1.0, subst (λ (x : List ℕ). AreParameters x h.1.0) (sym (t.joined ∙ ap (λ (y : List ℕ). y ++ t.second) e)) h.1.1, sym h.2 ∙ ap (λ (ps : List (Pair BareItem)). ItemMember (true_item ps)) (sym h.1.2))
    go (Some w) e h = inl (e.0, t.joined ∙ ap (λ (y : List ℕ). t.first ++ y) h.0 ∙ append-nil t.first ∙ e.1, subst (λ (v : Member). IsMember e.0 v) h.1 e.2)

from_value : (rest : List ℕ) (v : Member)
    → IsDictValue rest v → PairValue rest v
unfolding PairValue EqualsMember MemberOr
from_value rest v (inl h) = record { first = rest; second = []; value = Some v; joined = sym (append-nil rest); spells = h; more = (refl, refl) }
from_value rest v (inr h) = record { first = []; second = rest; value = None; joined = refl; spells = refl; more = (distinct_pairs h.0, (h.0, h.1, refl), sym h.2) }

value_next : (y : List ℕ) (v : Member) (r : List ℕ) → PairValue y v → Next (λ c. is_one_of after_params c) r → Next (λ c. not (is_key_rest c)) (y ++ r)
value_next y v r t after = go (to_value y v t)
  where
    go : IsDictValue y v → Next (λ c. not (is_key_rest c)) (y ++ r)
    go (inl h) = subst (λ (y : List ℕ). Next (λ c. not (is_key_rest c)) (y ++ r)) (sym h.1) refl
    go (inr h) = params_next (λ c. not (is_key_rest c)) refl (λ c e. of_each (λ c. not (is_key_rest c)) after_params refl c e) y h.0 r h.1 after

true_value : PairValue [] (ItemMember (true_item []))
true_value = from_value [] _ (inr ([], refl, refl))

meets_dict_member : Meets IsDictMember After dict_member_read
unfolding dict_member_read After
meets_dict_member =
    meets_same
    (meets_then meets_key (λ k. meets_map {G = λ _ c. is_one_of after_params c} meets_dict_value (λ (v : Member). pair_with k v) (λ v c h. h))
    (λ x u h. ([], pair_with u (ItemMember (true_item [])), (ItemMember (true_item []), true_value, refl)))
    (λ u y v r h after. value_next y h.0 r h.1 after))
    (λ x p t.
    let pair : pair_with t.value t.more.0 ≡ p = t.more.2 in
    record {
      key = t.first;
      rest = t.second;
      joined = t.joined;
      is_key = subst (λ (p : Pair Member). IsKey t.first p.key) pair t.spells;
      value = to_value t.second p.value (subst (λ (p : Pair Member). PairValue t.second p.value) pair t.more.1);
    })
    (λ x p h. record { first = h.key; second = h.rest; value = p.key; joined = h.joined; spells = h.is_key; more = (p.value, from_value h.rest p.value h.value, refl) })
    (λ v c h. h)

key_ows : (c : ℕ) → is_key_first c ≡ true → not (is_blank c) ≡ true
key_ows c is = go (eqb c 32) (eqb c 9) (apart is_key_first 32 refl c is) (apart is_key_first 9 refl c is)
  where
    go : (a b : Bool) → not a ≡ true → not b ≡ true → not (a || b) ≡ true
    go false false h k = refl
    go false true h k = absurd (cc (k))
    go true b h k = absurd (cc (h))

key_start : (x : List ℕ) → Starts is_key_first x → Starts (λ c. not (is_blank c)) x
key_start [] h = absurd h
key_start (c ∷ x) h = key_ows c h

pub dict_member_starts : (x : List ℕ) (p : Pair Member) → IsDictMember x p → Starts (λ c. not (is_blank c)) x
dict_member_starts x p h = key_start x (subst (λ (y : List ℕ). Starts is_key_first y) (sym h.joined) (starts_append is_key_first h.key h.rest (word_starts is_key_first is_key_rest h.key p.key h.is_key)))

some_dict_member : IsDictMember (97 ∷ []) (pair_with (97 ∷ []) (ItemMember (true_item [])))
some_dict_member = record { key = 97 ∷ []; rest = []; joined = refl; is_key = (refl, refl, refl); value = inr ([], refl, refl) }

dict_members : Meets (AreMembers IsDictMember) Nothing (separated_read dict_member_read)
unfolding After
dict_members = meets_separated meets_dict_member dict_member_starts (λ v. refl) (λ v c h. after_ows c h) (97 ∷ []) (pair_with (97 ∷ []) (ItemMember (true_item []))) some_dict_member

-- a Dictionary's members, put one after the other
pub meets_dict : Meets ReadsDict Nothing (λ bytes. dict_read bytes)
meets_dict =
    meets_same
    (meets_map {G = Nothing} dict_members (λ (ps : List (Pair Member)). distinct_pairs ps) (λ v c h. h))
    (λ x v h. (h.0, h.1, sym h.2)) (λ x v h. (h.0, h.1, sym h.2)) (λ v c h. h)

-- how the loops over members go on
pub members_step : (bytes : List ℕ) → turns_read (next_member_read member_read) bytes ≡ (next_member_read member_read bytes >>= λ a. with_turns a.0 a.1 (turns_read (next_member_read member_read) a.1))
unfolding After
members_step bytes = separated_step meets_member member_starts (λ v. refl) (λ v c h. after_ows c h) (63 ∷ 49 ∷ []) (ItemMember (true_item [])) true_read bytes

pub members_shorter : (bytes : List ℕ) (v : Member) (rest : List ℕ) → next_member_read member_read bytes ≡ Ok (Some v, rest) → length rest < length bytes
unfolding After
members_shorter bytes v rest e = separated_shorter meets_member member_starts (λ v. refl) (λ v c h. after_ows c h) (63 ∷ 49 ∷ []) (ItemMember (true_item [])) true_read bytes v rest e

pub dict_members_step : (bytes : List ℕ) → turns_read (next_member_read dict_member_read) bytes ≡ (next_member_read dict_member_read bytes >>= λ a. with_turns a.0 a.1 (turns_read (next_member_read dict_member_read) a.1))
unfolding After
dict_members_step bytes = separated_step meets_dict_member dict_member_starts (λ v. refl) (λ v c h. after_ows c h) (97 ∷ []) (pair_with (97 ∷ []) (ItemMember (true_item []))) some_dict_member bytes

pub dict_members_shorter : (bytes : List ℕ) (v : Pair Member) (rest : List ℕ) → next_member_read dict_member_read bytes ≡ Ok (Some v, rest) → length rest < length bytes
unfolding After
dict_members_shorter bytes v rest e = separated_shorter meets_dict_member dict_member_starts (λ v. refl) (λ v c h. after_ows c h) (97 ∷ []) (pair_with (97 ∷ []) (ItemMember (true_item []))) some_dict_member bytes v rest e
