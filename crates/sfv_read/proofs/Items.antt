-- Parameters and Items: what is read is one, and one is read.
use Rattle.std.proofs.Common.{◌≡◌, ℕ, ◌<◌, Bool, true, not, List, [], ◌∷◌, ◌++◌, length, Option, Some, None, Ok, refl, sym, ap, subst, ◌∙◌, append_assoc, inl, inr}
use Rattle.std.specs.List.{list_all}
use Rattle.std.proofs.lemmas.Bool.{eqb-true}
use Rattle.byte_grammar.specs.Language.{IsWord, Padded}
use Rattle.byte_grammar.specs.tools.Languages.{Then, Mapped, Optional, IsByte, IsAll}
use Rattle.byte_grammar.specs.Walk.{◌>>=◌}
use Rattle.byte_grammar.specs.Classes.{is_one_of, is_space}
use Rattle.byte_grammar.specs.tools.Walks.{Next, with_turns, turns_read, padded_read}
use Rattle.sfv_read.specs.BareItem.{IsBareItem}
use Rattle.sfv_read.specs.tools.BareWalk.{kind_of_bare_item}
use Rattle.sfv_text.specs.Range.{is_key_first, is_key_rest}
use Rattle.sfv_read.specs.Class.{is_equals, is_semicolon}
use Rattle.sfv_read.specs.Item.{IsKey, IsValue, IsParameter, AreParameters, distinct_pairs, IsItem}
use Rattle.sfv_read.specs.tools.ItemWalk.{equals_read, value_or_true, value_read, parameter_read, next_parameter_read, parameters_read, item_read}
use Rattle.sfv_text.specs.declared.value.BareItem.{BareItem}
use Rattle.sfv_text.specs.declared.value.BareItem.TheVariants.{Bool as Boolean}
use Rattle.sfv_read.specs.declared.bare.BareKind.{BareKind}
use Rattle.byte_grammar.proofs.Laws.{Meets, meets_then, meets_same, meets_map, next_more, any_next}
use Rattle.byte_grammar.proofs.ChoiceLaws.{Starts, meets_optional, optional_follow, of_each, apart, starts_next}
use Rattle.byte_grammar.proofs.LeafLaws.{meets_byte, meets_all, meets_word}
use Rattle.byte_grammar.proofs.TurnLaws.{meets_each, starts_length, turns_step, shorter}
use Rattle.byte_grammar.proofs.Whole.{Nothing, meets_padded}
use Rattle.sfv_read.proofs.Numbers.{ends, End}
use Rattle.sfv_text.specs.declared.value.Item.{Item}
use Rattle.sfv_text.specs.declared.pair.Pair.{Pair}
use Rattle.sfv_read.specs.tools.ItemWalk.{pair_with, item_with, key_read}
use Rattle.sfv_read.proofs.BareItems.{meets_bare, boolean_some, bare_next, bare_starts, kind_blank, word_starts}

-- ---- parameters

IsEquals : List ℕ → BareItem → Type 0
IsEquals x v = (bare : List ℕ) × (x ≡ 61 ∷ bare) × IsBareItem bare v

meets_equals : Meets IsEquals End equals_read
unfolding equals_read IsEquals
meets_equals =
    meets_same
    (meets_then (meets_byte is_equals 61 refl (λ _ _. true)) (λ _. meets_bare) (λ x u h. (63 ∷ 49 ∷ [], Boolean true, boolean_some)) (λ u y v r h after. any_next (y ++ r)))
    (λ x v t. (t.second, cc (t.joined, t.spells.same, eqb-true t.value 61 t.spells.passes), t.more))
    (λ x v h. record { first = 61 ∷ []; second = h.0; value = 61; joined = h.1; spells = record { same = refl; passes = refl }; more = h.2 })
    (λ v c h. h)

-- what may follow a parameter, and what may follow them all
abbrev after_param : List ℕ
after_param = 59 ∷ 32 ∷ 9 ∷ 44 ∷ 41 ∷ []

abbrev pub after_params : List ℕ
after_params = 32 ∷ 9 ∷ 44 ∷ 41 ∷ []

meets_value : Meets IsValue (λ _ c. is_one_of after_param c) value_read
unfolding IsEquals value_read
meets_value =
    meets_same (meets_map (meets_optional is_equals meets_equals (λ x v h. subst (λ (y : List ℕ). Starts is_equals y) (sym h.1) refl)) value_or_true sub) to from (λ v c h. h)
  where
    sub : (o : Option BareItem) (c : ℕ) → is_one_of after_param c ≡ true → optional_follow is_equals End o c ≡ true
    sub None c h = of_each (λ c. not (is_equals c)) after_param refl c h
    sub (Some v) c h = of_each (is_one_of ends) after_param refl c h

    to : (x : List ℕ) (v : BareItem) → Mapped value_or_true (Optional IsEquals) x v → IsValue x v
    to x v (None, h, e) = inr (h, sym e)
    to x v (Some w, h, e) = inl (subst (λ (v : BareItem). (bare : List ℕ) × (x ≡ 61 ∷ bare) × IsBareItem bare v) e h)

    from : (x : List ℕ) (v : BareItem) → IsValue x v → Mapped value_or_true (Optional IsEquals) x v
    from x v (inl h) = (Some v, h, refl)
    from x v (inr h) = (None, h.0, sym h.1)

-- a value begins with `=` or is empty
value_next : (P : ℕ → Bool) → P 61 ≡ true → ((c : ℕ) → is_one_of after_param c ≡ true → P c ≡ true) → (x : List ℕ) (v : BareItem) (r : List ℕ) → IsValue x v → Next (λ c. is_one_of after_param c) r → Next P (x ++ r)
value_next P equals sub x v r (inl h) after = subst (λ (y : List ℕ). Next P (y ++ r)) (sym h.1) equals
value_next P equals sub x v r (inr h) after = subst (λ (y : List ℕ). Next P (y ++ r)) (sym h.0) (next_more (λ c. is_one_of after_param c) P sub r after)

pub meets_key : Meets IsKey (λ _ c. not (is_key_rest c)) key_read
unfolding key_read
meets_key = meets_word is_key_first is_key_rest 97 refl

meets_param : Meets IsParameter (λ _ c. is_one_of after_param c) parameter_read
unfolding parameter_read
meets_param =
    meets_same
    (meets_then (meets_byte is_semicolon 59 refl (λ _ _. true))
    (λ _. meets_then (meets_all is_space)
    (λ _. meets_then meets_key
    (λ key. meets_map {G = λ _ c. is_one_of after_param c} meets_value (λ (v : BareItem). pair_with key v) (λ v c h. h))
    (λ x u h. ([], pair_with u (Boolean true), (Boolean true, inr (refl, refl), refl)))
    (λ u y v r h after. value_next (λ c. not (is_key_rest c)) refl (λ c e. of_each (λ c. not (is_key_rest c)) after_param refl c e) y h.0 r h.1 after))
    (λ x u h. (97 ∷ [], pair_with (97 ∷ []) (Boolean true), key_alone))
    (λ u y v r h after. key_start y v r h))
    (λ x u h. (97 ∷ [], pair_with (97 ∷ []) (Boolean true), record { first = []; second = 97 ∷ []; value = []; joined = refl; spells = record { same = refl; passes = refl }; more = key_alone }))
    (λ u y v r h after. any_next (y ++ r)))
    (λ x v t. to x t.first t.second t.value t.joined t.spells t.more.first t.more.second t.more.value t.more.joined t.more.spells t.more.more.first t.more.more.second t.more.more.value t.more.more.joined t.more.more.spells v t.more.more.more)
    (λ x v h. record {
      first = 59 ∷ [];
      second = h.spaces ++ (h.key ++ h.value);
      value = 59;
      joined = h.joined;
      spells = record { same = refl; passes = refl };
      more = record {
        first = h.spaces;
        second = h.key ++ h.value;
        value = h.spaces;
        joined = refl;
        spells = record { same = refl; passes = h.are_spaces };
        more = record { first = h.key; second = h.value; value = v.key; joined = refl; spells = h.is_key; more = (v.value, h.is_value, refl) };
      };
    })
    (λ v c h. h)
  where
    After : List ℕ → (Pair BareItem) → Type 0
    After x v = Then (IsWord is_key_first is_key_rest) (λ key. Mapped (λ (v : BareItem). pair_with key v) IsValue) x v

    key_alone : After (97 ∷ []) (pair_with (97 ∷ []) (Boolean true))
    key_alone = record { first = 97 ∷ []; second = []; value = 97 ∷ []; joined = refl; spells = (refl, refl, refl); more = (Boolean true, inr (refl, refl), refl) }

    key_start : (y : List ℕ) (v : Pair BareItem) (r : List ℕ) → After y v → Next (λ c. not (is_space c)) (y ++ r)
    key_start y v r t = subst (λ (y : List ℕ). Next (λ c. not (is_space c)) y) (ap (λ (y : List ℕ). y ++ r) (sym t.joined))
        (subst (λ (y : List ℕ). Next (λ c. not (is_space c)) y) (sym (append_assoc t.first t.second r))
        (starts_next is_key_first (λ c. not (is_space c)) (apart is_key_first 32 refl) t.first (t.second ++ r) (word_starts is_key_first is_key_rest t.first t.value t.spells)))

    to : (x a b : List ℕ) (c : ℕ) → x ≡ a ++ b → IsByte is_semicolon a c → (d e s : List ℕ) → b ≡ d ++ e → IsAll is_space d s → (f g k : List ℕ) → e ≡ f ++ g → IsKey f k
        → (p : Pair BareItem) → Mapped (λ (v : BareItem). pair_with k v) IsValue g p → IsParameter x p
    to x a b c ab semi d e s de blank f g k fg key p v =
        let pair : pair_with k v.0 ≡ p = v.2 in
        record {
          spaces = d;
          key = f;
          value = g;
          joined = cc (ab, semi.same, eqb-true c 59 semi.passes, de, fg);
          are_spaces = ap (list_all is_space) blank.same ∙ blank.passes;
          is_key = subst (λ (p : Pair BareItem). IsKey f p.key) pair key;
          is_value = subst (λ (p : Pair BareItem). IsValue g p.value) pair v.1;
        }

param_starts : (x : List ℕ) (p : Pair BareItem) → IsParameter x p → Starts is_semicolon x
param_starts x p h = subst (λ (y : List ℕ). Starts is_semicolon y) (sym h.joined) refl

pub meets_params : Meets AreParameters (λ _ c. is_one_of after_params c) (λ bytes. turns_read next_parameter_read bytes)
unfolding next_parameter_read
meets_params =
    meets_each is_semicolon (λ c. is_one_of after_params c) meets_param param_starts
    (λ v c e. subst (λ (c : ℕ). is_one_of after_param c ≡ true) (sym (eqb-true c 59 e)) refl)
    (λ v c e. of_each (is_one_of after_param) after_params refl c e)
    (λ c e. of_each (λ c. not (is_semicolon c)) after_params refl c e)

-- ---- items

abbrev pub AreDistinct : List ℕ → List (Pair BareItem) → Type 0
AreDistinct x ps = Mapped (λ (read : List (Pair BareItem)). distinct_pairs read) AreParameters x ps

pub meets_kept : Meets AreDistinct (λ _ c. is_one_of after_params c) parameters_read
unfolding parameters_read
meets_kept = meets_map meets_params (λ (read : List (Pair BareItem)). distinct_pairs read) (λ v c h. h)

pub params_next : (P : ℕ → Bool) → P 59 ≡ true → ((c : ℕ) → is_one_of after_params c ≡ true → P c ≡ true) → (x : List ℕ) (ps : List (Pair BareItem)) (r : List ℕ) → AreParameters x ps → Next (λ c. is_one_of after_params c) r → Next P (x ++ r)
params_next P semi sub x [] r h after = subst (λ (y : List ℕ). Next P (y ++ r)) (sym h) (next_more (λ c. is_one_of after_params c) P sub r after)
params_next P semi sub x (p ∷ ps) r h after = subst (λ (y : List ℕ). Next P (y ++ r)) (sym h.2) (subst (λ (y : List ℕ). Next P y) (sym (append_assoc h.0 h.1 r))
    (starts_next is_semicolon P (λ c e. subst (λ (c : ℕ). P c ≡ true) (sym (eqb-true c 59 e)) semi) h.0 (h.1 ++ r) (param_starts h.0 p h.3)))

pub meets_item : Meets IsItem (λ _ c. is_one_of after_params c) item_read
unfolding item_read
meets_item =
    meets_same
    (meets_then meets_bare (λ b. meets_map {G = λ _ c. is_one_of after_params c} meets_kept (λ (ps : List (Pair BareItem)). item_with b ps) (λ v c h. h))
    (λ x u h. ([], item_with u [], ([], ([], refl, refl), refl)))
    (λ u y v r h after. params_next (is_one_of ends) refl (λ c e. of_each (is_one_of ends) after_params refl c e) y h.1.0 r h.1.1 after))
    (λ x v t.
    let pair : item_with t.value t.more.0 ≡ v = t.more.2 in
    record {
      bare = t.first;
      params = t.second;
      written = t.more.1.0;
      joined = t.joined;
      is_bare = subst (λ (p : Item). IsBareItem t.first p.bare) pair t.spells;
      are_params = t.more.1.1;
      are_distinct = ap (λ (p : Item). p.params) (sym pair) ∙ sym t.more.1.2;
    })
    (λ x v h. record { first = h.bare; second = h.params; value = v.bare; joined = h.joined; spells = h.is_bare; more = (distinct_pairs h.written, (h.written, h.are_params, refl), λ i. item_with v.bare (sym h.are_distinct i)) })
    (λ v c h. h)

pub item_next : (P : ℕ → Bool) → ((k : BareKind) (c : ℕ) → kind_of_bare_item c ≡ Some k → P c ≡ true) → (x : List ℕ) (v : Item) (r : List ℕ) → IsItem x v → Next P (x ++ r)
item_next P sub x v r h = subst (λ (y : List ℕ). Next P y) (sym (ap (λ (y : List ℕ). y ++ r) h.joined ∙ append_assoc h.bare h.params r)) (bare_next P sub h.bare v.bare (h.params ++ r) h.is_bare)

-- how a loop over parameters goes on
meets_turn : Meets (Optional IsParameter) (optional_follow is_semicolon (λ _ c. is_one_of after_param c)) next_parameter_read
unfolding next_parameter_read
meets_turn = meets_optional is_semicolon meets_param param_starts

param_grows : (x : List ℕ) (p : Pair BareItem) → Optional IsParameter x (Some p) → 0 < length x
param_grows x p h = starts_length is_semicolon x (param_starts x p h)

pub params_step : (bytes : List ℕ) → turns_read next_parameter_read bytes ≡ (next_parameter_read bytes >>= λ a. with_turns a.0 a.1 (turns_read next_parameter_read a.1))
params_step bytes = turns_step meets_turn param_grows bytes

pub params_shorter : (bytes : List ℕ) (p : Pair BareItem) (rest : List ℕ) → next_parameter_read bytes ≡ Ok (Some p, rest) → length rest < length bytes
params_shorter bytes p rest e = shorter meets_turn param_grows bytes p rest e

item_blank : (v : Item) (c : ℕ) → is_space c ≡ true → is_one_of after_params c ≡ true
item_blank v c e = subst (λ (c : ℕ). is_one_of after_params c ≡ true) (sym (eqb-true c 32 e)) refl

some_item_read : IsItem (63 ∷ 49 ∷ []) (item_with (Boolean true) [])
some_item_read = record { bare = 63 ∷ 49 ∷ []; params = []; written = []; joined = refl; is_bare = refl; are_params = refl; are_distinct = refl }

pub meets_whole_item : Meets (Padded is_space IsItem) Nothing (λ bytes. padded_read is_space item_read bytes)
meets_whole_item = meets_padded is_space meets_item item_blank (λ x v r h. item_next (λ c. not (is_space c)) kind_blank x v r h) (63 ∷ 49 ∷ []) (item_with (Boolean true) []) some_item_read

pub starts_append : (P : ℕ → Bool) (x y : List ℕ) → Starts P x → Starts P (x ++ y)
starts_append P [] y h = absurd h
starts_append P (c ∷ x) y h = h

pub item_starts : (P : ℕ → Bool) → ((k : BareKind) (c : ℕ) → kind_of_bare_item c ≡ Some k → P c ≡ true) → (x : List ℕ) (v : Item) → IsItem x v → Starts P x
item_starts P sub x v h = subst (λ (y : List ℕ). Starts P y) (sym h.joined) (starts_append P h.bare h.params (bare_starts P sub h.bare v.bare h.is_bare))
