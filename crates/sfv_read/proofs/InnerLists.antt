-- An inner list that is read is one, and one is read.
use Rattle.std.proofs.Common.{◌≡◌, ℕ, ◌<◌, ◌≤◌, arith, Bool, true, not, List, [], ◌∷◌, ◌++◌, length, Option, Some, None, Ok, refl, sym, ap, subst, ◌∙◌, append_assoc, inl, inr, ◌⊎◌}
use Rattle.std.specs.List.{list_all}
use Rattle.std.proofs.lemmas.Bool.{eqb-true}
use Rattle.std.proofs.lemmas.List.Folds.{list_all-append}
use Rattle.byte_grammar.specs.Language.{Each, IsFurther, Padded}
use Rattle.byte_grammar.specs.tools.Languages.{Then, Turns, Mapped, IsByte, IsAll}
use Rattle.byte_grammar.specs.Walk.{◌>>=◌}
use Rattle.byte_grammar.specs.Classes.{is_one_of, is_space}
use Rattle.byte_grammar.specs.tools.Walks.{Next, with_turns, turns_read, padded_read}
use Rattle.sfv_read.specs.Class.{is_open, is_close}
use Rattle.sfv_read.specs.Inner.{AreSpaces, AreItems, IsInner}
use Rattle.sfv_read.specs.tools.InnerWalk.{close_read, some_item_read, item_or_close_read, after_gap, next_item_read, items_after, items_read, inner_list_read}
use Rattle.sfv_read.specs.Item.{IsItem, distinct_pairs}
use Rattle.sfv_text.specs.declared.value.BareItem.{BareItem}
use Rattle.byte_grammar.proofs.Whole.{Nothing, meets_padded}
use Rattle.byte_grammar.proofs.Laws.{Meets, meets_then, meets_done, meets_same, meets_map, and_is, any_next}
use Rattle.byte_grammar.proofs.ChoiceLaws.{Starts, meets_choose, of_each, starts_next}
use Rattle.byte_grammar.proofs.LeafLaws.{meets_byte, meets_all}
use Rattle.byte_grammar.proofs.TurnLaws.{meets_turns, starts_length, turns_step, shorter}
use Rattle.sfv_read.proofs.BareItems.{kind_blank, kind_close}
use Rattle.sfv_read.proofs.Items.{after_params, AreDistinct, meets_kept, meets_item, item_starts, starts_append}
use Rattle.sfv_text.specs.declared.value.Item.{Item}
use Rattle.sfv_text.specs.declared.value.InnerList.{InnerList}
use Rattle.sfv_text.specs.declared.pair.Pair.{Pair}
use Rattle.sfv_read.specs.tools.InnerWalk.{inner_of}

-- what may follow a offset of an item: after one a space or the end, after the end anything
slot : Option Item → ℕ → Bool
slot None c = true
slot (Some v) c = is_one_of (32 ∷ 41 ∷ []) c

abbrev CloseText : List ℕ → Option Item → Type 0
CloseText x o = Mapped (λ (_ : ℕ). None) (IsByte is_close) x o

abbrev SomeItem : List ℕ → Option Item → Type 0
SomeItem x o = Mapped (λ (v : Item). Some v) IsItem x o

abbrev Slot : List ℕ → Option Item → Type 0
Slot x o = CloseText x o ⊎ SomeItem x o

closes : CloseText (41 ∷ []) None
closes = (41, record { same = refl; passes = refl }, refl)

meets_close_only : Meets CloseText slot close_read
unfolding close_read slot
meets_close_only = meets_map (meets_byte is_close 41 refl (λ _ _. true)) (λ (_ : ℕ). None) (λ v c h. refl)

meets_some_item : Meets SomeItem slot some_item_read
unfolding some_item_read slot
meets_some_item = meets_map meets_item (λ (v : Item). Some v) (λ v c h. of_each (is_one_of after_params) (32 ∷ 41 ∷ []) refl c h)

close_starts : (P : ℕ → Bool) → P 41 ≡ true → (x : List ℕ) (o : Option Item) → CloseText x o → Starts P x
close_starts P is x o h = subst (λ (y : List ℕ). Starts P y) (sym h.1.same) (subst (λ (c : ℕ). P c ≡ true) (sym (eqb-true h.0 41 h.1.passes)) is)

slot_starts : (x : List ℕ) (o : Option Item) → Slot x o → Starts (λ c. not (is_space c)) x
slot_starts x o (inl h) = close_starts (λ c. not (is_space c)) refl x o h
slot_starts x o (inr h) = item_starts (λ c. not (is_space c)) kind_blank x h.0 h.1

meets_slot : Meets Slot slot item_or_close_read
unfolding item_or_close_read
meets_slot = meets_choose is_close meets_close_only meets_some_item (λ x o h. close_starts is_close refl x o h) (λ x o h. item_starts (λ c. not (is_close c)) kind_close x h.0 h.1) (41 ∷ []) None closes

abbrev AfterGap : List ℕ → List ℕ → Option Item → Type 0
AfterGap [] x o = CloseText x o
AfterGap (_ ∷ _) x o = Slot x o

meets_after_gap : (s : List ℕ) → Meets (AfterGap s) slot (after_gap s)
meets_after_gap [] = meets_close_only
meets_after_gap (_ ∷ _) = meets_slot

gap_starts : (s x : List ℕ) (o : Option Item) → AfterGap s x o → Starts (λ c. not (is_space c)) x
gap_starts [] x o h = slot_starts x o (inl h)
gap_starts (_ ∷ _) x o h = slot_starts x o h

gap_closes : (s : List ℕ) → AfterGap s (41 ∷ []) None
gap_closes [] = closes
gap_closes (_ ∷ _) = inl closes

InnerTurn : List ℕ → Option Item → Type 0
InnerTurn x o = Then (IsAll is_space) AfterGap x o

meets_inner_turn : Meets InnerTurn slot next_item_read
unfolding next_item_read InnerTurn
meets_inner_turn =
    meets_then (meets_all is_space) meets_after_gap (λ x u h. (41 ∷ [], None, gap_closes u))
    (λ u y v r h after. starts_next (λ c. not (is_space c)) (λ c. not (is_space c)) (λ c h. h) y r (gap_starts u y v h))

-- a turn begins with a space or the end
turn_starts : (x : List ℕ) (o : Option Item) → InnerTurn x o → Starts (is_one_of (32 ∷ 41 ∷ [])) x
unfolding InnerTurn
turn_starts x o t = subst (λ (y : List ℕ). Starts (is_one_of (32 ∷ 41 ∷ [])) y) (sym (t.joined ∙ ap (λ (y : List ℕ). y ++ t.second) t.spells.same)) (go t.value t.spells.passes t.more)
  where
    go : (s : List ℕ) → list_all is_space s ≡ true → AfterGap s t.second o → Starts (is_one_of (32 ∷ 41 ∷ [])) (s ++ t.second)
    go [] all h = close_starts (is_one_of (32 ∷ 41 ∷ [])) refl t.second o h
    go (c ∷ s) all h = subst (λ (c : ℕ). is_one_of (32 ∷ 41 ∷ []) c ≡ true) (sym (eqb-true c 32 (and_is (is_space c) (list_all is_space s) all).0)) refl

turn_next : (x : List ℕ) (o : Option Item) (r : List ℕ) → InnerTurn x o → Next (is_one_of (32 ∷ 41 ∷ [])) (x ++ r)
turn_next x o r h = starts_next (is_one_of (32 ∷ 41 ∷ [])) (is_one_of (32 ∷ 41 ∷ [])) (λ c h. h) x r (turn_starts x o h)

abbrev InnerTurns : List ℕ → List Item → Type 0
InnerTurns x vs = Turns InnerTurn x vs

turns_next : (x : List ℕ) (vs : List Item) (r : List ℕ) → InnerTurns x vs → Next (is_one_of (32 ∷ 41 ∷ [])) (x ++ r)
turns_next x [] r h = turn_next x None r h
turns_next x (v ∷ vs) r h = subst (λ (y : List ℕ). Next (is_one_of (32 ∷ 41 ∷ [])) y) (sym (ap (λ (y : List ℕ). y ++ r) h.2 ∙ append_assoc h.0 h.1 r)) (turn_next h.0 (Some v) (h.1 ++ r) h.3)

turn_grows : (x : List ℕ) (v : Item) → InnerTurn x (Some v) → 0 < length x
turn_grows x v h = starts_length (is_one_of (32 ∷ 41 ∷ [])) x (turn_starts x (Some v) h)

meets_inner_turns : Meets InnerTurns (λ _ _. true) (turns_read next_item_read)
unfolding slot InnerTurn
meets_inner_turns = meets_turns meets_inner_turn turn_grows (41 ∷ [], record { first = []; second = 41 ∷ []; value = []; joined = refl; spells = record { same = refl; passes = refl }; more = closes }) (λ v x o r h after. turn_next x o r h)

-- ---- the items

ItemsAfter : Option Item → List ℕ → List Item → Type 0
ItemsAfter None x vs = (x ≡ []) × ([] ≡ vs)
ItemsAfter (Some v) x vs = Mapped (λ (vs : List Item). v ∷ vs) InnerTurns x vs

meets_items_after : (o : Option Item) → Meets (ItemsAfter o) (λ _ _. true) (items_after o)
unfolding ItemsAfter
meets_items_after None = meets_done [] (λ _ _. true)
meets_items_after (Some v) = meets_map meets_inner_turns (λ (vs : List Item). v ∷ vs) (λ vs c h. h)

turns_close : InnerTurns (41 ∷ []) []
unfolding InnerTurn
turns_close = record { first = []; second = 41 ∷ []; value = []; joined = refl; spells = record { same = refl; passes = refl }; more = closes }

ItemsText : List ℕ → List Item → Type 0
ItemsText x vs = Then Slot ItemsAfter x vs

meets_items : Meets ItemsText (λ _ _. true) items_read
unfolding items_read ItemsText ItemsAfter slot
meets_items =
    meets_then meets_slot meets_items_after (λ x o h. some o) (λ o y vs r h after. next o y vs r h)
  where
    some : (o : Option Item) → (y : List ℕ) × (vs : List Item) × ItemsAfter o y vs
    some None = ([], [], (refl, refl))
    some (Some v) = (41 ∷ [], v ∷ [], ([], turns_close, refl))

    next : (o : Option Item) (y : List ℕ) (vs : List Item) (r : List ℕ) → ItemsAfter o y vs → Next (slot o) (y ++ r)
    next None y vs r h = any_next (y ++ r)
    next (Some v) y vs r h = turns_next y h.0 r h.1

items_starts : (x : List ℕ) (vs : List Item) → ItemsText x vs → Starts (λ c. not (is_space c)) x
unfolding ItemsText
items_starts x vs t = subst (λ (y : List ℕ). Starts (λ c. not (is_space c)) y) (sym t.joined) (starts_append (λ c. not (is_space c)) t.first t.second (slot_starts t.first t.value t.spells))

-- ---- as joined texts

-- items and what stands after them, as the turns have them
record Closed (Are : List ℕ → List Item → Type 0) (x : List ℕ) (vs : List Item) : Type 0 where
  items : List ℕ
  after : List ℕ
  joined : x ≡ items ++ (after ++ 41 ∷ [])
  spaces : list_all is_space after ≡ true
  are : Are items vs

some_is : (a b : Item) → Some a ≡ Some b → a ≡ b
some_is a b e = cc

to_spaced : (x : List ℕ) (v : Item) → InnerTurn x (Some v) → (IsFurther AreSpaces IsItem) x v
unfolding InnerTurn
to_spaced x v t = go t.value (t.joined ∙ ap (λ (y : List ℕ). y ++ t.second) t.spells.same) t.spells.passes t.more
  where
    go : (s : List ℕ) → x ≡ s ++ t.second → list_all is_space s ≡ true → AfterGap s t.second (Some v) → (IsFurther AreSpaces IsItem) x v
    go [] e all h = absurd (cc (h.2))
    go (c ∷ s) e all (inl h) = absurd (cc (h.2))
    go (c ∷ s) e all (inr h) =
        record { separator = c ∷ s; rest = t.second; joined = e; separates = record { some = omega arith; spaces = all }; spells = subst (λ (v : Item). IsItem t.second v) (some_is _ _ h.2) h.1 }

from_spaced : (x : List ℕ) (v : Item) → (IsFurther AreSpaces IsItem) x v → InnerTurn x (Some v)
unfolding InnerTurn
from_spaced x v h = go h.separator h.joined h.separates.some h.separates.spaces
  where
    go : (s : List ℕ) → x ≡ s ++ h.rest → 1 ≤ length s → list_all is_space s ≡ true → InnerTurn x (Some v)
    go [] e some all = absurd (omega arith)
    go (c ∷ s) e some all = record { first = c ∷ s; second = h.rest; value = c ∷ s; joined = e; spells = record { same = refl; passes = all }; more = inr (v, h.spells, refl) }

to_last : (x : List ℕ) → InnerTurn x None → (s : List ℕ) × (x ≡ s ++ 41 ∷ []) × (list_all is_space s ≡ true)
unfolding InnerTurn
to_last x t = (t.value, t.joined ∙ ap (λ (y : List ℕ). y ++ t.second) t.spells.same ∙ ap (λ (y : List ℕ). t.value ++ y) (close_is t.value t.more), t.spells.passes)
  where
    close_is : (s : List ℕ) → AfterGap s t.second None → t.second ≡ 41 ∷ []
    close_is [] h = h.1.same ∙ ap (λ (c : ℕ). c ∷ []) (eqb-true h.0 41 h.1.passes)
    close_is (_ ∷ _) (inl h) = h.1.same ∙ ap (λ (c : ℕ). c ∷ []) (eqb-true h.0 41 h.1.passes)
    close_is (_ ∷ _) (inr h) = absurd (cc (h.2))

from_last : (s : List ℕ) → list_all is_space s ≡ true → InnerTurn (s ++ 41 ∷ []) None
unfolding InnerTurn
from_last s all = record { first = s; second = 41 ∷ []; value = s; joined = refl; spells = record { same = refl; passes = all }; more = gap_closes s }

to_closed : (vs : List Item) (x : List ℕ) → InnerTurns x vs → Closed (Each (IsFurther AreSpaces IsItem)) x vs
to_closed [] x t = let h = to_last x t in record { items = []; after = h.0; joined = h.1; spaces = h.2; are = refl }
to_closed (v ∷ vs) x (first, second, e, t, others) =
    let rest = to_closed vs second others in
    record {
      items = first ++ rest.items;
      after = rest.after;
      spaces = rest.spaces;
      joined = e ∙ ap (λ (y : List ℕ). first ++ y) rest.joined ∙ sym (append_assoc first rest.items (rest.after ++ 41 ∷ []));
      are = (first, rest.items, refl, to_spaced first v t, rest.are);
    }

from_closed : (vs : List Item) (items after : List ℕ) → list_all is_space after ≡ true → Each (IsFurther AreSpaces IsItem) items vs → InnerTurns (items ++ (after ++ 41 ∷ [])) vs
from_closed [] items after all h = subst (λ (y : List ℕ). InnerTurn (y ++ (after ++ 41 ∷ [])) None) (sym h) (from_last after all)
from_closed (v ∷ vs) items after all h =
    (h.0, h.1 ++ (after ++ 41 ∷ []), ap (λ (y : List ℕ). y ++ (after ++ 41 ∷ [])) h.2 ∙ append_assoc h.0 h.1 (after ++ 41 ∷ []), from_spaced h.0 v h.3, from_closed vs h.1 after all h.4)

to_items : (x : List ℕ) (vs : List Item) → ItemsText x vs → Closed AreItems x vs
unfolding ItemsText ItemsAfter
to_items x vs t = go t.value t.spells t.more
  where
    go : (o : Option Item) → Slot t.first o → ItemsAfter o t.second vs → Closed AreItems x vs
    go None (inl h) (e, is) =
        let c : t.first ≡ 41 ∷ [] = h.1.same ∙ ap (λ (c : ℕ). c ∷ []) (eqb-true h.0 41 h.1.passes) in
        subst (λ (vs : List Item). Closed AreItems x vs) is (record { items = []; after = []; joined = cc (t.joined, c, e); spaces = refl; are = refl })
    go None (inr h) (e, is) = absurd (cc (h.2))
    go (Some v) (inl h) m = absurd (cc (h.2))
    go (Some v) (inr h) (ws, turns, is) =
        let rest = to_closed ws t.second turns in
        subst (λ (vs : List Item). Closed AreItems x vs) is (record {
          items = t.first ++ rest.items;
          after = rest.after;
          spaces = rest.spaces;
          joined = t.joined ∙ ap (λ (y : List ℕ). t.first ++ y) rest.joined ∙ sym (append_assoc t.first rest.items (rest.after ++ 41 ∷ []));
          are = (t.first, rest.items, refl, subst (λ (v : Item). IsItem t.first v) (some_is _ _ h.2) h.1, rest.are);
        })

-- spaces, items and the end, with the spaces of an empty list all before them
from_items : (vs : List Item) (before items after : List ℕ) → list_all is_space before ≡ true → list_all is_space after ≡ true → AreItems items vs
    → (s y : List ℕ) × (before ++ (items ++ (after ++ 41 ∷ [])) ≡ s ++ y) × (list_all is_space s ≡ true) × ItemsText y vs
unfolding ItemsText ItemsAfter
from_items [] before items after b a h = (
  before ++ after,
  41 ∷ [],
  ap (λ (y : List ℕ). before ++ (y ++ (after ++ 41 ∷ []))) h ∙ sym (append_assoc before after (41 ∷ [])),
  list_all-append is_space before after ∙ rw (b, a) refl,
  record { first = 41 ∷ []; second = []; value = None; joined = refl; spells = inl closes; more = (refl, refl) },
)
from_items (v ∷ vs) before items after b a h = (
  before,
  items ++ (after ++ 41 ∷ []),
  refl,
  b,
  record {
    first = h.0;
    second = h.1 ++ (after ++ 41 ∷ []);
    value = Some v;
    joined = ap (λ (y : List ℕ). y ++ (after ++ 41 ∷ [])) h.2 ∙ append_assoc h.0 h.1 (after ++ 41 ∷ []);
    spells = inr (v, h.3, refl);
    more = (vs, from_closed vs h.1 after a h.4, refl);
  },
)

regroup : (b i a p : List ℕ) → b ++ (i ++ (a ++ 41 ∷ p)) ≡ (b ++ (i ++ (a ++ 41 ∷ []))) ++ p
regroup b i a p = sym (append_assoc b (i ++ (a ++ 41 ∷ [])) p ∙ ap (λ (y : List ℕ). b ++ y) (append_assoc i (a ++ 41 ∷ []) p ∙ ap (λ (y : List ℕ). i ++ y) (append_assoc a (41 ∷ []) p)))

none_text : ItemsText (41 ∷ []) []
unfolding ItemsText ItemsAfter
none_text = record { first = 41 ∷ []; second = []; value = None; joined = refl; spells = inl closes; more = (refl, refl) }

Inside : List ℕ → InnerList → Type 0
Inside x v = Then ItemsText (λ items. Mapped (λ (ps : List (Pair BareItem)). inner_of items ps) AreDistinct) x v

pub meets_inner : Meets IsInner (λ _ c. is_one_of after_params c) inner_list_read
unfolding inner_list_read Inside
meets_inner =
    meets_same
    (meets_then (meets_byte is_open 40 refl (λ _ _. true))
    (λ _. meets_then (meets_all is_space)
    (λ _. meets_then meets_items (λ items. meets_map {G = λ _ c. is_one_of after_params c} meets_kept (λ (ps : List (Pair BareItem)). inner_of items ps) (λ v c h. h))
    (λ x u h. ([], inner_of u [], ([], ([], refl, refl), refl))) (λ u y v r h after. any_next (y ++ r)))
    (λ x u h. (41 ∷ [], (inner_of [] []), inside_none)) (λ u y v r h after. inside_next y v r h))
    (λ x u h. (41 ∷ [], (inner_of [] []), record { first = []; second = 41 ∷ []; value = []; joined = refl; spells = record { same = refl; passes = refl }; more = inside_none })) (λ u y v r h after. any_next (y ++ r)))
    (λ x v t. to x t.first t.second t.value v t.joined t.spells t.more)
    from (λ v c h. h)
  where
    inside_none : Inside (41 ∷ []) (inner_of [] [])
    inside_none = record { first = 41 ∷ []; second = []; value = []; joined = refl; spells = none_text; more = ([], ([], refl, refl), refl) }

    inside_next : (y : List ℕ) (v : InnerList) (r : List ℕ) → Inside y v → Next (λ c. not (is_space c)) (y ++ r)
    inside_next y v r t = starts_next (λ c. not (is_space c)) (λ c. not (is_space c)) (λ c h. h) y r (subst (λ (y : List ℕ). Starts (λ c. not (is_space c)) y) (sym t.joined) (starts_append (λ c. not (is_space c)) t.first t.second (items_starts t.first t.value t.spells)))

    to : (x first second : List ℕ) (c : ℕ) (v : InnerList) → x ≡ first ++ second → IsByte is_open first c → Then (IsAll is_space) (λ _ x v. Inside x v) second v → IsInner x v
    to x first second c v e o s =
        let i = s.more in
        let closed = to_items i.first i.value i.spells in
        let taken = i.more.1 in
        let pair : inner_of i.value i.more.0 ≡ v = i.more.2 in
        record {
          before = s.value;
          items = closed.items;
          after = closed.after;
          params = i.second;
          written = taken.0;
          joined = cc (e, o.same, eqb-true c 40 o.passes, s.joined, s.spells.same, i.joined, closed.joined, append_assoc closed.items (closed.after ++ 41 ∷ []) i.second, append_assoc closed.after (41 ∷ []) i.second);
          spaces_before = s.spells.passes;
          spaces_after = closed.spaces;
          are_items = subst (λ (p : InnerList). AreItems closed.items p.items) pair closed.are;
          are_params = taken.1;
          are_distinct = ap (λ (p : InnerList). p.params) (sym pair) ∙ sym taken.2;
        }

    from : (x : List ℕ) (v : InnerList) → IsInner x v → Then (IsByte is_open) (λ _. Then (IsAll is_space) (λ _. Then ItemsText (λ items. Mapped (λ (ps : List (Pair BareItem)). inner_of items ps) AreDistinct))) x v
    from x v h =
        let f = from_items v.items h.before h.items h.after h.spaces_before h.spaces_after h.are_items in
        record {
          first = 40 ∷ [];
          second = h.before ++ (h.items ++ (h.after ++ 41 ∷ h.params));
          value = 40;
          joined = h.joined;
          spells = record { same = refl; passes = refl };
          more = record {
            first = f.0;
            second = f.1 ++ h.params;
            value = f.0;
            spells = record { same = refl; passes = f.3 };
            joined = regroup h.before h.items h.after h.params ∙ ap (λ (y : List ℕ). y ++ h.params) f.2 ∙ append_assoc f.0 f.1 h.params;
            more = record { first = f.1; second = h.params; value = v.items; joined = refl; spells = f.4; more = (distinct_pairs h.written, (h.written, h.are_params, refl), λ i. inner_of v.items (sym h.are_distinct i)) };
          };
        }

pub inner_step : (bytes : List ℕ) → turns_read next_item_read bytes ≡ (next_item_read bytes >>= λ a. with_turns a.0 a.1 (turns_read next_item_read a.1))
inner_step bytes = turns_step meets_inner_turn turn_grows bytes

pub inner_shorter : (bytes : List ℕ) (v : Item) (rest : List ℕ) → next_item_read bytes ≡ Ok (Some v, rest) → length rest < length bytes
inner_shorter bytes v rest e = shorter meets_inner_turn turn_grows bytes v rest e

some_inner : IsInner (40 ∷ 41 ∷ []) (inner_of [] [])
some_inner = record { before = []; items = []; after = []; params = []; written = []; joined = refl; spaces_before = refl; spaces_after = refl; are_items = refl; are_params = refl; are_distinct = refl }

pub meets_whole_inner : Meets (Padded is_space IsInner) Nothing (λ bytes. padded_read is_space inner_list_read bytes)
meets_whole_inner =
    meets_padded is_space meets_inner (λ v c e. subst (λ (c : ℕ). is_one_of after_params c ≡ true) (sym (eqb-true c 32 e)) refl)
    (λ x v r h. subst (λ (y : List ℕ). Next (λ c. not (is_space c)) (y ++ r)) (sym h.joined) refl) (40 ∷ 41 ∷ []) (inner_of [] []) some_inner
