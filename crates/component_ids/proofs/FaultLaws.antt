-- The causes of an Inner List: at most one is the first that holds, and none holds where the list is
-- signature parameters.
use Rattle.std.proofs.Common.{◌≡◌, ◌<◌, ◌≤◌, ℕ, true, false, not, Ok, Some, List, [], ◌∷◌, length, take, map, refl, sym, ap, ◌∙◌, arith, inl, inr}
use Rattle.std.specs.List.{find, list_all, slice_get}
use Rattle.std.proofs.lemmas.Bool.{cases_order, false≢true}
use Rattle.std.proofs.lemmas.List.{length-map}
use Rattle.std.proofs.lemmas.List.Folds.{list_all-map}
use Rattle.sfv_text.specs.declared.pair.Pair.{Pair}
use Rattle.sfv_text.specs.declared.value.BareItem.{BareItem}
use Rattle.sfv_text.specs.declared.value.Item.{Item}
use Rattle.sfv_text.specs.declared.value.InnerList.{InnerList}
use Rattle.component_ids.specs.declared.fault.BadReason.{BadReason}
use Rattle.component_ids.specs.declared.fault.IdFault.{IdFault}
use Rattle.component_ids.specs.declared.fault.IdFault.TheVariants.{Memory, TooMany, BadComponent, Repeated, BadParameter}
use Rattle.component_ids.specs.declared.id.ComponentId.{ComponentId}
use Rattle.component_ids.specs.declared.params.SigParams.{SigParams}
use Rattle.component_ids.specs.Identifiers.{item_of, is_identifier, id_of, AreDistinct}
use Rattle.component_ids.specs.Reasons.{reason_of}
use Rattle.component_ids.specs.SignatureParams.{is_typed, list_of, IsSigParams, IsParamsOf}
use Rattle.byte_grammar.specs.tools.Determined.{AreDetermined}
use Rattle.byte_grammar.proofs.CauseLaws.{first_is_one}
use Rattle.component_ids.specs.declared.params.TheConstants.{MAX_COMPONENTS}
use Rattle.component_ids.specs.Causes.{IsFirstBadComponent, IsFirstIllTyped, IsCause, id_order, IsIdFault}
use Rattle.component_ids.specs.tools.Reads.{AreIdentifiers, IsListFault, ExplainsParams}
use Rattle.byte_grammar.proofs.Indices.{some_and, some_and_parts, find_none, all_at, slice_get_take}
use Rattle.component_ids.proofs.RepeatedLaws.{not_repeated, first_repeated_once}

-- ---- identifiers and their items

pub ids_back : (ids : List ComponentId) (items : List Item) → map item_of ids ≡ items → map id_of items ≡ ids
ids_back ids items is = ap (map id_of) (sym is) ∙ same ids where
  same : (ids : List ComponentId) → map id_of (map item_of ids) ≡ ids
  same [] = refl
  same (id ∷ ids) = ap (λ (rest : List ComponentId). id ∷ rest) (same ids)

-- what was read, as signature parameters of the list
pub are_params : (list : InnerList) (params : SigParams) → map item_of params.ids ≡ list.items → params.params ≡ list.params
    → AreIdentifiers list.items → AreDistinct params.ids → list_all is_typed list.params ≡ true → ExplainsParams list (Ok params)
are_params list params items_are params_are identifiers distinct typed =
    let count : length params.ids ≡ length list.items = sym (length-map params.ids item_of) ∙ ap length items_are in
    let each : list_all (λ (id : ComponentId). is_identifier (item_of id)) params.ids ≡ true =
    sym (list_all-map is_identifier item_of params.ids) ∙ (ap (list_all is_identifier) items_are ∙ identifiers.each) in
    let is : IsSigParams params = record {
      few = rw count identifiers.few;
      each = each;
      distinct = distinct;
      typed = rw params_are typed;
    } in
    let same : list_of params ≡ list = λ i. record { items = items_are i; params = params_are i } in
    (is, same)

-- what holds of a list that is signature parameters
pub record Facts (list : InnerList) : Type 0 where
  pub identifiers : AreIdentifiers list.items
  pub distinct : AreDistinct (map id_of list.items)
  pub typed : list_all is_typed list.params ≡ true

pub facts : (list : InnerList) (params : SigParams) → ExplainsParams list (Ok params) → Facts list
facts list params x =
    let items_are : map item_of params.ids ≡ list.items = ap (λ (l : InnerList). l.items) x.1 in
    let params_are : params.params ≡ list.params = ap (λ (l : InnerList). l.params) x.1 in
    let count : length params.ids ≡ length list.items = sym (length-map params.ids item_of) ∙ ap length items_are in
    record {
      identifiers = record {
        few = rw (← count) x.0.few;
        each = ap (list_all is_identifier) (sym items_are) ∙ (list_all-map is_identifier item_of params.ids ∙ x.0.each);
      };
      distinct = rw (ids_back params.ids list.items items_are) x.0.distinct;
      typed = rw (← params_are) x.0.typed;
    }

-- ---- the first item that is no identifier

pub not_bad : (items : List Item) (i : ℕ) (r : BadReason) → list_all is_identifier items ≡ true → IsFirstBadComponent items i r → ⊥
not_bad items i r all first =
    let here = some_and_parts (λ (item : Item). reason_of item ≡ Some r) (slice_get items i) first.there in
    let isnt : is_identifier here.0 ≡ false = rw here.2 refl in false≢true (sym isnt ∙ all_at is_identifier items i here.0 all here.1)

not_before : (items : List Item) (i j : ℕ) (r : BadReason) → i < j → list_all is_identifier (take j items) ≡ true → IsFirstBadComponent items i r → ⊥
not_before items i j r lt all first =
    let here = some_and_parts (λ (item : Item). reason_of item ≡ Some r) (slice_get items i) first.there in
    let isnt : is_identifier here.0 ≡ false = rw here.2 refl in false≢true (sym isnt ∙ all_at is_identifier (take j items) i here.0 all (slice_get_take items j i lt ∙ here.1))

pub bad_once : (items : List Item) (i j : ℕ) (r s : BadReason) → IsFirstBadComponent items i r → IsFirstBadComponent items j s → (i ≡ j) × (r ≡ s)
bad_once items i j r s first second = elim (cases_order i j) [
  | inl same ↦
      let one = some_and_parts (λ (item : Item). reason_of item ≡ Some r) (slice_get items i) first.there in
      let two = some_and_parts (λ (item : Item). reason_of item ≡ Some s) (slice_get items j) second.there in
      let item : one.0 ≡ two.0 = cc (ap (slice_get items) same, one.1, two.1) in
      (same, cc (ap reason_of item, one.2, two.2))
  | inr apart ↦ elim apart [
    | inl less ↦ absurd (not_before items i j r less second.before first)
    | inr more ↦ absurd (not_before items j i s more first.before second)
  ]
]

-- ---- the first parameter of a wrong type

pub not_ill_typed : (params : List (Pair BareItem)) (key : List ℕ) → list_all is_typed params ≡ true → IsFirstIllTyped params key → ⊥
not_ill_typed params key all first =
    let here = some_and_parts (λ (p : Pair BareItem). p.key ≡ key) (find (λ (p : Pair BareItem). not (is_typed p)) params) first in
    let none = find_none is_typed params all in
    absurd (cc (none, here.1))

-- a parameter that is found is the first of a wrong type
pub ill_typed_is : (params : List (Pair BareItem)) (param : Pair BareItem) (key : List ℕ) → Some param ≡ find (λ (p : Pair BareItem). not (is_typed p)) params → key ≡ param.key
    → IsFirstIllTyped params key
ill_typed_is params param key found is =
    some_and (λ (p : Pair BareItem). p.key ≡ key) (find (λ (p : Pair BareItem). not (is_typed p)) params) param (sym found) (sym is)

pub ill_typed_once : (params : List (Pair BareItem)) (key other : List ℕ) → IsFirstIllTyped params key → IsFirstIllTyped params other → key ≡ other
ill_typed_once params key other first second =
    let one = some_and_parts (λ (p : Pair BareItem). p.key ≡ key) (find (λ (p : Pair BareItem). not (is_typed p)) params) first in
    let two = some_and_parts (λ (p : Pair BareItem). p.key ≡ other) (find (λ (p : Pair BareItem). not (is_typed p)) params) second in
    let param : one.0 ≡ two.0 = cc (one.1, two.1) in
    sym one.2 ∙ (ap (λ (p : Pair BareItem). p.key) param ∙ two.2)

-- ---- one cause each

-- each cause determines its index, its reason or its key
determined : (list : InnerList) → AreDetermined id_order (IsCause list)
determined list TooMany TooMany e h k = refl
determined list (BadComponent i r) (BadComponent j s) e h k = let once = bad_once list.items i j r s h k in cc (once.0, once.1)
determined list (Repeated i) (Repeated j) e h k = cc (first_repeated_once (map id_of list.items) i j h k)
determined list (BadParameter key) (BadParameter other) e h k = cc (ill_typed_once list.params key other h k)
determined list Memory other e h k = absurd h
determined list fault Memory e h k = absurd k
determined list fault other e h k = absurd (omega arith)

pub one_fault : (list : InnerList) (fault other : IdFault) → IsIdFault list fault → IsIdFault list other → fault ≡ other
one_fault list fault other first second = first_is_one id_order (IsCause list) (determined list) fault other first second

-- no cause holds of signature parameters
pub no_cause : (list : InnerList) (params : SigParams) → IsParamsOf list params → (fault : IdFault) → ¬ IsCause list fault
no_cause list params is TooMany many = let few = (facts list params is).identifiers.few in absurd (omega arith)
no_cause list params is (BadComponent i r) bad = not_bad list.items i r (facts list params is).identifiers.each bad
no_cause list params is (Repeated i) repeated = not_repeated (map id_of list.items) i (facts list params is).distinct repeated
no_cause list params is (BadParameter key) typed = not_ill_typed list.params key (facts list params is).typed typed
no_cause list params is Memory none = none

pub not_both : (list : InnerList) (params : SigParams) (fault : IdFault) → IsParamsOf list params → ¬ IsIdFault list fault
not_both list params fault is first = no_cause list params is fault first.holds

-- signature parameters with one list are the same
pub one_value : (list : InnerList) (a b : SigParams) → IsParamsOf list a → IsParamsOf list b → a ≡ b
one_value list a b a_is b_is =
    let ids : a.ids ≡ b.ids = sym (ids_back a.ids list.items (ap (λ (l : InnerList). l.items) a_is.1)) ∙ ids_back b.ids list.items (ap (λ (l : InnerList). l.items) b_is.1) in
    let params : a.params ≡ b.params = ap (λ (l : InnerList). l.params) (a_is.1 ∙ sym b_is.1) in
    λ i. record { ids = ids i; params = params i }

-- ---- what comes before a cause

before_bad : (list : InnerList) → length list.items ≤ MAX_COMPONENTS → (other : IdFault) → id_order other < 1 → ¬ IsCause list other
before_bad list few TooMany lt many = absurd (omega arith)
before_bad list few (BadComponent i r) lt h = absurd (omega arith)
before_bad list few (Repeated i) lt h = absurd (omega arith)
before_bad list few (BadParameter key) lt h = absurd (omega arith)
before_bad list few Memory lt h = absurd (omega arith)

before_repeated : (list : InnerList) → AreIdentifiers list.items → (other : IdFault) → id_order other < 2 → ¬ IsCause list other
before_repeated list are TooMany lt many = let few = are.few in absurd (omega arith)
before_repeated list are (BadComponent i r) lt bad = not_bad list.items i r are.each bad
before_repeated list are (Repeated i) lt h = absurd (omega arith)
before_repeated list are (BadParameter key) lt h = absurd (omega arith)
before_repeated list are Memory lt h = absurd (omega arith)

before_parameter : (list : InnerList) → AreIdentifiers list.items → AreDistinct (map id_of list.items) → (other : IdFault) → id_order other < 3 → ¬ IsCause list other
before_parameter list are distinct TooMany lt many = let few = are.few in absurd (omega arith)
before_parameter list are distinct (BadComponent i r) lt bad = not_bad list.items i r are.each bad
before_parameter list are distinct (Repeated i) lt repeated = not_repeated (map id_of list.items) i distinct repeated
before_parameter list are distinct (BadParameter key) lt h = absurd (omega arith)
before_parameter list are distinct Memory lt h = absurd (omega arith)

-- what the reader refuses for is the first cause that holds
pub first_of : (list : InnerList) (fault : IdFault) → ¬ (fault ≡ Memory) → IsListFault list fault → IsIdFault list fault
first_of list TooMany known h = record { holds = h; none_before = λ other lt. absurd (omega arith) }
first_of list (BadComponent i r) known h = record { holds = h.1; none_before = before_bad list h.0 }
first_of list (Repeated i) known h = record { holds = h.1; none_before = before_repeated list h.0 }
first_of list (BadParameter key) known h = record { holds = h.2; none_before = before_parameter list h.0 h.1 }
first_of list Memory known h = absurd (known refl)
