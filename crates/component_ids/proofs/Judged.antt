-- Each Inner List is signature parameters, or has a fault.
use Rattle.std.proofs.Common.{◌≡◌, ◌⊎◌, ◌<◌, ◌≤◌, ◌+◌, ℕ, zero, suc, Bool, true, false, Option, Some, None, List, [], ◌∷◌, length, map, take, get_or, refl, sym, subst, arith, inl, inr}
use Rattle.std.specs.Prelude.{is_none, unwrap_or}
use Rattle.std.specs.List.{list_all, list_any, slice_get}
use Rattle.std.proofs.lemmas.Bool.{cases_Bool, cases_lt, false≢true, and_parts}
use Rattle.std.proofs.lemmas.List.{get_or_default, take_all}
use Rattle.sfv_text.specs.Parts.{string_in}
use Rattle.sfv_text.specs.declared.pair.Pair.{Pair}
use Rattle.sfv_text.specs.declared.value.BareItem.{BareItem}
use Rattle.sfv_text.specs.declared.value.BareItem.TheVariants.{Str}
use Rattle.sfv_text.specs.declared.value.Item.{Item}
use Rattle.sfv_text.specs.declared.value.InnerList.{InnerList}
use Rattle.component_ids.specs.declared.fault.BadReason.{BadReason}
use Rattle.component_ids.specs.declared.fault.IdFault.{IdFault}
use Rattle.component_ids.specs.declared.fault.IdFault.TheVariants.{TooMany, BadComponent, Repeated, BadParameter}
use Rattle.component_ids.specs.declared.id.ComponentId.{ComponentId}
use Rattle.component_ids.specs.declared.params.SigParams.{SigParams}
use Rattle.component_ids.specs.declared.params.TheConstants.{MAX_COMPONENTS}
use Rattle.component_ids.specs.Reasons.{reason_of, reason_against}
use Rattle.component_ids.specs.Identifiers.{item_of, id_of, is_identifier, AreDistinct}
use Rattle.component_ids.specs.SignatureParams.{is_typed, IsParamsOf}
use Rattle.component_ids.specs.Causes.{IsFirstBadComponent, IsFirstRepeated, IsFirstIllTyped, IsIdFault}
use Rattle.component_ids.specs.tools.Reads.{AreIdentifiers}
use Rattle.component_ids.specs.Sameness.{is_same}
use Rattle.byte_grammar.proofs.Indices.{some_and, find_failed}
use Rattle.component_ids.proofs.RepeatedLaws.{distinct_more, first_repeated_is}
use Rattle.component_ids.proofs.FaultLaws.{are_params, first_of}

-- each element passes, or one is the first that fails
first_failed : {X : Type 0} (p : X → Bool) (xs : List X)
    → (list_all p xs ≡ true) ⊎ ((i : ℕ) × (x : X) × (list_all p (take i xs) ≡ true) × (slice_get xs i ≡ Some x) × (p x ≡ false))
first_failed p [] = inl refl
first_failed p (x ∷ xs) = elim (cases_Bool (p x)) [
  | inr fails ↦ inr (zero, x, refl, refl, fails)
  | inl passes ↦ elim (first_failed p xs) [
    | inl all ↦ inl (rw passes all)
    | inr at ↦ inr (suc at.0, at.1, rw passes at.2, at.3, at.4)
  ]
]

some_of : {X : Type 0} (o : Option X) → is_none o ≡ false → (x : X) × (o ≡ Some x)
some_of (Some x) h = (x, refl)
some_of None h = absurd (false≢true (sym h))

identifiers_or_bad : (items : List Item) → (list_all is_identifier items ≡ true) ⊎ ((i : ℕ) × (r : BadReason) × IsFirstBadComponent items i r)
identifiers_or_bad items = elim (first_failed is_identifier items) [
  | inl all ↦ inl all
  | inr at ↦
      let why = some_of (reason_of at.1) at.4 in
      inr (at.0, why.0, record { before = at.2; there = some_and (λ (item : Item). reason_of item ≡ Some why.0) (slice_get items at.0) at.1 at.3 why.1 })
]

up_to : (x : ComponentId) (ids : List ComponentId) (n : ℕ) → n ≤ length ids → AreDistinct (take n ids) ⊎ ((i : ℕ) × IsFirstRepeated ids i)
up_to x ids zero le = inl (λ i j d lt more s. absurd (omega arith))
up_to x ids (suc n) le = elim (up_to x ids n (omega arith)) [
  | inr found ↦ inr found
  | inl distinct ↦
      let id = get_or ids n x in
      let lt : n < length ids = omega arith in
      let is : id ≡ get_or ids n id = get_or_default ids n x id lt in
      let next : n + 1 ≡ suc n = omega arith in
      elim (cases_Bool (list_any (λ (other : ComponentId). is_same other id) (take n ids))) [
        | inl any ↦ inr (n, first_repeated_is ids n id lt is any distinct)
        | inr none ↦ inl (subst (λ (k : ℕ). AreDistinct (take k ids)) next (distinct_more ids n id lt is none distinct))
      ]
]

distinct_or_repeated : (ids : List ComponentId) → AreDistinct ids ⊎ ((i : ℕ) × IsFirstRepeated ids i)
distinct_or_repeated [] = inl (λ i j d lt more s. absurd (omega arith))
distinct_or_repeated (x ∷ ids) = elim (up_to x (x ∷ ids) (length (x ∷ ids)) (omega arith)) [
  | inl distinct ↦ inl (subst (λ (all : List ComponentId). AreDistinct all) (take_all (length (x ∷ ids)) (x ∷ ids) (omega arith)) distinct)
  | inr found ↦ inr found
]

typed_or_not : (params : List (Pair BareItem)) → (list_all is_typed params ≡ true) ⊎ ((key : List ℕ) × IsFirstIllTyped params key)
typed_or_not params = elim (first_failed is_typed params) [
  | inl all ↦ inl all
  | inr at ↦ inr (at.1.key, some_and (λ (p : Pair BareItem). p.key ≡ at.1.key) _ at.1 (find_failed is_typed params at.0 at.1 at.2 at.3 at.4) refl)
]

-- ---- the signature parameters of a list

item_back : (bare : BareItem) (params : List (Pair BareItem)) → is_none (reason_against (string_in bare) params) ≡ true
    → item_of (record { name = unwrap_or (string_in bare) []; params = params }) ≡ record { bare = bare; params = params }
item_back (Str name) params h = refl
item_back bare params h = absurd (false≢true h)

items_back : (items : List Item) → list_all is_identifier items ≡ true → map item_of (map id_of items) ≡ items
items_back [] h = refl
items_back (item ∷ items) h =
    let both = and_parts (is_identifier item) (list_all is_identifier items) h in
    let first : item_of (id_of item) ≡ item = item_back item.bare item.params both.0 in
    let others = items_back items both.1 in
    λ i. first i ∷ others i

abbrev Answer : InnerList → Type 0
Answer list = ((params : SigParams) × IsParamsOf list params) ⊎ ((fault : IdFault) × IsIdFault list fault)

judge_params : (list : InnerList) → AreIdentifiers list.items → AreDistinct (map id_of list.items) → Answer list
judge_params list identifiers distinct = elim (typed_or_not list.params) [
  | inl typed ↦
      let params : SigParams = record { ids = map id_of list.items; params = list.params } in
      inl (params, are_params list params (items_back list.items identifiers.each) refl identifiers distinct typed)
  | inr at ↦ inr (BadParameter at.0, first_of list (BadParameter at.0) (λ e. absurd cc) (identifiers, distinct, at.1))
]

judge_ids : (list : InnerList) → AreIdentifiers list.items → Answer list
judge_ids list identifiers = elim (distinct_or_repeated (map id_of list.items)) [
  | inl distinct ↦ judge_params list identifiers distinct
  | inr at ↦ inr (Repeated at.0, first_of list (Repeated at.0) (λ e. absurd cc) (identifiers, at.1))
]

judge_items : (list : InnerList) → length list.items ≤ MAX_COMPONENTS → Answer list
judge_items list few = elim (identifiers_or_bad list.items) [
  | inl all ↦ judge_ids list (record { few = few; each = all })
  | inr at ↦ inr (BadComponent at.0 at.1, first_of list (BadComponent at.0 at.1) (λ e. absurd cc) (few, at.2))
]

pub has_answer : (list : InnerList) → Answer list
has_answer list = elim (cases_lt MAX_COMPONENTS (length list.items)) [
  | inl many ↦ inr (TooMany, first_of list TooMany (λ e. absurd cc) many)
  | inr few ↦ judge_items list (omega arith)
]
