-- The causes for which a message isn't signed, one after the other.
use Rattle.std.proofs.Common.{◌≡◌, ◌<◌, lit<, ℕ, zero, suc, Bool, true, false, ◌||◌, [], ◌∷◌, take, Option, Some, None, Err, List, refl, sym, subst, ◌∙◌, arith, inl, inr}
use Rattle.std.specs.Prelude.{MatchOption}
use Rattle.std.specs.List.{list_any, slice_get}
use Rattle.std.proofs.lemmas.Bool.{cases_order, false≢true}
use Rattle.component_ids.specs.declared.id.ComponentId.{ComponentId}
use Rattle.byte_grammar.proofs.Indices.{some_and_parts, slice_get_take}
use Rattle.component_values.specs.Context.{MessageContext}
use Rattle.derived_values.specs.declared.lack.Lack.{Lack}
use Rattle.signatures.specs.Signatures.{input_name, signature_name}
use Rattle.signing.specs.SignCauses.{covers_itself, IsMalformed, IsFirstSelfCover, IsSignCause, IsSignFault, sign_order}
use Rattle.signing.specs.declared.fault.SignFault.{SignFault}
use Rattle.signing.specs.declared.fault.SignFault.TheVariants.{Memory, InputMalformed, SignatureMalformed, LabelThere, SelfCover, TooLong, Lacks}
use Rattle.signing.specs.declared.place.LabelPlace.{LabelPlace}
use Rattle.signing.specs.declared.place.LabelPlace.TheVariants as place
use Rattle.signing.specs.declared.spec.SignSpec.{SignSpec}
use Rattle.signing.specs.tools.Fields.{IsPlaceIn, fault_of_places}
use Rattle.signing.specs.tools.Judged.{ExplainsSign, NoneBelow}

or_parts : (a b : Bool) → (a || b) ≡ false → (a ≡ false) × (b ≡ false)
or_parts true b h = absurd cc
or_parts false b h = (refl, h)

-- a test that no element passes fails at each index
none_at : {X : Type 0} (p : X → Bool) (xs : List X) (i : ℕ) (x : X) → list_any p xs ≡ false → slice_get xs i ≡ Some x → p x ≡ false
none_at p [] i x none there = absurd cc
none_at p (y ∷ ys) zero x none there = let same : y ≡ x = cc in rw (← same) (or_parts (p y) (list_any p ys) none).0
none_at p (y ∷ ys) (suc i) x none there = none_at p ys i x (or_parts (p y) (list_any p ys) none).1 there

-- before the one of two such indices is nothing that passes, so they are one
pub one_cover : (label : List ℕ) (ids : List ComponentId) (i j : ℕ) → IsFirstSelfCover label ids i → IsFirstSelfCover label ids j → i ≡ j
one_cover label ids i j a b = elim (cases_order i j) [
  | inl same ↦ same
  | inr apart ↦ elim apart [
    | inl less ↦ absurd (not_before label ids i j less a b)
    | inr more ↦ absurd (not_before label ids j i more b a)
  ]
]
  where
    not_before : (label : List ℕ) (ids : List ComponentId) (i j : ℕ) → i < j → IsFirstSelfCover label ids i → IsFirstSelfCover label ids j → ⊥
    not_before label ids i j lt a b =
        let here = some_and_parts (λ (id : ComponentId). covers_itself label id ≡ true) (slice_get ids i) a.there in
        false≢true (sym (none_at (covers_itself label) (take j ids) i here.0 b.before (slice_get_take ids j i lt ∙ here.1)) ∙ here.2)

module _ (context : MessageContext) (spec : SignSpec) where
  -- which causes don't hold, cause by cause
  below : (n : ℕ) → (2 < n → ¬ IsMalformed context.message input_name) → (3 < n → ¬ IsMalformed context.message signature_name)
      → (4 < n → ¬ IsSignCause context spec LabelThere) → (5 < n → (index : ℕ) → ¬ IsFirstSelfCover spec.label spec.params.ids index)
      → (6 < n → (limit : ℕ) → ¬ IsSignCause context spec (TooLong limit)) → (7 < n → (index : ℕ) (lack : Lack) → ¬ IsSignCause context spec (Lacks index lack))
      → NoneBelow context spec n
  below n input signature label cover long lacks InputMalformed lt = input lt
  below n input signature label cover long lacks SignatureMalformed lt = signature lt
  below n input signature label cover long lacks LabelThere lt = label lt
  below n input signature label cover long lacks (SelfCover index) lt = cover lt index
  below n input signature label cover long lacks (TooLong limit) lt = long lt limit
  below n input signature label cover long lacks (Lacks index lack) lt = lacks lt index lack
  below n input signature label cover long lacks Memory lt = λ none. none

  pub first : (fault : SignFault) → NoneBelow context spec (sign_order fault) → IsSignCause context spec fault → IsSignFault context spec fault
  first fault none holds = record { holds = holds; none_before = none }

  -- ---- the fields

  none_below_2 : NoneBelow context spec 2
  none_below_2 = below 2 (λ lt. absurd (omega (arith, lt))) (λ lt. absurd (omega (arith, lt))) (λ lt. absurd (omega (arith, lt))) (λ lt. absurd (omega (arith, lt))) (λ lt. absurd (omega (arith, lt))) (λ lt. absurd (omega (arith, lt)))

  none_below_3 : ¬ IsMalformed context.message input_name → NoneBelow context spec 3
  none_below_3 input = below 3 (λ _. input) (λ lt. absurd (omega (arith, lt))) (λ lt. absurd (omega (arith, lt))) (λ lt. absurd (omega (arith, lt))) (λ lt. absurd (omega (arith, lt))) (λ lt. absurd (omega (arith, lt)))

  none_below_4 : ¬ IsMalformed context.message input_name → ¬ IsMalformed context.message signature_name → NoneBelow context spec 4
  none_below_4 input signature = below 4 (λ _. input) (λ _. signature) (λ lt. absurd (omega (arith, lt))) (λ lt. absurd (omega (arith, lt))) (λ lt. absurd (omega (arith, lt))) (λ lt. absurd (omega (arith, lt)))

  none_below_5 : ¬ IsMalformed context.message input_name → ¬ IsMalformed context.message signature_name → ¬ IsSignCause context spec LabelThere → NoneBelow context spec 5
  none_below_5 input signature label = below 5 (λ _. input) (λ _. signature) (λ _. label) (λ lt. absurd (omega (arith, lt))) (λ lt. absurd (omega (arith, lt))) (λ lt. absurd (omega (arith, lt)))

  pub none_below_6 : NoneBelow context spec 5 → ((index : ℕ) → ¬ IsFirstSelfCover spec.label spec.params.ids index) → NoneBelow context spec 6
  none_below_6 none cover =
      below 6 (λ _. none InputMalformed (lit< tt)) (λ _. none SignatureMalformed (lit< tt)) (λ _. none LabelThere (lit< tt)) (λ _. cover) (λ lt. absurd (omega (arith, lt))) (λ lt. absurd (omega (arith, lt)))

  pub none_below_7 : NoneBelow context spec 6 → ((limit : ℕ) → ¬ IsSignCause context spec (TooLong limit)) → NoneBelow context spec 7
  none_below_7 none long =
      below 7 (λ _. none InputMalformed (lit< tt)) (λ _. none SignatureMalformed (lit< tt)) (λ _. none LabelThere (lit< tt)) (λ _ index. none (SelfCover index) (lit< tt)) (λ _. long) (λ lt. absurd (omega (arith, lt)))

  pub none_below_8 : NoneBelow context spec 7 → ((index : ℕ) (lack : Lack) → ¬ IsSignCause context spec (Lacks index lack)) → NoneBelow context spec 8
  none_below_8 none lacks =
      below 8 (λ _. none InputMalformed (lit< tt)) (λ _. none SignatureMalformed (lit< tt)) (λ _. none LabelThere (lit< tt)) (λ _ index. none (SelfCover index) (lit< tt)) (λ _ limit. none (TooLong limit) (lit< tt))
      (λ _. lacks)

  -- what the two fields say of the label
  pub judged_places : (input signature : LabelPlace) → IsPlaceIn context.message input_name spec.label input → IsPlaceIn context.message signature_name spec.label signature
      → MatchOption (fault_of_places input signature) (NoneBelow context spec 5) (λ fault. IsSignFault context spec fault)
  judged_places place.Malformed signature a b = first InputMalformed none_below_2 a
  judged_places place.Taken place.Malformed a b = first SignatureMalformed (none_below_3 a.1) b
  judged_places place.Free place.Malformed a b = first SignatureMalformed (none_below_3 a.1) b
  judged_places place.Taken place.Taken a b = first LabelThere (none_below_4 a.1 b.1) (inl a.0)
  judged_places place.Taken place.Free a b = first LabelThere (none_below_4 a.1 b.1) (inl a.0)
  judged_places place.Free place.Taken a b = first LabelThere (none_below_4 a.1 b.1) (inr b.0)
  judged_places place.Free place.Free a b = none_below_5 a.1 b.1 label where
    label : ¬ IsSignCause context spec LabelThere
    label (inl there) = a.0 there
    label (inr there) = b.0 there

  -- a first fault that is answered
  pub fault_answered : {T : Type 0} (Holds : T → Type 0) (fault : SignFault) → IsSignFault context spec fault → ExplainsSign context spec Holds (Err fault)
  fault_answered Holds InputMalformed is = is
  fault_answered Holds SignatureMalformed is = is
  fault_answered Holds LabelThere is = is
  fault_answered Holds (SelfCover index) is = is
  fault_answered Holds (TooLong limit) is = is
  fault_answered Holds (Lacks index lack) is = is
  fault_answered Holds Memory is = tt

  pub places_fault : {T : Type 0} (Holds : T → Type 0) (input signature : LabelPlace) → IsPlaceIn context.message input_name spec.label input
      → IsPlaceIn context.message signature_name spec.label signature → (fault : SignFault) → fault_of_places input signature ≡ Some fault → ExplainsSign context spec Holds (Err fault)
  places_fault Holds input signature a b fault is =
      fault_answered Holds fault (subst (λ (o : Option SignFault). MatchOption o (NoneBelow context spec 5) (λ f. IsSignFault context spec f)) is (judged_places input signature a b))

  pub places_none : (input signature : LabelPlace) → IsPlaceIn context.message input_name spec.label input → IsPlaceIn context.message signature_name spec.label signature
      → fault_of_places input signature ≡ None → NoneBelow context spec 5
  places_none input signature a b is =
      subst (λ (o : Option SignFault). MatchOption o (NoneBelow context spec 5) (λ f. IsSignFault context spec f)) is (judged_places input signature a b)

  -- ---- components that cover the new signature

  pub self_cover : {T : Type 0} (Holds : T → Type 0) (index : ℕ) → NoneBelow context spec 5 → IsFirstSelfCover spec.label spec.params.ids index → ExplainsSign context spec Holds (Err (SelfCover index))
  self_cover Holds index none is = first (SelfCover index) none is

  pub no_self_cover : NoneBelow context spec 5 → list_any (covers_itself spec.label) spec.params.ids ≡ false → NoneBelow context spec 6
  no_self_cover none all = none_below_6 none (λ index is.
      let here = some_and_parts (λ (id : ComponentId). covers_itself spec.label id ≡ true) (slice_get spec.params.ids index) is.there in
      false≢true (sym (none_at (covers_itself spec.label) spec.params.ids index here.0 all here.1) ∙ here.2))
