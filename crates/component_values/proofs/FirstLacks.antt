-- The first component that lacks a value.
use Rattle.std.proofs.Common.{◌≡◌, ◌⊎◌, ◌<◌, ℕ, zero, suc, List, [], ◌∷◌, ◌++◌, length, map, take, get_or, ◌+◌, Some, Result, Ok, Err, refl, sym, ap, ◌∙◌, inl, inr, arith}
use Rattle.std.specs.List.{slice_get}
use Rattle.std.proofs.lemmas.Bool.{cases_order}
use Rattle.std.proofs.lemmas.Grind.{take_at_read}
use Rattle.std.proofs.lemmas.List.{map-append, length-map, length-take}
use Rattle.std.specs.Prelude.{IfErr}
use Rattle.std.proofs.lemmas.Option.{slice_get-get_or, slice_get_within}
use Rattle.byte_grammar.specs.Causes.{AnswersWhere}
use Rattle.byte_grammar.proofs.Indices.{some_and, some_and_parts, slice_get_take}
use Rattle.component_ids.specs.declared.id.ComponentId.{ComponentId}
use Rattle.derived_values.specs.declared.lack.Lack.{Lack}
use Rattle.component_ids.specs.declared.params.SigParams.{SigParams}
use Rattle.derived_values.specs.declared.lack.NoValue.{NoValue}
use Rattle.derived_values.specs.declared.lack.NoValue.TheVariants.{Memory, Lacks as NoValueLacks}
use Rattle.component_values.specs.declared.fault.ValueFault.{ValueFault}
use Rattle.component_values.specs.declared.fault.ValueFault.TheVariants as fault
use Rattle.component_values.specs.declared.plan.Plan.{Plan}
use Rattle.component_values.specs.declared.prepared.Prepared.{Prepared}
use Rattle.component_values.specs.Context.{MessageContext}
use Rattle.component_values.specs.Values.{ComesTo, Has, Lacks, HaveValues, IsFirstLack}
use Rattle.component_values.specs.Faults.{HasIndexBelow}
use Rattle.component_values.specs.Laws.{HaveOrLack, HaveOneList}
use Rattle.component_values.specs.tools.Rows.{PlansRow, lack_fault_at, planned_text}
use Rattle.component_values.specs.tools.Answered.{ExplainsPrepared, IsFaultOf}
use Rattle.component_values.proofs.RowLaws.{has_or_lacks, has_one_value, lacks_in_one_way, lacks_no_value}

pub have_length : (context : MessageContext) (ids : List ComponentId) (values : List (List ℕ)) → HaveValues context ids values → length values ≡ length ids
have_length context [] [] have = refl
have_length context (id ∷ ids) (value ∷ values) have = ap suc (have_length context ids values have.1)
have_length context [] (value ∷ values) have = absurd have
have_length context (id ∷ ids) [] have = absurd have

pub have_more : (context : MessageContext) (ids : List ComponentId) (values : List (List ℕ)) (id : ComponentId) (value : List ℕ) → HaveValues context ids values → Has context id value
    → HaveValues context (ids ++ id ∷ []) (values ++ value ∷ [])
have_more context [] [] id value have one = (one, tt)
have_more context (first ∷ ids) (v ∷ values) id value have one = (have.0, have_more context ids values id value have.1 one)
have_more context [] (v ∷ values) id value have one = absurd have
have_more context (first ∷ ids) [] id value have one = absurd have

-- each of them has a value
pub have_at : (context : MessageContext) (ids : List ComponentId) (values : List (List ℕ)) (i : ℕ) (id : ComponentId) → HaveValues context ids values → slice_get ids i ≡ Some id
    → (value : List ℕ) × Has context id value
have_at context [] [] i id have there = absurd cc
have_at context (first ∷ ids) (v ∷ values) zero id have there = let same : first ≡ id = cc in (v, rw (sym same) have.0)
have_at context (first ∷ ids) (v ∷ values) (suc i) id have there = have_at context ids values i id have.1 there
have_at context [] (v ∷ values) i id have there = absurd have
have_at context (first ∷ ids) [] i id have there = absurd have

-- where all have values, none is the first that lacks one
pub none_lacks : (context : MessageContext) (ids : List ComponentId) (values : List (List ℕ)) (index : ℕ) (lack : Lack) → HaveValues context ids values
    → ¬ IsFirstLack context ids index lack
none_lacks context ids values index lack have first =
    let there = some_and_parts (λ id. Lacks context id lack) (slice_get ids index) first.there in
    let has = have_at context ids values index there.0 have there.1 in
    lacks_no_value context there.0 has.0 lack has.1 there.2

earlier : (context : MessageContext) (ids : List ComponentId) (i j : ℕ) (lack other : Lack) → i < j → IsFirstLack context ids i lack
    → ¬ IsFirstLack context ids j other
earlier context ids i j lack other less first second =
    let there = some_and_parts (λ id. Lacks context id lack) (slice_get ids i) first.there in
    let has = have_at context (take j ids) second.values i there.0 second.before (slice_get_take ids j i less ∙ there.1) in
    lacks_no_value context there.0 has.0 lack has.1 there.2

pub first_lack_is_one : (context : MessageContext) (ids : List ComponentId) (i j : ℕ) (lack other : Lack)
    → IsFirstLack context ids i lack → IsFirstLack context ids j other → (i ≡ j) × (lack ≡ other)
first_lack_is_one context ids i j lack other first second = elim (cases_order i j) [
  | inl same ↦
      let a = some_and_parts (λ id. Lacks context id lack) (slice_get ids i) first.there in
      let b = some_and_parts (λ id. Lacks context id other) (slice_get ids j) second.there in
      let alike : a.0 ≡ b.0 = let e : Some a.0 ≡ Some b.0 = sym a.1 ∙ ap (slice_get ids) same ∙ b.1 in cc in
      (same, lacks_in_one_way context b.0 lack other (rw (sym alike) a.2) b.2)
  | inr apart ↦ elim apart [
    | inl less ↦ absurd (earlier context ids i j lack other less first second)
    | inr more ↦ absurd (earlier context ids j i other lack more second first)
  ]
]

-- ---- the laws

pub have_one_list : HaveOneList
have_one_list context [] [] [] a b = refl
have_one_list context (id ∷ ids) (v ∷ values) (w ∷ others) a b =
    let first : v ≡ w = has_one_value context id v w a.0 b.0 in
    let rest : values ≡ others = have_one_list context ids values others a.1 b.1 in λ i. first i ∷ rest i
have_one_list context [] (v ∷ values) others a b = absurd a
have_one_list context [] [] (w ∷ others) a b = absurd b
have_one_list context (id ∷ ids) [] others a b = absurd a
have_one_list context (id ∷ ids) (v ∷ values) [] a b = absurd b

pub have_or_lack : HaveOrLack
have_or_lack context [] = inl ([], tt)
have_or_lack context (id ∷ ids) = by_first (has_or_lacks context id) (have_or_lack context ids)
  where
    by_first : ((value : List ℕ) × Has context id value) ⊎ ((lack : Lack) × Lacks context id lack)
        → ((values : List (List ℕ)) × HaveValues context ids values) ⊎ ((index : ℕ) × (lack : Lack) × IsFirstLack context ids index lack)
        → ((values : List (List ℕ)) × HaveValues context (id ∷ ids) values) ⊎ ((index : ℕ) × (lack : Lack) × IsFirstLack context (id ∷ ids) index lack)
    by_first (inl has) (inl all) = inl (has.0 ∷ all.0, (has.1, all.1))
    by_first (inl has) (inr later) =
        inr (suc later.0, later.1, record { values = has.0 ∷ later.2.values; before = (has.1, later.2.before); there = later.2.there })
    by_first (inr lacks) rest = inr (0, lacks.0, record { values = []; before = tt; there = lacks.1 })

-- ---- what is kept

pub values_more : (context : MessageContext) (ids : List ComponentId) (n : ℕ) (id : ComponentId) (values : List Plan) (value : Plan) → n < length ids → id ≡ get_or ids n id
    → HaveValues context (take n ids) (map planned_text values) → Has context id (planned_text value) → HaveValues context (take (n + 1) ids) (map planned_text (values ++ value ∷ []))
values_more context ids n id values value lt is have one =
    let more : take (n + 1) ids ≡ take n ids ++ id ∷ [] = (take_at_read ids n id lt).1 ∙ ap (λ (d : ComponentId). take n ids ++ d ∷ []) (sym is) in
    rw (more, map-append planned_text values (value ∷ [])) (have_more context (take n ids) (map planned_text values) id (planned_text value) have one)

pub first_lack_at : (context : MessageContext) (ids : List ComponentId) (n count : ℕ) (id : ComponentId) (lack : Lack) (values : List Plan) → n < length ids → id ≡ get_or ids n id
    → count ≡ length values → HaveValues context (take n ids) (map planned_text values) → Lacks context id lack → IsFirstLack context ids count lack
first_lack_at context ids n count id lack values lt is counted have lacks =
    let same : count ≡ n =
    counted ∙ sym (length-map values planned_text) ∙ have_length context (take n ids) (map planned_text values) have ∙ omega (arith, length-take {A = ComponentId}) in
    rw same (record {
      values = map planned_text values;
      before = have;
      there = some_and (λ id. Lacks context id lack) (slice_get ids n) id (slice_get-get_or ids n id lt ∙ ap Some (sym is)) lacks;
    })

pub first_fault_at : (context : MessageContext) (ids : List ComponentId) (n count : ℕ) (id : ComponentId) (why : NoValue) (values : List Plan) → n < length ids → id ≡ get_or ids n id
    → count ≡ length values → HaveValues context (take n ids) (map planned_text values) → PlansRow (ComesTo context id) (Err why) → IsFaultOf context ids (lack_fault_at count why)
first_fault_at context ids n count id Memory values lt is counted have row = tt
first_fault_at context ids n count id (NoValueLacks lack) values lt is counted have row = first_lack_at context ids n count id lack values lt is counted have row

pub kept_count : (context : MessageContext) (ids : List ComponentId) (values : List Plan) → HaveValues context ids (map planned_text values) → length values ≡ length ids
kept_count context ids values have = sym (length-map values planned_text) ∙ have_length context ids (map planned_text values) have

-- the first lack is answered, and no other
pub lacks_are : (context : MessageContext) (params : SigParams) (result : Result Prepared ValueFault) → ExplainsPrepared context params result → (index : ℕ) (lack : Lack)
    → AnswersWhere fault.Memory result (fault.Lacks index lack) (IsFirstLack context params.ids index lack)
lacks_are context params (Ok prepared) x index lack = record {
  only = λ e. absurd cc;
  there = λ first. absurd (none_lacks context params.ids prepared.values index lack x.1 first);
}
lacks_are context params (Err fault.Memory) x index lack = record { only = λ e. absurd cc; there = λ first. inr refl }
lacks_are context params (Err (fault.Lacks at other)) x index lack = record {
  only = λ e. let i : at ≡ index = cc in let l : other ≡ lack = cc in rw (sym i, sym l) x;
  there = λ first.
      let same = first_lack_is_one context params.ids at index other lack x first in
      inl (rw (same.0, same.1) refl);
}

-- a component that lacks a value is one of them
pub index_below : (context : MessageContext) (params : SigParams) (result : Result Prepared ValueFault) → ExplainsPrepared context params result
    → IfErr result (HasIndexBelow (length params.ids))
index_below context params (Ok prepared) x = tt
index_below context params (Err fault.Memory) x = tt
index_below context params (Err (fault.Lacks index lack)) x =
    let there = some_and_parts (λ id. Lacks context id lack) (slice_get params.ids index) x.there in
    slice_get_within params.ids index there.0 there.1
