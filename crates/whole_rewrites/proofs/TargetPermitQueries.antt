-- Whether two queries have the same of the parameters that are covered.
use Rattle.std.proofs.Common.{◌≡◌, ◌↔◌, ℕ, Bool, true, false, IsTrue, IsFalse, Option, Some, None, List, [], ◌∷◌, unwrap_or, refl, sym, ap, subst, ◌∙◌, inl, inr}
use Rattle.std.specs.List.{All, list_any}
use Rattle.std.proofs.lemmas.Bool.{cases_Bool, false≢true}
use Rattle.std.proofs.lemmas.List.Elements.{All-nil, All-cons, All-head, All-tail, All-weaker}
use Rattle.msg_body.specs.Messages.{Message}
use Rattle.component_ids.specs.declared.id.ComponentId.{ComponentId}
use Rattle.component_ids.specs.declared.params.SigParams.{SigParams}
use Rattle.derived_values.specs.Query.{matches}
use Rattle.derived_values.specs.Targets.{TargetParts, query_of}
use Rattle.derived_values.specs.Derived.{param_name}
use Rattle.whole_rewrites.specs.Conditions.{KeepsParamIn, query_param_names}
use Rattle.whole_rewrites.specs.Covered.{covers_one_of, is_own_of}
use Rattle.whole_rewrites.specs.Permitted.{HasSameMatches, HaveSameParam, KeepsParam, MayChangeQuery, whole_query_names}
use Rattle.whole_rewrites.specs.Targets.{OfTarget, query_in}
use Rattle.whole_rewrites.specs.tools.Requests.{HasQuery}
use Rattle.whole_rewrites.proofs.TargetPermitRequests.{of_target_or_not, of_the_target}
use Rattle.whole_rewrites.proofs.TargetPermitTests.{HoldsOrNot, all_or_not, false_or_not, implied_or_not, texts_or_not, true_or_not}

-- ---- one component

-- of a parameter of the query, both queries have the same values, or not
pub kept_by_values : (same : Bool) (query other name : List ℕ) (id : ComponentId) → name ≡ param_name id.params → IsTrue (is_own_of query_param_names id)
    → IsTrue same ↔ (matches query name ≡ matches other name) → IsTrue same ↔ KeepsParamIn query other id
kept_by_values same query other name id name_is own is = (
  λ yes _. subst (λ (n : List ℕ). matches other n ≡ matches query n) name_is (sym (is.0 yes)),
  λ keeps. is.1 (subst (λ (n : List ℕ). matches query n ≡ matches other n) (sym name_is) (sym (keeps own))),
)

-- ---- one query

-- the message has the query: then each parameter is judged over it
pub by_query : (message : Message) (text : Option (List ℕ)) (query : List ℕ) (id : ComponentId) → HasQuery message query
    → KeepsParamIn query (query_in text) id ↔ KeepsParam message text id
by_query message text query id (line, parts, has, (own, own_is, query_is)) = (gives, comes)
  where
    gives : KeepsParamIn query (query_in text) id → KeepsParam message text id
    gives keeps is = (
      line,
      parts,
      has,
      record {
        query = own;
        query_is = own_is;
        same = subst (λ (q : List ℕ). HaveSameParam q (query_in text) id) query_is (keeps is);
      },
    )

    comes : KeepsParam message text id → KeepsParamIn query (query_in text) id
    comes keeps is =
        let same = of_the_target message (HasSameMatches text id) line parts has (keeps is) in
        let owns : same.query ≡ own = let e = sym same.query_is ∙ own_is in cc in
        let queries : unwrap_or same.query [] ≡ query = ap (λ (q : Option (List ℕ)). unwrap_or q []) owns ∙ sym query_is in
        subst (λ (q : List ℕ). HaveSameParam q (query_in text) id) queries same.same

pub all_by_query : (message : Message) (text : Option (List ℕ)) (query : List ℕ) (ids : List ComponentId) → HasQuery message query
    → All (KeepsParamIn query (query_in text)) ids ↔ All (KeepsParam message text) ids
all_by_query message text query ids has = (
  All-weaker (KeepsParamIn query (query_in text)) (KeepsParam message text) (λ id. (by_query message text query id has).0) ids,
  All-weaker (KeepsParam message text) (KeepsParamIn query (query_in text)) (λ id. (by_query message text query id has).1) ids,
)

-- ---- no parameter is covered

pub none_covered : (message : Message) (text : Option (List ℕ)) (ids : List ComponentId) → list_any (is_own_of query_param_names) ids ≡ false → All (KeepsParam message text) ids
none_covered message text [] none = All-nil (KeepsParam message text)
none_covered message text (id ∷ ids) none = elim (cases_Bool (is_own_of query_param_names id)) [
  | inl is ↦ absurd (false≢true (sym none ∙ rw is refl))
  | inr is ↦
      let rest : list_any (is_own_of query_param_names) ids ≡ false = sym (rw is refl) ∙ none in
      All-cons (KeepsParam message text) id ids (λ own. absurd (false≢true (sym is ∙ own))) (none_covered message text ids rest)
]

-- a parameter is covered, and there is no query to draw it from
pub some_covered : (message : Message) (text : Option (List ℕ)) (ids : List ComponentId) → list_any (is_own_of query_param_names) ids ≡ true
    → ((query : List ℕ) → ¬ HasQuery message query) → ¬ All (KeepsParam message text) ids
some_covered message text [] some none all = false≢true some
some_covered message text (id ∷ ids) some none all = elim (cases_Bool (is_own_of query_param_names id)) [
  | inl is ↦
      let of = All-head (KeepsParam message text) id ids all is in
      none (unwrap_or of.3.query []) (of.0, of.1, of.2, (of.3.query, of.3.query_is, refl))
  | inr is ↦
      let rest : list_any (is_own_of query_param_names) ids ≡ true = sym (rw is refl) ∙ some in
      some_covered message text ids rest none (All-tail (KeepsParam message text) id ids all)
]

-- ---- what is asked

-- the message has the query, and both queries keep each parameter
pub kept_where_same : (message : Message) (text : Option (List ℕ)) (query : List ℕ) (params : SigParams) → HasQuery message query
    → (IsFalse (covers_one_of whole_query_names params) × All (KeepsParamIn query (query_in text)) params.ids) ↔ MayChangeQuery message text params
kept_where_same message text query params has =
    let same = all_by_query message text query params.ids has in (
      λ met. record { covered = met.0; each = same.0 met.1 },
      λ may. (may.covered, same.1 may.each),
    )

-- there is no query: then no parameter of it may be covered
pub kept_where_none : (message : Message) (text : Option (List ℕ)) (params : SigParams) → ((query : List ℕ) → ¬ HasQuery message query)
    → (IsFalse (covers_one_of whole_query_names params) × IsFalse (covers_one_of query_param_names params)) ↔ MayChangeQuery message text params
kept_where_none message text params none = (
  λ met. record { covered = met.0; each = none_covered message text params.ids met.1 },
  λ may. (may.covered, by may.each),
)
  where
    by : All (KeepsParam message text) params.ids → covers_one_of query_param_names params ≡ false
    by each = elim (cases_Bool (covers_one_of query_param_names params)) [
      | inl some ↦ absurd (some_covered message text params.ids some none each)
      | inr free ↦ free
    ]

-- ---- decisions

lists_or_not : (ones others : List (List ℕ)) → HoldsOrNot (ones ≡ others)
lists_or_not [] [] = inl refl
lists_or_not [] (other ∷ others) = inr (λ e. absurd cc)
lists_or_not (one ∷ ones) [] = inr (λ e. absurd cc)
lists_or_not (one ∷ ones) (other ∷ others) = elim (texts_or_not one other) [
  | inr apart ↦ inr (λ e. apart cc)
  | inl same ↦ elim (lists_or_not ones others) [
    | inl rest ↦ inl (λ i. same i ∷ rest i)
    | inr apart ↦ inr (λ e. apart cc)
  ]
]

same_or_not : (text : Option (List ℕ)) (id : ComponentId) (parts : TargetParts) → HoldsOrNot (HasSameMatches text id parts)
same_or_not text id parts = by (query_of parts) refl
  where
    by : (o : Option (Option (List ℕ))) → query_of parts ≡ o → HoldsOrNot (HasSameMatches text id parts)
    by None none = inr (λ same. let e = sym none ∙ same.query_is in absurd cc)
    by (Some query) is = elim (lists_or_not (matches (query_in text) (param_name id.params)) (matches (unwrap_or query []) (param_name id.params))) [
      | inl same ↦ inl (record { query = query; query_is = is; same = same })
      | inr never ↦ inr (λ same.
          let queries : same.query ≡ query = let e = sym same.query_is ∙ is in cc in
          never (subst (λ (q : Option (List ℕ)). HaveSameParam (unwrap_or q []) (query_in text) id) queries same.same))
    ]

keeps_or_not : (message : Message) (text : Option (List ℕ)) (id : ComponentId) → HoldsOrNot (KeepsParam message text id)
keeps_or_not message text id =
    implied_or_not (IsTrue (is_own_of query_param_names id)) (OfTarget message (HasSameMatches text id)) (true_or_not (is_own_of query_param_names id))
    (of_target_or_not message (HasSameMatches text id) (same_or_not text id))

pub may_change_or_not : (message : Message) (text : Option (List ℕ)) (params : SigParams) → HoldsOrNot (MayChangeQuery message text params)
may_change_or_not message text params = elim (false_or_not (covers_one_of whole_query_names params)) [
  | inr covered ↦ inr (λ may. covered may.covered)
  | inl free ↦ elim (all_or_not (KeepsParam message text) (keeps_or_not message text) params.ids) [
    | inl each ↦ inl (record { covered = free; each = each })
    | inr never ↦ inr (λ may. never may.each)
  ]
]
