-- Components that come to the same have the same values, or the same first lack.
use Rattle.std.proofs.Common.{◌≡◌, ℕ, List, [], ◌∷◌, take, get_or, Ok, Err, subst}
use Rattle.std.specs.List.{All, slice_get}
use Rattle.std.proofs.lemmas.List.Elements.{All-head, All-tail, All-take, All-weaker}
use Rattle.std.proofs.lemmas.Option.{get_or_from_slice_get, slice_get_within}
use Rattle.byte_grammar.proofs.Indices.{some_and, some_and_parts}
use Rattle.msg_body.specs.Messages.{Message}
use Rattle.component_ids.specs.declared.id.ComponentId.{ComponentId}
use Rattle.derived_values.specs.declared.lack.Lack.{Lack}
use Rattle.component_values.specs.Alike.{ComesToSame}
use Rattle.component_values.specs.Context.{MessageContext, context_with}
use Rattle.component_values.specs.Laws.{HaveSameList, HaveSameFirstLack}
use Rattle.component_values.specs.Values.{HaveValues, IsFirstLack, Lacks}

module _ (context : MessageContext) (other : Message) where
  abbrev moved : MessageContext
  moved = context_with context other

  have_same : (ids : List ComponentId) (values : List (List ℕ)) → All (ComesToSame context other) ids → HaveValues context ids values → HaveValues moved ids values
  have_same [] [] all have = tt
  have_same (id ∷ ids) (value ∷ values) all have = (
    (All-head (ComesToSame context other) id ids all (Ok value)).0 have.0,
    have_same ids values (All-tail (ComesToSame context other) id ids all) have.1,
  )
  have_same [] (value ∷ values) all have = absurd have
  have_same (id ∷ ids) [] all have = absurd have

  lack_same : (ids : List ComponentId) (index : ℕ) (lack : Lack) → All (ComesToSame context other) ids → IsFirstLack context ids index lack → IsFirstLack moved ids index lack
  lack_same ids index lack all first =
      let there = some_and_parts (λ id. Lacks context id lack) (slice_get ids index) first.there in
      let at : get_or ids index there.0 ≡ there.0 = get_or_from_slice_get ids index there.0 there.0 there.1 in
      let same = subst (λ (id : ComponentId). ComesToSame context other id) at (all index there.0 (slice_get_within ids index there.0 there.1)) in
      record {
        values = first.values;
        before = have_same (take index ids) first.values (All-take (ComesToSame context other) index ids all) first.before;
        there = some_and (λ id. Lacks moved id lack) (slice_get ids index) there.0 there.1 ((same (Err lack)).0 there.2);
      }

  back : (ids : List ComponentId) → All (ComesToSame context other) ids → All (ComesToSame moved context.message) ids
  back ids all = All-weaker (ComesToSame context other) (ComesToSame moved context.message) (λ id same result. ((same result).1, (same result).0)) ids all

pub have_same_list : HaveSameList
have_same_list context other ids values all =
    (have_same context other ids values all, have_same (context_with context other) context.message ids values (back context other ids all))

pub have_same_first_lack : HaveSameFirstLack
have_same_first_lack context other ids index lack all =
    (lack_same context other ids index lack all, lack_same (context_with context other) context.message ids index lack (back context other ids all))
