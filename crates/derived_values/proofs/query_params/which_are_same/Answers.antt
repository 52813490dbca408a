use Rattle.std.proofs.Common.{◌≡◌, ◌↔◌, [], IsTrue, rules, subst, ℕ, List}
use Rattle.std.proofs.lemmas.List.{nil_from_length}
use Rattle.sfv_text.specs.declared.pair.Pair.{Pair}
use Rattle.derived_values.specs.Query.{matches, pairs}
use Rattle.derived_values.specs.tools.Params.{AreListedIn, AreToldSoFar}
use Rattle.derived_values.proofs.ComparedLaws.{told_all, told_more}
use Rattle.derived_values.proofs.query_params.which_are_same.Goals as goal

pub returns : goal.returns
returns c =
    let places = c.into_iter-place-iterator.result.rest.now in
    let lists = c.params.inside.lists.items in
    let are : places ≡ c.params.inside.places = search (rules, c.into_iter-place-iterator.ensures, c.iter-place-items.ensures) in
    let none : c.loop-place.place-iterator.rest.now ≡ [] = nil_from_length _ c.in-None.ensures.steps.0 in
    let listed : AreListedIn places lists (pairs c.args.params.now) = rw (are, ← c.params.view_is) c.params.invariant in
    told_all c.loop-place.are_same c.args.params.now c.args.others.now places lists listed
    (subst (λ (left : List (Pair ℕ)). AreToldSoFar c.loop-place.are_same c.args.params.now c.args.others.now places left) none c.loop-place.invariant)

pub loop-place-preserved : goal.loop-place-preserved
loop-place-preserved c =
    let pair = c.in-Some.place.now in
    let left = c.next.new.self.rest.now in
    let places = c.into_iter-place-iterator.result.rest.now in
    let same = c.are_equal-same.result in
    let query = c.args.params.now in
    let other = c.args.others.now in
    let is : IsTrue same ↔ (matches query pair.key ≡ matches other pair.key) = rw (← c.bytes-name.ensures, ← c.values.ensures, ← c.values-in-loop-place.ensures) c.are_equal-same.ensures in
    let so_far = subst (λ (rest : List (Pair ℕ)). AreToldSoFar c.loop-place.are_same query other places rest) c.in-Some.ensures.steps c.loop-place.invariant in
    rw (c.in_ok-put.ensures.ok, c.in_ok-copy.ensures.ok) (told_more c.loop-place.are_same query other places pair left same so_far is)
