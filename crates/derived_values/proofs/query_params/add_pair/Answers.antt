use Rattle.std.proofs.Common.{◌≡◌, ◌<◌, List, [], ◌∷◌, ◌++◌, length, Some, None, rules, sym, ap, ◌∙◌}
use Rattle.std.specs.List.{slice_get}
use Rattle.std.proofs.lemmas.Option.{slice_get-get_or, slice_get_within}
use Rattle.std.proofs.lemmas.Result.{on_ok_weaker}
use Rattle.sfv_text.specs.Keys.{put, value_of}
use Rattle.derived_values.specs.Query.{QueryPair, decoded_pair, encoded, values_under}
use Rattle.derived_values.specs.tools.Params.{AreListedIn}
use Rattle.derived_values.proofs.ParamLaws.{listed_again, listed_first}
use Rattle.derived_values.proofs.query_params.add_pair.Goals as goal

pub returns-in-Some : goal.returns-in-Some
returns-in-Some c =
    let pair : QueryPair = decoded_pair (c.args.raw_name.now, c.args.raw_value.now) in
    let places = c.args.places.now in
    let lists = c.args.lists.now.items in
    let place = c.in-Some.place.now in
    let old = c.index_mut.result.now in
    let there : value_of places (encoded pair.name) ≡ Some place = search (rules, c.in_ok-name.ensures, c.bytes.ensures, c.find.ensures, c.in-Some.is) in
    on_ok_weaker c.push.result (λ (is : c.push.new.self ≡ old ++ c.in_ok-value.value ∷ []) (done : List QueryPair) (listed : AreListedIn places lists done).
    let lt : place < length lists = slice_get_within lists place (values_under (encoded pair.name) done) (rw there at (listed.each (encoded pair.name))) in
    let held : slice_get lists place ≡ Some old = slice_get-get_or lists place old lt ∙ ap Some (sym c.index_mut.ensures.value) in
    rw (is, c.in_ok-value.ensures) (listed_again places lists done pair listed place old there held)) c.push.ensures.ok

pub returns : goal.returns
returns c =
    let pair : QueryPair = decoded_pair (c.args.raw_name.now, c.args.raw_value.now) in
    let places = c.args.places.now in
    let lists = c.args.lists.now.items in
    let none : value_of places (encoded pair.name) ≡ None = search (rules, c.in_ok-name.ensures, c.bytes.ensures, c.find.ensures, c.in_default.not-Some) in
    let items : c.push-3.new.self.items ≡ lists ++ (encoded pair.value ∷ []) ∷ [] = search (rules, c.in_ok-push-2.ensures, c.in_ok-push.ensures, c.in_ok-value.ensures, c.new-values.ensures) in
    let place : c.len-place.result ≡ length lists = search (rules, c.len-place.ensures, c.args.lists.now.ok.0) in
    on_ok_weaker c.put.result (λ (is : c.put.new.self ≡ put places c.in_ok-name.name c.len-place.result) (done : List QueryPair) (listed : AreListedIn places lists done).
    rw (is, items, c.in_ok-name.ensures, place) (listed_first places lists done pair listed none)) c.put.ensures.ok
