use Rattle.std.proofs.Common.{ap, ◌∙◌}
use Rattle.std.specs.FinMap as map
use Rattle.sfv_text.specs.tools.Index.{Places, ArePlacesOf}
use Rattle.sfv_text.proofs.IndexLaws.{one_more_place}
use Rattle.sfv_text.proofs.index.index_new.Goals as goal

pub returns-in-Some-clause-ok : goal.returns-in-Some-clause-ok
returns-in-Some-clause-ok g c value key =
    let are : ArePlacesOf c.in-Some.places c.args.pairs.now = rw c.in-Some.is at c.requires.places in
    ap (λ (m : Places). map.get m key) c.in_ok-add.ensures.ok
    ∙ one_more_place c.in-Some.places c.args.pairs.now (record { key = c.args.key.now; value = value }) are c.requires.new_key key

pub returns-clause-ok : goal.returns-clause-ok
returns-clause-ok g c value key =
    ap (λ (m : Places). map.get m key) c.in_ok-add-2.ensures.ok
    ∙ one_more_place c.in_ok-places.places c.args.pairs.now (record { key = c.args.key.now; value = value }) c.in_ok-places.ensures c.requires.new_key key
