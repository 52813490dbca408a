use Rattle.std.proofs.Common.{◌≡◌, ℕ, List, [], ◌++◌, ◌==◌, Some, sym, ap, subst, ◌∙◌, append_assoc}
use Rattle.std.specs.Prelude.{option_map, slice_index_or}
use Rattle.component_ids.specs.Identifiers.{id_text}
use Rattle.signatures.specs.tools.Feed.{line_begin}
use Rattle.signatures.proofs.base.feed_line.Goals as goal

pub returns : goal.returns
returns g c id there text fed =
    let printed = c.id_text.result.now in
    let first = c.args.index == 0 in
    let value = slice_index_or c.args.prepared.now.values c.args.index [] in
    let some : Some (id_text id) ≡ Some printed = ap (option_map id_text) (sym there) ∙ c.id_text.ensures in
    let same : printed ≡ id_text id = cc in
    let whole = append_assoc text (line_begin first printed) value ∙ ap (λ (t : List ℕ). text ++ (line_begin first t ++ value)) same in
    subst (λ (fed : List ℕ). g.A.Absorb.absorbed c.feed.new.into fed) whole
    (c.feed.ensures (text ++ line_begin first printed) (c.feed_begin.ensures text fed))
