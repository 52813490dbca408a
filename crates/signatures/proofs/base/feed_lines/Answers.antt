use Rattle.std.proofs.Common.{◌≡◌, ◌<◌, ◌≤◌, ℕ, List, [], ◌++◌, ◌+◌, ◌==◌, Bool, false, length, take, get_or, refl, sym, ap, ◌∙◌, append_assoc, arith}
use Rattle.std.specs.Prelude.{slice_index_or}
use Rattle.std.specs.List.{flat_map, zip}
use Rattle.std.proofs.lemmas.Option.{slice_get-get_or}
use Rattle.component_ids.specs.Identifiers.{id_text}
use Rattle.component_ids.specs.declared.id.ComponentId.{ComponentId}
use Rattle.signatures.specs.SignatureBase.{component_line}
use Rattle.signatures.specs.tools.Feed.{end_before, line_begin}
use Rattle.signatures.proofs.Lines.{line_closes, lines_more, some_lines, zip_all}
use Rattle.signatures.proofs.base.feed_lines.Goals as goal

no_id : ComponentId
no_id = record { name = []; params = [] }

pub loop-index-init : goal.loop-index-init
loop-index-init g c text fed = (text, fed, refl)

pub loop-index-preserved : goal.loop-index-preserved
loop-index-preserved g c text fed =
    let ids = c.args.prepared.now.params.ids in
    let values = c.args.prepared.now.values in
    let i = c.loop-index.index in
    let in_ids : i < length ids = omega (arith, c.loop-index-test.true, c.len-index-end.ensures.each) in
    let in_values : i < length values = omega (arith, c.loop-index-test.true, c.len-index-end.ensures.is) in
    let there = slice_get-get_or ids i no_id in_ids in
    let id = get_or ids i no_id in
    let value = slice_index_or values i [] in
    let before = flat_map component_line (take i (zip ids values)) in
    let owed = c.loop-index.invariant text fed in
    let closed = line_closes owed.0 (end_before (i == 0)) (id_text id) value (text ++ before) owed.2 in
    let whole = append_assoc text before (component_line (id, value)) ∙ ap (λ (t : List ℕ). text ++ t) (sym (lines_more ids values i id there in_values)) in
    let more : (i + 1 == 0) ≡ false = some_lines i in (
      owed.0 ++ (line_begin (i == 0) (id_text id) ++ value),
      c.feed_line.ensures id there owed.0 owed.1,
      ap (λ (b : Bool). (owed.0 ++ (line_begin (i == 0) (id_text id) ++ value)) ++ end_before b) more ∙ (closed ∙ whole),
    )

pub returns : goal.returns
returns g c text fed =
    let ids = c.args.prepared.now.params.ids in
    let values = c.args.prepared.now.values in
    let i = c.loop-index.index in
    let all : length values ≤ i = omega (arith, c.loop-index-test.false, c.len-index-end.ensures.is) in
    let last : i ≡ length values = omega (arith, c.loop-index.auto.index-end, c.loop-index-test.false, c.len-index-end.ensures.is) in
    let owed = c.loop-index.invariant text fed in (
      owed.0,
      owed.1,
      ap (λ (n : ℕ). owed.0 ++ end_before (n == 0)) (sym last) ∙ (owed.2 ∙ ap (λ (lines : List (ComponentId × List ℕ)). text ++ flat_map component_line lines) (zip_all ids values i all)),
    )
