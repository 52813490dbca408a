use Rattle.std.proofs.Common.{ℕ, Bool, List, ◌++◌, ap, subst, ◌∙◌, append_assoc}
use Rattle.std.specs.Prelude.{codes}
use Rattle.std.specs.List.{flat_map, zip}
use Rattle.signatures.specs.SignatureBase.{component_line}
use Rattle.signatures.specs.tools.Feed.{end_before, line_begin}
use Rattle.signatures.proofs.Lines.{base_closes, none_is_empty}
use Rattle.signatures.proofs.base.feed_base.Goals as goal

pub returns : goal.returns
returns g c text fed =
    let values = c.args.prepared.now.values in
    let lines = flat_map component_line (zip c.args.prepared.now.params.ids values) in
    let name = codes "\"@signature-params\"" in
    let printed = c.params_text.result.now in
    let none = none_is_empty c.is_empty.result values c.is_empty.ensures in
    let owed = c.feed_lines.ensures text fed in
    let closed = ap (λ (b : Bool). owed.0 ++ end_before b) none ∙ owed.2 in
    let whole = base_closes owed.0 (end_before c.is_empty.result) name printed (text ++ lines) closed in
    let label = codes "\"@signature-params\": " in
    let end = append_assoc text lines (label ++ printed) ∙ ap (λ (t : List ℕ). text ++ (lines ++ (label ++ t))) c.params_text.ensures in
    subst (λ (fed : List ℕ). g.A.Absorb.absorbed c.absorb.new.self fed) (whole ∙ end)
    (c.absorb.ensures (owed.0 ++ line_begin c.is_empty.result name) (c.feed_begin.ensures owed.0 owed.1))
