use Rattle.std.proofs.Common.{ap, ◌∙◌}
use Rattle.std.specs.FinMap as map
use Rattle.byte_grammar.proofs.MapLaws.{looked_up}
use Rattle.sfv_text.proofs.index.KeyIndex.place_of.Goals as goal

pub returns : goal.returns
returns c =
    c.copied.ensures ∙ c.get.ensures.value ∙ looked_up c.self.inside.places.entries c.args.key.now
    ∙ ap (λ places. map.get places c.args.key.now) c.self.view_is
