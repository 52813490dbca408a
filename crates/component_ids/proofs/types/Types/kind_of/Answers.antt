use Rattle.std.proofs.Common.{ap, ◌∙◌}
use Rattle.component_ids.specs.Types.{kind_in}
use Rattle.byte_grammar.proofs.MapLaws.{looked_up}
use Rattle.component_ids.proofs.types.Types.kind_of.Goals as goal

pub returns : goal.returns
returns c =
    c.copied.ensures ∙ c.get.ensures.value ∙ looked_up c.self.inside.kinds.entries c.args.name.now
    ∙ ap (λ types. kind_in types c.args.name.now) c.self.view_is
