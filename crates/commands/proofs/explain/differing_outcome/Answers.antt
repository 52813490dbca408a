use Rattle.std.proofs.Common.{◌≡◌, ap}
use Rattle.std.specs.List.{slice_get}
use Rattle.byte_grammar.proofs.Indices.{some_and}
use Rattle.component_ids.specs.declared.id.ComponentId.{ComponentId}
use Rattle.commands.specs.Explain.{differing_text}
use Rattle.commands.specs.declared.outcome.Outcome.TheVariants.{NotOk}
use Rattle.commands.proofs.Explaining.{id_in_range}
use Rattle.commands.proofs.explain.differing_outcome.Goals as goal

pub differing_text-requires : goal.differing_text-requires
differing_text-requires c = id_in_range c.args.params.now c.args.index c.get.result.now c.requires.in_range c.get.ensures

pub returns : goal.returns
returns c =
    some_and (λ (id : ComponentId). NotOk c.in_ok-differing_text.field-0 ≡ NotOk (differing_text id)) (slice_get c.args.params.now.ids c.args.index) c.get.result.now c.get.ensures (ap NotOk c.in_ok-differing_text.ensures)
