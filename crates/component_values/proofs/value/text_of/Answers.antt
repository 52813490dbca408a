use Rattle.std.proofs.Common.{[]}
use Rattle.component_values.specs.tools.Rows.{planned_text}
use Rattle.component_values.proofs.value.text_of.Goals as goal

pub returns : goal.returns
returns c = c.in_ok-into_text.ensures.fed (planned_text c.args.plan.now) (c.feed.ensures [] c.new-fed.ensures)
