use Rattle.std.proofs.Common.{[]}
use Rattle.derived_values.proofs.value.Derived.text.Goals as goal

pub returns : goal.returns
returns c = c.into_text.ensures.fed c.args.self.now (c.feed.ensures [] c.new-fed.ensures)
