use Rattle.std.proofs.Common.{ap, ◌∙◌}
use Rattle.std.specs.FinMap as map
use Rattle.settings.proofs.KeyEntryLaws.{looked_up}
use Rattle.settings.proofs.keys.Keys.get.Goals as goal

pub returns : goal.returns
returns c =
    c.get.ensures.value ∙ (looked_up c.self.inside.keys.entries c.args.keyid.now ∙ ap (λ keys. map.get keys c.args.keyid.now) c.self.view_is)
