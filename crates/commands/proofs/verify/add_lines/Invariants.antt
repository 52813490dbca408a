use Rattle.std.proofs.Common.{◌≡◌, take}
use Rattle.conf.specs.ConfMeaning.{meaning}
use Rattle.commands.specs.tools.Verdicts.{AreLinesSoFar}
use Rattle.commands.proofs.verify.add_lines.Given as goal

abbrev pub invariant-loop-label : goal.invariant-loop-label
invariant-loop-label g l =
    AreLinesSoFar (meaning l.verifier.conf.now) l.verifier.moment l.fn.exchange.context (take l.label-index l.labels) l.lines l.all_accepted × (l.exchange.context ≡ l.fn.exchange.context)
