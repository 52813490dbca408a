use Rattle.std.proofs.Common.{ℕ, List}
use Rattle.std.specs.List.{AllZip}
use Rattle.component_values.specs.Context.{MessageContext}
use Rattle.settings.specs.Configuration.{Configuration}
use Rattle.hop_audit.specs.tools.Carried.{KnowTags, TellsTag}
use Rattle.hop_audit.proofs.known_tags.known_after.Given as goal

abbrev pub invariant-loop-line : goal.invariant-loop-line
invariant-loop-line l = (conf : Configuration) (was now : MessageContext) (labels : List (List ℕ)) → KnowTags conf was l.known → AllZip (TellsTag conf was now) labels l.lines → KnowTags conf now l.told
