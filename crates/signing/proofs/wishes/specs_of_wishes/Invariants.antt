use Rattle.settings.specs.ConfMeaning.{meaning}
use Rattle.signing.specs.tools.Wished.{AreMet}
use Rattle.signing.proofs.wishes.specs_of_wishes.Given as goal

abbrev pub invariant-loop-index : goal.invariant-loop-index
invariant-loop-index l = AreMet (meaning l.conf) l.sign l.now l.wishes l.index l.specs
