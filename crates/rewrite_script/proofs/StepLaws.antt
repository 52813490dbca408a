-- A step by itself.
use Rattle.std.proofs.Common.{◌≡◌, ℕ, List, Some, ap, ◌∙◌}
use Rattle.rewrite_script.specs.declared.fault.LineFault.TheVariants.{NotSpelled}
use Rattle.rewrite_script.specs.declared.rewrite.Rewrite.{Rewrite}
use Rattle.rewrite_script.specs.Lines.{HasValues, IsNoLine, SpellsLine}
use Rattle.rewrite_script.specs.tools.Gives.{FailsWhere}
use Rattle.rewrite_script.specs.tools.LineWalk.{line_read}
use Rattle.rewrite_script.proofs.KindLaws.{line_exact}

-- what is read and has values is what the line says
pub step_is : (line : List ℕ) (step : Rewrite) → line_read line ≡ Some step → HasValues step → SpellsLine line step
step_is line step read values =
    let sound = line_exact.sound line step read in
    record { writable = sound.0; values = values; line = sound.1 }

-- a line of which nothing with values is read says no step
pub step_isnt : (line : List ℕ) → FailsWhere HasValues NotSpelled (line_read line) → IsNoLine line
step_isnt line fails step is = fails step (ap line_read is.line ∙ line_exact.complete step is.writable) is.values
