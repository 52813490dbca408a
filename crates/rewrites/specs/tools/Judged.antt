-- What the parts of the code answer. No public clause cites this module.
use Rattle.std.specs.Prelude.{⊤, ℕ, Result, Ok, Err, List}
use Rattle.component_values.specs.Context.{MessageContext}
use Rattle.rewrite_script.specs.declared.rewrite.Rewrite.{Rewrite}
use Rattle.line_rewrites.specs.declared.fault.ApplyFault.{ApplyFault}
use Rattle.line_rewrites.specs.declared.fault.ApplyFault.TheVariants.{Memory, NotApplicable}
use Rattle.rewrites.specs.Steps.{IsNotApplicable, Rewrites}

-- the text is that of the message which the step gives, or the step gives none
abbrev pub ExplainsStep : MessageContext → Rewrite → Result (List ℕ) ApplyFault → Type 0
ExplainsStep context step (Ok text) = Rewrites context step text
ExplainsStep context step (Err NotApplicable) = IsNotApplicable context step
ExplainsStep context step (Err Memory) = ⊤
