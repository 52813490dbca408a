-- Which rewritings a signature permits, since they keep what it rests on: those of field lines, and
-- those of the whole message.
use Rattle.std.specs.Prelude.{ℕ, List}
use Rattle.component_ids.specs.declared.params.SigParams.{SigParams}
use Rattle.component_values.specs.Context.{MessageContext}
use Rattle.rewrite_script.specs.declared.rewrite.Rewrite.{Rewrite}
use Rattle.rewrite_script.specs.declared.rewrite.Rewrite.TheVariants.{Lines, Whole}
use Rattle.line_rewrites.specs.Permitted.{PermitsLines}
use Rattle.whole_rewrites.specs.Permitted.{PermitsWhole}

-- the label's signature with these parameters permits the step
abbrev pub Permits : MessageContext → Rewrite → List ℕ → SigParams → Type 0
Permits context (Lines step) label params = PermitsLines context step label params
Permits context (Whole step) label params = PermitsWhole context step params
