-- What is answered for the text of an item that is no script.
use Rattle.std.proofs.Common.{◌≤◌, ℕ, List, length, Err, refl}
use Rattle.std.specs.Prelude.{◌≢◌}
use Rattle.byte_grammar.specs.Causes.{AnswersWhere}
use Rattle.rewrite_script.specs.Causes.{IsScriptFault}
use Rattle.rewrite_script.specs.declared.fault.ScriptFault.{ScriptFault}
use Rattle.rewrite_script.specs.declared.fault.ScriptFault.TheVariants.{Memory, TooMany, BadLine}
use Rattle.rewrite_script.specs.declared.limits.TheConstants.{MAX_SCRIPT_BYTES}
use Rattle.hop_audit.specs.tools.Read.{SaysScript, script_fault}

pub script_refused : {T : Type 0} (item : ℕ) (text : List ℕ) (fault : ScriptFault) → length text ≤ MAX_SCRIPT_BYTES
    → ((f : ScriptFault) → f ≢ Memory → AnswersWhere {T = T} Memory (Err fault) f (IsScriptFault text f)) → SaysScript item text (Err (script_fault item fault))
script_refused item text Memory within answered = tt
script_refused item text TooMany within answered = (refl, within, (answered TooMany (λ e. absurd (cc e))).only refl)
script_refused item text (BadLine index) within answered = (refl, within, (answered (BadLine index) (λ e. absurd (cc e))).only refl)
