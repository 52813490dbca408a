-- What is answered, from what the parts answer.
use Rattle.std.proofs.Common.{◌≡◌, ◌≢◌, ◌≤◌, ℕ, Result, Ok, Err, List, refl, inl, inr}
use Rattle.std.specs.Prelude.{MatchResult}
use Rattle.byte_grammar.specs.Causes.{AnswersWhere}
use Rattle.byte_grammar.proofs.AnswerLaws.{IsMemoryDecided, NamesFault, memory_if, answers_where}
use Rattle.rewrite_script.specs.declared.rewrite.Rewrite.{Rewrite}
use Rattle.rewrite_script.specs.declared.fault.ScriptFault.{ScriptFault}
use Rattle.rewrite_script.specs.declared.fault.ScriptFault.TheVariants.{Memory, TooMany, BadLine}
use Rattle.rewrite_script.specs.Scripts.{SpellsScript, line_count}
use Rattle.rewrite_script.specs.Causes.{IsScriptFault}
use Rattle.rewrite_script.specs.tools.Judged.{ExplainsLines, ExplainsScript}
use Rattle.rewrite_script.proofs.ScriptLaws.{is_bad, is_script, no_fault_of_script, one_script, one_script_fault}

-- the lines are read where they aren't too many
pub lines_explain : (text : List ℕ) (result : Result (List Rewrite) ScriptFault) → line_count text ≤ 256 → ExplainsLines text result → ExplainsScript text result
lines_explain text (Ok script) few read = is_script text script few read
lines_explain text (Err (BadLine index)) few bad = λ own. is_bad text index few bad
lines_explain text (Err TooMany) few none = absurd none
lines_explain text (Err Memory) few none = λ own. absurd (own refl)

memory_or_not : IsMemoryDecided Memory
memory_or_not Memory = inl refl
memory_or_not TooMany = inr (λ e. cc)
memory_or_not (BadLine index) = inr (λ e. cc)

pub only_script : (text : List ℕ) (result : Result (List Rewrite) ScriptFault) → ExplainsScript text result → (script : List Rewrite) → SpellsScript text script → MatchResult result (λ given. given ≡ script) (λ fault. fault ≡ Memory)
only_script text (Ok given) is script spells = one_script text given script is spells
only_script text (Err fault) is script spells = memory_if Memory memory_or_not fault (λ own. no_fault_of_script text script fault spells (is own))

named : (text : List ℕ) (result : Result (List Rewrite) ScriptFault) → ExplainsScript text result → NamesFault Memory (IsScriptFault text) result
named text (Ok script) is = λ fault. no_fault_of_script text script fault is
named text (Err fault) is = is

pub fault_is : (text : List ℕ) (result : Result (List Rewrite) ScriptFault) → ExplainsScript text result → (fault : ScriptFault) → fault ≢ Memory → AnswersWhere Memory result fault (IsScriptFault text fault)
fault_is text result is = answers_where Memory memory_or_not (IsScriptFault text) result (one_script_fault text) (named text result is)
