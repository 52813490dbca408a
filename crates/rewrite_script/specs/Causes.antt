-- Why a text is no script.
use Rattle.std.specs.Prelude.{◌≡◌, ℕ, ◌<◌, List, ◌++◌, length, IsTrue}
use Rattle.std.specs.List.{list_all}
use Rattle.byte_grammar.specs.Causes.{IsFirst}
use Rattle.rewrite_script.specs.declared.limits.TheConstants.{MAX_SCRIPT_LINES}
use Rattle.rewrite_script.specs.declared.fault.ScriptFault.{ScriptFault}
use Rattle.rewrite_script.specs.declared.fault.ScriptFault.TheVariants.{Memory, TooMany, BadLine}
use Rattle.rewrite_script.specs.declared.rewrite.Rewrite.{Rewrite}
use Rattle.rewrite_script.specs.Lines.{HasValues, is_writable}
use Rattle.rewrite_script.specs.Scripts.{HaveValues, ended_line, script_text, line_count}

-- the bytes don't begin with the line of a rewriting and its LF
abbrev pub BeginsWithNoLine : List ℕ → Type 0
BeginsWithNoLine bytes = (rewrite : Rewrite) (more : List ℕ)
    → IsTrue (is_writable rewrite) → HasValues rewrite → ¬ (bytes ≡ ended_line rewrite ++ more)

-- So many lines of rewritings come first, each ended by LF. After them there is something that
-- doesn't begin with another.
pub record IsBadLine (text : List ℕ) (index : ℕ) : Type 0 where
  pub before : List Rewrite
  pub rest : List ℕ
  pub joined : text ≡ script_text before ++ rest
  pub writable : IsTrue (list_all is_writable before)
  pub values : HaveValues before
  pub count : length before ≡ index
  pub some : 0 < length rest
  pub bad : BeginsWithNoLine rest

-- the fact for which the fault is answered; being out of memory is none of them
abbrev pub IsScriptCause : List ℕ → ScriptFault → Type 0
IsScriptCause text TooMany = MAX_SCRIPT_LINES < line_count text
IsScriptCause text (BadLine index) = IsBadLine text index
IsScriptCause text Memory = ⊥

-- the order in which the causes are judged
abbrev pub script_order : ScriptFault → ℕ
script_order Memory = 0
script_order TooMany = 1
script_order (BadLine index) = 2

-- the fault's cause is the first that holds
abbrev pub IsScriptFault : List ℕ → ScriptFault → Type 0
IsScriptFault text fault = IsFirst script_order (IsScriptCause text) fault
