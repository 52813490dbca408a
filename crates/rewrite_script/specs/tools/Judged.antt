-- What is answered to a text. No public clause cites this module.
use Rattle.std.specs.Prelude.{◌≡◌, ◌≢◌, ⊤, ℕ, IsTrue, List, [], ◌++◌, Result, Ok, Err}
use Rattle.std.specs.List.{list_all}
use Rattle.rewrite_script.specs.declared.fault.ScriptFault.{ScriptFault}
use Rattle.rewrite_script.specs.declared.fault.ScriptFault.TheVariants.{Memory, TooMany, BadLine}
use Rattle.rewrite_script.specs.declared.rewrite.Rewrite.{Rewrite}
use Rattle.rewrite_script.specs.Causes.{IsBadLine, IsScriptFault}
use Rattle.rewrite_script.specs.Lines.{is_writable}
use Rattle.rewrite_script.specs.Scripts.{HaveValues, script_text, SpellsScript}

-- the lines of these rewritings come first, and the rest after them
pub record AreRead (text : List ℕ) (script : List Rewrite) (rest : List ℕ) : Type 0 where
  pub writable : IsTrue (list_all is_writable script)
  pub values : HaveValues script
  pub joined : text ≡ script_text script ++ rest

-- what is answered of the lines, however many there are
abbrev pub ExplainsLines : List ℕ → Result (List Rewrite) ScriptFault → Type 0
ExplainsLines text (Ok script) = AreRead text script []
ExplainsLines text (Err (BadLine index)) = IsBadLine text index
ExplainsLines text (Err TooMany) = ⊥
ExplainsLines text (Err Memory) = ⊤

-- the answer and the fact for which it is given; out of memory has none
abbrev pub ExplainsScript : List ℕ → Result (List Rewrite) ScriptFault → Type 0
ExplainsScript text (Ok script) = SpellsScript text script
ExplainsScript text (Err fault) = fault ≢ Memory → IsScriptFault text fault
