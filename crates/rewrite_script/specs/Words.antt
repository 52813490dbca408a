-- The words that output has for what a script is refused for.
use Rattle.std.specs.Prelude.{ℕ, List, ◌++◌, codes}
use Rattle.std.specs.Fmt.{decimal}
use Rattle.rewrite_script.specs.declared.limits.TheConstants.{MAX_SCRIPT_LINES}
use Rattle.rewrite_script.specs.declared.fault.ScriptFault.{ScriptFault}
use Rattle.rewrite_script.specs.declared.fault.ScriptFault.TheVariants.{Memory, TooMany, BadLine}

-- the word of the fault, with the limit that is passed, or where the fault is
abbrev pub script_fault_text : ScriptFault → List ℕ
script_fault_text Memory = codes "out of memory"
script_fault_text TooMany = codes "steps " ++ decimal MAX_SCRIPT_LINES
script_fault_text (BadLine index) = codes "script-line " ++ decimal index
