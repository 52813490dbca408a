-- Laws of scripts.
use Rattle.std.specs.Prelude.{◌≡◌, ◌⊎◌, ℕ, List}
use Rattle.rewrite_script.specs.declared.fault.ScriptFault.{ScriptFault}
use Rattle.rewrite_script.specs.declared.rewrite.Rewrite.{Rewrite}
use Rattle.rewrite_script.specs.Lines.{SpellsLine}
use Rattle.rewrite_script.specs.Scripts.{SpellsScript}
use Rattle.rewrite_script.specs.Causes.{IsScriptFault}

-- a line is that of at most one rewriting
abbrev pub HasOneRewriting : Type 0
HasOneRewriting = (text : List ℕ) (rewrite other : Rewrite) →
    SpellsLine text rewrite → SpellsLine text other → rewrite ≡ other

-- a text is a script, or has a fault
abbrev pub HasScriptOrFault : Type 0
HasScriptOrFault = (text : List ℕ) →
    ((script : List Rewrite) × SpellsScript text script)
    ⊎ ((fault : ScriptFault) × IsScriptFault text fault)

-- a text is at most one script
abbrev pub OneScript : Type 0
OneScript = (text : List ℕ) (script other : List Rewrite) →
    SpellsScript text script → SpellsScript text other → script ≡ other

-- a text has at most one fault
abbrev pub OneScriptFault : Type 0
OneScriptFault = (text : List ℕ) (fault other : ScriptFault) →
    IsScriptFault text fault → IsScriptFault text other → fault ≡ other

-- a script has no fault
abbrev pub NoFaultOfScript : Type 0
NoFaultOfScript = (text : List ℕ) (script : List Rewrite) (fault : ScriptFault) →
    SpellsScript text script → ¬ IsScriptFault text fault
