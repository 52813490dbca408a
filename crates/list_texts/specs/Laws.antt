-- Laws of the texts of lists of fields.
use Rattle.std.specs.Prelude.{◌≡◌, ◌⊎◌, ◌↔◌, ℕ, ◌≤◌, ◌+◌, List, length}
use Rattle.byte_grammar.specs.FaultOffset.{IsFaultOffset}
use Rattle.list_texts.specs.declared.fault.FieldsFault.{FieldsFault}
use Rattle.list_texts.specs.declared.list.FieldList.{FieldList}
use Rattle.list_texts.specs.Lists.{HasForm, IsWithinLimits, SpellsList, list_text}
use Rattle.list_texts.specs.Causes.{HasLongLine, IsFieldsFault}

-- a text is a list's, or has a fault
abbrev pub HasListOrFault : Type 0
HasListOrFault = (text : List ℕ) →
    ((list : FieldList) × SpellsList text list)
    ⊎ ((fault : FieldsFault) × IsFieldsFault text fault)

-- a text is that of at most one list
abbrev pub OneList : Type 0
OneList = (text : List ℕ) (list other : FieldList) →
    SpellsList text list → SpellsList text other → list ≡ other

-- a list within the limits has one text
abbrev pub OneText : Type 0
OneText = (text : List ℕ) (list : FieldList) → IsWithinLimits list →
    SpellsList text list ↔ (text ≡ list_text list)

-- a text has at most one fault
abbrev pub OneFieldsFault : Type 0
OneFieldsFault = (text : List ℕ) (fault other : FieldsFault) →
    IsFieldsFault text fault → IsFieldsFault text other → fault ≡ other

-- the text of a list has no fault
abbrev pub NoFaultOfList : Type 0
NoFaultOfList = (text : List ℕ) (list : FieldList) (fault : FieldsFault) →
    SpellsList text list → ¬ IsFieldsFault text fault

-- where a line passes a limit, a fault of the form is after its end
abbrev pub FormFaultIsAfter : Type 0
FormFaultIsAfter = (text : List ℕ) (offset place : ℕ) (long : HasLongLine text offset) →
    IsFaultOffset HasForm text place → offset + length long.line ≤ place
