-- When a text is no configuration, and for what fault.
use Rattle.std.specs.Prelude.{ℕ, Option, Some, None, IsTrue, List, ◌∷◌, ◌++◌, codes}
use Rattle.std.specs.List.{Any}
use Rattle.std.specs.Fmt.{decimal}
use Rattle.std.specs.Str.{byte}
use Rattle.byte_grammar.specs.Causes.{IsFirst}
use Rattle.byte_grammar.specs.Displayed.{displayed}
use Rattle.component_ids.specs.declared.id.ComponentId.{ComponentId}
use Rattle.toml.specs.Data.{Data, Members, string, array, table, get_member}
use Rattle.conf.specs.declared.fault.ConfFault.{ConfFault}
use Rattle.conf.specs.declared.fault.ConfFault.TheVariants.{Memory, NotToml, UnknownKey, WrongType, OutOfRange, BadKeyText, BadComponents, BadScript, Missing}
use Rattle.conf_values.specs.declared.table.ValueRule.{ValueRule}
use Rattle.conf_values.specs.declared.table.ValueRule.TheVariants.{Keys, Components, Steps}
use Rattle.conf.specs.Table.{Row, rows, places, place_path, row_value, HoldsOfValue, has_unknown, is_missing}
use Rattle.settings.specs.Covered.{IsCoveredList}
use Rattle.conf_values.specs.Parts.{values_of}
use Rattle.conf_values.specs.Values.{IsBadStep, IsKeyText}
use Rattle.conf.specs.Paths.{HoldsAtPath, IsLeast}
use Rattle.conf.specs.Rows.{is_ill_typed, is_out_of_range}
use Rattle.conf.specs.Meaning.{IsDocument}

-- the path is the least of a key of which the fact holds
abbrev pub IsLeastRow : (Row → Type 0) → List ℕ → Type 0
IsLeastRow P path = IsLeast (HoldsAtPath (λ row. row.path) P rows) path

-- the text of a keyid is that of no key
abbrev pub IsBadKeyText : Option Data → Type 0
IsBadKeyText (Some (string text)) = (key : List ℕ) → ¬ IsKeyText text key
IsBadKeyText value = ⊥

-- some keyid has a text that is no key's
abbrev pub HasBadKeyText : ValueRule → Option Data → Type 0
HasBadKeyText Keys (Some (table pairs)) =
    (keyid : List ℕ) × IsBadKeyText (get_member keyid pairs)
HasBadKeyText rule value = ⊥

-- the text of a covered list is that of no such list
abbrev pub IsBadList : ValueRule → Option Data → Type 0
IsBadList Components (Some (string text)) = (ids : List ComponentId) → ¬ IsCoveredList text ids
IsBadList rule value = ⊥

-- one of the strings is the line of no step
abbrev pub HasBadStep : ValueRule → Option Data → Type 0
HasBadStep Steps (Some (array items)) = Any IsBadStep (values_of items)
HasBadStep rule value = ⊥

-- the fact for which the fault is answered, of a document
abbrev pub IsCauseIn : Members → ConfFault → Type 0
IsCauseIn document (UnknownKey path) =
    IsLeast (HoldsAtPath place_path (λ place. IsTrue (has_unknown document place)) places) path
IsCauseIn document (WrongType path) = IsLeastRow (λ row. IsTrue (is_ill_typed document row)) path
IsCauseIn document (OutOfRange path) =
    IsLeastRow (λ row. IsTrue (is_out_of_range document row)) path
IsCauseIn document (BadKeyText path) =
    IsLeastRow (λ row. HasBadKeyText row.rule (row_value document row)) path
IsCauseIn document (BadComponents path) =
    IsLeastRow (λ row. HoldsOfValue (IsBadList row.rule) document row) path
IsCauseIn document (BadScript path) =
    IsLeastRow (λ row. HasBadStep row.rule (row_value document row)) path
IsCauseIn document (Missing path) = IsLeastRow (λ row. IsTrue (is_missing document row)) path
IsCauseIn document fault = ⊥

-- of a text: it is no document, or the fact holds of its document; being out of memory is none
abbrev pub IsConfCause : List ℕ → ConfFault → Type 0
IsConfCause text NotToml = (document : Members) → ¬ IsDocument text document
IsConfCause text fault = (document : Members) × IsDocument text document × IsCauseIn document fault

-- the numbers of the faults, in whose order they are judged
abbrev pub fault_number : ConfFault → ℕ
fault_number Memory = 1
fault_number NotToml = 2
fault_number (UnknownKey path) = 3
fault_number (WrongType path) = 4
fault_number (OutOfRange path) = 5
fault_number (BadKeyText path) = 6
fault_number (BadComponents path) = 7
fault_number (BadScript path) = 8
fault_number (Missing path) = 9

-- the fault's cause is the first that holds
abbrev pub IsConfFault : List ℕ → ConfFault → Type 0
IsConfFault text fault = IsFirst fault_number (IsConfCause text) fault

-- where a fault is
abbrev pub fault_path : ConfFault → Option (List ℕ)
fault_path Memory = None
fault_path NotToml = None
fault_path (UnknownKey path) = Some path
fault_path (WrongType path) = Some path
fault_path (OutOfRange path) = Some path
fault_path (BadKeyText path) = Some path
fault_path (BadComponents path) = Some path
fault_path (BadScript path) = Some path
fault_path (Missing path) = Some path

-- a number, and a path after a space
abbrev pub numbered_text : ℕ → Option (List ℕ) → List ℕ
numbered_text number None = decimal number
numbered_text number (Some path) = decimal number ++ byte " " ∷ displayed path

-- what a fault says: its number and its path
abbrev pub conf_fault_text : ConfFault → List ℕ
conf_fault_text Memory = codes "out of memory"
conf_fault_text fault = numbered_text (fault_number fault) (fault_path fault)
