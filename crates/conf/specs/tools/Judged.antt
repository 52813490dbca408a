-- What the steps of the reader answer. No public clause cites this module.
use Rattle.std.specs.Prelude.{◌≡◌, ◌<◌, ℕ, Bool, Option, IsTrue, option_map, List, ⊤}
use Rattle.std.specs.List.{find}
use Rattle.byte_grammar.specs.Causes.{IsFirst}
use Rattle.toml.specs.Data.{Data, Members}
use Rattle.conf.specs.declared.fault.ConfFault.{ConfFault}
use Rattle.conf.specs.declared.fault.ConfFault.TheVariants as fault
use Rattle.conf.specs.declared.judge.RowFault.{RowFault}
use Rattle.conf.specs.declared.judge.ValueTest.{ValueTest}
use Rattle.conf.specs.declared.judge.ValueTest.TheVariants.{HasType, IsAllowed}
use Rattle.conf_values.specs.declared.table.ValueRule.{ValueRule}
use Rattle.conf_values.specs.Values.{has_type, is_allowed}
use Rattle.conf.specs.declared.judge.RowFault.TheVariants.{WrongType, OutOfRange, Missing}
use Rattle.conf_values.specs.declared.table.TableName.{TableName}
use Rattle.conf.specs.Table.{Row, rows, places, place_path, has_unknown, is_missing}
use Rattle.conf.specs.Paths.{HoldsOfNone}
use Rattle.conf.specs.Rows.{is_ill_typed, is_out_of_range}
use Rattle.conf.specs.Meaning.{IsDocument}
use Rattle.conf.specs.Refusals.{IsCauseIn, fault_number}

-- where the text is no document
abbrev pub IsNotToml : List ℕ → ConfFault → Type 0
IsNotToml text fault.Memory = ⊤
IsNotToml text fault.NotToml = (document : Members) → ¬ IsDocument text document
IsNotToml text fault = ⊥

-- the value passes the test
abbrev pub passes_test : ValueTest → Members → ValueRule → Data → Bool
passes_test HasType document rule value = has_type rule value
passes_test IsAllowed document rule value = is_allowed document rule value

-- the fault that it is at a path
abbrev pub fault_of : RowFault → List ℕ → ConfFault
fault_of WrongType path = fault.WrongType path
fault_of OutOfRange path = fault.OutOfRange path
fault_of Missing path = fault.Missing path

abbrev pub row_fault_number : RowFault → ℕ
row_fault_number WrongType = 4
row_fault_number OutOfRange = 5
row_fault_number Missing = 9

abbrev pub is_refused : RowFault → Members → Row → Bool
is_refused WrongType document row = is_ill_typed document row
is_refused OutOfRange document row = is_out_of_range document row
is_refused Missing document row = is_missing document row

-- the path of the first row that passes the test
abbrev pub first_path : (Row → Bool) → List Row → Option (List ℕ)
first_path test rows = option_map (λ row. row.path) (find test rows)

-- the path of the first place that passes the test
abbrev pub first_place : (TableName → Bool) → List TableName → Option (List ℕ)
first_place test places = option_map place_path (find test places)

-- a fault of the number whose cause holds, or out of memory
abbrev pub IsCauseNumbered : ℕ → Members → ConfFault → Type 0
IsCauseNumbered n document fault.Memory = ⊤
IsCauseNumbered n document fault = (fault_number fault ≡ n) × IsCauseIn document fault

-- the first fault whose cause holds, or out of memory
abbrev pub IsFirstIn : Members → ConfFault → Type 0
IsFirstIn document fault.Memory = ⊤
IsFirstIn document fault = IsFirst fault_number (IsCauseIn document) fault

-- what stands of a document once its keys and values are judged
pub record IsJudged (document : Members) : Type 0 where
  pub known : HoldsOfNone (λ place. IsTrue (has_unknown document place)) places
  pub typed : HoldsOfNone (λ row. IsTrue (is_ill_typed document row)) rows
  pub allowed : HoldsOfNone (λ row. IsTrue (is_out_of_range document row)) rows

-- no cause of a number below holds
abbrev pub IsClearBelow : ℕ → Members → Type 0
IsClearBelow n document = (other : ConfFault) → fault_number other < n → ¬ IsCauseIn document other
