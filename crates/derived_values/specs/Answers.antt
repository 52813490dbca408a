-- What is answered of a component.
use Rattle.std.specs.Prelude.{⊤, ℕ, List, Result, Ok, Err}
use Rattle.sfv_read.specs.declared.error.SfError.{SfError}
use Rattle.sfv_read.specs.declared.error.SfError.TheVariants as sf
use Rattle.derived_values.specs.declared.lack.Lack.{Lack}
use Rattle.derived_values.specs.declared.lack.Lack.TheVariants.{Unreadable}
use Rattle.derived_values.specs.declared.lack.NoValue.{NoValue}
use Rattle.derived_values.specs.declared.lack.NoValue.TheVariants.{Memory, Lacks}

-- why a text that isn't read gives no value
abbrev pub no_value_of : SfError → NoValue
no_value_of sf.Memory = Memory
no_value_of (sf.Syntax offset) = Lacks Unreadable

-- the answer is what the row says, unless memory ran out
abbrev pub AnswersRow : (Result (List ℕ) Lack → Type 0) → Result (List ℕ) NoValue → Type 0
AnswersRow Row (Ok value) = Row (Ok value)
AnswersRow Row (Err (Lacks lack)) = Row (Err lack)
AnswersRow Row (Err Memory) = ⊤
