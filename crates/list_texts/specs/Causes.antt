-- Why a text is no list of fields.
use Rattle.std.specs.Prelude.{◌≡◌, ◌⊎◌, ℕ, ◌<◌, List, ◌++◌, length, codes}
use Rattle.std.specs.List.{All}
use Rattle.byte_grammar.specs.Causes.{IsFirst}
use Rattle.byte_grammar.specs.FaultOffset.{IsFaultOffset}
use Rattle.byte_grammar.specs.Numbers.{IsNumber, number_line}
use Rattle.framing.specs.declared.chunk_limits.TheConstants.{MAX_CONTENT_BYTES}
use Rattle.list_texts.specs.declared.limits.TheConstants.{MAX_FIELD_BYTES}
use Rattle.list_texts.specs.declared.list.Field.{Field}
use Rattle.list_texts.specs.declared.list.FieldList.{FieldList}
use Rattle.list_texts.specs.declared.fault.FieldsFault.{FieldsFault}
use Rattle.list_texts.specs.declared.fault.FieldsFault.TheVariants.{Memory, Syntax, TooLong}
use Rattle.list_texts.specs.Lists.{numbers_line, fields_text, items_text, HasForm, IsShort, IsWithinLimits}

-- the line says that a name or a value has more bytes than it may have
pub record IsLongField (word line : List ℕ) : Type 0 where
  pub name : ℕ
  pub value : ℕ
  pub is : line ≡ numbers_line word name value
  pub name_number : IsNumber name
  pub value_number : IsNumber value
  pub long : (MAX_FIELD_BYTES < name) ⊎ (MAX_FIELD_BYTES < value)

-- the line says that the content has more bytes than it may have
pub record IsLongContent (line : List ℕ) : Type 0 where
  pub size : ℕ
  pub is : line ≡ number_line (codes "content ") size
  pub number : IsNumber size
  pub long : MAX_CONTENT_BYTES < size

-- before the line come fields, and it is that of a field or of the content
pub record IsLongAfterFields (before line : List ℕ) : Type 0 where
  pub fields : List Field
  pub short : All IsShort fields
  pub before_is : before ≡ fields_text fields
  pub long : IsLongField (codes "field ") line ⊎ IsLongContent line

-- before the line come fields, content and trailer fields, and it is that of a trailer field
pub record IsLongAfterContent (before line : List ℕ) : Type 0 where
  pub list : FieldList
  pub within : IsWithinLimits list
  pub before_is : before ≡ items_text list
  pub long : IsLongField (codes "trailer ") line

-- After what is within the limits such a line is at this offset. Nothing is said of what comes
-- after the line.
pub record HasLongLine (text : List ℕ) (offset : ℕ) : Type 0 where
  pub before : List ℕ
  pub line : List ℕ
  pub more : List ℕ
  pub joined : text ≡ before ++ (line ++ more)
  pub long : IsLongAfterFields before line ⊎ IsLongAfterContent before line
  pub place : offset ≡ length before

-- the fact for which the fault is answered; being out of memory is none of them
abbrev pub IsFieldsCause : List ℕ → FieldsFault → Type 0
IsFieldsCause text (TooLong offset) = HasLongLine text offset
IsFieldsCause text (Syntax offset) = IsFaultOffset HasForm text offset
IsFieldsCause text Memory = ⊥

-- The order in which the causes are judged. It is that from the left: a fault of the form is after
-- the end of a line that passes a limit.
abbrev pub fields_order : FieldsFault → ℕ
fields_order Memory = 0
fields_order (TooLong offset) = 1
fields_order (Syntax offset) = 2

-- the fault's cause is the first that holds
abbrev pub IsFieldsFault : List ℕ → FieldsFault → Type 0
IsFieldsFault text fault = IsFirst fields_order (IsFieldsCause text) fault
