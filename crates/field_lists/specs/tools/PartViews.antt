-- What is judged of the parts of a list. No public clause cites this module.
use Rattle.std.specs.Prelude.{◌≡◌, ◌≢◌, ◌⊎◌, ℕ, Bool, false, ◌&&◌, ◌||◌, ◌==◌, not, IsTrue, IsFalse, Option, Some, None, List, length, take, slice_get, IsSomeAnd, Result, Ok, Err}
use Rattle.std.specs.List.{list_all}
use Rattle.std.specs.Str.{bytes_eq}
use Rattle.std.specs.Str.Parse.{digits_value}
use Rattle.byte_grammar.specs.Classes.{is_field_name}
use Rattle.component_ids.specs.declared.scheme.Scheme.{Scheme}
use Rattle.derived_values.specs.Derived.{scheme_text}
use Rattle.framing.specs.Framings.{is_length}
use Rattle.msg_body.specs.Messages.{Message, message_text}
use Rattle.list_texts.specs.declared.list.Field.{Field}
use Rattle.list_texts.specs.declared.list.FieldList.{FieldList}
use Rattle.field_lists.specs.declared.parts.Parts.{Parts}
use Rattle.field_lists.specs.declared.to_fault.ToFault.{ToFault}
use Rattle.field_lists.specs.declared.to_fault.ToFault.TheVariants.{Memory}
use Rattle.field_lists.specs.Controls.{Control, IsOf, is_without_content, request, response}
use Rattle.field_lists.specs.ToCauses.{IsToCause, IsToFault, TurnsInto, is_good, is_refused_name}
use Rattle.field_lists.specs.tools.Views.{control_of}

-- the parts are those of their list
abbrev pub ArePartsOf : Parts → Type 0
ArePartsOf parts = IsOf parts.list.now (control_of parts.control) parts.others.now

-- the scheme is another one; a response has none
abbrev pub is_other_scheme : Scheme → Control → Bool
is_other_scheme scheme (request control) = not (bytes_eq control.scheme (scheme_text scheme))
is_other_scheme scheme (response code) = false

-- the text is no length, or isn't the content's
abbrev pub IsWrongLength : Control → FieldList → List ℕ → Type 0
IsWrongLength control list text =
    IsFalse (is_length text)
    ⊎ ((digits_value 10 text ≢ length list.content) × IsFalse (is_without_content control))

-- the same as a test
abbrev pub is_wrong_length : Control → FieldList → List ℕ → Bool
is_wrong_length control list text =
    not (is_length text)
    || (not (digits_value 10 text == length list.content) && not (is_without_content control))

-- the name, in lower case, is that of a field that is turned
abbrev pub is_good_name : List ℕ → Bool
is_good_name name = is_field_name name && not (is_refused_name name)

-- the field isn't good
abbrev pub is_bad : Field → Bool
is_bad field = not (is_good field)

-- the first of the fields that isn't good has the index, or there is none
abbrev pub FindsBad : Option ℕ → List Field → Type 0
FindsBad (Some index) fields =
    IsTrue (list_all is_good (take index fields))
    × IsSomeAnd (slice_get fields index) (λ field. IsFalse (is_good field))
FindsBad None fields = IsTrue (list_all is_good fields)

-- no cause holds, or the fault is the first one; out of memory has none
abbrev pub JudgesList : FieldList → Scheme → Result (Unit {0}) ToFault → Type 0
JudgesList list scheme (Ok _) = (fault : ToFault) → ¬ IsToCause list scheme fault
JudgesList list scheme (Err fault) = fault ≢ Memory → IsToFault list scheme fault

-- the message's text, or the first fault
abbrev pub GivesMessage : FieldList → Scheme → Result (List ℕ) ToFault → Type 0
GivesMessage list scheme (Ok text) =
    (message : Message) × TurnsInto list scheme message × (text ≡ message_text message)
GivesMessage list scheme (Err fault) = fault ≢ Memory → IsToFault list scheme fault
