-- What a message gives for its list, part by part. No public clause cites this module.
use Rattle.std.specs.Prelude.{◌≡◌, ◌≢◌, ⊤, ℕ, IsTrue, is_err, Option, Some, None, List, Result, Ok, Err}
use Rattle.derived_values.specs.Authorities.{IsAuthorityValue}
use Rattle.derived_values.specs.Targets.{TargetParts, SpellsTarget, has_path}
use Rattle.derived_values.specs.declared.lack.Lack.{Lack}
use Rattle.derived_values.specs.Derived.{AuthorityRow, TargetAuthorityRow}
use Rattle.component_values.specs.Context.{MessageContext}
use Rattle.msg_head.specs.Starts.{RequestLine}
use Rattle.list_texts.specs.declared.list.Field.{Field}
use Rattle.list_texts.specs.declared.list.FieldList.{FieldList}
use Rattle.field_lists.specs.declared.from_fault.FromFault.{FromFault}
use Rattle.field_lists.specs.declared.from_fault.FromFault.TheVariants.{Memory, NoForm, NoAuthority}
use Rattle.field_lists.specs.declared.into_list.RequestTexts.{RequestTexts}
use Rattle.field_lists.specs.Controls.{Control, RequestControl}
use Rattle.field_lists.specs.FromCauses.{HasNoForm, IsFromFault}
use Rattle.field_lists.specs.FromMessages.{IsControlOf, IsRequestOf, TurnsIntoList, pseudo_fields, request_parts}

-- the control data that the texts say
abbrev pub control_in : RequestTexts → RequestControl
control_in texts = record {
  method = texts.method;
  scheme = texts.scheme;
  authority = texts.authority;
  path = texts.path;
}

-- the authority is named in this way, or in none
abbrev pub GivesText : Result (List ℕ) Lack → Option (List ℕ) → Type 0
GivesText named (Some text) = named ≡ Ok text
GivesText named None = IsTrue (is_err named)

-- the authority that is named has a value under the scheme, or it lacks one
abbrev pub GivesAuthority : Result (List ℕ) Lack → List ℕ → Result (List ℕ) FromFault → Type 0
GivesAuthority named scheme (Ok text) =
    (named ≡ Ok text) × ((value : List ℕ) × IsAuthorityValue scheme text value)
GivesAuthority named scheme (Err NoAuthority) =
    (lack : Lack) × AuthorityRow scheme named (Err lack)
GivesAuthority named scheme (Err NoForm) = ⊥
GivesAuthority named scheme (Err Memory) = ⊤

-- the target has a path, and its authority lacks a value
pub record LacksInTarget (context : MessageContext) (line : RequestLine) : Type 0 where
  pub target : TargetParts
  pub spells : SpellsTarget line.method line.target target
  pub form : IsTrue (has_path target.form)
  pub lack : Lack
  pub row : TargetAuthorityRow (request_parts context line) target (Err lack)

-- the control data of a request line, or the first fault
abbrev pub GivesRequest : MessageContext → RequestLine → Result RequestTexts FromFault → Type 0
GivesRequest context line (Ok texts) = IsRequestOf context line (control_in texts)
GivesRequest context line (Err NoForm) = HasNoForm line
GivesRequest context line (Err NoAuthority) = LacksInTarget context line
GivesRequest context line (Err Memory) = ⊤

-- the pseudo-header fields of the message's control data, or the first fault
abbrev pub GivesFields : MessageContext → Result (List Field) FromFault → Type 0
GivesFields context (Ok fields) = (control : Control)
    × IsControlOf context context.message.head.start control × (fields ≡ pseudo_fields control)
GivesFields context (Err fault) = fault ≢ Memory → IsFromFault context fault

-- the message's list, or the first fault
abbrev pub GivesList : MessageContext → Result FieldList FromFault → Type 0
GivesList context (Ok list) = TurnsIntoList context list
GivesList context (Err fault) = fault ≢ Memory → IsFromFault context fault
