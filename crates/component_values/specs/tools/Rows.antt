-- What the parts of the code answer. No public clause cites this module but the view of `Prepared`.
use Rattle.std.specs.Prelude.{⊤, ℕ, List, Result, Ok, Err}
use Rattle.msg_head.specs.Values.{line_values, joined_value}
use Rattle.component_values.specs.Values.{byte_sequences}
use Rattle.derived_values.specs.declared.lack.Lack.{Lack}
use Rattle.derived_values.specs.declared.lack.NoValue.{NoValue}
use Rattle.derived_values.specs.declared.lack.NoValue.TheVariants.{Memory, Lacks}
use Rattle.component_values.specs.declared.fault.ValueFault.{ValueFault}
use Rattle.component_values.specs.declared.fault.ValueFault.TheVariants as fault
use Rattle.component_values.specs.Forms as spec
use Rattle.component_values.specs.declared.form.Form.{Form}
use Rattle.component_values.specs.declared.form.Form.TheVariants as form
use Rattle.component_values.specs.declared.context_field.ContextField.{ContextField}
use Rattle.component_values.specs.declared.context_field.FieldRef.{FieldRef}
use Rattle.component_values.specs.declared.plan.Plan.{Plan}
use Rattle.component_values.specs.declared.plan.Plan.TheVariants as plan

-- the text that is fed
abbrev pub planned_text : Plan → List ℕ
planned_text (plan.Piece value) = value.now
planned_text (plan.Combined lines) = joined_value lines
planned_text (plan.ByteSequences lines) = byte_sequences (line_values lines)
planned_text (plan.Derived text) = text
planned_text (plan.Text text) = text

-- what the row says, of an answer that plans the value
abbrev pub PlansRow : (Result (List ℕ) Lack → Type 0) → Result Plan NoValue → Type 0
PlansRow Row (Ok found) = Row (Ok (planned_text found))
PlansRow Row (Err (Lacks lack)) = Row (Err lack)
PlansRow Row (Err Memory) = ⊤

-- the form that the code's stands for
abbrev pub form_meant : Form → spec.Form
form_meant form.ByteSequences = spec.wrapped
form_meant (form.Member key) = spec.member key.now
form_meant form.Strict = spec.strict
form_meant form.Plain = spec.plain

-- the fault of the component at the index
abbrev pub lack_fault_at : ℕ → NoValue → ValueFault
lack_fault_at index Memory = fault.Memory
lack_fault_at index (Lacks lack) = fault.Lacks index lack

-- the field that the borrowed one stands for
abbrev pub field_meant : FieldRef → ContextField
field_meant field = record {
  of_related = field.of_related;
  side = field.side;
  name = field.name.now;
}
