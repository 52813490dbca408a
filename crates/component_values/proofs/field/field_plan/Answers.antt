use Rattle.std.proofs.Common.{◌≡◌, Bool, Err, filter, sym, ◌∙◌, refl, subst}
use Rattle.derived_values.specs.declared.lack.Lack.TheVariants.{Absent}
use Rattle.msg_head.specs.Names.{has_name}
use Rattle.msg_body.specs.Views.{message_of, lines_on}
use Rattle.component_ids.specs.Types.{kind_in}
use Rattle.msg_body.proofs.FoundLines.{none_there, some_there}
use Rattle.component_values.specs.Forms.{Form}
use Rattle.component_values.specs.Values.{FormRow, LineRow, side_of}
use Rattle.component_values.specs.tools.Rows.{PlansRow}
use Rattle.component_values.proofs.field.field_plan.Goals as goal

pub returns-then-is_empty-clause-row : goal.returns-then-is_empty-clause-row
returns-then-is_empty-clause-row c =
    let id = c.args.id.now in
    let lines = lines_on (side_of id.params) (message_of c.args.message.now) in
    let kind = kind_in c.args.context.now.types.now id.name in
    let found : c.lines_named-found.result ≡ filter (has_name id.name) lines = rw c.bytes.ensures at (rw c.side_of.ensures at c.lines_named-found.ensures) in
    let none = none_there lines c.lines_named-found.result id.name found (sym c.is_empty.ensures ∙ c.if-is_empty.true) in
    subst (λ (b : Bool). LineRow b id.params kind lines id.name (Err Absent)) (sym none) refl

pub returns-clause-row : goal.returns-clause-row
returns-clause-row c =
    let id = c.args.id.now in
    let lines = lines_on (side_of id.params) (message_of c.args.message.now) in
    let kind = kind_in c.args.context.now.types.now id.name in
    let result = c.plan_in_form.result in
    let found : c.lines_named-found.result ≡ filter (has_name id.name) lines = rw c.bytes.ensures at (rw c.side_of.ensures at c.lines_named-found.ensures) in
    let one = some_there lines c.lines_named-found.result id.name found (sym c.is_empty.ensures ∙ c.if-is_empty.false) in
    let formed = subst (λ (f : Form). PlansRow (FormRow f kind lines id.name) result) c.form_of.ensures (c.plan_in_form.ensures.row lines found) in
    subst (λ (b : Bool). PlansRow (LineRow b id.params kind lines id.name) result) (sym one) formed
