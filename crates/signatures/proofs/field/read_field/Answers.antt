use Rattle.std.proofs.Common.{◌≡◌, ℕ, List, true, sym, ap, subst, ◌∙◌}
use Rattle.std.proofs.lemmas.Bool.{false≢true}
use Rattle.sfv_read.specs.Reads.{ReadsDict}
use Rattle.msg_head.specs.declared.error.Side.TheVariants.{Header}
use Rattle.msg_body.specs.Views.{message_of, lines_on}
use Rattle.msg_head.specs.Values.{is_there, joined_value, combined_value}
use Rattle.msg_body.proofs.FoundLines.{none_there, some_there}
use Rattle.signatures.proofs.Reading.{unread_field}
use Rattle.signatures.proofs.field.read_field.Goals as goal

pub returns-then-is_empty : goal.returns-then-is_empty
returns-then-is_empty c = λ has.
    let message = message_of c.args.view.now in
    let none = none_there (lines_on Header message) c.lines_named-lines.result c.args.name.now c.lines_named-lines.ensures (sym c.is_empty.ensures ∙ c.if-is_empty.true) in
    false≢true (sym none ∙ has)

pub returns-in-Ok : goal.returns-in-Ok
returns-in-Ok c =
    let message = message_of c.args.view.now in
    let there = some_there (lines_on Header message) c.lines_named-lines.result c.args.name.now c.lines_named-lines.ensures (sym c.is_empty.ensures ∙ c.if-is_empty.false) in
    let text_is : c.bytes.result.now ≡ combined_value (lines_on Header message) c.args.name.now =
    c.bytes.ensures ∙ (c.in_ok-value.ensures ∙ ap joined_value c.lines_named-lines.ensures) in
    record { there = there; reads = subst (λ (t : List ℕ). ReadsDict t c.in-Ok.dict) text_is c.in-Ok.ensures.ok }

pub returns : goal.returns
returns c =
    let message = message_of c.args.view.now in
    let there : is_there (lines_on Header message) c.args.name.now ≡ true =
    some_there (lines_on Header message) c.lines_named-lines.result c.args.name.now c.lines_named-lines.ensures (sym c.is_empty.ensures ∙ c.if-is_empty.false) in
    unread_field message c.args.name.now c.bytes.result.now there (c.bytes.ensures ∙ (c.in_ok-value.ensures ∙ ap joined_value c.lines_named-lines.ensures)) (rw c.in-Err-Syntax.field-0-is at c.in-Err-Syntax.ensures.only)
