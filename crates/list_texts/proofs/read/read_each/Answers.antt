use Rattle.std.proofs.Common.{List, ◌∷◌, ◌++◌, [], ap, sym, subst, ◌∙◌}
use Rattle.list_texts.specs.declared.list.Field.{Field}
use Rattle.list_texts.specs.tools.FieldWalk.{field_view, fields_step}
use Rattle.list_texts.specs.tools.Judged.{AreRead}
use Rattle.list_texts.proofs.EachLaws.{stops, no_field, read_err, read_last, read_more, rest_shorter}
use Rattle.list_texts.proofs.read.read_each.Goals as goal

pub fields-init : goal.fields-init
fields-init c =
    subst (λ (fs : List Field). AreRead c.args.first c.args.word.now c.args.bytes.now fs c.args.bytes.now) (sym c.new-fields.ensures)
    (no_field (fields_step c.args.first c.args.word.now c.args.bytes.now))

pub returns-in_err-next : goal.returns-in_err-next
returns-in_err-next c =
    stops _ c.from_residual.result c.in_err-next.field-0.0 _ c.from_residual.ensures.1
    (read_err c.args.first c.args.word.now c.requires c.args.bytes.now c.fields.fields c.fields.left.now c.in_err-next.field-0.0 c.fields.invariant c.in_err-next.ensures)

pub returns-in-None : goal.returns-in-None
returns-in-None c =
    read_last c.args.first c.args.word.now c.requires c.args.bytes.now c.fields.fields c.fields.left.now c.in_ok-next.rest.now c.fields.invariant (rw c.in-None.is at c.in_ok-next.ensures)

pub fields-smaller : goal.fields-smaller
fields-smaller c =
    rest_shorter c.args.first c.args.word.now c.requires c.fields.left.now (field_view c.in-Some.view) c.in_ok-next.rest.now (rw c.in-Some.is at c.in_ok-next.ensures)

pub fields-preserved : goal.fields-preserved
fields-preserved c =
    let f = field_view c.in-Some.view in
    subst (λ (fs : List Field). AreRead c.args.first c.args.word.now c.args.bytes.now fs c.in_ok-next.rest.now)
    (ap (λ (g : Field). c.fields.fields ++ g ∷ []) (sym c.in_ok-field-in-Some.ensures) ∙ sym c.in_ok-push-in-Some.ensures.ok)
    (read_more c.args.first c.args.word.now c.requires c.args.bytes.now c.fields.fields c.fields.left.now f c.in_ok-next.rest.now c.fields.invariant (rw c.in-Some.is at c.in_ok-next.ensures))
