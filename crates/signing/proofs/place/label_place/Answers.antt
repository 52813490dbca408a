use Rattle.std.proofs.Common.{sym, subst, ◌∙◌}
use Rattle.std.proofs.lemmas.Bool.{false≢true}
use Rattle.msg_body.specs.Views.{message_of}
use Rattle.signatures.specs.declared.field.DictField.{DictField}
use Rattle.signatures.specs.Fields.{IsFieldOf}
use Rattle.signing.proofs.Fields.{malformed_place, empty_place, taken_place, free_place}
use Rattle.signing.proofs.place.label_place.Goals as goal

pub returns-in-Malformed : goal.returns-in-Malformed
returns-in-Malformed c =
    let message = message_of c.args.message.now in
    malformed_place message c.args.name.now c.args.label.now (subst (λ (f : DictField). IsFieldOf message c.args.name.now f) c.in-Malformed.is c.in_ok-read_field.ensures)

pub returns-then-is_empty : goal.returns-then-is_empty
returns-then-is_empty c =
    let message = message_of c.args.message.now in
    empty_place message c.args.name.now c.args.label.now c.in-Dict.dict (subst (λ (f : DictField). IsFieldOf message c.args.name.now f) c.in-Dict.is c.in_ok-read_field.ensures)
    (c.is_empty.ensures.0 c.if-is_empty.true)

pub returns-in-Some : goal.returns-in-Some
returns-in-Some c =
    let message = message_of c.args.message.now in
    taken_place message c.args.name.now c.args.label.now c.in-Dict.dict (subst (λ (f : DictField). IsFieldOf message c.args.name.now f) c.in-Dict.is c.in_ok-read_field.ensures)
    (λ e. false≢true (sym c.if-is_empty.false ∙ c.is_empty.ensures.1 e)) c.in-Some.field-0.now (sym c.in-Some.ensures)

pub returns : goal.returns
returns c =
    let message = message_of c.args.message.now in
    free_place message c.args.name.now c.args.label.now c.in-Dict.dict (subst (λ (f : DictField). IsFieldOf message c.args.name.now f) c.in-Dict.is c.in_ok-read_field.ensures)
    (λ e. false≢true (sym c.if-is_empty.false ∙ c.is_empty.ensures.1 e)) (sym c.in-None.ensures)
