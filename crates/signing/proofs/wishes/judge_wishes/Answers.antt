use Rattle.std.proofs.Common.{sym, subst, ◌∙◌}
use Rattle.std.proofs.lemmas.Bool.{false≢true}
use Rattle.msg_body.specs.Views.{message_of}
use Rattle.settings.specs.ConfMeaning.{meaning}
use Rattle.signing.specs.Wishes.{wish_name}
use Rattle.signatures.specs.declared.field.DictField.{DictField}
use Rattle.signatures.specs.Fields.{IsFieldOf}
use Rattle.signing.proofs.Fields.{members_in_range}
use Rattle.signing.proofs.Wanting.{no_field, bad_field, no_wishes, wishes_answered}
use Rattle.signing.proofs.wishes.judge_wishes.Goals as goal

pub returns-in-Absent : goal.returns-in-Absent
returns-in-Absent c =
    let message = message_of c.args.view.now in
    no_field (meaning c.args.conf.now) c.args.now message (subst (λ (f : DictField). IsFieldOf message wish_name f) c.in-Absent.is c.in_ok-read_field.ensures)

pub returns-in-Malformed : goal.returns-in-Malformed
returns-in-Malformed c =
    let message = message_of c.args.view.now in
    bad_field (meaning c.args.conf.now) c.args.now message (subst (λ (f : DictField). IsFieldOf message wish_name f) c.in-Malformed.is c.in_ok-read_field.ensures)

pub returns-then-is_empty : goal.returns-then-is_empty
returns-then-is_empty c =
    let message = message_of c.args.view.now in
    no_wishes (meaning c.args.conf.now) c.args.now message c.in-Dict.wishes (subst (λ (f : DictField). IsFieldOf message wish_name f) c.in-Dict.is c.in_ok-read_field.ensures) (c.is_empty.ensures.0 c.if-is_empty.true)

pub specs_of_wishes-requires-clause-in_range : goal.specs_of_wishes-requires-clause-in_range
specs_of_wishes-requires-clause-in_range c =
    let message = message_of c.args.view.now in
    rw c.as_slice.ensures.is (members_in_range message wish_name c.in-Dict.wishes (subst (λ (f : DictField). IsFieldOf message wish_name f) c.in-Dict.is c.in_ok-read_field.ensures))

pub returns : goal.returns
returns c =
    let message = message_of c.args.view.now in
    wishes_answered (meaning c.args.conf.now) c.args.now message c.in-Some.sign.now (sym c.in-Some.ensures.is) c.in-Dict.wishes (subst (λ (f : DictField). IsFieldOf message wish_name f) c.in-Dict.is c.in_ok-read_field.ensures)
    (λ e. false≢true (sym c.if-is_empty.false ∙ c.is_empty.ensures.1 e)) c.specs_of_wishes.result (rw c.as_slice.ensures.is at c.specs_of_wishes.ensures)
