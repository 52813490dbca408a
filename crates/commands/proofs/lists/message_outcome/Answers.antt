use Rattle.std.proofs.Common.{arith, inl, refl}
use Rattle.std.proofs.lemmas.Result.{err_from_is_err_and}
use Rattle.conf.specs.ConfMeaning.{meaning}
use Rattle.commands.proofs.ListTexts.{list_stop}
use Rattle.intake.proofs.Texts.{all_bytes}
use Rattle.commands.proofs.Turning.{to_stop}
use Rattle.commands.proofs.lists.message_outcome.Goals as goal

pub returns-in_err-list-clause-report : goal.returns-in_err-list-clause-report
returns-in_err-list-clause-report c =
    let p = err_from_is_err_and c.from_residual.result c.from_residual.ensures.1 in
    rw (p.1, p.2) (list_stop (meaning c.args.conf.now) c.args.input.now c.in_err-list.field-0.0 c.requires c.in_err-list.ensures.fault)

pub to_message-message-requires : goal.to_message-message-requires
to_message-message-requires c = c.in_ok-list.ensures.ok.within.content

pub returns-in_err-message-clause-report : goal.returns-in_err-message-clause-report
returns-in_err-message-clause-report c =
    let p = err_from_is_err_and c.from_residual-in_err-message.result c.from_residual-in_err-message.ensures.1 in
    rw (p.1, p.2) (to_stop (meaning c.args.conf.now) c.args.input.now c.in_ok-list.list c.in_err-message.field-0.0
    (record { are_bytes = all_bytes c.args.input.now (λ i. omega (arith, c.type_inv.input i)); within = c.requires; spells = c.in_ok-list.ensures.ok })
    (rw c.scheme.ensures at c.in_err-message.ensures.fault))

pub returns-clause-report : goal.returns-clause-report
returns-clause-report c =
    let turned = c.in_ok-message.ensures.ok in
    inl (
      c.in_ok-list.list,
      record { are_bytes = all_bytes c.args.input.now (λ i. omega (arith, c.type_inv.input i)); within = c.requires; spells = c.in_ok-list.ensures.ok },
      inl (turned.0, rw c.scheme.ensures at turned.1, rw turned.2 refl),
    )
