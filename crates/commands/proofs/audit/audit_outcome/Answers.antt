use Rattle.std.proofs.Common.{arith, inl, rules}
use Rattle.std.proofs.lemmas.Result.{err_from_is_err_and}
use Rattle.conf.specs.ConfMeaning.{meaning}
use Rattle.commands.proofs.Auditing.{chain_stop}
use Rattle.commands.proofs.RecordedTexts.{recording_stop}
use Rattle.intake.proofs.Texts.{all_bytes}
use Rattle.commands.proofs.audit.audit_outcome.Goals as goal

pub returns-in_err-recording-clause-report : goal.returns-in_err-recording-clause-report
returns-in_err-recording-clause-report c =
    let p = err_from_is_err_and c.from_residual.result c.from_residual.ensures.1 in
    rw (p.1, p.2) (recording_stop (meaning c.args.conf.now) c.args.input.now c.in_err-recording.field-0.0 c.requires c.in_err-recording.ensures.fault)

pub returns-in_err-lines-clause-report : goal.returns-in_err-lines-clause-report
returns-in_err-lines-clause-report c =
    let p = err_from_is_err_and c.from_residual-in_err-lines.result c.from_residual-in_err-lines.ensures.1 in
    rw (p.1, p.2) (chain_stop (meaning c.args.conf.now) c.args.input.now c.in_ok-recording.recording c.in_err-lines.field-0.0 (record { are_bytes = all_bytes c.args.input.now (λ i. omega (arith, c.type_inv.input i)); within = c.requires; spells = c.in_ok-recording.ensures.ok })
    c.in_err-lines.ensures.fault)

pub returns-clause-report : goal.returns-clause-report
returns-clause-report c =
    inl (
      c.in_ok-recording.recording,
      record { are_bytes = all_bytes c.args.input.now (λ i. omega (arith, c.type_inv.input i)); within = c.requires; spells = c.in_ok-recording.ensures.ok },
      search rules,
    )
