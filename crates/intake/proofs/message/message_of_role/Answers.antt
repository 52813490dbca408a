use Rattle.intake.proofs.Stopping.{error_stop}
use Rattle.intake.proofs.Texts.{all_bytes}
use Rattle.std.proofs.Common.{arith}
use Rattle.intake.proofs.message.message_of_role.Goals as goal

pub returns-in-Ok-clause-ok : goal.returns-in-Ok-clause-ok
returns-in-Ok-clause-ok c = record {
  are_bytes = all_bytes c.args.input.now (λ i. omega (arith, c.type_inv.input i));
  within = c.requires;
  whole = c.in-Ok.ensures.whole;
}

pub returns-in-Err-clause-refused : goal.returns-in-Err-clause-refused
returns-in-Err-clause-refused c =
    rw c.of_message.ensures (error_stop c.args.reading c.args.role c.args.input.now c.in-Err.fault c.requires c.in-Err.ensures.fault)
