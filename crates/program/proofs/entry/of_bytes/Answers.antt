use Rattle.std.proofs.Common.{arith}
use Rattle.intake.proofs.Texts.{all_bytes}
use Rattle.program.proofs.entry.of_bytes.Goals as goal

pub returns-clause-are : goal.returns-clause-are
returns-clause-are c = all_bytes c.args.bytes.now (λ i. omega (arith, c.type_inv.bytes i))
