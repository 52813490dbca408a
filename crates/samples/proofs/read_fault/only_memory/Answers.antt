use Rattle.std.proofs.Common.{◌≡◌, sym, ◌∙◌}
use Rattle.msg_body.specs.declared.error.MessageError.{MessageError}
use Rattle.msg_body.specs.declared.error.MessageError.TheVariants.{Memory}
use Rattle.msg_body.specs.declared.error.MessageFault.TheVariants.{Refused}
use Rattle.samples.proofs.read_fault.only_memory.Goals as goal

same_error : (a b : MessageError) → Refused a ≡ Refused b → a ≡ b
same_error a b e = cc

pub unreachable-requires : goal.unreachable-requires
unreachable-requires c = c.requires (λ is. c.in_default-error.not-Memory (same_error c.in-Refused.error Memory (sym c.in-Refused.is ∙ is)))
