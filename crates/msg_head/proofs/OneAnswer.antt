-- Whether an error of a head is out of memory.
use Rattle.std.proofs.Common.{inl, inr, refl}
use Rattle.byte_grammar.proofs.AnswerLaws.{IsMemoryDecided}
use Rattle.msg_head.specs.declared.error.HeadError.TheVariants.{Memory, TooLong, NakedEnd, BadStart, TooManyLines, BadLine}

pub memory_or_not : IsMemoryDecided Memory
memory_or_not Memory = inl refl
memory_or_not (TooLong side) = inr (λ e. cc)
memory_or_not (NakedEnd offset) = inr (λ e. cc)
memory_or_not BadStart = inr (λ e. cc)
memory_or_not (TooManyLines side) = inr (λ e. cc)
memory_or_not (BadLine side index) = inr (λ e. cc)
