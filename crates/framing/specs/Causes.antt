-- Why a head is refused for its framing.
use Rattle.std.specs.Prelude.{ℕ, IsTrue, IsFalse}
use Rattle.byte_grammar.specs.Causes.{IsFirst}
use Rattle.msg_head.specs.Heads.{Head}
use Rattle.framing.specs.declared.error.FramingError.{FramingError}
use Rattle.framing.specs.declared.error.FramingError.TheVariants.{Conflict, BadLength, CodingRefused}
use Rattle.framing.specs.Framings.{is_conflict, are_accepted_lengths, are_accepted_codings, codings_of, lengths_of, version_of}

-- the fact for which the error is answered
abbrev pub IsFramingCause : Head → FramingError → Type 0
IsFramingCause head Conflict = IsTrue (is_conflict head)
IsFramingCause head BadLength = IsFalse (are_accepted_lengths (lengths_of head))
IsFramingCause head CodingRefused =
    IsFalse (are_accepted_codings (version_of head.start) (codings_of head))

-- the order in which the causes are judged
abbrev pub framing_order : FramingError → ℕ
framing_order Conflict = 0
framing_order BadLength = 1
framing_order CodingRefused = 2

-- the error's cause is the first that holds
abbrev pub IsFramingError : Head → FramingError → Type 0
IsFramingError head error = IsFirst framing_order (IsFramingCause head) error
