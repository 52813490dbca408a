-- The words that output has for what a head is refused for its framing.
use Rattle.std.specs.Prelude.{ℕ, List, codes}
use Rattle.framing.specs.declared.error.FramingError.{FramingError}
use Rattle.framing.specs.declared.error.FramingError.TheVariants.{Conflict, BadLength, CodingRefused}

-- the word of the fault
abbrev pub framing_error_text : FramingError → List ℕ
framing_error_text Conflict = codes "framing"
framing_error_text BadLength = codes "length"
framing_error_text CodingRefused = codes "coding"
