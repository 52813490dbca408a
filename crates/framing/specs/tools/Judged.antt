-- What is answered to a head. No public clause cites this module.
use Rattle.std.specs.Prelude.{◌≡◌, Bool, Result, Ok, Err}
use Rattle.msg_head.specs.Heads.{Head}
use Rattle.framing.specs.declared.error.FramingError.{FramingError}
use Rattle.framing.specs.declared.read.Framed.{Framed}
use Rattle.framing.specs.Framings.{IsFramable, framing_of, content_length_of}
use Rattle.framing.specs.Causes.{IsFramingError}

-- the answer and the fact for which it is given
abbrev pub IsFramingAnswer : Bool → Head → Result Framed FramingError → Type 0
IsFramingAnswer to_head head (Ok framed) =
    IsFramable head × (framed.framing ≡ framing_of to_head head)
    × (framed.length ≡ content_length_of head)
IsFramingAnswer to_head head (Err error) = IsFramingError head error
