-- Laws of framings.
use Rattle.std.specs.Prelude.{◌≡◌, ◌⊎◌, ◌<◌, ◌^◌}
use Rattle.msg_head.specs.Heads.{Head}
use Rattle.framing.specs.declared.error.FramingError.{FramingError}
use Rattle.framing.specs.declared.limits.TheConstants.{MAX_LENGTH_DIGITS}
use Rattle.framing.specs.Framings.{IsFramable, content_length_of}
use Rattle.framing.specs.Causes.{IsFramingError}

-- A head is framable, or it has an error.
abbrev pub HasFramingAnswer : Type 0
HasFramingAnswer =
    (head : Head) → IsFramable head ⊎ ((error : FramingError) × IsFramingError head error)

-- A head that is framable has no error.
abbrev pub NoErrorWhereFramable : Type 0
NoErrorWhereFramable =
    (head : Head) (error : FramingError) → IsFramable head → ¬ IsFramingError head error

-- A head has at most one error.
abbrev pub OneFramingError : Type 0
OneFramingError =
    (head : Head) (error other : FramingError) →
    IsFramingError head error → IsFramingError head other → error ≡ other

-- The length of a head that is framable has no more digits than a length may have.
abbrev pub IsLengthBounded : Type 0
IsLengthBounded =
    (head : Head) → IsFramable head → content_length_of head < 10 ^ MAX_LENGTH_DIGITS
