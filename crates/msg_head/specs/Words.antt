-- The words that output has for what a head or a trailer section is refused for.
use Rattle.std.specs.Prelude.{ℕ, List, ◌++◌, codes}
use Rattle.std.specs.Fmt.{decimal}
use Rattle.msg_head.specs.declared.limits.TheConstants.{MAX_HEAD_BYTES, MAX_HEAD_LINES}
use Rattle.msg_head.specs.declared.error.Side.{Side}
use Rattle.msg_head.specs.declared.error.Side.TheVariants.{Header, Trailer}
use Rattle.msg_head.specs.declared.error.HeadError.{HeadError}
use Rattle.msg_head.specs.declared.error.HeadError.TheVariants.{Memory, TooLong, NakedEnd, BadStart, TooManyLines, BadLine}

-- how a section of field lines is called
abbrev pub side_text : Side → List ℕ
side_text Header = codes "head"
side_text Trailer = codes "trailer"

-- the word of the fault, with the limit that is passed, or where the fault is
abbrev pub head_error_text : HeadError → List ℕ
head_error_text Memory = codes "out of memory"
head_error_text (TooLong side) = side_text side ++ (codes "-bytes " ++ decimal MAX_HEAD_BYTES)
head_error_text (NakedEnd offset) = codes "naked-end " ++ decimal offset
head_error_text BadStart = codes "start-line"
head_error_text (TooManyLines side) =
    side_text side ++ (codes "-lines " ++ decimal MAX_HEAD_LINES)
head_error_text (BadLine side index) = side_text side ++ (codes "-line " ++ decimal index)
