-- What an iterator over the pieces of a line's value has left.
use Rattle.std.specs.Prelude.{ℕ, ◌+◌, ◌*◌, List, ◌++◌, if◌then◌else◌, length, codes}
use Rattle.std.specs.List.{flat_map, join_by}
use Rattle.msg_head.specs.declared.pieces.Pieces.{Pieces}
use Rattle.msg_head.specs.Values.{texts_of}

-- a space and the text
abbrev pub spaced : List ℕ → List ℕ
spaced text = codes " " ++ text

-- the value's bytes that are left
abbrev pub value_left : Pieces → List ℕ
value_left pieces =
    if pieces.is_due
    then flat_map spaced (texts_of pieces.left.now)
    else join_by (λ text. text) (codes " ") (texts_of pieces.left.now)

-- no more pieces come than this
abbrev pub pieces_bound : Pieces → ℕ
pieces_bound pieces = 2 * length pieces.left.now + (if pieces.is_due then 1 else 0)
