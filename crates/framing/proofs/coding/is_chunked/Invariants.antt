use Rattle.std.proofs.Common.{◌≡◌, ℕ, List, ◌++◌}
use Rattle.std.specs.Prelude.{codes}
use Rattle.std.specs.Str.{str_to_ascii_lowercase}
use Rattle.msg_head.specs.LeftInLines.{value_left}
use Rattle.msg_head.specs.Values.{value}
use Rattle.framing.proofs.coding.is_chunked.Given as goal

abbrev pub invariant-loop-piece : goal.invariant-loop-piece
invariant-loop-piece l = (done : List ℕ)
    × (done ++ value_left l.piece-iterator ≡ value l.fn.line.raw.now)
    × (str_to_ascii_lowercase done ++ str_to_ascii_lowercase l.left ≡ codes "chunked")
