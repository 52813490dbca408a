use Rattle.std.proofs.Common.{◌≡◌, ℕ, List, ◌++◌}
use Rattle.sha2.specs.Hashers.{Holds256}
use Rattle.msg_body.specs.Content.{content_left}
use Rattle.msg_body.specs.Views.{message_of, message_content}
use Rattle.content_digest.proofs.digest.sha256_of.Given as goal

abbrev pub invariant-loop-piece : goal.invariant-loop-piece
invariant-loop-piece l = (done : List ℕ)
    × (done ++ content_left l.piece-iterator ≡ message_content (message_of l.fn.view))
    × Holds256 l.hasher done
