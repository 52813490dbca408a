use Rattle.std.proofs.Common.{refl}
use Rattle.verdicts.proofs.nonce.judge_room.Goals as goal

pub returns-then-has_room : goal.returns-then-has_room
returns-then-has_room c = λ now at. (c.if-has_room.ensures.room now at).0 refl

pub returns-else-has_room : goal.returns-else-has_room
returns-else-has_room c = λ now at. (refl, refl, (c.if-has_room.ensures.full now at).0 refl)
