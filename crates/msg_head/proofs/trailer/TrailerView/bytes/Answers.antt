use Rattle.msg_head.proofs.Offsets.{trailer_len}
use Rattle.msg_head.proofs.trailer.TrailerView.bytes.Goals as goal

pub returns-clause-len : goal.returns-clause-len
returns-clause-len c = rw (c.bytes.ensures.bytes, ← c.self.view_is) (trailer_len c.self.inside.section c.self.invariant c.bytes.ensures.inside)
