use Rattle.msg_head.specs.Views.{start_line_of}
use Rattle.msg_head.proofs.Offsets.{head_len}
use Rattle.msg_head.proofs.view.HeadView.bytes.Goals as goal

pub returns-clause-len : goal.returns-clause-len
returns-clause-len c =
    let section = c.self.inside.section in
    rw (c.bytes.ensures.bytes, ← c.self.view_is)
    (head_len (record { bytes = section.bytes; start = start_line_of c.self.inside.start; spans = section.spans }) c.self.invariant c.bytes.ensures.inside)
