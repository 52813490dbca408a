use Rattle.std.proofs.Common.{List, length, sym, ap, ◌∙◌, arith}
use Rattle.framing.specs.Chunks.{Chunk, data_of}
use Rattle.framing.proofs.NextChunks.{data_there, line_there, next_chunk, none_left, not_last}
use Rattle.framing.proofs.pieces.ChunkPiecesIterator.next.Goals as goal

pub unreachable-requires : goal.unreachable-requires
unreachable-requires c = line_there c.self.inside.left.now c.self.invariant c.in_default.field-0.0 c.in_default.ensures.gives

pub returns-then-is_last-clause-steps : goal.returns-then-is_last-clause-steps
returns-then-is_last-clause-steps c =
    let left = c.self.inside.left.now in
    let none = ap data_of (sym c.self.view_is ∙ none_left left c.self.invariant c.in-Ok.line.text.now c.in-Ok.after_line.now c.in-Ok.line.size c.in-Ok.ensures.gives (c.is_last.ensures.0 c.if-is_last.true)) in
    (none, none)

pub unreachable-requires-in_default-read_data : goal.unreachable-requires-in_default-read_data
unreachable-requires-in_default-read_data c =
    data_there c.self.inside.left.now c.self.invariant c.in-Ok.line.text.now c.in-Ok.after_line.now c.in-Ok.line.size c.in-Ok.ensures.gives c.in_default-read_data.field-0.0 (not_last c.if-is_last.ensures) c.in_default-read_data.ensures

pub invariant_of-self : goal.invariant_of-self
invariant_of-self c =
    (next_chunk c.self.inside.left.now c.self.invariant c.in-Ok.line.text.now c.in-Ok.after_line.now c.in-Ok.line.size c.in-Ok.ensures.gives c.in-Ok-read_data.data.now c.in-Ok-read_data.after.now (not_last c.if-is_last.ensures) c.in-Ok-read_data.ensures).readable

pub returns-clause-steps : goal.returns-clause-steps
returns-clause-steps c =
    let next = next_chunk c.self.inside.left.now c.self.invariant c.in-Ok.line.text.now c.in-Ok.after_line.now c.in-Ok.line.size c.in-Ok.ensures.gives c.in-Ok-read_data.data.now c.in-Ok-read_data.after.now (not_last c.if-is_last.ensures) c.in-Ok-read_data.ensures in
    ap data_of (sym c.self.view_is ∙ next.are)

pub returns-clause-goes : goal.returns-clause-goes
returns-clause-goes c =
    let next = next_chunk c.self.inside.left.now c.self.invariant c.in-Ok.line.text.now c.in-Ok.after_line.now c.in-Ok.line.size c.in-Ok.ensures.gives c.in-Ok-read_data.data.now c.in-Ok-read_data.after.now (not_last c.if-is_last.ensures) c.in-Ok-read_data.ensures in
    let count = ap (λ (cs : List Chunk). length cs) (sym c.self.view_is ∙ next.are) in
    omega (arith, count)
