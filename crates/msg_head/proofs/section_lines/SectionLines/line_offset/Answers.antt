use Rattle.std.proofs.Common.{ℕ, ◌≡◌, ◌+◌, ◌≤◌, List, length, map, ap, arith}
use Rattle.std.specs.List.{flat_map}
use Rattle.std.proofs.lemmas.List.{length-map, take_all}
use Rattle.msg_head.specs.Lines.{FieldLine, line_text}
use Rattle.msg_head.specs.Views.{line_at, FollowEachOther}
use Rattle.msg_head.proofs.Offsets.{begins_at, ends_at}
use Rattle.msg_head.proofs.section_lines.SectionLines.line_offset.Goals as goal

pub returns-then-index-len : goal.returns-then-index-len
returns-then-index-len c from end =
    let lines = c.self.inside.lines in
    rw (← c.self.view_is) (λ follow size. begins_at lines.bytes from end c.args.index lines.spans c.span.result follow c.self.invariant c.span.ensures)

pub returns-else-index-len : goal.returns-else-index-len
returns-else-index-len c from end =
    let lines = c.self.inside.lines in
    rw (← c.self.view_is) (
    λ (follow : FollowEachOther from lines.spans end) (size : length lines.bytes ≡ end + 2).
    let all : length (map (line_at lines.bytes) lines.spans) ≤ c.args.index = omega (arith, length-map lines.spans (line_at lines.bytes), c.len.ensures, c.if-index-len.false) in
    let taken = ap (λ (ls : List FieldLine). length (flat_map line_text ls)) (take_all c.args.index (map (line_at lines.bytes) lines.spans) all) in
    omega (arith, ends_at lines.bytes from end lines.spans follow c.self.invariant, taken, size, ap (λ (bs : List ℕ). length bs) c.bytes.ensures))
