use Rattle.std.proofs.Common.{length, ap, ◌∙◌}
use Rattle.std.specs.Prelude.{option_map}
use Rattle.std.proofs.lemmas.Option.{slice_get-map}
use Rattle.byte_grammar.proofs.Indices.{all_at}
use Rattle.msg_head.specs.Views.{line_at, lies_in}
use Rattle.msg_head.proofs.section_lines.SectionLines.line.Goals as goal

pub line_at-requires : goal.line_at-requires
line_at-requires c =
    let lines = c.self.inside.lines in
    rw c.bytes.ensures (all_at (lies_in (length lines.bytes)) lines.spans c.args.index c.span.result c.self.invariant c.span.ensures)

pub returns : goal.returns
returns c =
    let lines = c.self.inside.lines in
    rw (← c.self.view_is, c.line_at.ensures, c.bytes.ensures) (slice_get-map (line_at lines.bytes) lines.spans c.args.index ∙ ap (option_map (line_at lines.bytes)) c.span.ensures)
