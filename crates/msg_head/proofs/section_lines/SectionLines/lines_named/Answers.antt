use Rattle.std.proofs.Common.{length}
use Rattle.line_index.proofs.Filtered.{map_filter}
use Rattle.line_index.specs.Spans.{is_span_named}
use Rattle.byte_grammar.proofs.ListLaws.{all_filter}
use Rattle.msg_head.specs.Names.{has_name}
use Rattle.msg_head.specs.Views.{line_at, lies_in}
use Rattle.msg_head.proofs.section_lines.SectionLines.lines_named.Goals as goal

pub new-requires : goal.new-requires
new-requires c =
    let bytes = c.self.inside.lines.bytes in
    rw (c.named.ensures, c.bytes.ensures) (all_filter (lies_in (length bytes)) (is_span_named bytes c.args.name.now) c.self.inside.lines.spans c.self.invariant)

pub returns : goal.returns
returns c =
    let bytes = c.self.inside.lines.bytes in
    rw (c.new.ensures, c.named.ensures, c.bytes.ensures, ← c.self.view_is) (map_filter (line_at bytes) (has_name c.args.name.now) c.self.inside.lines.spans)
