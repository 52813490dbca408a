use Rattle.line_index.specs.tools.Index.{is_named}
use Rattle.line_index.proofs.NamedLists.{named_lines, chosen_inside}
use Rattle.line_index.proofs.lines.LineIndex.named.Goals as goal

pub new-requires : goal.new-requires
new-requires c =
    let bytes = c.self.inside.bytes.now in
    let spans = c.self.inside.spans.items in
    rw (c.named_part-part.ensures, c.deref.ensures.value, c.deref-2.ensures.value, c.deref-3.ensures.value) (chosen_inside bytes spans (is_named bytes spans c.args.name.now) c.self.inside.by_name.items c.self.invariant)

pub returns : goal.returns
returns c =
    let bytes = c.self.inside.bytes.now in
    let spans = c.self.inside.spans.items in
    let name = c.args.name.now in
    rw (c.new.ensures, c.named_part-part.ensures, c.deref.ensures.value, c.deref-2.ensures.value, c.deref-3.ensures.value, ← c.self.view_is) (named_lines bytes spans name c.self.inside.by_name.items c.self.invariant)
