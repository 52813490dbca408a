use Rattle.std.proofs.Common.{Ok, List, length, sym, ap, ◌∙◌, arith}
use Rattle.msg_head.specs.Lines.{FieldLine}
use Rattle.msg_head.specs.TrailerViews.{trailer_lines_of}
use Rattle.framing.specs.Views.{ChunksParts, chunks_of}
use Rattle.msg_body.specs.Bodies.{chunked}
use Rattle.msg_body.specs.Content.{body_parts}
use Rattle.msg_body.specs.Views.{body_of}
use Rattle.msg_body.specs.declared.body.BodyView.{BodyView}
use Rattle.msg_body.proofs.OtherHeads.{no_partial_trailer, section_spelled, section_within, trailer_fault, trailer_read}
use Rattle.msg_body.proofs.other_head.body_again.Goals as goal

pub overflow_sub-text : goal.overflow_sub-text
overflow_sub-text c =
    let ends = rw c.in-Chunked.is at c.requires in
    omega (arith, c.bytes.ensures.len, section_within (trailer_lines_of c.in-Chunked.trailer) c.args.text.now ends.1.0 ends.1.1)

pub unreachable-requires : goal.unreachable-requires
unreachable-requires c =
    let ends = rw c.in-Chunked.is at c.requires in
    let lines = trailer_lines_of c.in-Chunked.trailer in
    let section = c.split_at.result.1.now in
    let spelled = section_spelled lines c.args.text.now ends.1.0 section (length c.bytes.result.now) ends.0 ends.1.1 c.bytes.ensures.len c.split_at.ensures.back in
    no_partial_trailer c.read_trailer.result lines (length section) (c.read_trailer.ensures.found lines (length section) spelled) (c.in-Ok-Partial.is ∙ ap Ok c.in-Ok-Partial.field-0-is)

pub only_memory-requires : goal.only_memory-requires
only_memory-requires c =
    let ends = rw c.in-Chunked.is at c.requires in
    let lines = trailer_lines_of c.in-Chunked.trailer in
    let section = c.split_at.result.1.now in
    let spelled = section_spelled lines c.args.text.now ends.1.0 section (length c.bytes.result.now) ends.0 ends.1.1 c.bytes.ensures.len c.split_at.ensures.back in
    trailer_fault c.read_trailer.result lines (length section) (c.read_trailer.ensures.found lines (length section) spelled) c.in-Err.error c.in-Err.is

pub returns-in-Ok-Whole-clause-ok : goal.returns-in-Ok-Whole-clause-ok
returns-in-Ok-Whole-clause-ok c =
    let ends = rw c.in-Chunked.is at c.requires in
    let lines = trailer_lines_of c.in-Chunked.trailer in
    let section = c.split_at.result.1.now in
    let spelled = section_spelled lines c.args.text.now ends.1.0 section (length c.bytes.result.now) ends.0 ends.1.1 c.bytes.ensures.len c.split_at.ensures.back in
    let read = trailer_read c.read_trailer.result lines (length section) c.in-Ok-Whole.field-0-1 c.in-Ok-Whole.lines (c.read_trailer.ensures.found lines (length section) spelled)
    (c.in-Ok-Whole.is ∙ ap Ok c.in-Ok-Whole.field-0-is) in
    ap (λ (parts : ChunksParts). chunked (chunks_of parts) (trailer_lines_of c.in-Ok-Whole.lines)) c.again.ensures
    ∙ (ap (λ (ls : List FieldLine). chunked (chunks_of c.in-Chunked.chunks) ls) read ∙ sym (ap (λ (b : BodyView). body_of (body_parts b)) c.in-Chunked.is))
