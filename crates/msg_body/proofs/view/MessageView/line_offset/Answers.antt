use Rattle.std.proofs.Common.{◌≡◌, ℕ, zero, suc, ◌+◌, ◌-◌, ◌≤◌, List, [], ◌∷◌, ◌++◌, length, take, drop, refl, sym, ap, arith, length-append}
use Rattle.std.specs.List.{flat_map}
use Rattle.std.proofs.lemmas.List.{take-append-drop}
use Rattle.std.proofs.lemmas.Grind.{flat_map-append}
use Rattle.msg_head.specs.declared.error.Side.TheVariants.{Trailer}
use Rattle.msg_head.specs.Heads.{head_text}
use Rattle.msg_head.specs.Lines.{FieldLine, line_text}
use Rattle.msg_head.specs.Trailers.{trailer_text}
use Rattle.msg_head.specs.TrailerViews.{TrailerParts, trailer_lines_of}
use Rattle.framing.specs.Chunks.{chunks_text}
use Rattle.framing.specs.Views.{ChunksParts, chunks_of}
use Rattle.msg_body.specs.Content.{body_parts}
use Rattle.msg_body.specs.Messages.{message_text}
use Rattle.msg_body.specs.Views.{MessageParts, plain_parts, chunked_parts, message_of, lines_on, lines_start}
use Rattle.msg_body.proofs.view.MessageView.line_offset.Goals as goal

-- the first lines are no longer than the section
first_lines : (index : ℕ) (lines : List FieldLine) → length (flat_map line_text (take index lines)) ≤ length (trailer_text lines)
first_lines index lines =
    let cut = ap (λ (ls : List FieldLine). length (flat_map line_text ls)) (sym (take-append-drop index lines)) in
    omega (
      arith,
      cut,
      ap (λ (t : List ℕ). length t) (flat_map-append line_text (take index lines) (drop index lines)),
      length-append (flat_map line_text (take index lines)) (flat_map line_text (drop index lines)),
      length-append (flat_map line_text lines) (13 ∷ 10 ∷ []),
    )

taken_none : (index : ℕ) → take {A = FieldLine} index [] ≡ []
taken_none zero = refl
taken_none (suc index) = refl

-- how many bytes are before a line of the trailer section
abbrev bytes_before : ℕ → MessageParts → ℕ
bytes_before index parts = lines_start Trailer (message_of parts) + length (flat_map line_text (take index (lines_on Trailer (message_of parts))))

-- plain content goes to the message's end
plain_end : (parts : MessageParts) (content : List ℕ) (index : ℕ) → parts.body ≡ plain_parts content → length (message_text (message_of parts)) ≡ bytes_before index parts
plain_end parts content index is =
    rw is (
    omega (
      arith,
      length-append (head_text (message_of parts).head) content,
      ap (λ (ls : List FieldLine). length (flat_map line_text ls)) (taken_none index),
    ))

-- a trailer section is the last part of a message
section_last : (parts : MessageParts) (chunks : ChunksParts) (trailer : TrailerParts) (index : ℕ) → parts.body ≡ chunked_parts chunks trailer
    → length (message_text (message_of parts)) - length (trailer_text (trailer_lines_of trailer)) + length (flat_map line_text (take index (trailer_lines_of trailer))) ≡ bytes_before index parts
section_last parts chunks trailer index is =
    let text = chunks_text (chunks_of chunks) in
    let lines = trailer_text (trailer_lines_of trailer) in
    rw is (omega (arith, length-append (head_text (message_of parts).head) (text ++ lines), length-append text lines))

pub overflow_add-result : goal.overflow_add-result
overflow_add-result c =
    omega (arith, c.self.told.0, c.bytes.ensures.len, c.line_offset-in-Chunked.ensures, first_lines c.args.index (trailer_lines_of c.in-Chunked.trailer))

pub returns-in-Plain : goal.returns-in-Plain
returns-in-Plain c =
    let m = c.self.inside in
    let parts : MessageParts = record { head = m.head; framing = m.framing; body = body_parts m.body } in
    rw (c.in-Trailer.is, ← c.self.view_is, c.self.invariant) (plain_end parts c.in-Plain.field-0.now c.args.index (ap body_parts c.in-Plain.is))

pub returns-in-Chunked : goal.returns-in-Chunked
returns-in-Chunked c =
    let m = c.self.inside in
    let parts : MessageParts = record { head = m.head; framing = m.framing; body = body_parts m.body } in
    rw (c.in-Trailer.is, ← c.self.view_is, c.self.invariant, c.bytes.ensures.len, c.line_offset-in-Chunked.ensures)
    (section_last parts c.in-Chunked.field-0 c.in-Chunked.trailer c.args.index (ap body_parts c.in-Chunked.is))
