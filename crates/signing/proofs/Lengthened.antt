-- A message with further header lines is a message.
use Rattle.std.proofs.Common.{◌≤◌, Bool, List, ◌++◌, All, length, codes, refl, sym, ◌∙◌}
use Rattle.std.proofs.lemmas.List.Elements.{All-append}
use Rattle.msg_head.specs.Heads.{head_text}
use Rattle.msg_head.specs.Lines.{FieldLine, IsLine}
use Rattle.msg_head.proofs.MoreLines.{there_same, values_same}
use Rattle.msg_head.specs.declared.limits.TheConstants.{MAX_HEAD_BYTES, MAX_HEAD_LINES}
use Rattle.msg_body.specs.Messages.{Message, IsMessage, message_text}
use Rattle.msg_body.specs.declared.limits.TheConstants.{MAX_MESSAGE_BYTES}
use Rattle.signing.specs.Written.{with_lines}
use Rattle.signing.proofs.AddedLines.{FrameNothing}

pub is_lengthened : (to_head : Bool) (message : Message) (lines : List FieldLine) → IsMessage to_head message → All IsLine lines → FrameNothing lines
    → length (head_text (with_lines message lines).head) ≤ MAX_HEAD_BYTES → length (message.head.lines ++ lines) ≤ MAX_HEAD_LINES → length (message_text (with_lines message lines)) ≤ MAX_MESSAGE_BYTES
    → IsMessage to_head (with_lines message lines)
is_lengthened to_head message lines is are frames short few brief =
    let own = message.head.lines in
    let codings = values_same own lines (codes "transfer-encoding") frames.codings in
    let lengths = values_same own lines (codes "content-length") frames.lengths in
    let has_coding = there_same own lines (codes "transfer-encoding") frames.codings in
    let has_length = there_same own lines (codes "content-length") frames.lengths in
    record {
      head = record {
        start = is.head.start;
        lines = All-append IsLine own lines is.head.lines are;
        few = few;
        short = short;
      };
      framable = record {
        no_conflict = rw (has_coding, has_length) is.framable.no_conflict;
        lengths = rw lengths is.framable.lengths;
        codings = rw codings is.framable.codings;
      };
      framing = is.framing ∙ sym (rw (has_coding, has_length) refl);
      body = rw lengths is.body;
      content = is.content;
      short = brief;
    }
