-- The bytes of a message before and after the place of further header lines. No public clause cites
-- this module.
use Rattle.std.specs.Prelude.{◌≡◌, ◌+◌, List, ◌++◌, length}
use Rattle.std.specs.List.{flat_map}
use Rattle.msg_head.specs.Heads.{head_text}
use Rattle.msg_head.specs.Lines.{FieldLine, line_text}
use Rattle.msg_body.specs.Messages.{Message, message_text}
use Rattle.signing.specs.Written.{with_lines}
use Rattle.signing.specs.declared.parts.Parts.{Parts}

-- with any further lines between them, the parts are the message with these lines
pub record ArePartsOf (message : Message) (parts : Parts) : Type 0 where
  pub text : (lines : List FieldLine) → message_text (with_lines message lines)
      ≡ parts.before.now ++ (flat_map line_text lines ++ parts.after.now)
  pub head : (lines : List FieldLine) → length (head_text (with_lines message lines).head)
      ≡ length parts.before.now + length (flat_map line_text lines) + 2
  pub lines : parts.lines ≡ length message.head.lines
