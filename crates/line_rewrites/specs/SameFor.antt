-- Messages that are the same for a signature: what it rests on is.
use Rattle.std.specs.Prelude.{◌≡◌, ℕ, IsTrue, List, codes}
use Rattle.msg_head.specs.declared.error.Side.{Side}
use Rattle.msg_head.specs.declared.error.Side.TheVariants.{Header}
use Rattle.msg_body.specs.Messages.{Message}
use Rattle.msg_body.specs.Views.{lines_on, message_content}
use Rattle.component_ids.specs.declared.params.SigParams.{SigParams}
use Rattle.msg_body.specs.SameFields.{HasSameField, HasSameValues}
use Rattle.signatures.specs.Signatures.{input_name, signature_name}
use Rattle.line_rewrites.specs.Covered.{covers_field, covers_lines}

-- The messages have one start line and one content. So have they each covered field, line by line
-- where it is covered so; and of the header `Host`, line by line, and the fields of signatures.
pub record SameFor (params : SigParams) (message other : Message) : Type 0 where
  pub start : other.head.start ≡ message.head.start
  pub content : message_content other ≡ message_content message
  pub fields : (side : Side) (name : List ℕ) → IsTrue (covers_field side name params)
      → HasSameField (lines_on side message) (lines_on side other) name
  pub lines : (side : Side) (name : List ℕ) → IsTrue (covers_lines side name params)
      → HasSameValues (lines_on side message) (lines_on side other) name
  pub hosts : HasSameValues (lines_on Header message) (lines_on Header other) (codes "host")
  pub input : HasSameField (lines_on Header message) (lines_on Header other) input_name
  pub signature : HasSameField (lines_on Header message) (lines_on Header other) signature_name
