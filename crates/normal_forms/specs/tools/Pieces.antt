-- What an iterator over the pieces of a text has left. No public clause cites this module.
use Rattle.std.specs.Prelude.{ℕ, List}
use Rattle.msg_head.specs.LeftInLines.{value_left, pieces_bound}
use Rattle.msg_body.specs.LeftInFields.{combined_left, combined_bound}
use Rattle.msg_body.specs.Content.{content_left, content_bound}
use Rattle.normal_forms.specs.declared.pieces.TextPieces.{TextPieces}
use Rattle.normal_forms.specs.declared.pieces.TextPieces.TheVariants.{Line, Field, Content}

-- the text's bytes that are left
abbrev pub text_left : TextPieces → List ℕ
text_left (Line pieces) = value_left pieces
text_left (Field pieces) = combined_left pieces
text_left (Content pieces) = content_left pieces

-- no more pieces come than this
abbrev pub text_bound : TextPieces → ℕ
text_bound (Line pieces) = pieces_bound pieces
text_bound (Field pieces) = combined_bound pieces
text_bound (Content pieces) = content_bound pieces
