-- The view of a body in its parts, and what an iterator over the pieces of content has left.
use Rattle.std.specs.Prelude.{ℕ, List, [], length, Some, None}
use Rattle.framing.specs.Chunks.{data_of}
use Rattle.msg_body.specs.declared.body.BodyView.{BodyView}
use Rattle.msg_body.specs.declared.body.BodyView.TheVariants as body
use Rattle.msg_body.specs.declared.content.ContentPieces.{ContentPieces}
use Rattle.msg_body.specs.declared.content.ContentPieces.TheVariants as pieces
use Rattle.msg_body.specs.Views.{BodyParts, plain_parts, chunked_parts}

-- what a view of a body has: the content in one piece, or chunks and a trailer section
abbrev pub body_parts : BodyView → BodyParts
body_parts (body.Plain content) = plain_parts content.now
body_parts (body.Chunked chunks trailer) = chunked_parts chunks trailer

-- the content's bytes that are left
abbrev pub content_left : ContentPieces → List ℕ
content_left (pieces.Plain (Some content)) = content.now
content_left (pieces.Plain None) = []
content_left (pieces.Chunked chunks) = data_of chunks

-- no more pieces come than this
abbrev pub content_bound : ContentPieces → ℕ
content_bound (pieces.Plain (Some content)) = 1
content_bound (pieces.Plain None) = 0
content_bound (pieces.Chunked chunks) = length chunks
