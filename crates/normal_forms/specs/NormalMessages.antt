-- Messages that are normal for a signature, and messages that are alike.
use Rattle.std.specs.Prelude.{◌≡◌, ⊤, ℕ, List, [], ◌∷◌, length, filter}
use Rattle.msg_head.specs.declared.error.Side.{Side}
use Rattle.msg_head.specs.Names.{has_name}
use Rattle.framing.specs.Chunks.{Chunks, content_of}
use Rattle.framing.specs.Sizes.{sized_chunks}
use Rattle.msg_body.specs.Bodies.{Body, plain, chunked}
use Rattle.msg_body.specs.Messages.{Message}
use Rattle.msg_body.specs.Views.{lines_on}
use Rattle.component_ids.specs.declared.params.SigParams.{SigParams}
use Rattle.line_rewrites.specs.Steps.{with_trailers}
use Rattle.normal_forms.specs.NormalLines.{AreNormalLines}

-- one size for all of the content; none where it is empty, since no chunk is (RFC 9112 section 7.1)
abbrev pub whole_size : List ℕ → List ℕ
whole_size [] = []
whole_size (c ∷ rest) = length (c ∷ rest) ∷ []

-- the content in one chunk, its size in hexadecimal without zeros before it, and the last line `0`
abbrev pub normal_chunks : List ℕ → Chunks
normal_chunks content = sized_chunks (whole_size content) content

-- content that is in chunks is in one
abbrev pub HasNormalChunks : Body → Type 0
HasNormalChunks (plain content) = ⊤
HasNormalChunks (chunked chunks trailers) = chunks ≡ normal_chunks (content_of chunks)

-- the message is normal for a signature of these parameters
pub record IsNormal (params : SigParams) (message : Message) : Type 0 where
  pub lines : (side : Side) → AreNormalLines side params (lines_on side message)
  pub chunks : HasNormalChunks message.body

-- The messages have one start line, one framing, and one content in the same chunks. On each side
-- they have the same lines of each name in the same order; lines of different names may stand in
-- another order.
pub record AreAlike (message other : Message) : Type 0 where
  pub start : other.head.start ≡ message.head.start
  pub framing : other.framing ≡ message.framing
  pub body : with_trailers [] other.body ≡ with_trailers [] message.body
  pub lines : (side : Side) (name : List ℕ)
      → filter (has_name name) (lines_on side other)
      ≡ filter (has_name name) (lines_on side message)
