-- What is answered to bytes, by its cause. No public clause cites this module.
use Rattle.std.specs.Prelude.{◌≡◌, ◌≢◌, ⊤, ℕ, ◌+◌, ◌<◌, ◌≤◌, ◌^◌, Bool, List, length, take, Result, Ok, Err}
use Rattle.msg_head.specs.declared.error.HeadError.{HeadError}
use Rattle.msg_head.specs.declared.error.HeadError.TheVariants as head
use Rattle.msg_head.specs.Views.{View}
use Rattle.framing.specs.declared.chunk_limits.TheConstants.{MAX_CONTENT_BYTES}
use Rattle.framing.specs.declared.chunk_error.ChunkError.{ChunkError}
use Rattle.framing.specs.declared.chunk_error.ChunkError.TheVariants as chunk
use Rattle.framing.specs.declared.kind.Framing.{Framing}
use Rattle.framing.specs.declared.kind.Framing.TheVariants.{Chunked, ToEnd}
use Rattle.msg_body.specs.declared.expect.Expect.{Expect}
use Rattle.msg_body.specs.declared.error.MessageError.{MessageError}
use Rattle.msg_body.specs.declared.error.MessageError.TheVariants.{Memory}
use Rattle.msg_body.specs.declared.body.BodyRead.{BodyRead}
use Rattle.msg_body.specs.declared.body.BodyRead.TheVariants as body
use Rattle.msg_body.specs.declared.read.MessageRead.{MessageRead}
use Rattle.msg_body.specs.declared.read.MessageRead.TheVariants as read
use Rattle.msg_body.specs.Bodies.{Body, IsBodyOf, body_text, content_in}
use Rattle.msg_body.specs.Views.{BodyParts, BodyFills, IsMessageViewOf, body_of, body_bytes}
use Rattle.msg_body.specs.Content.{body_parts}
use Rattle.msg_body.specs.Causes.{IsBodyError, IsBodyUnfinished, IsMessageError, IsMessageUnfinished}

-- the first bytes, so many, are the text of a body of the framing
pub record SpellsBody (framing : Framing) (count : ℕ) (body : Body) (used : ℕ) (bytes : List ℕ)
    : Type 0 where
  pub within : used ≤ length bytes
  pub is : IsBodyOf framing count body
  pub content : length (content_in body) ≤ MAX_CONTENT_BYTES
  pub text : take used bytes ≡ body_text body
  pub all : framing ≡ ToEnd → used ≡ length bytes

-- the view is that of such a body
pub record IsBodyViewOf (framing : Framing) (count : ℕ) (bytes : List ℕ) (parts : BodyParts)
    (used : ℕ) : Type 0 where
  pub spells : SpellsBody framing count (body_of parts) used bytes
  pub bytes_are : body_bytes parts ≡ take used bytes
  pub fills : BodyFills parts

-- the answer's fact: a body's view, bytes that are missing, or the cause that holds
abbrev pub ExplainsBody : Framing → ℕ → ℕ → List ℕ → Result BodyRead MessageError → Type 0
ExplainsBody framing count start bytes (Ok (body.Whole view used)) =
    IsBodyViewOf framing count bytes (body_parts view) used
ExplainsBody framing count start bytes (Ok body.Partial) = IsBodyUnfinished framing count bytes
ExplainsBody framing count start bytes (Err fault) =
    fault ≢ Memory → IsBodyError framing count start fault bytes

abbrev pub ExplainsChunked : ℕ → List ℕ → Result BodyRead MessageError → Type 0
ExplainsChunked start bytes result = (count : ℕ) → ExplainsBody Chunked count start bytes result

-- the answer's fact for a message
abbrev pub ExplainsMessage :
    Expect → Bool → List ℕ → Result MessageRead MessageError → Type 0
ExplainsMessage expect to_head bytes (Ok (read.Whole view used)) =
    IsMessageViewOf expect to_head bytes view used
ExplainsMessage expect to_head bytes (Ok read.Partial) = IsMessageUnfinished expect to_head bytes
ExplainsMessage expect to_head bytes (Err fault) =
    fault ≢ Memory → IsMessageError expect to_head bytes fault

-- the answer's fact for what comes after a head, with the framing that the head says
abbrev pub ExplainsRest :
    Expect → Bool → List ℕ → View → ℕ → Result (Framing × BodyRead) MessageError → Type 0
ExplainsRest expect to_head bytes head start (Ok (framing, body.Whole view count)) =
    IsMessageViewOf expect to_head bytes
    (record { head = head; framing = framing; body = body_parts view }) (start + count)
ExplainsRest expect to_head bytes head start (Ok (framing, body.Partial)) =
    IsMessageUnfinished expect to_head bytes
ExplainsRest expect to_head bytes head start (Err fault) =
    fault ≢ Memory → IsMessageError expect to_head bytes fault

-- the offset of a fault, counted from the start, is one of a message
abbrev pub IsChunkOffset : ℕ → ChunkError → Type 0
IsChunkOffset start chunk.TooLong = ⊤
IsChunkOffset start (chunk.Bad offset) = start + offset < 2 ^ 64

abbrev pub IsTrailerOffset : ℕ → HeadError → Type 0
IsTrailerOffset start head.Memory = ⊤
IsTrailerOffset start (head.TooLong side) = ⊤
IsTrailerOffset start (head.NakedEnd offset) = start + offset < 2 ^ 64
IsTrailerOffset start head.BadStart = ⊤
IsTrailerOffset start (head.TooManyLines side) = ⊤
IsTrailerOffset start (head.BadLine side index) = ⊤
