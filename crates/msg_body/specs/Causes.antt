-- Why bytes are refused as a message of the expected kind, in the order in which it is judged: the
-- head, the kind of its start line, what says how its content ends, the content, and the trailer
-- section. Each is judged where those before it are there and right.
use Rattle.std.specs.Prelude.{◌≡◌, ◌⊎◌, ℕ, ◌+◌, ◌<◌, ◌≤◌, Bool, IsTrue, IsFalse, List, length, drop}
use Rattle.msg_head.specs.declared.error.HeadError.{HeadError}
use Rattle.msg_head.specs.Heads.{Head, SpellsHead, IsUnfinished}
use Rattle.msg_head.specs.Causes.{IsHeadError}
use Rattle.msg_head.specs.Trailers.{IsTrailerUnfinished}
use Rattle.msg_head.specs.TrailerCauses.{IsTrailerError}
use Rattle.framing.specs.declared.chunk_limits.TheConstants.{MAX_CONTENT_BYTES}
use Rattle.framing.specs.declared.chunk_error.ChunkError.{ChunkError}
use Rattle.framing.specs.Chunks.{SpellsChunks}
use Rattle.framing.specs.ChunkCauses.{IsChunksError, AreChunksUnfinished}
use Rattle.framing.specs.declared.error.FramingError.{FramingError}
use Rattle.framing.specs.declared.kind.Framing.{Framing}
use Rattle.framing.specs.declared.kind.Framing.TheVariants.{None, Length, Chunked, ToEnd}
use Rattle.framing.specs.Framings.{IsFramable, framing_of, content_length_of}
use Rattle.framing.specs.Causes.{IsFramingError}
use Rattle.msg_body.specs.declared.expect.Expect.{Expect}
use Rattle.msg_body.specs.declared.error.MessageError.{MessageError}
use Rattle.msg_body.specs.declared.error.MessageError.TheVariants.{BadStart, ContentTooLong}
use Rattle.msg_body.specs.Messages.{is_expected}
use Rattle.msg_body.specs.Errors.{error_of, framing_error, chunk_error, trailer_error}

-- the first bytes are such a part, and of it, its length and the bytes after it this holds
pub record After {V : Type 0} (IsPart : V → ℕ → List ℕ → Type 0)
    (Holds : V → ℕ → List ℕ → Type 0) (bytes : List ℕ) : Type 0 where
  pub part : V
  pub used : ℕ
  pub is : IsPart part used bytes
  pub holds : Holds part used (drop used bytes)

-- ---- the body, which begins at the offset

-- why the bytes after a head are refused where its content comes in chunks
abbrev pub IsChunkedError : ℕ → MessageError → List ℕ → Type 0
IsChunkedError start fault bytes =
    ((cause : ChunkError) × IsChunksError bytes cause × (fault ≡ chunk_error start cause))
    ⊎ After SpellsChunks
    (λ chunks used rest. (cause : HeadError) × IsTrailerError rest cause
    × (fault ≡ trailer_error (start + used) cause)) bytes

-- why they are refused, by the framing and the count that a Content-Length line has
abbrev pub IsBodyError : Framing → ℕ → ℕ → MessageError → List ℕ → Type 0
IsBodyError None count start fault bytes = ⊥
IsBodyError Length count start fault bytes =
    (MAX_CONTENT_BYTES < count) × (fault ≡ ContentTooLong)
IsBodyError ToEnd count start fault bytes =
    (MAX_CONTENT_BYTES < length bytes) × (fault ≡ ContentTooLong)
IsBodyError Chunked count start fault bytes = IsChunkedError start fault bytes

-- bytes of the content are missing after a head, or the end of its chunks or its trailer section
abbrev pub IsBodyUnfinished : Framing → ℕ → List ℕ → Type 0
IsBodyUnfinished None count bytes = ⊥
IsBodyUnfinished Length count bytes = (count ≤ MAX_CONTENT_BYTES) × (length bytes < count)
IsBodyUnfinished ToEnd count bytes = ⊥
IsBodyUnfinished Chunked count bytes =
    AreChunksUnfinished bytes
    ⊎ After SpellsChunks (λ chunks used rest. IsTrailerUnfinished rest) bytes

-- ---- the message

-- the start line isn't of the kind that is expected
abbrev pub IsOtherKind : Expect → MessageError → Head → Type 0
IsOtherKind expect fault head = IsFalse (is_expected expect head.start) × (fault ≡ BadStart)

-- why the head isn't framable
abbrev pub IsErrorOfFraming : MessageError → Head → Type 0
IsErrorOfFraming fault head =
    (cause : FramingError) × IsFramingError head cause × (fault ≡ framing_error cause)

-- why the body is refused, which the head frames
abbrev pub IsErrorOfBody : Bool → MessageError → Head → ℕ → List ℕ → Type 0
IsErrorOfBody to_head fault head start bytes = IsFramable head
    × IsBodyError (framing_of to_head head) (content_length_of head) start fault bytes

-- why a message with this head is refused, by the bytes after the head, which begin at the offset
abbrev pub IsErrorAfterHead : Expect → Bool → MessageError → Head → ℕ → List ℕ → Type 0
IsErrorAfterHead expect to_head fault head start bytes =
    IsOtherKind expect fault head
    ⊎ (IsTrue (is_expected expect head.start)
    × (IsErrorOfFraming fault head ⊎ IsErrorOfBody to_head fault head start bytes))

-- the fact for which the fault is answered; being out of memory has none
abbrev pub IsMessageError : Expect → Bool → List ℕ → MessageError → Type 0
IsMessageError expect to_head bytes fault =
    ((cause : HeadError) × IsHeadError bytes cause × (fault ≡ error_of cause))
    ⊎ After SpellsHead (IsErrorAfterHead expect to_head fault) bytes

-- No fault is judged yet, and bytes are missing: the end of the head may still come, or the
-- head is whole, of the expected kind and framed, and its body's end may.
abbrev pub IsMessageUnfinished : Expect → Bool → List ℕ → Type 0
IsMessageUnfinished expect to_head bytes =
    IsUnfinished bytes
    ⊎ After SpellsHead
    (λ head start rest. IsTrue (is_expected expect head.start) × IsFramable head
    × IsBodyUnfinished (framing_of to_head head) (content_length_of head) rest) bytes
