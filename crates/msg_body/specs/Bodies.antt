-- What comes after a head: RFC 9112 sections 6 and 7.
use Rattle.std.specs.Prelude.{◌≡◌, ⊤, ℕ, List, [], ◌++◌, length}
use Rattle.msg_head.specs.Lines.{FieldLine}
use Rattle.msg_head.specs.Trailers.{IsTrailer, trailer_text}
use Rattle.framing.specs.Chunks.{Chunks, AreChunks, chunks_text, content_of}
use Rattle.framing.specs.declared.kind.Framing.{Framing}
use Rattle.framing.specs.declared.kind.Framing.TheVariants.{None, Length, Chunked, ToEnd}

-- content as it is, or in chunks, after which a trailer section's field lines come
pub data Body : Type 0 where
  plain : List ℕ → Body
  chunked : Chunks → List FieldLine → Body

-- the content
abbrev pub content_in : Body → List ℕ
content_in (plain content) = content
content_in (chunked chunks trailers) = content_of chunks

-- the field lines of the trailer section
abbrev pub trailers_in : Body → List FieldLine
trailers_in (plain content) = []
trailers_in (chunked chunks trailers) = trailers

-- the content, or the chunks and the trailer section
abbrev pub body_text : Body → List ℕ
body_text (plain content) = content
body_text (chunked chunks trailers) = chunks_text chunks ++ trailer_text trailers

-- the body is one of the framing, and of the count that a Content-Length line has
abbrev pub IsBodyOf : Framing → ℕ → Body → Type 0
IsBodyOf None count (plain content) = content ≡ []
IsBodyOf Length count (plain content) = length content ≡ count
IsBodyOf ToEnd count (plain content) = ⊤
IsBodyOf Chunked count (chunked chunks trailers) = AreChunks chunks × IsTrailer trailers
IsBodyOf None count (chunked chunks trailers) = ⊥
IsBodyOf Length count (chunked chunks trailers) = ⊥
IsBodyOf ToEnd count (chunked chunks trailers) = ⊥
IsBodyOf Chunked count (plain content) = ⊥
