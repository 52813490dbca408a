-- Offsets of chunks, and the chunks that are there.
use Rattle.std.proofs.Common.{◌≡◌, ℕ, ◌+◌, ◌-◌, ◌<◌, List, [], ◌∷◌, ◌++◌, length, map, take, drop, refl, sym, ap, ◌∙◌, append_assoc, arith, codes}
use Rattle.std.proofs.lemmas.List.{length-append, take_at, drop_at}
use Rattle.std.proofs.lemmas.List.Elements.{All-head, All-tail}
use Rattle.std.specs.List.{All, flat_map, slice_range}
use Rattle.framing.specs.Chunks.{Chunk, IsChunkLine, IsChunk, chunk_text}
use Rattle.framing.specs.Views.{chunk_at, ChunksFollow}
use Rattle.framing.specs.tools.Turns.{span_of, spans_of}

-- what is between two offsets
pub slice_at : (text before middle after : List ℕ) (from to : ℕ) → text ≡ before ++ (middle ++ after) → length before ≡ from → from + length middle ≡ to → slice_range text from to ≡ middle
slice_at text before middle after from to e begin end =
    let count : length middle ≡ to - from = omega arith in
    ap (λ (y : List ℕ). take (to - from) (drop from y)) e
    ∙ ap (λ (y : List ℕ). take (to - from) y) (drop_at before (middle ++ after) from begin)
    ∙ take_at middle after (to - from) count

text_length : (c : Chunk) → length (chunk_text c) ≡ length c.line + 2 + length c.chunk_data + 2
text_length c = omega (arith, length-append c.line (codes "\r\n" ++ (c.chunk_data ++ codes "\r\n")), length-append c.chunk_data (codes "\r\n"))

-- the chunk that is there
chunk_is : (text before more : List ℕ) (c : Chunk) → text ≡ before ++ (chunk_text c ++ more) → chunk_at text (span_of (length before) c) ≡ c
chunk_is text before more c e =
    let crlf : List ℕ = codes "\r\n" in
    let tail : List ℕ = crlf ++ (c.chunk_data ++ crlf) in
    let one : text ≡ before ++ (c.line ++ (tail ++ more)) = e ∙ ap (λ (y : List ℕ). before ++ y) (append_assoc c.line tail more) in
    let two : text ≡ (before ++ (c.line ++ crlf)) ++ (c.chunk_data ++ (crlf ++ more)) =
    one ∙ cc (append_assoc before (c.line ++ crlf) (c.chunk_data ++ (crlf ++ more)), append_assoc c.line crlf (c.chunk_data ++ (crlf ++ more)), append_assoc crlf (c.chunk_data ++ crlf) more, append_assoc c.chunk_data crlf more) in
    let line = slice_at text before c.line (tail ++ more) (length before) (length before + length c.line) one refl refl in
    let start : length (before ++ (c.line ++ crlf)) ≡ length before + length c.line + 2 = omega (arith, length-append before (c.line ++ crlf), length-append c.line crlf) in
    let data_is = slice_at text (before ++ (c.line ++ crlf)) c.chunk_data (crlf ++ more) (length before + length c.line + 2) (length before + length c.line + 2 + length c.chunk_data) two start refl in
    λ i. record { line = line i; chunk_data = data_is i }

pub chunks_at : (text before more : List ℕ) (chunks : List Chunk) (from : ℕ) → text ≡ before ++ (flat_map chunk_text chunks ++ more) → length before ≡ from → map (chunk_at text) (spans_of from chunks) ≡ chunks
chunks_at text before more [] from e begin = refl
chunks_at text before more (c ∷ chunks) from e begin =
    let others : List ℕ = flat_map chunk_text chunks ++ more in
    let first : text ≡ before ++ (chunk_text c ++ others) = e ∙ ap (λ (y : List ℕ). before ++ y) (append_assoc (chunk_text c) (flat_map chunk_text chunks) more) in
    let next : text ≡ (before ++ chunk_text c) ++ others = first ∙ sym (append_assoc before (chunk_text c) others) in
    let head : chunk_at text (span_of from c) ≡ c = ap (λ (n : ℕ). chunk_at text (span_of n c)) (sym begin) ∙ chunk_is text before others c first in
    let tail = chunks_at text (before ++ chunk_text c) more chunks (from + length (chunk_text c)) next (omega (arith, length-append before (chunk_text c), begin)) in
    λ i. head i ∷ tail i

-- a chunk line isn't empty
pub line_some : (line : List ℕ) (size : ℕ) → IsChunkLine line size → 0 < length line
line_some line size is = omega (arith, ap (λ (y : List ℕ). length y) is.joined, length-append is.digits is.extension, is.are_digits.least)

pub spans_follow : (chunks : List Chunk) (from to : ℕ) → All IsChunk chunks → from + length (flat_map chunk_text chunks) ≡ to → ChunksFollow from (spans_of from chunks) to
spans_follow [] from to all e = omega arith
spans_follow (c ∷ chunks) from to all e =
    let is = All-head IsChunk c chunks all in
    let next : from + length (chunk_text c) ≡ from + length c.line + 2 + length c.chunk_data + 2 = omega (arith, text_length c) in (
      refl,
      omega (arith, line_some c.line (length c.chunk_data) is.line),
      omega (arith, is.some),
      rw (sym next) (spans_follow chunks (from + length (chunk_text c)) to (All-tail IsChunk c chunks all) (omega (arith, length-append (chunk_text c) (flat_map chunk_text chunks), e))),
    )
