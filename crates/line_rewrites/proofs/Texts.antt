-- A text is that of at most one message whose lines are sound and whose content has so many bytes, whatever the limits.
use Rattle.std.proofs.Common.{◌≡◌, ◌≤◌, ◌<◌, ℕ, Bool, true, List, [], ◌∷◌, ◌++◌, length, take, refl, sym, ap, ◌∙◌, append_assoc, arith, length-append}
use Rattle.std.specs.Prelude.{⊤, codes}
use Rattle.std.specs.List.{flat_map}
use Rattle.std.proofs.lemmas.Bool.{false≢true}
use Rattle.std.proofs.lemmas.List.{append_cancel_left}
use Rattle.std.proofs.Math.Seq.{take-append_seam}
use Rattle.msg_head.specs.declared.error.Side.{Side}
use Rattle.msg_head.specs.declared.error.Side.TheVariants.{Header, Trailer}
use Rattle.msg_head.specs.Heads.{Head, head_text}
use Rattle.msg_head.specs.Lines.{FieldLine}
use Rattle.msg_head.specs.Starts.{IsStartLine, start_text}
use Rattle.msg_head.specs.Trailers.{trailer_text}
use Rattle.framing.specs.Chunks.{AreChunks, Chunk, Chunks, chunk_text, chunks_text, content_of, data_of}
use Rattle.framing.proofs.ChunkLaws.{one_chunks}
use Rattle.framing.specs.declared.kind.Framing.{Framing}
use Rattle.framing.specs.declared.kind.Framing.TheVariants.{None as NoContent, Length, Chunked, ToEnd}
use Rattle.framing.specs.Framings.{content_length_of, framing_of}
use Rattle.msg_body.specs.Bodies.{Body, IsBodyOf, body_text, chunked, content_in, plain, trailers_in}
use Rattle.msg_body.specs.Messages.{IsMessage, Message, message_text}
use Rattle.msg_body.specs.Views.{lines_on, message_content}
use Rattle.line_rewrites.specs.Laws.{HasOneSound, IsSoundWhereRead}
use Rattle.line_rewrites.specs.Sound.{Fits, IsSoundBody, IsSoundMessage}
use Rattle.line_rewrites.specs.Steps.{with_lines_on, with_trailers}
use Rattle.line_rewrites.specs.Sides.{body_after, body_before, has_side, has_trailers, lines_text, side_parts, text_with}
use Rattle.line_rewrites.proofs.Sound.{AreSound, lines_one, lines_sound, no_blank_first}
use Rattle.line_rewrites.proofs.StartTexts.{start_fits, start_one}

-- ---- heads

opened : (head : Head) (more : List ℕ) → head_text head ++ more ≡ start_text head.start ++ (lines_text head.lines ++ (codes "\r\n" ++ more))
opened head more =
    append_assoc (start_text head.start) (lines_text head.lines ++ codes "\r\n") more
    ∙ ap (λ t. start_text head.start ++ t) (append_assoc (lines_text head.lines) (codes "\r\n") more)

one_head : (one other : Head) (more rest : List ℕ) → IsStartLine one.start → IsStartLine other.start → Fits one.start → Fits other.start → AreSound one.lines → AreSound other.lines → head_text one ++ more ≡ head_text other ++ rest
    → (one ≡ other) × (more ≡ rest)
one_head one other more rest a b fits fits_too first second e =
    let whole = sym (opened one more) ∙ (e ∙ opened other rest) in
    let starts = start_one one.start other.start (lines_text one.lines ++ (codes "\r\n" ++ more)) (lines_text other.lines ++ (codes "\r\n" ++ rest)) a b fits fits_too
    (no_blank_first one.lines more first) (no_blank_first other.lines rest second) whole in
    let lines = lines_one one.lines other.lines more rest first second starts.1 in
    (λ i. record { start = starts.0 i; lines = lines.0 i }, lines.1)

-- ---- bodies

-- chunks, and sound lines after them
abbrev pub IsGood : Body → Type 0
IsGood (plain content) = ⊤
IsGood (chunked chunks trailers) = AreChunks chunks × AreSound trailers

pub body_good : (body : Body) (framing : Framing) (count : ℕ) → IsBodyOf framing count body → IsGood body
body_good (plain content) framing count of = tt
body_good (chunked chunks trailers) Chunked count of = (of.0, lines_sound trailers of.1.each)
body_good (chunked chunks trailers) NoContent count of = absurd of
body_good (chunked chunks trailers) Length count of = absurd of
body_good (chunked chunks trailers) ToEnd count of = absurd of

data_short : (chunks : List Chunk) → length (data_of chunks) ≤ length (flat_map chunk_text chunks)
data_short [] = omega arith
data_short (c ∷ chunks) =
    let others = data_short chunks in
    let data_joined = length-append c.chunk_data (data_of chunks) in
    let text_joined = length-append (chunk_text c) (flat_map chunk_text chunks) in
    let line = length-append c.line (codes "\r\n" ++ (c.chunk_data ++ codes "\r\n")) in
    let own = length-append c.chunk_data (codes "\r\n") in
    omega (arith, others, data_joined, text_joined, line, own)

-- chunks are longer than their content
chunks_longer : (chunks : Chunks) (trailers : List FieldLine) → length (content_of chunks) < length (body_text (chunked chunks trailers))
chunks_longer chunks trailers =
    let short = data_short chunks.chunks in
    let text = length-append (flat_map chunk_text chunks.chunks) (chunks.last ++ codes "\r\n") in
    let last = length-append chunks.last (codes "\r\n") in
    let whole = length-append (chunks_text chunks) (trailer_text trailers) in
    omega (arith, short, text, last, whole)

one_chunked : (one other : Chunks) (first second : List FieldLine) → AreChunks one → AreChunks other → AreSound first → AreSound second
    → chunks_text one ++ trailer_text first ≡ chunks_text other ++ trailer_text second → (one ≡ other) × (first ≡ second)
one_chunked one other first second a b sound sound_too e =
    let bytes = chunks_text one ++ trailer_text first in
    let n = length (chunks_text one) in
    let m = length (chunks_text other) in
    let size = length-append (chunks_text one) (trailer_text first) in
    let size_too = ap (λ t. length t) e ∙ length-append (chunks_text other) (trailer_text second) in
    let cut : take n bytes ≡ chunks_text one = take-append_seam (chunks_text one) (trailer_text first) in
    let cut_too : take m bytes ≡ chunks_text other = ap (take m) e ∙ take-append_seam (chunks_text other) (trailer_text second) in
    let same = one_chunks bytes one other n m (omega (arith, size)) (omega (arith, size_too)) (record { are = a; text = cut }) (record { are = b; text = cut_too }) in
    let left = append_cancel_left (chunks_text other) (trailer_text first) (trailer_text second) (ap (λ (c : Chunks). chunks_text c ++ trailer_text first) (sym same.0) ∙ e) in
    (same.0, (lines_one first second [] [] sound sound_too left).0)

one_body : (one other : Body) → IsGood one → IsGood other → body_text one ≡ body_text other → length (content_in one) ≡ length (content_in other) → one ≡ other
one_body (plain content) (plain other) a b e size = ap plain e
one_body (chunked one first) (chunked other second) a b e size =
    let same = one_chunked one other first second a.0 b.0 a.1 b.1 e in λ i. chunked (same.0 i) (same.1 i)
one_body (plain content) (chunked other second) a b e size =
    let longer = chunks_longer other second in
    let whole = ap (λ t. length t) e in
    absurd (omega (arith, longer, whole, size))
one_body (chunked one first) (plain other) a b e size =
    let longer = chunks_longer one first in
    let whole = ap (λ t. length t) e in
    absurd (omega (arith, longer, whole, size))

-- ---- messages

-- all of a message but its limits, and that its content ends as its head says
pub record IsGoodMessage (to_head : Bool) (message : Message) : Type 0 where
  pub start : IsStartLine message.head.start
  pub fits : Fits message.head.start
  pub lines : AreSound message.head.lines
  pub framing : message.framing ≡ framing_of to_head message.head
  pub body : IsGood message.body

pub message_sound : (to_head : Bool) (message : Message) → IsMessage to_head message → IsGoodMessage to_head message
message_sound to_head message is = record {
  start = is.head.start;
  fits = start_fits message.head is.head;
  lines = lines_sound message.head.lines is.head.lines;
  framing = is.framing;
  body = body_good message.body message.framing (content_length_of message.head) is.body;
}

pub one_sound : (to_head : Bool) (one other : Message) → IsGoodMessage to_head one → IsGoodMessage to_head other → message_text one ≡ message_text other
    → length (message_content one) ≡ length (message_content other) → one ≡ other
one_sound to_head one other a b e size =
    let heads = one_head one.head other.head (body_text one.body) (body_text other.body) a.start b.start a.fits b.fits a.lines b.lines e in
    let framings : one.framing ≡ other.framing = a.framing ∙ (ap (framing_of to_head) heads.0 ∙ sym b.framing) in
    let bodies = one_body one.body other.body a.body b.body heads.1 size in
    λ i. record { head = heads.0 i; framing = framings i; body = bodies i }

-- ---- sound messages

good_body : (body : Body) → IsSoundBody body → IsGood body
good_body (plain content) sound = tt
good_body (chunked chunks trailers) sound = (sound.0, lines_sound trailers sound.1)

good_where_sound : (to_head : Bool) (message : Message) → IsSoundMessage to_head message → IsGoodMessage to_head message
good_where_sound to_head message is = record {
  start = is.start;
  fits = is.fits;
  lines = lines_sound message.head.lines is.lines;
  framing = is.framing;
  body = good_body message.body is.body;
}

pub has_one_sound : HasOneSound
has_one_sound to_head one other a b e size = one_sound to_head one other (good_where_sound to_head one a) (good_where_sound to_head other b) e size

body_sound : (body : Body) (framing : Framing) (count : ℕ) → IsBodyOf framing count body → IsSoundBody body
body_sound (plain content) framing count of = tt
body_sound (chunked chunks trailers) Chunked count of = (of.0, of.1.each)
body_sound (chunked chunks trailers) NoContent count of = absurd of
body_sound (chunked chunks trailers) Length count of = absurd of
body_sound (chunked chunks trailers) ToEnd count of = absurd of

pub sound_where_read : IsSoundWhereRead
sound_where_read to_head message is = record {
  start = is.head.start;
  fits = start_fits message.head is.head;
  lines = is.head.lines;
  framing = is.framing;
  body = body_sound message.body message.framing (content_length_of message.head) is.body;
}

-- ---- messages with other lines

with_trailers_good : (body : Body) (lines : List FieldLine) → IsGood body → AreSound lines → IsGood (with_trailers lines body)
with_trailers_good (plain content) lines good sound = tt
with_trailers_good (chunked chunks trailers) lines good sound = (good.0, sound)

pub with_lines_sound : (to_head : Bool) (side : Side) (message : Message) (lines : List FieldLine) → IsMessage to_head message → AreSound lines → IsGoodMessage to_head (with_lines_on to_head side message lines)
with_lines_sound to_head Header message lines is sound = record {
  start = is.head.start;
  fits = start_fits message.head is.head;
  lines = sound;
  framing = refl;
  body = body_good message.body message.framing (content_length_of message.head) is.body;
}
with_lines_sound to_head Trailer message lines is sound = record {
  start = is.head.start;
  fits = start_fits message.head is.head;
  lines = lines_sound message.head.lines is.head.lines;
  framing = is.framing;
  body = with_trailers_good message.body lines (body_good message.body message.framing (content_length_of message.head) is.body) sound;
}

with_trailers_text : (head : List ℕ) (body : Body) (lines : List FieldLine) → has_trailers body ≡ true
    → head ++ body_text (with_trailers lines body) ≡ (head ++ body_before body) ++ (lines_text lines ++ body_after body)
with_trailers_text head (plain content) lines there = absurd (false≢true there)
with_trailers_text head (chunked chunks trailers) lines there = sym (append_assoc head (chunks_text chunks) (trailer_text lines))

pub with_lines_text : (to_head : Bool) (side : Side) (message : Message) (lines : List FieldLine) → has_side side message ≡ true → message_text (with_lines_on to_head side message lines) ≡ text_with (side_parts side message) lines
with_lines_text to_head Header message lines there = opened (record { start = message.head.start; lines = lines }) (body_text message.body)
with_lines_text to_head Trailer message lines there = with_trailers_text (head_text message.head) message.body lines there

with_trailers_there : (body : Body) (lines : List FieldLine) → has_trailers body ≡ true → trailers_in (with_trailers lines body) ≡ lines
with_trailers_there (plain content) lines there = absurd (false≢true there)
with_trailers_there (chunked chunks trailers) lines there = refl

pub with_lines_there : (to_head : Bool) (side : Side) (message : Message) (lines : List FieldLine) → has_side side message ≡ true → lines_on side (with_lines_on to_head side message lines) ≡ lines
with_lines_there to_head Header message lines there = refl
with_lines_there to_head Trailer message lines there = with_trailers_there message.body lines there

with_trailers_content : (body : Body) (lines : List FieldLine) → content_in (with_trailers lines body) ≡ content_in body
with_trailers_content (plain content) lines = refl
with_trailers_content (chunked chunks trailers) lines = refl

pub with_lines_content : (to_head : Bool) (side : Side) (message : Message) (lines : List FieldLine) → message_content (with_lines_on to_head side message lines) ≡ message_content message
with_lines_content to_head Header message lines = refl
with_lines_content to_head Trailer message lines = with_trailers_content message.body lines
