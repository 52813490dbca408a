-- Messages with other field lines on a side: where these are no more and no longer, and those that frame keep their values, they are messages.
use Rattle.std.proofs.Common.{◌≡◌, ℕ, ◌+◌, ◌≤◌, Bool, List, [], ◌∷◌, ◌++◌, length, refl, sym, ap, subst, ◌∙◌, arith, length-append, codes}
use Rattle.std.specs.Prelude.{◌&&◌}
use Rattle.std.specs.List.{All}
use Rattle.msg_head.specs.declared.error.Side.{Side}
use Rattle.msg_head.specs.declared.error.Side.TheVariants.{Header, Trailer}
use Rattle.msg_head.specs.Heads.{Head, IsHead, head_text}
use Rattle.msg_head.specs.Lines.{FieldLine, IsLine}
use Rattle.msg_head.specs.Starts.{start_text}
use Rattle.msg_head.specs.Trailers.{IsTrailer, trailer_text}
use Rattle.framing.specs.Chunks.{Chunks, chunks_text}
use Rattle.framing.specs.declared.kind.Framing.{Framing}
use Rattle.framing.specs.declared.kind.Framing.TheVariants.{None, Length, Chunked, ToEnd}
use Rattle.framing.specs.Framings.{IsFramable, are_accepted_codings, are_accepted_lengths, content_length_of, first_length, framing_by, framing_of, version_of}
use Rattle.msg_body.specs.Bodies.{Body, IsBodyOf, body_text, chunked, plain, trailers_in}
use Rattle.msg_body.specs.Messages.{IsMessage, Message}
use Rattle.msg_body.specs.Views.{lines_on}
use Rattle.msg_body.specs.SameFields.{HasSameValues}
use Rattle.line_rewrites.specs.Sides.{lines_text}
use Rattle.line_rewrites.specs.Steps.{with_lines_on, with_trailers}

-- the other lines are no more and no longer, and those that frame have the same values
pub record AreSmaller (lines others : List FieldLine) : Type 0 where
  pub each : All IsLine others
  pub few : length others ≤ length lines
  pub short : length (lines_text others) ≤ length (lines_text lines)
  pub codings : HasSameValues lines others (codes "transfer-encoding")
  pub lengths : HasSameValues lines others (codes "content-length")

-- ---- heads

-- the head with these lines
abbrev pub other_head : Head → List FieldLine → Head
other_head head others = record { start = head.start; lines = others }

pub head_length : (head : Head) → length (head_text head) ≡ length (start_text head.start) + (length (lines_text head.lines) + length (codes "\r\n"))
head_length head =
    let whole = length-append (start_text head.start) (lines_text head.lines ++ codes "\r\n") in
    let rest = length-append (lines_text head.lines) (codes "\r\n") in
    whole ∙ ap (λ n. length (start_text head.start) + n) rest

shorter_head : (head : Head) (others : List FieldLine) → AreSmaller head.lines others → length (head_text (other_head head others)) ≤ length (head_text head)
shorter_head head others small = omega (arith, head_length head, head_length (other_head head others), small.short)

smaller_head : (head : Head) (others : List FieldLine) → AreSmaller head.lines others → IsHead head → IsHead (other_head head others)
smaller_head head others small is = record {
  start = is.start;
  lines = small.each;
  few = omega (arith, small.few, is.few);
  short = omega (arith, shorter_head head others small, is.short);
}

smaller_framable : (head : Head) (others : List FieldLine) → AreSmaller head.lines others → IsFramable head → IsFramable (other_head head others)
smaller_framable head others small is = record {
  no_conflict = (λ i. small.codings.there i && small.lengths.there i) ∙ is.no_conflict;
  lengths = ap are_accepted_lengths small.lengths.same ∙ is.lengths;
  codings = ap (are_accepted_codings (version_of head.start)) small.codings.same ∙ is.codings;
}

same_framing : (to_head : Bool) (head : Head) (others : List FieldLine) → AreSmaller head.lines others → framing_of to_head (other_head head others) ≡ framing_of to_head head
same_framing to_head head others small = λ i. framing_by to_head head.start (small.codings.there i) (small.lengths.there i)

same_count : (head : Head) (others : List FieldLine) → AreSmaller head.lines others → content_length_of (other_head head others) ≡ content_length_of head
same_count head others small = ap first_length small.lengths.same

-- ---- the header

smaller_header : (to_head : Bool) (message : Message) (others : List FieldLine) → IsMessage to_head message → AreSmaller message.head.lines others → IsMessage to_head (with_lines_on to_head Header message others)
smaller_header to_head message others is small =
    let head = other_head message.head others in
    let framing : message.framing ≡ framing_of to_head head = is.framing ∙ sym (same_framing to_head message.head others small) in
    let count : content_length_of message.head ≡ content_length_of head = sym (same_count message.head others small) in
    let before = length-append (head_text message.head) (body_text message.body) in
    let after = length-append (head_text head) (body_text message.body) in
    record {
      head = smaller_head message.head others small is.head;
      framable = smaller_framable message.head others small is.framable;
      framing = refl;
      body = subst (λ (f : Framing). IsBodyOf f (content_length_of head) message.body) framing (subst (λ (n : ℕ). IsBodyOf message.framing n message.body) count is.body);
      content = is.content;
      short = omega (arith, before, after, shorter_head message.head others small, is.short);
    }

-- ---- trailer sections

pub trailer_length : (lines : List FieldLine) → length (trailer_text lines) ≡ length (lines_text lines) + length (codes "\r\n")
trailer_length lines = length-append (lines_text lines) (codes "\r\n")

shorter_trailer : (lines others : List FieldLine) → AreSmaller lines others → length (trailer_text others) ≤ length (trailer_text lines)
shorter_trailer lines others small = omega (arith, trailer_length lines, trailer_length others, small.short)

smaller_section : (lines others : List FieldLine) → AreSmaller lines others → IsTrailer lines → IsTrailer others
smaller_section lines others small is = record {
  each = small.each;
  few = omega (arith, small.few, is.few);
  short = omega (arith, shorter_trailer lines others small, is.short);
}

body_with : (framing : Framing) (count : ℕ) (chunks : Chunks) (trailers others : List FieldLine) → AreSmaller trailers others → IsBodyOf framing count (chunked chunks trailers)
    → IsBodyOf framing count (chunked chunks others)
body_with Chunked count chunks trailers others small of = (of.0, smaller_section trailers others small of.1)
body_with None count chunks trailers others small of = absurd of
body_with Length count chunks trailers others small of = absurd of
body_with ToEnd count chunks trailers others small of = absurd of

-- the message with this body
abbrev pub with_body : Message → Body → Message
with_body message body = record { head = message.head; framing = message.framing; body = body }

smaller_trailer : (to_head : Bool) (message : Message) (body : Body) (others : List FieldLine) → IsMessage to_head (with_body message body) → AreSmaller (trailers_in body) others
    → IsMessage to_head (with_body message (with_trailers others body))
smaller_trailer to_head message (plain content) others is small = is
smaller_trailer to_head message (chunked chunks trailers) others is small =
    let before = length-append (head_text message.head) (chunks_text chunks ++ trailer_text trailers) in
    let after = length-append (head_text message.head) (chunks_text chunks ++ trailer_text others) in
    let body = length-append (chunks_text chunks) (trailer_text trailers) in
    let other = length-append (chunks_text chunks) (trailer_text others) in
    record {
      head = is.head;
      framable = is.framable;
      framing = is.framing;
      body = body_with message.framing (content_length_of message.head) chunks trailers others small is.body;
      content = is.content;
      short = omega (arith, before, after, body, other, shorter_trailer trailers others small, is.short);
    }

-- ---- a side

-- the message with these lines is one
pub smaller_message : (to_head : Bool) (side : Side) (message : Message) (others : List FieldLine) → IsMessage to_head message → AreSmaller (lines_on side message) others
    → IsMessage to_head (with_lines_on to_head side message others)
smaller_message to_head Header message others is small = smaller_header to_head message others is small
smaller_message to_head Trailer message others is small = smaller_trailer to_head message message.body others is small

none_of : (lines : List FieldLine) → length lines ≤ 0 → lines ≡ []
none_of [] few = refl
none_of (line ∷ lines) few = absurd (omega (arith, few))

trailers_there : (body : Body) (others : List FieldLine) → length others ≤ length (trailers_in body) → trailers_in (with_trailers others body) ≡ others
trailers_there (plain content) others few = sym (none_of others few)
trailers_there (chunked chunks trailers) others few = refl

-- it has them there
pub lines_there : (to_head : Bool) (side : Side) (message : Message) (others : List FieldLine) → length others ≤ length (lines_on side message)
    → lines_on side (with_lines_on to_head side message others) ≡ others
lines_there to_head Header message others few = refl
lines_there to_head Trailer message others few = trailers_there message.body others few

trailers_twice : (body : Body) (lines others : List FieldLine) → with_trailers others (with_trailers lines body) ≡ with_trailers others body
trailers_twice (plain content) lines others = refl
trailers_twice (chunked chunks trailers) lines others = refl

-- lines that are put there again
pub lines_twice : (to_head : Bool) (side : Side) (message : Message) (lines others : List FieldLine)
    → with_lines_on to_head side (with_lines_on to_head side message lines) others ≡ with_lines_on to_head side message others
lines_twice to_head Header message lines others = refl
lines_twice to_head Trailer message lines others = ap (with_body message) (trailers_twice message.body lines others)

pub own_trailers : (body : Body) → with_trailers (trailers_in body) body ≡ body
own_trailers (plain content) = refl
own_trailers (chunked chunks trailers) = refl

-- the message with its own lines is itself
pub own_lines : (to_head : Bool) (side : Side) (message : Message) → message.framing ≡ framing_of to_head message.head → with_lines_on to_head side message (lines_on side message) ≡ message
own_lines to_head Header message framing = λ i. record { head = message.head; framing = sym framing i; body = message.body }
own_lines to_head Trailer message framing = ap (with_body message) (own_trailers message.body)

body_lines : (framing : Framing) (count : ℕ) (body : Body) → IsBodyOf framing count body → All IsLine (trailers_in body)
body_lines framing count (plain content) of = λ k d lt. absurd (omega (arith, lt))
body_lines Chunked count (chunked chunks trailers) of = of.1.each
body_lines None count (chunked chunks trailers) of = absurd of
body_lines Length count (chunked chunks trailers) of = absurd of
body_lines ToEnd count (chunked chunks trailers) of = absurd of

-- a message's lines are field lines
pub message_lines : (to_head : Bool) (side : Side) (message : Message) → IsMessage to_head message → All IsLine (lines_on side message)
message_lines to_head Header message is = is.head.lines
message_lines to_head Trailer message is = body_lines message.framing (content_length_of message.head) message.body is.body
