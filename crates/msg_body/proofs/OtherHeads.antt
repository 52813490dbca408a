-- A message with another head: what its text begins and ends with, and what is read of it.
use Rattle.std.proofs.Common.{◌≡◌, ◌≤◌, ℕ, ◌-◌, Bool, List, ◌++◌, length, take, drop, refl, sym, ap, subst, ◌∙◌, append_assoc, length-append, arith}
use Rattle.std.specs.Prelude.{Result, Ok, Err}
use Rattle.std.proofs.lemmas.List.{take_all}
use Rattle.std.proofs.Math.Seq.{take-append_seam, drop-append_seam}
use Rattle.msg_head.specs.declared.error.HeadError.{HeadError}
use Rattle.msg_head.specs.declared.error.HeadError.TheVariants.{Memory}
use Rattle.msg_head.specs.declared.head.HeadRead.{HeadRead}
use Rattle.msg_head.specs.declared.head.HeadRead.TheVariants as head
use Rattle.msg_head.specs.declared.trailer.TrailerRead.{TrailerRead}
use Rattle.msg_head.specs.declared.trailer.TrailerRead.TheVariants as trailer
use Rattle.msg_head.specs.Heads.{Head, SpellsHead, head_text}
use Rattle.msg_head.specs.Lines.{FieldLine}
use Rattle.msg_head.specs.Outcome.{IsHeadUnlessMemory}
use Rattle.msg_head.specs.TrailerOutcome.{IsTrailerUnlessMemory}
use Rattle.msg_head.specs.TrailerViews.{TrailerParts, trailer_lines_of}
use Rattle.msg_head.specs.Trailers.{IsTrailer, SpellsTrailer, trailer_text}
use Rattle.msg_head.specs.Views.{View, head_of}
use Rattle.framing.specs.Chunks.{Chunks, chunks_text}
use Rattle.framing.specs.Framings.{content_length_of}
use Rattle.framing.specs.declared.kind.Framing.{Framing}
use Rattle.framing.specs.declared.kind.Framing.TheVariants.{None, Length, Chunked, ToEnd}
use Rattle.msg_body.specs.Bodies.{Body, IsBodyOf, body_text, chunked, plain}
use Rattle.msg_body.specs.Messages.{Message, Spells, with_head}
use Rattle.msg_body.specs.Views.{BodyParts, body_of, message_of}
use Rattle.msg_body.specs.tools.Trailed.{EndsWithTrailer}

-- ---- what the text begins and ends with

pub begins : (to_head : Bool) (message : Message) (bytes : List ℕ) → Spells to_head message bytes → SpellsHead message.head (length (head_text message.head)) bytes
begins to_head message bytes is =
    let head = head_text message.head in
    record {
      within = omega (arith, ap (λ (t : List ℕ). length t) is.text, length-append head (body_text message.body));
      spells = record {
        is = is.is.head;
        text = ap (λ (t : List ℕ). take (length head) t) is.text ∙ take-append_seam head (body_text message.body);
      };
    }

trailer_is : (framing : Framing) (count : ℕ) (chunks : Chunks) (trailers : List FieldLine) → IsBodyOf framing count (chunked chunks trailers) → IsTrailer trailers
trailer_is None count chunks trailers is = absurd is
trailer_is Length count chunks trailers is = absurd is
trailer_is Chunked count chunks trailers is = is.1
trailer_is ToEnd count chunks trailers is = absurd is

pub ends : (to_head : Bool) (message : Message) (bytes : List ℕ) → Spells to_head message bytes → EndsWithTrailer message.body bytes
ends to_head message bytes is = by_body message.body refl
  where
    by_body : (body : Body) → message.body ≡ body → EndsWithTrailer body bytes
    by_body (plain content) same = tt
    by_body (chunked chunks trailers) same = (
      trailer_is message.framing (content_length_of message.head) chunks trailers (subst (λ (b : Body). IsBodyOf message.framing (content_length_of message.head) b) same is.is.body),
      (
        head_text message.head ++ chunks_text chunks,
        is.text ∙ (ap (λ (b : Body). head_text message.head ++ body_text b) same ∙ sym (append_assoc (head_text message.head) (chunks_text chunks) (trailer_text trailers))),
      ),
    )

-- the last bytes, as many as the trailer section has
pub section_spelled : (lines : List FieldLine) (text before section : List ℕ) (count : ℕ) → IsTrailer lines → text ≡ before ++ trailer_text lines → count ≡ length (trailer_text lines)
    → section ≡ drop (length text - count) text → SpellsTrailer lines (length section) section
section_spelled lines text before section count is cut counted last =
    let at : length text - count ≡ length before = omega (arith, counted, ap (λ (t : List ℕ). length t) cut, length-append before (trailer_text lines)) in
    let same : section ≡ trailer_text lines =
    last ∙ (ap (λ (n : ℕ). drop n text) at ∙ (ap (λ (t : List ℕ). drop (length before) t) cut ∙ drop-append_seam before (trailer_text lines))) in
    record {
      within = omega arith;
      spells = record { is = is; text = take_all (length section) section (omega arith) ∙ same };
    }

pub section_within : (lines : List FieldLine) (text before : List ℕ) → text ≡ before ++ trailer_text lines → length (trailer_text lines) ≤ length text
section_within lines text before cut = omega (arith, ap (λ (t : List ℕ). length t) cut, length-append before (trailer_text lines))

-- ---- what is read

pub no_partial_head : (result : Result HeadRead HeadError) (own : Head) (used : ℕ) → IsHeadUnlessMemory result own used → ¬ (result ≡ Ok head.Partial)
no_partial_head result own used is e = subst (λ (r : Result HeadRead HeadError). IsHeadUnlessMemory r own used) e is

-- and no other fault than out of memory
pub head_fault : (result : Result HeadRead HeadError) (own : Head) (used : ℕ) → IsHeadUnlessMemory result own used → (error : HeadError) → result ≡ Err error → error ≡ Memory
head_fault result own used is error e = subst (λ (r : Result HeadRead HeadError). IsHeadUnlessMemory r own used) e is

pub head_read : (result : Result HeadRead HeadError) (own : Head) (used count : ℕ) (view : View) → IsHeadUnlessMemory result own used → result ≡ Ok (head.Whole view count) → head_of view ≡ own
head_read result own used count view is e = (subst (λ (r : Result HeadRead HeadError). IsHeadUnlessMemory r own used) e is).0

pub no_partial_trailer : (result : Result TrailerRead HeadError) (lines : List FieldLine) (used : ℕ) → IsTrailerUnlessMemory result lines used → ¬ (result ≡ Ok trailer.Partial)
no_partial_trailer result lines used is e = subst (λ (r : Result TrailerRead HeadError). IsTrailerUnlessMemory r lines used) e is

pub trailer_fault : (result : Result TrailerRead HeadError) (lines : List FieldLine) (used : ℕ) → IsTrailerUnlessMemory result lines used → (error : HeadError) → result ≡ Err error → error ≡ Memory
trailer_fault result lines used is error e = subst (λ (r : Result TrailerRead HeadError). IsTrailerUnlessMemory r lines used) e is

pub trailer_read : (result : Result TrailerRead HeadError) (lines : List FieldLine) (used count : ℕ) (view : TrailerParts) → IsTrailerUnlessMemory result lines used → result ≡ Ok (trailer.Whole view count)
    → trailer_lines_of view ≡ lines
trailer_read result lines used count view is e = (subst (λ (r : Result TrailerRead HeadError). IsTrailerUnlessMemory r lines used) e is).0

-- the view of the parts is that of the message with the head
pub other_is : (own : View) (framing : Framing) (body : BodyParts) (message : Message) (head : Head) → head_of own ≡ head → framing ≡ message.framing → body_of body ≡ message.body
    → message_of (record { head = own; framing = framing; body = body }) ≡ with_head message head
other_is own framing body message head a b c = λ i. record { head = a i; framing = b i; body = c i }
