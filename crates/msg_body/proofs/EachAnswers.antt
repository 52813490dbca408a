-- Each list of bytes has an answer as a message, where it has no more bytes than a message may have.
use Rattle.std.proofs.Common.{ℕ, ◌+◌, ◌≤◌, Bool, List, [], ◌++◌, length, take, drop, refl, sym, subst, inl, inr, arith}
use Rattle.std.proofs.lemmas.Bool.{cases_Bool, cases_lt}
use Rattle.std.proofs.lemmas.List.{length-take-le, take_all}
use Rattle.msg_head.specs.Lines.{FieldLine}
use Rattle.msg_head.specs.Heads.{Head, SpellsHead, IsUnfinished, head_text}
use Rattle.msg_head.specs.Causes.{IsHeadError}
use Rattle.msg_head.specs.Trailers.{SpellsTrailer, IsTrailerUnfinished, trailer_text}
use Rattle.msg_head.specs.TrailerCauses.{IsTrailerError}
use Rattle.msg_head.proofs.EachAnswers.{each_has_a_head_answer, each_has_a_trailer_answer}
use Rattle.framing.specs.declared.chunk_limits.TheConstants.{MAX_CONTENT_BYTES}
use Rattle.framing.specs.Chunks.{Chunks, SpellsChunks, chunks_text}
use Rattle.framing.specs.ChunkCauses.{IsChunksError, AreChunksUnfinished}
use Rattle.framing.proofs.Answered.{each_has_an_answer}
use Rattle.framing.specs.declared.kind.Framing.{Framing}
use Rattle.framing.specs.declared.kind.Framing.TheVariants.{None, Length, Chunked, ToEnd}
use Rattle.framing.specs.Framings.{framing_of, content_length_of}
use Rattle.framing.proofs.FramingLaws.{has_framing_answer}
use Rattle.msg_body.specs.declared.limits.TheConstants.{MAX_MESSAGE_BYTES}
use Rattle.msg_body.specs.declared.expect.Expect.{Expect}
use Rattle.msg_body.specs.declared.error.MessageError.TheVariants.{BadStart, ContentTooLong}
use Rattle.msg_body.specs.Bodies.{Body, plain, chunked, body_text}
use Rattle.msg_body.specs.Messages.{is_expected}
use Rattle.msg_body.specs.Errors.{error_of, framing_error, chunk_error, trailer_error}
use Rattle.msg_body.specs.Causes.{IsErrorAfterHead, IsBodyError, IsBodyUnfinished, IsMessageError, IsMessageUnfinished}
use Rattle.msg_body.specs.Laws.{EachHasAMessageAnswer}
use Rattle.msg_body.specs.tools.Decided.{HasAnswer, IsFaultAs, AreParts, IsFaultOfParts, AreOpen}
use Rattle.msg_body.specs.tools.Judged.{SpellsBody}
use Rattle.msg_body.proofs.Joins.{joined, within_both}
use Rattle.msg_body.proofs.Readings.{all_of, text_short}
use Rattle.msg_body.proofs.OneBodies.{NextTrailer}
use Rattle.msg_body.proofs.OneMessages.{NextBody, NextIsOpen, IsOfKind, message_by}

-- ---- parts

-- a fault in other terms
renamed : {V F G : Type 0} (told : F → G) (IsPart : V → ℕ → Type 0) (IsFault : F → Type 0) (IsOpen : Type 0)
    → HasAnswer IsPart IsFault IsOpen → HasAnswer IsPart (IsFaultAs told IsFault) IsOpen
renamed told IsPart IsFault IsOpen (inl part) = inl part
renamed told IsPart IsFault IsOpen (inr (inl fault)) = inr (inl (told fault.0, (fault.0, fault.1, refl)))
renamed told IsPart IsFault IsOpen (inr (inr more)) = inr (inr more)

-- two parts, one after the other
then_answer : {V W G : Type 0} (IsPart : V → ℕ → List ℕ → Type 0) (IsFault : G → Type 0) (IsOpen : Type 0)
    (IsNext : V → ℕ → List ℕ → W → ℕ → Type 0) (IsNextFault : V → ℕ → List ℕ → G → Type 0) (IsNextOpen : V → ℕ → List ℕ → Type 0)
    (bytes : List ℕ)
    → HasAnswer (λ part n. IsPart part n bytes) IsFault IsOpen
    → ((part : V) (n : ℕ) → IsPart part n bytes → HasAnswer (IsNext part n (drop n bytes)) (IsNextFault part n (drop n bytes)) (IsNextOpen part n (drop n bytes)))
    → HasAnswer (AreParts IsPart IsNext bytes) (IsFaultOfParts IsPart IsFault IsNextFault bytes) (AreOpen IsPart IsOpen IsNextOpen bytes)
then_answer {V} {W} {G} IsPart IsFault IsOpen IsNext IsNextFault IsNextOpen bytes first next = by first
  where
    after : (part : V) (n : ℕ) → IsPart part n bytes → HasAnswer (IsNext part n (drop n bytes)) (IsNextFault part n (drop n bytes)) (IsNextOpen part n (drop n bytes))
        → HasAnswer (AreParts IsPart IsNext bytes) (IsFaultOfParts IsPart IsFault IsNextFault bytes) (AreOpen IsPart IsOpen IsNextOpen bytes)
    after part n is (inl second) = inl ((part, second.0), n + second.1, record { count = n; rest = second.1; first = is; second = second.2; used_is = refl })
    after part n is (inr (inl fault)) = inr (inl (fault.0, inr (record { part = part; used = n; is = is; holds = fault.1 })))
    after part n is (inr (inr more)) = inr (inr (inr (record { part = part; used = n; is = is; holds = more })))

    by : HasAnswer (λ part n. IsPart part n bytes) IsFault IsOpen → HasAnswer (AreParts IsPart IsNext bytes) (IsFaultOfParts IsPart IsFault IsNextFault bytes) (AreOpen IsPart IsOpen IsNextOpen bytes)
    by (inl part) = after part.0 part.1 part.2 (next part.0 part.1 part.2)
    by (inr (inl fault)) = inr (inl (fault.0, inl fault.1))
    by (inr (inr more)) = inr (inr (inl more))

-- a whole that parts make
whole_answer : {V W F : Type 0} (join : V → W) (IsPart : V → ℕ → Type 0) (IsWhole : W → ℕ → Type 0) (IsFault : F → Type 0) (IsOpen : Type 0)
    → HasAnswer IsPart IsFault IsOpen → ((part : V) (n : ℕ) → IsPart part n → IsWhole (join part) n) → HasAnswer IsWhole IsFault IsOpen
whole_answer join IsPart IsWhole IsFault IsOpen (inl part) made = inl (join part.0, part.1, made part.0 part.1 part.2)
whole_answer join IsPart IsWhole IsFault IsOpen (inr (inl fault)) made = inr (inl fault)
whole_answer join IsPart IsWhole IsFault IsOpen (inr (inr more)) made = inr (inr more)

-- ---- bodies

abbrev BodyAnswer : Framing → ℕ → ℕ → List ℕ → Type 0
BodyAnswer framing count start bytes =
    HasAnswer (λ body n. SpellsBody framing count body n bytes) (λ fault. IsBodyError framing count start fault bytes) (IsBodyUnfinished framing count bytes)

length_answer : (count start : ℕ) (bytes : List ℕ) → BodyAnswer Length count start bytes
length_answer count start bytes = elim (cases_lt MAX_CONTENT_BYTES count) [
  | inl long ↦ inr (inl (ContentTooLong, (long, refl)))
  | inr fits ↦ elim (cases_lt (length bytes) count) [
    | inl few ↦ inr (inr (fits, few))
    | inr enough ↦
        let sized = length-take-le count bytes enough in
        inl (plain (take count bytes), count, record { within = enough; is = sized; content = omega (arith, sized, fits); text = refl; all = λ e. absurd cc })
  ]
]

end_answer : (count start : ℕ) (bytes : List ℕ) → BodyAnswer ToEnd count start bytes
end_answer count start bytes = elim (cases_lt MAX_CONTENT_BYTES (length bytes)) [
  | inl long ↦ inr (inl (ContentTooLong, (long, refl)))
  | inr fits ↦ inl (plain bytes, length bytes, record { within = omega arith; is = tt; content = fits; text = take_all (length bytes) bytes (omega arith); all = λ e. refl })
]

abbrev chunked_of : Chunks × List FieldLine → Body
chunked_of parts = chunked parts.0 parts.1

chunked_made : (count : ℕ) (bytes : List ℕ) (parts : Chunks × List FieldLine) (n : ℕ) → AreParts SpellsChunks NextTrailer bytes parts n → SpellsBody Chunked count (chunked_of parts) n bytes
chunked_made count bytes parts n a = subst (λ k. SpellsBody Chunked count (chunked_of parts) k bytes) (sym a.used_is) (record {
  within = within_both bytes a.count a.rest a.first.within a.second.within;
  is = (a.first.text.are, a.second.spells.is);
  content = a.first.short;
  text = joined bytes (chunks_text parts.0) (trailer_text parts.1) a.count a.rest a.first.text.text a.second.spells.text;
  all = λ e. absurd cc;
})

chunked_answer : (count start : ℕ) (bytes : List ℕ) → BodyAnswer Chunked count start bytes
chunked_answer count start bytes =
    whole_answer chunked_of (AreParts SpellsChunks NextTrailer bytes) (λ body n. SpellsBody Chunked count body n bytes) (λ fault. IsBodyError Chunked count start fault bytes) (IsBodyUnfinished Chunked count bytes)
    (then_answer SpellsChunks (IsFaultAs (chunk_error start) (IsChunksError bytes)) (AreChunksUnfinished bytes)
    NextTrailer (λ chunks used rest. IsFaultAs (trailer_error (start + used)) (IsTrailerError rest)) (λ chunks used rest. IsTrailerUnfinished rest) bytes
    (renamed (chunk_error start) (λ chunks n. SpellsChunks chunks n bytes) (IsChunksError bytes) (AreChunksUnfinished bytes) (each_has_an_answer bytes))
    (λ chunks used is. renamed (trailer_error (start + used)) (λ lines n. SpellsTrailer lines n (drop used bytes)) (IsTrailerError (drop used bytes)) (IsTrailerUnfinished (drop used bytes)) (each_has_a_trailer_answer (drop used bytes))))
    (chunked_made count bytes)

body_answer : (framing : Framing) (count start : ℕ) (bytes : List ℕ) → BodyAnswer framing count start bytes
body_answer None count start bytes = inl (plain [], 0, record { within = omega arith; is = refl; content = omega arith; text = refl; all = λ e. absurd cc })
body_answer Length count start bytes = length_answer count start bytes
body_answer Chunked count start bytes = chunked_answer count start bytes
body_answer ToEnd count start bytes = end_answer count start bytes

-- ---- messages

after_head_answer : (expect : Expect) (to_head : Bool) (head : Head) (start : ℕ) (rest : List ℕ)
    → HasAnswer (NextBody expect to_head head start rest) (λ fault. IsErrorAfterHead expect to_head fault head start rest) (NextIsOpen expect to_head head start rest)
after_head_answer expect to_head head start rest = elim (cases_Bool (is_expected expect head.start)) [
  | inr other ↦ inr (inl (BadStart, inl (other, refl)))
  | inl expected ↦ elim (has_framing_answer head) [
    | inr error ↦ inr (inl (framing_error error.0, inr (expected, inl (error.0, error.1, refl))))
    | inl framable ↦ elim (body_answer (framing_of to_head head) (content_length_of head) start rest) [
      | inl body ↦ inl (body.0, body.1, (expected, framable, body.2))
      | inr none ↦ elim none [
        | inl fault ↦ inr (inl (fault.0, inr (expected, inr (framable, fault.1))))
        | inr more ↦ inr (inr (expected, framable, more))
      ]
    ]
  ]
]

message_made : (expect : Expect) (to_head : Bool) (bytes : List ℕ) → length bytes ≤ MAX_MESSAGE_BYTES → (parts : Head × Body) (n : ℕ) → AreParts SpellsHead (NextBody expect to_head) bytes parts n → IsOfKind expect to_head bytes (message_by to_head parts) n
message_made expect to_head bytes short parts n a =
    let body = a.second.2 in
    let within = within_both bytes a.count a.rest a.first.within body.within in
    let text = joined bytes (head_text parts.0) (body_text parts.1) a.count a.rest a.first.spells.text body.text in
    subst (λ k. IsOfKind expect to_head bytes (message_by to_head parts) k) (sym a.used_is) (
      record {
        within = within;
        spells = record {
          is = record {
            head = a.first.spells.is;
            framable = a.second.1;
            framing = refl;
            body = body.is;
            content = body.content;
            short = text_short bytes (head_text parts.0 ++ body_text parts.1) (a.count + a.rest) within text short;
          };
          text = text;
        };
        all = λ e. all_of bytes a.count a.rest a.first.within (body.all e);
      },
      a.second.0,
    )

message_answer : (expect : Expect) (to_head : Bool) (bytes : List ℕ) → length bytes ≤ MAX_MESSAGE_BYTES
    → HasAnswer (IsOfKind expect to_head bytes) (IsMessageError expect to_head bytes) (IsMessageUnfinished expect to_head bytes)
message_answer expect to_head bytes short =
    whole_answer (message_by to_head) (AreParts SpellsHead (NextBody expect to_head) bytes) (IsOfKind expect to_head bytes) (IsMessageError expect to_head bytes) (IsMessageUnfinished expect to_head bytes)
    (then_answer SpellsHead (IsFaultAs error_of (IsHeadError bytes)) (IsUnfinished bytes)
    (NextBody expect to_head) (λ head start rest fault. IsErrorAfterHead expect to_head fault head start rest) (NextIsOpen expect to_head) bytes
    (renamed error_of (λ head n. SpellsHead head n bytes) (IsHeadError bytes) (IsUnfinished bytes) (each_has_a_head_answer bytes))
    (λ head start is. after_head_answer expect to_head head start (drop start bytes)))
    (message_made expect to_head bytes short)

pub each_has_a_message_answer : EachHasAMessageAnswer
each_has_a_message_answer expect to_head bytes short = elim (message_answer expect to_head bytes short) [
  | inl message ↦ inl (message.0, message.1, message.2.0, message.2.1)
  | inr other ↦ inr other
]
