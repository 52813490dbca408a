-- What is read of bytes part by part.
use Rattle.std.proofs.Common.{◌≡◌, ◌≢◌, ℕ, ◌+◌, ◌<◌, ◌≤◌, ◌^◌, Bool, IsTrue, List, ◌∷◌, ◌++◌, suc, length, length-append, take, drop, refl, sym, subst, ap, ◌∙◌, inl, inr, arith}
use Rattle.std.specs.Prelude.{Result, Ok, Err, IsErrAnd}
use Rattle.std.proofs.lemmas.List.{length-take-le, length-drop, drop-take}
use Rattle.std.proofs.Math.Seq.{take-add}
use Rattle.msg_head.specs.declared.error.HeadError.{HeadError}
use Rattle.msg_head.specs.declared.error.HeadError.TheVariants as head_error
use Rattle.msg_head.specs.Heads.{SpellsHead, head_text}
use Rattle.msg_head.specs.Causes.{IsHeadError}
use Rattle.msg_head.specs.Views.{View, IsViewOf, head_of}
use Rattle.msg_head.specs.Trailers.{trailer_text, after_chunks}
use Rattle.msg_head.specs.TrailerCauses.{IsTrailerError, HasTrailerNakedEnd}
use Rattle.msg_head.specs.TrailerViews.{TrailerParts, IsTrailerViewOf, trailer_lines_of}
use Rattle.framing.specs.declared.chunk_error.ChunkError.{ChunkError}
use Rattle.framing.specs.declared.chunk_error.ChunkError.TheVariants as chunk
use Rattle.framing.specs.Chunks.{chunks_text}
use Rattle.framing.specs.ChunkCauses.{IsChunksError}
use Rattle.framing.specs.Views.{ChunksParts, IsChunksViewOf, chunks_of}
use Rattle.framing.specs.declared.error.FramingError.{FramingError}
use Rattle.framing.specs.declared.kind.Framing.{Framing}
use Rattle.framing.specs.declared.kind.Framing.TheVariants.{Chunked}
use Rattle.framing.specs.declared.read.Framed.{Framed}
use Rattle.framing.specs.Framings.{IsFramable, framing_of, content_length_of}
use Rattle.framing.specs.Causes.{IsFramingError}
use Rattle.msg_body.specs.declared.limits.TheConstants.{MAX_MESSAGE_BYTES}
use Rattle.msg_body.specs.declared.expect.Expect.{Expect}
use Rattle.msg_body.specs.declared.error.MessageError.{MessageError}
use Rattle.msg_body.specs.declared.error.MessageError.TheVariants.{Memory}
use Rattle.msg_body.specs.declared.body.BodyRead.{BodyRead}
use Rattle.msg_body.specs.declared.body.BodyRead.TheVariants as body
use Rattle.msg_body.specs.declared.read.MessageRead.{MessageRead}
use Rattle.msg_body.specs.Bodies.{IsBodyOf, body_text}
use Rattle.msg_body.specs.Messages.{is_expected}
use Rattle.msg_body.specs.Errors.{error_of, framing_error, chunk_error, trailer_error}
use Rattle.msg_body.specs.Content.{body_parts}
use Rattle.msg_body.specs.Views.{BodyParts, chunked_parts, IsMessageViewOf, body_of}
use Rattle.msg_body.specs.Causes.{IsChunkedError, IsBodyError, IsBodyUnfinished, IsMessageError, IsMessageUnfinished}
use Rattle.msg_body.specs.tools.Judged.{IsBodyViewOf, ExplainsBody, ExplainsMessage, ExplainsRest, IsChunkOffset, IsTrailerOffset}
use Rattle.msg_body.proofs.Joins.{joined, within_both}

-- ---- bodies

in_range : (start offset count : ℕ) → start + count ≤ MAX_MESSAGE_BYTES → offset < count → start + offset < 2 ^ 64
in_range start offset count short low =
    let bound : MAX_MESSAGE_BYTES ≤ 2 ^ 63 = omega arith in
    omega (arith, short, low, bound)

pub chunk_offset : (start : ℕ) (bytes : List ℕ) (fault : ChunkError) → start + length bytes ≤ MAX_MESSAGE_BYTES → IsChunksError bytes fault → IsChunkOffset start fault
chunk_offset start bytes chunk.TooLong short is = tt
chunk_offset start bytes (chunk.Bad offset) short is = in_range start offset (length bytes) short is.holds.within

naked_within : (bytes : List ℕ) (offset : ℕ) → HasTrailerNakedEnd bytes offset → offset < length bytes
naked_within bytes offset is =
    let at = is.first.is in
    let sized : length is.section ≡ length at.before + suc (length at.after) = ap (length {A = ℕ}) at.joined ∙ length-append at.before (at.c ∷ at.after) in
    let stands = at.stands in
    let all : suc (suc (length bytes)) ≡ suc (suc (length is.section)) + length is.is.more = ap (length {A = ℕ}) is.is.joined ∙ length-append (after_chunks is.section) is.is.more in
    omega (arith, sized, stands, all)

pub trailer_offset : (start : ℕ) (bytes : List ℕ) (used : ℕ) (fault : HeadError) → start + length bytes ≤ MAX_MESSAGE_BYTES → used ≤ length bytes
    → (fault ≢ head_error.Memory → IsTrailerError (drop used bytes) fault) → IsTrailerOffset (start + used) fault
trailer_offset start bytes used head_error.Memory short within is = tt
trailer_offset start bytes used (head_error.TooLong side) short within is = tt
trailer_offset start bytes used (head_error.NakedEnd offset) short within is =
    let low = naked_within (drop used bytes) offset (is (λ e. cc)).holds in
    in_range (start + used) offset (length (drop used bytes)) (omega (arith, short, within, length-drop used bytes)) low
trailer_offset start bytes used head_error.BadStart short within is = tt
trailer_offset start bytes used (head_error.TooManyLines side) short within is = tt
trailer_offset start bytes used (head_error.BadLine side index) short within is = tt

pub chunk_fault : (start : ℕ) (bytes : List ℕ) (fault : ChunkError) (told : MessageError) → told ≡ chunk_error start fault → IsChunksError bytes fault → IsChunkedError start told bytes
chunk_fault start bytes fault told e is = inl (fault, is, e)

pub trailer_fault : (start : ℕ) (bytes : List ℕ) (chunks : ChunksParts) (used : ℕ) (fault : HeadError) (told : MessageError) → IsChunksViewOf bytes chunks used
    → told ≡ trailer_error (start + used) fault → (fault ≢ head_error.Memory → IsTrailerError (drop used bytes) fault) → told ≢ Memory → IsChunkedError start told bytes
trailer_fault start bytes chunks used fault told view e is own = inr (record {
  part = chunks_of chunks;
  used = used;
  is = view.spells;
  holds = (fault, is (λ m. own (e ∙ ap (trailer_error (start + used)) m)), e);
})

pub chunked_whole : (bytes : List ℕ) (chunks : ChunksParts) (used : ℕ) (trailer : TrailerParts) (count : ℕ) → IsChunksViewOf bytes chunks used → IsTrailerViewOf (drop used bytes) trailer count
    → (n : ℕ) → IsBodyViewOf Chunked n bytes (chunked_parts chunks trailer) (used + count)
chunked_whole bytes chunks used trailer count a b n = record {
  spells = record {
    within = within_both bytes used count a.within b.within;
    is = (a.spells.text.are, b.spells.is);
    content = a.spells.short;
    text = joined bytes (chunks_text (chunks_of chunks)) (trailer_text (trailer_lines_of trailer)) used count a.spells.text.text (sym b.bytes_are ∙ b.spells.text);
    all = λ e. absurd cc;
  };
  bytes_are = (λ i. a.bytes_are i ++ b.bytes_are i) ∙ sym (take-add used count bytes);
  fills = (a.fills, b.fills);
}

-- ---- messages

-- the head is read, of the expected kind, and framed
pub record IsJudged (expect : Expect) (to_head : Bool) (bytes : List ℕ) (view : View) (start : ℕ) (framed : Framed) : Type 0 where
  pub view_is : IsViewOf bytes view start
  pub expected : IsTrue (is_expected expect view.start)
  pub framable : IsFramable (head_of view)
  pub framing : framed.framing ≡ framing_of to_head (head_of view)
  pub length_is : framed.length ≡ content_length_of (head_of view)

pub view_head : (bytes : List ℕ) (view : View) (start : ℕ) → IsViewOf bytes view start → SpellsHead (head_of view) start bytes
view_head bytes view start is = record { within = is.within; spells = rw (sym is.bytes_are) is.spells }

pub explained : (expect : Expect) (to_head : Bool) (bytes : List ℕ) (result : Result MessageRead MessageError) (fault : MessageError) → IsErrAnd result (λ given. given ≡ fault)
    → (fault ≢ Memory → IsMessageError expect to_head bytes fault) → ExplainsMessage expect to_head bytes result
explained expect to_head bytes (Ok x) fault is cause = absurd is
explained expect to_head bytes (Err e) fault is cause = λ own. subst (IsMessageError expect to_head bytes) (sym is) (cause (λ m. own (is ∙ m)))

pub head_fault : (expect : Expect) (to_head : Bool) (bytes : List ℕ) (fault : HeadError) → (fault ≢ head_error.Memory → IsHeadError bytes fault)
    → error_of fault ≢ Memory → IsMessageError expect to_head bytes (error_of fault)
head_fault expect to_head bytes fault is own = inl (fault, is (λ m. own (ap error_of m)), refl)

pub framing_fault : (expect : Expect) (to_head : Bool) (bytes : List ℕ) (view : View) (start : ℕ) (fault : FramingError) → IsViewOf bytes view start
    → IsTrue (is_expected expect view.start) → IsFramingError (head_of view) fault → IsMessageError expect to_head bytes (framing_error fault)
framing_fault expect to_head bytes view start fault is expected cause = inr (record {
  part = head_of view;
  used = start;
  is = view_head bytes view start is;
  holds = inr (expected, inl (fault, cause, refl));
})

pub body_fault : (expect : Expect) (to_head : Bool) (bytes : List ℕ) (view : View) (start : ℕ) (framed : Framed) (fault : MessageError) → IsJudged expect to_head bytes view start framed
    → IsBodyError framed.framing framed.length start fault (drop start bytes) → IsMessageError expect to_head bytes fault
body_fault expect to_head bytes view start framed fault j cause = inr (record {
  part = head_of view;
  used = start;
  is = view_head bytes view start j.view_is;
  holds = inr (
    j.expected,
    inr (
      j.framable,
      subst (λ f. IsBodyError f (content_length_of (head_of view)) start fault (drop start bytes)) j.framing
          (subst (λ n. IsBodyError framed.framing n start fault (drop start bytes)) j.length_is cause),
    ),
  );
})

pub body_unfinished : (expect : Expect) (to_head : Bool) (bytes : List ℕ) (view : View) (start : ℕ) (framed : Framed) → IsJudged expect to_head bytes view start framed
    → IsBodyUnfinished framed.framing framed.length (drop start bytes) → IsMessageUnfinished expect to_head bytes
body_unfinished expect to_head bytes view start framed j more = inr (record {
  part = head_of view;
  used = start;
  is = view_head bytes view start j.view_is;
  holds = (
    j.expected,
    j.framable,
    subst (λ f. IsBodyUnfinished f (content_length_of (head_of view)) (drop start bytes)) j.framing
        (subst (λ n. IsBodyUnfinished framed.framing n (drop start bytes)) j.length_is more),
  );
})

pub all_of : (bytes : List ℕ) (start count : ℕ) → start ≤ length bytes → count ≡ length (drop start bytes) → start + count ≡ length bytes
all_of bytes start count within e = omega (arith, within, e, length-drop start bytes)

pub text_short : (bytes text : List ℕ) (n : ℕ) → n ≤ length bytes → take n bytes ≡ text → length bytes ≤ MAX_MESSAGE_BYTES → length text ≤ MAX_MESSAGE_BYTES
text_short bytes text n within is short =
    let sized : n ≡ length text = sym (length-take-le n bytes within) ∙ ap (length {A = ℕ}) is in
    omega (arith, sized, within, short)

pub message_whole : (expect : Expect) (to_head : Bool) (bytes : List ℕ) (view : View) (start : ℕ) (framed : Framed) (body : BodyParts) (count : ℕ)
    → length bytes ≤ MAX_MESSAGE_BYTES → IsJudged expect to_head bytes view start framed → IsBodyViewOf framed.framing framed.length (drop start bytes) body count
    → IsMessageViewOf expect to_head bytes (record { head = view; framing = framed.framing; body = body }) (start + count)
message_whole expect to_head bytes view start framed body count short j b =
    let head_is : take start bytes ≡ head_text (head_of view) = sym j.view_is.bytes_are ∙ j.view_is.spells.text in
    let text = joined bytes (head_text (head_of view)) (body_text (body_of body)) start count head_is b.spells.text in
    let within = within_both bytes start count j.view_is.within b.spells.within in
    record {
      head_used = start;
      head = j.view_is;
      spells = record {
        within = within;
        spells = record {
          is = record {
            head = j.view_is.spells.is;
            framable = j.framable;
            framing = j.framing;
            body = subst (λ n. IsBodyOf framed.framing n (body_of body)) j.length_is b.spells.is;
            content = b.spells.content;
            short = text_short bytes (head_text (head_of view) ++ body_text (body_of body)) (start + count) within text short;
          };
          text = text;
        };
        all = λ e. all_of bytes start count j.view_is.within (b.spells.all e);
      };
      expected = j.expected;
      body = b.bytes_are ∙ sym (drop-take start count bytes);
      fills = b.fills;
    }

pub rest_is : (expect : Expect) (to_head : Bool) (bytes : List ℕ) (view : View) (start : ℕ) (framed : Framed) (rest : List ℕ) (read : BodyRead)
    → length bytes ≤ MAX_MESSAGE_BYTES → IsJudged expect to_head bytes view start framed → rest ≡ drop start bytes → ExplainsBody framed.framing framed.length start rest (Ok read)
    → ExplainsRest expect to_head bytes view start (Ok (framed.framing, read))
rest_is expect to_head bytes view start framed rest (body.Whole parts count) short j e b = message_whole expect to_head bytes view start framed (body_parts parts) count short j (rw e at b)
rest_is expect to_head bytes view start framed rest body.Partial short j e b = body_unfinished expect to_head bytes view start framed j (rw e at b)

pub rest_fault : (expect : Expect) (to_head : Bool) (bytes : List ℕ) (view : View) (start : ℕ) (result : Result (Framing × BodyRead) MessageError) (fault : MessageError)
    → IsErrAnd result (λ given. given ≡ fault) → (fault ≢ Memory → IsMessageError expect to_head bytes fault) → ExplainsRest expect to_head bytes view start result
rest_fault expect to_head bytes view start (Ok x) fault is cause = absurd is
rest_fault expect to_head bytes view start (Err e) fault is cause = λ own. subst (IsMessageError expect to_head bytes) (sym is) (cause (λ m. own (is ∙ m)))
