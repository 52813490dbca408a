-- What each message of a sample is: it has six short lines, of which no two have one name, and its content in chunks. So it is a message, and stays one with other lines of the same values.
use Rattle.std.proofs.Common.{◌≡◌, ◌≤◌, ◌&&◌, ℕ, false, List, [], length, codes, refl, sym, ap, subst, ◌∙◌, arith}
use Rattle.std.proofs.lemmas.List.{length-append}
use Rattle.std.proofs.lemmas.List.Elements.{All-nil}
use Rattle.msg_head.specs.Heads.{IsHead, head_text}
use Rattle.msg_head.specs.Lines.{FieldLine, IsLine}
use Rattle.msg_head.specs.Starts.{IsStartLine, start_text}
use Rattle.msg_head.specs.Trailers.{IsTrailer}
use Rattle.msg_head.specs.declared.error.Side.TheVariants.{Header}
use Rattle.framing.specs.Chunks.{AreChunks, Chunks, chunks_text, content_of}
use Rattle.framing.specs.declared.chunk_limits.TheConstants.{MAX_CONTENT_BYTES}
use Rattle.framing.specs.Framings.{IsFramable, are_accepted_codings, are_accepted_lengths, content_length_of, framing_by, framing_of, version_of}
use Rattle.framing.specs.declared.kind.Framing.{Framing}
use Rattle.framing.specs.declared.kind.Framing.TheVariants.{Chunked}
use Rattle.msg_body.specs.Bodies.{Body, IsBodyOf, body_text, chunked, content_in}
use Rattle.msg_body.specs.Messages.{IsMessage, Message}
use Rattle.msg_body.specs.SameFields.{HasSameValues}
use Rattle.line_rewrites.specs.Steps.{ChangesLines, with_lines_on}
use Rattle.signing.proofs.Inserting.{head_length}
use Rattle.samples.specs.Chains.{sample_context}
use Rattle.samples.proofs.NameCounts.{HasEachOnce}
use Rattle.samples.proofs.ShortLines.{AreShortLines, are_lines, lines_short}

pub record IsReady (m : Message) : Type 0 where
  pub start : IsStartLine m.head.start
  pub start_short : length (start_text m.head.start) ≤ 100
  pub lines : AreShortLines m.head.lines
  pub six : length m.head.lines ≡ 6
  pub once : HasEachOnce m.head.lines
  pub framable : IsFramable m.head
  pub framing : m.framing ≡ Chunked
  pub framed : framing_of false m.head ≡ Chunked
  pub chunks : Chunks
  pub body : m.body ≡ chunked chunks []
  pub are : AreChunks chunks
  pub content : length (content_of chunks) ≡ 100000
  pub text : length (chunks_text chunks) ≤ 200000

pub no_trailers : IsTrailer []
no_trailers = record { each = All-nil IsLine; few = omega arith; short = omega arith }

-- ---- it is a message

module _ (m : Message) (r : IsReady m) where
  head_short : length (head_text m.head) ≤ 7000
  head_short = omega (arith, head_length m.head, r.start_short, lines_short m.head.lines r.lines, r.six)

  body_short : length (body_text m.body) ≤ 200002
  body_short =
      subst (λ (b : Body). length (body_text b) ≤ 200002) (sym r.body) (omega (arith, r.text, length-append (chunks_text r.chunks) (codes "\r\n")))

  is_head : IsHead m.head
  is_head = record {
    start = r.start;
    lines = are_lines m.head.lines r.lines;
    few = omega (arith, r.six);
    short = omega (arith, head_short);
  }

  pub message_is : IsMessage false m
  message_is = record {
    head = is_head;
    framable = r.framable;
    framing = r.framing ∙ sym r.framed;
    body = subst (λ (f : Framing). IsBodyOf f (content_length_of m.head) m.body) (sym r.framing)
        (subst (λ (b : Body). IsBodyOf Chunked (content_length_of m.head) b) (sym r.body) (r.are, no_trailers));
    content = subst (λ (b : Body). length (content_in b) ≤ MAX_CONTENT_BYTES) (sym r.body) (omega (arith, r.content));
    short = omega (arith, head_short, body_short, length-append (head_text m.head) (body_text m.body));
  }

-- ---- other lines of the same values

module _ (m : Message) (r : IsReady m) (new : List FieldLine) (short : AreShortLines new) (six : length new ≡ 6) (same : (name : List ℕ) → HasSameValues m.head.lines new name) where
  abbrev pub with_new : Message
  with_new = with_lines_on false Header m new

  framed_new : framing_of false with_new.head ≡ Chunked
  framed_new =
      (λ i. framing_by false m.head.start ((same (codes "transfer-encoding")).there i) ((same (codes "content-length")).there i)) ∙ r.framed

  pub ready_new : IsReady with_new
  ready_new = record {
    start = r.start;
    start_short = r.start_short;
    lines = short;
    six = six;
    once = λ name. subst (λ (vs : List (List ℕ)). length vs ≤ 1) (sym (same name).same) (r.once name);
    framable = record {
      no_conflict = (λ i. (same (codes "transfer-encoding")).there i && (same (codes "content-length")).there i) ∙ r.framable.no_conflict;
      lengths = ap are_accepted_lengths (same (codes "content-length")).same ∙ r.framable.lengths;
      codings = ap (are_accepted_codings (version_of m.head.start)) (same (codes "transfer-encoding")).same ∙ r.framable.codings;
    };
    framing = framed_new;
    framed = framed_new;
    chunks = r.chunks;
    body = r.body;
    are = r.are;
    content = r.content;
    text = r.text;
  }

  pub changes_lines : (Change : List FieldLine → List FieldLine → Type 0) → Change m.head.lines new → ChangesLines (sample_context m) Header Change with_new
  changes_lines Change change = record {
    lines = new;
    change = change;
    after_is = refl;
    there = refl;
    message = message_is with_new ready_new;
  }
