-- The bytes that the code writes are those of what a rewriting of content makes, or it makes no message.
use Rattle.std.proofs.Common.{◌≡◌, ℕ, ◌≤◌, Bool, true, false, ◌&&◌, List, [], ◌∷◌, ◌++◌, length, refl, sym, ap, subst, ◌∙◌, arith, append_assoc, codes}
use Rattle.std.proofs.lemmas.Bool.{and_parts, and_from, false≢true}
use Rattle.msg_head.specs.Heads.{head_text}
use Rattle.msg_head.specs.Trailers.{trailer_text}
use Rattle.msg_head.specs.declared.error.Side.TheVariants.{Header}
use Rattle.framing.specs.Chunks.{Chunks, chunks_text, content_of}
use Rattle.framing.specs.declared.kind.Framing.{Framing}
use Rattle.framing.specs.declared.kind.Framing.TheVariants.{Length, Chunked}
use Rattle.framing.specs.Framings.{content_length_of}
use Rattle.msg_body.specs.Bodies.{Body, IsBodyOf, plain, chunked, content_in, trailers_in}
use Rattle.msg_body.specs.Messages.{IsMessage, Message}
use Rattle.msg_body.specs.Views.{message_content}
use Rattle.component_values.specs.Context.{MessageContext, answers_head}
use Rattle.rewrite_script.specs.declared.rewrite.WholeRewrite.TheVariants.{Rechunk, Chunk, Dechunk}
use Rattle.line_rewrites.specs.Sides.{body_after, has_trailers, lines_text, side_parts}
use Rattle.whole_rewrites.specs.Content.{IsChunked, IsDechunked, IsRechunked, coding_line, framed, length_line}
use Rattle.whole_rewrites.specs.tools.HeadLines.{HasNoOnly, IsOnly, head_in, head_with, with_line_at}
use Rattle.framing.specs.Sizes.{add_up_to, are_some, sized_chunks}
use Rattle.whole_rewrites.specs.tools.Judged.{IsOffered}
use Rattle.framing.proofs.SizeLaws.{in_chunks, sizes_fit}
use Rattle.whole_rewrites.proofs.ContentLists.{line_for}
use Rattle.whole_rewrites.proofs.ContentKinds.{chunked_is_sound, chunked_some, dechunked_is_sound, rechunked_is_sound, rechunked_some}

-- the sizes are those of chunks of the content
abbrev pub are_sizes : MessageContext → List ℕ → Bool
are_sizes context sizes = are_some sizes && add_up_to (length (message_content context.message)) sizes

pub same_sizes : (context : MessageContext) (sizes : List ℕ) (count : ℕ) (are other : Bool) → count ≡ length (message_content context.message) → are ≡ (are_some sizes && add_up_to count sizes) → are ≡ other
    → are_sizes context sizes ≡ other
same_sizes context sizes count are other counts is told = ap (λ n. are_some sizes && add_up_to n sizes) (sym counts) ∙ (sym is ∙ told)

-- no message is made
abbrev pub NoMessage : MessageContext → (Message → Type 0) → Type 0
NoMessage context Made = (made : Message) → Made made → ¬ IsMessage (answers_head context.related) made

-- ---- other sizes

module _ (context : MessageContext) (sizes : List ℕ) where
  fitting : (content : List ℕ) → message_content context.message ≡ content → are_some sizes ≡ true → add_up_to (length content) sizes ≡ true → are_sizes context sizes ≡ true
  fitting content same some fits =
      and_from (are_some sizes) (add_up_to (length (message_content context.message)) sizes) some (ap (λ (c : List ℕ). add_up_to (length c) sizes) same ∙ fits)

  pub rechunk_unfit : are_sizes context sizes ≡ false → NoMessage context (IsRechunked context sizes)
  rechunk_unfit unfit made is read =
      false≢true (sym unfit ∙ fitting (content_of is.old) (ap content_in is.body_is) (rechunked_some sizes context made is read) (sizes_fit sizes (content_of is.old) is.chunks is.are))

  pub chunk_unfit : are_sizes context sizes ≡ false → NoMessage context (IsChunked context sizes)
  chunk_unfit unfit made is read =
      false≢true (sym unfit ∙ fitting is.content (ap content_in is.body_is) (chunked_some sizes context made is read) (sizes_fit sizes is.content is.chunks is.are))

  pub chunk_no_line : HasNoOnly (codes "content-length") context.message.head.lines → NoMessage context (IsChunked context sizes)
  chunk_no_line none made is read = none coding_line is.sent.lines is.sent.line

pub dechunk_no_line : (context : MessageContext) → HasNoOnly (codes "transfer-encoding") context.message.head.lines → NoMessage context (IsDechunked context)
dechunk_no_line context none made is read = none (length_line (length (content_of is.chunks))) is.sent.lines is.sent.line

-- ---- bodies by their framing

length_plain : (body : Body) (framing : Framing) (count : ℕ) → framing ≡ Length → IsBodyOf framing count body → (content : List ℕ) × (body ≡ plain content)
length_plain (plain content) framing count is of = (content, refl)
length_plain (chunked chunks trailers) framing count is of = absurd (subst (λ (f : Framing). IsBodyOf f count (chunked chunks trailers)) is of)

in_chunks_body : (body : Body) (framing : Framing) (count : ℕ) → framing ≡ Chunked → IsBodyOf framing count body → length (trailers_in body) ≤ 0 → (chunks : Chunks) × (body ≡ chunked chunks [])
in_chunks_body (plain content) framing count is of none = absurd (subst (λ (f : Framing). IsBodyOf f count (plain content)) is of)
in_chunks_body (chunked chunks []) framing count is of none = (chunks, refl)
in_chunks_body (chunked chunks (line ∷ trailers)) framing count is of none = absurd (omega (arith, none))

-- ---- what is made

module _ (context : MessageContext) (text : List ℕ) (message : IsMessage (answers_head context.related) context.message) where
  pub rechunk_offered : (sizes : List ℕ) → has_trailers context.message.body ≡ true → are_sizes context sizes ≡ true
      → text ≡ (head_in (side_parts Header context.message) ++ chunks_text (sized_chunks sizes (message_content context.message))) ++ (lines_text (trailers_in context.message.body) ++ body_after context.message.body)
      → IsOffered context (Rechunk sizes) text
  rechunk_offered sizes there fits e = by context.message.body refl there e
    where
      both : (are_some sizes ≡ true) × (add_up_to (length (message_content context.message)) sizes ≡ true)
      both = and_parts (are_some sizes) (add_up_to (length (message_content context.message)) sizes) fits

      by : (body : Body) → context.message.body ≡ body → has_trailers body ≡ true
          → text ≡ (head_in (side_parts Header context.message) ++ chunks_text (sized_chunks sizes (message_content context.message))) ++ (lines_text (trailers_in body) ++ body_after body)
          → IsOffered context (Rechunk sizes) text
      by (plain content) is there e = absurd (false≢true there)
      by (chunked old trailers) is there e =
          let content : message_content context.message ≡ content_of old = ap content_in is in
          let chunks = sized_chunks sizes (content_of old) in
          let made : Message = record { head = context.message.head; framing = context.message.framing; body = chunked chunks trailers } in
          let makes : IsRechunked context sizes made = record {
            old = old;
            chunks = chunks;
            trailers = trailers;
            body_is = is;
            are = in_chunks sizes (content_of old) (sym (ap (λ (c : List ℕ). add_up_to (length c) sizes) content) ∙ both.1);
            made_is = refl;
          } in
          record {
            made = made;
            makes = makes;
            sound = rechunked_is_sound sizes context made message both.0 makes;
            text_is = e
                ∙ (ap (λ (c : List ℕ). (head_in (side_parts Header context.message) ++ chunks_text (sized_chunks sizes c)) ++ trailer_text trailers) content
                ∙ append_assoc (head_text context.message.head) (chunks_text chunks) (trailer_text trailers));
          }

  pub chunk_offered : (sizes : List ℕ) (index : ℕ) → context.message.framing ≡ Length → are_sizes context sizes ≡ true → IsOnly (codes "content-length") context.message.head.lines index
      → text ≡ (head_with (side_parts Header context.message) index coding_line ++ chunks_text (sized_chunks sizes (message_content context.message))) ++ codes "\r\n"
      → IsOffered context (Chunk sizes) text
  chunk_offered sizes index framing fits only e =
      let both = and_parts (are_some sizes) (add_up_to (length (message_content context.message)) sizes) fits in
      let found = length_plain context.message.body context.message.framing (content_length_of context.message.head) framing message.body in
      let content : message_content context.message ≡ found.0 = ap content_in found.1 in
      let chunks = sized_chunks sizes found.0 in
      let lines = with_line_at index coding_line context.message.head.lines in
      let made = framed (answers_head context.related) (record { start = context.message.head.start; lines = lines }) (chunked chunks []) in
      let makes : IsChunked context sizes made = record {
        content = found.0;
        chunks = chunks;
        framing = framing;
        body_is = found.1;
        are = in_chunks sizes found.0 (sym (ap (λ (c : List ℕ). add_up_to (length c) sizes) content) ∙ both.1);
        sent = record { lines = lines; line = line_for (codes "content-length") coding_line context.message.head.lines index only; made_is = refl };
      } in
      record {
        made = made;
        makes = makes;
        sound = chunked_is_sound sizes context made message both.0 makes;
        text_is = e
            ∙ (ap (λ (c : List ℕ). (head_with (side_parts Header context.message) index coding_line ++ chunks_text (sized_chunks sizes c)) ++ codes "\r\n") content
            ∙ append_assoc (head_text made.head) (chunks_text chunks) (codes "\r\n"));
      }

  pub dechunk_offered : (index : ℕ) → context.message.framing ≡ Chunked → length (trailers_in context.message.body) ≤ 0 → IsOnly (codes "transfer-encoding") context.message.head.lines index
      → text ≡ head_with (side_parts Header context.message) index (length_line (length (message_content context.message))) ++ message_content context.message
      → IsOffered context Dechunk text
  dechunk_offered index framing none only e =
      let found = in_chunks_body context.message.body context.message.framing (content_length_of context.message.head) framing message.body none in
      let content : message_content context.message ≡ content_of found.0 = ap content_in found.1 in
      let new = length_line (length (content_of found.0)) in
      let lines = with_line_at index new context.message.head.lines in
      let made = framed (answers_head context.related) (record { start = context.message.head.start; lines = lines }) (plain (content_of found.0)) in
      let makes : IsDechunked context made = record {
        chunks = found.0;
        body_is = found.1;
        sent = record { lines = lines; line = line_for (codes "transfer-encoding") new context.message.head.lines index only; made_is = refl };
      } in
      record {
        made = made;
        makes = makes;
        sound = dechunked_is_sound context made message makes;
        text_is = e ∙ ap (λ (c : List ℕ). head_with (side_parts Header context.message) index (length_line (length c)) ++ c) content;
      }
