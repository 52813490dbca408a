-- The kinds of rewritings of content: what each makes, that it is sound, and what it rests on.
use Rattle.std.proofs.Common.{◌≡◌, ◌⊎◌, ℕ, ◌≤◌, Bool, true, false, List, [], ◌∷◌, ◌++◌, length, refl, sym, ap, subst, ◌∙◌, inl, inr, arith, codes}
use Rattle.std.specs.Fmt.{decimal}
use Rattle.std.specs.List.{All, list_all}
use Rattle.std.specs.Str.{byte}
use Rattle.std.specs.Str.Parse.{AllDigits}
use Rattle.std.proofs.lemmas.Bool.{and_from, cases_Bool, le-leb, false≢true}
use Rattle.std.proofs.lemmas.Fmt.{decimal_is_IsNumeral}
use Rattle.std.proofs.lemmas.List.{append-nil}
use Rattle.std.proofs.lemmas.List.Elements.{All-append, All-cons, All-head, All-nil, All-tail}
use Rattle.std.proofs.lemmas.Str.Parse.{digit_from_value}
use Rattle.byte_grammar.specs.Classes.{is_digit, is_line_byte}
use Rattle.msg_head.specs.Lines.{FieldLine, IsLine}
use Rattle.msg_head.specs.RawValues.{IsRaw}
use Rattle.msg_head.proofs.LineBytes.{line_byte_of}
use Rattle.framing.specs.Chunks.{Chunks, content_of}
use Rattle.framing.specs.declared.chunk_limits.TheConstants.{MAX_CONTENT_BYTES}
use Rattle.framing.specs.declared.kind.Framing.{Framing}
use Rattle.framing.specs.declared.kind.Framing.TheVariants.{None, Length, Chunked, ToEnd}
use Rattle.msg_body.specs.Bodies.{Body, plain, chunked, content_in}
use Rattle.msg_body.specs.Messages.{IsMessage, Message}
use Rattle.msg_body.specs.Views.{message_content}
use Rattle.component_values.specs.Context.{MessageContext, answers_head}
use Rattle.rewrite_script.specs.declared.rewrite.WholeRewrite.TheVariants.{Rechunk, Chunk, Dechunk}
use Rattle.line_rewrites.specs.Sound.{IsSoundBody, IsSoundMessage}
use Rattle.line_rewrites.proofs.Texts.{sound_where_read}
use Rattle.whole_rewrites.specs.Content.{IsChunked, IsDechunked, IsRechunked, IsSentAs, coding_line, framed, length_line}
use Rattle.framing.specs.Sizes.{IsInChunks, add_up_to, are_some, sized_chunks}
use Rattle.whole_rewrites.specs.Laws.{IsOfMessages}
use Rattle.whole_rewrites.specs.Lines.{IsLineFor}
use Rattle.whole_rewrites.specs.tools.Kinds.{DependsOn, IsExactKind, KeepsContent, MakesOne, MakesOrNot, MakesSoundOrNot}
use Rattle.framing.proofs.SizeLaws.{chunks_are, in_chunks, sizes_fit}
use Rattle.framing.proofs.SizedChunks.{in_chunks_content, in_chunks_some, in_chunks_sound}
use Rattle.whole_rewrites.proofs.ContentLists.{line_for_or_not, one_line_for}

-- ---- bodies

as_chunks : Body → Chunks
as_chunks (plain content) = record { chunks = []; last = [] }
as_chunks (chunked chunks trailers) = chunks

as_trailers : Body → List FieldLine
as_trailers (plain content) = []
as_trailers (chunked chunks trailers) = trailers

is_plain : Body → Bool
is_plain (plain content) = true
is_plain (chunked chunks trailers) = false

pub one_chunks : (one other : Chunks) (first second : List FieldLine) → chunked one first ≡ chunked other second → one ≡ other
unfolding as_chunks
one_chunks one other first second e = ap as_chunks e

pub one_trailers : (one other : Chunks) (first second : List FieldLine) → chunked one first ≡ chunked other second → first ≡ second
unfolding as_trailers
one_trailers one other first second e = ap as_trailers e

pub one_content : (one other : List ℕ) → plain one ≡ plain other → one ≡ other
one_content one other e = ap content_in e

pub not_both : (content : List ℕ) (chunks : Chunks) (trailers : List FieldLine) → plain content ≡ chunked chunks trailers → ⊥
unfolding is_plain
not_both content chunks trailers e = false≢true (sym (ap is_plain e))

-- ---- what is made is one

one_in_chunks : (sizes content : List ℕ) (chunks others : Chunks) → IsInChunks sizes content chunks → IsInChunks sizes content others → chunks ≡ others
one_in_chunks sizes content chunks others a b = chunks_are sizes content chunks a ∙ sym (chunks_are sizes content others b)

one_rechunked : (sizes : List ℕ) → MakesOne (Rechunk sizes)
one_rechunked sizes context one other a b =
    let bodies = sym a.body_is ∙ b.body_is in
    let old = one_chunks a.old b.old a.trailers b.trailers bodies in
    let trailers = one_trailers a.old b.old a.trailers b.trailers bodies in
    let chunks = one_in_chunks sizes (content_of b.old) a.chunks b.chunks (subst (λ (c : Chunks). IsInChunks sizes (content_of c) a.chunks) old a.are) b.are in
    a.made_is
    ∙ ((λ i. record { head = context.message.head; framing = context.message.framing; body = chunked (chunks i) (trailers i) })
    ∙ sym b.made_is)

one_sent : (context : MessageContext) (name : List ℕ) (new : FieldLine) (body : Body) (one other : Message) → IsSentAs context name new body one → IsSentAs context name new body other → one ≡ other
one_sent context name new body one other a b =
    a.made_is
    ∙ (ap (λ (ls : List FieldLine). framed (answers_head context.related) (record { start = context.message.head.start; lines = ls }) body)
    (one_line_for name new context.message.head.lines a.lines b.lines a.line b.line)
    ∙ sym b.made_is)

one_chunked : (sizes : List ℕ) → MakesOne (Chunk sizes)
one_chunked sizes context one other a b =
    let content = one_content a.content b.content (sym a.body_is ∙ b.body_is) in
    let chunks = one_in_chunks sizes b.content a.chunks b.chunks (subst (λ (c : List ℕ). IsInChunks sizes c a.chunks) content a.are) b.are in
    one_sent context (codes "content-length") coding_line (chunked b.chunks []) one other
    (subst (λ (c : Chunks). IsSentAs context (codes "content-length") coding_line (chunked c []) one) chunks a.sent) b.sent

one_dechunked : MakesOne Dechunk
one_dechunked context one other a b =
    let chunks = one_chunks a.chunks b.chunks [] [] (sym a.body_is ∙ b.body_is) in
    one_sent context (codes "transfer-encoding") (length_line (length (content_of b.chunks))) (plain (content_of b.chunks)) one other
    (subst (λ (c : Chunks). IsSentAs context (codes "transfer-encoding") (length_line (length (content_of c))) (plain (content_of c)) one) chunks a.sent) b.sent

-- ---- whether something is made

rechunked_or_not : (sizes : List ℕ) → MakesOrNot (Rechunk sizes)
rechunked_or_not sizes context writable message = by context.message.body refl
  where
    by : (body : Body) → context.message.body ≡ body → ((made : Message) × IsRechunked context sizes made) ⊎ ((made : Message) → ¬ IsRechunked context sizes made)
    by (plain content) is = inr (λ made made_is. not_both content made_is.old made_is.trailers (sym is ∙ made_is.body_is))
    by (chunked old trailers) is = elim (cases_Bool (add_up_to (length (content_of old)) sizes)) [
      | inl fits ↦ inl (
        record { head = context.message.head; framing = context.message.framing; body = chunked (sized_chunks sizes (content_of old)) trailers },
        record { old = old; chunks = sized_chunks sizes (content_of old); trailers = trailers; body_is = is; are = in_chunks sizes (content_of old) fits; made_is = refl },
      )
      | inr wrong ↦ inr (λ made made_is.
          let same = one_chunks made_is.old old made_is.trailers trailers (sym made_is.body_is ∙ is) in
          false≢true (sym wrong ∙ (ap (λ (c : Chunks). add_up_to (length (content_of c)) sizes) (sym same) ∙ sizes_fit sizes (content_of made_is.old) made_is.chunks made_is.are)))
    ]

is_length_framing : Framing → Bool
is_length_framing Length = true
is_length_framing other = false

length_or_not : (framing : Framing) → (framing ≡ Length) ⊎ ¬ (framing ≡ Length)
unfolding is_length_framing
length_or_not Length = inl refl
length_or_not None = inr (λ e. false≢true (ap is_length_framing e))
length_or_not Chunked = inr (λ e. false≢true (ap is_length_framing e))
length_or_not ToEnd = inr (λ e. false≢true (ap is_length_framing e))

chunked_or_not : (sizes : List ℕ) → MakesOrNot (Chunk sizes)
chunked_or_not sizes context writable message = elim (length_or_not context.message.framing) [
  | inr other ↦ inr (λ made is. other is.framing)
  | inl framing ↦ by framing context.message.body refl
]
  where
    Made : Type 0
    Made = ((made : Message) × IsChunked context sizes made) ⊎ ((made : Message) → ¬ IsChunked context sizes made)

    fitting : (content : List ℕ) → context.message.framing ≡ Length → context.message.body ≡ plain content → add_up_to (length content) sizes ≡ true → Made
    fitting content framing is fits = elim (line_for_or_not (codes "content-length") coding_line context.message.head.lines) [
      | inr none ↦ inr (λ made made_is. none made_is.sent.lines made_is.sent.line)
      | inl found ↦
          let body = chunked (sized_chunks sizes content) [] in
          let made = framed (answers_head context.related) (record { start = context.message.head.start; lines = found.0 }) body in
          inl (
            made,
            record {
              content = content;
              chunks = sized_chunks sizes content;
              framing = framing;
              body_is = is;
              are = in_chunks sizes content fits;
              sent = record { lines = found.0; line = found.1; made_is = refl };
            },
          )
    ]

    by : context.message.framing ≡ Length → (body : Body) → context.message.body ≡ body → Made
    by framing (chunked chunks trailers) is = inr (λ made made_is. not_both made_is.content chunks trailers (sym made_is.body_is ∙ is))
    by framing (plain content) is = elim (cases_Bool (add_up_to (length content) sizes)) [
      | inl fits ↦ fitting content framing is fits
      | inr wrong ↦ inr (λ made made_is.
          let same = one_content made_is.content content (sym made_is.body_is ∙ is) in
          false≢true (sym wrong ∙ (ap (λ (c : List ℕ). add_up_to (length c) sizes) (sym same) ∙ sizes_fit sizes made_is.content made_is.chunks made_is.are)))
    ]

dechunked_or_not : MakesOrNot Dechunk
dechunked_or_not context writable message = by context.message.body refl
  where
    Made : Type 0
    Made = ((made : Message) × IsDechunked context made) ⊎ ((made : Message) → ¬ IsDechunked context made)

    plainly : (chunks : Chunks) → context.message.body ≡ chunked chunks [] → Made
    plainly chunks is =
        let new = length_line (length (content_of chunks)) in
        elim (line_for_or_not (codes "transfer-encoding") new context.message.head.lines) [
          | inl found ↦ inl (
            framed (answers_head context.related) (record { start = context.message.head.start; lines = found.0 }) (plain (content_of chunks)),
            record { chunks = chunks; body_is = is; sent = record { lines = found.0; line = found.1; made_is = refl } },
          )
          | inr none ↦ inr (λ made made_is.
              let same = one_chunks made_is.chunks chunks [] [] (sym made_is.body_is ∙ is) in
              none made_is.sent.lines (subst (λ (c : Chunks). IsLineFor (codes "transfer-encoding") (length_line (length (content_of c))) context.message.head.lines made_is.sent.lines) same made_is.sent.line))
        ]

    by : (body : Body) → context.message.body ≡ body → Made
    by (plain content) is = inr (λ made made_is. not_both content made_is.chunks [] (sym is ∙ made_is.body_is))
    by (chunked chunks []) is = plainly chunks is
    by (chunked chunks (line ∷ trailers)) is = inr (λ made made_is.
        let none = one_trailers chunks made_is.chunks (line ∷ trailers) [] (sym is ∙ made_is.body_is) in
        omega (arith, ap (λ (ls : List FieldLine). length ls) none))

-- ---- soundness

-- a text of bytes of lines is a raw value after a space
raw_of : (text : List ℕ) → list_all is_line_byte text ≡ true → IsRaw (byte " " ∷ text)
raw_of text all = (record { first = byte " " ∷ text; continued = [] }, and_from (list_all is_line_byte (byte " " ∷ text)) true all refl, sym (append-nil (byte " " ∷ text)))

coding_is : IsLine coding_line
coding_is = record { name = refl; raw = raw_of (codes "chunked") refl }

digits_line : (ds : List ℕ) → AllDigits 10 ds → list_all is_line_byte ds ≡ true
digits_line [] all = refl
digits_line (c ∷ cs) all =
    let range = digit_from_value c all.0 in
    and_from (is_line_byte c) (list_all is_line_byte cs) (line_byte_of is_digit c refl refl refl (digit_is c range.0 range.1)) (digits_line cs all.1)
  where
    digit_is : (c : ℕ) → 48 ≤ c → c ≤ 57 → is_digit c ≡ true
    digit_is c low high = and_from _ _ (le-leb 48 c low) (le-leb c 57 high)

length_is : (count : ℕ) → count ≤ MAX_CONTENT_BYTES → IsLine (length_line count)
length_is count few = record { name = refl; raw = raw_of (decimal count) (digits_line (decimal count) (decimal_is_IsNumeral count (omega (arith, few))).0.1) }

lines_are : (name : List ℕ) (new : FieldLine) (lines replaced : List FieldLine) → IsLineFor name new lines replaced → All IsLine lines → IsLine new → All IsLine replaced
lines_are name new lines replaced is each one =
    let parts = All-parts is.before (is.line ∷ is.after) (subst (All IsLine) is.lines_are each) in
    subst (All IsLine) (sym (is.replaced_are ∙ ap (λ (l : FieldLine). is.before ++ l ∷ is.after) is.becomes))
    (All-append IsLine is.before (new ∷ is.after) parts.0 (All-cons IsLine new is.after one (All-tail IsLine is.line is.after parts.1)))
  where
    All-parts : (xs ys : List FieldLine) → All IsLine (xs ++ ys) → All IsLine xs × All IsLine ys
    All-parts [] ys all = (All-nil IsLine, all)
    All-parts (x ∷ xs) ys all =
        let rest = All-parts xs ys (All-tail IsLine x (xs ++ ys) all) in
        (All-cons IsLine x xs (All-head IsLine x (xs ++ ys) all) rest.0, rest.1)

-- what is sent in another way
sent_sound : (context : MessageContext) (name : List ℕ) (new : FieldLine) (body : Body) (made : Message) → IsMessage (answers_head context.related) context.message → IsSentAs context name new body made
    → IsLine new → IsSoundBody body → IsSoundMessage (answers_head context.related) made
sent_sound context name new body made message is line sound =
    let to_head = answers_head context.related in
    let own = sound_where_read to_head context.message message in
    subst (λ (m : Message). IsSoundMessage to_head m) (sym is.made_is) (record {
      start = own.start;
      fits = own.fits;
      lines = lines_are name new context.message.head.lines is.lines is.line own.lines line;
      framing = refl;
      body = sound;
    })

content_few : (to_head : Bool) (message : Message) (body : Body) → IsMessage to_head message → message.body ≡ body → length (content_in body) ≤ MAX_CONTENT_BYTES
content_few to_head message body is e = subst (λ (b : Body). length (content_in b) ≤ MAX_CONTENT_BYTES) e is.content

pub rechunked_is_sound : (sizes : List ℕ) (context : MessageContext) (made : Message) → IsMessage (answers_head context.related) context.message → are_some sizes ≡ true → IsRechunked context sizes made
    → IsSoundMessage (answers_head context.related) made
rechunked_is_sound sizes context made message some is =
    let to_head = answers_head context.related in
    let own = sound_where_read to_head context.message message in
    let few = content_few to_head context.message (chunked is.old is.trailers) message is.body_is in
    let trailers = subst IsSoundBody is.body_is own.body in
    subst (λ (m : Message). IsSoundMessage to_head m) (sym is.made_is) (record {
      start = own.start;
      fits = own.fits;
      lines = own.lines;
      framing = own.framing;
      body = (in_chunks_sound sizes (content_of is.old) is.chunks is.are some few, trailers.1);
    })

-- no chunk of a message is empty
pub rechunked_some : (sizes : List ℕ) (context : MessageContext) (made : Message) → IsRechunked context sizes made → IsMessage (answers_head context.related) made → are_some sizes ≡ true
rechunked_some sizes context made is read =
    let sound = sound_where_read (answers_head context.related) made read in
    in_chunks_some sizes (content_of is.old) is.chunks is.are (subst IsSoundBody (ap (λ (m : Message). m.body) is.made_is) sound.body).0

rechunked_sound : (sizes : List ℕ) → MakesSoundOrNot (Rechunk sizes)
rechunked_sound sizes context made writable message is = elim (cases_Bool (are_some sizes)) [
  | inl some ↦ inl (rechunked_is_sound sizes context made message some is)
  | inr empty ↦ inr (λ read. false≢true (sym empty ∙ rechunked_some sizes context made is read))
]

pub chunked_is_sound : (sizes : List ℕ) (context : MessageContext) (made : Message) → IsMessage (answers_head context.related) context.message → are_some sizes ≡ true → IsChunked context sizes made
    → IsSoundMessage (answers_head context.related) made
chunked_is_sound sizes context made message some is =
    let few = content_few (answers_head context.related) context.message (plain is.content) message is.body_is in
    sent_sound context (codes "content-length") coding_line (chunked is.chunks []) made message is.sent coding_is
    (in_chunks_sound sizes is.content is.chunks is.are some few, All-nil IsLine)

pub chunked_some : (sizes : List ℕ) (context : MessageContext) (made : Message) → IsChunked context sizes made → IsMessage (answers_head context.related) made → are_some sizes ≡ true
chunked_some sizes context made is read =
    let sound = sound_where_read (answers_head context.related) made read in
    in_chunks_some sizes is.content is.chunks is.are (subst IsSoundBody (ap (λ (m : Message). m.body) is.sent.made_is) sound.body).0

chunked_sound : (sizes : List ℕ) → MakesSoundOrNot (Chunk sizes)
chunked_sound sizes context made writable message is = elim (cases_Bool (are_some sizes)) [
  | inl some ↦ inl (chunked_is_sound sizes context made message some is)
  | inr empty ↦ inr (λ read. false≢true (sym empty ∙ chunked_some sizes context made is read))
]

pub dechunked_is_sound : (context : MessageContext) (made : Message) → IsMessage (answers_head context.related) context.message → IsDechunked context made
    → IsSoundMessage (answers_head context.related) made
dechunked_is_sound context made message is =
    let few = content_few (answers_head context.related) context.message (chunked is.chunks []) message is.body_is in
    sent_sound context (codes "transfer-encoding") (length_line (length (content_of is.chunks))) (plain (content_of is.chunks)) made message is.sent
    (length_is (length (content_of is.chunks)) few) tt

dechunked_sound : MakesSoundOrNot Dechunk
dechunked_sound context made writable message is = inl (dechunked_is_sound context made message is)

-- ---- content

rechunked_content : (sizes : List ℕ) → KeepsContent (Rechunk sizes)
rechunked_content sizes context made is =
    ap message_content is.made_is ∙ (in_chunks_content sizes (content_of is.old) is.chunks is.are ∙ sym (ap content_in is.body_is))

chunked_content : (sizes : List ℕ) → KeepsContent (Chunk sizes)
chunked_content sizes context made is =
    ap message_content is.sent.made_is ∙ (in_chunks_content sizes is.content is.chunks is.are ∙ sym (ap content_in is.body_is))

dechunked_content : KeepsContent Dechunk
dechunked_content context made is = ap message_content is.sent.made_is ∙ sym (ap content_in is.body_is)

-- ---- the kinds

pub rechunk_exact : (sizes : List ℕ) → IsExactKind (Rechunk sizes)
rechunk_exact sizes = record {
  one = one_rechunked sizes;
  or_not = rechunked_or_not sizes;
  sound = rechunked_sound sizes;
  content = rechunked_content sizes;
}

pub chunk_exact : (sizes : List ℕ) → IsExactKind (Chunk sizes)
chunk_exact sizes = record {
  one = one_chunked sizes;
  or_not = chunked_or_not sizes;
  sound = chunked_sound sizes;
  content = chunked_content sizes;
}

pub dechunk_exact : IsExactKind Dechunk
dechunk_exact = record { one = one_dechunked; or_not = dechunked_or_not; sound = dechunked_sound; content = dechunked_content }

-- ---- what they rest on

sent_depends : (context other : MessageContext) (name : List ℕ) (new : FieldLine) (body : Body) (made : Message) → IsOfMessages context other → IsSentAs context name new body made
    → IsSentAs other name new body made
sent_depends context other name new body made same is = record {
  lines = is.lines;
  line = subst (λ (m : Message). IsLineFor name new m.head.lines is.lines) (sym same.0) is.line;
  made_is = is.made_is ∙ (λ i. framed (answers_head (sym same.1 i)) (record { start = (sym same.0 i).head.start; lines = is.lines }) body);
}

pub rechunk_depends : (sizes : List ℕ) → DependsOn IsOfMessages (Rechunk sizes)
rechunk_depends sizes context other same = λ made is. record {
  old = is.old;
  chunks = is.chunks;
  trailers = is.trailers;
  body_is = ap (λ (m : Message). m.body) same.0 ∙ is.body_is;
  are = is.are;
  made_is = is.made_is ∙ ap (λ (m : Message). record { head = m.head; framing = m.framing; body = chunked is.chunks is.trailers }) (sym same.0);
}

pub chunk_depends : (sizes : List ℕ) → DependsOn IsOfMessages (Chunk sizes)
chunk_depends sizes context other same = λ made is. record {
  content = is.content;
  chunks = is.chunks;
  framing = ap (λ (m : Message). m.framing) same.0 ∙ is.framing;
  body_is = ap (λ (m : Message). m.body) same.0 ∙ is.body_is;
  are = is.are;
  sent = sent_depends context other (codes "content-length") coding_line (chunked is.chunks []) made same is.sent;
}

pub dechunk_depends : DependsOn IsOfMessages Dechunk
dechunk_depends context other same = λ made is. record {
  chunks = is.chunks;
  body_is = ap (λ (m : Message). m.body) same.0 ∙ is.body_is;
  sent = sent_depends context other (codes "transfer-encoding") (length_line (length (content_of is.chunks))) (plain (content_of is.chunks)) made same is.sent;
}
