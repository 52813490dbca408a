-- A message with its content in one chunk: it is a message, and the step that makes it so is permitted.
use Rattle.std.proofs.Common.{◌≡◌, ℕ, ◌+◌, ◌<◌, ◌≤◌, ◌^◌, Bool, true, false, List, [], ◌∷◌, ◌++◌, length, take, refl, sym, ap, subst, ◌∙◌, inl, inr, arith, length-append, length-take, codes}
use Rattle.std.specs.List.{list_all, sum}
use Rattle.std.specs.Fmt.{digits}
use Rattle.std.proofs.lemmas.Bool.{and_from, eq-eqb, lt-ltb}
use Rattle.std.proofs.lemmas.Fmt.{hex_one_digit}
use Rattle.std.proofs.lemmas.List.{append-nil, take_all}
use Rattle.std.proofs.lemmas.List.Elements.{All-cons, All-nil}
use Rattle.std.proofs.lemmas.List.Sums.{sum_by-cons}
use Rattle.msg_head.specs.Heads.{Head, head_text}
use Rattle.msg_head.specs.Lines.{FieldLine}
use Rattle.msg_head.specs.Trailers.{IsTrailer, trailer_text}
use Rattle.framing.specs.declared.chunk_limits.TheConstants.{MAX_SIZE_DIGITS, MAX_EXTENSION_BYTES, MAX_CONTENT_BYTES}
use Rattle.framing.specs.Chunks.{AreChunks, Chunks, IsChunk, IsChunkLine, chunk_text, chunks_text, content_of}
use Rattle.framing.specs.Sizes.{IsInChunks, add_up_to, chunk_of}
use Rattle.framing.proofs.SizeLaws.{in_chunks_where_sized}
use Rattle.framing.proofs.SizeLines.{line_of_size}
use Rattle.framing.specs.declared.kind.Framing.{Framing}
use Rattle.framing.specs.declared.kind.Framing.TheVariants.{None, Length, Chunked, ToEnd}
use Rattle.framing.specs.Framings.{content_length_of}
use Rattle.msg_body.specs.Bodies.{Body, IsBodyOf, chunked, plain, trailers_in}
use Rattle.msg_body.specs.Messages.{IsMessage, Message}
use Rattle.component_values.specs.Context.{answers_head, context_with}
use Rattle.rewrite_script.specs.Lines.{is_number}
use Rattle.rewrite_script.specs.declared.rewrite.Rewrite.{Rewrite}
use Rattle.rewrite_script.specs.declared.rewrite.Rewrite.TheVariants.{Whole}
use Rattle.rewrite_script.specs.declared.rewrite.WholeRewrite.TheVariants.{Rechunk}
use Rattle.line_rewrites.specs.Steps.{with_trailers}
use Rattle.whole_rewrites.specs.Content.{IsRechunked}
use Rattle.whole_rewrites.specs.Steps.{GivesWhole}
use Rattle.normal_forms.specs.NormalMessages.{HasNormalChunks, normal_chunks, whole_size}
use Rattle.normal_forms.specs.Steps.{MakeChunksNormal, with_normal_chunks}
use Rattle.normal_forms.proofs.Leading.{IsSigned, Leads, Signed, leads_by}

-- ---- the chunk

pub normal_content : (content : List ℕ) → content_of (normal_chunks content) ≡ content
normal_content [] = refl
normal_content (c ∷ rest) = append-nil (take (length (c ∷ rest)) (c ∷ rest)) ∙ take_all (length (c ∷ rest)) (c ∷ rest) (omega arith)

adds_up : (content : List ℕ) → add_up_to (length content) (whole_size content) ≡ true
adds_up [] = refl
adds_up (c ∷ rest) =
    let n = length (c ∷ rest) in
    let whole : sum (n ∷ []) ≡ n + sum [] = sum_by-cons (λ (n : ℕ). n) n [] in
    let none : sum [] ≡ 0 = refl in
    let same : sum (n ∷ []) ≡ n = omega (arith, whole, none) in
    eq-eqb (sum (n ∷ [])) n same

normal_in : (content : List ℕ) → IsInChunks (whole_size content) content (normal_chunks content)
normal_in content = (in_chunks_where_sized (whole_size content) content (normal_chunks content)).1 (adds_up content, refl)

last_line : IsChunkLine (codes "0") 0
last_line = subst (λ (line : List ℕ). IsChunkLine line 0) (hex_one_digit false 0 (omega arith)) (line_of_size 0 (omega arith))

normal_are : (content : List ℕ) → length content ≤ MAX_CONTENT_BYTES → AreChunks (normal_chunks content)
normal_are [] small = record { each = All-nil IsChunk; last = last_line }
normal_are (c ∷ rest) small =
    let n = length (c ∷ rest) in
    let whole : take n (c ∷ rest) ≡ c ∷ rest = take_all n (c ∷ rest) (omega arith) in
    let own : IsChunk (chunk_of (c ∷ rest)) = record { line = line_of_size n small; some = omega arith } in
    let is : IsChunk (chunk_of (take n (c ∷ rest))) = subst (λ (t : List ℕ). IsChunk (chunk_of t)) (sym whole) own in
    record { each = All-cons IsChunk (chunk_of (take n (c ∷ rest))) [] is (All-nil IsChunk); last = last_line }

-- ---- its length

line_short : (line : List ℕ) (size : ℕ) → IsChunkLine line size → length line ≤ MAX_SIZE_DIGITS + MAX_EXTENSION_BYTES
line_short line size is =
    let whole = ap (λ (t : List ℕ). length t) is.joined in
    let parts = length-append is.digits is.extension in
    omega (arith, whole, parts, is.are_digits.most, is.is_extension.short)

-- a chunk's text is little longer than its data
chunk_short : (content : List ℕ) → length content ≤ MAX_CONTENT_BYTES → length (chunk_text (chunk_of content)) ≤ length content + 1000
chunk_short content small =
    let line = digits 16 false (length content) in
    let few = line_short line (length content) (line_of_size (length content) small) in
    let whole = length-append line (codes "\r\n" ++ (content ++ codes "\r\n")) in
    let rest = length-append (codes "\r\n") (content ++ codes "\r\n") in
    let last = length-append content (codes "\r\n") in
    let end : length (codes "\r\n") ≡ 2 = refl in
    omega (arith, few, whole, rest, last, end)

normal_short : (content : List ℕ) → length content ≤ MAX_CONTENT_BYTES → length (chunks_text (normal_chunks content)) ≤ length content + 2000
normal_short [] small = omega arith
normal_short (c ∷ rest) small =
    let n = length (c ∷ rest) in
    let text = take n (c ∷ rest) in
    let size : length text ≤ n = omega (arith, length-take n (c ∷ rest)) in
    let one = chunk_short text (omega (arith, size, small)) in
    let chunk = length-append (chunk_text (chunk_of text)) [] in
    let whole = length-append (chunk_text (chunk_of text) ++ []) (codes "0" ++ codes "\r\n") in
    let end : length (codes "0" ++ codes "\r\n") ≡ 3 = refl in
    omega (arith, size, one, chunk, whole, end)

-- ---- the message

section_of : (framing : Framing) (count : ℕ) (chunks : Chunks) (trailers : List FieldLine) → IsBodyOf framing count (chunked chunks trailers) → IsTrailer trailers
section_of Chunked count chunks trailers of = of.1
section_of None count chunks trailers of = absurd of
section_of Length count chunks trailers of = absurd of
section_of ToEnd count chunks trailers of = absurd of

body_in : (framing : Framing) (count : ℕ) (chunks others : Chunks) (trailers : List FieldLine) → AreChunks others → IsBodyOf framing count (chunked chunks trailers)
    → IsBodyOf framing count (chunked others trailers)
body_in Chunked count chunks others trailers are of = (are, of.1)
body_in None count chunks others trailers are of = absurd of
body_in Length count chunks others trailers are of = absurd of
body_in ToEnd count chunks others trailers are of = absurd of

-- a message of these parts
abbrev of_parts : Head → Framing → Body → Message
of_parts head framing body = record { head = head; framing = framing; body = body }

-- in one chunk it is a message
rechunked : (to_head : Bool) (head : Head) (framing : Framing) (chunks : Chunks) (trailers : List FieldLine) → IsMessage to_head (of_parts head framing (chunked chunks trailers))
    → IsMessage to_head (of_parts head framing (chunked (normal_chunks (content_of chunks)) trailers))
rechunked to_head head framing chunks trailers is =
    let content = content_of chunks in
    let section = section_of framing (content_length_of head) chunks trailers is.body in
    let few : length content ≤ MAX_CONTENT_BYTES = is.content in
    let text = normal_short content few in
    let whole = length-append (head_text head) (chunks_text (normal_chunks content) ++ trailer_text trailers) in
    let body = length-append (chunks_text (normal_chunks content)) (trailer_text trailers) in
    record {
      head = is.head;
      framable = is.framable;
      framing = is.framing;
      body = body_in framing (content_length_of head) chunks (normal_chunks content) trailers (normal_are content few) is.body;
      content = subst (λ (t : List ℕ). length t ≤ MAX_CONTENT_BYTES) (sym (normal_content content)) few;
      short = omega (arith, few, text, whole, body, section.short, is.head.short);
    }

sizes_written : (content : List ℕ) → length content ≤ MAX_CONTENT_BYTES → list_all is_number (whole_size content) ≡ true
sizes_written [] few = refl
sizes_written (c ∷ rest) few =
    let small : length (c ∷ rest) < 10 ^ 9 = omega (arith, few) in
    and_from (is_number (length (c ∷ rest))) true (lt-ltb (length (c ∷ rest)) (10 ^ 9) small) refl

-- the step on chunks that aren't so
rechunk_leads : (s : Signed) (head : Head) (framing : Framing) (chunks : Chunks) (trailers : List FieldLine) → IsSigned s (of_parts head framing (chunked chunks trailers))
    → Leads s (of_parts head framing (chunked chunks trailers)) (Whole (Rechunk (whole_size (content_of chunks))) ∷ [])
    (of_parts head framing (chunked (normal_chunks (content_of chunks)) trailers))
rechunk_leads s head framing chunks trailers is =
    let message = of_parts head framing (chunked chunks trailers) in
    let content = content_of chunks in
    let after = of_parts head framing (chunked (normal_chunks content) trailers) in
    let whole = rechunked (answers_head s.context.related) head framing chunks trailers is.whole in
    let makes : IsRechunked (context_with s.context message) (whole_size content) after = record {
      old = chunks;
      chunks = normal_chunks content;
      trailers = trailers;
      body_is = refl;
      are = normal_in content;
      made_is = refl;
    } in
    let gives : GivesWhole (context_with s.context message) (Rechunk (whole_size content)) after = record { makes = makes; message = whole } in
    leads_by s message (Whole (Rechunk (whole_size content))) after is whole gives tt (sizes_written content is.whole.content) tt

-- ---- the steps of chunks

-- what makes chunks normal leads to the message with normal ones
chunks_of_body : (s : Signed) (head : Head) (framing : Framing) (body : Body) (steps : List Rewrite) → IsSigned s (of_parts head framing body) → MakeChunksNormal (of_parts head framing body) steps
    → Leads s (of_parts head framing body) steps (of_parts head framing (with_normal_chunks body))
chunks_of_body s head framing (plain content) steps is (inl made) =
    subst (λ (xs : List Rewrite). Leads s (of_parts head framing (plain content)) xs (of_parts head framing (plain content))) (sym made.1) (record { lead = refl; signed = is; writable = refl; values = tt })
chunks_of_body s head framing (plain content) steps is (inr made) = absurd (made.0 tt)
chunks_of_body s head framing (chunked chunks trailers) steps is (inl made) =
    let message = of_parts head framing (chunked chunks trailers) in
    let none : Leads s message [] message = record { lead = refl; signed = is; writable = refl; values = tt } in
    let same = subst (λ (c : Chunks). Leads s message [] (of_parts head framing (chunked c trailers))) made.0 none in
    subst (λ (xs : List Rewrite). Leads s message xs (of_parts head framing (chunked (normal_chunks (content_of chunks)) trailers))) (sym made.1) same
chunks_of_body s head framing (chunked chunks trailers) steps is (inr made) =
    subst (λ (xs : List Rewrite). Leads s (of_parts head framing (chunked chunks trailers)) xs (of_parts head framing (chunked (normal_chunks (content_of chunks)) trailers))) (sym made.1)
    (rechunk_leads s head framing chunks trailers is)

-- the message with its content in one chunk
abbrev pub in_one : Message → Message
in_one message = record { head = message.head; framing = message.framing; body = with_normal_chunks message.body }

pub chunks_lead : (s : Signed) (message : Message) (steps : List Rewrite) → IsSigned s message → MakeChunksNormal message steps → Leads s message steps (in_one message)
chunks_lead s message steps is made = chunks_of_body s message.head message.framing message.body steps is made

-- ---- bodies

-- other trailers don't count for chunks
pub chunks_under : (head other : Head) (framing another : Framing) (body : Body) (trailers : List FieldLine) (steps : List Rewrite) → MakeChunksNormal (of_parts head framing body) steps
    → MakeChunksNormal (of_parts other another (with_trailers trailers body)) steps
chunks_under head other framing another (plain content) trailers steps made = made
chunks_under head other framing another (chunked chunks lines) trailers steps made = made

pub one_is_normal : (body : Body) → HasNormalChunks (with_normal_chunks body)
one_is_normal (plain content) = tt
one_is_normal (chunked chunks trailers) = ap normal_chunks (sym (normal_content (content_of chunks)))

pub one_trailers : (body : Body) → trailers_in (with_normal_chunks body) ≡ trailers_in body
one_trailers (plain content) = refl
one_trailers (chunked chunks trailers) = refl

-- normal chunks stay
pub one_stays : (body : Body) → HasNormalChunks body → with_normal_chunks body ≡ body
one_stays (plain content) is = refl
one_stays (chunked chunks trailers) is = ap (λ (c : Chunks). chunked c trailers) (sym is)
