-- Content in one chunk, by the text that it has.
use Rattle.std.proofs.Common.{◌≡◌, ◌↔◌, ◌==◌, ℕ, ◌<◌, ◌≤◌, true, false, Option, Some, None, MatchOption, List, [], ◌∷◌, ◌++◌, length, take, codes, Bor, refl, sym, ap, subst, ◌∙◌, arith, append_assoc}
use Rattle.std.specs.Fmt.{digits}
use Rattle.std.proofs.lemmas.Bool.{eqb-true, eq-eqb, false≢true}
use Rattle.std.proofs.lemmas.Fmt.{hex_one_digit}
use Rattle.std.proofs.lemmas.List.{append_cancel_left, append_cancel_right, append-nil, take_all}
use Rattle.std.proofs.lemmas.List.Elements.{All-cons, All-nil}
use Rattle.framing.specs.Chunks.{AreChunks, Chunks, IsChunk, IsChunkLine, chunks_text, content_of}
use Rattle.framing.specs.Sizes.{chunk_of}
use Rattle.framing.specs.declared.chunk_limits.TheConstants.{MAX_CONTENT_BYTES}
use Rattle.framing.proofs.ChunkLaws.{one_chunks}
use Rattle.framing.proofs.SizeLines.{line_of_size}
use Rattle.framing.specs.declared.kind.Framing.{Framing}
use Rattle.framing.specs.declared.kind.Framing.TheVariants as framing
use Rattle.msg_body.specs.Bodies.{Body, IsBodyOf, chunked, content_in, plain}
use Rattle.msg_body.specs.Views.{body_before, has_trailers}
use Rattle.normal_forms.specs.NormalMessages.{HasNormalChunks, normal_chunks}

-- what comes after the data of one chunk
abbrev pub one_end : List ℕ
one_end = codes "\r\n0\r\n"

-- the line of a chunk of so many bytes
abbrev pub line_of_count : ℕ → List ℕ
line_of_count count = digits 16 false count ++ codes "\r\n"

-- the data in one chunk
abbrev one_of : List ℕ → Chunks
one_of text = record { chunks = chunk_of text ∷ []; last = codes "0" }

abbrev none_of : Chunks
none_of = record { chunks = []; last = codes "0" }

-- ---- the text

one_text : (text : List ℕ) → chunks_text (one_of text) ≡ line_of_count (length text) ++ (text ++ one_end)
one_text text = simp (append_assoc, append-nil)

in_one : (content : List ℕ) → 0 < length content → normal_chunks content ≡ one_of content
in_one [] some = absurd (omega (arith, some))
in_one (c ∷ rest) some = ap one_of (take_all (length (c ∷ rest)) (c ∷ rest) (omega arith))

in_none : (content : List ℕ) → length content ≡ 0 → normal_chunks content ≡ none_of
in_none [] none = refl
in_none (c ∷ rest) none = absurd (omega (arith, none))

normal_text : (chunks : Chunks) → 0 < length (content_of chunks) → chunks ≡ normal_chunks (content_of chunks)
    → chunks_text chunks ≡ line_of_count (length (content_of chunks)) ++ (content_of chunks ++ one_end)
normal_text chunks some normal = ap chunks_text (normal ∙ in_one (content_of chunks) some) ∙ one_text (content_of chunks)

-- ---- chunks of one text

same_chunks : (one other : Chunks) → AreChunks one → AreChunks other → chunks_text one ≡ chunks_text other → one ≡ other
same_chunks one other a b same =
    let n = length (chunks_text one) in
    let whole : take n (chunks_text one) ≡ chunks_text one = take_all n (chunks_text one) (omega arith) in
    (one_chunks (chunks_text one) one other n n (omega arith) (omega arith) (record { are = a; text = whole }) (record { are = b; text = whole ∙ same })).0

last_line : IsChunkLine (codes "0") 0
last_line = subst (λ (line : List ℕ). IsChunkLine line 0) (hex_one_digit false 0 (omega arith)) (line_of_size 0 (omega arith))

one_is : (text : List ℕ) → 0 < length text → length text ≤ MAX_CONTENT_BYTES → AreChunks (one_of text)
one_is text some few = record {
  each = All-cons IsChunk (chunk_of text) [] (record { line = line_of_size (length text) few; some = some }) (All-nil IsChunk);
  last = last_line;
}

none_is : AreChunks none_of
none_is = record { each = All-nil IsChunk; last = last_line }

-- ---- bodies

are_of : (kind : Framing) (count : ℕ) (chunks : Chunks) (trailers : List _) → IsBodyOf kind count (chunked chunks trailers) → AreChunks chunks
are_of framing.None count chunks trailers is = absurd is
are_of framing.Length count chunks trailers is = absurd is
are_of framing.ToEnd count chunks trailers is = absurd is
are_of framing.Chunked count chunks trailers is = is.0

module _ (kind : Framing) (count : ℕ) where
  -- no content
  pub empty_normal : (body : Body) → IsBodyOf kind count body → has_trailers body ≡ true → length (content_in body) ≡ 0 → (body_before body ≡ codes "0\r\n") ↔ HasNormalChunks body
  empty_normal (plain content) is some none = absurd (false≢true some)
  empty_normal (chunked chunks trailers) is some none =
      let normal = in_none (content_of chunks) none in (
        λ text. same_chunks chunks none_of (are_of kind count chunks trailers is) none_is text ∙ sym normal,
        λ same. ap chunks_text (same ∙ normal),
      )

  -- data between the line and the last chunk
  pub some_normal : (body : Body) → IsBodyOf kind count body → has_trailers body ≡ true → length (content_in body) ≤ MAX_CONTENT_BYTES → 0 < length (content_in body)
      → (text : List ℕ) → body_before body ≡ line_of_count (length (content_in body)) ++ (text ++ one_end) → (length text ≡ length (content_in body)) ↔ HasNormalChunks body
  some_normal (plain content) is some few more text joined = absurd (false≢true some)
  some_normal (chunked chunks trailers) is some few more text joined =
      let content = content_of chunks in (
        λ size.
            let there : 0 < length text = omega (arith, size, more) in
            let line = ap (λ n. line_of_count n ++ (text ++ one_end)) (sym size) in
            let one : chunks ≡ one_of text = same_chunks chunks (one_of text) (are_of kind count chunks trailers is) (one_is text there (omega (arith, size, few))) (joined ∙ (line ∙ sym (one_text text))) in
            let content_is : content ≡ text = ap content_of one ∙ append-nil text in
            one ∙ (sym (in_one text there) ∙ ap normal_chunks (sym content_is)),
        λ normal.
            let whole = sym joined ∙ normal_text chunks more normal in
            ap (length {A = ℕ}) (append_cancel_right text content one_end (append_cancel_left (line_of_count (length content)) (text ++ one_end) (content ++ one_end) whole)),
      )

-- a test of two numbers
pub tested : (a b : ℕ) (Holds : Type 0) → (a ≡ b) ↔ Holds → ((a == b) ≡ true) ↔ Holds
tested a b Holds same = (λ yes. same.0 (eqb-true a b yes), λ holds. eq-eqb a b (same.1 holds))

-- ---- the data that is found

pub between_of : (bytes line rest : List ℕ) (result : Option (Bor (List ℕ))) → bytes ≡ line ++ rest
    → MatchOption result ((front : List ℕ) → rest ≡ front ++ one_end → ⊥) (λ found. rest ≡ found.now ++ one_end)
    → MatchOption result ((between : List ℕ) → bytes ≡ line ++ (between ++ one_end) → ⊥) (λ found. bytes ≡ line ++ (found.now ++ one_end))
between_of bytes line rest None is none = λ between e. none between (append_cancel_left line rest (between ++ one_end) (sym is ∙ e))
between_of bytes line rest (Some found) is same = is ∙ ap (λ t. line ++ t) same
