-- What chunks of given sizes are: chunks, with the content.
use Rattle.std.proofs.Common.{◌≡◌, ℕ, ◌≤◌, true, false, nat_lt, List, [], ◌∷◌, ◌++◌, length, refl, sym, ap, subst, ◌∙◌, arith, length-append, codes}
use Rattle.std.specs.Prelude.{map}
use Rattle.std.specs.List.{All}
use Rattle.std.proofs.lemmas.Bool.{and_parts, and_from, lt-ltb, ltb-true}
use Rattle.std.proofs.lemmas.Fmt.{hex_one_digit}
use Rattle.std.proofs.lemmas.List.Elements.{All-cons, All-head, All-nil, All-tail}
use Rattle.framing.specs.Chunks.{AreChunks, Chunks, IsChunk, IsChunkLine, content_of, data_of}
use Rattle.framing.specs.Sizes.{IsInChunks, are_some, chunk_of}
use Rattle.framing.specs.declared.chunk_limits.TheConstants.{MAX_CONTENT_BYTES}
use Rattle.framing.proofs.SizeLaws.{joined}
use Rattle.framing.proofs.SizeLines.{line_of_size}

-- a chunk of bytes that aren't too many
chunk_is : (part : List ℕ) → nat_lt 0 (length part) ≡ true → length part ≤ MAX_CONTENT_BYTES → IsChunk (chunk_of part)
chunk_is part some few = record { line = line_of_size (length part) few; some = ltb-true 0 (length part) some }

chunks_sound : (parts : List (List ℕ)) → are_some (map (λ part. length part) parts) ≡ true → length (joined parts) ≤ MAX_CONTENT_BYTES → All IsChunk (map chunk_of parts)
chunks_sound [] some few = All-nil IsChunk
chunks_sound (part ∷ parts) some few =
    let both = and_parts (nat_lt 0 (length part)) (are_some (map (λ part. length part) parts)) some in
    let whole = length-append part (joined parts) in
    All-cons IsChunk (chunk_of part) (map chunk_of parts) (chunk_is part both.0 (omega (arith, whole, few))) (chunks_sound parts both.1 (omega (arith, whole, few)))

parts_some : (parts : List (List ℕ)) → All IsChunk (map chunk_of parts) → are_some (map (λ part. length part) parts) ≡ true
parts_some [] each = refl
parts_some (part ∷ parts) each =
    and_from (nat_lt 0 (length part)) (are_some (map (λ part. length part) parts))
    (lt-ltb 0 (length part) (All-head IsChunk (chunk_of part) (map chunk_of parts) each).some) (parts_some parts (All-tail IsChunk (chunk_of part) (map chunk_of parts) each))

last_line : IsChunkLine (codes "0") 0
last_line = subst (λ (line : List ℕ). IsChunkLine line 0) (hex_one_digit false 0 (omega arith)) (line_of_size 0 (omega arith))

pub in_chunks_sound : (sizes content : List ℕ) (chunks : Chunks) → IsInChunks sizes content chunks → are_some sizes ≡ true → length content ≤ MAX_CONTENT_BYTES → AreChunks chunks
in_chunks_sound sizes content chunks is some few =
    subst AreChunks (sym is.chunks_are) (record {
      each = chunks_sound is.parts (sym (ap are_some is.sizes_are) ∙ some) (subst (λ (c : List ℕ). length c ≤ MAX_CONTENT_BYTES) is.joined few);
      last = last_line;
    })

pub in_chunks_some : (sizes content : List ℕ) (chunks : Chunks) → IsInChunks sizes content chunks → AreChunks chunks → are_some sizes ≡ true
in_chunks_some sizes content chunks is are =
    ap are_some is.sizes_are ∙ parts_some is.parts (subst AreChunks is.chunks_are are).each

-- ---- content

data_kept : (parts : List (List ℕ)) → data_of (map chunk_of parts) ≡ joined parts
data_kept [] = refl
data_kept (part ∷ parts) = ap (λ t. part ++ t) (data_kept parts)

pub in_chunks_content : (sizes content : List ℕ) (chunks : Chunks) → IsInChunks sizes content chunks → content_of chunks ≡ content
in_chunks_content sizes content chunks is = ap content_of is.chunks_are ∙ (data_kept is.parts ∙ sym is.joined)
