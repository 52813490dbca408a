-- Content in parts of known sizes, and the chunks that they are written in.
use Rattle.std.proofs.Common.{◌≡◌, ◌↔◌, ℕ, ◌+◌, ◌-◌, ◌≤◌, true, nat_le, List, [], ◌∷◌, ◌++◌, length, take, drop, refl, sym, ap, subst, ◌∙◌, arith, length-append, codes}
use Rattle.std.specs.Cmp.{both_ways}
use Rattle.std.specs.Prelude.{map}
use Rattle.std.specs.List.{flat_map, sum}
use Rattle.std.proofs.lemmas.Bool.{and_parts, and_from, eq-eqb, eqb-true, le-leb, leb-true}
use Rattle.std.proofs.lemmas.List.{length-take, length-drop, take-append-drop}
use Rattle.std.proofs.lemmas.List.Sums.{sum_by-cons}
use Rattle.std.proofs.Math.Seq.{take-append_seam, drop-append_seam}
use Rattle.framing.specs.Chunks.{Chunks}
use Rattle.framing.specs.ChunkLaws.{IsInChunksWhereSized}
use Rattle.framing.specs.Sizes.{IsInChunks, add_up_to, chunk_of, sized_chunks, sized_parts}
use Rattle.framing.specs.tools.Written.{adds_up}

-- ---- sums

sum_from : (size : ℕ) (sizes : List ℕ) → sum (size ∷ sizes) ≡ size + sum sizes
sum_from size sizes = sum_by-cons (λ (n : ℕ). n) size sizes

-- what is subtracted one by one adds up
pub adds_up_sum : (left : ℕ) (sizes : List ℕ) → adds_up left sizes ≡ true ↔ (sum sizes ≡ left)
adds_up_sum left [] = (λ yes. sym (eqb-true left 0 yes), λ none. eq-eqb left 0 (sym none))
adds_up_sum left (size ∷ sizes) = (
  λ yes.
      let both = and_parts (nat_le size left) (adds_up (left - size) sizes) yes in
      let within : size ≤ left = leb-true size left both.0 in
      let rest : sum sizes ≡ left - size = (adds_up_sum (left - size) sizes).0 both.1 in
      omega (arith, within, rest, sum_from size sizes),
  λ all.
      let within : size ≤ left = omega (arith, all, sum_from size sizes) in
      let rest : sum sizes ≡ left - size = omega (arith, all, sum_from size sizes) in
      and_from (nat_le size left) (adds_up (left - size) sizes) (le-leb size left within) ((adds_up_sum (left - size) sizes).1 rest),
)

pub adds_up_is : (left : ℕ) (sizes : List ℕ) → adds_up left sizes ≡ add_up_to left sizes
adds_up_is left sizes =
    both_ways (adds_up left sizes) (add_up_to left sizes) (λ yes. eq-eqb (sum sizes) left ((adds_up_sum left sizes).0 yes))
    (λ yes. (adds_up_sum left sizes).1 (eqb-true (sum sizes) left yes))

-- the sizes that are left add up to the content that is left
pub sizes_left : (content : List ℕ) (size : ℕ) (sizes : List ℕ) → adds_up (length content) (size ∷ sizes) ≡ true → adds_up (length (drop size content)) sizes ≡ true
sizes_left content size sizes fits = ap (λ n. adds_up n sizes) (length-drop size content) ∙ (and_parts (nat_le size (length content)) (adds_up (length content - size) sizes) fits).1

pub size_fits : (content : List ℕ) (size : ℕ) (sizes : List ℕ) → adds_up (length content) (size ∷ sizes) ≡ true → size ≤ length content
size_fits content size sizes fits = leb-true size (length content) (and_parts (nat_le size (length content)) (adds_up (length content - size) sizes) fits).0

-- ---- content in parts

abbrev pub joined : List (List ℕ) → List ℕ
joined parts = flat_map (λ part. part) parts

parts_are : (parts : List (List ℕ)) → parts ≡ sized_parts (map (λ part. length part) parts) (joined parts)
parts_are [] = refl
parts_are (part ∷ parts) =
    let first = take-append_seam part (joined parts) in
    let rest = ap (sized_parts (map (λ part. length part) parts)) (drop-append_seam part (joined parts)) in
    λ i. sym first i ∷ (parts_are parts ∙ sym rest) i

parts_fit : (parts : List (List ℕ)) → sum (map (λ part. length part) parts) ≡ length (joined parts)
parts_fit [] = refl
parts_fit (part ∷ parts) =
    let whole = length-append part (joined parts) in
    let more = sum_from (length part) (map (λ part. length part) parts) in
    omega (arith, whole, more, parts_fit parts)

record AreParts (sizes content : List ℕ) : Type 0 where
  pub sizes_are : sizes ≡ map (λ part. length part) (sized_parts sizes content)
  pub joined_is : content ≡ joined (sized_parts sizes content)

are_parts : (sizes content : List ℕ) → adds_up (length content) sizes ≡ true → AreParts sizes content
are_parts [] [] fits = record { sizes_are = refl; joined_is = refl }
are_parts [] (c ∷ content) fits = absurd (omega (arith, eqb-true (length (c ∷ content)) 0 fits))
are_parts (size ∷ sizes) content fits =
    let within : size ≤ length content = size_fits content size sizes fits in
    let rest = are_parts sizes (drop size content) (sizes_left content size sizes fits) in
    let first : size ≡ length (take size content) = omega (arith, length-take size content, within) in
    record {
      sizes_are = λ i. first i ∷ rest.sizes_are i;
      joined_is = sym (take-append-drop size content) ∙ ap (λ t. take size content ++ t) rest.joined_is;
    }

-- content whose length the sizes add up to is in such chunks
pub in_chunks_of : (sizes content : List ℕ) → adds_up (length content) sizes ≡ true → IsInChunks sizes content (sized_chunks sizes content)
in_chunks_of sizes content fits =
    let are = are_parts sizes content fits in
    record { parts = sized_parts sizes content; sizes_are = are.sizes_are; joined = are.joined_is; chunks_are = refl }

pub in_chunks : (sizes content : List ℕ) → add_up_to (length content) sizes ≡ true → IsInChunks sizes content (sized_chunks sizes content)
in_chunks sizes content fits = in_chunks_of sizes content (adds_up_is (length content) sizes ∙ fits)

-- in no others
pub chunks_are : (sizes content : List ℕ) (chunks : Chunks) → IsInChunks sizes content chunks → chunks ≡ sized_chunks sizes content
chunks_are sizes content chunks is =
    is.chunks_are
    ∙ ap (λ (parts : List (List ℕ)). record { chunks = map chunk_of parts; last = codes "0" })
    (parts_are is.parts ∙ (λ i. sized_parts (sym is.sizes_are i) (sym is.joined i)))

pub sizes_fit : (sizes content : List ℕ) (chunks : Chunks) → IsInChunks sizes content chunks → add_up_to (length content) sizes ≡ true
sizes_fit sizes content chunks is =
    (λ i. add_up_to (length (is.joined i)) (is.sizes_are i))
    ∙ eq-eqb (sum (map (λ part. length part) is.parts)) (length (joined is.parts)) (parts_fit is.parts)

pub in_chunks_where_sized : IsInChunksWhereSized
in_chunks_where_sized sizes content chunks = (
  λ is. (sizes_fit sizes content chunks is, chunks_are sizes content chunks is),
  λ fits. subst (λ (c : Chunks). IsInChunks sizes content c) (sym fits.1) (in_chunks sizes content fits.0),
)
