-- Content in chunks of given sizes (RFC 9112 section 7.1).
use Rattle.std.specs.Prelude.{◌≡◌, ◌==◌, ℕ, Bool, false, nat_lt, List, [], ◌∷◌, map, length, take, drop, codes}
use Rattle.std.specs.Fmt.{digits}
use Rattle.std.specs.List.{flat_map, list_all, sum}
use Rattle.framing.specs.Chunks.{Chunk, Chunks}

-- the chunk of this data: the line is its size in hexadecimal, without zeros before it and without
-- an extension
abbrev pub chunk_of : List ℕ → Chunk
chunk_of text = record { line = digits 16 false (length text); chunk_data = text }

-- the content is in chunks of these sizes, and the last line is `0`
pub record IsInChunks (sizes content : List ℕ) (chunks : Chunks) : Type 0 where
  pub parts : List (List ℕ)
  pub sizes_are : sizes ≡ map length parts
  pub joined : content ≡ flat_map (λ part. part) parts
  pub chunks_are : chunks ≡ record { chunks = map chunk_of parts; last = codes "0" }

-- ---- sizes

-- the sizes add up to so many
abbrev pub add_up_to : ℕ → List ℕ → Bool
add_up_to count sizes = sum sizes == count

-- none is 0, which the last chunk alone has
abbrev pub are_some : List ℕ → Bool
are_some sizes = list_all (nat_lt 0) sizes

-- the content in parts of these sizes
abbrev pub sized_parts : List ℕ → List ℕ → List (List ℕ)
sized_parts [] content = []
sized_parts (size ∷ sizes) content = take size content ∷ sized_parts sizes (drop size content)

-- the content in chunks of these sizes
abbrev pub sized_chunks : List ℕ → List ℕ → Chunks
sized_chunks sizes content =
    record { chunks = map chunk_of (sized_parts sizes content); last = codes "0" }
