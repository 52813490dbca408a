-- Chunks that are read from bytes, one after the other.
use Rattle.std.proofs.Common.{◌≡◌, ◌↔◌, ◌⊎◌, inl, inr, false, true, ℕ, ◌<◌, ◌≤◌, arith, List, [], ◌∷◌, Result, Ok, Err, refl, sym, ap, ◌∙◌}
use Rattle.std.proofs.lemmas.Bool.{cases_lt}
use Rattle.byte_grammar.specs.tools.Walks.{turns_read, with_prefix}
use Rattle.byte_grammar.proofs.Laws.{not_err}
use Rattle.byte_grammar.proofs.Loops.{loop_first, loop_err, loop_last, loop_more}
use Rattle.framing.specs.Chunks.{Chunk}
use Rattle.framing.specs.tools.ChunkWalk.{line_read, data_read, turn_read}
use Rattle.framing.specs.tools.Read.{IsReadable, chunks_in, chunks_read}
use Rattle.framing.proofs.TooLong.{turn_data_err, turn_err, turn_last, turn_some}
use Rattle.framing.proofs.TurnTexts.{chunk_loop}

-- a line that isn't the last one has a size
pub not_last : {n : ℕ} → (false ≡ true) ↔ (n ≡ 0) → 0 < n
not_last {n} is = go (cases_lt 0 n)
  where
    go : (0 < n) ⊎ (n ≤ 0) → 0 < n
    go (inl some) = some
    go (inr none) = absurd (cc (is.1 (omega arith)))

-- the first chunk of those that the bytes begin with
pub record IsNext (bytes : List ℕ) (chunk : Chunk) (rest : List ℕ) : Type 0 where
  pub are : chunks_in bytes ≡ chunk ∷ chunks_in rest
  pub readable : IsReadable rest

next_of : (bytes rest : List ℕ) (chunk : Chunk) (chunks : List Chunk) (last : List ℕ) → turns_read turn_read bytes ≡ Ok (chunks, last) → (others : Result (List Chunk × List ℕ) ℕ) → turns_read turn_read rest ≡ others
    → with_prefix (chunk ∷ []) others ≡ turns_read turn_read bytes → IsNext bytes chunk rest
next_of bytes rest chunk chunks last read (Err n) is whole = absurd (not_err _ _ (sym read ∙ sym whole))
next_of bytes rest chunk chunks last read (Ok others) is whole = record {
  are = ap chunks_read (sym whole) ∙ ap (λ (cs : List Chunk). chunk ∷ cs) (sym (ap chunks_read is));
  readable = (others.0, others.1, is);
}

module _ (bytes : List ℕ) (readable : IsReadable bytes) where
  pub line_there : (n : ℕ) → ¬ (line_read bytes ≡ Err n)
  line_there n e =
      not_err _ _ (sym readable.2 ∙ loop_err turn_read chunk_loop [] bytes (turns_read turn_read bytes) (loop_first (turns_read turn_read bytes)) n (turn_err bytes n e))

  module _ (text after : List ℕ) (size : ℕ) (line : line_read bytes ≡ Ok ((text, size), after)) where
    pub none_left : size ≡ 0 → chunks_in bytes ≡ []
    none_left none =
        ap chunks_read (loop_last turn_read chunk_loop [] bytes (turns_read turn_read bytes) (loop_first (turns_read turn_read bytes)) after (turn_last bytes text after size line none))

    pub data_there : (n : ℕ) → 0 < size → ¬ (data_read size after ≡ Err n)
    data_there n some e =
        not_err _ _ (sym readable.2 ∙ loop_err turn_read chunk_loop [] bytes (turns_read turn_read bytes) (loop_first (turns_read turn_read bytes)) n (turn_data_err bytes text after size n line some e))

    pub next_chunk : (d rest : List ℕ) → 0 < size → data_read size after ≡ Ok (d, rest) → IsNext bytes (record { line = text; chunk_data = d }) rest
    next_chunk d rest some e =
        let chunk : Chunk = record { line = text; chunk_data = d } in
        next_of bytes rest chunk readable.0 readable.1 readable.2 (turns_read turn_read rest) refl
        (loop_more turn_read chunk_loop [] bytes (turns_read turn_read bytes) (loop_first (turns_read turn_read bytes)) chunk rest (turn_some bytes text after d rest size line some e))
