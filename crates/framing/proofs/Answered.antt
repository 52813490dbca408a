-- Each bytes have an answer.
use Rattle.std.proofs.Common.{◌≡◌, ◌⊎◌, inl, inr, ℕ, zero, suc, ◌-◌, ◌<◌, ◌≤◌, List, [], ◌∷◌, ◌++◌, length, take, Option, Some, None, Result, Ok, Err, refl, sym, ap, subst, ◌∙◌, append_assoc, arith, codes}
use Rattle.std.proofs.lemmas.List.{length-append, take_at}
use Rattle.std.proofs.lemmas.List.Elements.{All-nil, All-cons}
use Rattle.std.proofs.lemmas.Bool.{cases_lt}
use Rattle.std.specs.List.{flat_map}
use Rattle.byte_grammar.specs.tools.Walks.{turns_read}
use Rattle.framing.specs.declared.chunk_limits.TheConstants.{MAX_CONTENT_BYTES}
use Rattle.framing.specs.declared.chunk_error.ChunkError.{ChunkError}
use Rattle.framing.specs.declared.chunk_error.ChunkError.TheVariants.{TooLong, Bad}
use Rattle.framing.specs.Chunks.{Chunk, Chunks, IsChunk, AreChunksText, SpellsChunks, chunk_text, data_of}
use Rattle.framing.specs.ChunkCauses.{HasContentOver, IsContentTooLong, IsChunksError, AreChunksUnfinished}
use Rattle.framing.specs.ChunkLaws.{EachHasAnAnswer}
use Rattle.framing.specs.tools.ChunkWalk.{line_read, turn_read}
use Rattle.framing.proofs.LineLaws.{meets_line}
use Rattle.framing.proofs.TurnTexts.{meets_turn, meets_chunks, turns_are}
use Rattle.framing.proofs.TooLong.{line_goes, no_turn, last_turn, next_turn}
use Rattle.framing.proofs.ChunkLaws.{unfinished, bad}
use Rattle.framing.proofs.Outcomes.{bad_first}

IsDecided : ℕ → List ℕ → Type 0
IsDecided room bytes = HasContentOver room bytes ⊎ (HasContentOver room bytes → ⊥)

-- one more chunk before what shows it
with_chunk : (c : Chunk) (bytes rest : List ℕ) (room : ℕ) → bytes ≡ chunk_text c ++ rest → IsChunk c → HasContentOver (room - length c.chunk_data) rest → HasContentOver room bytes
with_chunk c bytes rest room e is t = record {
  chunks = c ∷ t.chunks;
  line = t.line;
  size = t.size;
  more = t.more;
  joined = e ∙ ap (λ (y : List ℕ). chunk_text c ++ y) t.joined ∙ sym (append_assoc (chunk_text c) (flat_map chunk_text t.chunks) (t.line ++ (codes "\r\n" ++ t.more)));
  each = All-cons IsChunk c t.chunks is t.each;
  is = t.is;
  long = omega (arith, length-append c.chunk_data (data_of t.chunks), t.long);
}

decided : (k : ℕ) (room : ℕ) (bytes : List ℕ) → length bytes < k → IsDecided room bytes
unfolding IsDecided
decided zero room bytes less = absurd (omega arith)
decided (suc k) room bytes less = at_line (λ room rest l. decided k room rest l) (line_read bytes) refl
  where
    at_turn : ((room : ℕ) (rest : List ℕ) → length rest < k → HasContentOver room rest ⊎ (HasContentOver room rest → ⊥)) → (text after : List ℕ) (size : ℕ) → line_read bytes ≡ Ok ((text, size), after) → size ≤ room
        → (r : Result (Option Chunk × List ℕ) ℕ) → turn_read bytes ≡ r → HasContentOver room bytes ⊎ (HasContentOver room bytes → ⊥)
    at_turn again text after size line fits (Err n) e = inr (no_turn room bytes text after size n line fits e)
    at_turn again text after size line fits (Ok (None, rest)) e = inr (last_turn room bytes text after rest size line fits e)
    at_turn again text after size line fits (Ok (Some c, rest)) e =
        let s = meets_turn.ok bytes (Some c) rest e in
        let parted : bytes ≡ chunk_text c ++ rest = s.1 ∙ ap (λ (y : List ℕ). y ++ rest) s.2.0 in
        let shorter : length rest < k = omega (arith, less, ap (λ (y : List ℕ). length y) parted, length-append (chunk_text c) rest, length-append c.line (codes "\r\n" ++ (c.chunk_data ++ codes "\r\n"))) in
        elim (again (room - length c.chunk_data) rest shorter) [
          | inl t ↦ inl (with_chunk c bytes rest room parted s.2.1 t)
          | inr none ↦ inr (λ t. none (next_turn room bytes text after rest size c line fits e t))
        ]

    at_line : ((room : ℕ) (rest : List ℕ) → length rest < k → HasContentOver room rest ⊎ (HasContentOver room rest → ⊥)) → (r : Result ((List ℕ × ℕ) × List ℕ) ℕ) → line_read bytes ≡ r → HasContentOver room bytes ⊎ (HasContentOver room bytes → ⊥)
    at_line again (Err n) e = inr (line_goes room bytes n e)
    at_line again (Ok ((text, size), after)) e = elim (cases_lt room size) [
      | inl long ↦
          let s = meets_line.ok bytes (text, size) after e in
          inl (record { chunks = []; line = text; size = size; more = after; joined = s.1 ∙ ap (λ (y : List ℕ). y ++ after) s.2.0 ∙ append_assoc text (codes "\r\n") after; each = All-nil IsChunk; is = s.2.1; long = omega (arith, long) })
      | inr fits ↦ at_turn again text after size e fits (turn_read bytes) refl
    ]

too_long_first : (bytes : List ℕ) → IsContentTooLong bytes → IsChunksError bytes TooLong
too_long_first bytes t = record { holds = t; none_before = λ other less. absurd (omega (arith, less)) }

pub each_has_an_answer : EachHasAnAnswer
unfolding IsDecided
each_has_an_answer bytes = elim (decided (suc (length bytes)) MAX_CONTENT_BYTES bytes (omega arith)) [
  | inl t ↦ inr (inl (TooLong, too_long_first bytes t))
  | inr none ↦ go none (turns_read turn_read bytes) refl
]
  where
    go : (IsContentTooLong bytes → ⊥) → (r : Result (List Chunk × List ℕ) ℕ) → turns_read turn_read bytes ≡ r
        → ((cs : Chunks) × (used : ℕ) × SpellsChunks cs used bytes) ⊎ ((fault : ChunkError) × IsChunksError bytes fault) ⊎ AreChunksUnfinished bytes
    go short (Err zero) e = inr (inr (unfinished bytes e short))
    go short (Err (suc n)) e = inr (inl (Bad (length bytes - suc n), bad_first bytes (length bytes - suc n) (bad bytes (suc n) e (omega arith)).1 short))
    go short (Ok (vs, rest)) e =
        let s = meets_chunks.ok bytes vs rest e in
        let t = turns_are vs s.0 s.2 in
        let cs : Chunks = record { chunks = vs; last = t.0 } in
        let first : take (length s.0) bytes ≡ s.0 = ap (λ (y : List ℕ). take (length s.0) y) s.1 ∙ take_at s.0 rest (length s.0) refl in
        let whole : bytes ≡ flat_map chunk_text vs ++ (t.0 ++ (codes "\r\n" ++ rest)) = cc (s.1, t.1.text, append_assoc (flat_map chunk_text vs) (t.0 ++ codes "\r\n") rest, append_assoc t.0 (codes "\r\n") rest) in
        elim (cases_lt MAX_CONTENT_BYTES (length (data_of vs))) [
          | inl long ↦ absurd (short (record { chunks = vs; line = t.0; size = 0; more = rest; joined = whole; each = t.1.are.each; is = t.1.are.last; long = omega (arith, long) }))
          | inr fits ↦
              inl (
                cs,
                length s.0,
                record {
                  within = omega (arith, ap (λ (y : List ℕ). length y) s.1, length-append s.0 rest);
                  text = subst (AreChunksText cs) (sym first) t.1;
                  short = fits;
                },
              )
        ]
