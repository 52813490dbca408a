-- Chunk after chunk, as the search takes them.
use Rattle.std.proofs.Common.{◌≡◌, ℕ, suc, ◌+◌, ◌-◌, ◌<◌, ◌≤◌, List, [], ◌∷◌, ◌++◌, length, take, Some, Ok, Err, refl, sym, ap, subst, ◌∙◌, append_assoc, arith, codes}
use Rattle.std.proofs.lemmas.List.{append-nil, length-append, take_at}
use Rattle.std.proofs.lemmas.List.Elements.{All-nil, All-cons, All-append}
use Rattle.std.proofs.lemmas.Grind.{flat_map-append}
use Rattle.std.specs.List.{All, flat_map}
use Rattle.byte_grammar.proofs.Laws.{any_next}
use Rattle.byte_grammar.proofs.Loops.{loop_first, loop_err, loop_more}
use Rattle.byte_grammar.specs.tools.Walks.{turns_read}
use Rattle.framing.specs.declared.chunk_limits.TheConstants.{MAX_CONTENT_BYTES}
use Rattle.framing.specs.Views.{ChunkSpan}
use Rattle.framing.specs.declared.chunks.Found.{Found}
use Rattle.framing.specs.Chunks.{Chunk, Chunks, IsChunkLine, IsChunk, SpellsChunks, chunk_text, data_of, content_of}
use Rattle.framing.specs.ChunkCauses.{HasContentOver, IsContentTooLong}
use Rattle.framing.specs.Views.{ChunksParts, chunks_of, IsChunksViewOf}
use Rattle.framing.specs.tools.ChunkWalk.{line_read, data_read, turn_read}
use Rattle.framing.specs.tools.Read.{chunks_in, chunks_read}
use Rattle.framing.specs.tools.Turns.{spans_of}
use Rattle.framing.specs.tools.JudgedChunks.{Finding, IsFound, parts_of}
use Rattle.framing.proofs.LineLaws.{meets_line, meets_data}
use Rattle.framing.proofs.TurnTexts.{are_turns, chunk_loop, meets_chunks, meets_turn}
use Rattle.framing.proofs.TooLong.{turn_err, turn_some, turn_data_err, line_goes, no_turn, next_turn}
use Rattle.framing.proofs.Spans.{slice_at, chunks_at, spans_follow, line_some}

pub first_found : (bytes : List ℕ) → Finding bytes 0 bytes MAX_CONTENT_BYTES
first_found bytes = record {
  done = [];
  joined = refl;
  each = All-nil IsChunk;
  count_is = refl;
  few = omega arith;
  counted = refl;
  so_far = loop_first (turns_read turn_read bytes);
  long = λ t. t;
}

-- these chunks and the last line fill the first bytes
module _ (bytes text after : List ℕ) (done : List Chunk) (each : All IsChunk done) (is : IsChunkLine text 0) where
  abbrev first_bytes : List ℕ
  first_bytes = flat_map chunk_text done ++ (text ++ codes "\r\n")

  abbrev parts_are : ChunksParts
  parts_are = record { bytes = first_bytes; spans = spans_of 0 done; last = length (flat_map chunk_text done) }

  first_count : length first_bytes ≡ length (flat_map chunk_text done) + length text + 2
  first_count = omega (arith, length-append (flat_map chunk_text done) (text ++ codes "\r\n"), length-append text (codes "\r\n"))

  chunks_are : chunks_of parts_are ≡ record { chunks = done; last = text }
  chunks_are =
      let chunks = chunks_at first_bytes [] (text ++ codes "\r\n") done 0 refl refl in
      let last = slice_at first_bytes (flat_map chunk_text done) text (codes "\r\n") (length (flat_map chunk_text done)) (length first_bytes - 2) refl refl (omega (arith, first_count)) in
      λ i. record { chunks = chunks i; last = last i }

  -- they are read again
  read_first : turns_read turn_read first_bytes ≡ Ok (done, [])
  read_first =
      let cs : Chunks = record { chunks = done; last = text } in
      let turns = are_turns cs first_bytes (record { are = record { each = each; last = is }; text = refl }) in
      ap (turns_read turn_read) (sym (append-nil first_bytes)) ∙ meets_chunks.only first_bytes [] done turns (any_next [])

  chunks_first : chunks_in first_bytes ≡ done
  chunks_first = ap chunks_read read_first

  whole_view : bytes ≡ first_bytes ++ after → length (data_of done) ≤ MAX_CONTENT_BYTES → IsChunksViewOf bytes parts_are (length first_bytes)
  whole_view e short =
      let first : take (length first_bytes) bytes ≡ first_bytes = ap (λ (y : List ℕ). take (length first_bytes) y) e ∙ take_at first_bytes after (length first_bytes) refl in
      let within : length first_bytes ≤ length bytes = omega (arith, ap (λ (y : List ℕ). length y) e, length-append first_bytes after) in
      let cs : Chunks = record { chunks = done; last = text } in
      let spells : SpellsChunks cs (length first_bytes) bytes = record {
        within = within;
        text = record { are = record { each = each; last = is }; text = first };
        short = short;
      } in
      record {
        within = within;
        bytes_are = sym first;
        spells = subst (λ (cs : Chunks). SpellsChunks cs (length first_bytes) bytes) (sym chunks_are) spells;
        fills = record {
          chunks = spans_follow done 0 (length (flat_map chunk_text done)) each (omega arith);
          last = omega (arith, first_count, line_some text 0 is);
        };
      }

spans_length : (chunks : List Chunk) (from : ℕ) → length (spans_of from chunks) ≡ length chunks
spans_length [] from = refl
spans_length (c ∷ chunks) from = ap (λ n. suc n) (spans_length chunks (from + length (chunk_text c)))

module _ {bytes : List ℕ} {count : ℕ} {left : List ℕ} {room : ℕ} (f : Finding bytes count left room) where
  -- how many bytes are done
  pub done_count : length bytes - length left ≡ length (flat_map chunk_text f.done)
  done_count = omega (arith, ap (λ (y : List ℕ). length y) f.joined, length-append (flat_map chunk_text f.done) left)

  pub left_within : length left ≤ length bytes
  left_within = omega (arith, ap (λ (y : List ℕ). length y) f.joined, length-append (flat_map chunk_text f.done) left)

  -- the line can't be read
  pub stopped_at_line : (n : ℕ) → line_read left ≡ Err n → (turns_read turn_read bytes ≡ Err n) × (IsContentTooLong bytes → ⊥)
  stopped_at_line n e = (loop_err turn_read chunk_loop f.done left (turns_read turn_read bytes) f.so_far n (turn_err left n e), λ t. line_goes room left n e (f.long t))

  module _ {text after : List ℕ} {size : ℕ} (line : line_read left ≡ Ok ((text, size), after)) where
    -- the data can't be read
    pub stopped_at_data : (n : ℕ) → 0 < size → size ≤ room → data_read size after ≡ Err n → (turns_read turn_read bytes ≡ Err n) × (IsContentTooLong bytes → ⊥)
    stopped_at_data n some fits e =
        let turn = turn_data_err left text after size n line some e in
        (loop_err turn_read chunk_loop f.done left (turns_read turn_read bytes) f.so_far n turn, λ t. no_turn room left text after size n line fits turn (f.long t))

    -- what the line is, and what is after it
    line_parts : (left ≡ text ++ (codes "\r\n" ++ after)) × IsChunkLine text size
    line_parts =
        let s = meets_line.ok left (text, size) after line in
        (s.1 ∙ ap (λ (y : List ℕ). y ++ after) s.2.0 ∙ append_assoc text (codes "\r\n") after, s.2.1)

    pub line_count : length left ≡ length text + 2 + length after
    line_count = omega (arith, ap (λ (y : List ℕ). length y) line_parts.0, length-append text (codes "\r\n" ++ after))

    -- the size is too great
    pub too_long : room < size → IsContentTooLong bytes
    too_long less = record {
      chunks = f.done;
      line = text;
      size = size;
      more = after;
      joined = f.joined ∙ ap (λ (y : List ℕ). flat_map chunk_text f.done ++ y) line_parts.0;
      each = f.each;
      is = line_parts.1;
      long = omega (arith, f.counted);
    }

    -- a chunk more
    pub next_found : (d rest : List ℕ) → 0 < size → size ≤ room → data_read size after ≡ Ok (d, rest) → Finding bytes (count + 1) rest (room - size)
    next_found d rest some fits e =
        let c : Chunk = record { line = text; chunk_data = d } in
        let turn = turn_some left text after d rest size line some e in
        let s = meets_turn.ok left (Some c) rest turn in
        let data_is = (meets_data size).ok after d rest e in
        let sized : length d ≡ size = data_is.2.1 in
        let texts : flat_map chunk_text (f.done ++ c ∷ []) ≡ flat_map chunk_text f.done ++ chunk_text c = flat_map-append chunk_text f.done (c ∷ []) ∙ ap (λ (y : List ℕ). flat_map chunk_text f.done ++ y) (append-nil (chunk_text c)) in
        let contents : length (data_of (f.done ++ c ∷ [])) ≡ length (data_of f.done) + size = omega (arith, ap (λ (y : List ℕ). length y) (flat_map-append (λ (c : Chunk). c.chunk_data) f.done (c ∷ [])), length-append (data_of f.done) (data_of (c ∷ [])), length-append d [], count) in
        record {
          done = f.done ++ c ∷ [];
          joined = cc (f.joined, s.1, s.2.0, texts, append_assoc (flat_map chunk_text f.done) (chunk_text c) rest);
          each = All-append IsChunk f.done (c ∷ []) f.each (All-cons IsChunk c [] s.2.1 (All-nil IsChunk));
          count_is = omega (arith, f.count_is, length-append f.done (c ∷ []));
          few = omega (arith, f.few, some, fits);
          counted = omega (arith, contents, f.counted);
          so_far = loop_more turn_read chunk_loop f.done left (turns_read turn_read bytes) f.so_far c rest turn;
          long = λ t. subst (λ (n : ℕ). HasContentOver (room - n) rest) sized (next_turn room left text after rest size c line fits turn (f.long t));
        }

    pub data_count : (d rest : List ℕ) → data_read size after ≡ Ok (d, rest) → (length d ≡ size) × (length after ≡ size + 2 + length rest)
    data_count d rest e =
        let s = (meets_data size).ok after d rest e in
        (s.2.1, omega (arith, ap (λ (y : List ℕ). length y) s.1, ap (λ (y : List ℕ). length y) s.2.0, length-append s.0 rest, length-append d (codes "\r\n"), s.2.1))

    -- the last line
    pub last_found : (found : Found) → size ≡ 0 → found.count ≡ count → found.last ≡ length bytes - length left → found.used ≡ length bytes - length after
        → found.content ≡ MAX_CONTENT_BYTES - room → IsFound bytes found
    last_found found none listed at end counted =
        let is : IsChunkLine text 0 = subst (λ (n : ℕ). IsChunkLine text n) none line_parts.1 in
        let first : List ℕ = flat_map chunk_text f.done ++ (text ++ codes "\r\n") in
        let size_is : length first ≡ length (flat_map chunk_text f.done) + length text + 2 = first_count bytes text after f.done f.each is in
        let whole : bytes ≡ first ++ after = cc (f.joined, line_parts.0, append_assoc (flat_map chunk_text f.done) (text ++ codes "\r\n") after, append_assoc text (codes "\r\n") after) in
        let used_is : length first ≡ found.used = omega (arith, end, line_count, done_count, left_within, size_is) in
        let text_is : first ≡ take found.used bytes = sym (ap (λ (y : List ℕ). take found.used y) whole ∙ take_at first after found.used used_is) in
        let chunks_is : f.done ≡ chunks_in (take found.used bytes) = sym (chunks_first bytes text after f.done f.each is) ∙ ap chunks_in text_is in
        let spans_is = ap (spans_of 0) chunks_is in
        let last_is : length (flat_map chunk_text f.done) ≡ found.last = omega (arith, at, done_count) in
        let same : parts_are bytes text after f.done f.each is ≡ parts_of bytes found = λ i. record { bytes = text_is i; spans = spans_is i; last = last_is i } in
        let view = whole_view bytes text after f.done f.each is whole (omega (arith, f.counted)) in
        let chunks = chunks_are bytes text after f.done f.each is in
        record {
          view = subst (λ (n : ℕ). IsChunksViewOf bytes (parts_of bytes found) n) used_is (subst (λ (p : ChunksParts). IsChunksViewOf bytes p (length first)) same view);
          read = record {
            readable = (f.done, [], ap (turns_read turn_read) (sym text_is) ∙ read_first bytes text after f.done f.each is);
            are = ap (λ (p : ChunksParts). (chunks_of p).chunks) (sym same) ∙ ap (λ (cs : Chunks). cs.chunks) chunks ∙ chunks_is;
            count_is = listed ∙ f.count_is ∙ sym (spans_length f.done 0) ∙ ap (λ (ss : List ChunkSpan). length ss) spans_is;
            counted =
                let content : length (content_of (chunks_of (parts_of bytes found))) ≡ length (data_of f.done) = ap (λ (p : ChunksParts). length (content_of (chunks_of p))) (sym same) ∙ ap (λ (cs : Chunks). length (content_of cs)) chunks in
                omega (arith, content, counted, f.counted);
          };
        }
