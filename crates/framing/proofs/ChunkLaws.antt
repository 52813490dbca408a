-- Laws of chunks: what bytes begin with, and the causes for which they are refused.
use Rattle.std.proofs.Common.{◌≡◌, inl, inr, ℕ, ◌+◌, ◌-◌, ◌<◌, ◌≤◌, List, [], ◌++◌, length, take, drop, Ok, Err, refl, sym, ap, subst, ◌∙◌, append_assoc, arith, codes}
use Rattle.std.proofs.lemmas.List.{append-nil, length-append, length-drop, take-append-drop, take-take, take_at, append_cancel_left, append_cancel_right, nil_from_length}
use Rattle.std.proofs.lemmas.Bool.{cases_lt, cases_order}
use Rattle.std.specs.List.{flat_map}
use Rattle.byte_grammar.specs.tools.Determined.{AreDetermined}
use Rattle.byte_grammar.specs.tools.Walks.{left, turns_read}
use Rattle.byte_grammar.proofs.Laws.{any_next, ok_is, not_err}
use Rattle.byte_grammar.proofs.CauseLaws.{first_is_one}
use Rattle.byte_grammar.proofs.OffsetLaws.{begins_shorter}
use Rattle.framing.specs.declared.chunk_limits.TheConstants.{MAX_CONTENT_BYTES}
use Rattle.framing.specs.declared.chunk_error.ChunkError.{ChunkError}
use Rattle.framing.specs.declared.chunk_error.ChunkError.TheVariants.{TooLong, Bad}
use Rattle.framing.specs.Chunks.{Chunk, Chunks, AreChunksText, SpellsChunks, chunk_text, chunks_text}
use Rattle.framing.specs.ChunkCauses.{HasContentOver, BeginsChunks, IsContentTooLong, IsBadChunk, IsChunksCause, IsChunksError, AreChunksUnfinished, chunks_order}
use Rattle.framing.specs.ChunkLaws.{OneChunks, NoChunksInPrefix, OneChunksFault, NoFaultAtChunks, NoChunksAnswerYet}
use Rattle.framing.specs.tools.ChunkWalk.{turn_read}
use Rattle.framing.proofs.TurnTexts.{meets_chunks, turns_are, are_turns}
use Rattle.framing.proofs.TooLong.{within_room}

-- ---- the reader, and prefixes

-- a text of chunks that is first is read
pub prefix_read : (bytes : List ℕ) (cs : Chunks) (n : ℕ) → AreChunksText cs (take n bytes) → turns_read turn_read bytes ≡ Ok (cs.chunks, drop n bytes)
prefix_read bytes cs n h = ap (turns_read turn_read) (sym (take-append-drop n bytes)) ∙ meets_chunks.only (take n bytes) (drop n bytes) cs.chunks (are_turns cs (take n bytes) h) (any_next (drop n bytes))

-- what begins chunks is read to its end
begins_left : (prefix more : List ℕ) → BeginsChunks prefix → left (turns_read turn_read (prefix ++ more)) ≤ length more
begins_left prefix more b = meets_chunks.far prefix b.0 more b.1.chunks (are_turns b.1 (prefix ++ b.0) b.2)

pub begins_take : (bytes : List ℕ) (i j : ℕ) → i ≤ j → BeginsChunks (take j bytes) → BeginsChunks (take i bytes)
begins_take bytes i j le b =
    let cut : take i bytes ++ drop i (take j bytes) ≡ take j bytes = ap (λ (x : List ℕ). x ++ drop i (take j bytes)) (sym (take-take i j bytes le)) ∙ take-append-drop i (take j bytes) in
    begins_shorter (λ bytes (cs : Chunks). AreChunksText cs bytes) (take i bytes) (drop i (take j bytes)) (subst BeginsChunks (sym cut) b)

begins_prefix : (bytes : List ℕ) (i : ℕ) → BeginsChunks bytes → BeginsChunks (take i bytes)
begins_prefix bytes i b = begins_shorter (λ bytes (cs : Chunks). AreChunksText cs bytes) (take i bytes) (drop i bytes) (subst BeginsChunks (sym (take-append-drop i bytes)) b)

text_begins : (cs : Chunks) (bytes : List ℕ) → AreChunksText cs bytes → BeginsChunks bytes
text_begins cs bytes h = ([], cs, subst (AreChunksText cs) (sym (append-nil bytes)) h)

-- ---- the laws

same_last : (cs ds : Chunks) → cs.chunks ≡ ds.chunks → chunks_text cs ≡ chunks_text ds → cs ≡ ds
same_last cs ds chunks text =
    let lines : flat_map chunk_text ds.chunks ++ (cs.last ++ codes "\r\n") ≡ flat_map chunk_text ds.chunks ++ (ds.last ++ codes "\r\n") = ap (λ (y : List Chunk). flat_map chunk_text y ++ (cs.last ++ codes "\r\n")) (sym chunks) ∙ text in
    let last : cs.last ≡ ds.last = append_cancel_right cs.last ds.last (codes "\r\n") (append_cancel_left (flat_map chunk_text ds.chunks) (cs.last ++ codes "\r\n") (ds.last ++ codes "\r\n") lines) in
    λ i. record { chunks = chunks i; last = last i }

pub one_chunks : OneChunks
one_chunks bytes one other n m low high a b =
    let pair = ok_is {A = List Chunk × List ℕ} (one.chunks, drop n bytes) (other.chunks, drop m bytes) (sym (prefix_read bytes one n a) ∙ prefix_read bytes other m b) in
    let count : n ≡ m = omega (arith, ap (λ (x : List Chunk × List ℕ). length x.1) pair, length-drop n bytes, length-drop m bytes) in
    (same_last one other (ap (λ (x : List Chunk × List ℕ). x.0) pair) (sym a.text ∙ ap (λ (k : ℕ). take k bytes) count ∙ b.text), count)

pub no_chunks_in_prefix : NoChunksInPrefix
no_chunks_in_prefix bytes cs n b less h =
    let far : left (turns_read turn_read (bytes ++ [])) ≤ 0 = begins_left bytes [] b in
    let read : left (turns_read turn_read (bytes ++ [])) ≡ length (drop n bytes) = ap (λ (y : List ℕ). left (turns_read turn_read y)) (append-nil bytes) ∙ ap left (prefix_read bytes cs n h) in
    omega (arith, far, read, length-drop n bytes)

-- a bad byte isn't behind the end of chunks, nor within them
pub no_bad_at_chunks : (bytes : List ℕ) (cs : Chunks) (n offset : ℕ) → AreChunksText cs (take n bytes) → IsBadChunk bytes offset → ⊥
no_bad_at_chunks bytes cs n offset h bad = elim (cases_lt offset n) [
  | inl less ↦ bad.last (begins_take bytes (offset + 1) n (omega arith) (text_begins cs (take n bytes) h))
  | inr more ↦ bad.no_end n cs (subst (AreChunksText cs) (sym (take-take n offset bytes more)) h)
]

not_too_long : (bytes : List ℕ) (cs : Chunks) (used : ℕ) → SpellsChunks cs used bytes → IsContentTooLong bytes → ⊥
not_too_long bytes cs used s t =
    let text : bytes ≡ chunks_text cs ++ drop used bytes = sym (take-append-drop used bytes) ∙ ap (λ (y : List ℕ). y ++ drop used bytes) s.text.text in
    within_room cs (drop used bytes) MAX_CONTENT_BYTES (record { are = s.text.are; text = refl }) s.short (subst (HasContentOver MAX_CONTENT_BYTES) text t)

pub no_fault_at_chunks : NoFaultAtChunks
no_fault_at_chunks bytes cs used TooLong s f = not_too_long bytes cs used s f.holds
no_fault_at_chunks bytes cs used (Bad offset) s f = no_bad_at_chunks bytes cs used offset s.text f.holds

unfinished_fault : (bytes : List ℕ) → AreChunksUnfinished bytes → (fault : ChunkError) → IsChunksError bytes fault → ⊥
unfinished_fault bytes u TooLong f = u.short f.holds
unfinished_fault bytes u (Bad offset) f = f.holds.last (begins_prefix bytes (offset + 1) u.begins)

pub no_answer_yet : NoChunksAnswerYet
no_answer_yet bytes u = (unfinished_fault bytes u, λ cs used s. u.no_end used cs s.text)

one_bad : (bytes : List ℕ) (i j : ℕ) → IsBadChunk bytes i → IsBadChunk bytes j → i ≡ j
one_bad bytes i j a b = elim (cases_order i j) [
  | inl same ↦ same
  | inr apart ↦ elim apart [
    | inl less ↦ absurd (a.last (begins_take bytes (i + 1) j (omega arith) b.begins))
    | inr more ↦ absurd (b.last (begins_take bytes (j + 1) i (omega arith) a.begins))
  ]
]

determined : (bytes : List ℕ) → AreDetermined chunks_order (IsChunksCause bytes)
determined bytes TooLong TooLong e a b = refl
determined bytes TooLong (Bad j) e a b = absurd (omega (arith, e))
determined bytes (Bad i) TooLong e a b = absurd (omega (arith, e))
determined bytes (Bad i) (Bad j) e a b = ap (λ (k : ℕ). Bad k) (one_bad bytes i j a b)

pub one_fault : OneChunksFault
one_fault bytes fault other a b = first_is_one chunks_order (IsChunksCause bytes) (determined bytes) fault other a b

-- ---- what the reader's stops say

pub unfinished : (bytes : List ℕ) → turns_read turn_read bytes ≡ Err 0 → (IsContentTooLong bytes → ⊥) → AreChunksUnfinished bytes
unfinished bytes e short = record {
  begins = begins;
  no_end = λ n cs h. not_err _ _ (sym (prefix_read bytes cs n h) ∙ e);
  short = short;
}
  where
    begins : BeginsChunks bytes
    begins =
        let s = meets_chunks.err bytes 0 e in
        let whole : s.0 ≡ bytes = sym (append-nil s.0) ∙ ap (λ (y : List ℕ). s.0 ++ y) (sym (nil_from_length s.1 s.3)) ∙ sym s.2 in
        let t = turns_are s.4.1 (s.0 ++ s.4.0) s.4.2 in
        subst BeginsChunks whole (s.4.0, record { chunks = s.4.1; last = t.0 }, t.1)

pub bad : (bytes : List ℕ) (n : ℕ) → turns_read turn_read bytes ≡ Err n → 0 < n → (n ≤ length bytes) × IsBadChunk bytes (length bytes - n)
bad bytes n e some =
    let s = meets_chunks.err bytes n e in
    let t = turns_are s.4.1 (s.0 ++ s.4.0) s.4.2 in
    let size : length bytes ≡ length s.0 + n = ap (λ (y : List ℕ). length y) s.2 ∙ omega (arith, length-append s.0 s.1, s.3) in
    let place : length s.0 ≡ length bytes - n = omega arith in
    let cut : take (length bytes - n) bytes ≡ s.0 = ap (λ (y : List ℕ). take (length bytes - n) y) s.2 ∙ take_at s.0 s.1 (length bytes - n) place in
    let far : (k : ℕ) → BeginsChunks (take k bytes) → n ≤ length bytes - k = λ k b.
    let le = begins_left (take k bytes) (drop k bytes) b in
    let same : left (turns_read turn_read (take k bytes ++ drop k bytes)) ≡ n = ap (λ (y : List ℕ). left (turns_read turn_read y)) (take-append-drop k bytes) ∙ ap left e in
    omega (arith, le, same, length-drop k bytes) in (
      omega arith,
      record {
        within = omega arith;
        begins = subst BeginsChunks (sym cut) (s.4.0, record { chunks = s.4.1; last = t.0 }, t.1);
        last = λ b. omega (arith, far (length bytes - n + 1) b);
        no_end = λ k cs h. not_err _ _ (sym (meets_prefix k cs h) ∙ e);
      },
    )
  where
    -- a prefix of a prefix is one of the bytes
    meets_prefix : (k : ℕ) (cs : Chunks) → AreChunksText cs (take k (take (length bytes - n) bytes)) → turns_read turn_read bytes ≡ Ok (cs.chunks, drop k (take (length bytes - n) bytes) ++ drop (length bytes - n) bytes)
    meets_prefix k cs h =
        let front : List ℕ = take (length bytes - n) bytes in
        let parts : take k front ++ (drop k front ++ drop (length bytes - n) bytes) ≡ bytes =
        sym (append_assoc (take k front) (drop k front) (drop (length bytes - n) bytes)) ∙ ap (λ (y : List ℕ). y ++ drop (length bytes - n) bytes) (take-append-drop k front) ∙ take-append-drop (length bytes - n) bytes in
        ap (turns_read turn_read) (sym parts) ∙ meets_chunks.only (take k front) (drop k front ++ drop (length bytes - n) bytes) cs.chunks (are_turns cs (take k front) h) (any_next (drop k front ++ drop (length bytes - n) bytes))
