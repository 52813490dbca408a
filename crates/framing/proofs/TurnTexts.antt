-- The reader of chunks meets the text of chunks.
use Rattle.std.proofs.Common.{◌≡◌, ℕ, zero, suc, ◌<◌, List, [], ◌∷◌, ◌++◌, length, replicate, Option, Some, None, refl, sym, ap, subst, ◌∙◌, append_assoc, arith, codes}
use Rattle.std.proofs.lemmas.List.{append-nil, length-append, length-replicate}
use Rattle.std.proofs.lemmas.List.Elements.{All-nil, All-cons, All-head, All-tail}
use Rattle.std.specs.List.{All, flat_map}
use Rattle.byte_grammar.specs.tools.Languages.{Then, Turns}
use Rattle.byte_grammar.specs.tools.Walks.{turns_read, IsLoop}
use Rattle.byte_grammar.proofs.Laws.{Meets, meets_then, meets_map, meets_same, meets_done, any_next}
use Rattle.byte_grammar.proofs.TurnLaws.{meets_turns, turns_step}
use Rattle.framing.specs.Chunks.{Chunk, Chunks, IsChunkLine, IsChunk, AreChunksText, chunk_text}
use Rattle.framing.specs.tools.ChunkWalk.{body_read, turn_read}
use Rattle.byte_grammar.specs.tools.CountedTexts.{Anything}
use Rattle.framing.specs.tools.Turns.{IsLineText, IsBody, IsTurn}
use Rattle.framing.proofs.LineLaws.{meets_line, meets_data, no_extension}

meets_body : (l : List ℕ × ℕ) → Meets (IsBody l) Anything (body_read l)
unfolding body_read
meets_body (line, zero) = meets_done None Anything
meets_body (line, suc size) = meets_map {G = Anything} (meets_data (suc size)) (λ (d : List ℕ). Some (record { line = line; chunk_data = d })) (λ v c h. refl)

fill_body : (l : List ℕ × ℕ) → (y : List ℕ) × (o : Option Chunk) × IsBody l y o
fill_body (line, zero) = ([], None, (refl, refl))
fill_body (line, suc size) =
    let d : List ℕ = replicate (suc size) 0 in
    (d ++ codes "\r\n", Some (record { line = line; chunk_data = d }), (d, (refl, length-replicate {A = ℕ} (suc size) 0), refl))

turn_to : (x : List ℕ) (o : Option Chunk) (f s : List ℕ) (l : List ℕ × ℕ) → x ≡ f ++ s → IsLineText f l → IsBody l s o → IsTurn x o
turn_to x o f s (line, zero) e a b = subst (λ (o : Option Chunk). IsTurn x o) b.1 (line, cc (e, a.0, b.0, append-nil f), a.1)
turn_to x o f s (line, suc size) e a (d, b, is) =
    subst (λ (o : Option Chunk). IsTurn x o) is (
      cc (e, a.0, b.0, append_assoc line (codes "\r\n") (d ++ codes "\r\n")),
      record { line = subst (λ (n : ℕ). IsChunkLine line n) (sym b.1) a.1; some = omega (arith, b.1) },
    )

body_of : (c : Chunk) (n : ℕ) → length c.chunk_data ≡ n → 0 < n → IsBody (c.line, n) (c.chunk_data ++ codes "\r\n") (Some c)
body_of c zero e some = absurd (omega arith)
body_of c (suc n) e some = (c.chunk_data, (refl, e), refl)

turn_from : (x : List ℕ) (o : Option Chunk) → IsTurn x o → Then IsLineText IsBody x o
turn_from x None h = record { first = x; second = []; value = (h.0, 0); joined = sym (append-nil x); spells = (h.1, h.2); more = (refl, refl) }
turn_from x (Some c) h = record {
  first = c.line ++ codes "\r\n";
  second = c.chunk_data ++ codes "\r\n";
  value = (c.line, length c.chunk_data);
  joined = h.0 ∙ sym (append_assoc c.line (codes "\r\n") (c.chunk_data ++ codes "\r\n"));
  spells = (refl, h.1.line);
  more = body_of c (length c.chunk_data) refl h.1.some;
}

pub meets_turn : Meets IsTurn Anything turn_read
unfolding turn_read
meets_turn =
    meets_same (meets_then meets_line meets_body (λ x l h. fill_body l) (λ u y v r h after. any_next (y ++ r)))
    (λ x o t. turn_to x o t.first t.second t.value t.joined t.spells t.more) turn_from (λ v c h. refl)

grows : (x : List ℕ) (c : Chunk) → IsTurn x (Some c) → 0 < length x
grows x c h =
    omega (arith, ap (λ (y : List ℕ). length y) h.0, length-append c.line (codes "\r\n" ++ (c.chunk_data ++ codes "\r\n")), length-append (codes "\r\n") (c.chunk_data ++ codes "\r\n"))

zero_line : IsChunkLine (codes "0") 0
zero_line = record {
  digits = codes "0";
  extension = [];
  joined = refl;
  are_digits = record { same = refl; passes = refl; least = omega arith; most = omega arith };
  value = refl;
  is_extension = no_extension;
}

pub meets_chunks : Meets (Turns IsTurn) (λ _. Anything {V = Option Chunk} None) (turns_read turn_read)
meets_chunks = meets_turns meets_turn grows (codes "0\r\n", (codes "0", refl, zero_line)) (λ v x o r h after. any_next (x ++ r))

pub chunk_loop : IsLoop turn_read
chunk_loop = turns_step meets_turn grows

-- ---- the same as the text of chunks

pub turns_are : (chunks : List Chunk) (x : List ℕ) → Turns IsTurn x chunks → (last : List ℕ) × AreChunksText (record { chunks = chunks; last = last }) x
turns_are [] x t = (t.0, record { are = record { each = All-nil IsChunk; last = t.2 }; text = t.1 })
turns_are (c ∷ chunks) x t =
    let rest = turns_are chunks t.1 t.4 in (
      rest.0,
      record {
        are = record { each = All-cons IsChunk c chunks t.3.1 rest.1.are.each; last = rest.1.are.last };
        text = cc (t.2, t.3.0, rest.1.text, append_assoc (chunk_text c) (flat_map chunk_text chunks) (rest.0 ++ codes "\r\n"));
      },
    )

pub are_turns : (cs : Chunks) (x : List ℕ) → AreChunksText cs x → Turns IsTurn x cs.chunks
are_turns cs x h = go cs.chunks x h.text h.are.each
  where
    go : (chunks : List Chunk) (x : List ℕ) → x ≡ flat_map chunk_text chunks ++ (cs.last ++ codes "\r\n") → All IsChunk chunks → Turns IsTurn x chunks
    go [] x e all = (cs.last, e, h.are.last)
    go (c ∷ chunks) x e all = (
      chunk_text c,
      flat_map chunk_text chunks ++ (cs.last ++ codes "\r\n"),
      e ∙ append_assoc (chunk_text c) (flat_map chunk_text chunks) (cs.last ++ codes "\r\n"),
      (refl, All-head IsChunk c chunks all),
      go chunks (flat_map chunk_text chunks ++ (cs.last ++ codes "\r\n")) refl (All-tail IsChunk c chunks all),
    )
