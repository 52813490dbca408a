-- Content that is too long, chunk by chunk.
use Rattle.std.proofs.Common.{◌≡◌, ◌⊎◌, inl, inr, ℕ, zero, suc, ◌+◌, ◌-◌, ◌<◌, ◌≤◌, List, [], ◌∷◌, ◌++◌, length, Option, Some, None, Result, Ok, Err, refl, sym, ap, subst, ◌∙◌, append_assoc, arith, codes}
use Rattle.std.proofs.lemmas.List.{length-append}
use Rattle.std.proofs.lemmas.List.Elements.{All-head, All-tail}
use Rattle.std.proofs.lemmas.Bool.{cases_lt}
use Rattle.std.specs.List.{All, flat_map}
use Rattle.byte_grammar.specs.Walk.{◌>>=◌}
use Rattle.byte_grammar.proofs.Laws.{any_next, ok_is, not_err}
use Rattle.framing.specs.Chunks.{Chunk, Chunks, IsChunkLine, IsChunk, AreChunksText, chunk_text, chunks_text, data_of, content_of}
use Rattle.framing.specs.ChunkCauses.{HasContentOver}
use Rattle.framing.specs.tools.ChunkWalk.{line_read, data_read, body_read, turn_read}
use Rattle.framing.proofs.LineLaws.{meets_line}
use Rattle.framing.proofs.TurnTexts.{meets_turn}

-- ---- a turn, by what its parts give

pub turn_err : (bytes : List ℕ) (n : ℕ) → line_read bytes ≡ Err n → turn_read bytes ≡ Err n
unfolding turn_read
turn_err bytes n e = ap (λ (r : Result ((List ℕ × ℕ) × List ℕ) ℕ). r >>= λ l. body_read l.0 l.1) e

pub turn_last : (bytes text after : List ℕ) (size : ℕ) → line_read bytes ≡ Ok ((text, size), after) → size ≡ 0 → turn_read bytes ≡ Ok (None, after)
unfolding turn_read body_read
turn_last bytes text after zero e is = ap (λ (r : Result ((List ℕ × ℕ) × List ℕ) ℕ). r >>= λ l. body_read l.0 l.1) e
turn_last bytes text after (suc size) e is = absurd (omega arith)

body_some : (text after d rest : List ℕ) (size : ℕ) → 0 < size → data_read size after ≡ Ok (d, rest) → body_read (text, size) after ≡ Ok (Some (record { line = text; chunk_data = d }), rest)
unfolding body_read
body_some text after d rest zero some e = absurd (omega arith)
body_some text after d rest (suc size) some e = ap (λ (r : Result (List ℕ × List ℕ) ℕ). r >>= λ d. Ok (Some (record { line = text; chunk_data = d.0 }), d.1)) e

body_err : (text after : List ℕ) (size n : ℕ) → 0 < size → data_read size after ≡ Err n → body_read (text, size) after ≡ Err n
unfolding body_read
body_err text after zero n some e = absurd (omega arith)
body_err text after (suc size) n some e = ap (λ (r : Result (List ℕ × List ℕ) ℕ). r >>= λ d. Ok (Some (record { line = text; chunk_data = d.0 }), d.1)) e

pub turn_some : (bytes text after d rest : List ℕ) (size : ℕ) → line_read bytes ≡ Ok ((text, size), after) → 0 < size → data_read size after ≡ Ok (d, rest) → turn_read bytes ≡ Ok (Some (record { line = text; chunk_data = d }), rest)
unfolding turn_read
turn_some bytes text after d rest size e some is = ap (λ (r : Result ((List ℕ × ℕ) × List ℕ) ℕ). r >>= λ l. body_read l.0 l.1) e ∙ body_some text after d rest size some is

pub turn_data_err : (bytes text after : List ℕ) (size n : ℕ) → line_read bytes ≡ Ok ((text, size), after) → 0 < size → data_read size after ≡ Err n → turn_read bytes ≡ Err n
unfolding turn_read
turn_data_err bytes text after size n e some is = ap (λ (r : Result ((List ℕ × ℕ) × List ℕ) ℕ). r >>= λ l. body_read l.0 l.1) e ∙ body_err text after size n some is

-- ---- what shows that content is too long

-- a line and its CRLF are read
line_is : (line : List ℕ) (size : ℕ) (more : List ℕ) → IsChunkLine line size → line_read (line ++ (codes "\r\n" ++ more)) ≡ Ok ((line, size), more)
line_is line size more is = ap line_read (sym (append_assoc line (codes "\r\n") more)) ∙ meets_line.only (line ++ codes "\r\n") more (line, size) (refl, is) (any_next more)

turn_is : (c : Chunk) (more : List ℕ) → IsChunk c → turn_read (chunk_text c ++ more) ≡ Ok (Some c, more)
turn_is c more is = meets_turn.only (chunk_text c) more (Some c) (refl, is) (any_next more)

-- the line of a chunk is read
chunk_line_is : (c : Chunk) (more : List ℕ) → IsChunk c → line_read (chunk_text c ++ more) ≡ Ok ((c.line, length c.chunk_data), (c.chunk_data ++ codes "\r\n") ++ more)
chunk_line_is c more is =
    ap line_read (append_assoc c.line (codes "\r\n" ++ (c.chunk_data ++ codes "\r\n")) more)
    ∙ line_is c.line (length c.chunk_data) ((c.chunk_data ++ codes "\r\n") ++ more) is.line

-- a turn is read, and content is too long for what is left
pub record GoesOn (room : ℕ) (bytes : List ℕ) : Type 0 where
  pub chunk : Chunk
  pub rest : List ℕ
  pub turn : turn_read bytes ≡ Ok (Some chunk, rest)
  pub long : HasContentOver (room - length chunk.chunk_data) rest

-- the line that is read makes content too long, or a later one does
pub record LongLine (room : ℕ) (bytes : List ℕ) : Type 0 where
  pub text : List ℕ
  pub size : ℕ
  pub after : List ℕ
  pub line : line_read bytes ≡ Ok ((text, size), after)
  pub then : (room < size) ⊎ GoesOn room bytes

pub long_line : (room : ℕ) (bytes : List ℕ) → HasContentOver room bytes → LongLine room bytes
long_line room bytes t = go t.chunks t.joined t.each t.long
  where
    go : (chunks : List Chunk) → bytes ≡ flat_map chunk_text chunks ++ (t.line ++ (codes "\r\n" ++ t.more)) → All IsChunk chunks → room < length (data_of chunks) + t.size → LongLine room bytes
    go [] e all lt = record { text = t.line; size = t.size; after = t.more; line = ap line_read e ∙ line_is t.line t.size t.more t.is; then = inl (omega arith) }
    go (c ∷ chunks) e all lt =
        let others : List ℕ = flat_map chunk_text chunks ++ (t.line ++ (codes "\r\n" ++ t.more)) in
        let parted : bytes ≡ chunk_text c ++ others = e ∙ append_assoc (chunk_text c) (flat_map chunk_text chunks) (t.line ++ (codes "\r\n" ++ t.more)) in
        let is = All-head IsChunk c chunks all in
        record {
          text = c.line;
          size = length c.chunk_data;
          after = (c.chunk_data ++ codes "\r\n") ++ others;
          line = ap line_read parted ∙ chunk_line_is c others is;
          then = elim (cases_lt room (length c.chunk_data)) [
            | inl less ↦ inl less
            | inr fits ↦ inr (record {
              chunk = c;
              rest = others;
              turn = ap turn_read parted ∙ turn_is c others is;
              long = record {
                chunks = chunks;
                line = t.line;
                size = t.size;
                more = t.more;
                joined = refl;
                each = All-tail IsChunk c chunks all;
                is = t.is;
                long = omega (arith, length-append c.chunk_data (data_of chunks), lt, fits);
              };
            })
          ];
        }

-- where the line's size is within the room, the turn is read
pub goes_on : (room : ℕ) (bytes text after : List ℕ) (size : ℕ) → line_read bytes ≡ Ok ((text, size), after) → size ≤ room → HasContentOver room bytes → GoesOn room bytes
goes_on room bytes text after size e fits t = go (long_line room bytes t)
  where
    go : LongLine room bytes → GoesOn room bytes
    go l =
        let same : l.size ≡ size = ap (λ (a : (List ℕ × ℕ) × List ℕ). a.0.1) (ok_is _ _ (sym l.line ∙ e)) in
        elim l.then [
          | inl less ↦ absurd (omega arith)
          | inr on ↦ on
        ]

pub line_goes : (room : ℕ) (bytes : List ℕ) (n : ℕ) → line_read bytes ≡ Err n → HasContentOver room bytes → ⊥
line_goes room bytes n e t = not_err _ _ (sym (long_line room bytes t).line ∙ e)

pub no_turn : (room : ℕ) (bytes text after : List ℕ) (size n : ℕ) → line_read bytes ≡ Ok ((text, size), after) → size ≤ room → turn_read bytes ≡ Err n → HasContentOver room bytes → ⊥
no_turn room bytes text after size n e fits is t = not_err _ _ (sym (goes_on room bytes text after size e fits t).turn ∙ is)

not_last : (c : Chunk) (a b : List ℕ) → ◌≡◌ {A = Option Chunk × List ℕ} (Some c, a) (None, b) → ⊥
not_last c a b e = absurd (cc (ap (λ (x : Option Chunk × List ℕ). x.0) e))

pub last_turn : (room : ℕ) (bytes text after rest : List ℕ) (size : ℕ) → line_read bytes ≡ Ok ((text, size), after) → size ≤ room → turn_read bytes ≡ Ok (None, rest) → HasContentOver room bytes → ⊥
last_turn room bytes text after rest size e fits is t =
    let on = goes_on room bytes text after size e fits t in
    not_last on.chunk on.rest rest (ok_is _ _ (sym on.turn ∙ is))

some_is : (c d : Chunk) (a b : List ℕ) → ◌≡◌ {A = Option Chunk × List ℕ} (Some c, a) (Some d, b) → (c ≡ d) × (a ≡ b)
some_is c d a b e = (cc (ap (λ (x : Option Chunk × List ℕ). x.0) e), ap (λ (x : Option Chunk × List ℕ). x.1) e)

pub next_turn : (room : ℕ) (bytes text after rest : List ℕ) (size : ℕ) (c : Chunk) → line_read bytes ≡ Ok ((text, size), after) → size ≤ room → turn_read bytes ≡ Ok (Some c, rest) → HasContentOver room bytes → HasContentOver (room - length c.chunk_data) rest
next_turn room bytes text after rest size c e fits is t =
    let on = goes_on room bytes text after size e fits t in
    let same = some_is on.chunk c on.rest rest (ok_is _ _ (sym on.turn ∙ is)) in
    subst (λ (d : Chunk). HasContentOver (room - length d.chunk_data) rest) same.0 (subst (λ (r : List ℕ). HasContentOver (room - length on.chunk.chunk_data) r) same.1 on.long)

-- what is within the room isn't too long for it
pub within_room : (cs : Chunks) (more : List ℕ) (room : ℕ) → AreChunksText cs (chunks_text cs) → length (content_of cs) ≤ room → HasContentOver room (chunks_text cs ++ more) → ⊥
within_room cs more room h le t = go cs.chunks room h.are.each le (subst (λ (y : List ℕ). HasContentOver room y) (append_assoc (flat_map chunk_text cs.chunks) (cs.last ++ codes "\r\n") more) t)
  where
    go : (chunks : List Chunk) (room : ℕ) → All IsChunk chunks → length (data_of chunks) ≤ room → HasContentOver room (flat_map chunk_text chunks ++ ((cs.last ++ codes "\r\n") ++ more)) → ⊥
    go [] room all le t =
        let line = meets_line.only (cs.last ++ codes "\r\n") more (cs.last, 0) (refl, h.are.last) (any_next more) in
        last_turn room ((cs.last ++ codes "\r\n") ++ more) cs.last more more 0 line (omega arith) (turn_last _ cs.last more 0 line refl) t
    go (c ∷ chunks) room all le t =
        let others : List ℕ = flat_map chunk_text chunks ++ ((cs.last ++ codes "\r\n") ++ more) in
        let is = All-head IsChunk c chunks all in
        let size = length-append c.chunk_data (data_of chunks) in
        let parted : (chunk_text c ++ flat_map chunk_text chunks) ++ ((cs.last ++ codes "\r\n") ++ more) ≡ chunk_text c ++ others = append_assoc (chunk_text c) (flat_map chunk_text chunks) ((cs.last ++ codes "\r\n") ++ more) in
        let long = next_turn room (chunk_text c ++ others) c.line ((c.chunk_data ++ codes "\r\n") ++ others) others (length c.chunk_data) c (chunk_line_is c others is) (omega (arith, size, le)) (turn_is c others is) (subst (λ (y : List ℕ). HasContentOver room y) parted t) in
        go chunks (room - length c.chunk_data) (All-tail IsChunk c chunks all) (omega (arith, size, le)) long
