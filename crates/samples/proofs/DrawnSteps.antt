-- Each step that is drawn gives a message of the next one's kind, and a signature permits it.
use Rattle.std.proofs.Common.{◌≡◌, ◌≤◌, ◌<◌, ◌+◌, ◌-◌, ◌*◌, ◌/◌, ◌%◌, ◌==◌, ◌∙◌, ℕ, zero, suc, Bool, true, false, nat_le, nat_lt, List, [], ◌∷◌, ◌++◌, length, replicate, codes, refl, sym, ap, subst, arith}
use Rattle.std.specs.Prelude.{if◌then◌else◌}
use Rattle.std.specs.List.{All, flat_map}
use Rattle.std.specs.Str.{byte}
use Rattle.std.proofs.lemmas.Bool.{and_from, eq-eqb, eqb-false, le-leb, lt-ltb}
use Rattle.std.proofs.lemmas.List.{length-append, length-map, length-replicate}
use Rattle.std.proofs.lemmas.List.Elements.{All-head, All-tail}
use Rattle.std.proofs.lemmas.Nat.{div-add-mod'}
use Rattle.std.proofs.Math.Nat.{suc-mul}
use Rattle.byte_grammar.specs.Classes.{is_blank}
use Rattle.byte_grammar.proofs.ListLaws.{all_joined}
use Rattle.msg_head.specs.Lines.{FieldLine}
use Rattle.msg_head.specs.declared.error.Side.TheVariants.{Header}
use Rattle.framing.specs.Chunks.{AreChunks, Chunk, Chunks, IsChunk, chunk_text, chunks_text, content_of, data_of}
use Rattle.msg_body.specs.Bodies.{chunked}
use Rattle.msg_body.specs.Messages.{Message}
use Rattle.msg_body.specs.SameFields.{HasSameValues}
use Rattle.msg_body.proofs.LineLists.{takes_line_for_other}
use Rattle.component_ids.specs.declared.params.SigParams.{SigParams}
use Rattle.rewrite_script.specs.declared.rewrite.LineRewrite.TheVariants.{Pad, Move}
use Rattle.rewrite_script.specs.declared.rewrite.Rewrite.{Rewrite}
use Rattle.rewrite_script.specs.declared.rewrite.Rewrite.TheVariants.{Lines, Whole}
use Rattle.rewrite_script.specs.declared.rewrite.WholeRewrite.TheVariants.{Rechunk}
use Rattle.line_rewrites.specs.LineLists.{ChangesRaw, IsMoved, Replaces}
use Rattle.line_rewrites.specs.RawValues.{IsPadded}
use Rattle.framing.specs.Sizes.{IsInChunks, are_some, sized_chunks as chunks_in}
use Rattle.rewrites.specs.Permitted.{Permits}
use Rattle.rewrites.specs.Steps.{Step, Steps}
use Rattle.framing.specs.tools.Written.{adds_up as add_up_to}
use Rattle.framing.proofs.SizedChunks.{in_chunks_content, in_chunks_sound}
use Rattle.framing.proofs.SizeLaws.{in_chunks_of as in_chunks}
use Rattle.samples.specs.Chains.{sample_context}
use Rattle.samples.specs.Draws.{draw}
use Rattle.samples.specs.Scripts.{hop_steps, sizes_of}
use Rattle.samples.proofs.HopSteps.{all_replicated, draw_within, sizes_few}
use Rattle.samples.proofs.LineOrders.{has_line, reordered}
use Rattle.samples.proofs.Ready.{IsReady, changes_lines, message_is, ready_new, with_new}
use Rattle.samples.proofs.ShortLines.{AreShortLines, is_padded, padded, padded_short, padded_value, short_joined, short_parts}

-- the message that the step gives is as one of a sample, and has the same values; any signature permits the step
pub record GoesOn (m : Message) (step : Rewrite) : Type 0 where
  pub after : Message
  pub gives : Step (sample_context m) step after
  pub permits : (label : List ℕ) (params : SigParams) → Permits (sample_context m) step label params
  pub ready : IsReady after
  pub same : (name : List ℕ) → HasSameValues m.head.lines after.head.lines name

-- ---- `pad` and `move`

module _ (m : Message) (r : IsReady m) where
  pub goes_padded : (index count : ℕ) → index < 6 → count ≤ 3 → GoesOn m (Lines (Pad Header index (replicate count (byte " ")) []))
  goes_padded index count low few =
      let blanks = replicate count (byte " ") in
      let are = all_replicated is_blank count (byte " ") refl in
      let long : length blanks ≤ 3 = omega (arith, length-replicate {A = ℕ} count (byte " "), few) in
      let has = has_line m.head.lines index (omega (arith, low, r.six)) in
      let parts = short_parts has.before (has.line ∷ has.after) (subst AreShortLines has.are r.lines) in
      let other = padded has.line parts.1.0 blanks are long in
      let new = has.before ++ other ∷ has.after in
      let short = short_joined has.before (other ∷ has.after) parts.0 (padded_short has.line parts.1.0 blanks are long, parts.1.1) in
      let six : length new ≡ 6 =
      omega (arith, r.six, ap (λ (ls : List FieldLine). length ls) has.are, length-append has.before (has.line ∷ has.after), length-append has.before (other ∷ has.after)) in
      let same : (name : List ℕ) → HasSameValues m.head.lines new name =
      λ name. subst (λ (ls : List FieldLine). HasSameValues ls new name) (sym has.are)
      (takes_line_for_other has.before has.after has.line other name refl (padded_value has.line parts.1.0 blanks are long)) in
      let change : Replaces (ChangesRaw (IsPadded blanks [])) index m.head.lines new = record {
        before = has.before;
        line = has.line;
        other = other;
        after = has.after;
        lines_are = has.are;
        there = has.there;
        becomes = is_padded has.line parts.1.0 blanks are long;
        replaced_are = refl;
      } in
      record {
        after = with_new m r new short six same;
        gives = changes_lines m r new short six same (Replaces (ChangesRaw (IsPadded blanks [])) index) change;
        permits = λ label params. tt;
        ready = ready_new m r new short six same;
        same = same;
      }

  pub goes_moved : (index to : ℕ) → index < 6 → to < 6 → GoesOn m (Lines (Move Header index to))
  goes_moved index to first second =
      let is = reordered m.head.lines r.once index to (omega (arith, first, r.six)) (omega (arith, second, r.six)) in
      let short = is.short r.lines in
      let six = is.size ∙ r.six in
      record {
        after = with_new m r is.moved short six is.same;
        gives = changes_lines m r is.moved short six is.same (IsMoved index to) is.moves;
        permits = λ label params. is.others;
        ready = ready_new m r is.moved short six is.same;
        same = is.same;
      }

-- ---- sizes that add up

tail_fits : (rest : ℕ) (none : Bool) → none ≡ (rest == 0) → add_up_to rest (if none then [] else rest ∷ []) ≡ true
tail_fits rest true is = sym is
tail_fits rest false is = and_from (nat_le rest rest) (rest - rest == 0) (le-leb rest rest (omega arith)) (eq-eqb (rest - rest) 0 (omega arith))

tail_some : (rest : ℕ) (none : Bool) → none ≡ (rest == 0) → are_some (if none then [] else rest ∷ []) ≡ true
tail_some rest true is = refl
tail_some rest false is =
    let other = eqb-false rest 0 (sym is) in
    and_from (nat_lt 0 rest) true (lt-ltb 0 rest (omega (arith, other))) refl

all_fit : (count size rest left : ℕ) (tail : List ℕ) → add_up_to rest tail ≡ true → left ≡ count * size + rest → add_up_to left (replicate count size ++ tail) ≡ true
all_fit zero size rest left tail fits is = let same : left ≡ rest = omega (arith, is) in ap (λ (n : ℕ). add_up_to n tail) same ∙ fits
all_fit (suc count) size rest left tail fits is =
    let more = suc-mul count size in
    and_from (nat_le size left) (add_up_to (left - size) (replicate count size ++ tail)) (le-leb size left (omega (arith, is, more)))
    (all_fit count size rest (left - size) tail fits (omega (arith, is, more)))

module _ (size : ℕ) (low : 1000 ≤ size) (high : size < 10000) where
  sizes_fit : (left : ℕ) → left ≡ 100000 → add_up_to left (sizes_of size) ≡ true
  sizes_fit left is =
      let whole = div-add-mod' 100000 size in
      let rest = 100000 % size in
      all_fit (100000 / size) size rest left (if rest == 0 then [] else rest ∷ []) (tail_fits rest (rest == 0) refl) (is ∙ sym whole)

  sizes_some : are_some (sizes_of size) ≡ true
  sizes_some =
      let rest = 100000 % size in
      all_joined (nat_lt 0) (replicate (100000 / size) size) (if rest == 0 then [] else rest ∷ [])
      (all_replicated (nat_lt 0) (100000 / size) size (lt-ltb 0 size (omega (arith, low)))) (tail_some rest (rest == 0) refl)

-- ---- the text of chunks

each_length : (each : List Chunk) → All IsChunk each → length (flat_map chunk_text each) ≤ length (data_of each) + 276 * length each
each_length [] are = omega arith
each_length (c ∷ each) are =
    let line = (All-head IsChunk c each are).line in
    let rest = each_length each (All-tail IsChunk c each are) in
    omega (
      arith,
      rest,
      ap (λ (t : List ℕ). length t) line.joined,
      length-append line.digits line.extension,
      line.are_digits.most,
      line.is_extension.short,
      length-append c.line (codes "\r\n" ++ (c.chunk_data ++ codes "\r\n")),
      length-append c.chunk_data (codes "\r\n"),
      length-append (chunk_text c) (flat_map chunk_text each),
      length-append c.chunk_data (data_of each),
    )

pub chunks_length : (cs : Chunks) → AreChunks cs → length (chunks_text cs) ≤ length (content_of cs) + 276 * length cs.chunks + 274
chunks_length cs are =
    omega (
      arith,
      each_length cs.chunks are.each,
      ap (λ (t : List ℕ). length t) are.last.joined,
      length-append are.last.digits are.last.extension,
      are.last.are_digits.most,
      are.last.is_extension.short,
      length-append (flat_map chunk_text cs.chunks) (cs.last ++ codes "\r\n"),
      length-append cs.last (codes "\r\n"),
    )

-- there are as many chunks as sizes
as_many : (sizes content : List ℕ) (cs : Chunks) → IsInChunks sizes content cs → length cs.chunks ≡ length sizes
as_many sizes content cs is =
    ap (λ (c : Chunks). length c.chunks) is.chunks_are
    ∙ (length-map is.parts _ ∙ sym (ap (λ (ls : List ℕ). length ls) is.sizes_are ∙ length-map is.parts _))

-- ---- `rechunk`

pub goes_rechunked : (m : Message) → IsReady m → (size : ℕ) → 1000 ≤ size → size < 10000 → GoesOn m (Whole (Rechunk (sizes_of size)))
goes_rechunked m r size low high =
    let sizes = sizes_of size in
    let content = content_of r.chunks in
    let new = chunks_in sizes content in
    let is : IsInChunks sizes content new = in_chunks sizes content (sizes_fit size low high (length content) r.content) in
    let are : AreChunks new = in_chunks_sound sizes content new is (sizes_some size low high) (omega (arith, r.content)) in
    let long : length (content_of new) ≡ 100000 = ap (λ (t : List ℕ). length t) (in_chunks_content sizes content new is) ∙ r.content in
    let text : length (chunks_text new) ≤ 200000 = omega (arith, chunks_length new are, as_many sizes content new is, sizes_few size low high, long) in
    let made : Message = record { head = m.head; framing = m.framing; body = chunked new [] } in
    let ready : IsReady made = record {
      start = r.start;
      start_short = r.start_short;
      lines = r.lines;
      six = r.six;
      once = r.once;
      framable = r.framable;
      framing = r.framing;
      framed = r.framed;
      chunks = new;
      body = refl;
      are = are;
      content = long;
      text = text;
    } in
    record {
      after = made;
      gives = record {
        makes = record { old = r.chunks; chunks = new; trailers = []; body_is = r.body; are = is; made_is = refl };
        message = message_is made ready;
      };
      permits = λ label params. tt;
      ready = ready;
      same = λ name. record { there = refl; same = refl };
    }

-- ---- a hop

pub record GoesThrough (m : Message) (steps : List Rewrite) : Type 0 where
  pub after : Message
  pub lead : Steps Step (sample_context m) steps after
  pub ready : IsReady after

module _ (state : ℕ) (m : Message) (r : IsReady m) where
  pub first_step : GoesOn m (Lines (Pad Header (draw state 1 6) (replicate (1 + draw state 2 3) (byte " ")) []))
  first_step = goes_padded m r (draw state 1 6) (1 + draw state 2 3) (draw_within state 1 6 (omega arith)) (let d = draw_within state 2 3 (omega arith) in omega (arith, d))

  pub second_step : GoesOn first_step.after (Lines (Move Header (draw state 3 6) (draw state 4 6)))
  second_step =
      goes_moved first_step.after first_step.ready (draw state 3 6) (draw state 4 6) (draw_within state 3 6 (omega arith)) (draw_within state 4 6 (omega arith))

  pub third_step : GoesOn second_step.after (Whole (Rechunk (sizes_of (1000 + draw state 5 9000))))
  third_step =
      goes_rechunked second_step.after second_step.ready (1000 + draw state 5 9000) (omega arith) (let d = draw_within state 5 9000 (omega arith) in omega (arith, d))

  pub goes_through : GoesThrough m (hop_steps state)
  goes_through = record {
    after = third_step.after;
    lead = (first_step.after, first_step.gives, (second_step.after, second_step.gives, (third_step.after, third_step.gives, refl)));
    ready = third_step.ready;
  }
