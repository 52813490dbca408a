-- Where the identifiers are in a text that grows at its end.
use Rattle.std.proofs.Common.{◌≡◌, ◌≤◌, ℕ, ◌+◌, ◌-◌, true, List, [], ◌∷◌, ◌++◌, length, drop, map, refl, ap, ◌∙◌, arith, length-drop, length-append}
use Rattle.std.specs.List.{list_all}
use Rattle.std.proofs.Math.Seq.{drop-append_seam}
use Rattle.std.proofs.lemmas.Bool.{and_parts}
use Rattle.std.proofs.lemmas.Bool.Decides.{nat_tests}
use Rattle.std.proofs.lemmas.List.{take-append-le, take_all, drop-append-le, map_push}
use Rattle.std.proofs.lemmas.List.Folds.{list_all-append}
use Rattle.component_ids.specs.declared.params_text.IdSpan.{IdSpan}
use Rattle.component_ids.specs.tools.Spans.{part_at, lies_in, HasParts}

-- the offsets of a part that lies in a text
record Lies (text : List ℕ) (span : IdSpan) : Type 0 where
  order : span.begin ≤ span.end
  within : span.end ≤ length text

lies : (text : List ℕ) (span : IdSpan) → lies_in text span ≡ true → Lies text span
lies text span is = record { order = grind (arith, nat_tests); within = grind (arith, nat_tests) }

-- a part that lies in a text lies in it where it is longer
lies_more : (text more : List ℕ) (span : IdSpan) → lies_in text span ≡ true → lies_in (text ++ more) span ≡ true
lies_more text more span is =
    let l = lies text span is in
    let longer : span.end ≤ length (text ++ more) = omega (arith, length-append {A = ℕ}, l.within) in
    grind (arith, nat_tests, l.order, longer)

-- and is the same
part_more : (text more : List ℕ) (span : IdSpan) → lies_in text span ≡ true → part_at (text ++ more) span ≡ part_at text span
part_more text more span is =
    let l = lies text span is in
    rw (drop-append-le span.begin text more (omega (arith, l.order, l.within)))
    (take-append-le (span.end - span.begin) (drop span.begin text) more (omega (arith, length-drop {A = ℕ}, l.within)))

all_lie_more : (text more : List ℕ) (spans : List IdSpan) → list_all (lies_in text) spans ≡ true → list_all (lies_in (text ++ more)) spans ≡ true
all_lie_more text more [] is = refl
all_lie_more text more (span ∷ spans) is =
    let both = and_parts (lies_in text span) (list_all (lies_in text) spans) is in
    rw (lies_more text more span both.0, all_lie_more text more spans both.1) refl

all_parts_more : (text more : List ℕ) (spans : List IdSpan) → list_all (lies_in text) spans ≡ true → map (part_at (text ++ more)) spans ≡ map (part_at text) spans
all_parts_more text more [] is = refl
all_parts_more text more (span ∷ spans) is =
    let both = and_parts (lies_in text span) (list_all (lies_in text) spans) is in
    rw (part_more text more span both.0, all_parts_more text more spans both.1) refl

-- what is added at the end changes no part
pub parts_kept : (before text more : List ℕ) (spans : List IdSpan) (parts : List (List ℕ)) → text ≡ before ++ more → HasParts before spans parts → HasParts text spans parts
parts_kept before text more spans parts t has = rw t (record {
  lie = all_lie_more before more spans has.lie;
  are = all_parts_more before more spans has.lie ∙ has.are;
})

-- what is added at the end is a part itself
pub part_added : (before text part : List ℕ) (spans : List IdSpan) (parts : List (List ℕ)) (begin end : ℕ) → text ≡ before ++ part → begin ≡ length before → end ≡ length text → HasParts before spans parts
    → HasParts text (spans ++ record { begin = begin; end = end } ∷ []) (parts ++ part ∷ [])
part_added before text part spans parts begin end t b e has =
    let span : IdSpan = record { begin = begin; end = end } in
    let kept = parts_kept before text part spans parts t has in
    let size : length text ≡ length before + length part = ap length t ∙ length-append before part in
    let order : begin ≤ end = omega (arith, size, b, e) in
    let within : end ≤ length text = omega (arith, e) in
    let lies : lies_in text span ≡ true = grind (arith, nat_tests, order, within) in
    let last : drop begin text ≡ part = rw (t, b) (drop-append_seam before part) in
    let is : part_at text span ≡ part = rw last (take_all (end - begin) part (omega (arith, size, b, e))) in
    record {
      lie = list_all-append (lies_in text) spans (span ∷ []) ∙ rw (kept.lie, lies) refl;
      are = map_push (part_at text) spans span ∙ rw (kept.are, is) refl;
    }
