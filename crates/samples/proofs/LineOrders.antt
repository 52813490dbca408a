-- A line of a list, and the list with the line at another index.
use Rattle.std.proofs.Common.{◌≡◌, ◌≤◌, ◌<◌, ◌+◌, ◌-◌, ℕ, zero, suc, false, List, [], ◌∷◌, ◌++◌, length, take, drop, inl, inr, refl, sym, ap, subst, ◌∙◌, append_assoc, arith}
use Rattle.std.proofs.lemmas.Bool.{cases_lt}
use Rattle.std.proofs.lemmas.List.{length-append, length-take-le, take-append-drop}
use Rattle.msg_head.specs.Lines.{FieldLine}
use Rattle.msg_head.specs.Values.{is_there}
use Rattle.msg_body.specs.SameFields.{HasSameValues, name_of}
use Rattle.msg_body.proofs.LineLists.{forgets_order_of_names}
use Rattle.line_rewrites.specs.LineLists.{IsMoved, PassesOtherNames}
use Rattle.samples.proofs.NameCounts.{HasEachOnce, none_passed, none_passing}
use Rattle.samples.proofs.ShortLines.{AreShortLines, short_joined, short_parts}

pub record HasLine (lines : List FieldLine) (index : ℕ) : Type 0 where
  pub before : List FieldLine
  pub line : FieldLine
  pub after : List FieldLine
  pub are : lines ≡ before ++ line ∷ after
  pub there : index ≡ length before

pub has_line : (lines : List FieldLine) (index : ℕ) → index < length lines → HasLine lines index
has_line [] index low = absurd (omega (arith, low))
has_line (line ∷ lines) zero low = record { before = []; line = line; after = lines; are = refl; there = refl }
has_line (line ∷ lines) (suc index) low =
    let rest = has_line lines index (omega (arith, low)) in record {
      before = line ∷ rest.before;
      line = rest.line;
      after = rest.after;
      are = ap (λ (ls : List FieldLine). line ∷ ls) rest.are;
      there = ap (λ (n : ℕ). suc n) rest.there;
    }

-- the lines in the other order, which are as short, and have the same values
pub record IsReordered (lines : List FieldLine) (index to : ℕ) : Type 0 where
  pub moved : List FieldLine
  pub moves : IsMoved index to lines moved
  pub others : PassesOtherNames index to lines
  pub short : AreShortLines lines → AreShortLines moved
  pub size : length moved ≡ length lines
  pub same : (name : List ℕ) → HasSameValues lines moved name

-- ---- a line and those that it passes

module _ (before passed after : List FieldLine) (line : FieldLine) where
  abbrev first : List FieldLine
  first = before ++ line ∷ (passed ++ after)

  abbrev last : List FieldLine
  last = before ++ (passed ++ line ∷ after)

  short_after : AreShortLines first → AreShortLines last
  short_after short =
      let one = short_parts before (line ∷ (passed ++ after)) short in
      let two = short_parts passed after one.1.1 in
      short_joined before (passed ++ line ∷ after) one.0 (short_joined passed (line ∷ after) two.0 (one.1.0, two.1))

  short_before : AreShortLines last → AreShortLines first
  short_before short =
      let one = short_parts before (passed ++ line ∷ after) short in
      let two = short_parts passed (line ∷ after) one.1 in
      short_joined before (line ∷ (passed ++ after)) one.0 (two.1.0, short_joined passed after two.0 two.1.1)

  one_size : length last ≡ length first
  one_size =
      omega (arith, length-append before (line ∷ (passed ++ after)), length-append before (passed ++ line ∷ after), length-append passed after, length-append passed (line ∷ after))

  same_after : is_there passed (name_of line) ≡ false → (name : List ℕ) → HasSameValues first last name
  same_after none name = forgets_order_of_names before passed after line name none

  same_before : is_there passed (name_of line) ≡ false → (name : List ℕ) → HasSameValues last first name
  same_before none name = let same = same_after none name in record { there = sym same.there; same = sym same.same }

-- ---- both ways

module _ (lines : List FieldLine) (once : HasEachOnce lines) (index to : ℕ) (has : HasLine lines index) where
  forward : index ≤ to → to < length lines → IsReordered lines index to
  forward le low =
      let count = to - index in
      let passed = take count has.after in
      let after = drop count has.after in
      let are : lines ≡ has.before ++ has.line ∷ (passed ++ after) =
      has.are ∙ ap (λ (ls : List FieldLine). has.before ++ has.line ∷ ls) (sym (take-append-drop count has.after)) in
      let whole : length lines ≡ length has.before + suc (length has.after) =
      ap (λ (ls : List FieldLine). length ls) has.are ∙ length-append has.before (has.line ∷ has.after) in
      let long : length passed ≡ count = length-take-le count has.after (omega (arith, whole, low, has.there)) in
      let none = none_passed lines has.before passed after has.line are once in
      let there : to ≡ length has.before + length passed = omega (arith, long, le, has.there) in
      record {
        moved = has.before ++ (passed ++ has.line ∷ after);
        moves = inl (record { before = has.before; line = has.line; passed = passed; after = after; lines_are = are; there = has.there; to_there = there; moved_are = refl; allows = tt });
        others = (
          has.before ++ (passed ++ has.line ∷ after),
          inl (record { before = has.before; line = has.line; passed = passed; after = after; lines_are = are; there = has.there; to_there = there; moved_are = refl; allows = none }),
        );
        short = λ short. short_after has.before passed after has.line (subst AreShortLines are short);
        size = one_size has.before passed after has.line ∙ ap (λ (ls : List FieldLine). length ls) (sym are);
        same = λ name.
            subst (λ (ls : List FieldLine). HasSameValues ls (has.before ++ (passed ++ has.line ∷ after)) name) (sym are) (same_after has.before passed after has.line none name);
      }

  backward : to < index → IsReordered lines index to
  backward less =
      let before = take to has.before in
      let passed = drop to has.before in
      let cut : has.before ≡ before ++ passed = sym (take-append-drop to has.before) in
      let are : lines ≡ before ++ (passed ++ has.line ∷ has.after) =
      has.are ∙ (ap (λ (ls : List FieldLine). ls ++ has.line ∷ has.after) cut ∙ append_assoc before passed (has.line ∷ has.after)) in
      let there : length before ≡ to = length-take-le to has.before (omega (arith, has.there, less)) in
      let long : length has.before ≡ length before + length passed = ap (λ (ls : List FieldLine). length ls) cut ∙ length-append before passed in
      let none = none_passing lines before passed has.after has.line are once in
      let last : index ≡ length before + length passed = has.there ∙ long in
      record {
        moved = before ++ has.line ∷ (passed ++ has.after);
        moves = inr (record { before = before; line = has.line; passed = passed; after = has.after; lines_are = refl; there = sym there; to_there = last; moved_are = are; allows = tt });
        others = (
          before ++ has.line ∷ (passed ++ has.after),
          inr (record { before = before; line = has.line; passed = passed; after = has.after; lines_are = refl; there = sym there; to_there = last; moved_are = are; allows = none }),
        );
        short = λ short. short_before before passed has.after has.line (subst AreShortLines are short);
        size = sym (one_size before passed has.after has.line) ∙ ap (λ (ls : List FieldLine). length ls) (sym are);
        same = λ name.
            subst (λ (ls : List FieldLine). HasSameValues ls (before ++ has.line ∷ (passed ++ has.after)) name) (sym are) (same_before before passed has.after has.line none name);
      }

pub reordered : (lines : List FieldLine) → HasEachOnce lines → (index to : ℕ) → index < length lines → to < length lines → IsReordered lines index to
reordered lines once index to first second = elim (cases_lt to index) [
  | inl less ↦ backward lines once index to (has_line lines index first) less
  | inr more ↦ forward lines once index to (has_line lines index first) more second
]
