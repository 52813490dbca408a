-- A line can write each step of a hop, and a hop's script has few bytes.
use Rattle.std.proofs.Common.{◌≡◌, ◌<◌, ◌≤◌, ◌+◌, ◌*◌, ◌/◌, ◌%◌, ◌^◌, ℕ, zero, suc, Bool, true, false, ◌&&◌, eqb, leb, List, [], ◌∷◌, ◌++◌, length, replicate, refl, sym, subst, ◌∙◌, arith}
use Rattle.std.specs.Prelude.{IsTrue, codes, map, if◌then◌else◌}
use Rattle.std.specs.Fmt.{decimal}
use Rattle.std.specs.List.{flat_map, list_all}
use Rattle.std.proofs.lemmas.Bool.{and_from, and_parts, le-leb, lt-ltb, ltb-true}
use Rattle.std.proofs.lemmas.Fmt.{length-decimal-le}
use Rattle.std.proofs.lemmas.List.{length-append, length-map, length-replicate}
use Rattle.std.proofs.lemmas.Nat.{div_below, mod_below}
use Rattle.byte_grammar.specs.Classes.{is_blank}
use Rattle.byte_grammar.proofs.ListLaws.{all_joined}
use Rattle.msg_head.specs.declared.error.Side.TheVariants.{Header}
use Rattle.rewrite_script.specs.Lines.{are_blanks, blank_letter, blanks_word, is_line_writable, is_number, is_writable, rewrite_line}
use Rattle.rewrite_script.specs.Scripts.{SpellsScript, script_text}
use Rattle.rewrite_script.specs.declared.rewrite.LineRewrite.TheVariants.{Pad, Move}
use Rattle.rewrite_script.specs.declared.rewrite.Rewrite.{Rewrite}
use Rattle.rewrite_script.specs.declared.rewrite.Rewrite.TheVariants.{Lines, Whole}
use Rattle.rewrite_script.specs.declared.rewrite.WholeRewrite.TheVariants.{Rechunk}
use Rattle.rewrite_script.specs.declared.limits.TheConstants.{MAX_SCRIPT_BYTES}
use Rattle.samples.specs.Draws.{draw, state_after}
use Rattle.samples.specs.Scripts.{hop_steps, sizes_of}

-- ---- numbers

-- what is drawn is below the bound
pub draw_within : (state number bound : ℕ) → 0 < bound → draw state number bound < bound
draw_within state number bound some = mod_below (state_after number state / 2 ^ 33) bound some

few_digits : (n : ℕ) → n < 1000000000 → is_number n ≡ true
few_digits n small = lt-ltb n 1000000000 small

pub all_replicated : (test : ℕ → Bool) (n x : ℕ) → test x ≡ true → list_all test (replicate n x) ≡ true
all_replicated test zero x is = refl
all_replicated test (suc n) x is = and_from (test x) (list_all test (replicate n x)) is (all_replicated test n x is)

-- ---- sizes

all_sizes : (count size rest : ℕ) (whole : Bool) → is_number size ≡ true → is_number rest ≡ true → list_all is_number (replicate count size ++ (if whole then [] else rest ∷ [])) ≡ true
all_sizes count size rest true a b = all_joined is_number (replicate count size) [] (all_replicated is_number count size a) refl
all_sizes count size rest false a b =
    all_joined is_number (replicate count size) (rest ∷ []) (all_replicated is_number count size a) (and_from (is_number rest) true b refl)

few_sizes : (count size rest : ℕ) (whole : Bool) → length (replicate count size ++ (if whole then [] else rest ∷ [])) ≤ count + 1
few_sizes count size rest true = omega (arith, length-append (replicate count size) [], length-replicate count size)
few_sizes count size rest false = omega (arith, length-append (replicate count size) (rest ∷ []), length-replicate count size)

module _ (size : ℕ) (low : 1000 ≤ size) (high : size < 10000) where
  sizes_writable : list_all is_number (sizes_of size) ≡ true
  sizes_writable =
      let rest = mod_below 100000 size (omega arith) in
      all_sizes (100000 / size) size (100000 % size) (eqb (100000 % size) 0) (few_digits size (omega arith)) (few_digits (100000 % size) (omega arith))

  pub sizes_few : length (sizes_of size) ≤ 101
  sizes_few =
      let count = div_below 100000 size 101 (omega arith) (omega arith) in
      let all = few_sizes (100000 / size) size (100000 % size) (eqb (100000 % size) 0) in
      omega arith

-- ---- the lengths of lines

sizes_length : (own : List ℕ) → list_all is_number own ≡ true → length (flat_map (λ w. codes " " ++ w) (map decimal own)) ≤ 10 * length own
sizes_length [] all = omega arith
sizes_length (n ∷ own) all =
    let both = and_parts (is_number n) (list_all is_number own) all in
    let small : n < 1000000000 = ltb-true n 1000000000 both.0 in
    let digits = length-decimal-le 9 n (omega arith) small (omega arith) in
    let rest = sizes_length own both.1 in
    let joined = length-append (codes " " ++ decimal n) (flat_map (λ w. codes " " ++ w) (map decimal own)) in
    omega arith

rechunk_length : (own : List ℕ) → list_all is_number own ≡ true → length (rewrite_line (Whole (Rechunk own))) ≤ 10 * length own + 7
rechunk_length own all =
    let rest = sizes_length own all in
    let joined = length-append (codes "rechunk") (flat_map (λ w. codes " " ++ w) (map decimal own)) in
    omega arith

blanks_length : (blanks : List ℕ) → length (blanks_word blanks) ≤ length blanks + 1
blanks_length [] = omega arith
blanks_length (blank ∷ blanks) = omega (arith, length-map (blank ∷ blanks) blank_letter)

digit_length : (n : ℕ) → n < 10 → length (decimal n) ≤ 1
digit_length n small = length-decimal-le 1 n (omega arith) small (omega arith)

pad_length : (index count : ℕ) → index < 10 → count ≤ 3 → length (rewrite_line (Lines (Pad Header index (replicate count 32) []))) ≤ 20
pad_length index count small few =
    let digit = digit_length index small in
    let blanks = blanks_length (replicate count 32) in
    let long : length {A = ℕ} (replicate count 32) ≡ count = length-replicate count 32 in
    simp length-append (omega arith)

move_length : (from to : ℕ) → from < 10 → to < 10 → length (rewrite_line (Lines (Move Header from to))) ≤ 20
move_length from to first second =
    let a = digit_length from first in
    let b = digit_length to second in
    simp length-append (omega arith)

script_length : (a b c : Rewrite) (x y z : ℕ) → length (rewrite_line a) ≤ x → length (rewrite_line b) ≤ y → length (rewrite_line c) ≤ z → length (script_text (a ∷ b ∷ c ∷ [])) ≤ x + y + z + 3
script_length a b c x y z p q r = simp length-append (omega arith)

-- ---- the steps of a hop

pad_writable : (index count : ℕ) → index < 10 → count ≤ 3 → is_line_writable (Pad Header index (replicate count 32) []) ≡ true
pad_writable index count small few =
    let long : length {A = ℕ} (replicate count 32) ≡ count = length-replicate count 32 in
    let blanks : are_blanks (replicate count 32) ≡ true = and_from (leb (length (replicate count 32)) 64) (list_all is_blank (replicate count 32)) (le-leb (length (replicate count 32)) 64 (omega arith)) (all_replicated is_blank count 32 refl) in
    and_from (is_number index) (are_blanks (replicate count 32) && are_blanks []) (few_digits index (omega arith)) (and_from (are_blanks (replicate count 32)) (are_blanks []) blanks refl)

move_writable : (from to : ℕ) → from < 10 → to < 10 → is_line_writable (Move Header from to) ≡ true
move_writable from to a b = and_from (is_number from) (is_number to) (few_digits from (omega arith)) (few_digits to (omega arith))

-- steps as a hop has them
module _ (index count from to size : ℕ) (a : index < 10) (b : count ≤ 3) (c : from < 10) (d : to < 10) (low : 1000 ≤ size) (high : size < 10000) where
  abbrev three : List Rewrite
  three = Lines (Pad Header index (replicate count 32) []) ∷ Lines (Move Header from to) ∷ Whole (Rechunk (sizes_of size)) ∷ []

  three_writable : list_all is_writable three ≡ true
  three_writable =
      let pad = is_writable (Lines (Pad Header index (replicate count 32) [])) in
      let move = is_writable (Lines (Move Header from to)) in
      let rechunk = is_writable (Whole (Rechunk (sizes_of size))) in
      and_from pad (move && (rechunk && true)) (pad_writable index count a b)
      (and_from move (rechunk && true) (move_writable from to c d) (and_from rechunk true (sizes_writable size low high) refl))

  three_short : length (script_text three) ≤ MAX_SCRIPT_BYTES
  three_short =
      let few = sizes_few size low high in
      let first = pad_length index count a b in
      let second = move_length from to c d in
      let third = rechunk_length (sizes_of size) (sizes_writable size low high) in
      let all = script_length (Lines (Pad Header index (replicate count 32) [])) (Lines (Move Header from to)) (Whole (Rechunk (sizes_of size)))
      20 20 (10 * length (sizes_of size) + 7) first second third in
      omega arith

module _ (state : ℕ) where
  first_draw : draw state 1 6 < 10
  first_draw = let d = draw_within state 1 6 (omega arith) in omega arith

  second_draw : 1 + draw state 2 3 ≤ 3
  second_draw = let d = draw_within state 2 3 (omega arith) in omega arith

  third_draw : draw state 3 6 < 10
  third_draw = let d = draw_within state 3 6 (omega arith) in omega arith

  fourth_draw : draw state 4 6 < 10
  fourth_draw = let d = draw_within state 4 6 (omega arith) in omega arith

  low_draw : 1000 ≤ 1000 + draw state 5 9000
  low_draw = omega arith

  high_draw : 1000 + draw state 5 9000 < 10000
  high_draw = let d = draw_within state 5 9000 (omega arith) in omega arith

  -- a line can write each step of a hop
  pub hop_writable : IsTrue (list_all is_writable (hop_steps state))
  hop_writable =
      three_writable (draw state 1 6) (1 + draw state 2 3) (draw state 3 6) (draw state 4 6) (1000 + draw state 5 9000) first_draw second_draw third_draw fourth_draw low_draw high_draw

  -- its script has few bytes
  pub hop_short : length (script_text (hop_steps state)) ≤ MAX_SCRIPT_BYTES
  hop_short =
      three_short (draw state 1 6) (1 + draw state 2 3) (draw state 3 6) (draw state 4 6) (1000 + draw state 5 9000) first_draw second_draw third_draw fourth_draw low_draw high_draw

  pub hop_spelled : SpellsScript (script_text (hop_steps state)) (hop_steps state)
  hop_spelled = record { writable = hop_writable; values = (tt, (tt, (tt, tt))); few = omega arith; lines = refl }

-- so can it each of these steps
pub steps_writable : (state : ℕ) (steps own : List Rewrite) → own ≡ steps → steps ≡ hop_steps state → IsTrue (list_all is_writable own)
steps_writable state steps own same are = subst (λ (list : List Rewrite). IsTrue (list_all is_writable list)) (sym (same ∙ are)) (hop_writable state)
