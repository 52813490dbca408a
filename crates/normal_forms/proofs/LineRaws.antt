-- Raw values without their first fold, values without spacing around them, and the bytes and lengths of both.
use Rattle.std.proofs.Common.{◌≡◌, ℕ, ◌+◌, ◌≤◌, ◌<◌, Bool, true, false, ◌==◌, ◌||◌, List, [], ◌∷◌, ◌++◌, length, take, refl, sym, subst, ap, ◌∙◌, inl, inr, append_assoc, arith, length-append}
use Rattle.std.specs.Prelude.{reverse, filter, map, codes}
use Rattle.std.specs.List.{flat_map, join_by, list_all, list_any, onto_first, slice_split}
use Rattle.std.specs.Str.{byte}
use Rattle.std.proofs.lemmas.Bool.{and_parts, and_from, cases_Bool, eqb-true, false≢true, lt-ltb, or_cases, or_from, or_left, or_parts}
use Rattle.std.proofs.lemmas.List.{append-nil, length-reverse, reverse-append, reverse-reverse}
use Rattle.std.proofs.lemmas.List.Splits.{slice_split-cons_yes, slice_split-cons_no}
use Rattle.std.proofs.Math.Seq.{take-append_seam}
use Rattle.byte_grammar.specs.Classes.{is_blank, is_line_byte}
use Rattle.byte_grammar.specs.Language.{starts_in}
use Rattle.byte_grammar.proofs.ListLaws.{all_filter, all_flat, all_implied, all_joined, all_parts, all_reverse, all_separated, all_split}
use Rattle.msg_head.specs.RawValues.{IsRaw, continuation_text, is_continuation}
use Rattle.msg_head.specs.Values.{has_bytes, is_end, texts_of, value, without_blanks, without_first_blanks}
use Rattle.msg_body.specs.Spacing.{ends_in, is_spacing}
use Rattle.msg_body.proofs.ValueLaws.{forgets_spacing_at_ends, has_no_blank_at_ends, is_value_of_itself, is_value_of_joined, takes_fold_for_space}
use Rattle.line_rewrites.specs.RawValues.{HasCore, IsUnfolded}

-- ---- bytes

line_no_end : (c : ℕ) → is_line_byte c ≡ true → is_end c ≡ false
line_no_end c line = elim (cases_Bool (c == 13)) [
  | inl cr ↦ absurd (false≢true (sym (ap is_line_byte (eqb-true c 13 cr)) ∙ line))
  | inr no_cr ↦ elim (cases_Bool (c == 10)) [
    | inl lf ↦ absurd (false≢true (sym (ap is_line_byte (eqb-true c 10 lf)) ∙ line))
    | inr no_lf ↦ or_from (c == 13) (c == 10) no_cr no_lf
  ]
]

-- a text of bytes of lines begins with spacing only where it begins with a blank
no_spacing_first : (text : List ℕ) → list_all is_line_byte text ≡ true → starts_in is_blank text ≡ false → starts_in is_spacing text ≡ false
no_spacing_first [] line none = refl
no_spacing_first (c ∷ rest) line none =
    or_from (is_blank c) (is_end c) none (line_no_end c (and_parts (is_line_byte c) (list_all is_line_byte rest) line).0)

no_spacing_last : (text : List ℕ) → list_all is_line_byte text ≡ true → ends_in is_blank text ≡ false → ends_in is_spacing text ≡ false
no_spacing_last text line none = no_spacing_first (reverse text) (all_reverse is_line_byte text line) none

-- ---- raw values

raw_of : (first : List ℕ) (continued : List (List ℕ)) → list_all is_line_byte first ≡ true → list_all is_continuation continued ≡ true
    → IsRaw (first ++ flat_map continuation_text continued)
raw_of first continued line each =
    (record { first = first; continued = continued }, and_from (list_all is_line_byte first) (list_all is_continuation continued) line each, refl)

-- a text of bytes of lines is a raw value
pub line_raw : (text : List ℕ) → list_all is_line_byte text ≡ true → IsRaw text
line_raw text line = subst IsRaw (append-nil text) (raw_of text [] line refl)

-- the raw value is so joined
abbrev Parts : List ℕ → Type 0
Parts raw = (first : List ℕ) × (continued : List (List ℕ)) × (list_all is_line_byte first ≡ true) × (list_all is_continuation continued ≡ true)
    × (raw ≡ first ++ flat_map continuation_text continued)

parts_of : (raw : List ℕ) → IsRaw raw → Parts raw
parts_of raw is =
    let both = and_parts (list_all is_line_byte is.0.first) (list_all is_continuation is.0.continued) is.1 in
    (is.0.first, is.0.continued, both.0, both.1, is.2)

-- bytes of lines, a space and a raw value are one
line_then_raw : (xs ys : List ℕ) → list_all is_line_byte xs ≡ true → IsRaw ys → IsRaw (xs ++ byte " " ∷ ys)
line_then_raw xs ys line is =
    let parts = parts_of ys is in
    let rest = flat_map continuation_text parts.1 in
    let whole : (xs ++ byte " " ∷ parts.0) ++ rest ≡ xs ++ byte " " ∷ ys =
    append_assoc xs (byte " " ∷ parts.0) rest ∙ ap (λ (t : List ℕ). xs ++ byte " " ∷ t) (sym parts.4) in
    subst IsRaw whole (raw_of (xs ++ byte " " ∷ parts.0) parts.1 (all_joined is_line_byte xs (byte " " ∷ parts.0) line parts.2) parts.3)

-- a byte that ends no line is one of a line
pub first_line : (c : ℕ) (xs : List ℕ) → is_end c ≡ false → IsRaw (c ∷ xs) → is_line_byte c ≡ true
first_line c xs no_end is = let parts = parts_of (c ∷ xs) is in by parts.0 parts.1 parts.2 parts.4
  where
    by : (first : List ℕ) (continued : List (List ℕ)) → list_all is_line_byte first ≡ true → c ∷ xs ≡ first ++ flat_map continuation_text continued → is_line_byte c ≡ true
    by [] [] line e = absurd cc
    by [] (piece ∷ pieces) line e = let cr : c ≡ 13 = cc in absurd (false≢true (sym no_end ∙ ap is_end cr))
    by (d ∷ first) continued line e =
        let same : c ≡ d = cc in ap is_line_byte same ∙ (and_parts (is_line_byte d) (list_all is_line_byte first) line).0

-- after it the raw value goes on
pub line_next : (c : ℕ) (xs : List ℕ) → is_line_byte c ≡ true → IsRaw (c ∷ xs) → IsRaw xs
line_next c xs is_line is = let parts = parts_of (c ∷ xs) is in by parts.0 parts.1 parts.2 parts.3 parts.4
  where
    by : (first : List ℕ) (continued : List (List ℕ)) → list_all is_line_byte first ≡ true → list_all is_continuation continued ≡ true
        → c ∷ xs ≡ first ++ flat_map continuation_text continued → IsRaw xs
    by [] [] line each e = absurd cc
    by [] (piece ∷ pieces) line each e = let cr : c ≡ 13 = cc in absurd (false≢true (sym (ap is_line_byte cr) ∙ is_line))
    by (d ∷ first) continued line each e =
        let rest : xs ≡ first ++ flat_map continuation_text continued = cc in
        subst IsRaw (sym rest) (raw_of first continued (and_parts (is_line_byte d) (list_all is_line_byte first) line).1 each)

-- after CR comes LF, and then the raw value goes on
pub fold_next : (xs : List ℕ) → IsRaw (13 ∷ xs) → (ys : List ℕ) × (xs ≡ 10 ∷ ys) × IsRaw ys
fold_next xs is = let parts = parts_of (13 ∷ xs) is in by parts.0 parts.1 parts.2 parts.3 parts.4
  where
    by : (first : List ℕ) (continued : List (List ℕ)) → list_all is_line_byte first ≡ true → list_all is_continuation continued ≡ true
        → 13 ∷ xs ≡ first ++ flat_map continuation_text continued → (ys : List ℕ) × (xs ≡ 10 ∷ ys) × IsRaw ys
    by [] [] line each e = absurd cc
    by [] (piece ∷ pieces) line each e =
        let rest : xs ≡ 10 ∷ (piece ++ flat_map continuation_text pieces) = cc in
        let both = and_parts (is_continuation piece) (list_all is_continuation pieces) each in
        let piece_line = (and_parts (starts_in is_blank piece) (list_all is_line_byte piece) both.0).1 in
        (piece ++ flat_map continuation_text pieces, rest, raw_of piece pieces piece_line both.1)
    by (d ∷ first) continued line each e =
        let cr : 13 ≡ d = cc in absurd (false≢true (ap is_line_byte cr ∙ (and_parts (is_line_byte d) (list_all is_line_byte first) line).0))

-- none begins with LF
pub lf_first : (xs : List ℕ) → IsRaw (10 ∷ xs) → ⊥
lf_first xs is = let parts = parts_of (10 ∷ xs) is in by parts.0 parts.1 parts.2 parts.4
  where
    by : (first : List ℕ) (continued : List (List ℕ)) → list_all is_line_byte first ≡ true → 10 ∷ xs ≡ first ++ flat_map continuation_text continued → ⊥
    by [] [] line e = cc
    by [] (piece ∷ pieces) line e = false≢true (ap (starts_in (λ (c : ℕ). c == 13)) e)
    by (d ∷ first) continued line e =
        let lf : 10 ≡ d = cc in false≢true (ap is_line_byte lf ∙ (and_parts (is_line_byte d) (list_all is_line_byte first) line).0)

-- ---- folds

-- the CR before which the text stands, or nothing
abbrev cr_if : Bool → List ℕ
cr_if true = 13 ∷ []
cr_if false = []

-- what comes after the spacing at the start of a raw value is one
spacing_gone : (half : Bool) (spacing rest : List ℕ) → list_all is_spacing spacing ≡ true → starts_in is_spacing rest ≡ false → IsRaw (cr_if half ++ (spacing ++ rest)) → IsRaw rest
spacing_gone false [] rest all begins is = is
spacing_gone true [] rest all begins is = let next = fold_next rest is in absurd (false≢true (sym begins ∙ ap (starts_in is_spacing) next.1))
spacing_gone true (c ∷ spacing) rest all begins is =
    let next = fold_next (c ∷ (spacing ++ rest)) is in
    let same : next.0 ≡ spacing ++ rest = let e = next.1 in cc in
    spacing_gone false spacing rest (and_parts (is_spacing c) (list_all is_spacing spacing) all).1 begins (subst IsRaw same next.2)
spacing_gone false (c ∷ spacing) rest all begins is =
    let both = and_parts (is_spacing c) (list_all is_spacing spacing) all in
    elim (cases_Bool (c == 13)) [
      | inl cr ↦ spacing_gone true spacing rest both.1 begins (subst (λ (d : ℕ). IsRaw (d ∷ (spacing ++ rest))) (eqb-true c 13 cr) is)
      | inr no_cr ↦ elim (cases_Bool (c == 10)) [
        | inl lf ↦ absurd (lf_first (spacing ++ rest) (subst (λ (d : ℕ). IsRaw (d ∷ (spacing ++ rest))) (eqb-true c 10 lf) is))
        | inr no_lf ↦
            let line = first_line c (spacing ++ rest) (or_from (c == 13) (c == 10) no_cr no_lf) is in
            spacing_gone false spacing rest both.1 begins (line_next c (spacing ++ rest) line is)
      ]
    ]

-- the bytes before the first end of a line are those of a line, and a raw value comes after them
line_gone : (xs rest : List ℕ) → list_any is_end xs ≡ false → IsRaw (xs ++ rest) → (list_all is_line_byte xs ≡ true) × IsRaw rest
line_gone [] rest none is = (refl, is)
line_gone (c ∷ xs) rest none is =
    let both = or_parts (is_end c) (list_any is_end xs) none in
    let line = first_line c (xs ++ rest) both.0 is in
    let others = line_gone xs rest both.1 (line_next c (xs ++ rest) line is) in
    (and_from (is_line_byte c) (list_all is_line_byte xs) line others.0, others.1)

-- a raw value with a space in place of its first fold is one
pub unfolded_raw : (before after raw other : List ℕ) → raw ≡ before ++ (codes "\r\n" ++ after) → list_any is_end before ≡ false → IsUnfolded (length before) raw other
    → IsRaw raw → IsRaw other
unfolded_raw before after raw other joined none is sound =
    let first = is.before ++ is.first in
    let rest = codes "\r\n" ++ (is.last ++ is.after) in
    let parts : raw ≡ first ++ rest = is.joined ∙ sym (append_assoc is.before is.first rest) in
    let there : length before ≡ length first = is.there ∙ sym (length-append is.before is.first) in
    let same : before ≡ first =
    sym (take-append_seam before (codes "\r\n" ++ after))
    ∙ (ap (λ (t : List ℕ). take (length before) t) (sym joined ∙ parts) ∙ (ap (λ (n : ℕ). take n (first ++ rest)) there ∙ take-append_seam first rest)) in
    let cut = line_gone first rest (ap (list_any is_end) (sym same) ∙ none) (subst IsRaw parts sound) in
    let raw_after = spacing_gone false (13 ∷ 10 ∷ is.last) is.after is.spacing_last is.begins cut.1 in
    subst IsRaw (sym is.unfolded_is) (line_then_raw is.before is.after (all_parts is_line_byte is.before is.first cut.0).0 raw_after)

-- it has the same value
pub unfolded_value : (offset : ℕ) (raw other : List ℕ) → IsUnfolded offset raw other → value other ≡ value raw
unfolded_value offset raw other is =
    ap value is.unfolded_is
    ∙ (sym (takes_fold_for_space is.before is.first (byte "\r") (byte "\n" ∷ is.last) is.after is.spacing_first refl is.spacing_last is.ends is.begins) ∙ ap value (sym is.joined))

-- it is shorter
pub unfolded_shorter : (offset : ℕ) (raw other : List ℕ) → IsUnfolded offset raw other → length other < length raw
unfolded_shorter offset raw other is =
    let whole : length raw ≡ length (is.before ++ (is.first ++ (13 ∷ 10 ∷ (is.last ++ is.after)))) = ap (λ (t : List ℕ). length t) is.joined in
    let less : length other ≡ length (is.before ++ byte " " ∷ is.after) = ap (λ (t : List ℕ). length t) is.unfolded_is in
    let a = length-append is.before (is.first ++ (13 ∷ 10 ∷ (is.last ++ is.after))) in
    let b = length-append is.first (13 ∷ 10 ∷ (is.last ++ is.after)) in
    let c = length-append is.last is.after in
    let d = length-append is.before (byte " " ∷ is.after) in
    omega arith

-- ---- the bytes of values

-- a byte of a raw value: one of a line, or one of an end
abbrev is_raw_byte : ℕ → Bool
is_raw_byte c = is_line_byte c || is_end c

line_byte_of : (c : ℕ) → is_raw_byte c ≡ true → is_end c ≡ false → is_line_byte c ≡ true
line_byte_of c is no_end = elim (or_cases (is_line_byte c) (is_end c) is) [
  | inl line ↦ line
  | inr end ↦ absurd (false≢true (sym no_end ∙ end))
]

raw_bytes_of : (text : List ℕ) → list_all is_line_byte text ≡ true → list_all is_raw_byte text ≡ true
raw_bytes_of text line = all_implied is_line_byte is_raw_byte (λ c is. or_left (is_line_byte c) (is_end c) is) text line

continuation_bytes : (piece : List ℕ) → is_continuation piece ≡ true → list_all is_raw_byte (continuation_text piece) ≡ true
continuation_bytes piece is = raw_bytes_of piece (and_parts (starts_in is_blank piece) (list_all is_line_byte piece) is).1

raw_bytes : (raw : List ℕ) → IsRaw raw → list_all is_raw_byte raw ≡ true
raw_bytes raw is =
    let parts = parts_of raw is in
    ap (list_all is_raw_byte) parts.4
    ∙ all_joined is_raw_byte parts.0 (flat_map continuation_text parts.1) (raw_bytes_of parts.0 parts.2)
    (all_flat is_raw_byte continuation_text is_continuation continuation_bytes parts.1 parts.3)

first_blanks_gone : (text : List ℕ) → list_all is_line_byte text ≡ true → list_all is_line_byte (without_first_blanks text) ≡ true
first_blanks_gone [] all = refl
first_blanks_gone (c ∷ rest) all =
    let both = and_parts (is_line_byte c) (list_all is_line_byte rest) all in elim (cases_Bool (is_blank c)) [
      | inl is ↦ rw is (first_blanks_gone rest both.1)
      | inr fails ↦ rw fails all
    ]

blanks_gone : (text : List ℕ) → list_all is_line_byte text ≡ true → list_all is_line_byte (without_blanks text) ≡ true
blanks_gone text all =
    all_reverse is_line_byte (without_first_blanks (reverse (without_first_blanks text)))
    (first_blanks_gone (reverse (without_first_blanks text)) (all_reverse is_line_byte (without_first_blanks text) (first_blanks_gone text all)))

pieces_gone : (pieces : List (List ℕ)) → list_all (list_all is_line_byte) pieces ≡ true → list_all (list_all is_line_byte) (map without_blanks pieces) ≡ true
pieces_gone [] all = refl
pieces_gone (piece ∷ pieces) all =
    let both = and_parts (list_all is_line_byte piece) (list_all (list_all is_line_byte) pieces) all in
    and_from (list_all is_line_byte (without_blanks piece)) (list_all (list_all is_line_byte) (map without_blanks pieces)) (blanks_gone piece both.0) (pieces_gone pieces both.1)

-- a value has no other bytes than those of lines
pub value_line : (raw : List ℕ) → IsRaw raw → list_all is_line_byte (value raw) ≡ true
value_line raw is =
    let pieces = all_split is_line_byte is_end is_raw_byte line_byte_of raw (raw_bytes raw is) in
    let texts = all_filter (list_all is_line_byte) has_bytes (map without_blanks (slice_split is_end raw)) (pieces_gone (slice_split is_end raw) pieces) in
    all_separated is_line_byte (λ text. text) (codes " ") (list_all is_line_byte) refl (λ text all. all) (texts_of raw) texts

-- the two values with a comma and a space between them
pub joined_line_bytes : (raw other : List ℕ) → IsRaw raw → IsRaw other → list_all is_line_byte (value raw ++ (codes ", " ++ value other)) ≡ true
joined_line_bytes raw other a b = all_joined is_line_byte (value raw) (codes ", " ++ value other) (value_line raw a) (value_line other b)

-- a space before a text counts for nothing
pub value_after_space : (text : List ℕ) → value (byte " " ∷ text) ≡ value text
value_after_space text = ap (λ (t : List ℕ). value (byte " " ∷ t)) (sym (append-nil text)) ∙ forgets_spacing_at_ends (codes " ") text [] refl refl

-- a value is its own
pub value_itself : (raw : List ℕ) → value (value raw) ≡ value raw
value_itself raw = sym (value_after_space (value raw)) ∙ is_value_of_itself raw

-- so are two values with a comma and a space between them, where the later one isn't empty
pub joined_itself : (raw other : List ℕ) → has_bytes (value other) ≡ true → value (value raw ++ (codes ", " ++ value other)) ≡ value raw ++ (codes ", " ++ value other)
joined_itself raw other some = sym (value_after_space (value raw ++ (codes ", " ++ value other))) ∙ is_value_of_joined raw other some

-- ---- lengths of values

first_blanks_length : (text : List ℕ) → length (without_first_blanks text) ≤ length text
first_blanks_length [] = omega arith
first_blanks_length (c ∷ rest) =
    let less = first_blanks_length rest in
    elim (cases_Bool (is_blank c)) [
      | inl is ↦ rw is (omega (arith, less))
      | inr fails ↦ rw fails (omega arith)
    ]

blanks_length : (text : List ℕ) → length (without_blanks text) ≤ length text
blanks_length text =
    let left = without_first_blanks text in
    let one = first_blanks_length text in
    let two = first_blanks_length (reverse left) in
    let back = length-reverse left in
    let whole = length-reverse (without_first_blanks (reverse left)) in
    omega (arith, one, two, back, whole)

-- each text after a space
abbrev spaced : List (List ℕ) → List ℕ
spaced texts = flat_map (λ (text : List ℕ). codes " " ++ text) texts

spaced_length : (text : List ℕ) (texts : List (List ℕ)) → length (spaced (text ∷ texts)) ≡ 1 + length text + length (spaced texts)
spaced_length text texts = let whole = length-append (codes " " ++ text) (spaced texts) in omega (arith, whole)

onto_length : (c n : ℕ) (parts : List (List ℕ)) → length (spaced parts) ≡ n + 1 → length (spaced (onto_first c parts)) ≡ n + 2
onto_length c n [] same = absurd (omega (arith, same))
onto_length c n (part ∷ parts) same =
    let one = spaced_length part parts in
    let two = spaced_length (c ∷ part) parts in
    omega (arith, same, one, two)

split_length : (raw : List ℕ) → length (spaced (slice_split is_end raw)) ≡ length raw + 1
split_length [] = refl
split_length (c ∷ rest) =
    let same = split_length rest in
    elim (cases_Bool (is_end c)) [
      | inl ends ↦
          let one = spaced_length [] (slice_split is_end rest) in
          let parts = ap (λ (texts : List (List ℕ)). length (spaced texts)) (slice_split-cons_yes is_end c rest ends) in
          parts ∙ omega (arith, same, one)
      | inr goes ↦
          let more = onto_length c (length rest) (slice_split is_end rest) same in
          let parts = ap (λ (texts : List (List ℕ)). length (spaced texts)) (slice_split-cons_no is_end c rest goes) in
          parts ∙ omega (arith, more)
    ]

kept_length : (keep : List ℕ → Bool) (pieces : List (List ℕ)) → length (spaced (filter keep (map without_blanks pieces))) ≤ length (spaced pieces)
kept_length keep [] = omega arith
kept_length keep (piece ∷ pieces) =
    let rest = kept_length keep pieces in
    let one = blanks_length piece in
    let whole = spaced_length piece pieces in
    let more = spaced_length (without_blanks piece) (filter keep (map without_blanks pieces)) in
    elim (cases_Bool (keep (without_blanks piece))) [
      | inl kept ↦ rw kept (omega (arith, rest, one, whole, more))
      | inr gone ↦ rw gone (omega (arith, rest, whole))
    ]

joined_length : (texts : List (List ℕ)) (n : ℕ) → length (spaced texts) ≤ n + 1 → length (join_by (λ (text : List ℕ). text) (codes " ") texts) ≤ n
joined_length [] n less = omega arith
joined_length (text ∷ texts) n less =
    let one = spaced_length text texts in
    let whole = length-append text (spaced texts) in
    omega (arith, less, one, whole)

-- a value is no longer than its raw value
pub value_short : (raw : List ℕ) → length (value raw) ≤ length raw
value_short raw =
    let kept = kept_length has_bytes (slice_split is_end raw) in
    let all = split_length raw in
    joined_length (texts_of raw) (length raw) (omega (arith, kept, all))

-- ---- cores

spacing_of_blanks : (text : List ℕ) → list_all is_blank text ≡ true → list_all is_spacing text ≡ true
spacing_of_blanks text all = all_implied is_blank is_spacing (λ c is. or_left (is_blank c) (is_end c) is) text all

-- a text that is the value of itself after a space is what is left of that without spacing
pub spaced_core : (text : List ℕ) → list_all is_line_byte text ≡ true → value text ≡ text → HasCore (byte " " ∷ text) text
spaced_core text line itself = record {
  first = codes " ";
  last = [];
  joined = ap (λ (t : List ℕ). byte " " ∷ t) (sym (append-nil text));
  spacing_first = refl;
  spacing_last = refl;
  begins = no_spacing_first text line (sym (ap (starts_in is_blank) itself) ∙ (has_no_blank_at_ends text).0);
  ends = no_spacing_last text line (sym (ap (ends_in is_blank) itself) ∙ (has_no_blank_at_ends text).1);
}

one_text : (text : List ℕ) → join_by (λ (t : List ℕ). t) (codes " ") (filter has_bytes (text ∷ [])) ≡ text
one_text [] = refl
one_text (c ∷ rest) = let some : has_bytes (c ∷ rest) ≡ true = lt-ltb 0 (length (c ∷ rest)) (omega arith) in rw some (append-nil (c ∷ rest))

not_split : (raw : List ℕ) → list_any is_end raw ≡ false → slice_split is_end raw ≡ raw ∷ []
not_split [] none = refl
not_split (c ∷ rest) none =
    let both = or_parts (is_end c) (list_any is_end rest) none in
    slice_split-cons_no is_end c rest both.0 ∙ ap (onto_first c) (not_split rest both.1)

-- the text is blanks and what is left without them
record FirstBlanks (text : List ℕ) : Type 0 where
  first : List ℕ
  blanks : list_all is_blank first ≡ true
  joined : text ≡ first ++ without_first_blanks text

first_blanks : (text : List ℕ) → FirstBlanks text
first_blanks [] = record { first = []; blanks = refl; joined = refl }
first_blanks (c ∷ rest) = elim (cases_Bool (is_blank c)) [
  | inl is ↦
      let others = first_blanks rest in
      record {
        first = c ∷ others.first;
        blanks = and_from (is_blank c) (list_all is_blank others.first) is others.blanks;
        joined = rw is (ap (λ (t : List ℕ). c ∷ t) others.joined);
      }
  | inr fails ↦ record { first = []; blanks = refl; joined = rw fails refl }
]

-- where there is no fold, the value is what is left without spacing
pub value_core : (raw : List ℕ) → IsRaw raw → list_any is_end raw ≡ false → HasCore raw (value raw)
value_core raw is none =
    let left = without_first_blanks raw in
    let front = first_blanks raw in
    let back = first_blanks (reverse left) in
    let same : value raw ≡ without_blanks raw =
    ap (λ (pieces : List (List ℕ)). join_by (λ (t : List ℕ). t) (codes " ") (filter has_bytes (map without_blanks pieces))) (not_split raw none) ∙ one_text (without_blanks raw) in
    let ends : left ≡ without_blanks raw ++ reverse back.first =
    sym (reverse-reverse left) ∙ (ap (λ (t : List ℕ). reverse t) back.joined ∙ reverse-append back.first (without_first_blanks (reverse left))) in
    record {
      first = front.first;
      last = reverse back.first;
      joined = front.joined ∙ ap (λ (t : List ℕ). front.first ++ t) (ends ∙ ap (λ (t : List ℕ). t ++ reverse back.first) (sym same));
      spacing_first = spacing_of_blanks front.first front.blanks;
      spacing_last = spacing_of_blanks (reverse back.first) (all_reverse is_blank back.first back.blanks);
      begins = no_spacing_first (value raw) (value_line raw is) (has_no_blank_at_ends raw).0;
      ends = no_spacing_last (value raw) (value_line raw is) (has_no_blank_at_ends raw).1;
    }
