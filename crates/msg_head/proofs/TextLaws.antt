-- The texts between the line ends of a raw value.
use Rattle.std.proofs.Common.{◌≡◌, ◌⊎◌, ℕ, ◌<◌, Bool, true, false, not, List, [], ◌∷◌, ◌++◌, length, refl, sym, ◌∙◌, ap, inl, inr, arith, length-append}
use Rattle.std.specs.Prelude.{map, filter, reverse, codes}
use Rattle.std.specs.List.{list_all, slice_split, onto_first, flat_map, join_by}
use Rattle.std.proofs.lemmas.Bool.{cases_Bool, false≢true, and_parts, lt-ltb}
use Rattle.std.proofs.lemmas.List.{reverse-append, reverse-reverse}
use Rattle.std.proofs.lemmas.List.Splits.{slice_split-cons_yes, slice_split-cons_no}
use Rattle.byte_grammar.specs.Classes.{is_blank}
use Rattle.byte_grammar.specs.Language.{starts_in}
use Rattle.msg_head.specs.Values.{is_end, without_first_blanks, without_blanks, has_bytes, texts_of}
use Rattle.msg_head.specs.LeftInLines.{spaced}
use Rattle.msg_head.specs.tools.Walks.{is_solid, IsLineBefore}
use Rattle.msg_head.proofs.Bytes.{blank_no_end, solid_no_blank}

-- the texts of pieces that are cut
abbrev pub kept : List (List ℕ) → List (List ℕ)
kept pieces = filter has_bytes (map without_blanks pieces)

pub texts_end : (c : ℕ) (rest : List ℕ) → is_end c ≡ true → texts_of (c ∷ rest) ≡ texts_of rest
texts_end c rest is = ap kept (slice_split-cons_yes is_end c rest is)

blank_first : (c : ℕ) (pieces : List (List ℕ)) → is_blank c ≡ true → kept (onto_first c pieces) ≡ kept pieces
blank_first c [] is = rw is refl
blank_first c (piece ∷ pieces) is = rw is refl

pub texts_blank : (c : ℕ) (rest : List ℕ) → is_blank c ≡ true → texts_of (c ∷ rest) ≡ texts_of rest
texts_blank c rest is =
    ap kept (slice_split-cons_no is_end c rest (blank_no_end c is)) ∙ blank_first c (slice_split is_end rest) is

-- ---- a line and what comes after it

-- what is cut after the line
abbrev pub after_line : List ℕ → List (List ℕ)
after_line [] = []
after_line (c ∷ rest) = slice_split is_end rest

not_true : (b : Bool) → not b ≡ true → b ≡ false
not_true false is = refl
not_true true is = absurd (false≢true is)

-- the rest is empty or begins with a line end
abbrev pub Stops : List ℕ → Type 0
Stops rest = (rest ≡ []) ⊎ (starts_in is_end rest ≡ true)

pub line_then : (line rest : List ℕ) → list_all (λ c. not (is_end c)) line ≡ true → Stops rest → slice_split is_end (line ++ rest) ≡ line ∷ after_line rest
line_then [] [] clean stops = refl
line_then [] (c ∷ rest) clean stops = elim stops [
  | inl none ↦ absurd cc
  | inr is ↦ slice_split-cons_yes is_end c rest is
]
line_then (c ∷ line) rest clean stops =
    let both = and_parts (not (is_end c)) (list_all (λ c. not (is_end c)) line) clean in
    slice_split-cons_no is_end c (line ++ rest) (not_true (is_end c) both.0) ∙ ap (onto_first c) (line_then line rest both.1 stops)

pub texts_after : (rest : List ℕ) → Stops rest → kept (after_line rest) ≡ texts_of rest
texts_after [] stops = refl
texts_after (c ∷ rest) stops = elim stops [
  | inl none ↦ absurd cc
  | inr is ↦ sym (texts_end c rest is)
]

-- ---- a text without the blanks at its ends

not_blank_alone : (xs : List ℕ) (c : ℕ) → is_blank c ≡ false → 0 < length (without_first_blanks (xs ++ c ∷ []))
not_blank_alone [] c no_blank = rw no_blank (omega arith)
not_blank_alone (x ∷ xs) c no_blank = elim (cases_Bool (is_blank x)) [
  | inl is ↦ rw is (not_blank_alone xs c no_blank)
  | inr not ↦ rw not (omega arith)
]

some_bytes : (text : List ℕ) → 0 < length (reverse text) → has_bytes text ≡ true
some_bytes [] less = absurd (omega (arith, less))
some_bytes (c ∷ text) less = lt-ltb 0 (length (c ∷ text)) (omega arith)

first_kept : (line rest : List ℕ) → starts_in is_solid (line ++ rest) ≡ true → Stops rest → (c : ℕ) × (cs : List ℕ) × (line ≡ c ∷ cs) × (is_blank c ≡ false)
first_kept (c ∷ cs) rest solid stops = (c, cs, refl, (solid_no_blank c solid).0)
first_kept [] [] solid stops = absurd (false≢true solid)
first_kept [] (c ∷ rest) solid stops = elim stops [
  | inl none ↦ absurd cc
  | inr is ↦ absurd (false≢true (sym (solid_no_blank c solid).1 ∙ is))
]

trimmed_is : (c : ℕ) (cs text : List ℕ) → is_blank c ≡ false → reverse text ≡ without_first_blanks (reverse (c ∷ cs))
    → (without_blanks (c ∷ cs) ≡ text) × (has_bytes text ≡ true)
trimmed_is c cs text no_blank same =
    let whole : without_first_blanks (c ∷ cs) ≡ c ∷ cs = rw no_blank refl in
    let size : 0 < length (without_first_blanks (reverse (c ∷ cs))) = rw (reverse-append (c ∷ []) cs) (not_blank_alone (reverse cs) c no_blank) in (
      ap (λ line. reverse (without_first_blanks (reverse line))) whole ∙ ap reverse (sym same) ∙ reverse-reverse text,
      some_bytes text (rw same size),
    )

keep_first : (line text : List ℕ) (pieces : List (List ℕ)) → without_blanks line ≡ text → has_bytes text ≡ true → kept (line ∷ pieces) ≡ text ∷ kept pieces
keep_first line text pieces same some = rw same (rw some refl)

-- the line's text is the first, and it takes a byte at least
pub text_first : (line rest bytes text : List ℕ) → IsLineBefore line rest bytes → starts_in is_solid bytes ≡ true → reverse text ≡ without_first_blanks (reverse line)
    → (texts_of bytes ≡ text ∷ texts_of rest) × (length rest < length bytes)
text_first line rest bytes text before solid same =
    let first = first_kept line rest (ap (starts_in is_solid) (sym before.joined) ∙ solid) before.stops in
    let trimmed = trimmed_is first.0 first.1 text first.3 (same ∙ ap (λ l. without_first_blanks (reverse l)) first.2) in (
      ap texts_of before.joined ∙ ap kept (line_then line rest before.clean before.stops)
          ∙ keep_first line text (after_line rest) (ap without_blanks first.2 ∙ trimmed.0) trimmed.1 ∙ ap (λ ts. text ∷ ts) (texts_after rest before.stops),
      omega (arith, ap (length {A = ℕ}) before.joined, length-append line rest, ap (length {A = ℕ}) first.2),
    )

-- ---- a text is there

line_of : (bytes : List ℕ) → (line rest : List ℕ) × IsLineBefore line rest bytes
line_of [] = ([], [], record { joined = refl; clean = refl; stops = inl refl })
line_of (c ∷ bytes) = elim (cases_Bool (is_end c)) [
  | inl is ↦ ([], c ∷ bytes, record { joined = refl; clean = refl; stops = inr is })
  | inr not ↦ let more = line_of bytes in
      (c ∷ more.0, more.1, record { joined = ap (λ cs. c ∷ cs) more.2.joined; clean = rw not more.2.clean; stops = more.2.stops })
]

pub some_text : (bytes : List ℕ) → starts_in is_solid bytes ≡ true → (text : List ℕ) × (texts : List (List ℕ)) × (texts_of bytes ≡ text ∷ texts)
some_text bytes solid =
    let line = line_of bytes in
    let text = reverse (without_first_blanks (reverse line.0)) in
    (text, texts_of line.1, (text_first line.0 line.1 bytes text line.2 solid (reverse-reverse (without_first_blanks (reverse line.0)))).0)

-- a space is before a further text
pub space_first : (old bytes : List ℕ) → texts_of bytes ≡ texts_of old → starts_in is_solid bytes ≡ true
    → flat_map spaced (texts_of old) ≡ codes " " ++ join_by (λ text. text) (codes " ") (texts_of bytes)
space_first old bytes same solid =
    let some = some_text bytes solid in
    ap (flat_map spaced) (sym same) ∙ rw some.2 refl
