-- The value of a raw value, by a walk over its bytes.
use Rattle.std.proofs.Common.{◌≡◌, ℕ, true, false, List, [], ◌∷◌, ◌++◌, length, refl, sym, ◌∙◌, ap, inl, inr, if◌then◌else◌, arith, append_assoc}
use Rattle.std.specs.Prelude.{map, filter, reverse, codes}
use Rattle.std.specs.List.{slice_split, onto_first, flat_map, join_by}
use Rattle.std.proofs.lemmas.Bool.{cases_Bool, or_cases, or_parts, lt-ltb, both_ways}
use Rattle.std.proofs.lemmas.List.{reverse-append}
use Rattle.std.proofs.lemmas.List.Splits.{slice_split-cons_yes, slice_split-cons_no}
use Rattle.byte_grammar.specs.Classes.{is_blank}
use Rattle.msg_head.specs.Values.{is_end, without_first_blanks, without_blanks, has_bytes, value}
use Rattle.msg_body.specs.Spacing.{is_spacing}

-- ---- the walk

-- what spacing before a solid byte counts for: nothing at the start, else these blanks, or a fold
pub data Gap : Type 0 where
  at_start : Gap
  blanks : List ℕ → Gap
  folded : Gap

abbrev pub gap_text : Gap → List ℕ
gap_text at_start = []
gap_text (blanks text) = text
gap_text folded = codes " "

-- the gap and a further byte of spacing
abbrev pub wider : Gap → ℕ → Gap
wider at_start c = at_start
wider (blanks text) c = if is_end c then folded else blanks (text ++ c ∷ [])
wider folded c = folded

-- the value of the text after the gap
abbrev pub walk : Gap → List ℕ → List ℕ
walk gap [] = []
walk gap (c ∷ rest) = if is_spacing c then walk (wider gap c) rest else gap_text gap ++ c ∷ walk (blanks []) rest

pub walk_spacing : (gap : Gap) (c : ℕ) (rest : List ℕ) → is_spacing c ≡ true → walk gap (c ∷ rest) ≡ walk (wider gap c) rest
walk_spacing gap c rest is = rw is refl

pub walk_solid : (gap : Gap) (c : ℕ) (rest : List ℕ) → is_spacing c ≡ false → walk gap (c ∷ rest) ≡ gap_text gap ++ c ∷ walk (blanks []) rest
walk_solid gap c rest is = rw is refl

-- ---- a text without the blanks at its end

-- the byte before a text that ends with no blank
abbrev grown : ℕ → List ℕ → List ℕ
grown c [] = if is_blank c then [] else c ∷ []
grown c (d ∷ text) = c ∷ d ∷ text

abbrev without_last_blanks : List ℕ → List ℕ
without_last_blanks [] = []
without_last_blanks (c ∷ rest) = grown c (without_last_blanks rest)

grown_some : (c : ℕ) (text : List ℕ) (x : ℕ) → grown c (text ++ x ∷ []) ≡ c ∷ (text ++ x ∷ [])
grown_some c [] x = refl
grown_some c (d ∷ text) x = refl

one_more : (text : List ℕ) (c : ℕ) → reverse (without_first_blanks (text ++ c ∷ [])) ≡ grown c (reverse (without_first_blanks text))
one_more [] c = elim (cases_Bool (is_blank c)) [
  | inl is ↦ rw is refl
  | inr not ↦ rw not refl
]
one_more (x ∷ text) c = elim (cases_Bool (is_blank x)) [
  | inl is ↦ rw is (one_more text c)
  | inr not ↦ rw not (reverse-append (x ∷ text) (c ∷ []) ∙ (ap (λ (t : List ℕ). c ∷ t) (reverse-append (x ∷ []) text) ∙ (sym (grown_some c (reverse text) x) ∙ ap (grown c) (sym (reverse-append (x ∷ []) text)))))
]

last_blanks : (text : List ℕ) → reverse (without_first_blanks (reverse text)) ≡ without_last_blanks text
last_blanks [] = refl
last_blanks (c ∷ text) =
    ap (λ (t : List ℕ). reverse (without_first_blanks t)) (reverse-append (c ∷ []) text) ∙ (one_more (reverse text) c ∙ ap (grown c) (last_blanks text))

-- ---- the pieces between ends

-- the texts of the pieces
abbrev kept : List (List ℕ) → List (List ℕ)
kept pieces = filter has_bytes (map without_blanks pieces)

-- the texts, each after a space
abbrev spaced : List (List ℕ) → List ℕ
spaced texts = flat_map (λ (text : List ℕ). codes " " ++ text) texts

-- the text after blanks, which count only where it isn't empty
abbrev after_gap : List ℕ → List ℕ → List ℕ
after_gap gap [] = []
after_gap gap (c ∷ text) = gap ++ c ∷ text

-- what the walk gives after each gap, by the pieces
record Walked (raw : List ℕ) : Type 0 where
  piece : List ℕ
  pieces : List (List ℕ)
  split : slice_split is_end raw ≡ piece ∷ pieces
  from_start : walk at_start raw ≡ join_by (λ (text : List ℕ). text) (codes " ") (kept (piece ∷ pieces))
  from_blanks : (gap : List ℕ) → walk (blanks gap) raw ≡ after_gap gap (without_last_blanks piece) ++ spaced (kept pieces)
  from_fold : walk folded raw ≡ spaced (kept (piece ∷ pieces))

walked_end : (c : ℕ) (rest : List ℕ) → is_spacing c ≡ true → is_end c ≡ true → Walked rest → Walked (c ∷ rest)
walked_end c rest spacing is w = record {
  piece = [];
  pieces = w.piece ∷ w.pieces;
  split = slice_split-cons_yes is_end c rest is ∙ ap (λ (ps : List (List ℕ)). [] ∷ ps) w.split;
  from_start = walk_spacing at_start c rest spacing ∙ w.from_start;
  from_blanks = λ gap. walk_spacing (blanks gap) c rest spacing ∙ (rw is w.from_fold);
  from_fold = walk_spacing folded c rest spacing ∙ w.from_fold;
}

kept_blank : (c : ℕ) (piece : List ℕ) (pieces : List (List ℕ)) → is_blank c ≡ true → kept (piece ∷ pieces) ≡ kept ((c ∷ piece) ∷ pieces)
kept_blank c piece pieces is = rw is refl

blanks_more : (gap : List ℕ) (c : ℕ) (text : List ℕ) → is_blank c ≡ true → after_gap (gap ++ c ∷ []) text ≡ after_gap gap (grown c text)
blanks_more gap c [] is = rw is refl
blanks_more gap c (d ∷ text) is = append_assoc gap (c ∷ []) (d ∷ text)

walked_blank : (c : ℕ) (rest : List ℕ) → is_spacing c ≡ true → is_blank c ≡ true → is_end c ≡ false → Walked rest → Walked (c ∷ rest)
walked_blank c rest spacing is not w =
    let wide : (gap : List ℕ) → wider (blanks gap) c ≡ blanks (gap ++ c ∷ []) = λ gap. rw not refl in
    record {
      piece = c ∷ w.piece;
      pieces = w.pieces;
      split = slice_split-cons_no is_end c rest not ∙ ap (onto_first c) w.split;
      from_start = walk_spacing at_start c rest spacing ∙ (w.from_start ∙ ap (join_by (λ (text : List ℕ). text) (codes " ")) (kept_blank c w.piece w.pieces is));
      from_blanks = λ gap. walk_spacing (blanks gap) c rest spacing ∙ (ap (λ (g : Gap). walk g rest) (wide gap)
          ∙ (w.from_blanks (gap ++ c ∷ []) ∙ ap (λ (t : List ℕ). t ++ spaced (kept w.pieces)) (blanks_more gap c (without_last_blanks w.piece) is)));
      from_fold = walk_spacing folded c rest spacing ∙ (w.from_fold ∙ ap spaced (kept_blank c w.piece w.pieces is));
    }

grown_whole : (c : ℕ) (text more : List ℕ) → is_blank c ≡ false → c ∷ (after_gap [] text ++ more) ≡ grown c text ++ more
grown_whole c [] more not = rw not refl
grown_whole c (d ∷ text) more not = refl

some_grown : (c : ℕ) (text : List ℕ) → is_blank c ≡ false → has_bytes (grown c text) ≡ true
some_grown c [] not = rw not refl
some_grown c (d ∷ text) not = lt-ltb 0 (length (c ∷ d ∷ text)) (omega arith)

gap_grown : (gap : List ℕ) (c : ℕ) (text : List ℕ) → is_blank c ≡ false → gap ++ grown c text ≡ after_gap gap (grown c text)
gap_grown gap c [] not = rw not refl
gap_grown gap c (d ∷ text) not = refl

kept_solid : (c : ℕ) (piece : List ℕ) (pieces : List (List ℕ)) → is_blank c ≡ false → kept ((c ∷ piece) ∷ pieces) ≡ grown c (without_last_blanks piece) ∷ kept pieces
kept_solid c piece pieces not =
    let whole : without_first_blanks (c ∷ piece) ≡ c ∷ piece = rw not refl in
    ap (λ (t : List ℕ). filter has_bytes (t ∷ map without_blanks pieces)) (ap (λ (t : List ℕ). reverse (without_first_blanks (reverse t))) whole ∙ last_blanks (c ∷ piece))
    ∙ (rw (some_grown c (without_last_blanks piece) not) refl)

walked_solid : (c : ℕ) (rest : List ℕ) → is_spacing c ≡ false → is_blank c ≡ false → is_end c ≡ false → Walked rest → Walked (c ∷ rest)
walked_solid c rest solid no_blank no_end w =
    let text = grown c (without_last_blanks w.piece) in
    let more = spaced (kept w.pieces) in
    let all : (gap : Gap) → walk gap (c ∷ rest) ≡ gap_text gap ++ (text ++ more) =
    λ gap. walk_solid gap c rest solid
    ∙ ap (λ (t : List ℕ). gap_text gap ++ t) (ap (λ (t : List ℕ). c ∷ t) (w.from_blanks []) ∙ grown_whole c (without_last_blanks w.piece) more no_blank) in
    let texts = sym (kept_solid c w.piece w.pieces no_blank) in
    record {
      piece = c ∷ w.piece;
      pieces = w.pieces;
      split = slice_split-cons_no is_end c rest no_end ∙ ap (onto_first c) w.split;
      from_start = all at_start ∙ ap (join_by (λ (text : List ℕ). text) (codes " ")) texts;
      from_blanks = λ gap. all (blanks gap) ∙ (sym (append_assoc gap text more) ∙ ap (λ (t : List ℕ). t ++ more) (gap_grown gap c (without_last_blanks w.piece) no_blank));
      from_fold = all folded ∙ ap spaced texts;
    }

walked_next : (c : ℕ) (rest : List ℕ) → Walked rest → Walked (c ∷ rest)
walked_next c rest w = elim (cases_Bool (is_spacing c)) [
  | inl spacing ↦ elim (cases_Bool (is_end c)) [
    | inl is ↦ walked_end c rest spacing is w
    | inr not ↦ elim (or_cases (is_blank c) (is_end c) spacing) [
      | inl blank ↦ walked_blank c rest spacing blank not w
      | inr is ↦ absurd (both_ways (is_end c) not is)
    ]
  ]
  | inr solid ↦ let both = or_parts (is_blank c) (is_end c) solid in
      walked_solid c rest solid both.0 both.1 w
]

walked : (raw : List ℕ) → Walked raw
walked [] = record { piece = []; pieces = []; split = refl; from_start = refl; from_blanks = λ gap. refl; from_fold = refl }
walked (c ∷ rest) = walked_next c rest (walked rest)

pub value_walk : (raw : List ℕ) → value raw ≡ walk at_start raw
value_walk raw =
    let w = walked raw in
    ap (λ (pieces : List (List ℕ)). join_by (λ (text : List ℕ). text) (codes " ") (kept pieces)) w.split ∙ sym w.from_start
