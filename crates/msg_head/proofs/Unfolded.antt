-- The value of a raw value, by its pieces.
use Rattle.std.proofs.Common.{◌≡◌, ℕ, true, false, ◌==◌, not, List, [], ◌∷◌, ◌++◌, refl, sym, subst, ◌∙◌, ap, inl, inr, if◌then◌else◌, ◌↔◌}
use Rattle.std.specs.Prelude.{map, filter, reverse, codes}
use Rattle.std.specs.List.{list_all, flat_map, join_by}
use Rattle.std.proofs.lemmas.Bool.{cases_Bool, false≢true, and_parts, and_from, or_cases, eqb-true}
use Rattle.std.proofs.lemmas.List.{append-nil, reverse-append, reverse-reverse}
use Rattle.std.proofs.lemmas.List.Folds.{list_all-append}
use Rattle.byte_grammar.specs.Classes.{is_blank, is_line_byte}
use Rattle.byte_grammar.specs.Language.{starts_in}
use Rattle.msg_head.specs.RawValues.{RawPieces, is_continuation, are_pieces, continuation_text, pieces_text}
use Rattle.msg_head.specs.Values.{IsTrimmed, AreTrimmed, IsLineValue, is_end, without_first_blanks, without_blanks, has_bytes, texts_of, value}
use Rattle.msg_head.specs.Laws.{RawHasOneValue}
use Rattle.msg_head.proofs.TextLaws.{kept, after_line, line_then, texts_after, texts_end}

-- ---- blanks at the ends

blanks_go : (before text : List ℕ) → list_all is_blank before ≡ true → without_first_blanks (before ++ text) ≡ without_first_blanks text
blanks_go [] text blank = refl
blanks_go (c ∷ before) text blank =
    let both = and_parts (is_blank c) (list_all is_blank before) blank in
    rw both.0 (blanks_go before text both.1)

none_go : (text : List ℕ) → starts_in is_blank text ≡ false → without_first_blanks text ≡ text
none_go [] first = refl
none_go (c ∷ text) first = rw first refl

blanks_back : (text : List ℕ) → list_all is_blank text ≡ true → list_all is_blank (reverse text) ≡ true
blanks_back [] blank = refl
blanks_back (c ∷ text) blank =
    let both = and_parts (is_blank c) (list_all is_blank text) blank in
    ap (list_all is_blank) (reverse-append (c ∷ []) text) ∙ list_all-append is_blank (reverse text) (c ∷ [])
    ∙ and_from (list_all is_blank (reverse text)) (list_all is_blank (c ∷ [])) (blanks_back text both.1) (and_from (is_blank c) true both.0 refl)

-- a text between blanks, which has none at its own ends
between : (text after : List ℕ) → list_all is_blank after ≡ true → starts_in is_blank text ≡ false → starts_in is_blank (reverse text) ≡ false
    → reverse (without_first_blanks (reverse (without_first_blanks (text ++ after)))) ≡ text
between [] after blank first last =
    ap (λ t. reverse (without_first_blanks (reverse t))) (ap without_first_blanks (sym (append-nil after)) ∙ blanks_go after [] blank)
between (c ∷ text) after blank first last =
    ap (λ t. reverse (without_first_blanks (reverse t))) (none_go (c ∷ (text ++ after)) first)
    ∙ ap (λ t. reverse (without_first_blanks t)) (reverse-append (c ∷ text) after)
    ∙ ap reverse (blanks_go (reverse after) (reverse (c ∷ text)) (blanks_back after blank) ∙ none_go (reverse (c ∷ text)) last)
    ∙ reverse-reverse (c ∷ text)

text_is : (piece text : List ℕ) → IsTrimmed piece text → without_blanks piece ≡ text
text_is piece text is =
    ap without_blanks is.joined
    ∙ ap (λ t. reverse (without_first_blanks (reverse t))) (blanks_go is.before (text ++ is.after) is.blanks_before)
    ∙ between text is.after is.blanks_after is.first is.last

-- the blanks that go, and what is left
blanks_before : (text : List ℕ) → (before : List ℕ) × (list_all is_blank before ≡ true) × (text ≡ before ++ without_first_blanks text) × (starts_in is_blank (without_first_blanks text) ≡ false)
blanks_before [] = ([], refl, refl, refl)
blanks_before (c ∷ text) = elim (cases_Bool (is_blank c)) [
  | inl is ↦ let more = blanks_before text in
      (c ∷ more.0, and_from (is_blank c) (list_all is_blank more.0) is more.1, rw is (ap (λ t. c ∷ t) more.2), rw is more.3)
  | inr not ↦ ([], refl, rw not refl, rw not not)
]

starts_shorter : (text after : List ℕ) → starts_in is_blank (text ++ after) ≡ false → starts_in is_blank text ≡ false
starts_shorter [] after first = refl
starts_shorter (c ∷ text) after first = first

is_text : (piece : List ℕ) → IsTrimmed piece (without_blanks piece)
is_text piece =
    let start = blanks_before piece in
    let end = blanks_before (reverse (without_first_blanks piece)) in
    let text = without_first_blanks (reverse (without_first_blanks piece)) in
    let back : without_first_blanks piece ≡ reverse text ++ reverse end.0 =
    sym (reverse-reverse (without_first_blanks piece)) ∙ ap reverse end.2 ∙ reverse-append end.0 text in
    record {
      before = start.0;
      after = reverse end.0;
      joined = start.2 ∙ ap (λ t. start.0 ++ t) back;
      blanks_before = start.1;
      blanks_after = blanks_back end.0 end.1;
      first = starts_shorter (reverse text) (reverse end.0) (ap (starts_in is_blank) (sym back) ∙ start.3);
      last = ap (starts_in is_blank) (reverse-reverse text) ∙ end.3;
    }

are_texts : (pieces : List (List ℕ)) → AreTrimmed pieces (map without_blanks pieces)
are_texts [] = tt
are_texts (piece ∷ pieces) = (is_text piece, are_texts pieces)

-- ---- pieces between folds

line_byte_no_end : (c : ℕ) → is_line_byte c ≡ true → not (is_end c) ≡ true
line_byte_no_end c is = elim (cases_Bool (is_end c)) [
  | inl end ↦ elim (or_cases (c == 13) (c == 10) end) [
    | inl e ↦ absurd (false≢true (ap is_line_byte (sym (eqb-true c 13 e)) ∙ is))
    | inr e ↦ absurd (false≢true (ap is_line_byte (sym (eqb-true c 10 e)) ∙ is))
  ]
  | inr not ↦ rw not refl
]

clean : (text : List ℕ) → list_all is_line_byte text ≡ true → list_all (λ c. not (is_end c)) text ≡ true
clean [] is = refl
clean (c ∷ text) is =
    let both = and_parts (is_line_byte c) (list_all is_line_byte text) is in
    and_from (not (is_end c)) (list_all (λ d. not (is_end d)) text) (line_byte_no_end c both.0) (clean text both.1)

-- the text before others, where it isn't empty
abbrev added : List ℕ → List (List ℕ) → List (List ℕ)
added text texts = if has_bytes text then text ∷ texts else texts

texts_of_pieces : (first : List ℕ) (folds texts : _) → list_all is_line_byte first ≡ true → list_all is_continuation folds ≡ true
    → AreTrimmed (first ∷ folds) texts → texts_of (first ++ flat_map continuation_text folds) ≡ filter has_bytes texts
texts_of_pieces first folds [] line all are = absurd are
texts_of_pieces first [] (text ∷ []) line all are =
    ap kept (line_then first [] (clean first line) (inl refl)) ∙ ap (λ t. added t []) (text_is first text are.0)
texts_of_pieces first [] (text ∷ other ∷ texts) line all are = absurd are.1
texts_of_pieces first (fold ∷ folds) (text ∷ texts) line all are =
    let both = and_parts (is_continuation fold) (list_all is_continuation folds) all in
    let parts = and_parts (starts_in is_blank fold) (list_all is_line_byte fold) both.0 in
    let rest = fold ++ flat_map continuation_text folds in
    let more = texts_of_pieces fold folds texts parts.1 both.1 are.1 in
    ap kept (line_then first (flat_map continuation_text (fold ∷ folds)) (clean first line) (inr refl))
    ∙ ap (λ t. added t (kept (after_line (flat_map continuation_text (fold ∷ folds))))) (text_is first text are.0)
    ∙ ap (added text) (texts_after (13 ∷ 10 ∷ rest) (inr refl) ∙ texts_end 13 (10 ∷ rest) refl ∙ texts_end 10 rest refl ∙ more)

texts_are : (pieces : RawPieces) (texts : List (List ℕ)) → are_pieces pieces ≡ true → AreTrimmed (pieces.first ∷ pieces.continued) texts → texts_of (pieces_text pieces) ≡ filter has_bytes texts
texts_are pieces texts are is =
    let both = and_parts (list_all is_line_byte pieces.first) (list_all is_continuation pieces.continued) are in
    texts_of_pieces pieces.first pieces.continued texts both.0 both.1 is

value_of_pieces : (pieces : RawPieces) → are_pieces pieces ≡ true → (text : List ℕ) → (IsLineValue (pieces_text pieces) text) ↔ (text ≡ value (pieces_text pieces))
value_of_pieces pieces are text = (
  λ is. is.value_is ∙ ap (join_by (λ text. text) (codes " ")) (sym (texts_are is.pieces is.texts is.are is.texts_are)) ∙ ap value (sym is.joined),
  λ same. record {
    pieces = pieces;
    are = are;
    joined = refl;
    texts = map without_blanks (pieces.first ∷ pieces.continued);
    texts_are = are_texts (pieces.first ∷ pieces.continued);
    value_is = same ∙ ap (join_by (λ text. text) (codes " ")) (texts_are pieces (map without_blanks (pieces.first ∷ pieces.continued)) are (are_texts (pieces.first ∷ pieces.continued)));
  },
)

pub raw_has_one_value : RawHasOneValue
raw_has_one_value raw text is = (
  λ v. (value_of_pieces is.0 is.1 text).0 (subst (λ (x : List ℕ). IsLineValue x text) is.2 v) ∙ ap value (sym is.2),
  λ same. subst (λ (x : List ℕ). IsLineValue x text) (sym is.2) ((value_of_pieces is.0 is.1 text).1 (same ∙ ap value is.2)),
)
