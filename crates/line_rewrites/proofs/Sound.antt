-- Lines whose names are tokens and whose raw values have no CR or LF but those of folds. Two texts of such lines are one only where the lines are.
use Rattle.std.proofs.Common.{◌≡◌, ◌⊎◌, ℕ, zero, suc, Bool, true, false, ◌==◌, not, nat_lt, Option, Some, None, List, [], ◌∷◌, ◌++◌, length, take, drop, refl, sym, ap, ◌∙◌, inl, inr, append_assoc}
use Rattle.std.specs.Prelude.{⊤, map, codes, reverse}
use Rattle.std.specs.List.{All, list_all, slice_split}
use Rattle.std.specs.Str.{byte}
use Rattle.std.proofs.lemmas.Bool.{and_parts, and_from, cases_Bool, eqb-true, false≢true}
use Rattle.std.proofs.lemmas.List.Elements.{All-head, All-tail}
use Rattle.byte_grammar.specs.Classes.{is_blank, is_line_byte, is_tchar, is_token}
use Rattle.byte_grammar.specs.Language.{starts_in}
use Rattle.byte_grammar.proofs.ListLaws.{all_filter, all_reverse, all_separated, all_split}
use Rattle.msg_head.specs.Lines.{FieldLine, IsLine, line_text}
use Rattle.msg_head.specs.Values.{has_bytes, is_end, texts_of, value, without_blanks, without_first_blanks}
use Rattle.line_rewrites.specs.LineLists.{line_of}
use Rattle.line_rewrites.specs.Sides.{lines_text}
use Rattle.line_rewrites.proofs.Runs.{IsSoundRaw, State, inside, half, ended, next, raw_sound, runs, runs_line, runs_none}

-- ---- sound lines

pub record IsSound (line : FieldLine) : Type 0 where
  pub name : is_token line.name ≡ true
  pub raw : IsSoundRaw line.raw

abbrev pub AreSound : List FieldLine → Type 0
AreSound [] = ⊤
AreSound (line ∷ lines) = IsSound line × AreSound lines

pub line_sound : (line : FieldLine) → IsLine line → IsSound line
line_sound line is = record { name = is.name; raw = raw_sound line.raw is.raw }

pub lines_sound : (lines : List FieldLine) → All IsLine lines → AreSound lines
lines_sound [] each = tt
lines_sound (line ∷ lines) each = (line_sound line (All-head IsLine line lines each), lines_sound lines (All-tail IsLine line lines each))

pub sound_joined : (xs ys : List FieldLine) → AreSound xs → AreSound ys → AreSound (xs ++ ys)
sound_joined [] ys a b = b
sound_joined (x ∷ xs) ys a b = (a.0, sound_joined xs ys a.1 b)

pub sound_parts : (xs ys : List FieldLine) → AreSound (xs ++ ys) → AreSound xs × AreSound ys
sound_parts [] ys a = (tt, a)
sound_parts (x ∷ xs) ys a = let others = sound_parts xs ys a.1 in ((a.0, others.0), others.1)

pub sound_taken : (i : ℕ) (lines : List FieldLine) → AreSound lines → AreSound (take i lines)
sound_taken zero lines a = tt
sound_taken (suc i) [] a = tt
sound_taken (suc i) (line ∷ lines) a = (a.0, sound_taken i lines a.1)

pub sound_left : (i : ℕ) (lines : List FieldLine) → AreSound lines → AreSound (drop i lines)
sound_left zero lines a = a
sound_left (suc i) [] a = tt
sound_left (suc i) (line ∷ lines) a = sound_left i lines a.1

-- ---- the bytes of values

-- any byte but NUL
abbrev pub is_some_byte : ℕ → Bool
is_some_byte c = not (byte "\0" == c)

some_next : (s : Option State) (c : ℕ) (t : State) → next s c ≡ Some t → is_some_byte c ≡ true
some_next s c t goes = elim (cases_Bool (0 == c)) [
  | inr fails ↦ rw fails refl
  | inl is ↦ absurd (no_nul s (ap (next s) (eqb-true 0 c is) ∙ goes))
]
  where
    no_nul : (s : Option State) → next s 0 ≡ Some t → ⊥
    no_nul None e = cc
    no_nul (Some inside) e = cc
    no_nul (Some half) e = cc
    no_nul (Some ended) e = cc

pub some_bytes : (s : Option State) (xs : List ℕ) (t : State) → runs s xs ≡ Some t → list_all is_some_byte xs ≡ true
some_bytes s [] t goes = refl
some_bytes s (c ∷ rest) t goes =
    and_from (is_some_byte c) (list_all is_some_byte rest) (by (next s c) refl goes) (some_bytes (next s c) rest t goes)
  where
    by : (o : Option State) → next s c ≡ o → runs o rest ≡ Some t → is_some_byte c ≡ true
    by None is f = absurd (let e = sym (runs_none rest) ∙ f in cc)
    by (Some u) is f = some_next s c u is

line_byte : (c : ℕ) → is_some_byte c ≡ true → is_end c ≡ false → is_line_byte c ≡ true
line_byte c some no_end = elim (cases_Bool (0 == c)) [
  | inl nul ↦ absurd (let e : false ≡ true = rw nul at some in cc)
  | inr fails ↦ elim (cases_Bool (13 == c)) [
    | inl cr ↦ absurd (false≢true (sym no_end ∙ sym (ap is_end (eqb-true 13 c cr))))
    | inr no_cr ↦ elim (cases_Bool (10 == c)) [
      | inl lf ↦ absurd (false≢true (sym no_end ∙ sym (ap is_end (eqb-true 10 c lf))))
      | inr no_lf ↦ rw (fails, no_cr, no_lf) refl
    ]
  ]
]

first_blanks_gone : (p : ℕ → Bool) (text : List ℕ) → list_all p text ≡ true → list_all p (without_first_blanks text) ≡ true
first_blanks_gone p [] all = refl
first_blanks_gone p (c ∷ rest) all =
    let both = and_parts (p c) (list_all p rest) all in elim (cases_Bool (is_blank c)) [
      | inl is ↦ rw is (first_blanks_gone p rest both.1)
      | inr fails ↦ rw fails all
    ]

blanks_gone : (p : ℕ → Bool) (text : List ℕ) → list_all p text ≡ true → list_all p (without_blanks text) ≡ true
blanks_gone p text all =
    all_reverse p (without_first_blanks (reverse (without_first_blanks text)))
    (first_blanks_gone p (reverse (without_first_blanks text)) (all_reverse p (without_first_blanks text) (first_blanks_gone p text all)))

pieces_gone : (p : ℕ → Bool) (pieces : List (List ℕ)) → list_all (list_all p) pieces ≡ true → list_all (list_all p) (map without_blanks pieces) ≡ true
pieces_gone p [] all = refl
pieces_gone p (piece ∷ pieces) all =
    let both = and_parts (list_all p piece) (list_all (list_all p) pieces) all in
    and_from (list_all p (without_blanks piece)) (list_all (list_all p) (map without_blanks pieces)) (blanks_gone p piece both.0) (pieces_gone p pieces both.1)

-- a value is bytes of lines, where no NUL is in the raw value
pub value_line : (raw : List ℕ) → list_all is_some_byte raw ≡ true → list_all is_line_byte (value raw) ≡ true
value_line raw some =
    let pieces = all_split is_line_byte is_end is_some_byte line_byte raw some in
    let texts = all_filter (list_all is_line_byte) has_bytes (map without_blanks (slice_split is_end raw)) (pieces_gone is_line_byte (slice_split is_end raw) pieces) in
    all_separated is_line_byte (λ text. text) (codes " ") (list_all is_line_byte) refl (λ text is. is) (texts_of raw) texts

-- the line of a text with bytes of lines alone
pub text_sound : (name text : List ℕ) → is_token name ≡ true → list_all is_line_byte text ≡ true → IsSound (line_of name text)
text_sound name text token line = record { name = token; raw = runs_line (byte " " ∷ text) line }

-- ---- one way to cut

names_one : (one other more rest : List ℕ) → list_all is_tchar one ≡ true → list_all is_tchar other ≡ true → one ++ byte ":" ∷ more ≡ other ++ byte ":" ∷ rest → (one ≡ other) × (more ≡ rest)
names_one [] [] more rest a b e = (refl, ap (drop 1) e)
names_one [] (y ∷ ys) more rest a b e =
    let first : 58 ≡ y = cc in
    absurd (false≢true (ap is_tchar first ∙ (and_parts (is_tchar y) (list_all is_tchar ys) b).0))
names_one (x ∷ xs) [] more rest a b e =
    let first : 58 ≡ x = cc in
    absurd (false≢true (ap is_tchar first ∙ (and_parts (is_tchar x) (list_all is_tchar xs) a).0))
names_one (x ∷ xs) (y ∷ ys) more rest a b e =
    let first : x ≡ y = cc in
    let others = names_one xs ys more rest (and_parts (is_tchar x) (list_all is_tchar xs) a).1 (and_parts (is_tchar y) (list_all is_tchar ys) b).1 (ap (drop 1) e) in
    (λ i. first i ∷ others.0 i, others.1)

-- CRLF in a raw value has a blank after it
fold_next : (y rest : List ℕ) (more : List ℕ) → runs (Some inside) y ≡ Some inside → starts_in is_blank more ≡ false → codes "\r\n" ++ more ≡ y ++ rest → (y ≡ []) ⊎ ⊥
fold_next [] rest more goes none e = inl refl
fold_next (c ∷ []) rest more goes none e =
    let cr : 13 ≡ c = cc in absurd (let f : Some half ≡ Some inside = ap (next (Some inside)) cr ∙ goes in cc)
fold_next (c ∷ d ∷ []) rest more goes none e =
    let cr : 13 ≡ c = cc in
    let lf : 10 ≡ d = cc in
    absurd (let f : Some ended ≡ Some inside = (λ i. next (next (Some inside) (cr i)) (lf i)) ∙ goes in cc)
fold_next (c ∷ d ∷ b ∷ y) rest more goes none e =
    let cr : 13 ≡ c = cc in
    let lf : 10 ≡ d = cc in
    let after : more ≡ b ∷ (y ++ rest) = ap (drop 2) e in
    let no_blank : is_blank b ≡ false = sym (ap (starts_in is_blank) after) ∙ none in
    let f : runs (next (Some ended) b) y ≡ Some inside = (λ i. runs (next (next (next (Some inside) (cr i)) (lf i)) b) y) ∙ goes in
    absurd (let g : runs None y ≡ Some inside = rw no_blank at f in let h = sym (runs_none y) ∙ g in cc)

pub raws_one : (s : Option State) (one other more rest : List ℕ) → runs s one ≡ Some inside → runs s other ≡ Some inside → starts_in is_blank more ≡ false → starts_in is_blank rest ≡ false
    → one ++ (codes "\r\n" ++ more) ≡ other ++ (codes "\r\n" ++ rest) → (one ≡ other) × (more ≡ rest)
raws_one s [] other more rest a b none none_too e =
    elim (fold_next other (codes "\r\n" ++ rest) more (ap (λ x. runs x other) (sym a) ∙ b) none e) [
      | inr bad ↦ absurd bad
      | inl empty ↦ (sym empty, ap (drop 2) (e ∙ ap (λ t. t ++ (codes "\r\n" ++ rest)) empty))
    ]
raws_one s (x ∷ xs) [] more rest a b none none_too e =
    elim (fold_next (x ∷ xs) (codes "\r\n" ++ more) rest (ap (λ o. runs o (x ∷ xs)) (sym b) ∙ a) none_too (sym e)) [
      | inr bad ↦ absurd bad
      | inl empty ↦ absurd cc
    ]
raws_one s (x ∷ xs) (y ∷ ys) more rest a b none none_too e =
    let first : x ≡ y = cc in
    let others = raws_one (next s x) xs ys more rest a (ap (λ c. runs (next s c) ys) first ∙ b) none none_too (ap (drop 1) e) in
    (λ i. first i ∷ others.0 i, others.1)

-- ---- lists of lines

tchar_no_blank : (c : ℕ) → is_tchar c ≡ true → is_blank c ≡ false
tchar_no_blank c token = elim (cases_Bool (is_blank c)) [
  | inr fails ↦ fails
  | inl is ↦ elim (cases_Bool (c == 32)) [
    | inl sp ↦ absurd (false≢true (sym (ap is_tchar (eqb-true c 32 sp)) ∙ token))
    | inr n ↦ absurd (false≢true (sym (ap is_tchar (eqb-true c 9 (rw n at is))) ∙ token))
  ]
]

-- the lines, and an empty line
abbrev ended_text : List FieldLine → List ℕ → List ℕ
ended_text lines more = lines_text lines ++ (codes "\r\n" ++ more)

abbrev after_name : FieldLine → List FieldLine → List ℕ → List ℕ
after_name line lines more = line.raw ++ (codes "\r\n" ++ ended_text lines more)

opened : (line : FieldLine) (lines : List FieldLine) (more : List ℕ) → ended_text (line ∷ lines) more ≡ line.name ++ byte ":" ∷ after_name line lines more
opened line lines more =
    append_assoc (line_text line) (lines_text lines) (codes "\r\n" ++ more)
    ∙ (append_assoc line.name (byte ":" ∷ (line.raw ++ codes "\r\n")) (ended_text lines more)
    ∙ ap (λ t. line.name ++ byte ":" ∷ t) (append_assoc line.raw (codes "\r\n") (ended_text lines more)))

pub no_blank_first : (lines : List FieldLine) (more : List ℕ) → AreSound lines → starts_in is_blank (ended_text lines more) ≡ false
no_blank_first [] more sound = refl
no_blank_first (line ∷ lines) more sound = by line.name sound.0.name (opened line lines more)
  where
    by : (name : List ℕ) → is_token name ≡ true → ended_text (line ∷ lines) more ≡ name ++ byte ":" ∷ after_name line lines more → starts_in is_blank (ended_text (line ∷ lines) more) ≡ false
    by [] token is = absurd (false≢true token)
    by (c ∷ cs) token is =
        ap (starts_in is_blank) is
        ∙ tchar_no_blank c (and_parts (is_tchar c) (list_all is_tchar cs) (and_parts (nat_lt 0 (length (c ∷ cs))) (list_all is_tchar (c ∷ cs)) token).1).0

-- an empty line is the text of no line
none_first : (line : FieldLine) (lines : List FieldLine) (more rest : List ℕ) → IsSound line → codes "\r\n" ++ more ≡ ended_text (line ∷ lines) rest → ⊥
none_first line lines more rest sound e = by line.name sound.name (e ∙ opened line lines rest)
  where
    by : (name : List ℕ) → is_token name ≡ true → codes "\r\n" ++ more ≡ name ++ byte ":" ∷ after_name line lines rest → ⊥
    by [] token f = false≢true token
    by (c ∷ cs) token f =
        let first : 13 ≡ c = cc in
        false≢true (ap is_tchar first ∙ (and_parts (is_tchar c) (list_all is_tchar cs) (and_parts (nat_lt 0 (length (c ∷ cs))) (list_all is_tchar (c ∷ cs)) token).1).0)

pub lines_one : (one other : List FieldLine) (more rest : List ℕ) → AreSound one → AreSound other → lines_text one ++ (codes "\r\n" ++ more) ≡ lines_text other ++ (codes "\r\n" ++ rest)
    → (one ≡ other) × (more ≡ rest)
lines_one [] [] more rest a b e = (refl, ap (drop 2) e)
lines_one [] (m ∷ ms) more rest a b e = absurd (none_first m ms more rest b.0 e)
lines_one (l ∷ ls) [] more rest a b e = absurd (none_first l ls rest more a.0 (sym e))
lines_one (l ∷ ls) (m ∷ ms) more rest a b e =
    let names = names_one l.name m.name (after_name l ls more) (after_name m ms rest)
    (and_parts (nat_lt 0 (length l.name)) (list_all is_tchar l.name) a.0.name).1 (and_parts (nat_lt 0 (length m.name)) (list_all is_tchar m.name) b.0.name).1
    (sym (opened l ls more) ∙ (e ∙ opened m ms rest)) in
    let raws = raws_one (Some inside) l.raw m.raw (ended_text ls more) (ended_text ms rest) a.0.raw b.0.raw (no_blank_first ls more a.1) (no_blank_first ms rest b.1) names.1 in
    let others = lines_one ls ms more rest a.1 b.1 raws.1 in
    (λ i. record { name = names.0 i; raw = raws.0 i } ∷ others.0 i, others.1)
