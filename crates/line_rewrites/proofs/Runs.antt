-- Raw values read byte by byte: where CR and LF are, and that each CRLF is that of a fold.
use Rattle.std.proofs.Common.{◌≡◌, ◌⊎◌, ℕ, true, false, ◌==◌, Option, Some, None, List, [], ◌∷◌, ◌++◌, take, refl, sym, ap, ◌∙◌, inl, inr}
use Rattle.std.specs.Prelude.{if◌then◌else◌, reverse, codes}
use Rattle.std.specs.List.{flat_map, list_all}
use Rattle.std.specs.Str.{byte, bytes_eq}
use Rattle.std.proofs.lemmas.Bool.{and_parts, and_from, cases_Bool, eqb-true, false≢true}
use Rattle.std.proofs.lemmas.List.{reverse-append, reverse-reverse}
use Rattle.byte_grammar.specs.Classes.{is_blank, is_line_byte}
use Rattle.byte_grammar.specs.Language.{starts_in}
use Rattle.msg_head.specs.RawValues.{IsRaw, is_continuation, continuation_text}
use Rattle.msg_body.specs.Spacing.{ends_in, is_spacing}
use Rattle.line_rewrites.specs.tools.Computed.{is_crlf_before}

-- ---- the states of a reader

-- within a line, after CR, and after CRLF
pub data State : Type 0 where
  inside : State
  half : State
  ended : State

-- the state after the byte, where the byte may be there
abbrev pub next : Option State → ℕ → Option State
next None c = None
next (Some inside) c = if c == byte "\r" then Some half else if is_line_byte c then Some inside else None
next (Some half) c = if c == byte "\n" then Some ended else None
next (Some ended) c = if is_blank c then Some inside else None

-- the state after the bytes
abbrev pub runs : Option State → List ℕ → Option State
runs s [] = s
runs s (c ∷ rest) = runs (next s c) rest

-- each CR, and each LF, of the raw value is that of a fold, and there is no NUL
abbrev pub IsSoundRaw : List ℕ → Type 0
IsSoundRaw raw = runs (Some inside) raw ≡ Some inside

pub runs_joined : (s : Option State) (xs ys : List ℕ) → runs s (xs ++ ys) ≡ runs (runs s xs) ys
runs_joined s [] ys = refl
runs_joined s (x ∷ xs) ys = runs_joined (next s x) xs ys

pub runs_none : (xs : List ℕ) → runs None xs ≡ None
runs_none [] = refl
runs_none (x ∷ xs) = runs_none xs

-- ---- bytes of lines

is_not_cr : (c : ℕ) → is_line_byte c ≡ true → (c == 13) ≡ false
is_not_cr c line = elim (cases_Bool (c == 13)) [
  | inl e ↦ absurd (false≢true (sym (ap is_line_byte (eqb-true c 13 e)) ∙ line))
  | inr n ↦ n
]

pub next_line : (c : ℕ) → is_line_byte c ≡ true → next (Some inside) c ≡ Some inside
next_line c line = rw (is_not_cr c line, line) refl

pub runs_line : (xs : List ℕ) → list_all is_line_byte xs ≡ true → IsSoundRaw xs
runs_line [] all = refl
runs_line (x ∷ xs) all =
    let both = and_parts (is_line_byte x) (list_all is_line_byte xs) all in
    ap (λ s. runs s xs) (next_line x both.0) ∙ runs_line xs both.1

pub blank_line : (c : ℕ) → is_blank c ≡ true → is_line_byte c ≡ true
blank_line c is = elim (cases_Bool (c == 32)) [
  | inl e ↦ ap is_line_byte (eqb-true c 32 e)
  | inr n ↦ ap is_line_byte (eqb-true c 9 (rw n at is))
]

pub blanks_line : (xs : List ℕ) → list_all is_blank xs ≡ true → list_all is_line_byte xs ≡ true
blanks_line [] all = refl
blanks_line (x ∷ xs) all =
    let both = and_parts (is_blank x) (list_all is_blank xs) all in
    and_from (is_line_byte x) (list_all is_line_byte xs) (blank_line x both.0) (blanks_line xs both.1)

-- ---- raw values of messages

piece_runs : (piece : List ℕ) → is_continuation piece ≡ true → runs (Some ended) piece ≡ Some inside
piece_runs [] is = absurd (false≢true is)
piece_runs (c ∷ rest) is =
    let both = and_parts (is_blank c) (list_all is_line_byte (c ∷ rest)) is in
    let others = and_parts (is_line_byte c) (list_all is_line_byte rest) both.1 in
    rw both.0 (runs_line rest others.1)

pieces_run : (pieces : List (List ℕ)) → list_all is_continuation pieces ≡ true → IsSoundRaw (flat_map continuation_text pieces)
pieces_run [] all = refl
pieces_run (piece ∷ pieces) all =
    let both = and_parts (is_continuation piece) (list_all is_continuation pieces) all in
    runs_joined (Some ended) piece (flat_map continuation_text pieces)
    ∙ (ap (λ s. runs s (flat_map continuation_text pieces)) (piece_runs piece both.0) ∙ pieces_run pieces both.1)

pub raw_sound : (raw : List ℕ) → IsRaw raw → IsSoundRaw raw
raw_sound raw is =
    let pieces = is.0 in
    let both = and_parts (list_all is_line_byte pieces.first) (list_all is_continuation pieces.continued) is.1 in
    ap (runs (Some inside)) is.2
    ∙ (runs_joined (Some inside) pieces.first (flat_map continuation_text pieces.continued)
    ∙ (ap (λ s. runs s (flat_map continuation_text pieces.continued)) (runs_line pieces.first both.0) ∙ pieces_run pieces.continued both.1))

-- ---- bytes that are no spacing

-- such a byte comes within a line, which goes on after it
pub solid_next : (s : Option State) (c : ℕ) → is_spacing c ≡ false → (next s c ≡ None) ⊎ ((s ≡ Some inside) × (next s c ≡ Some inside))
solid_next None c solid = inl refl
solid_next (Some inside) c solid = elim (cases_Bool (c == 13)) [
  | inl e ↦ absurd (false≢true (sym solid ∙ ap is_spacing (eqb-true c 13 e)))
  | inr n ↦ elim (cases_Bool (is_line_byte c)) [
    | inl is ↦ inr (refl, rw (n, is) refl)
    | inr fails ↦ inl (rw (n, fails) refl)
  ]
]
solid_next (Some half) c solid = elim (cases_Bool (c == 10)) [
  | inl e ↦ absurd (false≢true (sym solid ∙ ap is_spacing (eqb-true c 10 e)))
  | inr n ↦ inl (rw n refl)
]
solid_next (Some ended) c solid = elim (cases_Bool (is_blank c)) [
  | inl is ↦ absurd (false≢true (sym solid ∙ rw is refl))
  | inr n ↦ inl (rw n refl)
]

-- a text that begins with one begins within a line
pub solid_begins : (s : Option State) (xs : List ℕ) (t : State) → starts_in is_spacing xs ≡ false → runs s xs ≡ Some t
    → (xs ≡ []) ⊎ (s ≡ Some inside)
solid_begins s [] t begins goes = inl refl
solid_begins s (c ∷ rest) t begins goes = elim (solid_next s c begins) [
  | inl none ↦ absurd (let gone = sym (ap (λ x. runs x rest) none ∙ runs_none rest) ∙ goes in cc)
  | inr both ↦ inr both.0
]

-- a text is empty, or has a last byte
abbrev HasLast : List ℕ → Type 0
HasLast xs = (xs ≡ []) ⊎ ((less : List ℕ) × (c : ℕ) × (xs ≡ less ++ c ∷ []) × (reverse xs ≡ c ∷ reverse less))

has_last : (xs : List ℕ) → HasLast xs
has_last xs = by (reverse xs) refl
  where
    by : (back : List ℕ) → reverse xs ≡ back → HasLast xs
    by [] is = inl (sym (reverse-reverse xs) ∙ ap reverse is)
    by (c ∷ back) is =
        let whole : xs ≡ reverse back ++ c ∷ [] = sym (reverse-reverse xs) ∙ ap reverse is ∙ reverse-append (c ∷ []) back in
        inr (reverse back, c, whole, is ∙ ap (λ t. c ∷ t) (sym (reverse-reverse back)))

-- a text that ends with one ends within a line
pub solid_ends : (s : Option State) (xs : List ℕ) (t : State) → ends_in is_spacing xs ≡ false → runs s xs ≡ Some t
    → (xs ≡ []) ⊎ (t ≡ inside)
solid_ends s xs t ends goes = elim (has_last xs) [
  | inl none ↦ inl none
  | inr last ↦
      let solid : is_spacing last.1 ≡ false = sym (ap (starts_in is_spacing) last.3) ∙ ends in
      let split : next (runs s last.0) last.1 ≡ Some t = sym (runs_joined s last.0 (last.1 ∷ [])) ∙ sym (ap (runs s) last.2) ∙ goes in
      elim (solid_next (runs s last.0) last.1 solid) [
        | inl none ↦ absurd (let gone = sym none ∙ split in cc)
        | inr both ↦ inr (let same = sym both.1 ∙ split in cc)
      ]
]

-- ---- where a fold may be

-- after CR is one that came within a line
half_next : (s : Option State) (c : ℕ) → next s c ≡ Some half → c ≡ 13
half_next None c is = absurd cc
half_next (Some inside) c is = elim (cases_Bool (c == 13)) [
  | inl e ↦ eqb-true c 13 e
  | inr n ↦ elim (cases_Bool (is_line_byte c)) [
    | inl line ↦ absurd (let e : Some inside ≡ Some half = rw (n, line) at is in cc)
    | inr fails ↦ absurd (let e : None ≡ Some half = rw (n, fails) at is in cc)
  ]
]
half_next (Some half) c is = elim (cases_Bool (c == 10)) [
  | inl e ↦ absurd (let e : Some ended ≡ Some half = rw e at is in cc)
  | inr n ↦ absurd (let e : None ≡ Some half = rw n at is in cc)
]
half_next (Some ended) c is = elim (cases_Bool (is_blank c)) [
  | inl e ↦ absurd (let e : Some inside ≡ Some half = rw e at is in cc)
  | inr n ↦ absurd (let e : None ≡ Some half = rw n at is in cc)
]

ended_next : (s : Option State) (c : ℕ) → next s c ≡ Some ended → (c ≡ 10) × (s ≡ Some half)
ended_next None c is = absurd cc
ended_next (Some inside) c is = elim (cases_Bool (c == 13)) [
  | inl e ↦ absurd (let e : Some half ≡ Some ended = rw e at is in cc)
  | inr n ↦ elim (cases_Bool (is_line_byte c)) [
    | inl line ↦ absurd (let e : Some inside ≡ Some ended = rw (n, line) at is in cc)
    | inr fails ↦ absurd (let e : None ≡ Some ended = rw (n, fails) at is in cc)
  ]
]
ended_next (Some half) c is = elim (cases_Bool (c == 10)) [
  | inl e ↦ (eqb-true c 10 e, refl)
  | inr n ↦ absurd (let e : None ≡ Some ended = rw n at is in cc)
]
ended_next (Some ended) c is = elim (cases_Bool (is_blank c)) [
  | inl e ↦ absurd (let e : Some inside ≡ Some ended = rw e at is in cc)
  | inr n ↦ absurd (let e : None ≡ Some ended = rw n at is in cc)
]

-- a text after which a blank has to come ends with CRLF
pub ended_is : (xs : List ℕ) → runs (Some inside) xs ≡ Some ended → is_crlf_before xs ≡ true
ended_is xs goes = elim (has_last xs) [
  | inl none ↦ absurd (let e : Some inside ≡ Some ended = sym (ap (runs (Some inside)) none) ∙ goes in cc)
  | inr last ↦
      let split : next (runs (Some inside) last.0) last.1 ≡ Some ended = sym (runs_joined (Some inside) last.0 (last.1 ∷ [])) ∙ sym (ap (runs (Some inside)) last.2) ∙ goes in
      let lf = ended_next (runs (Some inside) last.0) last.1 split in
      elim (has_last last.0) [
        | inl none ↦ absurd (let e : Some inside ≡ Some half = sym (ap (runs (Some inside)) none) ∙ lf.1 in cc)
        | inr other ↦
            let before : next (runs (Some inside) other.0) other.1 ≡ Some half = sym (runs_joined (Some inside) other.0 (other.1 ∷ [])) ∙ sym (ap (runs (Some inside)) other.2) ∙ lf.1 in
            let cr = half_next (runs (Some inside) other.0) other.1 before in
            let back : reverse xs ≡ 10 ∷ 13 ∷ reverse other.0 = last.3 ∙ (λ i. lf.0 i ∷ (other.3 ∙ (λ j. cr j ∷ reverse other.0)) i) in
            ap (λ t. bytes_eq (take 2 t) (codes "\n\r")) back
      ]
]

-- no text within a line ends with CRLF
pub not_inside : (xs : List ℕ) → runs (Some inside) xs ≡ Some inside → is_crlf_before xs ≡ false
not_inside xs goes = elim (cases_Bool (is_crlf_before xs)) [
  | inr fails ↦ fails
  | inl is ↦ absurd (elim (has_last xs) [
    | inl none ↦ false≢true (sym (ap is_crlf_before none) ∙ is)
    | inr last ↦
        let first : bytes_eq (take 2 (last.1 ∷ reverse last.0)) (codes "\n\r") ≡ true = sym (ap (λ t. bytes_eq (take 2 t) (codes "\n\r")) last.3) ∙ is in
        let lf : last.1 ≡ 10 = eqb-true last.1 10 (and_parts (last.1 == 10) (bytes_eq (take 1 (reverse last.0)) (codes "\r")) first).0 in
        let split : next (runs (Some inside) last.0) last.1 ≡ Some inside = sym (runs_joined (Some inside) last.0 (last.1 ∷ [])) ∙ sym (ap (runs (Some inside)) last.2) ∙ goes in
        no_lf (runs (Some inside) last.0) (sym (ap (next (runs (Some inside) last.0)) lf) ∙ split)
  ])
]
  where
    no_lf : (s : Option State) → next s 10 ≡ Some inside → ⊥
    no_lf None is = cc
    no_lf (Some inside) is = cc
    no_lf (Some half) is = cc
    no_lf (Some ended) is = cc
