-- Lists of field lines, cut at the first line of a name.
use Rattle.std.proofs.Common.{◌≡◌, ◌⊎◌, ℕ, true, false, List, [], ◌∷◌, ◌++◌, get_or, drop, refl, sym, ◌∙◌, ap, inl, inr}
use Rattle.std.specs.Prelude.{IsFalse}
use Rattle.std.proofs.lemmas.Bool.{cases_Bool, false≢true}
use Rattle.std.proofs.lemmas.Slice.Eq.{bytes_eq-Decides}
use Rattle.msg_head.specs.Lines.{FieldLine}
use Rattle.msg_head.specs.Names.{has_name}
use Rattle.msg_head.specs.Values.{is_there}
use Rattle.msg_body.specs.SameFields.{name_of}

-- ---- names

pub name_is : (name : List ℕ) (line : FieldLine) → has_name name line ≡ true → name_of line ≡ name
name_is name line is = (bytes_eq-Decides (name_of line) name).0 is

pub is_named : (name : List ℕ) (line : FieldLine) → name_of line ≡ name → has_name name line ≡ true
is_named name line named = (bytes_eq-Decides (name_of line) name).1 named

-- a line of the name is there
pub there_at : (name : List ℕ) (before after : List FieldLine) (line : FieldLine) → name_of line ≡ name → is_there (before ++ line ∷ after) name ≡ true
there_at name [] after line named = rw (is_named name line named) refl
there_at name (x ∷ before) after line named = elim (cases_Bool (has_name name x)) [
  | inl is ↦ rw is refl
  | inr none ↦ rw none (there_at name before after line named)
]

-- ---- the first line of a name

pub record FirstLine (name : List ℕ) (lines : List FieldLine) : Type 0 where
  pub before : List FieldLine
  pub line : FieldLine
  pub after : List FieldLine
  pub lines_are : lines ≡ before ++ line ∷ after
  pub named : name_of line ≡ name
  pub none_before : IsFalse (is_there before name)

pub first_or_none : (name : List ℕ) (lines : List FieldLine) → FirstLine name lines ⊎ IsFalse (is_there lines name)
first_or_none name [] = inr refl
first_or_none name (line ∷ lines) = elim (cases_Bool (has_name name line)) [
  | inl is ↦ inl (record { before = []; line = line; after = lines; lines_are = refl; named = name_is name line is; none_before = refl })
  | inr none ↦ elim (first_or_none name lines) [
    | inl found ↦ inl (record {
      before = line ∷ found.before;
      line = found.line;
      after = found.after;
      lines_are = ap (λ (ls : List FieldLine). line ∷ ls) found.lines_are;
      named = found.named;
      none_before = rw none found.none_before;
    })
    | inr nowhere ↦ inr (rw none nowhere)
  ]
]

-- no first line, where none has the name
pub none_first : (name : List ℕ) (lines : List FieldLine) → IsFalse (is_there lines name) → FirstLine name lines → ⊥
none_first name lines none is =
    false≢true (sym none ∙ (ap (λ (ls : List FieldLine). is_there ls name) is.lines_are ∙ there_at name is.before is.after is.line is.named))

-- a name that the first of the lines has
named_first : (name : List ℕ) (line : FieldLine) (lines : List FieldLine) → name_of line ≡ name → is_there (line ∷ lines) name ≡ false → ⊥
named_first name line lines named none = false≢true (sym none ∙ there_at name [] lines line named)

rest_none : (name : List ℕ) (line : FieldLine) (lines : List FieldLine) → is_there (line ∷ lines) name ≡ false → is_there lines name ≡ false
rest_none name line lines none = elim (cases_Bool (has_name name line)) [
  | inl is ↦ absurd (named_first name line lines (name_is name line is) none)
  | inr not ↦ rw not at none
]

-- there is one
pub first_parts : (name : List ℕ) (xs : List FieldLine) (x : FieldLine) (ys us : List FieldLine) (u : FieldLine) (vs : List FieldLine) → xs ++ x ∷ ys ≡ us ++ u ∷ vs → name_of x ≡ name → name_of u ≡ name
    → is_there xs name ≡ false → is_there us name ≡ false → (xs ≡ us) × (x ≡ u) × (ys ≡ vs)
first_parts name [] x ys [] u vs same a b none none_too = (refl, ap (λ (l : List FieldLine). get_or l 0 x) same, ap (drop 1) same)
first_parts name [] x ys (w ∷ us) u vs same a b none none_too =
    let first : x ≡ w = ap (λ (l : List FieldLine). get_or l 0 x) same in
    absurd (named_first name w us (ap name_of (sym first) ∙ a) none_too)
first_parts name (w ∷ xs) x ys [] u vs same a b none none_too =
    let first : w ≡ u = ap (λ (l : List FieldLine). get_or l 0 w) same in
    absurd (named_first name w xs (ap name_of first ∙ b) none)
first_parts name (w ∷ xs) x ys (z ∷ us) u vs same a b none none_too =
    let first : w ≡ z = ap (λ (l : List FieldLine). get_or l 0 w) same in
    let rest = first_parts name xs x ys us u vs (ap (drop 1) same) a b (rest_none name w xs none) (rest_none name z us none_too) in
    (λ i. first i ∷ rest.0 i, rest.1, rest.2)

pub one_first : (name : List ℕ) (lines : List FieldLine) (one other : FirstLine name lines) → (one.before ≡ other.before) × (one.line ≡ other.line) × (one.after ≡ other.after)
one_first name lines one other =
    first_parts name one.before one.line one.after other.before other.line other.after (sym one.lines_are ∙ other.lines_are) one.named other.named one.none_before other.none_before
