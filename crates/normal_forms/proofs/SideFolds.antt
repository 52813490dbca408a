-- Folds of raw values, taken away from the first to the last.
use Rattle.std.proofs.Common.{◌≡◌, ◌⊎◌, ℕ, ◌+◌, ◌<◌, Bool, true, false, ◌==◌, ◌||◌, Option, Some, None, List, [], ◌∷◌, ◌++◌, length, take, drop, refl, sym, subst, ap, ◌∙◌, inl, inr, append_assoc, append-nil, length-append, arith}
use Rattle.std.specs.Prelude.{if◌then◌else◌, codes, position, reverse}
use Rattle.std.specs.List.{flat_map, list_all, list_any}
use Rattle.std.specs.Str.{byte, str_to_ascii_lowercase}
use Rattle.std.proofs.lemmas.Bool.{and_parts, and_from, cases_Bool, eqb-true, false≢true}
use Rattle.std.proofs.lemmas.List.{reverse-append, reverse-reverse}
use Rattle.std.proofs.lemmas.List.Quantifiers.{position-Some}
use Rattle.byte_grammar.specs.Classes.{is_blank, is_line_byte}
use Rattle.byte_grammar.specs.Language.{starts_in}
use Rattle.byte_grammar.proofs.ListLaws.{all_joined, all_parts, all_reverse}
use Rattle.msg_body.specs.Spacing.{ends_in, is_spacing}
use Rattle.msg_body.proofs.ValueLaws.{takes_fold_for_space}
use Rattle.line_rewrites.specs.RawValues.{without_first_spacing, without_last_spacing}
use Rattle.msg_head.specs.RawValues.{IsRaw, is_continuation, continuation_text}
use Rattle.msg_head.specs.Lines.{FieldLine}
use Rattle.msg_head.specs.Values.{is_end, value}
use Rattle.msg_head.specs.declared.error.Side.{Side}
use Rattle.rewrite_script.specs.declared.rewrite.LineRewrite.TheVariants.{Unfold}
use Rattle.rewrite_script.specs.declared.rewrite.Rewrite.{Rewrite}
use Rattle.rewrite_script.specs.declared.rewrite.Rewrite.TheVariants.{Lines}
use Rattle.normal_forms.specs.tools.Lines.{CleansLine, is_return}
use Rattle.normal_forms.specs.tools.Sides.{Leads, UnfoldsAll, UnfoldsUpTo}
use Rattle.normal_forms.proofs.SideJoined.{at_position, cut_at, element_of, position_none}
use Rattle.normal_forms.proofs.SideSteps.{drop_next, leads_more, leads_none}

-- ---- raw values read byte by byte: within a line, after CR, and after CRLF

pub data State : Type 0 where
  inside : State
  half : State
  ended : State

-- the state after the byte, where the byte may be there
abbrev pub next : Option State → ℕ → Option State
next None c = None
next (Some inside) c = if c == byte "\r" then Some half else if is_line_byte c then Some inside else None
next (Some half) c = if c == byte "\n" then Some ended else None
next (Some ended) c = if is_blank c then Some inside else None

-- the state after the bytes
abbrev pub runs : Option State → List ℕ → Option State
runs s [] = s
runs s (c ∷ rest) = runs (next s c) rest

-- each CR, and each LF, of the raw value is that of a fold, and there is no NUL
abbrev pub IsSound : List ℕ → Type 0
IsSound raw = runs (Some inside) raw ≡ Some inside

runs_joined : (s : Option State) (xs ys : List ℕ) → runs s (xs ++ ys) ≡ runs (runs s xs) ys
runs_joined s [] ys = refl
runs_joined s (x ∷ xs) ys = runs_joined (next s x) xs ys

runs_none : (xs : List ℕ) → runs None xs ≡ None
runs_none [] = refl
runs_none (x ∷ xs) = runs_none xs

is_not_cr : (c : ℕ) → is_line_byte c ≡ true → (c == 13) ≡ false
is_not_cr c line = elim (cases_Bool (c == 13)) [
  | inl e ↦ absurd (false≢true (sym (ap is_line_byte (eqb-true c 13 e)) ∙ line))
  | inr n ↦ n
]

next_line : (c : ℕ) → is_line_byte c ≡ true → next (Some inside) c ≡ Some inside
next_line c line = rw (is_not_cr c line, line) refl

runs_line : (xs : List ℕ) → list_all is_line_byte xs ≡ true → IsSound xs
runs_line [] all = refl
runs_line (x ∷ xs) all =
    let both = and_parts (is_line_byte x) (list_all is_line_byte xs) all in
    ap (λ s. runs s xs) (next_line x both.0) ∙ runs_line xs both.1

piece_runs : (piece : List ℕ) → is_continuation piece ≡ true → runs (Some ended) piece ≡ Some inside
piece_runs [] is = absurd (false≢true is)
piece_runs (c ∷ rest) is =
    let both = and_parts (is_blank c) (list_all is_line_byte (c ∷ rest)) is in
    let others = and_parts (is_line_byte c) (list_all is_line_byte rest) both.1 in
    rw both.0 (runs_line rest others.1)

pieces_run : (pieces : List (List ℕ)) → list_all is_continuation pieces ≡ true → IsSound (flat_map continuation_text pieces)
pieces_run [] all = refl
pieces_run (piece ∷ pieces) all =
    let both = and_parts (is_continuation piece) (list_all is_continuation pieces) all in
    runs_joined (Some ended) piece (flat_map continuation_text pieces)
    ∙ (ap (λ s. runs s (flat_map continuation_text pieces)) (piece_runs piece both.0) ∙ pieces_run pieces both.1)

pub raw_sound : (raw : List ℕ) → IsRaw raw → IsSound raw
raw_sound raw is =
    let pieces = is.0 in
    let both = and_parts (list_all is_line_byte pieces.first) (list_all is_continuation pieces.continued) is.1 in
    ap (runs (Some inside)) is.2
    ∙ (runs_joined (Some inside) pieces.first (flat_map continuation_text pieces.continued)
    ∙ (ap (λ s. runs s (flat_map continuation_text pieces.continued)) (runs_line pieces.first both.0) ∙ pieces_run pieces.continued both.1))

-- a byte that is no spacing comes within a line
solid_next : (s : Option State) (c : ℕ) → is_spacing c ≡ false → (next s c ≡ None) ⊎ (s ≡ Some inside)
solid_next None c solid = inl refl
solid_next (Some inside) c solid = inr refl
solid_next (Some half) c solid = elim (cases_Bool (c == 10)) [
  | inl e ↦ absurd (false≢true (sym solid ∙ ap is_spacing (eqb-true c 10 e)))
  | inr n ↦ inl (rw n refl)
]
solid_next (Some ended) c solid = elim (cases_Bool (is_blank c)) [
  | inl is ↦ absurd (false≢true (sym solid ∙ rw is refl))
  | inr n ↦ inl (rw n refl)
]

-- what begins with none is sound by itself, where something sound ends with it
solid_sound : (s : Option State) (xs : List ℕ) → starts_in is_spacing xs ≡ false → runs s xs ≡ Some inside → IsSound xs
solid_sound s [] begins goes = refl
solid_sound s (c ∷ rest) begins goes = elim (solid_next s c begins) [
  | inl none ↦ absurd (let gone = sym (ap (λ x. runs x rest) none ∙ runs_none rest) ∙ goes in cc)
  | inr start ↦ sym (ap (λ x. runs x (c ∷ rest)) start) ∙ goes
]

-- CR comes within a line alone
cr_inside : (s : Option State) (rest : List ℕ) → runs s (13 ∷ rest) ≡ Some inside → s ≡ Some inside
cr_inside None rest goes = absurd (let e = sym (runs_none rest) ∙ goes in cc)
cr_inside (Some inside) rest goes = refl
cr_inside (Some half) rest goes = absurd (let e = sym (runs_none rest) ∙ goes in cc)
cr_inside (Some ended) rest goes = absurd (let e = sym (runs_none rest) ∙ goes in cc)

-- after it comes LF
half_ends : (more : List ℕ) → runs (Some half) more ≡ Some inside → (tail : List ℕ) × (more ≡ 10 ∷ tail) × (runs (Some ended) tail ≡ Some inside)
half_ends [] goes = absurd cc
half_ends (c ∷ rest) goes = elim (cases_Bool (c == 10)) [
  | inl e ↦ let one : next (Some half) c ≡ Some ended = rw e refl in (rest, ap (λ d. d ∷ rest) (eqb-true c 10 e), sym (ap (λ s. runs s rest) one) ∙ goes)
  | inr n ↦ absurd (let gone : next (Some half) c ≡ None = rw n refl in let e = sym (ap (λ s. runs s rest) gone ∙ runs_none rest) ∙ goes in cc)
]

-- where no CR is, all are bytes of a line
plain_line : (xs : List ℕ) (s : State) → list_any is_return xs ≡ false → runs (Some inside) xs ≡ Some s → list_all is_line_byte xs ≡ true
plain_line [] s none goes = refl
plain_line (c ∷ rest) s none goes =
    let parts = neither (is_return c) (list_any is_return rest) none in
    elim (cases_Bool (is_line_byte c)) [
      | inl is ↦ and_from (is_line_byte c) (list_all is_line_byte rest) is (plain_line rest s parts.1 (sym (ap (λ t. runs t rest) (next_line c is)) ∙ goes))
      | inr fails ↦ absurd (let gone : next (Some inside) c ≡ None = rw (parts.0, fails) refl in let e = sym (ap (λ t. runs t rest) gone ∙ runs_none rest) ∙ goes in cc)
    ]
  where
    neither : (a b : Bool) → (a || b) ≡ false → (a ≡ false) × (b ≡ false)
    neither true b is = absurd (false≢true (sym is))
    neither false b is = (refl, is)

-- what is around the first CR
record FoldHere (front more : List ℕ) : Type 0 where
  pub tail : List ℕ
  pub more_is : more ≡ 10 ∷ tail
  pub goes : runs (Some ended) tail ≡ Some inside
  pub line : list_all is_line_byte front ≡ true

fold_here : (front more : List ℕ) → list_any is_return front ≡ false → IsSound (front ++ 13 ∷ more) → FoldHere front more
fold_here front more none sound =
    let goes = sym (runs_joined (Some inside) front (13 ∷ more)) ∙ sound in
    let within = cr_inside (runs (Some inside) front) more goes in
    let after : runs (Some half) more ≡ Some inside = ap (λ s. runs s (13 ∷ more)) (sym within) ∙ goes in
    let end = half_ends more after in
    record { tail = end.0; more_is = end.1; goes = end.2; line = plain_line front inside none within }

-- ---- spacing at the ends

-- the text is spacing and what is left without it
record FirstCut (text : List ℕ) : Type 0 where
  pub first : List ℕ
  pub spacing : list_all is_spacing first ≡ true
  pub joined : text ≡ first ++ without_first_spacing text
  pub begins : starts_in is_spacing (without_first_spacing text) ≡ false

first_cut : (text : List ℕ) → FirstCut text
first_cut [] = record { first = []; spacing = refl; joined = refl; begins = refl }
first_cut (c ∷ rest) = elim (cases_Bool (is_spacing c)) [
  | inl is ↦
      let others = first_cut rest in
      record {
        first = c ∷ others.first;
        spacing = and_from (is_spacing c) (list_all is_spacing others.first) is others.spacing;
        joined = rw is (ap (λ t. c ∷ t) others.joined);
        begins = rw is others.begins;
      }
  | inr fails ↦ record { first = []; spacing = refl; joined = rw fails refl; begins = rw fails fails }
]

-- the text is what is left without spacing, and spacing
record LastCut (text : List ℕ) : Type 0 where
  pub last : List ℕ
  pub spacing : list_all is_spacing last ≡ true
  pub joined : text ≡ without_last_spacing text ++ last
  pub ends : ends_in is_spacing (without_last_spacing text) ≡ false

last_cut : (text : List ℕ) → LastCut text
last_cut text =
    let back = first_cut (reverse text) in
    let rest = without_first_spacing (reverse text) in
    record {
      last = reverse back.first;
      spacing = all_reverse is_spacing back.first back.spacing;
      joined = sym (reverse-reverse text) ∙ (ap reverse back.joined ∙ reverse-append back.first rest);
      ends = ap (starts_in is_spacing) (reverse-reverse rest) ∙ back.begins;
    }

-- ---- ends of texts

starts_first : (p : ℕ → Bool) (xs : List ℕ) (y : ℕ) (zs : List ℕ) → starts_in p ((xs ++ y ∷ []) ++ zs) ≡ starts_in p (xs ++ y ∷ [])
starts_first p [] y zs = refl
starts_first p (x ∷ xs) y zs = refl

starts_all : (p : ℕ → Bool) (xs : List ℕ) (y : ℕ) → list_all p (xs ++ y ∷ []) ≡ true → starts_in p (xs ++ y ∷ []) ≡ true
starts_all p [] y all = (and_parts (p y) true all).0
starts_all p (x ∷ xs) y all = (and_parts (p x) (list_all p (xs ++ y ∷ [])) all).0

-- the end of a text is that of its last part
ends_after : (p : ℕ → Bool) (xs : List ℕ) (y : ℕ) (ys : List ℕ) → ends_in p (xs ++ y ∷ ys) ≡ ends_in p (y ∷ ys)
ends_after p xs y ys =
    ap (starts_in p) (reverse-append xs (y ∷ ys))
    ∙ (ap (λ t. starts_in p (t ++ reverse xs)) (reverse-append (y ∷ []) ys)
    ∙ (starts_first p (reverse ys) y (reverse xs) ∙ sym (ap (starts_in p) (reverse-append (y ∷ []) ys))))

ends_all : (p : ℕ → Bool) (y : ℕ) (ys : List ℕ) → list_all p (y ∷ ys) ≡ true → ends_in p (y ∷ ys) ≡ true
ends_all p y ys all =
    let back = reverse-append (y ∷ []) ys in
    ap (starts_in p) back ∙ starts_all p (reverse ys) y (sym (ap (list_all p) back) ∙ all_reverse p (y ∷ ys) all)

-- ---- a fold, and the space that it becomes

-- the text with a fold between the two parts, and the one with a space
abbrev with_fold : List ℕ → List ℕ → List ℕ → List ℕ → List ℕ
with_fold front first last rest = front ++ (first ++ (codes "\r\n" ++ (last ++ rest)))

abbrev with_space : List ℕ → List ℕ → List ℕ
with_space front rest = front ++ byte " " ∷ rest

same_start : (front first last rest : List ℕ) → list_all is_spacing first ≡ true → starts_in is_spacing (with_space front rest) ≡ starts_in is_spacing (with_fold front first last rest)
same_start (c ∷ front) first last rest spacing = refl
same_start [] [] last rest spacing = refl
same_start [] (c ∷ first) last rest spacing = sym (and_parts (is_spacing c) (list_all is_spacing first) spacing).0

same_end : (front first last rest : List ℕ) → list_all is_spacing last ≡ true → ends_in is_spacing (with_space front rest) ≡ ends_in is_spacing (with_fold front first last rest)
same_end front first last [] spacing =
    let whole : with_fold front first last [] ≡ (front ++ first) ++ 13 ∷ 10 ∷ last =
    ap (λ t. front ++ (first ++ 13 ∷ 10 ∷ t)) (append-nil last) ∙ sym (append_assoc front first (13 ∷ 10 ∷ last)) in
    ends_after is_spacing front 32 []
    ∙ sym (ap (ends_in is_spacing) whole ∙ (ends_after is_spacing (front ++ first) 13 (10 ∷ last) ∙ ends_all is_spacing 13 (10 ∷ last) spacing))
same_end front first last (c ∷ rest) spacing =
    let whole : with_fold front first last (c ∷ rest) ≡ (front ++ (first ++ 13 ∷ 10 ∷ last)) ++ c ∷ rest =
    ap (λ t. front ++ t) (sym (append_assoc first (13 ∷ 10 ∷ last) (c ∷ rest))) ∙ sym (append_assoc front (first ++ 13 ∷ 10 ∷ last) (c ∷ rest)) in
    let short : with_space front (c ∷ rest) ≡ (front ++ 32 ∷ []) ++ c ∷ rest = sym (append_assoc front (32 ∷ []) (c ∷ rest)) in
    ap (ends_in is_spacing) short
    ∙ (ends_after is_spacing (front ++ 32 ∷ []) c rest ∙ sym (ap (ends_in is_spacing) whole ∙ ends_after is_spacing (front ++ (first ++ 13 ∷ 10 ∷ last)) c rest))

-- what is before the spacing of a fold ends with none
no_spacing_before : (front kept first more : List ℕ) → list_all is_spacing first ≡ true → ends_in is_spacing kept ≡ false → (front ≡ []) ⊎ (starts_in is_spacing ((kept ++ first) ++ 13 ∷ more) ≡ false)
    → ends_in is_spacing (front ++ kept) ≡ false
no_spacing_before front kept first more spacing ends (inl none) = ap (λ t. ends_in is_spacing (t ++ kept)) none ∙ ends
no_spacing_before front (c ∷ kept) first more spacing ends (inr begins) = ends_after is_spacing front c kept ∙ ends
no_spacing_before front [] [] more spacing ends (inr begins) = absurd (false≢true (sym begins))
no_spacing_before front [] (c ∷ first) more spacing ends (inr begins) =
    absurd (false≢true (sym begins ∙ (and_parts (is_spacing c) (list_all is_spacing first) spacing).0))

-- ---- bytes of lines

-- a byte of a line is no CR and no LF
pub no_end_byte : (c : ℕ) → is_line_byte c ≡ true → is_end c ≡ false
no_end_byte c line = elim (cases_Bool (is_end c)) [
  | inr n ↦ n
  | inl is ↦ absurd (elim (cases_Bool (c == 13)) [
    | inl e ↦ false≢true (sym (ap is_line_byte (eqb-true c 13 e)) ∙ line)
    | inr n ↦ false≢true (sym (ap is_line_byte (eqb-true c 10 (rw n at is))) ∙ line)
  ])
]

pub no_end : (xs : List ℕ) → list_all is_line_byte xs ≡ true → list_any is_end xs ≡ false
no_end [] all = refl
no_end (x ∷ xs) all =
    let both = and_parts (is_line_byte x) (list_all is_line_byte xs) all in
    ap (λ b. b || list_any is_end xs) (no_end_byte x both.0) ∙ no_end xs both.1

-- ---- one fold

-- the parts around the first fold of what is left
record FoldParts (front rest : List ℕ) (fold : ℕ) : Type 0 where
  pub kept : List ℕ
  pub first : List ℕ
  pub last : List ℕ
  pub others : List ℕ
  pub rest_is : front ++ rest ≡ with_fold (front ++ kept) first last others
  pub size : fold ≡ length kept + length first
  pub spacing_first : list_all is_spacing first ≡ true
  pub spacing_last : list_all is_spacing last ≡ true
  pub ends : ends_in is_spacing (front ++ kept) ≡ false
  pub begins : starts_in is_spacing others ≡ false
  pub line : list_all is_line_byte (kept ++ first) ≡ true
  pub sound : IsSound others
  pub shorter : length rest ≡ length kept + length first + 2 + length last + length others

fold_parts : (front rest before more : List ℕ) (fold : ℕ) → rest ≡ before ++ 13 ∷ more → fold ≡ length before → list_any is_return before ≡ false → (front ≡ []) ⊎ (starts_in is_spacing rest ≡ false) → IsSound rest
    → (parts : FoldParts front rest fold) × (parts.kept ≡ without_last_spacing before) × (parts.others ≡ without_first_spacing (13 ∷ more))
fold_parts front rest before more fold rest_is fold_is none begins sound =
    let here = fold_here before more none (subst IsSound rest_is sound) in
    let left = last_cut before in
    let right = first_cut here.tail in
    let kept = without_last_spacing before in
    let others = without_first_spacing here.tail in
    let cut = left.joined in
    let more_is = here.more_is in
    let tail_is = right.joined in
    let text : rest ≡ (kept ++ left.last) ++ 13 ∷ 10 ∷ (right.first ++ others) = rest_is ∙ (λ i. cut i ++ 13 ∷ (more_is ∙ ap (λ t. 10 ∷ t) tail_is) i) in
    let after : (front ≡ []) ⊎ (starts_in is_spacing ((kept ++ left.last) ++ 13 ∷ (10 ∷ (right.first ++ others))) ≡ false) =
    elim begins [ inl e ↦ inl e | inr b ↦ inr (sym (ap (starts_in is_spacing) text) ∙ b) ] in
    let goes : runs (runs (Some ended) right.first) others ≡ Some inside = sym (runs_joined (Some ended) right.first others) ∙ (sym (ap (runs (Some ended)) tail_is) ∙ here.goes) in (
      record {
        kept = kept;
        first = left.last;
        last = right.first;
        others = others;
        rest_is = ap (λ t. front ++ t) (text ∙ append_assoc kept left.last (13 ∷ 10 ∷ (right.first ++ others)))
            ∙ sym (append_assoc front kept (left.last ++ 13 ∷ 10 ∷ (right.first ++ others)));
        size = fold_is ∙ (ap (λ t. length t) cut ∙ length-append kept left.last);
        spacing_first = left.spacing;
        spacing_last = right.spacing;
        ends = no_spacing_before front kept left.last (10 ∷ (right.first ++ others)) left.spacing left.ends after;
        begins = right.begins;
        line = sym (ap (list_all is_line_byte) cut) ∙ here.line;
        sound = solid_sound (runs (Some ended) right.first) others right.begins goes;
        shorter = omega (arith, ap (λ t. length t) text, length-append (kept ++ left.last) (13 ∷ 10 ∷ (right.first ++ others)), length-append kept left.last, length-append right.first others);
      },
      refl,
      sym (ap (λ t. without_first_spacing (13 ∷ t)) more_is),
    )

-- the fold becomes a space
unfolds_parts : (side : Side) (index : ℕ) (raw : List ℕ) (done fold : ℕ) (rest : List ℕ) (before now : List Rewrite) (u : UnfoldsUpTo side index raw done rest before now) (parts : FoldParts u.prefix rest fold)
    → UnfoldsUpTo side index raw (done + (length parts.kept + 1)) parts.others before (now ++ Lines (Unfold side index (done + fold)) ∷ [])
unfolds_parts side index raw done fold rest before now u parts =
    let front = u.prefix ++ parts.kept in
    let old = with_fold front parts.first parts.last parts.others in
    let old_is : u.prefix ++ rest ≡ old = parts.rest_is in
    let new_is : (front ++ 32 ∷ []) ++ parts.others ≡ with_space front parts.others = append_assoc front (32 ∷ []) parts.others in
    let offset : done + fold ≡ length (front ++ parts.first) = omega (arith, u.there, parts.size, length-append front parts.first, length-append u.prefix parts.kept) in
    let size : length (front ++ parts.first) ≡ length front + length parts.first = length-append front parts.first in
    let line = all_parts is_line_byte parts.kept parts.first parts.line in
    let whole : list_all is_line_byte (front ++ parts.first) ≡ true = all_joined is_line_byte front parts.first (all_joined is_line_byte u.prefix parts.kept u.whole line.0) line.1 in
    let step : (name : List ℕ) → str_to_ascii_lowercase name ≡ name → CleansLine side index (record { name = name; raw = old }) (Unfold side index (done + fold)) (record { name = name; raw = with_space front parts.others }) =
    λ name low. inr (inl (record {
      name = low;
      before = front ++ parts.first;
      after = parts.last ++ parts.others;
      raw_is = sym (append_assoc front parts.first (13 ∷ 10 ∷ (parts.last ++ parts.others)));
      first = no_end (front ++ parts.first) whole;
      step_is = ap (Unfold side index) offset;
      unfolded = record {
        before = front;
        first = parts.first;
        last = parts.last;
        after = parts.others;
        joined = refl;
        there = size;
        spacing_first = parts.spacing_first;
        spacing_last = parts.spacing_last;
        ends = parts.ends;
        begins = parts.begins;
        unfolded_is = refl;
      };
      other_is = refl;
    })) in
    let u_steps = u.unfolds.steps in
    record {
      prefix = front ++ 32 ∷ [];
      unfolds = record {
        steps = λ name low.
            let old_line : FieldLine = record { name = name; raw = old } in
            let new_line : FieldLine = record { name = name; raw = with_space front parts.others } in
            let start : FieldLine = record { name = name; raw = raw } in
            let first : Leads (CleansLine side index) start old_line before now = subst (λ t. Leads (CleansLine side index) start (record { name = name; raw = t }) before now) old_is (u_steps name low) in
            subst (λ t. Leads (CleansLine side index) start (record { name = name; raw = t }) before (now ++ Lines (Unfold side index (done + fold)) ∷ [])) (sym new_is)
            (leads_more (CleansLine side index) start old_line new_line before now (Unfold side index (done + fold)) first (step name low));
        same = ap value new_is
            ∙ (sym (takes_fold_for_space front parts.first 13 (10 ∷ parts.last) parts.others parts.spacing_first refl parts.spacing_last parts.ends parts.begins)
            ∙ (sym (ap value old_is) ∙ u.unfolds.same));
        first = ap (starts_in is_spacing) new_is
            ∙ (same_start front parts.first parts.last parts.others parts.spacing_first ∙ (sym (ap (starts_in is_spacing) old_is) ∙ u.unfolds.first));
        last = ap (ends_in is_spacing) new_is
            ∙ (same_end front parts.first parts.last parts.others parts.spacing_last ∙ (sym (ap (ends_in is_spacing) old_is) ∙ u.unfolds.last));
      };
      there = omega (arith, u.there, length-append front (32 ∷ []), length-append u.prefix parts.kept);
      whole = all_joined is_line_byte front (32 ∷ []) (all_joined is_line_byte u.prefix parts.kept u.whole line.0) refl;
      begins = inr parts.begins;
      within = omega (arith, u.within, parts.shorter);
    }

-- ---- the loop over the folds

-- where the first CR is
pub fold_at : (rest : List ℕ) (fold : ℕ) → position is_return rest ≡ Some fold → (more : List ℕ) × (drop fold rest ≡ 13 ∷ more) × (rest ≡ take fold rest ++ 13 ∷ more) × (fold ≡ length (take fold rest)) × (list_any is_return (take fold rest) ≡ false)
fold_at rest fold is =
    let here = element_of rest fold (position-Some is_return rest fold 0 is).0 in
    let found = at_position is_return rest fold here.0 is here.1 in
    let cut = cut_at rest fold here.0 here.1 in
    let c : here.0 ≡ 13 = eqb-true here.0 13 found.0 in
    (drop (fold + 1) rest, drop_next rest fold here.0 here.1 ∙ ap (λ d. d ∷ drop (fold + 1) rest) c, cut.0 ∙ ap (λ d. take fold rest ++ d ∷ drop (fold + 1) rest) c, cut.1, found.1)

pub unfolds_start : (side : Side) (index : ℕ) (raw : List ℕ) (steps : List Rewrite) → IsRaw raw → UnfoldsUpTo side index raw 0 raw steps steps × IsSound raw
unfolds_start side index raw steps is = (
  record {
    prefix = [];
    unfolds = record { steps = λ name low. leads_none (CleansLine side index) (record { name = name; raw = raw }) steps; same = refl; first = refl; last = refl };
    there = refl;
    whole = refl;
    begins = inl refl;
    within = omega arith;
  },
  raw_sound raw is,
)

pub unfolds_more : (side : Side) (index : ℕ) (raw : List ℕ) (done fold : ℕ) (rest before_fold others : List ℕ) (before now after : List Rewrite) → position is_return rest ≡ Some fold
    → before_fold ≡ without_last_spacing (take fold rest) → others ≡ without_first_spacing (drop fold rest) → after ≡ now ++ Lines (Unfold side index (done + fold)) ∷ []
    → UnfoldsUpTo side index raw done rest before now × IsSound rest → UnfoldsUpTo side index raw (done + (length before_fold + 1)) others before after × IsSound others
unfolds_more side index raw done fold rest before_fold others before now after is kept_is others_are added u =
    let cut = fold_at rest fold is in
    let parts = fold_parts u.0.prefix rest (take fold rest) cut.0 fold cut.2 cut.3 cut.4 u.0.begins u.1 in
    let kept : parts.0.kept ≡ before_fold = parts.1 ∙ sym kept_is in
    let left : parts.0.others ≡ others = parts.2 ∙ (sym (ap without_first_spacing cut.1) ∙ sym others_are) in
    let more = sym added in (
      subst (λ t. UnfoldsUpTo side index raw (done + (length before_fold + 1)) others before t) more
          (subst (λ t. UnfoldsUpTo side index raw (done + (length before_fold + 1)) t before (now ++ Lines (Unfold side index (done + fold)) ∷ [])) left
          (subst (λ t. UnfoldsUpTo side index raw (done + (length t + 1)) parts.0.others before (now ++ Lines (Unfold side index (done + fold)) ∷ [])) kept
          (unfolds_parts side index raw done fold rest before now u.0 parts.0))),
      subst IsSound left parts.0.sound,
    )

pub unfolds_end : (side : Side) (index : ℕ) (raw : List ℕ) (done : ℕ) (rest : List ℕ) (before now : List Rewrite) → position is_return rest ≡ None → UnfoldsUpTo side index raw done rest before now × IsSound rest
    → UnfoldsAll side index raw before now
unfolds_end side index raw done rest before now none u =
    (u.0.prefix ++ rest, u.0.unfolds, all_joined is_line_byte u.0.prefix rest u.0.whole (plain_line rest inside (position_none is_return rest none) u.1))

-- less is left after a fold
pub fold_shortens : (rest others : List ℕ) (fold : ℕ) → position is_return rest ≡ Some fold → others ≡ without_first_spacing (drop fold rest) → length others < length rest
fold_shortens rest others fold is others_are =
    let cut = fold_at rest fold is in
    let first = first_cut cut.0 in
    let same : others ≡ without_first_spacing cut.0 = others_are ∙ ap without_first_spacing cut.1 in
    let whole = ap (λ t. length t) cut.2 ∙ length-append (take fold rest) (13 ∷ cut.0) in
    omega (arith, whole, ap (λ t. length t) same, ap (λ t. length t) first.joined, length-append first.first (without_first_spacing cut.0))
