-- Raw values without the spacing at their ends, and what rewritings of raw values make, computed.
use Rattle.std.proofs.Common.{◌≡◌, ◌&&◌, ◌==◌, ◌↔◌, IsTrue, ℕ, Bool, true, false, not, Option, Some, None, List, [], ◌∷◌, ◌++◌, length, take, drop, refl, sym, ap, ◌∙◌, inl, inr, append_assoc, arith, length-append}
use Rattle.std.specs.Prelude.{reverse, codes}
use Rattle.std.specs.List.{list_all}
use Rattle.std.specs.Str.{byte, bytes_eq}
use Rattle.std.proofs.lemmas.Bool.{and_parts, and_from, cases_Bool, eqb-true, false≢true}
use Rattle.std.proofs.lemmas.List.{length-drop, length-take-le, reverse-append, reverse-reverse, take-append-drop}
use Rattle.std.proofs.lemmas.Slice.Eq.{bytes_eq-Decides}
use Rattle.std.proofs.Math.Seq.{take-append_seam, drop-append_seam}
use Rattle.byte_grammar.specs.Classes.{is_blank}
use Rattle.byte_grammar.specs.Language.{starts_in}
use Rattle.byte_grammar.proofs.ListLaws.{all_reverse}
use Rattle.msg_head.specs.Values.{has_bytes}
use Rattle.msg_body.specs.Spacing.{ends_in, is_solid, is_spacing}
use Rattle.line_rewrites.specs.RawValues.{HasCore, IsBeforeLoneSpace, IsFolded, IsPadded, IsUnfolded}
use Rattle.line_rewrites.specs.tools.Computed.{core_of, comma_at, cut_at_comma, folded, folded_at, is_comma, is_crlf_before, is_space_before_solid, padded, unfolded, without_first_spacing, without_last_spacing}
use Rattle.line_rewrites.proofs.Runs.{IsSoundRaw, State, inside, half, ended, not_inside, runs, runs_joined, runs_none}

-- ---- spacing at the ends

-- the text is spacing and what is left without it
pub record FirstCut (text : List ℕ) : Type 0 where
  pub first : List ℕ
  pub spacing : list_all is_spacing first ≡ true
  pub joined : text ≡ first ++ without_first_spacing text
  pub begins : starts_in is_spacing (without_first_spacing text) ≡ false

pub first_cut : (text : List ℕ) → FirstCut text
first_cut [] = record { first = []; spacing = refl; joined = refl; begins = refl }
first_cut (c ∷ rest) = elim (cases_Bool (is_spacing c)) [
  | inl is ↦
      let others = first_cut rest in
      record {
        first = c ∷ others.first;
        spacing = and_from (is_spacing c) (list_all is_spacing others.first) is others.spacing;
        joined = rw is (ap (λ t. c ∷ t) others.joined);
        begins = rw is others.begins;
      }
  | inr fails ↦ record { first = []; spacing = refl; joined = rw fails refl; begins = rw fails fails }
]

pub first_gone : (first text : List ℕ) → list_all is_spacing first ≡ true → starts_in is_spacing text ≡ false → without_first_spacing (first ++ text) ≡ text
first_gone [] [] spacing begins = refl
first_gone [] (c ∷ rest) spacing begins = rw begins refl
first_gone (c ∷ first) text spacing begins =
    let both = and_parts (is_spacing c) (list_all is_spacing first) spacing in
    rw both.0 (first_gone first text both.1 begins)

-- the text is what is left without spacing, and spacing
pub record LastCut (text : List ℕ) : Type 0 where
  pub last : List ℕ
  pub spacing : list_all is_spacing last ≡ true
  pub joined : text ≡ without_last_spacing text ++ last
  pub ends : ends_in is_spacing (without_last_spacing text) ≡ false

pub last_cut : (text : List ℕ) → LastCut text
last_cut text =
    let back = first_cut (reverse text) in
    let rest = without_first_spacing (reverse text) in
    record {
      last = reverse back.first;
      spacing = all_reverse is_spacing back.first back.spacing;
      joined = sym (reverse-reverse text) ∙ (ap reverse back.joined ∙ reverse-append back.first rest);
      ends = ap (starts_in is_spacing) (reverse-reverse rest) ∙ back.begins;
    }

pub last_gone : (text last : List ℕ) → ends_in is_spacing text ≡ false → list_all is_spacing last ≡ true → without_last_spacing (text ++ last) ≡ text
last_gone text last ends spacing =
    ap (λ t. reverse (without_first_spacing t)) (reverse-append text last)
    ∙ (ap reverse (first_gone (reverse last) (reverse text) (all_reverse is_spacing last spacing) ends) ∙ reverse-reverse text)

-- ---- cores

starts_shorter : (xs ys : List ℕ) → starts_in is_spacing (xs ++ ys) ≡ false → starts_in is_spacing xs ≡ false
starts_shorter [] ys begins = refl
starts_shorter (x ∷ xs) ys begins = begins

pub core_is : (raw : List ℕ) → HasCore raw (core_of raw)
core_is raw =
    let first = first_cut raw in
    let last = last_cut (without_first_spacing raw) in
    record {
      first = first.first;
      last = last.last;
      joined = first.joined ∙ ap (λ t. first.first ++ t) last.joined;
      spacing_first = first.spacing;
      spacing_last = last.spacing;
      begins = starts_shorter (core_of raw) last.last (sym (ap (starts_in is_spacing) last.joined) ∙ first.begins);
      ends = last.ends;
    }

all_gone : (text : List ℕ) → list_all is_spacing text ≡ true → without_first_spacing text ≡ []
all_gone [] all = refl
all_gone (c ∷ rest) all =
    let both = and_parts (is_spacing c) (list_all is_spacing rest) all in rw both.0 (all_gone rest both.1)

both_spacing : (xs ys : List ℕ) → list_all is_spacing xs ≡ true → list_all is_spacing ys ≡ true → list_all is_spacing (xs ++ ys) ≡ true
both_spacing [] ys a b = b
both_spacing (x ∷ xs) ys a b =
    let both = and_parts (is_spacing x) (list_all is_spacing xs) a in
    and_from (is_spacing x) (list_all is_spacing (xs ++ ys)) both.0 (both_spacing xs ys both.1 b)

core_between : (first core last : List ℕ) → list_all is_spacing first ≡ true → list_all is_spacing last ≡ true → starts_in is_spacing core ≡ false → ends_in is_spacing core ≡ false
    → core_of (first ++ (core ++ last)) ≡ core
core_between first [] last before after begins ends = ap without_last_spacing (all_gone (first ++ last) (both_spacing first last before after))
core_between first (c ∷ rest) last before after begins ends =
    ap without_last_spacing (first_gone first ((c ∷ rest) ++ last) before begins) ∙ last_gone (c ∷ rest) last ends after

pub one_core : (raw core : List ℕ) → HasCore raw core → core ≡ core_of raw
one_core raw core is =
    sym (ap core_of is.joined ∙ core_between is.first core is.last is.spacing_first is.spacing_last is.begins is.ends)

-- ---- `pad`

pub pad_is : (before after raw other : List ℕ) → other ≡ padded before after raw → IsPadded before after raw other
pad_is before after raw other same = (core_of raw, core_is raw, same)

pub pad_gives : (before after raw other : List ℕ) → IsPadded before after raw other → padded before after raw ≡ other
pad_gives before after raw other is = sym (is.2 ∙ ap (λ t. before ++ (t ++ after)) (one_core raw is.0 is.1))

-- ---- places

-- where something is left from the offset on, so many bytes are before it
pub offset_is : (raw : List ℕ) (offset c : ℕ) (rest : List ℕ) → drop offset raw ≡ c ∷ rest → offset ≡ length (take offset raw)
offset_is raw offset c rest is =
    let size = sym (length-drop offset raw) ∙ ap (λ t. length t) is in
    sym (length-take-le offset raw (omega (arith, size)))

pub cut_here : (raw : List ℕ) (offset : ℕ) (rest : List ℕ) → drop offset raw ≡ rest → raw ≡ take offset raw ++ rest
cut_here raw offset rest is = sym (take-append-drop offset raw) ∙ ap (λ t. take offset raw ++ t) is

pub taken_at : (raw before rest : List ℕ) (offset : ℕ) → raw ≡ before ++ rest → offset ≡ length before → take offset raw ≡ before
taken_at raw before rest offset is there = rw (there, is) (take-append_seam before rest)

pub left_at : (raw before rest : List ℕ) (offset : ℕ) → raw ≡ before ++ rest → offset ≡ length before → drop offset raw ≡ rest
left_at raw before rest offset is there = rw (there, is) (drop-append_seam before rest)

-- ---- `fold`

fold_here : (raw blanks other : List ℕ) (offset : ℕ) (rest : List ℕ) → drop offset raw ≡ rest → folded_at blanks (take offset raw) rest ≡ Some other → IsFolded offset blanks raw other
fold_here raw blanks other offset [] here is = absurd cc
fold_here raw blanks other offset (c ∷ after) here is = elim (cases_Bool (is_blank c && (has_bytes blanks && not (is_crlf_before (take offset raw))))) [
  | inr fails ↦ absurd (let e : None ≡ Some other = rw fails at is in cc)
  | inl passes ↦
      let whole = and_parts (is_blank c) (has_bytes blanks && not (is_crlf_before (take offset raw))) passes in
      let some = and_parts (has_bytes blanks) (not (is_crlf_before (take offset raw))) whole.1 in
      let text : Some (take offset raw ++ (codes "\r\n" ++ (blanks ++ after))) ≡ Some other = rw passes at is in
      record {
        before = take offset raw;
        c = c;
        after = after;
        joined = cut_here raw offset (c ∷ after) here;
        there = offset_is raw offset c after here;
        blank = whole.0;
        some = some.0;
        folded_is = cc;
      }
]

pub fold_is : (offset : ℕ) (blanks raw other : List ℕ) → folded offset blanks raw ≡ Some other → IsFolded offset blanks raw other
fold_is offset blanks raw other is = fold_here raw blanks other offset (drop offset raw) refl is

-- CR comes within a line alone
cr_inside : (s : Option State) (rest : List ℕ) → runs s (13 ∷ rest) ≡ Some inside → s ≡ Some inside
cr_inside None rest goes = absurd (let e = sym (runs_none rest) ∙ goes in cc)
cr_inside (Some inside) rest goes = refl
cr_inside (Some half) rest goes = absurd (let e = sym (runs_none rest) ∙ goes in cc)
cr_inside (Some ended) rest goes = absurd (let e = sym (runs_none rest) ∙ goes in cc)

pub fold_gives : (offset : ℕ) (blanks raw other : List ℕ) → IsFolded offset blanks raw other → IsSoundRaw other → folded offset blanks raw ≡ Some other
fold_gives offset blanks raw other is sound =
    let goes : runs (Some inside) (is.before ++ 13 ∷ (10 ∷ (blanks ++ is.after))) ≡ Some inside = sym (ap (runs (Some inside)) is.folded_is) ∙ sound in
    let within = cr_inside (runs (Some inside) is.before) (10 ∷ (blanks ++ is.after)) (sym (runs_joined (Some inside) is.before (13 ∷ 10 ∷ (blanks ++ is.after))) ∙ goes) in
    let no_crlf = not_inside is.before within in
    let first = taken_at raw is.before (is.c ∷ is.after) offset is.joined is.there in
    let rest = left_at raw is.before (is.c ∷ is.after) offset is.joined is.there in
    let passes : (is_blank is.c && (has_bytes blanks && not (is_crlf_before is.before))) ≡ true =
    and_from (is_blank is.c) _ is.blank (and_from (has_bytes blanks) _ is.some (rw no_crlf refl)) in
    rw (first, rest, passes) (ap Some (sym is.folded_is))

-- ---- `unfold`

crlf_is : (text : List ℕ) → bytes_eq (take 2 text) (codes "\r\n") ≡ true → text ≡ codes "\r\n" ++ drop 2 text
crlf_is text is =
    let same = (bytes_eq-Decides (take 2 text) (codes "\r\n")).0 is in
    sym (take-append-drop 2 text) ∙ ap (λ t. t ++ drop 2 text) same

pub unfold_is : (offset : ℕ) (raw other : List ℕ) → unfolded offset raw ≡ Some other → IsUnfolded offset raw other
unfold_is offset raw other is = elim (cases_Bool (bytes_eq (take 2 (drop offset raw)) (codes "\r\n"))) [
  | inr fails ↦ absurd (let e : None ≡ Some other = rw fails at is in cc)
  | inl passes ↦
      let before = take offset raw in
      let rest = drop 2 (drop offset raw) in
      let here = crlf_is (drop offset raw) passes in
      let left = last_cut before in
      let right = first_cut rest in
      let text : Some (without_last_spacing before ++ byte " " ∷ without_first_spacing rest) ≡ Some other = rw passes at is in
      record {
        before = without_last_spacing before;
        first = left.last;
        last = right.first;
        after = without_first_spacing rest;
        joined = cut_here raw offset (codes "\r\n" ++ rest) here
            ∙ (ap (λ t. t ++ (codes "\r\n" ++ rest)) left.joined
            ∙ (append_assoc (without_last_spacing before) left.last (codes "\r\n" ++ rest)
            ∙ ap (λ t. without_last_spacing before ++ (left.last ++ (codes "\r\n" ++ t))) right.joined));
        there = offset_is raw offset 13 (10 ∷ rest) here ∙ (ap (λ t. length t) left.joined ∙ length-append (without_last_spacing before) left.last);
        spacing_first = left.spacing;
        spacing_last = right.spacing;
        ends = left.ends;
        begins = right.begins;
        unfolded_is = cc;
      }
]

pub unfold_gives : (offset : ℕ) (raw other : List ℕ) → IsUnfolded offset raw other → unfolded offset raw ≡ Some other
unfold_gives offset raw other is =
    let rest = codes "\r\n" ++ (is.last ++ is.after) in
    let joined : raw ≡ (is.before ++ is.first) ++ rest = is.joined ∙ sym (append_assoc is.before is.first rest) in
    let there : offset ≡ length (is.before ++ is.first) = is.there ∙ sym (length-append is.before is.first) in
    let first = taken_at raw (is.before ++ is.first) rest offset joined there in
    let left = left_at raw (is.before ++ is.first) rest offset joined there in
    let begins = last_gone is.before is.first is.ends is.spacing_first in
    let ends = first_gone is.last is.after is.spacing_last is.begins in
    rw (first, left) (rw (begins, ends) (ap Some (sym is.unfolded_is)))

-- ---- `split`

comma_here : (offset : ℕ) (raw : List ℕ) (parts : List ℕ × List ℕ) (rest : List ℕ) → drop offset raw ≡ rest → comma_at (take offset raw) rest ≡ Some parts → (raw ≡ parts.0 ++ byte "," ∷ parts.1) × (offset ≡ length parts.0)
comma_here offset raw parts [] here is = absurd cc
comma_here offset raw parts (c ∷ last) here is = elim (cases_Bool (is_comma c)) [
  | inr fails ↦ absurd (let e : None ≡ Some parts = rw fails at is in cc)
  | inl passes ↦
      let cut : Some (take offset raw, last) ≡ Some parts = rw passes at is in
      let first : take offset raw ≡ parts.0 = cc in
      let rest : last ≡ parts.1 = cc in
      let comma : c ≡ 44 = eqb-true c 44 passes in
      (cut_here raw offset (c ∷ last) here ∙ (λ i. first i ++ comma i ∷ rest i), offset_is raw offset c last here ∙ ap (λ t. length t) first)
]

pub comma_is : (offset : ℕ) (raw : List ℕ) (parts : List ℕ × List ℕ) → cut_at_comma offset raw ≡ Some parts → (raw ≡ parts.0 ++ byte "," ∷ parts.1) × (offset ≡ length parts.0)
comma_is offset raw parts is = comma_here offset raw parts (drop offset raw) refl is

pub comma_gives : (offset : ℕ) (raw first last : List ℕ) → raw ≡ first ++ byte "," ∷ last → offset ≡ length first → cut_at_comma offset raw ≡ Some (first, last)
comma_gives offset raw first last is there =
    let before = taken_at raw first (44 ∷ last) offset is there in
    let rest = left_at raw first (44 ∷ last) offset is there in
    rw (before, rest) refl

-- ---- spaces alone

pub lone_after : (raw before later : List ℕ) (offset c : ℕ) (b : Bool) → raw ≡ before ++ c ∷ later → offset ≡ length before → b ≡ (ends_in is_solid before && is_space_before_solid later)
    → IsTrue b ↔ IsBeforeLoneSpace offset raw
lone_after raw before later offset c b joined there same = (λ is. is_lone later refl (and_parts (ends_in is_solid before) (is_space_before_solid later) (sym same ∙ is)), is_told)
  where
    is_lone : (rest : List ℕ) → later ≡ rest → (ends_in is_solid before ≡ true) × (is_space_before_solid later ≡ true) → IsBeforeLoneSpace offset raw
    is_lone [] is both = absurd (false≢true (sym (ap is_space_before_solid is) ∙ both.1))
    is_lone (d ∷ after) is both =
        let parts = and_parts (d == 32) (starts_in is_solid after) (sym (ap is_space_before_solid is) ∙ both.1) in
        record {
          before = before;
          c = c;
          after = after;
          joined = joined ∙ ap (λ t. before ++ c ∷ t) (is ∙ ap (λ e. e ∷ after) (eqb-true d 32 parts.0));
          there = there;
          ends = both.0;
          begins = parts.1;
        }

    is_told : IsBeforeLoneSpace offset raw → b ≡ true
    is_told is =
        let first : before ≡ is.before = sym (taken_at raw before (c ∷ later) offset joined there) ∙ taken_at raw is.before (is.c ∷ 32 ∷ is.after) offset is.joined is.there in
        let rest : c ∷ later ≡ is.c ∷ 32 ∷ is.after = sym (left_at raw before (c ∷ later) offset joined there) ∙ left_at raw is.before (is.c ∷ 32 ∷ is.after) offset is.joined is.there in
        same ∙ and_from (ends_in is_solid before) (is_space_before_solid later) (ap (ends_in is_solid) first ∙ is.ends) (ap (λ t. is_space_before_solid (drop 1 t)) rest ∙ is.begins)

pub lone_none : (raw : List ℕ) (offset : ℕ) → drop offset raw ≡ [] → IsBeforeLoneSpace offset raw → ⊥
lone_none raw offset none is = let rest = sym none ∙ left_at raw is.before (is.c ∷ 32 ∷ is.after) offset is.joined is.there in cc
