-- Each list of field lines has steps that make it normal.
use Rattle.std.proofs.Common.{◌≡◌, ◌⊎◌, ℕ, zero, suc, ◌+◌, ◌≤◌, Bool, true, false, ◌==◌, ◌||◌, List, [], ◌∷◌, ◌++◌, length, refl, sym, subst, ap, ◌∙◌, inl, inr, append_assoc, arith, length-append}
use Rattle.std.specs.Prelude.{⊤, codes, reverse}
use Rattle.std.specs.List.{All, FoldsTo, flat_map, list_all, list_any}
use Rattle.std.specs.Str.{byte, bytes_eq}
use Rattle.std.proofs.lemmas.Bool.{and_from, cases_Bool, eqb-true, false≢true, lt-ltb, or_cases, or_from, or_parts}
use Rattle.std.proofs.lemmas.List.{append-nil, nil_from_length, reverse-append, reverse-reverse}
use Rattle.std.proofs.lemmas.List.Elements.{All-append, All-cons, All-head, All-nil, All-tail}
use Rattle.std.proofs.lemmas.Slice.Eq.{bytes_eq-Decides}
use Rattle.byte_grammar.specs.Language.{starts_in}
use Rattle.byte_grammar.proofs.ListLaws.{all_reverse}
use Rattle.msg_head.specs.declared.error.Side.{Side}
use Rattle.msg_head.specs.Lines.{FieldLine, IsLine}
use Rattle.msg_head.specs.Names.{has_name}
use Rattle.msg_head.specs.RawValues.{IsRaw}
use Rattle.msg_head.specs.Values.{has_bytes, is_end, is_there, value}
use Rattle.msg_body.specs.SameFields.{name_of}
use Rattle.msg_body.specs.Spacing.{ends_in, is_spacing}
use Rattle.component_ids.specs.Table.{is_listed}
use Rattle.component_ids.specs.declared.params.SigParams.{SigParams}
use Rattle.rewrite_script.specs.declared.rewrite.LineRewrite.{LineRewrite}
use Rattle.rewrite_script.specs.declared.rewrite.LineRewrite.TheVariants.{Case, Pad, Remove, Unfold}
use Rattle.line_rewrites.specs.Covered.{covers_field, covers_lines}
use Rattle.line_rewrites.specs.Permitted.{MayChangeNumber, counted_names, kept_names}
use Rattle.line_rewrites.specs.RawValues.{IsUnfolded}
use Rattle.normal_forms.specs.NormalLines.{IsClean, IsJoined, IsKept, is_kept}
use Rattle.normal_forms.specs.LineSteps.{Cleans, IsLowered, IsTrimmed, IsUnfoldedFirst, Joins, MakeNormal, Removes, join_steps}
use Rattle.normal_forms.proofs.LineRaws.{first_line, fold_next, lf_first, line_next, unfolded_shorter, value_itself}
use Rattle.normal_forms.proofs.LineKeeps.{around_line, each_parts, joined_line, lowered_stands, lowered_twice, put_around, unfolded_stands}
use Rattle.normal_forms.proofs.NormalLists.{removals_keep}

-- ---- lists

folds_then : {A : Type 0} (R : List FieldLine → A → List FieldLine → Type 0) (xs ys : List A) (lines others last : List FieldLine) → FoldsTo R lines xs others
    → FoldsTo R others ys last → FoldsTo R lines (xs ++ ys) last
folds_then R [] ys lines others last one two = subst (λ (some : List FieldLine). FoldsTo R some ys last) (sym one) two
folds_then R (x ∷ xs) ys lines others last one two = (one.0, one.1, folds_then R xs ys one.0 others last one.2 two)

last_line : (back : List FieldLine) (line : FieldLine) (after : List FieldLine) → reverse (line ∷ back) ++ after ≡ reverse back ++ line ∷ after
last_line back line after = ap (λ (lines : List FieldLine). lines ++ after) (reverse-append (line ∷ []) back) ∙ append_assoc (reverse back) (line ∷ []) after

turned_twice : (lines : List FieldLine) → reverse (reverse lines) ++ [] ≡ lines
turned_twice lines = append-nil (reverse (reverse lines)) ∙ reverse-reverse lines

-- ---- lines that go

abbrev RemovesTo : Side → SigParams → List FieldLine → Type 0
RemovesTo side params lines =
    (steps : List LineRewrite) × (kept : List FieldLine) × FoldsTo (Removes side params) lines steps kept × All (IsKept side params) kept

-- from the last to the first
removals_from : (side : Side) (params : SigParams) (back after : List FieldLine) → All (IsKept side params) after → RemovesTo side params (reverse back ++ after)
removals_from side params [] after kept = ([], after, refl, kept)
removals_from side params (line ∷ back) after kept =
    subst (RemovesTo side params) (sym (last_line back line after))
    (elim (cases_Bool (is_kept side params (name_of line))) [
      | inl stays ↦ removals_from side params back (line ∷ after) (All-cons (IsKept side params) line after stays kept)
      | inr goes ↦
          let rest = removals_from side params back after kept in
          let both = or_parts (is_listed kept_names (name_of line)) (covers_field side (name_of line) params) goes in
          let step : LineRewrite = Remove side (length (reverse back)) in
          let removes : Removes side params (reverse back ++ line ∷ after) step (reverse back ++ after) = record {
            before = reverse back;
            line = line;
            after = after;
            lines_are = refl;
            goes = record { kept = both.0; covered = both.1 };
            last = kept;
            step_is = refl;
            others_are = refl;
          } in
          (step ∷ rest.0, rest.1, (reverse back ++ after, removes, rest.2), rest.3)
    ])

-- ---- folds

-- the text is spacing and what begins with none
record SpacingFirst (text : List ℕ) : Type 0 where
  first : List ℕ
  rest : List ℕ
  spacing : list_all is_spacing first ≡ true
  joined : text ≡ first ++ rest
  begins : starts_in is_spacing rest ≡ false

spacing_first : (text : List ℕ) → SpacingFirst text
spacing_first [] = record { first = []; rest = []; spacing = refl; joined = refl; begins = refl }
spacing_first (c ∷ text) = elim (cases_Bool (is_spacing c)) [
  | inl is ↦
      let others = spacing_first text in
      record {
        first = c ∷ others.first;
        rest = others.rest;
        spacing = and_from (is_spacing c) (list_all is_spacing others.first) is others.spacing;
        joined = ap (λ (t : List ℕ). c ∷ t) others.joined;
        begins = others.begins;
      }
  | inr fails ↦ record { first = []; rest = c ∷ text; spacing = refl; joined = refl; begins = fails }
]

-- the text is what ends with no spacing, and spacing
record SpacingLast (text : List ℕ) : Type 0 where
  rest : List ℕ
  last : List ℕ
  spacing : list_all is_spacing last ≡ true
  joined : text ≡ rest ++ last
  ends : ends_in is_spacing rest ≡ false

spacing_last : (text : List ℕ) → SpacingLast text
spacing_last text =
    let back = spacing_first (reverse text) in
    record {
      rest = reverse back.rest;
      last = reverse back.first;
      spacing = all_reverse is_spacing back.first back.spacing;
      joined = sym (reverse-reverse text) ∙ (ap (λ (t : List ℕ). reverse t) back.joined ∙ reverse-append back.first back.rest);
      ends = ap (starts_in is_spacing) (reverse-reverse back.rest) ∙ back.begins;
    }

-- the first CRLF of a raw value
record FirstFold (raw : List ℕ) : Type 0 where
  before : List ℕ
  after : List ℕ
  joined : raw ≡ before ++ (codes "\r\n" ++ after)
  none : list_any is_end before ≡ false

first_fold : (raw : List ℕ) → IsRaw raw → list_any is_end raw ≡ true → FirstFold raw
first_fold [] is some = absurd (false≢true some)
first_fold (c ∷ rest) is some = elim (cases_Bool (is_end c)) [
  | inl ends ↦ elim (or_cases (c == 13) (c == 10) ends) [
    | inl cr ↦
        let same = eqb-true c 13 cr in
        let next = fold_next rest (subst (λ (d : ℕ). IsRaw (d ∷ rest)) same is) in
        record { before = []; after = next.0; joined = λ i. same i ∷ next.1 i; none = refl }
    | inr lf ↦ absurd (lf_first rest (subst (λ (d : ℕ). IsRaw (d ∷ rest)) (eqb-true c 10 lf) is))
  ]
  | inr goes ↦
      let later : list_any is_end rest ≡ true = sym (ap (λ (b : Bool). b || list_any is_end rest) goes) ∙ some in
      let others = first_fold rest (line_next c rest (first_line c rest goes is) is) later in
      record {
        before = c ∷ others.before;
        after = others.after;
        joined = ap (λ (t : List ℕ). c ∷ t) others.joined;
        none = or_from (is_end c) (list_any is_end others.before) goes others.none;
      }
]

unfold_some : (raw before after : List ℕ) → raw ≡ before ++ (codes "\r\n" ++ after) → (other : List ℕ) × IsUnfolded (length before) raw other
unfold_some raw before after raw_is =
    let left = spacing_last before in
    let right = spacing_first after in
    let fold = codes "\r\n" ++ after in (
      left.rest ++ byte " " ∷ right.rest,
      record {
        before = left.rest;
        first = left.last;
        last = right.first;
        after = right.rest;
        joined = raw_is
            ∙ (ap (λ (t : List ℕ). t ++ fold) left.joined
            ∙ (append_assoc left.rest left.last fold ∙ ap (λ (t : List ℕ). left.rest ++ (left.last ++ (codes "\r\n" ++ t))) right.joined));
        there = ap (λ (t : List ℕ). length t) left.joined ∙ length-append left.rest left.last;
        spacing_first = left.spacing;
        spacing_last = right.spacing;
        ends = left.ends;
        begins = right.begins;
        unfolded_is = refl;
      },
    )

-- ---- lines that are made clean

cleans_at : (side : Side) (before : List FieldLine) (line other : FieldLine) (after : List FieldLine) (step : LineRewrite) → All IsClean before
    → IsLowered side (length before) line step other ⊎ IsUnfoldedFirst side (length before) line step other ⊎ IsTrimmed side (length before) line step other
    → Cleans side (before ++ line ∷ after) step (before ++ other ∷ after)
cleans_at side before line other after step clean becomes = record {
  before = before;
  line = line;
  other = other;
  after = after;
  lines_are = refl;
  first = clean;
  becomes = becomes;
  others_are = refl;
}

-- the line becomes a clean one in its place
abbrev CleansTo : Side → List FieldLine → FieldLine → List FieldLine → Type 0
CleansTo side before line after =
    (steps : List LineRewrite) × (other : FieldLine) × FoldsTo (Cleans side) (before ++ line ∷ after) steps (before ++ other ∷ after) × IsClean other

whole_cleaned : (side : Side) (before : List FieldLine) (line : FieldLine) (after : List FieldLine) → name_of line ≡ line.name → list_any is_end line.raw ≡ false → All IsClean before
    → CleansTo side before line after
whole_cleaned side before line after name whole clean = elim (cases_Bool (bytes_eq (value line.raw) line.raw)) [
  | inl same ↦ ([], line, refl, record { name = name; raw = (bytes_eq-Decides (value line.raw) line.raw).0 same })
  | inr differs ↦
      let other : FieldLine = record { name = line.name; raw = value line.raw } in
      let step : LineRewrite = Pad side (length before) [] [] in
      let trimmed : IsTrimmed side (length before) line step other = record {
        name = name;
        whole = whole;
        blanks = λ same. false≢true (sym differs ∙ (bytes_eq-Decides (value line.raw) line.raw).1 same);
        step_is = refl;
        other_is = refl;
      } in
      (step ∷ [], other, (before ++ other ∷ after, cleans_at side before line other after step clean (inr (inr trimmed)), refl), record { name = name; raw = value_itself line.raw })
]

raw_cleaned : (side : Side) (n : ℕ) (before : List FieldLine) (line : FieldLine) (after : List FieldLine) → length line.raw ≤ n → IsLine line → name_of line ≡ line.name → All IsClean before
    → CleansTo side before line after
raw_cleaned side zero before line after less is name clean =
    whole_cleaned side before line after name (ap (list_any is_end) (nil_from_length line.raw (omega (arith, less)))) clean
raw_cleaned side (suc n) before line after less is name clean = elim (cases_Bool (list_any is_end line.raw)) [
  | inr whole ↦ whole_cleaned side before line after name whole clean
  | inl folded ↦
      let fold = first_fold line.raw is.raw folded in
      let unfolded = unfold_some line.raw fold.before fold.after fold.joined in
      let other : FieldLine = record { name = line.name; raw = unfolded.0 } in
      let step : LineRewrite = Unfold side (length before) (length fold.before) in
      let first : IsUnfoldedFirst side (length before) line step other = record {
        name = name;
        before = fold.before;
        after = fold.after;
        raw_is = fold.joined;
        first = fold.none;
        step_is = refl;
        unfolded = unfolded.1;
        other_is = refl;
      } in
      let is_other = (unfolded_stands side (length before) line step other is first).is in
      let shorter = unfolded_shorter (length fold.before) line.raw unfolded.0 unfolded.1 in
      let rest = raw_cleaned side n before other after (omega (arith, less, shorter)) is_other name clean in
      (step ∷ rest.0, rest.1, (before ++ other ∷ after, cleans_at side before line other after step clean (inr (inl first)), rest.2), rest.3)
]

line_cleaned : (side : Side) (before : List FieldLine) (line : FieldLine) (after : List FieldLine) → IsLine line → All IsClean before → CleansTo side before line after
line_cleaned side before line after is clean = elim (cases_Bool (bytes_eq (name_of line) line.name)) [
  | inl same ↦ raw_cleaned side (length line.raw) before line after (omega arith) is ((bytes_eq-Decides (name_of line) line.name).0 same) clean
  | inr differs ↦
      let other : FieldLine = record { name = name_of line; raw = line.raw } in
      let step : LineRewrite = Case side (length before) (name_of line) in
      let lowered : IsLowered side (length before) line step other = record {
        name = λ same. false≢true (sym differs ∙ (bytes_eq-Decides (name_of line) line.name).1 same);
        step_is = refl;
        other_is = refl;
      } in
      let is_other = (lowered_stands side (length before) line step other is lowered).is in
      let rest = raw_cleaned side (length line.raw) before other after (omega arith) is_other (lowered_twice line.name) clean in
      (step ∷ rest.0, rest.1, (before ++ other ∷ after, cleans_at side before line other after step clean (inl lowered), rest.2), rest.3)
]

-- from the first to the last
cleanings_from : (side : Side) (before lines : List FieldLine) → All IsClean before → All IsLine lines
    → (steps : List LineRewrite) × (clean : List FieldLine) × FoldsTo (Cleans side) (before ++ lines) steps clean × All IsClean clean
cleanings_from side before [] clean each = ([], before, append-nil before, clean)
cleanings_from side before (line ∷ lines) clean each =
    let one = line_cleaned side before line lines (All-head IsLine line lines each) clean in
    let done = before ++ one.1 ∷ [] in
    let all_done = All-append IsClean before (one.1 ∷ []) clean (All-cons IsClean one.1 [] one.3 (All-nil IsClean)) in
    let rest = cleanings_from side done lines all_done (All-tail IsLine line lines each) in
    let goes_on = subst (λ (some : List FieldLine). FoldsTo (Cleans side) some rest.0 rest.1) (append_assoc before (one.1 ∷ []) lines) rest.2 in
    (one.0 ++ rest.0, rest.1, folds_then (Cleans side) one.0 rest.0 (before ++ line ∷ lines) (before ++ one.1 ∷ lines) rest.1 one.2 goes_on, rest.3)

-- ---- lines of one name

-- the value of the line is empty, where it has the name
abbrev IsEmptyAs : List ℕ → FieldLine → Type 0
IsEmptyAs name line = name_of line ≡ name → value line.raw ≡ []

-- joined, line by line
abbrev AreJoined : Side → SigParams → List FieldLine → Type 0
AreJoined side params [] = ⊤
AreJoined side params (line ∷ lines) = (MayChangeNumber side (name_of line) params → All (IsEmptyAs (name_of line)) lines) × AreJoined side params lines

may_or_not : (side : Side) (params : SigParams) (name : List ℕ) → MayChangeNumber side name params ⊎ (¬ MayChangeNumber side name params)
may_or_not side params name = elim (cases_Bool (is_listed counted_names name)) [
  | inl counted ↦ inr (λ may. false≢true (sym may.counted ∙ counted))
  | inr not_counted ↦ elim (cases_Bool (covers_lines side name params)) [
    | inl covered ↦ inr (λ may. false≢true (sym may.covered ∙ covered))
    | inr not_covered ↦ inl (record { counted = not_counted; covered = not_covered })
  ]
]

-- the name of a line is the name where it has that
has_it : (name : List ℕ) (line : FieldLine) → has_name name line ≡ true → name_of line ≡ name
has_it name line is = (bytes_eq-Decides (name_of line) name).0 is

none_as : (name : List ℕ) (lines : List FieldLine) → is_there lines name ≡ false → All (IsEmptyAs name) lines
none_as name [] none = All-nil (IsEmptyAs name)
none_as name (line ∷ lines) none =
    let both = or_parts (has_name name line) (is_there lines name) none in
    All-cons (IsEmptyAs name) line lines (λ same. absurd (false≢true (sym both.0 ∙ (bytes_eq-Decides (name_of line) name).1 same))) (none_as name lines both.1)

are_joined : (side : Side) (params : SigParams) (lines : List FieldLine) → AreJoined side params lines → IsJoined side params lines
are_joined side params lines joined [] line after lines_are may there = absurd (false≢true there)
are_joined side params [] joined (other ∷ before) line after lines_are may there = absurd cc
are_joined side params (first ∷ lines) joined (other ∷ before) line after lines_are may there =
    let same : first ≡ other = cc in
    let rest : lines ≡ before ++ line ∷ after = cc in
    elim (or_cases (has_name (name_of line) other) (is_there before (name_of line)) there) [
      | inl here ↦
          let name : name_of first ≡ name_of line = ap name_of same ∙ has_it (name_of line) other here in
          let may_first = subst (λ (n : List ℕ). MayChangeNumber side n params) (sym name) may in
          (around_line (IsEmptyAs (name_of first)) lines before line after rest (joined.0 may_first)).here (sym name)
      | inr later ↦ are_joined side params lines joined.1 before line after rest may later
    ]

-- the first line of the name
record FirstNamed (name : List ℕ) (lines : List FieldLine) : Type 0 where
  between : List FieldLine
  next : FieldLine
  later : List FieldLine
  lines_are : lines ≡ between ++ next ∷ later
  none : is_there between name ≡ false
  same : name_of next ≡ name

first_named : (name : List ℕ) (lines : List FieldLine) → is_there lines name ≡ true → FirstNamed name lines
first_named name [] there = absurd (false≢true there)
first_named name (line ∷ lines) there = elim (cases_Bool (has_name name line)) [
  | inl is ↦ record { between = []; next = line; later = lines; lines_are = refl; none = refl; same = has_it name line is }
  | inr fails ↦
      let others = first_named name lines (sym (ap (λ (b : Bool). b || is_there lines name) fails) ∙ there) in
      record {
        between = line ∷ others.between;
        next = others.next;
        later = others.later;
        lines_are = ap (λ (ls : List FieldLine). line ∷ ls) others.lines_are;
        none = or_from (has_name name line) (is_there others.between name) fails others.none;
        same = others.same;
      }
]

next_joined : (side : Side) (params : SigParams) (between : List FieldLine) (next : FieldLine) (later : List FieldLine) → AreJoined side params (between ++ next ∷ later)
    → AreJoined side params (next ∷ later)
next_joined side params [] next later joined = joined
next_joined side params (line ∷ between) next later joined = next_joined side params between next later joined.1

without_next : (side : Side) (params : SigParams) (between : List FieldLine) (next : FieldLine) (later : List FieldLine) → AreJoined side params (between ++ next ∷ later)
    → AreJoined side params (between ++ later)
without_next side params [] next later joined = joined.1
without_next side params (line ∷ between) next later joined = (
  λ may.
      let parts = each_parts (IsEmptyAs (name_of line)) between (next ∷ later) (joined.0 may) in
      All-append (IsEmptyAs (name_of line)) between later parts.0 (All-tail (IsEmptyAs (name_of line)) next later parts.1),
  without_next side params between next later joined.1,
)

empty_is : (text : List ℕ) → has_bytes text ≡ false → text ≡ []
empty_is [] none = refl
empty_is (c ∷ rest) none = absurd (false≢true (sym none ∙ lt-ltb 0 (length (c ∷ rest)) (omega arith)))

-- the line may be joined with the next of its name, and then all are joined
record JoinsFirst (side : Side) (params : SigParams) (line : FieldLine) (after : List FieldLine) : Type 0 where
  named : FirstNamed (name_of line) after
  may : MayChangeNumber side (name_of line) params
  some : has_bytes (value named.next.raw) ≡ true
  joined : AreJoined side params (joined_line line named.next ∷ (named.between ++ named.later))

first_joined : (side : Side) (params : SigParams) (line : FieldLine) (after : List FieldLine) → AreJoined side params after
    → AreJoined side params (line ∷ after) ⊎ JoinsFirst side params line after
first_joined side params line after joined = elim (may_or_not side params (name_of line)) [
  | inr not ↦ inl (λ may. absurd (not may), joined)
  | inl may ↦ elim (cases_Bool (is_there after (name_of line))) [
    | inr none ↦ inl (λ is. none_as (name_of line) after none, joined)
    | inl there ↦ by_next may (first_named (name_of line) after there)
  ]
]
  where
    by_next : MayChangeNumber side (name_of line) params → FirstNamed (name_of line) after → AreJoined side params (line ∷ after) ⊎ JoinsFirst side params line after
    by_next may named =
        let name = name_of line in
        let parts = subst (AreJoined side params) named.lines_are joined in
        let may_next = subst (λ (n : List ℕ). MayChangeNumber side n params) (sym named.same) may in
        let later : All (IsEmptyAs name) named.later =
        subst (λ (n : List ℕ). All (IsEmptyAs n) named.later) named.same ((next_joined side params named.between named.next named.later parts).0 may_next) in
        let between = none_as name named.between named.none in
        elim (cases_Bool (has_bytes (value named.next.raw))) [
          | inr empty ↦
              let here : IsEmptyAs name named.next = λ is. empty_is (value named.next.raw) empty in
              let all = subst (All (IsEmptyAs name)) (sym named.lines_are) (put_around (IsEmptyAs name) named.between named.next named.later between here later) in
              inl (λ is. all, joined)
          | inl some ↦ inr (record {
            named = named;
            may = may;
            some = some;
            joined = (λ is. All-append (IsEmptyAs name) named.between named.later between later, without_next side params named.between named.next named.later parts);
          })
        ]

abbrev JoinsTo : Side → SigParams → List FieldLine → Type 0
JoinsTo side params lines = (pairs : List (ℕ × ℕ)) × (normal : List FieldLine) × FoldsTo (Joins side params) lines pairs normal × IsJoined side params normal

-- from the last to the first
joins_from : (side : Side) (params : SigParams) (back after : List FieldLine) → AreJoined side params after → JoinsTo side params (reverse back ++ after)
joins_from side params [] after joined = ([], after, refl, are_joined side params after joined)
joins_from side params (line ∷ back) after joined =
    subst (JoinsTo side params) (sym (last_line back line after))
    (elim (first_joined side params line after joined) [
      | inl all ↦ joins_from side params back (line ∷ after) all
      | inr first ↦
          let named = first.named in
          let new = joined_line line named.next ∷ (named.between ++ named.later) in
          let rest = joins_from side params back new first.joined in
          let pair : ℕ × ℕ = (length (reverse back), length (reverse back) + 1 + length named.between) in
          let joins : Joins side params (reverse back ++ line ∷ after) pair (reverse back ++ new) = record {
            before = reverse back;
            line = line;
            between = named.between;
            next = named.next;
            after = named.later;
            lines_are = ap (λ (ls : List FieldLine). reverse back ++ line ∷ ls) named.lines_are;
            same = named.same;
            none_between = named.none;
            may = first.may;
            some = first.some;
            last = subst (IsJoined side params) named.lines_are (are_joined side params after joined);
            pair_is = refl;
            others_are = refl;
          } in
          (pair ∷ rest.0, rest.1, (reverse back ++ new, joins, rest.2), rest.3)
    ])

-- ---- all of a side

pub makes_some : (side : Side) (params : SigParams) (lines : List FieldLine) → All IsLine lines
    → (steps : List LineRewrite) × (normal : List FieldLine) × MakeNormal side params lines steps normal
makes_some side params lines each =
    let one = subst (RemovesTo side params) (turned_twice lines) (removals_from side params (reverse lines) [] (All-nil (IsKept side params))) in
    let kept_each = (removals_keep side params one.0 lines one.1 each one.2).each in
    let two = cleanings_from side [] one.1 (All-nil IsClean) kept_each in
    let three = subst (JoinsTo side params) (turned_twice two.1) (joins_from side params (reverse two.1) [] tt) in (
      one.0 ++ (two.0 ++ flat_map (join_steps side) three.0),
      three.1,
      record {
        removals = one.0;
        kept = one.1;
        removed = one.2;
        all_kept = one.3;
        cleanings = two.0;
        clean = two.1;
        cleaned = two.2;
        all_clean = two.3;
        pairs = three.0;
        joined = three.2;
        all_joined = three.3;
        steps_are = refl;
      },
    )
