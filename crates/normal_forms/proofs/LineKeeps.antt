-- What each step that makes lines normal keeps of them.
use Rattle.std.proofs.Common.{◌≡◌, ◌⊎◌, ℕ, ◌+◌, ◌≤◌, Bool, true, false, List, [], ◌∷◌, ◌++◌, length, refl, sym, subst, ap, ◌∙◌, inl, inr, arith, length-append}
use Rattle.std.specs.Prelude.{codes, nat_lt, IsTrue}
use Rattle.std.specs.Char.{is_ascii_alphanumeric, to_ascii_lowercase}
use Rattle.std.specs.List.{All, flat_map, join_by, list_all, list_any}
use Rattle.std.specs.Str.{byte, bytes_eq, str_to_ascii_lowercase}
use Rattle.std.proofs.lemmas.Bool.{and_parts, and_from, false≢true, false_from_ne_true, or_cases, or_from, or_left, or_right}
use Rattle.std.proofs.lemmas.Bool.Decides.{nat_tests}
use Rattle.std.proofs.lemmas.Grind.{flat_map-append}
use Rattle.std.proofs.lemmas.List.{length-map}
use Rattle.std.proofs.lemmas.List.Elements.{All-append, All-cons, All-head, All-nil, All-tail}
use Rattle.std.proofs.lemmas.List.Folds.{list_all-map}
use Rattle.std.proofs.lemmas.Slice.Eq.{bytes_eq-Decides}
use Rattle.std.proofs.lemmas.Str.Ascii.{lowercase-lowercase}
use Rattle.byte_grammar.specs.Classes.{is_line_byte, is_one_of, is_tchar, is_token}
use Rattle.byte_grammar.proofs.ChoiceLaws.{of_each}
use Rattle.byte_grammar.proofs.ListLaws.{all_implied}
use Rattle.msg_head.specs.declared.error.Side.{Side}
use Rattle.msg_head.specs.Lines.{FieldLine, IsLine, line_of, line_text}
use Rattle.msg_head.specs.Names.{has_name}
use Rattle.msg_head.specs.Values.{value}
use Rattle.msg_body.specs.SameFields.{HasSameField, HasSameValues, name_of}
use Rattle.msg_body.proofs.LineLists.{keeps_other_names_around, takes_line_for_other, takes_line_for_two}
use Rattle.msg_body.proofs.ValueLaws.{is_value_of_joined}
use Rattle.component_ids.specs.Table.{has_param, is_listed}
use Rattle.component_ids.specs.declared.id.ComponentId.{ComponentId}
use Rattle.component_ids.specs.declared.params.SigParams.{SigParams}
use Rattle.signatures.specs.Signatures.{input_name, signature_name}
use Rattle.rewrite_script.specs.declared.rewrite.LineRewrite.{LineRewrite}
use Rattle.line_rewrites.specs.Covered.{covers_field, covers_lines, is_field_on, is_wrapped_on}
use Rattle.line_rewrites.specs.Permitted.{MayChangeValue, counted_names, kept_names}
use Rattle.normal_forms.specs.NormalLines.{is_kept}
use Rattle.normal_forms.specs.LineSteps.{Cleans, IsLowered, IsTrimmed, IsUnfoldedFirst, Joins, Removes}
use Rattle.normal_forms.proofs.LineRaws.{joined_line_bytes, line_raw, unfolded_raw, unfolded_shorter, unfolded_value, value_after_space, value_itself, value_line, value_short}

-- ---- what is kept

-- The others are lines, no more and no longer than these. They have the same values of each name of
-- which the number of lines counts, and of each that is covered line by line, and the same combined
-- value of each whose lines stay.
pub record KeepsLines (side : Side) (params : SigParams) (lines others : List FieldLine) : Type 0 where
  pub each : All IsLine others
  pub count : length others ≤ length lines
  pub size : length (flat_map line_text others) ≤ length (flat_map line_text lines)
  pub counted : (name : List ℕ) → IsTrue (is_listed counted_names name) → HasSameValues lines others name
  pub fields : (name : List ℕ) → IsTrue (is_kept side params name) → HasSameField lines others name
  pub wrapped : (name : List ℕ) → IsTrue (covers_lines side name params) → HasSameValues lines others name

-- ---- lists that have the same of a name

pub values_itself : (lines : List FieldLine) (name : List ℕ) → HasSameValues lines lines name
values_itself lines name = record { there = refl; same = refl }

pub values_turned : (lines others : List FieldLine) (name : List ℕ) → HasSameValues lines others name → HasSameValues others lines name
values_turned lines others name same = record { there = sym same.there; same = sym same.same }

pub values_then : (lines others last : List FieldLine) (name : List ℕ) → HasSameValues lines others name → HasSameValues others last name → HasSameValues lines last name
values_then lines others last name one two = record { there = two.there ∙ one.there; same = two.same ∙ one.same }

pub field_then : (lines others last : List FieldLine) (name : List ℕ) → HasSameField lines others name → HasSameField others last name → HasSameField lines last name
field_then lines others last name one two = record { there = two.there ∙ one.there; combined = two.combined ∙ one.combined }

pub field_of_values : (lines others : List FieldLine) (name : List ℕ) → HasSameValues lines others name → HasSameField lines others name
field_of_values lines others name same = record {
  there = same.there;
  combined = ap (λ (texts : List (List ℕ)). join_by (λ (text : List ℕ). text) (codes ", ") texts) same.same;
}

-- ---- lists in parts

-- what holds of each element holds of each of both parts
pub each_parts : (Holds : FieldLine → Type 0) (xs ys : List FieldLine) → All Holds (xs ++ ys) → All Holds xs × All Holds ys
each_parts Holds [] ys each = (All-nil Holds, each)
each_parts Holds (x ∷ xs) ys each =
    let rest = each_parts Holds xs ys (All-tail Holds x (xs ++ ys) each) in
    (All-cons Holds x xs (All-head Holds x (xs ++ ys) each) rest.0, rest.1)

-- the lines before one, that one, and the lines after it
pub record AroundLine (Holds : FieldLine → Type 0) (before : List FieldLine) (line : FieldLine) (after : List FieldLine) : Type 0 where
  pub first : All Holds before
  pub here : Holds line
  pub last : All Holds after

pub around_line : (Holds : FieldLine → Type 0) (lines before : List FieldLine) (line : FieldLine) (after : List FieldLine) → lines ≡ before ++ line ∷ after → All Holds lines
    → AroundLine Holds before line after
around_line Holds lines before line after lines_are each =
    let parts = each_parts Holds before (line ∷ after) (subst (All Holds) lines_are each) in
    record { first = parts.0; here = All-head Holds line after parts.1; last = All-tail Holds line after parts.1 }

pub put_around : (Holds : FieldLine → Type 0) (before : List FieldLine) (line : FieldLine) (after : List FieldLine) → All Holds before → Holds line → All Holds after
    → All Holds (before ++ line ∷ after)
put_around Holds before line after a b c = All-append Holds before (line ∷ after) a (All-cons Holds line after b c)

-- ---- sizes

size_parts : (xs ys : List FieldLine) → length (flat_map line_text (xs ++ ys)) ≡ length (flat_map line_text xs) + length (flat_map line_text ys)
size_parts xs ys = ap (λ (t : List ℕ). length t) (flat_map-append line_text xs ys) ∙ length-append (flat_map line_text xs) (flat_map line_text ys)

-- the name, a colon, the raw value, CRLF
line_size : (line : FieldLine) → length (line_text line) ≡ length line.name + length line.raw + 3
line_size line =
    let a = length-append line.name (byte ":" ∷ (line.raw ++ codes "\r\n")) in
    let b = length-append line.raw (codes "\r\n") in
    omega arith

size_around : (before : List FieldLine) (line : FieldLine) (after : List FieldLine)
    → length (flat_map line_text (before ++ line ∷ after)) ≡ length (flat_map line_text before) + (length line.name + length line.raw + 3) + length (flat_map line_text after)
size_around before line after =
    let a = size_parts before (line ∷ after) in
    let b = length-append (line_text line) (flat_map line_text after) in
    let c = line_size line in
    omega (arith, a, b, c)

-- ---- lists that keep lines

pub keeps_itself : (side : Side) (params : SigParams) (lines : List FieldLine) → All IsLine lines → KeepsLines side params lines lines
keeps_itself side params lines each = record {
  each = each;
  count = omega arith;
  size = omega arith;
  counted = λ name is. values_itself lines name;
  fields = λ name is. field_of_values lines lines name (values_itself lines name);
  wrapped = λ name is. values_itself lines name;
}

pub keeps_then : (side : Side) (params : SigParams) (lines others last : List FieldLine) → KeepsLines side params lines others → KeepsLines side params others last
    → KeepsLines side params lines last
keeps_then side params lines others last one two =
    let count_one = one.count in
    let count_two = two.count in
    let size_one = one.size in
    let size_two = two.size in
    record {
      each = two.each;
      count = omega (arith, count_one, count_two);
      size = omega (arith, size_one, size_two);
      counted = λ name is. values_then lines others last name (one.counted name is) (two.counted name is);
      fields = λ name is. field_then lines others last name (one.fields name is) (two.fields name is);
      wrapped = λ name is. values_then lines others last name (one.wrapped name is) (two.wrapped name is);
    }

keeps_of : (side : Side) (params : SigParams) (lines others xs ys : List FieldLine) → lines ≡ xs → others ≡ ys → KeepsLines side params xs ys → KeepsLines side params lines others
keeps_of side params lines others xs ys lines_are others_are keeps =
    subst (λ (a : List FieldLine). KeepsLines side params a others) (sym lines_are)
    (subst (λ (b : List FieldLine). KeepsLines side params xs b) (sym others_are) keeps)

-- ---- names

pub lowered_twice : (text : List ℕ) → str_to_ascii_lowercase (str_to_ascii_lowercase text) ≡ str_to_ascii_lowercase text
lowered_twice [] = refl
lowered_twice (c ∷ rest) = λ i. lowercase-lowercase c i ∷ lowered_twice rest i

letter_lowered : (c : ℕ) → is_ascii_alphanumeric c ≡ true → is_ascii_alphanumeric (to_ascii_lowercase c) ≡ true
letter_lowered c is = grind (arith, nat_tests)

tchar_lowered : (c : ℕ) → is_tchar c ≡ true → is_tchar (to_ascii_lowercase c) ≡ true
tchar_lowered c is = elim (or_cases (is_ascii_alphanumeric c) (is_one_of (codes "!#$%&'*+-.^_`|~") c) is) [
  | inl letter ↦
      or_left (is_ascii_alphanumeric (to_ascii_lowercase c)) (is_one_of (codes "!#$%&'*+-.^_`|~") (to_ascii_lowercase c)) (letter_lowered c letter)
  | inr mark ↦ of_each (λ (d : ℕ). is_tchar (to_ascii_lowercase d)) (codes "!#$%&'*+-.^_`|~") refl c mark
]

lowered_length : (text : List ℕ) → length (str_to_ascii_lowercase text) ≡ length text
lowered_length text = length-map text to_ascii_lowercase

token_lowered : (text : List ℕ) → is_token text ≡ true → is_token (str_to_ascii_lowercase text) ≡ true
token_lowered text is =
    let both = and_parts (nat_lt 0 (length text)) (list_all is_tchar text) is in
    and_from (nat_lt 0 (length (str_to_ascii_lowercase text))) (list_all is_tchar (str_to_ascii_lowercase text))
    (ap (λ (n : ℕ). nat_lt 0 n) (lowered_length text) ∙ both.0)
    (list_all-map is_tchar to_ascii_lowercase text ∙ all_implied is_tchar (λ (c : ℕ). is_tchar (to_ascii_lowercase c)) tchar_lowered text both.1)

-- a name that has what the line's name has not isn't that of the line
other_name : (test : List ℕ → Bool) (line : FieldLine) (name : List ℕ) → test (name_of line) ≡ false → test name ≡ true → has_name name line ≡ false
other_name test line name fails is =
    false_from_ne_true (has_name name line) (λ same. false≢true (sym fails ∙ (ap test ((bytes_eq-Decides (name_of line) name).0 same) ∙ is)))

-- what is covered line by line is covered
pub lines_covered : (side : Side) (name : List ℕ) (params : SigParams) → covers_lines side name params ≡ true → covers_field side name params ≡ true
lines_covered side name params = by params.ids
  where
    by : (ids : List ComponentId) → list_any (is_wrapped_on side name) ids ≡ true → list_any (is_field_on side name) ids ≡ true
    by [] is = is
    by (id ∷ ids) is = elim (or_cases (is_wrapped_on side name id) (list_any (is_wrapped_on side name) ids) is) [
      | inl here ↦ or_left (is_field_on side name id) (list_any (is_field_on side name) ids) (and_parts (is_field_on side name id) (has_param id.params (codes "bs")) here).0
      | inr later ↦ or_right (is_field_on side name id) (list_any (is_field_on side name) ids) (by ids later)
    ]

-- ---- lines that go

module _ (side : Side) (params : SigParams) where
  -- no line of a name that stays may go
  pub goes_not_kept : (name : List ℕ) → MayChangeValue side name params → is_kept side params name ≡ false
  goes_not_kept name goes = or_from (is_listed kept_names name) (covers_field side name params) goes.kept goes.covered

  -- nor one of a name of which the number of lines counts
  counted_kept : (name : List ℕ) → is_listed counted_names name ≡ true → is_kept side params name ≡ true
  counted_kept name is =
      or_left (is_listed kept_names name) (covers_field side name params)
      (or_right (bytes_eq name signature_name) (is_listed (input_name ∷ counted_names) name) (or_right (bytes_eq name input_name) (is_listed counted_names name) is))

  pub removes_keep : (lines : List FieldLine) (step : LineRewrite) (others : List FieldLine) → All IsLine lines → Removes side params lines step others
      → KeepsLines side params lines others
  removes_keep lines step others each removes =
      let line = removes.line in
      let before = removes.before in
      let after = removes.after in
      let parts = around_line IsLine lines before line after removes.lines_are each in
      let not_kept = goes_not_kept (name_of line) removes.goes in
      let same : (name : List ℕ) → is_kept side params name ≡ true → HasSameValues (before ++ line ∷ after) (before ++ after) name =
      λ name is. values_turned (before ++ after) (before ++ line ∷ after) name
      (keeps_other_names_around before after line name (other_name (is_kept side params) line name not_kept is)) in
      let long = length-append before (line ∷ after) in
      let short = length-append before after in
      let large = size_around before line after in
      let small = size_parts before after in
      keeps_of side params lines others (before ++ line ∷ after) (before ++ after) removes.lines_are removes.others_are (record {
        each = All-append IsLine before after parts.first parts.last;
        count = omega (arith, long, short);
        size = omega (arith, large, small);
        counted = λ name is. same name (counted_kept name is);
        fields = λ name is. field_of_values (before ++ line ∷ after) (before ++ after) name (same name is);
        wrapped = λ name is. same name (or_right (is_listed kept_names name) (covers_field side name params) (lines_covered side name params is));
      })

-- ---- lines that are written otherwise

-- the other is a line, of the same name but for case and of the same value, and no longer
pub record StandsFor (line other : FieldLine) : Type 0 where
  pub is : IsLine other
  pub name : name_of other ≡ name_of line
  pub text : value other.raw ≡ value line.raw
  pub short_name : length other.name ≤ length line.name
  pub short_raw : length other.raw ≤ length line.raw

pub replaced_keeps : (side : Side) (params : SigParams) (before : List FieldLine) (line other : FieldLine) (after : List FieldLine) → All IsLine (before ++ line ∷ after) → StandsFor line other
    → KeepsLines side params (before ++ line ∷ after) (before ++ other ∷ after)
replaced_keeps side params before line other after each stands =
    let parts = around_line IsLine (before ++ line ∷ after) before line after refl each in
    let same = λ (name : List ℕ). takes_line_for_other before after line other name stands.name stands.text in
    let long = length-append before (line ∷ after) in
    let short = length-append before (other ∷ after) in
    let large = size_around before line after in
    let small = size_around before other after in
    let short_name = stands.short_name in
    let short_raw = stands.short_raw in
    record {
      each = put_around IsLine before other after parts.first stands.is parts.last;
      count = omega (arith, long, short);
      size = omega (arith, large, small, short_name, short_raw);
      counted = λ name is. same name;
      fields = λ name is. field_of_values (before ++ line ∷ after) (before ++ other ∷ after) name (same name);
      wrapped = λ name is. same name;
    }

pub lowered_stands : (side : Side) (index : ℕ) (line : FieldLine) (step : LineRewrite) (other : FieldLine) → IsLine line → IsLowered side index line step other → StandsFor line other
lowered_stands side index line step other is lowered =
    let size = lowered_length line.name in
    subst (StandsFor line) (sym lowered.other_is) (record {
      is = record { name = token_lowered line.name is.name; raw = is.raw };
      name = lowered_twice line.name;
      text = refl;
      short_name = omega (arith, size);
      short_raw = omega arith;
    })

pub unfolded_stands : (side : Side) (index : ℕ) (line : FieldLine) (step : LineRewrite) (other : FieldLine) → IsLine line → IsUnfoldedFirst side index line step other
    → StandsFor line other
unfolded_stands side index line step other is first =
    let size : length other.name ≡ length line.name = ap (λ (t : List ℕ). length t) first.other_is in
    let less = unfolded_shorter (length first.before) line.raw other.raw first.unfolded in
    record {
      is = record {
        name = ap is_token first.other_is ∙ is.name;
        raw = unfolded_raw first.before first.after line.raw other.raw first.raw_is first.first first.unfolded is.raw;
      };
      name = ap str_to_ascii_lowercase first.other_is;
      text = unfolded_value (length first.before) line.raw other.raw first.unfolded;
      short_name = omega (arith, size);
      short_raw = omega (arith, less);
    }

pub trimmed_stands : (side : Side) (index : ℕ) (line : FieldLine) (step : LineRewrite) (other : FieldLine) → IsLine line → IsTrimmed side index line step other → StandsFor line other
trimmed_stands side index line step other is trimmed =
    subst (StandsFor line) (sym trimmed.other_is) (record {
      is = record { name = is.name; raw = line_raw (value line.raw) (value_line line.raw is.raw) };
      name = refl;
      text = value_itself line.raw;
      short_name = omega arith;
      short_raw = value_short line.raw;
    })

-- what a line becomes that isn't clean stands for it
pub cleaned_stands : (side : Side) (index : ℕ) (line : FieldLine) (step : LineRewrite) (other : FieldLine) → IsLine line
    → IsLowered side index line step other ⊎ IsUnfoldedFirst side index line step other ⊎ IsTrimmed side index line step other → StandsFor line other
cleaned_stands side index line step other is (inl lowered) = lowered_stands side index line step other is lowered
cleaned_stands side index line step other is (inr (inl first)) = unfolded_stands side index line step other is first
cleaned_stands side index line step other is (inr (inr trimmed)) = trimmed_stands side index line step other is trimmed

-- the line of a step that cleans is one, and what it becomes stands for it
pub clean_stands : (side : Side) (lines : List FieldLine) (step : LineRewrite) (others : List FieldLine) → All IsLine lines → (cleans : Cleans side lines step others)
    → StandsFor cleans.line cleans.other
clean_stands side lines step others each cleans =
    let parts = around_line IsLine lines cleans.before cleans.line cleans.after cleans.lines_are each in
    cleaned_stands side (length cleans.before) cleans.line step cleans.other parts.here cleans.becomes

pub cleans_keep : (side : Side) (params : SigParams) (lines : List FieldLine) (step : LineRewrite) (others : List FieldLine) → All IsLine lines → Cleans side lines step others
    → KeepsLines side params lines others
cleans_keep side params lines step others each cleans =
    keeps_of side params lines others (cleans.before ++ cleans.line ∷ cleans.after) (cleans.before ++ cleans.other ∷ cleans.after) cleans.lines_are cleans.others_are
    (replaced_keeps side params cleans.before cleans.line cleans.other cleans.after (subst (All IsLine) cleans.lines_are each) (clean_stands side lines step others each cleans))

-- ---- lines that are joined

-- the text of both values, with a comma and a space between them
abbrev pub joined_raw : FieldLine → FieldLine → List ℕ
joined_raw line next = value line.raw ++ (codes ", " ++ value next.raw)

-- the line that `join` makes of both
abbrev pub spaced_line : FieldLine → FieldLine → FieldLine
spaced_line line next = line_of line.name (joined_raw line next)

-- that line without the space before its value
abbrev pub joined_line : FieldLine → FieldLine → FieldLine
joined_line line next = record { name = line.name; raw = joined_raw line next }

-- the lines between `join` and `pad`
abbrev pub spaced_lines : (side : Side) (params : SigParams) (lines : List FieldLine) (pair : ℕ × ℕ) (others : List FieldLine) → Joins side params lines pair others → List FieldLine
spaced_lines side params lines pair others joins = joins.before ++ spaced_line joins.line joins.next ∷ (joins.between ++ joins.after)

-- each of the lines, where some are joined
pub record JoinedParts (before : List FieldLine) (line : FieldLine) (between : List FieldLine) (next : FieldLine) (after : List FieldLine) : Type 0 where
  pub first : All IsLine before
  pub here : IsLine line
  pub middle : All IsLine between
  pub there : IsLine next
  pub last : All IsLine after

pub joined_parts : (side : Side) (params : SigParams) (lines : List FieldLine) (pair : ℕ × ℕ) (others : List FieldLine) → All IsLine lines → (joins : Joins side params lines pair others)
    → JoinedParts joins.before joins.line joins.between joins.next joins.after
joined_parts side params lines pair others each joins =
    let one = around_line IsLine lines joins.before joins.line (joins.between ++ joins.next ∷ joins.after) joins.lines_are each in
    let two = around_line IsLine (joins.between ++ joins.next ∷ joins.after) joins.between joins.next joins.after refl one.last in
    record { first = one.first; here = one.here; middle = two.first; there = two.here; last = two.last }

-- the bytes of the text of both values
pub joined_bytes : (line next : FieldLine) → IsLine line → IsLine next → list_all is_line_byte (joined_raw line next) ≡ true
joined_bytes line next a b = joined_line_bytes line.raw next.raw a.raw b.raw

spaced_is : (line next : FieldLine) → IsLine line → IsLine next → IsLine (spaced_line line next)
spaced_is line next a b = record { name = a.name; raw = line_raw (byte " " ∷ joined_raw line next) (joined_bytes line next a b) }

spaced_size : (line next : FieldLine) → length (spaced_line line next).raw ≤ length line.raw + length next.raw + 3
spaced_size line next =
    let whole = length-append (value line.raw) (codes ", " ++ value next.raw) in
    let one = value_short line.raw in
    let two = value_short next.raw in
    omega (arith, whole, one, two)

-- `join` keeps lines
pub join_keeps : (side : Side) (params : SigParams) (lines : List FieldLine) (pair : ℕ × ℕ) (others : List FieldLine) → All IsLine lines → (joins : Joins side params lines pair others)
    → KeepsLines side params lines (spaced_lines side params lines pair others joins)
join_keeps side params lines pair others each joins =
    let before = joins.before in
    let line = joins.line in
    let between = joins.between in
    let next = joins.next in
    let after = joins.after in
    let parts = joined_parts side params lines pair others each joins in
    let new = spaced_line line next in
    let is = spaced_is line next parts.here parts.there in
    let two = before ++ line ∷ (between ++ next ∷ after) in
    let one = before ++ new ∷ (between ++ after) in
    let same = takes_line_for_two before between after new line next refl joins.same joins.none_between (is_value_of_joined line.raw next.raw joins.some) in
    let long = length-append before (line ∷ (between ++ next ∷ after)) in
    let long_rest = length-append between (next ∷ after) in
    let short = length-append before (new ∷ (between ++ after)) in
    let short_rest = length-append between after in
    let large = size_around before line (between ++ next ∷ after) in
    let large_rest = size_around between next after in
    let small = size_around before new (between ++ after) in
    let small_rest = size_parts between after in
    let raws = spaced_size line next in
    keeps_of side params lines one two one joins.lines_are refl (record {
      each = put_around IsLine before new (between ++ after) parts.first is (All-append IsLine between after parts.middle parts.last);
      count = omega (arith, long, long_rest, short, short_rest);
      size = omega (arith, large, large_rest, small, small_rest, raws);
      counted = λ name is_counted. (same name).1 (other_name (is_listed counted_names) new name joins.may.counted is_counted);
      fields = λ name kept. (same name).0;
      wrapped = λ name covered. (same name).1 (other_name (λ (text : List ℕ). covers_lines side text params) new name joins.may.covered covered);
    })

spaced_stands : (line next : FieldLine) → IsLine line → IsLine next → StandsFor (spaced_line line next) (joined_line line next)
spaced_stands line next a b = record {
  is = record { name = a.name; raw = line_raw (joined_raw line next) (joined_bytes line next a b) };
  name = refl;
  text = sym (value_after_space (joined_raw line next));
  short_name = omega arith;
  short_raw = omega arith;
}

-- so does the `pad` after it
pub pad_keeps : (side : Side) (params : SigParams) (lines : List FieldLine) (pair : ℕ × ℕ) (others : List FieldLine) → All IsLine lines → (joins : Joins side params lines pair others)
    → KeepsLines side params (spaced_lines side params lines pair others joins) others
pad_keeps side params lines pair others each joins =
    let parts = joined_parts side params lines pair others each joins in
    let rest = joins.between ++ joins.after in
    let one = joins.before ++ spaced_line joins.line joins.next ∷ rest in
    keeps_of side params one others one (joins.before ++ joined_line joins.line joins.next ∷ rest) refl joins.others_are
    (replaced_keeps side params joins.before (spaced_line joins.line joins.next) (joined_line joins.line joins.next) rest (join_keeps side params lines pair others each joins).each
    (spaced_stands joins.line joins.next parts.here parts.there))

-- and both
pub joins_keep : (side : Side) (params : SigParams) (lines : List FieldLine) (pair : ℕ × ℕ) (others : List FieldLine) → All IsLine lines → Joins side params lines pair others
    → KeepsLines side params lines others
joins_keep side params lines pair others each joins =
    keeps_then side params lines (spaced_lines side params lines pair others joins) others (join_keeps side params lines pair others each joins) (pad_keeps side params lines pair others each joins)
