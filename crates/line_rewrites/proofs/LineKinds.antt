-- Rewritings of several lines: what they keep of each name.
use Rattle.std.proofs.Common.{◌≡◌, ℕ, ◌≤◌, true, false, List, [], ◌∷◌, ◌++◌, length, codes, refl, sym, ◌∙◌, ap, inl, inr, arith, append_assoc, length-append}
use Rattle.std.specs.Prelude.{⊤, IsFalse, IsSomeAnd, slice_get}
use Rattle.std.specs.Str.{byte}
use Rattle.std.proofs.lemmas.List.{append-nil}
use Rattle.msg_head.specs.Lines.{FieldLine}
use Rattle.msg_head.specs.Names.{has_name}
use Rattle.msg_head.specs.Values.{has_bytes, is_there, value}
use Rattle.msg_body.specs.SameFields.{HasSameField, HasSameValues, name_of}
use Rattle.msg_body.proofs.LineLists.{keeps_other_names_around, forgets_order_of_names, takes_line_for_two}
use Rattle.msg_body.proofs.ValueLaws.{forgets_spacing_at_ends, is_value_of_parts, is_value_of_itself, is_value_of_joined}
use Rattle.line_rewrites.specs.LineLists.{line_of, IsJoined, IsSplit, IsAdded, IsRemoved, Passes, IsMoved, PassesOtherNames}
use Rattle.line_rewrites.specs.RawValues.{IsBeforeLoneSpace}
use Rattle.line_rewrites.proofs.ListParts.{holds_at, parts_at, parts_around}
use Rattle.line_rewrites.proofs.SameLists.{same_values_of, same_field_of, values_turned, field_turned}

-- ---- one more line, or one less

pub added : (index : ℕ) (line : FieldLine) (lines longer : List FieldLine) → IsAdded index line lines longer → (name : List ℕ) → has_name name line ≡ false
    → HasSameValues lines longer name
added index line lines longer is name not =
    same_values_of lines longer (is.before ++ is.after) (is.before ++ line ∷ is.after) name is.lines_are is.longer_are
    (keeps_other_names_around is.before is.after line name not)

pub removed : (index : ℕ) (lines shorter : List FieldLine) (is : IsRemoved index lines shorter) (name : List ℕ) → has_name name is.0 ≡ false
    → HasSameValues lines shorter name
removed index lines shorter is name not = values_turned shorter lines name (added index is.0 shorter lines is.1 name not)

-- what holds of the line that goes
pub of_removed : (Holds : FieldLine → Type 0) (index : ℕ) (lines shorter : List FieldLine) (is : IsRemoved index lines shorter)
    → IsSomeAnd (slice_get lines index) Holds → Holds is.0
of_removed Holds index lines shorter is holds = holds_at Holds lines is.1.before is.0 is.1.after index is.1.longer_are is.1.there holds

-- ---- two lines of a name, or one

-- All names have the same combined values. But for the name of a line, they have the same values.
pub record KeepsFields (line : FieldLine) (lines others : List FieldLine) : Type 0 where
  pub combined : (name : List ℕ) → HasSameField lines others name
  pub values : (name : List ℕ) → has_name name line ≡ false → HasSameValues lines others name

pub joined : (index later : ℕ) (lines others : List FieldLine) (is : IsJoined index later lines others) → has_bytes (value is.other.raw) ≡ true
    → KeepsFields is.line lines others
joined index later lines others is full =
    let two = is.before ++ is.line ∷ (is.between ++ is.other ∷ is.after) in
    let line = line_of is.line.name (value is.line.raw ++ (codes ", " ++ value is.other.raw)) in
    let one = is.before ++ line ∷ (is.between ++ is.after) in
    let same = takes_line_for_two is.before is.between is.after line is.line is.other refl is.same is.none_between (is_value_of_joined is.line.raw is.other.raw full) in
    record {
      combined = λ name. same_field_of lines others two one name is.lines_are is.joined_are (same name).0;
      values = λ name not. same_values_of lines others two one name is.lines_are is.joined_are ((same name).1 not);
    }

-- what holds of the line that stays, and of the later one
pub of_joined : (Holds : FieldLine → Type 0) (index later : ℕ) (lines others : List FieldLine) (is : IsJoined index later lines others)
    → IsSomeAnd (slice_get lines index) Holds → Holds is.line
of_joined Holds index later lines others is holds = holds_at Holds lines is.before is.line (is.between ++ is.other ∷ is.after) index is.lines_are is.there holds

pub of_later : (Holds : FieldLine → Type 0) (index later : ℕ) (lines others : List FieldLine) (is : IsJoined index later lines others)
    → IsSomeAnd (slice_get lines later) Holds → Holds is.other
of_later Holds index later lines others is holds =
    holds_at Holds lines (is.before ++ is.line ∷ is.between) is.other is.after later
    (is.lines_are ∙ sym (append_assoc is.before (is.line ∷ is.between) (is.other ∷ is.after)))
    (omega (arith, is.later_there, length-append is.before (is.line ∷ is.between))) holds

-- the value of a line is that of its two parts, with a comma and a space between them
parts_value : (raw first last : List ℕ) (offset : ℕ) → raw ≡ first ++ byte "," ∷ last → offset ≡ length first → IsBeforeLoneSpace offset raw
    → value raw ≡ value first ++ (codes ", " ++ value last)
parts_value raw first last offset raw_is there lone =
    let same = parts_around first (byte ",") last lone.before lone.c (byte " " ∷ lone.after) (sym there ∙ lone.there) (sym raw_is ∙ lone.joined) in
    let rest : value last ≡ value lone.after =
    ap value same.2 ∙ (ap (λ (t : List ℕ). value (byte " " ∷ t)) (sym (append-nil lone.after)) ∙ forgets_spacing_at_ends (codes " ") lone.after [] refl refl) in
    ap value raw_is
    ∙ (ap (λ (l : List ℕ). value (first ++ byte "," ∷ l)) same.2
    ∙ (ap (λ (b : List ℕ). value (b ++ (codes ", " ++ lone.after))) same.0
    ∙ (is_value_of_parts lone.before lone.after lone.ends lone.begins
    ∙ (ap (λ (b : List ℕ). value b ++ (codes ", " ++ value lone.after)) (sym same.0) ∙ ap (λ (v : List ℕ). value first ++ (codes ", " ++ v)) (sym rest)))))

pub split : (index offset : ℕ) (lines others : List FieldLine) (is : IsSplit index offset lines others) → IsBeforeLoneSpace offset is.line.raw
    → KeepsFields is.line lines others
split index offset lines others is lone =
    let one = line_of is.line.name (value is.first) in
    let other = line_of is.line.name (value is.last) in
    let two = is.before ++ one ∷ other ∷ is.after in
    let texts : value is.line.raw ≡ value one.raw ++ (codes ", " ++ value other.raw) =
    parts_value is.line.raw is.first is.last offset is.raw_is is.comma_there lone
    ∙ (ap (λ (v : List ℕ). v ++ (codes ", " ++ value is.last)) (sym (is_value_of_itself is.first))
    ∙ ap (λ (v : List ℕ). value one.raw ++ (codes ", " ++ v)) (sym (is_value_of_itself is.last))) in
    let same = takes_line_for_two is.before [] is.after is.line one other refl refl refl texts in
    record {
      combined = λ name. same_field_of lines others (is.before ++ is.line ∷ is.after) two name is.lines_are is.split_are
          (field_turned two (is.before ++ is.line ∷ is.after) name (same name).0);
      values = λ name not. same_values_of lines others (is.before ++ is.line ∷ is.after) two name is.lines_are is.split_are
          (values_turned two (is.before ++ is.line ∷ is.after) name ((same name).1 not));
    }

pub of_split : (Holds : FieldLine → Type 0) (index offset : ℕ) (lines others : List FieldLine) (is : IsSplit index offset lines others)
    → IsSomeAnd (slice_get lines index) Holds → Holds is.line
of_split Holds index offset lines others is holds = holds_at Holds lines is.before is.line is.after index is.lines_are is.there holds

-- ---- the order of lines

-- whatever lines it passes
abbrev Any : FieldLine → List FieldLine → Type 0
Any line passed = ⊤

-- none of them has its name
abbrev Others : FieldLine → List FieldLine → Type 0
Others line passed = IsFalse (is_there passed (name_of line))

passes : (index to : ℕ) (lines moved : List FieldLine) (is : Passes Any index to lines moved) → Others is.line is.passed → (name : List ℕ) → HasSameValues lines moved name
passes index to lines moved is none name =
    same_values_of lines moved (is.before ++ is.line ∷ (is.passed ++ is.after)) (is.before ++ (is.passed ++ is.line ∷ is.after)) name is.lines_are is.moved_are
    (forgets_order_of_names is.before is.passed is.after is.line name none)

same_passed : (one other : FieldLine) (passed others : List FieldLine) → one ≡ other → passed ≡ others → Others other others → Others one passed
same_passed one other passed others line_is passed_are none =
    ap (λ (ls : List FieldLine). is_there ls (name_of one)) passed_are ∙ (ap (λ (l : FieldLine). is_there others (name_of l)) line_is ∙ none)

-- towards the end, by two accounts
forwards : (index to : ℕ) (lines moved others : List FieldLine) (is : Passes Any index to lines moved) → Passes Others index to lines others → Others is.line is.passed
forwards index to lines moved others is by =
    let same = parts_around is.before is.line (is.passed ++ is.after) by.before by.line (by.passed ++ by.after) (sym is.there ∙ by.there) (sym is.lines_are ∙ by.lines_are) in
    let long : length is.passed ≡ length by.passed = omega (arith, is.there, by.there, is.to_there, by.to_there) in
    same_passed is.line by.line is.passed by.passed same.1 (parts_at is.passed is.after by.passed by.after long same.2).0 by.allows

-- towards the start, by two accounts
backwards : (index to : ℕ) (lines moved others : List FieldLine) (is : Passes Any to index moved lines) → Passes Others to index others lines → Others is.line is.passed
backwards index to lines moved others is by =
    let same = parts_at is.before (is.passed ++ is.line ∷ is.after) by.before (by.passed ++ by.line ∷ by.after) (sym is.there ∙ by.there) (sym is.moved_are ∙ by.moved_are) in
    let long : length is.passed ≡ length by.passed = omega (arith, is.there, by.there, is.to_there, by.to_there) in
    let rest = parts_around is.passed is.line is.after by.passed by.line by.after long same.1 in
    same_passed is.line by.line is.passed by.passed rest.1 rest.0 by.allows

no_elements : (lines : List FieldLine) → length lines ≤ 0 → lines ≡ []
no_elements [] none = refl
no_elements (line ∷ lines) none = absurd (omega (arith, none))

-- it passes nothing, where it goes both ways
stays : (is : FieldLine) (passed : List FieldLine) → length passed ≤ 0 → Others is passed
stays is passed none = ap (λ (ls : List FieldLine). is_there ls (name_of is)) (no_elements passed none)

pub moved_same : (index to : ℕ) (lines moved : List FieldLine) → IsMoved index to lines moved → PassesOtherNames index to lines → (name : List ℕ) → HasSameValues lines moved name
moved_same index to lines moved is by name = elim is [
  | inl one ↦ passes index to lines moved one
      (elim by.1 [
        | inl other ↦ forwards index to lines moved by.0 one other
        | inr other ↦ stays one.line one.passed (omega (arith, one.there, one.to_there, other.there, other.to_there))
      ])
      name
  | inr one ↦ values_turned moved lines name (passes to index moved lines one
      (elim by.1 [
        | inl other ↦ stays one.line one.passed (omega (arith, one.there, one.to_there, other.there, other.to_there))
        | inr other ↦ backwards index to lines moved by.0 one other
      ])
      name)
]
