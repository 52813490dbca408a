-- What a rewriting of the lines of one name keeps of every other name.
use Rattle.std.proofs.Common.{◌≡◌, ◌≢◌, ℕ, Bool, false, not, ◌||◌, List, [], ◌∷◌, ◌++◌, codes, refl, sym, ◌∙◌, ap, inl, inr}
use Rattle.std.specs.Prelude.{filter}
use Rattle.std.proofs.lemmas.Bool.{cases_Bool}
use Rattle.std.proofs.lemmas.Slice.Eq.{bytes_eq-Decides}
use Rattle.msg_head.specs.Lines.{FieldLine}
use Rattle.msg_head.specs.Names.{has_name}
use Rattle.msg_head.specs.Values.{is_there, value, values}
use Rattle.msg_body.specs.SameFields.{HasSameValues, name_of}
use Rattle.msg_body.proofs.LineLists.{keeps_other_names_around}
use Rattle.line_rewrites.specs.LineLists.{line_of}
use Rattle.whole_rewrites.specs.Lines.{IsInOneLine, IsOtherHost}

-- ---- lists that have the same of a name

pub same_values_of : (lines others xs ys : List FieldLine) (name : List ℕ) → lines ≡ xs → others ≡ ys → HasSameValues xs ys name → HasSameValues lines others name
same_values_of lines others xs ys name lines_are others_are same = record {
  there = ap (λ (ls : List FieldLine). is_there ls name) others_are ∙ (same.there ∙ ap (λ (ls : List FieldLine). is_there ls name) (sym lines_are));
  same = ap (λ (ls : List FieldLine). values ls name) others_are ∙ (same.same ∙ ap (λ (ls : List FieldLine). values ls name) (sym lines_are));
}

pub values_turned : (lines others : List FieldLine) (name : List ℕ) → HasSameValues lines others name → HasSameValues others lines name
values_turned lines others name same = record { there = sym same.there; same = sym same.same }

pub values_over : (lines others more : List FieldLine) (name : List ℕ) → HasSameValues lines others name → HasSameValues others more name → HasSameValues lines more name
values_over lines others more name one other = record { there = other.there ∙ one.there; same = other.same ∙ one.same }

pub values_itself : (lines : List FieldLine) (name : List ℕ) → HasSameValues lines lines name
values_itself lines name = record { there = refl; same = refl }

-- behind one line, and behind many
behind_line : (line : FieldLine) (lines others : List FieldLine) (name : List ℕ) → HasSameValues lines others name → HasSameValues (line ∷ lines) (line ∷ others) name
behind_line line lines others name same = record {
  there = ap (λ (b : Bool). has_name name line || b) same.there;
  same = elim (cases_Bool (has_name name line)) [
    | inl is ↦ rw is (ap (λ (vs : List (List ℕ)). value line.raw ∷ vs) same.same)
    | inr none ↦ rw none same.same
  ];
}

pub behind : (before lines others : List FieldLine) (name : List ℕ) → HasSameValues lines others name → HasSameValues (before ++ lines) (before ++ others) name
behind [] lines others name same = same
behind (line ∷ before) lines others name same = behind_line line (before ++ lines) (before ++ others) name (behind before lines others name same)

-- ---- names

-- a line of the one name doesn't have another
pub has_no_other : (line : FieldLine) (name other : List ℕ) → name_of line ≡ name → other ≢ name → has_name other line ≡ false
has_no_other line name other named differ = elim (cases_Bool (has_name other line)) [
  | inl is ↦ absurd (differ (sym ((bytes_eq-Decides (name_of line) other).0 is) ∙ named))
  | inr none ↦ none
]

-- ---- one line

-- two lines that don't have the name stand for each other
swapped : (before after : List FieldLine) (line new : FieldLine) (name : List ℕ) → has_name name line ≡ false → has_name name new ≡ false
    → HasSameValues (before ++ line ∷ after) (before ++ new ∷ after) name
swapped before after line new name none none_too =
    values_over (before ++ line ∷ after) (before ++ after) (before ++ new ∷ after) name
    (values_turned (before ++ after) (before ++ line ∷ after) name (keeps_other_names_around before after line name none))
    (keeps_other_names_around before after new name none_too)

pub keeps_others_than_host : (text other : List ℕ) (lines replaced : List FieldLine) → IsOtherHost text lines replaced → other ≢ codes "host" → HasSameValues lines replaced other
keeps_others_than_host text other lines replaced is differ =
    let none = has_no_other is.line (codes "host") other is.named differ in
    same_values_of lines replaced (is.before ++ is.line ∷ is.after) (is.before ++ is.other ∷ is.after) other is.lines_are is.replaced_are
    (swapped is.before is.after is.line is.other other none (ap (λ (l : FieldLine). has_name other l) is.becomes ∙ none))

-- ---- all lines of a name

-- the lines without those of the name
abbrev pub without : List ℕ → List FieldLine → List FieldLine
without name lines = filter (λ other. not (has_name name other)) lines

pub keeps_others_without : (name other : List ℕ) (lines : List FieldLine) → other ≢ name → HasSameValues lines (without name lines) other
keeps_others_without name other [] differ = values_itself [] other
keeps_others_without name other (line ∷ lines) differ =
    let rest = keeps_others_without name other lines differ in elim (cases_Bool (has_name name line)) [
      | inl is ↦
          let named : name_of line ≡ name = (bytes_eq-Decides (name_of line) name).0 is in
          let none = has_no_other line name other named differ in
          let left : without name (line ∷ lines) ≡ without name lines = rw is refl in
          same_values_of (line ∷ lines) (without name (line ∷ lines)) (line ∷ lines) (without name lines) other refl left
          (values_over (line ∷ lines) lines (without name lines) other
          (values_turned lines (line ∷ lines) other (keeps_other_names_around [] lines line other none)) rest)
      | inr not_named ↦
          let left : without name (line ∷ lines) ≡ line ∷ without name lines = rw not_named refl in
          same_values_of (line ∷ lines) (without name (line ∷ lines)) (line ∷ lines) (line ∷ without name lines) other refl left
          (behind_line line lines (without name lines) other rest)
    ]

pub keeps_others_in_one_line : (name text other : List ℕ) (lines fewer : List FieldLine) → IsInOneLine name text lines fewer → other ≢ name → HasSameValues lines fewer other
keeps_others_in_one_line name text other lines fewer is differ =
    let none = has_no_other is.line name other is.named differ in
    let new = line_of is.line.name text in
    let rest = without name is.after in
    same_values_of lines fewer (is.before ++ is.line ∷ is.after) (is.before ++ new ∷ rest) other is.lines_are is.fewer_are
    (values_over (is.before ++ is.line ∷ is.after) (is.before ++ is.line ∷ rest) (is.before ++ new ∷ rest) other
    (behind is.before (is.line ∷ is.after) (is.line ∷ rest) other (behind_line is.line is.after rest other (keeps_others_without name other is.after differ)))
    (swapped is.before rest is.line new other none none))
