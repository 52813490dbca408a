-- Normal lines of a name, which their values determine; where such lines may be joined, their combined value does.
use Rattle.std.proofs.Common.{◌≡◌, ℕ, Bool, true, false, ◌||◌, List, [], ◌∷◌, ◌++◌, codes, refl, sym, subst, ap, ◌∙◌, inl, inr, append_assoc}
use Rattle.std.specs.Prelude.{⊤, map, filter, reverse}
use Rattle.std.specs.List.{All, flat_map, join_by}
use Rattle.std.specs.Str.{byte}
use Rattle.std.proofs.lemmas.Bool.{both_ways, cases_Bool, false≢true, or_left, or_right}
use Rattle.std.proofs.lemmas.List.{append-nil, reverse-append, reverse-reverse}
use Rattle.std.proofs.lemmas.List.Elements.{All-head, All-tail}
use Rattle.std.proofs.lemmas.List.Folds.{list_any-append}
use Rattle.std.proofs.lemmas.Slice.Eq.{bytes_eq-Decides}
use Rattle.byte_grammar.specs.Classes.{is_blank}
use Rattle.byte_grammar.specs.Language.{starts_in}
use Rattle.msg_head.specs.Lines.{FieldLine}
use Rattle.msg_head.specs.Names.{has_name}
use Rattle.msg_head.specs.Values.{is_there, value, values}
use Rattle.msg_head.specs.declared.error.Side.{Side}
use Rattle.msg_body.specs.SameFields.{HasSameField, HasSameValues, name_of}
use Rattle.msg_body.specs.Spacing.{ends_in}
use Rattle.msg_body.proofs.ValueLaws.{has_no_blank_at_ends}
use Rattle.component_ids.specs.declared.params.SigParams.{SigParams}
use Rattle.line_rewrites.specs.Permitted.{MayChangeNumber}
use Rattle.normal_forms.specs.NormalLines.{AreNormalLines, IsClean, IsJoined, IsKept, is_kept}

-- ---- texts of which only the first may not be empty

abbrev pub AreEmpty : List (List ℕ) → Type 0
AreEmpty [] = ⊤
AreEmpty (text ∷ texts) = (text ≡ []) × AreEmpty texts

-- only the first may have bytes
abbrev pub AreFew : List (List ℕ) → Type 0
AreFew [] = ⊤
AreFew (text ∷ texts) = AreEmpty texts

-- the first doesn't end with a blank
abbrev pub HasSolidEnd : List (List ℕ) → Type 0
HasSolidEnd [] = ⊤
HasSolidEnd (text ∷ texts) = ends_in is_blank text ≡ false

abbrev pub has_some : List (List ℕ) → Bool
has_some [] = false
has_some (text ∷ texts) = true

-- the texts joined by a comma and a space
abbrev joined : List (List ℕ) → List ℕ
joined texts = join_by (λ (text : List ℕ). text) (codes ", ") texts

-- the texts, each after these
abbrev further : List (List ℕ) → List ℕ
further texts = flat_map (λ (text : List ℕ). codes ", " ++ text) texts

-- SP and a comma, once for each of the texts, before another text
abbrev turned : List (List ℕ) → List ℕ → List ℕ
turned [] text = text
turned (other ∷ others) text = byte " " ∷ byte "," ∷ turned others text

turned_more : (texts : List (List ℕ)) (text : List ℕ) → turned texts (byte " " ∷ byte "," ∷ text) ≡ byte " " ∷ byte "," ∷ turned texts text
turned_more [] text = refl
turned_more (other ∷ others) text = ap (λ (t : List ℕ). byte " " ∷ byte "," ∷ t) (turned_more others text)

joined_turned : (text : List ℕ) (texts : List (List ℕ)) → AreEmpty texts → reverse (text ++ further texts) ≡ turned texts (reverse text)
joined_turned text [] empty = ap (λ (t : List ℕ). reverse t) (append-nil text)
joined_turned text (other ∷ others) empty =
    let first : text ++ further (other ∷ others) ≡ (text ++ codes ", ") ++ further others =
    ap (λ (t : List ℕ). text ++ ((codes ", " ++ t) ++ further others)) empty.0 ∙ sym (append_assoc text (codes ", ") (further others)) in
    ap (λ (t : List ℕ). reverse t) first
    ∙ (joined_turned (text ++ codes ", ") others empty.1
    ∙ (ap (λ (t : List ℕ). turned others t) (reverse-append text (codes ", ")) ∙ turned_more others (reverse text)))

abbrev left : List ℕ → List ℕ
left [] = []
left (c ∷ rest) = rest

one_turned : (xs ys : List (List ℕ)) (one other : List ℕ) → AreEmpty xs → AreEmpty ys → starts_in is_blank one ≡ false → starts_in is_blank other ≡ false
    → turned xs one ≡ turned ys other → (xs ≡ ys) × (one ≡ other)
one_turned [] [] one other a b first second same = (refl, same)
one_turned [] (y ∷ ys) one other a b first second same = absurd (both_ways (starts_in is_blank one) first (ap (starts_in is_blank) same))
one_turned (x ∷ xs) [] one other a b first second same = absurd (both_ways (starts_in is_blank other) second (ap (starts_in is_blank) (sym same)))
one_turned (x ∷ xs) (y ∷ ys) one other a b first second same =
    let rest = one_turned xs ys one other a.1 b.1 first second (ap (λ (t : List ℕ). left (left t)) same) in
    (ap (λ (t : List ℕ). t ∷ xs) (a.0 ∙ sym b.0) ∙ ap (λ (ts : List (List ℕ)). y ∷ ts) rest.0, rest.1)

-- two lists of such texts are one where both have some or neither has, and the joined text is one
pub one_list : (xs ys : List (List ℕ)) → HasSolidEnd xs → HasSolidEnd ys → AreFew xs → AreFew ys → has_some ys ≡ has_some xs → joined ys ≡ joined xs → ys ≡ xs
one_list [] [] a b c d some same = refl
one_list [] (y ∷ ys) a b c d some same = absurd (false≢true (sym some))
one_list (x ∷ xs) [] a b c d some same = absurd (false≢true some)
one_list (x ∷ xs) (y ∷ ys) a b c d some same =
    let both = one_turned ys xs (reverse y) (reverse x) d c b a (sym (joined_turned y ys d) ∙ (ap (λ (t : List ℕ). reverse t) same ∙ joined_turned x xs c)) in
    let first : y ≡ x = sym (reverse-reverse y) ∙ (ap (λ (t : List ℕ). reverse t) both.1 ∙ reverse-reverse x) in
    ap (λ (t : List ℕ). t ∷ ys) first ∙ ap (λ (ts : List (List ℕ)). x ∷ ts) both.0

-- ---- a name that lines have, or don't

line_there : (line : FieldLine) (lines : List FieldLine) (name : List ℕ) → has_name name line ≡ true → is_there (line ∷ lines) name ≡ true
line_there line lines name is = rw is refl

line_not_there : (line : FieldLine) (lines : List FieldLine) (name : List ℕ) → has_name name line ≡ false → is_there (line ∷ lines) name ≡ is_there lines name
line_not_there line lines name lacks = rw lacks refl

line_of_name : (line : FieldLine) (lines : List FieldLine) (name : List ℕ) → has_name name line ≡ true → filter (has_name name) (line ∷ lines) ≡ line ∷ filter (has_name name) lines
line_of_name line lines name is = rw is refl

no_line_of_name : (line : FieldLine) (lines : List FieldLine) (name : List ℕ) → has_name name line ≡ false → filter (has_name name) (line ∷ lines) ≡ filter (has_name name) lines
no_line_of_name line lines name lacks = rw lacks refl

line_value : (line : FieldLine) (lines : List FieldLine) (name : List ℕ) → has_name name line ≡ true → values (line ∷ lines) name ≡ value line.raw ∷ values lines name
line_value line lines name is = rw is refl

no_value : (line : FieldLine) (lines : List FieldLine) (name : List ℕ) → has_name name line ≡ false → values (line ∷ lines) name ≡ values lines name
no_value line lines name lacks = rw lacks refl

name_is : (name : List ℕ) (line : FieldLine) → has_name name line ≡ true → name_of line ≡ name
name_is name line is = (bytes_eq-Decides (name_of line) name).0 is

-- a line has the name exactly where there is a value
there_by_values : (lines : List FieldLine) (name : List ℕ) → is_there lines name ≡ has_some (values lines name)
there_by_values [] name = refl
there_by_values (line ∷ lines) name = elim (cases_Bool (has_name name line)) [
  | inl is ↦ line_there line lines name is ∙ ap has_some (sym (line_value line lines name is))
  | inr lacks ↦ line_not_there line lines name lacks ∙ (there_by_values lines name ∙ ap has_some (sym (no_value line lines name lacks)))
]

values_solid : (lines : List FieldLine) (name : List ℕ) → HasSolidEnd (values lines name)
values_solid [] name = tt
values_solid (line ∷ lines) name = elim (cases_Bool (has_name name line)) [
  | inl is ↦ subst HasSolidEnd (sym (line_value line lines name is)) (has_no_blank_at_ends line.raw).1
  | inr lacks ↦ subst HasSolidEnd (sym (no_value line lines name lacks)) (values_solid lines name)
]

module _ (lines others : List FieldLine) (name : List ℕ) where
  -- lists with the same values have lines of the name, or neither has
  pub of_values : values others name ≡ values lines name → HasSameValues lines others name
  of_values same = record {
    there = there_by_values others name ∙ (ap has_some same ∙ sym (there_by_values lines name));
    same = same;
  }

  pub of_lines : filter (has_name name) others ≡ filter (has_name name) lines → HasSameValues lines others name
  of_lines same = of_values (ap (λ (ls : List FieldLine). map (λ (line : FieldLine). value line.raw) ls) same)

  pub as_field : HasSameValues lines others name → HasSameField lines others name
  as_field same = record { there = same.there; combined = ap joined same.same }

module _ (lines normal others another : List FieldLine) (name : List ℕ) where
  -- what changes neither list for the name leaves the two the same for it
  pub values_between : HasSameValues lines normal name → HasSameValues others another name → HasSameValues lines others name → HasSameValues normal another name
  values_between one other same = record {
    there = other.there ∙ (same.there ∙ sym one.there);
    same = other.same ∙ (same.same ∙ sym one.same);
  }

  pub field_between : HasSameField lines normal name → HasSameField others another name → HasSameField lines others name → HasSameField normal another name
  field_between one other same = record {
    there = other.there ∙ (same.there ∙ sym one.there);
    combined = other.combined ∙ (same.combined ∙ sym one.combined);
  }

  pub values_around : HasSameValues lines normal name → HasSameValues others another name → HasSameValues normal another name → HasSameValues lines others name
  values_around one other same = record {
    there = sym other.there ∙ (same.there ∙ one.there);
    same = sym other.same ∙ (same.same ∙ one.same);
  }

  pub field_around : HasSameField lines normal name → HasSameField others another name → HasSameField normal another name → HasSameField lines others name
  field_around one other same = record {
    there = sym other.there ∙ (same.there ∙ one.there);
    combined = sym other.combined ∙ (same.combined ∙ one.combined);
  }

-- ---- lines that may be joined

module _ (side : Side) (params : SigParams) (name : List ℕ) (may : MayChangeNumber side name params) where
  may_of_line : (line : FieldLine) → has_name name line ≡ true → MayChangeNumber side (name_of line) params
  may_of_line line is = subst (λ (n : List ℕ). MayChangeNumber side n params) (sym (name_is name line is)) may

  -- the line among those that were passed
  passed : (before : List FieldLine) (line : FieldLine) (lines : List FieldLine) → IsJoined side params (before ++ line ∷ lines) → IsJoined side params ((before ++ line ∷ []) ++ lines)
  passed before line lines are = subst (λ (ls : List FieldLine). IsJoined side params ls) (sym (append_assoc before (line ∷ []) lines)) are

  passed_there : (before : List FieldLine) (line : FieldLine) → (is_there before name || is_there (line ∷ []) name) ≡ true → is_there (before ++ line ∷ []) name ≡ true
  passed_there before line there = list_any-append (has_name name) before (line ∷ []) ∙ there

  after_first : (before lines : List FieldLine) → IsJoined side params (before ++ lines) → is_there before name ≡ true → AreEmpty (values lines name)
  after_first before [] are there = tt
  after_first before (line ∷ lines) are there =
      let rest = after_first (before ++ line ∷ []) lines (passed before line lines are) (passed_there before line (or_left (is_there before name) (is_there (line ∷ []) name) there)) in
      elim (cases_Bool (has_name name line)) [
        | inl is ↦
            let empty = are before line lines refl (may_of_line line is) (ap (is_there before) (name_is name line is) ∙ there) in
            subst AreEmpty (sym (line_value line lines name is)) (empty, rest)
        | inr lacks ↦ subst AreEmpty (sym (no_value line lines name lacks)) rest
      ]

  few_after : (before lines : List FieldLine) → IsJoined side params (before ++ lines) → AreFew (values lines name)
  few_after before [] are = tt
  few_after before (line ∷ lines) are = elim (cases_Bool (has_name name line)) [
    | inl is ↦ subst AreFew (sym (line_value line lines name is))
        (after_first (before ++ line ∷ []) lines (passed before line lines are)
        (passed_there before line (or_right (is_there before name) (is_there (line ∷ []) name) (line_there line [] name is))))
    | inr lacks ↦ subst AreFew (sym (no_value line lines name lacks)) (few_after (before ++ line ∷ []) lines (passed before line lines are))
  ]

  -- lists of joined lines with one combined value have the same values
  pub joined_values : (lines others : List FieldLine) → IsJoined side params lines → IsJoined side params others → HasSameField lines others name → HasSameValues lines others name
  joined_values lines others one other same =
      of_values lines others name
      (one_list (values lines name) (values others name) (values_solid lines name) (values_solid others name) (few_after [] lines one) (few_after [] others other)
      (sym (there_by_values others name) ∙ (same.there ∙ there_by_values lines name)) same.combined)

-- ---- lines by their values

-- the clean line of this name and value
abbrev line_with : List ℕ → List ℕ → FieldLine
line_with name text = record { name = name; raw = text }

clean_is : (line : FieldLine) (name : List ℕ) → IsClean line → has_name name line ≡ true → line ≡ line_with name (value line.raw)
clean_is line name clean is =
    let named : line.name ≡ name = sym clean.name ∙ name_is name line is in
    let raw : line.raw ≡ value line.raw = sym clean.raw in
    λ i. record { name = named i; raw = raw i }

clean_lines : (lines : List FieldLine) (name : List ℕ) → All IsClean lines → filter (has_name name) lines ≡ map (line_with name) (values lines name)
clean_lines [] name clean = refl
clean_lines (line ∷ lines) name clean =
    let rest = clean_lines lines name (All-tail IsClean line lines clean) in
    elim (cases_Bool (has_name name line)) [
      | inl is ↦
          line_of_name line lines name is
          ∙ (ap (λ (l : FieldLine). l ∷ filter (has_name name) lines) (clean_is line name (All-head IsClean line lines clean) is)
          ∙ (ap (λ (ls : List FieldLine). line_with name (value line.raw) ∷ ls) rest
          ∙ ap (λ (texts : List (List ℕ)). map (line_with name) texts) (sym (line_value line lines name is))))
      | inr lacks ↦
          no_line_of_name line lines name lacks
          ∙ (rest ∙ ap (λ (texts : List (List ℕ)). map (line_with name) texts) (sym (no_value line lines name lacks)))
    ]

-- lines of a name that isn't kept are gone
none_kept : (side : Side) (params : SigParams) (name : List ℕ) → is_kept side params name ≡ false → (lines : List FieldLine) → All (IsKept side params) lines
    → filter (has_name name) lines ≡ []
none_kept side params name goes [] kept = refl
none_kept side params name goes (line ∷ lines) kept = elim (cases_Bool (has_name name line)) [
  | inl is ↦ absurd (both_ways (is_kept side params name) goes
      (sym (ap (is_kept side params) (name_is name line is)) ∙ All-head (IsKept side params) line lines kept))
  | inr lacks ↦ no_line_of_name line lines name lacks ∙ none_kept side params name goes lines (All-tail (IsKept side params) line lines kept)
]

module _ (side : Side) (params : SigParams) (lines others : List FieldLine) (name : List ℕ) (normal : AreNormalLines side params lines)
    (another : AreNormalLines side params others) where
  -- the lines of a name are the same where they aren't kept
  pub lines_gone : is_kept side params name ≡ false → filter (has_name name) others ≡ filter (has_name name) lines
  lines_gone goes = none_kept side params name goes others another.kept ∙ sym (none_kept side params name goes lines normal.kept)

  -- where their values are
  pub lines_by_values : HasSameValues lines others name → filter (has_name name) others ≡ filter (has_name name) lines
  lines_by_values same =
      clean_lines others name another.clean
      ∙ (ap (λ (texts : List (List ℕ)). map (line_with name) texts) same.same ∙ sym (clean_lines lines name normal.clean))

  -- and, where they may be joined, where their combined value is
  pub lines_by_field : MayChangeNumber side name params → HasSameField lines others name → filter (has_name name) others ≡ filter (has_name name) lines
  lines_by_field may same = lines_by_values (joined_values side params name may lines others normal.joined another.joined same)
