-- Rewritings of one line that keep the values of each name.
use Rattle.std.proofs.Common.{◌≡◌, ℕ, true, false, List, [], ◌∷◌, ◌++◌, codes, refl, sym, ◌∙◌, ap}
use Rattle.std.specs.Prelude.{reverse}
use Rattle.std.specs.List.{list_all}
use Rattle.std.specs.Str.{byte}
use Rattle.std.proofs.lemmas.Bool.{and_parts, and_from, or_left, not-true}
use Rattle.byte_grammar.specs.Classes.{is_blank}
use Rattle.byte_grammar.specs.Language.{starts_in}
use Rattle.msg_head.specs.Lines.{FieldLine}
use Rattle.msg_head.specs.Values.{is_end, value}
use Rattle.msg_body.specs.Spacing.{is_solid, is_spacing}
use Rattle.msg_body.specs.SameFields.{HasSameValues, name_of}
use Rattle.msg_body.proofs.LineLists.{takes_line_for_other}
use Rattle.msg_body.proofs.ValueLaws.{forgets_spacing_at_ends, takes_fold_for_space}
use Rattle.line_rewrites.specs.LineLists.{Replaces, ChangesRaw, IsRenamed}
use Rattle.line_rewrites.specs.RawValues.{IsPadded, IsFolded, IsUnfolded, IsLoneSpace}
use Rattle.line_rewrites.proofs.ListParts.{parts_around}
use Rattle.line_rewrites.proofs.SameLists.{same_values_of}

-- ---- bytes

pub spacing_of_blanks : (text : List ℕ) → list_all is_blank text ≡ true → list_all is_spacing text ≡ true
spacing_of_blanks [] all = refl
spacing_of_blanks (c ∷ text) all =
    let both = and_parts (is_blank c) (list_all is_blank text) all in
    and_from (is_spacing c) (list_all is_spacing text) (or_left (is_blank c) (is_end c) both.0) (spacing_of_blanks text both.1)

no_spacing : (text : List ℕ) → starts_in is_solid text ≡ true → starts_in is_spacing text ≡ false
no_spacing [] begins = refl
no_spacing (c ∷ text) begins = not-true (is_spacing c) begins

-- ---- raw values

pub value_padded : (before after raw padded : List ℕ) → list_all is_spacing before ≡ true → list_all is_spacing after ≡ true → IsPadded before after raw padded
    → value padded ≡ value raw
value_padded before after raw padded all_before all_after is =
    let core = is.1 in
    ap value is.2
    ∙ (forgets_spacing_at_ends before is.0 after all_before all_after
    ∙ (sym (forgets_spacing_at_ends core.first is.0 core.last core.spacing_first core.spacing_last) ∙ ap value (sym core.joined)))

pub value_folded : (offset : ℕ) (blanks raw folded : List ℕ) → list_all is_spacing blanks ≡ true → IsLoneSpace offset raw → IsFolded offset blanks raw folded
    → value folded ≡ value raw
value_folded offset blanks raw folded all lone is =
    let same = parts_around is.before is.c is.after lone.before (byte " ") lone.after (sym is.there ∙ lone.there) (sym is.joined ∙ lone.joined) in
    ap value is.folded_is
    ∙ (ap (λ (b : List ℕ). value (b ++ (codes "\r\n" ++ (blanks ++ is.after)))) same.0
    ∙ (ap (λ (a : List ℕ). value (lone.before ++ (codes "\r\n" ++ (blanks ++ a)))) same.2
    ∙ (takes_fold_for_space lone.before [] (byte "\r") (byte "\n" ∷ blanks) lone.after refl refl all (no_spacing (reverse lone.before) lone.ends) (no_spacing lone.after lone.begins)
    ∙ ap value (sym lone.joined))))

pub value_unfolded : (offset : ℕ) (raw unfolded : List ℕ) → IsUnfolded offset raw unfolded → value unfolded ≡ value raw
value_unfolded offset raw unfolded is =
    ap value is.unfolded_is
    ∙ (sym (takes_fold_for_space is.before is.first (byte "\r") (byte "\n" ∷ is.last) is.after is.spacing_first refl is.spacing_last is.ends is.begins) ∙ ap value (sym is.joined))

-- ---- lines

replaced_same : (Becomes : FieldLine → FieldLine → Type 0) (index : ℕ) (lines replaced : List FieldLine) (is : Replaces Becomes index lines replaced) (name : List ℕ)
    → name_of is.other ≡ name_of is.line → value is.other.raw ≡ value is.line.raw → HasSameValues lines replaced name
replaced_same Becomes index lines replaced is name names texts =
    same_values_of lines replaced (is.before ++ is.line ∷ is.after) (is.before ++ is.other ∷ is.after) name is.lines_are is.replaced_are
    (takes_line_for_other is.before is.after is.line is.other name names texts)

-- a line whose raw value has the same value
pub raw_replaced : (Becomes : List ℕ → List ℕ → Type 0) (index : ℕ) (lines replaced : List FieldLine) (is : Replaces (ChangesRaw Becomes) index lines replaced) (name : List ℕ)
    → value is.other.raw ≡ value is.line.raw → HasSameValues lines replaced name
raw_replaced Becomes index lines replaced is name texts = replaced_same (ChangesRaw Becomes) index lines replaced is name (ap lowered is.becomes.name) texts
  where
    lowered : List ℕ → List ℕ
    lowered text = name_of (record { name = text; raw = [] })

-- a line of the same name in other letters
pub renamed : (written : List ℕ) (index : ℕ) (lines replaced : List FieldLine) → Replaces (IsRenamed written) index lines replaced → (name : List ℕ)
    → HasSameValues lines replaced name
renamed written index lines replaced is name =
    replaced_same (IsRenamed written) index lines replaced is name
    (ap name_of is.becomes.other_is ∙ is.becomes.same)
    (ap (λ (line : FieldLine). value line.raw) is.becomes.other_is)
