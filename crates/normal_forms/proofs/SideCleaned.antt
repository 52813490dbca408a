-- Lines that are made clean, one after the other.
use Rattle.std.proofs.Common.{◌≡◌, ℕ, ◌+◌, ◌<◌, Bool, true, false, ◌||◌, List, [], ◌∷◌, ◌++◌, length, take, drop, get_or, refl, sym, subst, ap, ◌∙◌, inl, inr, append_assoc, arith}
use Rattle.std.specs.Prelude.{Some, map, option_map, reverse, slice_get}
use Rattle.std.specs.List.{All, list_all}
use Rattle.std.specs.Str.{str_to_ascii_lowercase}
use Rattle.std.proofs.lemmas.Bool.{and_parts, cases_Bool, false≢true}
use Rattle.std.proofs.lemmas.List.{length-map, length-take-le, map-append}
use Rattle.std.proofs.lemmas.List.Elements.{All-get_or}
use Rattle.std.proofs.lemmas.Option.{get_or_from_slice_get, slice_get-get_or, slice_get-map, slice_get_within}
use Rattle.byte_grammar.specs.Classes.{is_blank, is_line_byte}
use Rattle.byte_grammar.specs.Language.{starts_in}
use Rattle.byte_grammar.proofs.ListLaws.{all_reverse}
use Rattle.msg_body.specs.Spacing.{ends_in, is_spacing}
use Rattle.msg_body.proofs.ValueLaws.{has_no_blank_at_ends}
use Rattle.msg_head.specs.declared.error.Side.{Side}
use Rattle.msg_head.specs.declared.line.LineView.{LineView}
use Rattle.msg_head.specs.Lines.{FieldLine, IsLine}
use Rattle.msg_head.specs.RawValues.{IsRaw}
use Rattle.msg_head.specs.Values.{value}
use Rattle.msg_head.specs.Views.{field_line_of}
use Rattle.rewrite_script.specs.declared.rewrite.LineRewrite.{LineRewrite}
use Rattle.rewrite_script.specs.declared.rewrite.LineRewrite.TheVariants.{Case, Pad}
use Rattle.rewrite_script.specs.declared.rewrite.Rewrite.{Rewrite}
use Rattle.rewrite_script.specs.declared.rewrite.Rewrite.TheVariants.{Lines}
use Rattle.normal_forms.specs.LineSteps.{Cleans}
use Rattle.normal_forms.specs.NormalLines.{IsClean}
use Rattle.normal_forms.specs.tools.Lines.{CleansLine, case_steps, clean_line, has_outer_spacing, is_lowered, trim_steps}
use Rattle.normal_forms.specs.tools.Sides.{CleansLines, Leads, UnfoldsAll}
use Rattle.normal_forms.proofs.SideFolds.{no_end, no_end_byte}
use Rattle.normal_forms.proofs.SideSteps.{drop_next, leads_joined, leads_within, take_next}
use Rattle.normal_forms.proofs.SideValues.{all_clean, is_low_name, low_name, lowered_twice, own_value}

-- ---- names

pub clean_case : (side : Side) (index : ℕ) (name raw : List ℕ) (before after : List Rewrite) → after ≡ before ++ map Lines (case_steps side index name)
    → Leads (CleansLine side index) (record { name = name; raw = raw }) (record { name = str_to_ascii_lowercase name; raw = raw }) before after
clean_case side index name raw before after added = elim (cases_Bool (is_lowered name)) [
  | inl is ↦
      let low = low_name name is in
      record { made = []; lead = (λ i. record { name = sym low i; raw = raw }); added = rw is at added }
  | inr fails ↦
      let upper : str_to_ascii_lowercase name ≡ name → ⊥ = λ same. false≢true (sym fails ∙ is_low_name name same) in
      record {
        made = Case side index (str_to_ascii_lowercase name) ∷ [];
        lead = (record { name = str_to_ascii_lowercase name; raw = raw }, inl (record { name = upper; step_is = refl; other_is = refl }), refl);
        added = rw fails at added;
      }
]

-- ---- spacing at the ends

-- among bytes of a line spacing is blanks
blank_start : (xs : List ℕ) → list_all is_line_byte xs ≡ true → starts_in is_spacing xs ≡ starts_in is_blank xs
blank_start [] all = refl
blank_start (c ∷ rest) all =
    let none = no_end_byte c (and_parts (is_line_byte c) (list_all is_line_byte rest) all).0 in
    ap (λ b. is_blank c || b) none ∙ or_none (is_blank c)
  where
    or_none : (b : Bool) → (b || false) ≡ b
    or_none true = refl
    or_none false = refl

outer_cases : (a b : Bool) → (a || b) ≡ false → (a ≡ false) × (b ≡ false)
outer_cases true b is = absurd (false≢true (sym is))
outer_cases false b is = (refl, is)

pub clean_trim : (side : Side) (index : ℕ) (name raw unfolded : List ℕ) (before after : List Rewrite) → str_to_ascii_lowercase name ≡ name → list_all is_line_byte unfolded ≡ true → value unfolded ≡ value raw
    → starts_in is_spacing unfolded ≡ starts_in is_spacing raw → ends_in is_spacing unfolded ≡ ends_in is_spacing raw → after ≡ before ++ map Lines (trim_steps side index raw)
    → Leads (CleansLine side index) (record { name = name; raw = unfolded }) (record { name = name; raw = value raw }) before after
clean_trim side index name raw unfolded before after low line same first last added =
    let start : starts_in is_blank unfolded ≡ starts_in is_spacing raw = sym (blank_start unfolded line) ∙ first in
    let end : ends_in is_blank unfolded ≡ ends_in is_spacing raw = sym (blank_start (reverse unfolded) (all_reverse is_line_byte unfolded line)) ∙ last in
    elim (cases_Bool (has_outer_spacing raw)) [
      | inr none ↦
          let both = outer_cases (starts_in is_spacing raw) (ends_in is_spacing raw) none in
          let own : unfolded ≡ value raw = sym (own_value unfolded line (start ∙ both.0) (end ∙ both.1)) ∙ same in
          record { made = []; lead = (λ i. record { name = name; raw = own i }); added = rw none at added }
      | inl some ↦
          let blanks : value unfolded ≡ unfolded → ⊥ = λ own.
          let ends = has_no_blank_at_ends unfolded in
          let no_first : starts_in is_spacing raw ≡ false = sym start ∙ (sym (ap (starts_in is_blank) own) ∙ ends.0) in
          let no_last : ends_in is_spacing raw ≡ false = sym end ∙ (sym (ap (ends_in is_blank) own) ∙ ends.1) in
          false≢true (sym (ap (λ b. b || ends_in is_spacing raw) no_first ∙ no_last) ∙ some) in
          record {
            made = Pad side index [] [] ∷ [];
            lead = (
              record { name = name; raw = value raw },
              inr (inr (record { name = low; whole = no_end unfolded line; blanks = blanks; step_is = refl; other_is = (λ i. record { name = name; raw = sym same i }) })),
              refl,
            );
            added = rw some at added;
          }
    ]

-- ---- one line

pub clean_one : (side : Side) (index : ℕ) (line : FieldLine) (before lowered unfolded after : List Rewrite) → lowered ≡ before ++ map Lines (case_steps side index line.name) → UnfoldsAll side index line.raw lowered unfolded
    → after ≡ unfolded ++ map Lines (trim_steps side index line.raw) → Leads (CleansLine side index) line (clean_line line) before after
clean_one side index line before lowered unfolded after first folds last =
    let name = str_to_ascii_lowercase line.name in
    let raw = folds.0 in
    let u = folds.1 in
    let low_line : FieldLine = record { name = name; raw = line.raw } in
    let plain_line : FieldLine = record { name = name; raw = raw } in
    leads_joined (CleansLine side index) line low_line (clean_line line) before lowered after (clean_case side index line.name line.raw before lowered first)
    (leads_joined (CleansLine side index) low_line plain_line (clean_line line) lowered unfolded after (u.steps name (lowered_twice line.name))
    (clean_trim side index name line.raw raw unfolded after (lowered_twice line.name) folds.2 u.same u.first u.last last))

-- ---- the lines of a side

-- a line that is made clean after clean ones
clean_here : (side : Side) (first after : List FieldLine) → All IsClean first → (line : FieldLine) (step : LineRewrite) (other : FieldLine) → CleansLine side (length first) line step other
    → Cleans side (first ++ line ∷ after) step (first ++ other ∷ after)
clean_here side first after clean line step other becomes = record {
  before = first;
  line = line;
  other = other;
  after = after;
  lines_are = refl;
  first = clean;
  becomes = becomes;
  others_are = refl;
}

-- the first lines, so many, are made clean
abbrev pub cleaned : ℕ → List FieldLine → List FieldLine
cleaned count lines = map clean_line (take count lines) ++ drop count lines

pub clean_next : (side : Side) (lines : List FieldLine) (index : ℕ) (line : FieldLine) (before now after : List Rewrite) → slice_get lines index ≡ Some line → Leads (Cleans side) lines (cleaned index lines) before now
    → Leads (CleansLine side index) line (clean_line line) now after → Leads (Cleans side) lines (cleaned (index + 1) lines) before after
clean_next side lines index line before now after is first next =
    let done = map clean_line (take index lines) in
    let rest = drop (index + 1) lines in
    let here : cleaned index lines ≡ done ++ line ∷ rest = ap (λ ls. done ++ ls) (drop_next lines index line is) in
    let there : cleaned (index + 1) lines ≡ done ++ clean_line line ∷ rest =
    ap (λ ls. map clean_line ls ++ rest) (take_next lines index line is)
    ∙ (ap (λ ls. ls ++ rest) (map-append clean_line (take index lines) (line ∷ [])) ∙ append_assoc done (clean_line line ∷ []) rest) in
    let size : index ≡ length done = sym (length-map (take index lines) clean_line ∙ length-take-le index lines (omega (arith, slice_get_within lines index line is))) in
    let one : Leads (CleansLine side (length done)) line (clean_line line) now after = subst (λ n. Leads (CleansLine side n) line (clean_line line) now after) size next in
    let more : Leads (Cleans side) (done ++ line ∷ rest) (done ++ clean_line line ∷ rest) now after =
    leads_within (CleansLine side (length done)) (Cleans side) (λ (l : FieldLine). done ++ l ∷ rest) (clean_here side done rest (all_clean (take index lines))) line (clean_line line) now after one in
    leads_joined (Cleans side) lines (cleaned index lines) (cleaned (index + 1) lines) before now after first
    (subst (λ (ls : List FieldLine). Leads (Cleans side) ls (cleaned (index + 1) lines) now after) (sym here) (subst (λ (ls : List FieldLine). Leads (Cleans side) (done ++ line ∷ rest) ls now after) (sym there) more))

-- ---- borrowed lines

pub view_at : (lines : List LineView) (index : ℕ) (d : LineView) → index < length lines → slice_get (map field_line_of lines) index ≡ Some (field_line_of (get_or lines index d))
view_at lines index d there = slice_get-map field_line_of lines index ∙ ap (option_map field_line_of) (slice_get-get_or lines index d there)

pub raw_at : (lines : List LineView) (index : ℕ) (d : LineView) → index < length lines → All IsLine (map field_line_of lines) → IsRaw (get_or lines index d).raw.now
raw_at lines index d there all =
    let here = view_at lines index d there in
    let within = slice_get_within (map field_line_of lines) index (field_line_of (get_or lines index d)) here in
    let same = get_or_from_slice_get (map field_line_of lines) index (field_line_of (get_or lines index d)) (field_line_of d) here in
    let is : IsLine (field_line_of (get_or lines index d)) = subst IsLine same (All-get_or IsLine (map field_line_of lines) index (field_line_of d) within all) in
    is.raw

-- a step of the loop
pub clean_turn : (side : Side) (lines : List FieldLine) (index : ℕ) (line normal : FieldLine) (before now after : List Rewrite) (done more : List FieldLine) → slice_get lines index ≡ Some line
    → Leads (Cleans side) lines (cleaned index lines) before now × (done ≡ map clean_line (take index lines)) → Leads (CleansLine side index) line (clean_line line) now after → normal ≡ clean_line line → more ≡ done ++ normal ∷ []
    → Leads (Cleans side) lines (cleaned (index + 1) lines) before after × (more ≡ map clean_line (take (index + 1) lines))
clean_turn side lines index line normal before now after done more is first next normal_is more_is = (
  clean_next side lines index line before now after is first.0 next,
  let taken = ap (map clean_line) (take_next lines index line is) ∙ map-append clean_line (take index lines) (line ∷ []) in
      let same = first.1 in
      more_is ∙ ((λ i. same i ++ normal_is i ∷ []) ∙ sym taken),
)

pub all_made_clean : (side : Side) (lines clean : List FieldLine) (before after : List Rewrite) → CleansLines side lines clean before after → All IsClean clean
all_made_clean side lines clean before after cleans = subst (All IsClean) (sym cleans.1) (all_clean lines)
