-- Lines of a side that stay, found from the last to the first.
use Rattle.std.proofs.Common.{◌≡◌, ◌↔◌, ℕ, ◌+◌, ◌-◌, ◌<◌, ◌≤◌, Bool, true, false, ◌||◌, not, IsTrue, List, [], ◌∷◌, ◌++◌, length, take, refl, sym, subst, ap, ◌∙◌, append_assoc, append-nil, arith, inl, inr}
use Rattle.std.specs.Prelude.{Some, reverse, slice_get}
use Rattle.std.specs.List.{All}
use Rattle.std.proofs.lemmas.Bool.{cases_Bool, false≢true}
use Rattle.std.proofs.lemmas.List.{length-take-le, reverse-append, take_all}
use Rattle.std.proofs.lemmas.List.Elements.{All-append, All-cons, All-nil, All-same, All-tail}
use Rattle.std.proofs.lemmas.Option.{slice_get_within}
use Rattle.component_ids.specs.Table.{is_listed}
use Rattle.component_ids.specs.declared.params.SigParams.{SigParams}
use Rattle.msg_body.specs.SameFields.{name_of}
use Rattle.line_rewrites.specs.Covered.{covers_field}
use Rattle.line_rewrites.specs.Permitted.{MayChangeValue, kept_names}
use Rattle.msg_head.specs.declared.error.Side.{Side}
use Rattle.msg_head.specs.Lines.{FieldLine}
use Rattle.rewrite_script.specs.declared.rewrite.LineRewrite.{LineRewrite}
use Rattle.rewrite_script.specs.declared.rewrite.LineRewrite.TheVariants.{Remove}
use Rattle.rewrite_script.specs.declared.rewrite.Rewrite.{Rewrite}
use Rattle.rewrite_script.specs.declared.rewrite.Rewrite.TheVariants.{Lines}
use Rattle.normal_forms.specs.LineSteps.{Removes}
use Rattle.normal_forms.specs.NormalLines.{IsKept, is_kept}
use Rattle.normal_forms.specs.tools.Sides.{KeepsFrom, KeepsLines, Leads}
use Rattle.normal_forms.proofs.SideSteps.{all_first, all_last, folds_keep, leads_more, leads_none, take_next}

-- ---- what stays, and what may go

-- what isn't kept may change
pub may_change : (side : Side) (params : SigParams) (name : List ℕ) → is_kept side params name ≡ false → MayChangeValue side name params
may_change side params name gone = elim (cases_Bool (is_listed kept_names name)) [
  | inl listed ↦ absurd (false≢true (sym gone ∙ ap (λ b. b || covers_field side name params) listed))
  | inr fails ↦ record { kept = fails; covered = sym (ap (λ b. b || covers_field side name params) fails) ∙ gone }
]

-- and nothing else
pub is_changed : (side : Side) (params : SigParams) (name : List ℕ) → MayChangeValue side name params → is_kept side params name ≡ false
is_changed side params name may = ap (λ b. b || covers_field side name params) may.kept ∙ may.covered

pub kept_is : (side : Side) (params : SigParams) (name : List ℕ) (met : Bool) → IsTrue met ↔ MayChangeValue side name params → not met ≡ is_kept side params name
kept_is side params name true is = sym (is_changed side params name (is.0 refl))
kept_is side params name false is = elim (cases_Bool (is_kept side params name)) [
  | inl kept ↦ sym kept
  | inr gone ↦ absurd (false≢true (is.1 (may_change side params name gone)))
]

-- ---- from the last line to the first

pub keeps_start : (side : Side) (params : SigParams) (lines : List FieldLine) (left : ℕ) (kept : List FieldLine) (steps : List Rewrite) → left ≡ length lines → kept ≡ [] → KeepsFrom side params lines left kept steps steps
keeps_start side params lines left kept steps all none =
    let whole : take left lines ++ kept ≡ lines = ap (λ ls. take left lines ++ ls) none ∙ (append-nil (take left lines) ∙ take_all left lines (omega arith)) in
    record {
      removed = subst (λ (ls : List FieldLine). Leads (Removes side params) lines ls steps steps) (sym whole) (leads_none (Removes side params) lines steps);
      all_kept = All-same (IsKept side params) kept [] none (All-nil (IsKept side params));
      within = omega arith;
    }

-- the last line that isn't judged yet comes next
line_comes : (lines : List FieldLine) (left : ℕ) (line : FieldLine) (kept : List FieldLine) → 0 < left → slice_get lines (left - 1) ≡ Some line → take left lines ++ kept ≡ take (left - 1) lines ++ line ∷ kept
line_comes lines left line kept some is =
    let last : left ≡ left - 1 + 1 = omega arith in
    ap (λ n. take n lines ++ kept) last ∙ (ap (λ t. t ++ kept) (take_next lines (left - 1) line is) ∙ append_assoc (take (left - 1) lines) (line ∷ []) kept)

pub keeps_line : (side : Side) (params : SigParams) (lines : List FieldLine) (left : ℕ) (line : FieldLine) (kept : List FieldLine) (before now : List Rewrite) → 0 < left → slice_get lines (left - 1) ≡ Some line
    → is_kept side params (name_of line) ≡ true → KeepsFrom side params lines left (reverse kept) before now → KeepsFrom side params lines (left - 1) (reverse (kept ++ line ∷ [])) before now
keeps_line side params lines left line kept before now some is stays keeps =
    let back : reverse (kept ++ line ∷ []) ≡ line ∷ reverse kept = reverse-append kept (line ∷ []) in
    subst (λ (ls : List FieldLine). KeepsFrom side params lines (left - 1) ls before now) (sym back) (record {
      removed = subst (λ (ls : List FieldLine). Leads (Removes side params) lines ls before now) (line_comes lines left line (reverse kept) some is) keeps.removed;
      all_kept = All-cons (IsKept side params) line (reverse kept) stays keeps.all_kept;
      within = omega (arith, keeps.within);
    })

pub keeps_gone : (side : Side) (params : SigParams) (lines : List FieldLine) (left : ℕ) (line : FieldLine) (kept : List FieldLine) (before now : List Rewrite) → 0 < left → slice_get lines (left - 1) ≡ Some line
    → is_kept side params (name_of line) ≡ false → KeepsFrom side params lines left kept before now → KeepsFrom side params lines (left - 1) kept before (now ++ Lines (Remove side (left - 1)) ∷ [])
keeps_gone side params lines left line kept before now some is goes keeps =
    let first = take (left - 1) lines in
    let within = slice_get_within lines (left - 1) line is in
    let size : left - 1 ≡ length first = sym (length-take-le (left - 1) lines (omega (arith, within))) in
    let next : Removes side params (take left lines ++ kept) (Remove side (left - 1)) (first ++ kept) = record {
      before = first;
      line = line;
      after = kept;
      lines_are = line_comes lines left line kept some is;
      goes = may_change side params (name_of line) goes;
      last = keeps.all_kept;
      step_is = ap (Remove side) size;
      others_are = refl;
    } in
    record {
      removed = leads_more (Removes side params) lines (take left lines ++ kept) (first ++ kept) before now (Remove side (left - 1)) keeps.removed next;
      all_kept = keeps.all_kept;
      within = omega (arith, keeps.within);
    }

pub keeps_end : (side : Side) (params : SigParams) (lines : List FieldLine) (left : ℕ) (kept : List FieldLine) (before now : List Rewrite) → left ≤ 0 → KeepsFrom side params lines left kept before now → KeepsLines side params lines kept before now
keeps_end side params lines left kept before now none keeps =
    let first : left ≡ 0 = omega arith in
    record { removed = subst (λ n. Leads (Removes side params) lines (take n lines ++ kept) before now) first keeps.removed; all_kept = keeps.all_kept }

-- ---- what holds of all lines

all_without : (side : Side) (params : SigParams) (Holds : FieldLine → Type 0) (lines : List FieldLine) (step : LineRewrite) (others : List FieldLine) → Removes side params lines step others → All Holds lines → All Holds others
all_without side params Holds lines step others r all =
    let whole : All Holds (r.before ++ r.line ∷ r.after) = subst (All Holds) r.lines_are all in
    let after = All-tail Holds r.line r.after (all_last Holds r.before (r.line ∷ r.after) whole) in
    subst (All Holds) (sym r.others_are) (All-append Holds r.before r.after (all_first Holds r.before (r.line ∷ r.after) whole) after)

-- what holds of each line holds of each that stays
pub holds_of_kept : (side : Side) (params : SigParams) (Holds : FieldLine → Type 0) (lines kept : List FieldLine) (before after : List Rewrite) → KeepsLines side params lines kept before after → All Holds lines → All Holds kept
holds_of_kept side params Holds lines kept before after keeps all =
    folds_keep (Removes side params) (All Holds) (all_without side params Holds) lines keeps.removed.made kept keeps.removed.lead all
