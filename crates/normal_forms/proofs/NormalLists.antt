-- The steps that make lines normal: what they keep of the lines, that they make them normal, and that normal lines have none.
use Rattle.std.proofs.Common.{◌≡◌, ◌⊎◌, ℕ, true, List, [], ◌∷◌, ◌++◌, length, refl, sym, subst, ap, ◌∙◌, inl, inr, append_assoc}
use Rattle.std.specs.Prelude.{codes}
use Rattle.std.specs.List.{All, FoldsTo, flat_map, list_all}
use Rattle.std.specs.Str.{str_to_ascii_lowercase}
use Rattle.std.proofs.lemmas.Bool.{false≢true, or_left, or_right}
use Rattle.std.proofs.lemmas.List.Elements.{All-append}
use Rattle.std.proofs.lemmas.List.Folds.{list_any-append}
use Rattle.std.proofs.lemmas.Slice.Eq.{bytes_eq-Decides}
use Rattle.byte_grammar.specs.Classes.{is_line_byte}
use Rattle.byte_grammar.proofs.ListLaws.{all_parts}
use Rattle.msg_head.specs.declared.error.Side.{Side}
use Rattle.msg_head.specs.Lines.{FieldLine, IsLine}
use Rattle.msg_head.specs.Names.{has_name}
use Rattle.msg_head.specs.Values.{has_bytes, is_there}
use Rattle.msg_body.specs.SameFields.{name_of}
use Rattle.component_ids.specs.declared.params.SigParams.{SigParams}
use Rattle.rewrite_script.specs.declared.rewrite.LineRewrite.{LineRewrite}
use Rattle.line_rewrites.specs.Permitted.{MayChangeNumber}
use Rattle.normal_forms.specs.NormalLines.{AreNormalLines, IsClean, IsJoined, IsKept, is_kept}
use Rattle.normal_forms.specs.LineSteps.{Cleans, IsLowered, IsTrimmed, IsUnfoldedFirst, Joins, MakeNormal, Removes, join_steps}
use Rattle.normal_forms.proofs.LineRaws.{joined_itself, value_line}
use Rattle.normal_forms.proofs.LineKeeps.{KeepsLines, around_line, cleans_keep, goes_not_kept, joined_line, joins_keep, keeps_itself, keeps_then, lowered_twice, put_around, removes_keep}

-- ---- one step after another

-- what each step keeps, all of them keep
pub folds_keep : {A : Type 0} (R : List FieldLine → A → List FieldLine → Type 0) (P : List FieldLine → Type 0)
    → ((lines : List FieldLine) (step : A) (others : List FieldLine) → R lines step others → P lines → P others)
    → (steps : List A) (lines others : List FieldLine) → FoldsTo R lines steps others → P lines → P others
folds_keep R P keep [] lines others folds holds = subst P folds holds
folds_keep R P keep (step ∷ steps) lines others folds holds =
    folds_keep R P keep steps folds.0 others folds.2 (keep lines step folds.0 folds.1 holds)

-- where no step is made of the lines, there is none
folds_none : {A : Type 0} (R : List FieldLine → A → List FieldLine → Type 0) (lines : List FieldLine)
    → ((step : A) (others : List FieldLine) → R lines step others → ⊥) → (steps : List A) (others : List FieldLine) → FoldsTo R lines steps others
    → (steps ≡ []) × (others ≡ lines)
folds_none R lines none [] others folds = (refl, sym folds)
folds_none R lines none (step ∷ steps) others folds = absurd (none step folds.0 folds.1)

module _ (side : Side) (params : SigParams) where
  -- ---- what they keep

  pub removals_keep : (steps : List LineRewrite) (lines others : List FieldLine) → All IsLine lines → FoldsTo (Removes side params) lines steps others → KeepsLines side params lines others
  removals_keep steps lines others each folds =
      folds_keep (Removes side params) (KeepsLines side params lines)
      (λ some step next removes keeps. keeps_then side params lines some next keeps (removes_keep side params some step next keeps.each removes))
      steps lines others folds (keeps_itself side params lines each)

  pub cleanings_keep : (steps : List LineRewrite) (lines others : List FieldLine) → All IsLine lines → FoldsTo (Cleans side) lines steps others → KeepsLines side params lines others
  cleanings_keep steps lines others each folds =
      folds_keep (Cleans side) (KeepsLines side params lines)
      (λ some step next cleans keeps. keeps_then side params lines some next keeps (cleans_keep side params some step next keeps.each cleans))
      steps lines others folds (keeps_itself side params lines each)

  pub joinings_keep : (pairs : List (ℕ × ℕ)) (lines others : List FieldLine) → All IsLine lines → FoldsTo (Joins side params) lines pairs others → KeepsLines side params lines others
  joinings_keep pairs lines others each folds =
      folds_keep (Joins side params) (KeepsLines side params lines)
      (λ some pair next joins keeps. keeps_then side params lines some next keeps (joins_keep side params some pair next keeps.each joins))
      pairs lines others folds (keeps_itself side params lines each)

  -- all of them
  pub makes_keep : (lines : List FieldLine) (steps : List LineRewrite) (normal : List FieldLine) → All IsLine lines → MakeNormal side params lines steps normal
      → KeepsLines side params lines normal
  makes_keep lines steps normal each made =
      let one = removals_keep made.removals lines made.kept each made.removed in
      let two = cleanings_keep made.cleanings made.kept made.clean one.each made.cleaned in
      let three = joinings_keep made.pairs made.clean normal two.each made.joined in
      keeps_then side params lines made.clean normal (keeps_then side params lines made.kept made.clean one two) three

  -- ---- they make lines normal

  -- a line of the same name stays where the line stays
  kept_as : (line other : FieldLine) → name_of other ≡ name_of line → IsKept side params line → IsKept side params other
  kept_as line other same kept = ap (is_kept side params) same ∙ kept

  cleaned_name : (index : ℕ) (line : FieldLine) (step : LineRewrite) (other : FieldLine)
      → IsLowered side index line step other ⊎ IsUnfoldedFirst side index line step other ⊎ IsTrimmed side index line step other → name_of other ≡ name_of line
  cleaned_name index line step other (inl lowered) = ap name_of lowered.other_is ∙ lowered_twice line.name
  cleaned_name index line step other (inr (inl first)) = ap str_to_ascii_lowercase first.other_is
  cleaned_name index line step other (inr (inr trimmed)) = ap name_of trimmed.other_is

  cleans_kept : (lines : List FieldLine) (step : LineRewrite) (others : List FieldLine) → Cleans side lines step others → All (IsKept side params) lines → All (IsKept side params) others
  cleans_kept lines step others cleans kept =
      let parts = around_line (IsKept side params) lines cleans.before cleans.line cleans.after cleans.lines_are kept in
      let name = cleaned_name (length cleans.before) cleans.line step cleans.other cleans.becomes in
      subst (All (IsKept side params)) (sym cleans.others_are)
      (put_around (IsKept side params) cleans.before cleans.other cleans.after parts.first (kept_as cleans.line cleans.other name parts.here) parts.last)

  -- what holds of the lines and of the joined one holds of the lines then
  joins_all : (Holds : FieldLine → Type 0) (lines : List FieldLine) (pair : ℕ × ℕ) (others : List FieldLine) (joins : Joins side params lines pair others)
      → (Holds joins.line → Holds (joined_line joins.line joins.next)) → All Holds lines → All Holds others
  joins_all Holds lines pair others joins new each =
      let one = around_line Holds lines joins.before joins.line (joins.between ++ joins.next ∷ joins.after) joins.lines_are each in
      let two = around_line Holds (joins.between ++ joins.next ∷ joins.after) joins.between joins.next joins.after refl one.last in
      subst (All Holds) (sym joins.others_are)
      (put_around Holds joins.before (joined_line joins.line joins.next) (joins.between ++ joins.after) one.first (new one.here) (All-append Holds joins.between joins.after two.first two.last))

  joins_kept : (lines : List FieldLine) (pair : ℕ × ℕ) (others : List FieldLine) → Joins side params lines pair others → All (IsKept side params) lines → All (IsKept side params) others
  joins_kept lines pair others joins kept = joins_all (IsKept side params) lines pair others joins (λ is. is) kept

  joins_clean : (lines : List FieldLine) (pair : ℕ × ℕ) (others : List FieldLine) → Joins side params lines pair others → All IsClean lines → All IsClean others
  joins_clean lines pair others joins clean =
      joins_all IsClean lines pair others joins (λ is. record { name = is.name; raw = joined_itself joins.line.raw joins.next.raw joins.some }) clean

  pub makes_normal : (lines : List FieldLine) (steps : List LineRewrite) (normal : List FieldLine) → MakeNormal side params lines steps normal → AreNormalLines side params normal
  makes_normal lines steps normal made =
      let kept = folds_keep (Cleans side) (All (IsKept side params)) cleans_kept made.cleanings made.kept made.clean made.cleaned made.all_kept in
      record {
        kept = folds_keep (Joins side params) (All (IsKept side params)) joins_kept made.pairs made.clean normal made.joined kept;
        clean = folds_keep (Joins side params) (All IsClean) joins_clean made.pairs made.clean normal made.joined made.all_clean;
        joined = made.all_joined;
      }

  -- ---- normal lines have no steps

  no_removes : (lines : List FieldLine) → All (IsKept side params) lines → (step : LineRewrite) (others : List FieldLine) → Removes side params lines step others → ⊥
  no_removes lines kept step others removes =
      let parts = around_line (IsKept side params) lines removes.before removes.line removes.after removes.lines_are kept in
      false≢true (sym (goes_not_kept side params (name_of removes.line) removes.goes) ∙ parts.here)

  not_cleaned : (index : ℕ) (line : FieldLine) (step : LineRewrite) (other : FieldLine) → IsLine line → IsClean line
      → IsLowered side index line step other ⊎ IsUnfoldedFirst side index line step other ⊎ IsTrimmed side index line step other → ⊥
  not_cleaned index line step other is clean (inl lowered) = lowered.name clean.name
  not_cleaned index line step other is clean (inr (inl first)) =
      let bytes : list_all is_line_byte line.raw ≡ true = ap (list_all is_line_byte) (sym clean.raw) ∙ value_line line.raw is.raw in
      let parts = all_parts is_line_byte first.before (codes "\r\n" ++ first.after) (ap (list_all is_line_byte) (sym first.raw_is) ∙ bytes) in
      false≢true parts.1
  not_cleaned index line step other is clean (inr (inr trimmed)) = trimmed.blanks clean.raw

  no_cleans : (lines : List FieldLine) → All IsLine lines → All IsClean lines → (step : LineRewrite) (others : List FieldLine) → Cleans side lines step others → ⊥
  no_cleans lines each clean step others cleans =
      let is = around_line IsLine lines cleans.before cleans.line cleans.after cleans.lines_are each in
      let own = around_line IsClean lines cleans.before cleans.line cleans.after cleans.lines_are clean in
      not_cleaned (length cleans.before) cleans.line step cleans.other is.here own.here cleans.becomes

  -- the line itself has its name
  there_before : (before : List FieldLine) (line : FieldLine) (after : List FieldLine) → is_there (before ++ line ∷ after) (name_of line) ≡ true
  there_before before line after =
      list_any-append (has_name (name_of line)) before (line ∷ after)
      ∙ or_right (is_there before (name_of line)) (is_there (line ∷ after) (name_of line))
      (or_left (has_name (name_of line) line) (is_there after (name_of line)) ((bytes_eq-Decides (name_of line) (name_of line)).1 refl))

  no_joins : (lines : List FieldLine) → IsJoined side params lines → (pair : ℕ × ℕ) (others : List FieldLine) → Joins side params lines pair others → ⊥
  no_joins lines joined pair others joins =
      let line = joins.line in
      let next = joins.next in
      let first = joins.before ++ line ∷ joins.between in
      let lines_are : lines ≡ first ++ next ∷ joins.after = joins.lines_are ∙ sym (append_assoc joins.before (line ∷ joins.between) (next ∷ joins.after)) in
      let may : MayChangeNumber side (name_of next) params = subst (λ (name : List ℕ). MayChangeNumber side name params) (sym joins.same) joins.may in
      let there : is_there first (name_of next) ≡ true = ap (is_there first) joins.same ∙ there_before joins.before line joins.between in
      let none = joined first next joins.after lines_are may there in
      false≢true (ap has_bytes (sym none) ∙ joins.some)

  pub stays_normal : (lines : List FieldLine) (steps : List LineRewrite) (normal : List FieldLine) → All IsLine lines → AreNormalLines side params lines
      → MakeNormal side params lines steps normal → (steps ≡ []) × (normal ≡ lines)
  stays_normal lines steps normal each is made =
      let one = folds_none (Removes side params) lines (no_removes lines is.kept) made.removals made.kept made.removed in
      let cleaned = subst (λ (some : List FieldLine). FoldsTo (Cleans side) some made.cleanings made.clean) one.1 made.cleaned in
      let two = folds_none (Cleans side) lines (no_cleans lines each is.clean) made.cleanings made.clean cleaned in
      let joined = subst (λ (some : List FieldLine). FoldsTo (Joins side params) some made.pairs normal) two.1 made.joined in
      let three = folds_none (Joins side params) lines (no_joins lines is.joined) made.pairs normal joined in
      (made.steps_are ∙ (λ i. one.0 i ++ (two.0 i ++ flat_map (join_steps side) (three.0 i))), three.1)
