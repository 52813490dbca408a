-- Lists of covered components that a document tells.
use Rattle.std.proofs.Common.{◌≡◌, Option, Some, None, List, IsTrue, ℕ, refl, sym, ap, ◌∙◌}
use Rattle.sfv_read.proofs.InRange.{inner_read_in_range}
use Rattle.sfv_read.proofs.Readings.{inner_has_one_value}
use Rattle.component_ids.specs.declared.id.ComponentId.{ComponentId}
use Rattle.component_ids.specs.declared.params.SigParams.{SigParams}
use Rattle.component_ids.specs.SignatureParams.{list_of}
use Rattle.component_ids.proofs.FaultLaws.{one_value}
use Rattle.toml.specs.Data.{Data, string}
use Rattle.conf_values.specs.declared.table.ValueRule.TheVariants as rule
use Rattle.settings.specs.Covered.{IsCoveredList, params_of}
use Rattle.conf.specs.Rows.{fails}
use Rattle.conf_values.specs.Values.{has_type}
use Rattle.conf.specs.Sections.{AreComponents}
use Rattle.settings.proofs.Covers.{in_range_of}
use Rattle.settings.proofs.StandardLaws.{none_valid}
use Rattle.settings.specs.ValidSections.{AreValidComponents}
use Rattle.conf.specs.Refusals.{IsBadList}
use Rattle.conf.specs.tools.SectionReads.{IsToldList}

-- ---- the components that a value tells

one_list : (text : List ℕ) (ids other : List ComponentId) → IsCoveredList text ids → IsCoveredList text other → ids ≡ other
one_list text ids other first second =
    let same = inner_has_one_value text (list_of (params_of ids)) (list_of (params_of other)) first.reads second.reads in
    let is : params_of ids ≡ params_of other = one_value (list_of (params_of other)) (params_of ids) (params_of other) (first.components, same) (second.components, refl) in
    ap (λ (params : SigParams). params.ids) is

pub components_are : (value : Option Data) (ids other : List ComponentId) → AreComponents value ids → AreComponents value other → ids ≡ other
components_are None ids other first second = first ∙ sym second
components_are (Some (string text)) ids other first second = one_list text ids other first second
components_are (Some value) ids other first second = absurd first

-- such a value isn't bad
pub not_bad : (value : Option Data) (ids : List ComponentId) → AreComponents value ids → IsBadList rule.Components value → ⊥
not_bad (Some (string text)) ids are bad = bad ids are
not_bad value ids are bad = bad

-- ---- a list that was told

pub told_not_bad : (value : Option Data) (ids : List ComponentId) → IsToldList value ids → IsBadList rule.Components value → ⊥
told_not_bad (Some (string text)) ids told bad = bad ids told.covered
told_not_bad value ids told bad = bad

pub told_are : (value : Option Data) (ids : List ComponentId) → (IsTrue (fails (has_type rule.Components) value) → ⊥) → IsToldList value ids → AreComponents value ids
told_are None ids typed told = told
told_are (Some (string text)) ids typed told = told.covered
told_are (Some value) ids typed told = absurd (typed refl)

-- ---- they are valid

pub valid_components : (value : Option Data) (ids : List ComponentId) → AreComponents value ids → AreValidComponents ids
valid_components None ids are = rw are none_valid
valid_components (Some (string text)) ids are =
    record { components = are.components; in_range = in_range_of ids (inner_read_in_range text (list_of (params_of ids)) are.reads) }
valid_components (Some value) ids are = absurd are
