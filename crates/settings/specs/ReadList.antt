-- Lists of covered components that were read.
use Rattle.std.specs.Prelude.{ℕ, IsTrue, List}
use Rattle.std.specs.List.{list_all}
use Rattle.component_ids.specs.declared.id.ComponentId.{ComponentId}
use Rattle.component_ids.specs.Identifiers.{is_id_in_range}
use Rattle.settings.specs.Covered.{IsCoveredList}

-- the text covers the components, and a structured field can hold their values
pub record IsReadList (text : List ℕ) (ids : List ComponentId) : Type 0 where
  pub covered : IsCoveredList text ids
  pub in_range : IsTrue (list_all is_id_in_range ids)
