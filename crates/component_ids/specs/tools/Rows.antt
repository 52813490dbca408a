-- What the code keeps of a name: the row of the table. No public clause cites this module.
use Rattle.std.specs.Prelude.{ℕ, List, [], ◌∷◌, codes}
use Rattle.component_ids.specs.declared.table.Row.{Row}
use Rattle.component_ids.specs.declared.table.Row.TheVariants.{Field, Request, QueryParam, Status}

-- the keys of a row
abbrev pub row_keys : Row → List (List ℕ)
row_keys Field = codes "sf" ∷ codes "key" ∷ codes "bs" ∷ codes "tr" ∷ codes "req" ∷ []
row_keys Request = codes "req" ∷ []
row_keys QueryParam = codes "name" ∷ codes "req" ∷ []
row_keys Status = []
