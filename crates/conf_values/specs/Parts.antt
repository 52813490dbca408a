-- The parts of TOML data: the pairs of tables, and the values of arrays.
use Rattle.std.specs.Prelude.{ℕ, Option, Some, List, [], ◌∷◌, map}
use Rattle.toml.specs.Data.{Data, Items, Members, no_items, item, no_members, member, array, table}

-- the pairs of a table; of what is none, no pairs
abbrev pub members_in : Option Data → Members
members_in (Some (table pairs)) = pairs
members_in value = no_members

-- the pairs one by one, with their names
abbrev pub entries_of : Members → List (List ℕ × Data)
entries_of no_members = []
entries_of (member name value pairs) = (name, value) ∷ entries_of pairs

-- the values of an array, in order
abbrev pub values_of : Items → List Data
values_of no_items = []
values_of (item value items) = value ∷ values_of items

-- the pairs of each value of an array, in order
abbrev pub tables_of : Items → List Members
tables_of items = map (λ value. members_in (Some value)) (values_of items)

-- the pairs of each value of an array; of what is none, there are none
abbrev pub tables_in : Option Data → List Members
tables_in (Some (array items)) = tables_of items
tables_in value = []
