-- What the code's references to tables stand for.
use Rattle.std.specs.Prelude.{Option, Some, None, String}
use Rattle.std.specs.Borrow.{Bor}
use Rattle.std.specs.BTreeMap.{BTreeMap}
use Rattle.std.specs.declared.alloc.Global.{Global}
use Rattle.toml.specs.Data.{Members, no_members}
use Rattle.toml.specs.View.{table_view}
use Rattle.toml.specs.declared.value.Value.{Value}

-- the pairs of a table that is there; else none
abbrev pub table_members : Option (Bor (BTreeMap (String Global) Value)) → Members
table_members None = no_members
table_members (Some table) = table_view table.now
