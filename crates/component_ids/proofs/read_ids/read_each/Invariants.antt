use Rattle.std.proofs.Common.{◌≡◌, true, map, take}
use Rattle.std.specs.List.{list_all}
use Rattle.component_ids.specs.Identifiers.{is_identifier, item_of}
use Rattle.component_ids.proofs.read_ids.read_each.Given as goal

abbrev pub invariant-loop-index : goal.invariant-loop-index
invariant-loop-index l = record {
  read : map item_of l.ids ≡ take l.index l.items;
  each : list_all is_identifier (take l.index l.items) ≡ true;
}
