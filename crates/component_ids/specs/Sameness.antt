-- Tests that compute whether identifiers are the same (RFC 9421 section 2).
use Rattle.std.specs.Prelude.{Bool, ◌&&◌, List}
use Rattle.std.specs.List.{list_all, list_any}
use Rattle.std.specs.Str.{bytes_eq}
use Rattle.sfv_text.specs.Equality.{is_equal_param}
use Rattle.sfv_text.specs.declared.pair.Pair.{Pair}
use Rattle.sfv_text.specs.declared.value.BareItem.{BareItem}
use Rattle.component_ids.specs.declared.id.ComponentId.{ComponentId}

-- the parameter is among them
abbrev pub is_among : List (Pair BareItem) → Pair BareItem → Bool
is_among params param = list_any (is_equal_param param) params

-- each of the parameters is among the others
abbrev pub are_among : List (Pair BareItem) → List (Pair BareItem) → Bool
are_among others params = list_all (is_among others) params

-- the names agree, and each parameter of either is among those of the other
abbrev pub is_same : ComponentId → ComponentId → Bool
is_same a b =
    bytes_eq a.name b.name && (are_among b.params a.params && are_among a.params b.params)
