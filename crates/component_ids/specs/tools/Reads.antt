-- What the parts of the reader answer. No public clause cites this module.
use Rattle.std.specs.Prelude.{◌≡◌, ◌<◌, ◌≤◌, Result, Ok, Err, Some, IsTrue, List, length, map, ⊤}
use Rattle.std.specs.List.{list_all}
use Rattle.sfv_text.specs.declared.value.Item.{Item}
use Rattle.sfv_text.specs.declared.value.InnerList.{InnerList}
use Rattle.component_ids.specs.declared.fault.IdFault.{IdFault}
use Rattle.component_ids.specs.declared.fault.IdFault.TheVariants.{Memory, TooMany, BadComponent, Repeated, BadParameter}
use Rattle.component_ids.specs.declared.params.SigParams.{SigParams}
use Rattle.component_ids.specs.declared.params.TheConstants.{MAX_COMPONENTS}
use Rattle.component_ids.specs.declared.read_ids.ItemFault.{ItemFault}
use Rattle.component_ids.specs.declared.read_ids.ItemFault.TheVariants.{Memory as ItemMemory, Bad}
use Rattle.component_ids.specs.Causes.{IsFirstBadComponent, IsFirstRepeated, IsFirstIllTyped}
use Rattle.component_ids.specs.Identifiers.{id_of, is_identifier, AreDistinct}
use Rattle.component_ids.specs.Reasons.{reason_of}
use Rattle.component_ids.specs.SignatureParams.{IsParamsOf}

-- not too many items, each of them an identifier
pub record AreIdentifiers (items : List Item) : Type 0 where
  pub few : length items ≤ MAX_COMPONENTS
  pub each : IsTrue (list_all is_identifier items)

-- what a fault says of an item
abbrev pub IsItemFault : Item → ItemFault → Type 0
IsItemFault item ItemMemory = ⊤
IsItemFault item (Bad reason) = reason_of item ≡ Some reason

-- what a fault of the items says of them
abbrev pub IsIdsFault : List Item → IdFault → Type 0
IsIdsFault items Memory = ⊤
IsIdsFault items TooMany = MAX_COMPONENTS < length items
IsIdsFault items (BadComponent index reason) =
    (length items ≤ MAX_COMPONENTS) × IsFirstBadComponent items index reason
IsIdsFault items (Repeated index) =
    AreIdentifiers items × IsFirstRepeated (map id_of items) index
IsIdsFault items (BadParameter key) = ⊥

-- what a fault says of the list
abbrev pub IsListFault : InnerList → IdFault → Type 0
IsListFault list (BadParameter key) =
    AreIdentifiers list.items × AreDistinct (map id_of list.items)
    × IsFirstIllTyped list.params key
IsListFault list fault = IsIdsFault list.items fault

-- what an answer says of the list that was read
abbrev pub ExplainsParams : InnerList → Result SigParams IdFault → Type 0
ExplainsParams list (Ok params) = IsParamsOf list params
ExplainsParams list (Err fault) = IsListFault list fault
