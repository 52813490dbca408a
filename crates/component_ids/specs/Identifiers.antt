-- Component identifiers (RFC 9421 section 2).
use Rattle.std.specs.Prelude.{◌≡◌, ◌↔◌, ℕ, Bool, is_none, unwrap_or, List, [], AllPairs, Contains}
use Rattle.sfv_text.specs.Parts.{string_in}
use Rattle.sfv_text.specs.Range.{is_item_in_range}
use Rattle.sfv_text.specs.Strict.{item_text}
use Rattle.sfv_text.specs.declared.pair.Pair.{Pair}
use Rattle.sfv_text.specs.declared.value.BareItem.{BareItem}
use Rattle.sfv_text.specs.declared.value.BareItem.TheVariants.{Str}
use Rattle.sfv_text.specs.declared.value.Item.{Item}
use Rattle.component_ids.specs.declared.id.ComponentId.{ComponentId}
use Rattle.component_ids.specs.Reasons.{reason_of}

-- the item that stands for an identifier
abbrev pub item_of : ComponentId → Item
item_of id = record { bare = Str id.name; params = id.params }

-- there is no reason against the item
abbrev pub is_identifier : Item → Bool
is_identifier item = is_none (reason_of item)

-- the identifier that an item stands for, where it is one: of an item that is no String the name
-- is empty, and no definition takes it for an identifier
abbrev pub id_of : Item → ComponentId
id_of item = record { name = unwrap_or (string_in item.bare) []; params = item.params }

-- the names agree, and the same parameters with the same values are there, in whatever order
-- (section 2)
pub record IsSameId (a b : ComponentId) : Type 0 where
  pub names : a.name ≡ b.name
  pub params : (param : Pair BareItem) → Contains a.params param ↔ Contains b.params param

-- no two identifiers are the same
abbrev pub AreDistinct : List ComponentId → Type 0
AreDistinct ids = AllPairs (λ a b. ¬ IsSameId a b) ids

-- the strict text of an identifier is that of its item (section 2.5)
abbrev pub id_text : ComponentId → List ℕ
id_text id = item_text (item_of id)

-- the name and the parameters can be written as a structured field
abbrev pub is_id_in_range : ComponentId → Bool
is_id_in_range id = is_item_in_range (item_of id)
