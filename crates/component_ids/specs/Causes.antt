-- When an Inner List is no signature parameters, and for what fault (RFC 9421 sections 2 and 2.3).
use Rattle.std.specs.Prelude.{◌≡◌, ◌<◌, ℕ, not, Some, IsSomeAnd, IsTrue, Any, List, ◌∷◌, ◌++◌, length, map, take, slice_get, codes}
use Rattle.std.specs.Fmt.{decimal}
use Rattle.std.specs.List.{find, list_all}
use Rattle.std.specs.Str.{byte}
use Rattle.byte_grammar.specs.Causes.{IsFirst}
use Rattle.byte_grammar.specs.Displayed.{displayed}
use Rattle.sfv_text.specs.declared.pair.Pair.{Pair}
use Rattle.sfv_text.specs.declared.value.BareItem.{BareItem}
use Rattle.sfv_text.specs.declared.value.Item.{Item}
use Rattle.sfv_text.specs.declared.value.InnerList.{InnerList}
use Rattle.component_ids.specs.declared.fault.BadReason.{BadReason}
use Rattle.component_ids.specs.declared.fault.IdFault.{IdFault}
use Rattle.component_ids.specs.declared.fault.IdFault.TheVariants.{Memory, TooMany, BadComponent, Repeated, BadParameter}
use Rattle.component_ids.specs.declared.id.ComponentId.{ComponentId}
use Rattle.component_ids.specs.declared.params.TheConstants.{MAX_COMPONENTS}
use Rattle.component_ids.specs.Identifiers.{id_of, is_identifier, IsSameId, AreDistinct}
use Rattle.component_ids.specs.Reasons.{reason_of, word_of}
use Rattle.component_ids.specs.SignatureParams.{is_typed}

-- the first item that is no identifier has the index, and this is the least reason
pub record IsFirstBadComponent (items : List Item) (index : ℕ) (reason : BadReason) : Type 0 where
  pub before : IsTrue (list_all is_identifier (take index items))
  pub there : IsSomeAnd (slice_get items index) (λ item. reason_of item ≡ Some reason)

-- the first identifier that is the same as an earlier one has the index
pub record IsFirstRepeated (ids : List ComponentId) (index : ℕ) : Type 0 where
  pub before : AreDistinct (take index ids)
  pub there : IsSomeAnd (slice_get ids index)
      (λ id. Any (λ earlier. IsSameId earlier id) (take index ids))

-- the first parameter of a wrong type has the key
abbrev pub IsFirstIllTyped : List (Pair BareItem) → List ℕ → Type 0
IsFirstIllTyped params key = IsSomeAnd (find (λ p. not (is_typed p)) params) (λ p. p.key ≡ key)

-- the fact for which the fault is answered, of an Inner List; being out of memory is none of them
abbrev pub IsCause : InnerList → IdFault → Type 0
IsCause list TooMany = MAX_COMPONENTS < length list.items
IsCause list (BadComponent index reason) = IsFirstBadComponent list.items index reason
IsCause list (Repeated index) = IsFirstRepeated (map id_of list.items) index
IsCause list (BadParameter key) = IsFirstIllTyped list.params key
IsCause list Memory = ⊥

-- the order in which the causes are judged
abbrev pub id_order : IdFault → ℕ
id_order TooMany = 0
id_order (BadComponent index reason) = 1
id_order (Repeated index) = 2
id_order (BadParameter key) = 3
id_order Memory = 4

-- the fault's cause is the first that holds
abbrev pub IsIdFault : InnerList → IdFault → Type 0
IsIdFault list fault = IsFirst id_order (IsCause list) fault

-- what a fault says
abbrev pub id_fault_text : IdFault → List ℕ
id_fault_text Memory = codes "out of memory"
id_fault_text TooMany = codes "components-many"
id_fault_text (BadComponent index reason) =
    codes "component-bad " ++ (decimal index ++ byte " " ∷ word_of reason)
id_fault_text (Repeated index) = codes "component-repeated " ++ decimal index
id_fault_text (BadParameter key) = codes "parameter-bad " ++ displayed key
