-- The texts of Inner Lists (RFC 9651 section 3.1.1).
use Rattle.std.specs.Prelude.{◌≡◌, ℕ, List, ◌∷◌, ◌++◌, ◌≤◌, length, IsTrue}
use Rattle.std.specs.Str.{byte}
use Rattle.std.specs.List.{list_all}
use Rattle.byte_grammar.specs.Language.{SeparatedBy}
use Rattle.sfv_text.specs.declared.value.BareItem.{BareItem}
use Rattle.sfv_text.specs.declared.value.Item.{Item}
use Rattle.sfv_text.specs.declared.value.InnerList.{InnerList}
use Rattle.sfv_text.specs.declared.pair.Pair.{Pair}
use Rattle.byte_grammar.specs.Classes.{is_space}
use Rattle.sfv_read.specs.Item.{IsItem, AreParameters, distinct_pairs}

-- SP, one or more
pub record AreSpaces (text : List ℕ) : Type 0 where
  pub some : 1 ≤ length text
  pub spaces : IsTrue (list_all is_space text)

-- Items separated by one or more spaces
abbrev pub AreItems : List ℕ → List Item → Type 0
AreItems text items = SeparatedBy AreSpaces IsItem text items

-- Items in parentheses, with spaces at both ends, and parameters
pub record IsInner (text : List ℕ) (list : InnerList) : Type 0 where
  pub before : List ℕ
  pub items : List ℕ
  pub after : List ℕ
  pub params : List ℕ
  pub written : List (Pair BareItem)
  pub joined : text ≡ byte "(" ∷ (before ++ (items ++ (after ++ byte ")" ∷ params)))
  pub spaces_before : IsTrue (list_all is_space before)
  pub spaces_after : IsTrue (list_all is_space after)
  pub are_items : AreItems items list.items
  pub are_params : AreParameters params written
  pub are_distinct : list.params ≡ distinct_pairs written
