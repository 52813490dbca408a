-- Inner Lists, read over lists from left to right. No public clause cites this module.
use Rattle.std.specs.Prelude.{ℕ, List, [], ◌∷◌, Option, Some, None, Ok}
use Rattle.byte_grammar.specs.Walk.{Reader, ◌>>=◌, byte_read, all_read}
use Rattle.byte_grammar.specs.tools.Walks.{choose_read, turns_read}
use Rattle.sfv_text.specs.declared.value.BareItem.{BareItem}
use Rattle.sfv_text.specs.declared.value.Item.{Item}
use Rattle.sfv_text.specs.declared.value.InnerList.{InnerList}
use Rattle.sfv_text.specs.declared.pair.Pair.{Pair}
use Rattle.byte_grammar.specs.Classes.{is_space}
use Rattle.sfv_read.specs.Class.{is_open, is_close}
use Rattle.sfv_read.specs.tools.ItemWalk.{item_read, parameters_read}

abbrev pub inner_of : List Item → List (Pair BareItem) → InnerList
inner_of items params = record { items = items; params = params }

unfoldable pub close_read : Reader (Option Item)
close_read bytes = byte_read is_close bytes >>= λ c. Ok (None, c.1)

unfoldable pub some_item_read : Reader (Option Item)
some_item_read bytes = item_read bytes >>= λ i. Ok (Some i.0, i.1)

unfoldable pub item_or_close_read : Reader (Option Item)
item_or_close_read bytes = choose_read is_close close_read some_item_read bytes

-- an Item only after a space
abbrev pub after_gap : List ℕ → Reader (Option Item)
after_gap [] bytes = close_read bytes
after_gap (_ ∷ _) bytes = item_or_close_read bytes

unfoldable pub next_item_read : Reader (Option Item)
next_item_read bytes = all_read is_space bytes >>= λ s. after_gap s.0 s.1

abbrev pub items_after : Option Item → Reader (List Item)
items_after None bytes = Ok ([], bytes)
items_after (Some v) bytes = turns_read next_item_read bytes >>= λ vs. Ok (v ∷ vs.0, vs.1)

unfoldable pub items_read : Reader (List Item)
items_read bytes = item_or_close_read bytes >>= λ o. items_after o.0 o.1

unfoldable pub inner_list_read : Reader InnerList
inner_list_read bytes = do
  o ← byte_read is_open bytes
  s ← all_read is_space o.1
  i ← items_read s.1
  p ← parameters_read i.1
  Ok (inner_of i.0 p.0, p.1)
