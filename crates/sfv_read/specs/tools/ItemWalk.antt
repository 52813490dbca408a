-- Parameters and Items, read over lists from left to right. No public clause cites this module.
use Rattle.std.specs.Prelude.{ℕ, true, List, Option, Some, None, Ok}
use Rattle.byte_grammar.specs.Walk.{Reader, ◌>>=◌, byte_read, all_read, word_read}
use Rattle.byte_grammar.specs.tools.Walks.{optional_read, turns_read}
use Rattle.sfv_text.specs.declared.value.BareItem.{BareItem}
use Rattle.sfv_text.specs.declared.value.BareItem.TheVariants.{Bool as Boolean}
use Rattle.sfv_text.specs.declared.value.Item.{Item}
use Rattle.sfv_text.specs.declared.pair.Pair.{Pair}
use Rattle.sfv_text.specs.Range.{is_key_first, is_key_rest}
use Rattle.byte_grammar.specs.Classes.{is_space}
use Rattle.sfv_read.specs.Class.{is_semicolon, is_equals}
use Rattle.sfv_read.specs.Item.{distinct_pairs}
use Rattle.sfv_read.specs.tools.BareWalk.{bare_item_read}

abbrev pub pair_with : {V : Type 0} → List ℕ → V → Pair V
pair_with key value = record { key = key; value = value }

abbrev pub item_with : BareItem → List (Pair BareItem) → Item
item_with bare params = record { bare = bare; params = params }

unfoldable pub equals_read : Reader BareItem
equals_read bytes = byte_read is_equals bytes >>= λ e. bare_item_read e.1

abbrev pub value_or_true : Option BareItem → BareItem
value_or_true None = Boolean true
value_or_true (Some v) = v

unfoldable pub value_read : Reader BareItem
value_read bytes = optional_read is_equals equals_read bytes >>= λ v. Ok (value_or_true v.0, v.1)

unfoldable pub key_read : Reader (List ℕ)
key_read bytes = word_read is_key_first is_key_rest bytes

unfoldable pub parameter_read : Reader (Pair BareItem)
parameter_read bytes = do
  s ← byte_read is_semicolon bytes
  b ← all_read is_space s.1
  k ← key_read b.1
  v ← value_read k.1
  Ok (pair_with k.0 v.0, v.1)

-- a parameter where a semicolon comes
unfoldable pub next_parameter_read : Reader (Option (Pair BareItem))
next_parameter_read bytes = optional_read is_semicolon parameter_read bytes

unfoldable pub parameters_read : Reader (List (Pair BareItem))
parameters_read bytes =
    turns_read next_parameter_read bytes >>= λ ps. Ok (distinct_pairs ps.0, ps.1)

unfoldable pub item_read : Reader Item
item_read bytes = do
  b ← bare_item_read bytes
  p ← parameters_read b.1
  Ok (item_with b.0 p.0, p.1)
