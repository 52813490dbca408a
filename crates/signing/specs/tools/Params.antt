-- What the code that makes parameters does step by step. No public clause cites this module.
use Rattle.std.specs.Prelude.{Option, Some, None, ℕ, List}
use Rattle.sfv_text.specs.Keys.{put}
use Rattle.sfv_text.specs.declared.pair.Pair.{Pair}
use Rattle.sfv_text.specs.declared.value.BareItem.{BareItem}

-- the parameters after the key is put, where there is a value for it
abbrev pub put_given : {T : Type 0} → List (Pair BareItem) → List ℕ → (T → BareItem) → Option T
    → List (Pair BareItem)
put_given params key item_of None = params
put_given params key item_of (Some value) = put params key (item_of value)
