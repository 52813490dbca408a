-- The entries of a map of keys under the bytes of their keyids. No public clause cites this module
-- but the view of `Keys`.
use Rattle.std.specs.Prelude.{ℕ, List, map, Vec}
use Rattle.std.specs.FinMap as finite
use Rattle.std.specs.Coded.{Coded, coded_list, coded_ℕ}
use Rattle.std.specs.declared.alloc.Global.{Global}
use Rattle.settings.specs.Keys.{KeyMap}

abbrev pub by_keyid : List (Vec ℕ Global × List ℕ) → List (List ℕ × List ℕ)
by_keyid entries = map (λ e. (e.0.items, e.1)) entries

abbrev pub keys_code : Coded KeyMap
keys_code = finite.code (coded_list coded_ℕ) (coded_list coded_ℕ)
