-- Keyids, and keys of HMAC by them.
use Rattle.std.specs.Prelude.{◌≤◌, ◌&&◌, ℕ, Bool, nat_le, List, length}
use Rattle.std.specs.FinMap as map
use Rattle.std.specs.List.{list_all}
use Rattle.std.specs.Ordering.{nat_cmp}
use Rattle.std.specs.Cmp.Lexicographic.{slice_cmp}
use Rattle.sfv_text.specs.Range.{is_string_byte}
use Rattle.nonces.specs.declared.limits.TheConstants.{MAX_KEYID_BYTES}
use Rattle.settings.specs.declared.limits.TheConstants.{MAX_KEY_BYTES}

-- a keyid: 1 to 64 bytes of a String (RFC 9651 section 3.3.3)
abbrev pub is_keyid : List ℕ → Bool
is_keyid keyid =
    (nat_le 1 (length keyid) && nat_le (length keyid) MAX_KEYID_BYTES)
    && list_all is_string_byte keyid

-- a key of HMAC has 1 to 1,024 bytes
pub record IsHmacKey (key : List ℕ) : Type 0 where
  pub some : 1 ≤ length key
  pub few : length key ≤ MAX_KEY_BYTES

-- from keyids to the keys of HMAC
abbrev pub KeyMap : Type 0
KeyMap = map.FinMap (slice_cmp nat_cmp) (List ℕ)
