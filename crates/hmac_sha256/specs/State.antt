-- What an HMAC that takes in pieces stands for.
use Rattle.std.specs.Prelude.{◌≡◌, ℕ, List, ◌++◌}
use Rattle.sha2.specs.Hashers.{Holds256}
use Rattle.sha2.specs.declared.Sha256.{Sha256}
use Rattle.hmac_sha256.specs.Hmac.{ipad, opad, key_block, xor_each}

-- an HMAC in the making, by RFC 2104 section 2: the hashers inside and outside
pub record HmacState : Type 0 where
  -- the hasher of the key XOR ipad and the text
  pub inner : Sha256
  -- the hasher of the key XOR opad
  pub outer : Sha256

-- the HMAC was given this key, and after it this text
pub record HasText (state : HmacState) (key text : List ℕ) : Type 0 where
  pub inner : Holds256 state.inner (xor_each ipad (key_block key) ++ text)
  pub outer : Holds256 state.outer (xor_each opad (key_block key))

-- the HMAC has absorbed this list: the block of its key, and then its text
pub record HasAbsorbed (state : HmacState) (absorbed : List ℕ) : Type 0 where
  pub key : List ℕ
  pub text : List ℕ
  pub parts : absorbed ≡ key_block key ++ text
  pub has : HasText state key text
