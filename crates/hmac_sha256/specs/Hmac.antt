-- HMAC with SHA-256 (RFC 2104 section 2).
use Rattle.std.specs.Prelude.{ℕ, ◌-◌, List, ◌++◌, length, map, replicate, bit_xor, nat_lt, if◌then◌else◌}
use Rattle.sha2.specs.Sha256.{sha256}

-- B: the bytes of a block
abbrev pub block_size : ℕ
block_size = 64

-- the byte that ipad repeats
abbrev pub ipad : ℕ
ipad = 0x36

-- the byte that opad repeats
abbrev pub opad : ℕ
opad = 0x5C

-- the bytes, and zero bytes up to a block
abbrev pub block_of : List ℕ → List ℕ
block_of bytes = bytes ++ replicate (block_size - length bytes) 0

-- the key as a block: a key that is longer than one is hashed first
abbrev pub key_block : List ℕ → List ℕ
key_block key = block_of (if nat_lt block_size (length key) then sha256 key else key)

-- each byte of the block XOR the pad's byte
abbrev pub xor_each : ℕ → List ℕ → List ℕ
xor_each pad block = map (λ byte. bit_xor byte pad) block

-- H(K XOR opad, H(K XOR ipad, text)), where H is SHA-256 and K the key as a block
abbrev pub hmac : List ℕ → List ℕ → List ℕ
hmac key text = sha256
    (xor_each opad (key_block key) ++ sha256 (xor_each ipad (key_block key) ++ text))
