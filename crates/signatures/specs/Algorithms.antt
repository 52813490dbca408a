-- The names of signature algorithms (RFC 9421 section 6.2.2).
use Rattle.std.specs.Prelude.{ℕ, List, [], ◌∷◌, codes}

-- the one algorithm that is supported (RFC 9421 section 3.3.3)
abbrev pub supported_algorithm : List ℕ
supported_algorithm = codes "hmac-sha256"

-- the other registered algorithms (RFC 9421 section 6.2.2)
abbrev pub refused_algorithms : List (List ℕ)
refused_algorithms =
    codes "rsa-pss-sha512" ∷ codes "rsa-v1_5-sha256" ∷ codes "ecdsa-p256-sha256"
    ∷ codes "ecdsa-p384-sha384" ∷ codes "ed25519" ∷ []
