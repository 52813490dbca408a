-- The hash algorithms that are known: RFC 9530 section 5.
use Rattle.std.specs.Prelude.{ℕ, List, Option, Some, None, codes, if◌then◌else◌}
use Rattle.std.specs.Str.{bytes_eq}
use Rattle.sha2.specs.Sha256.{sha256}
use Rattle.sha2.specs.Sha512.{sha512}
use Rattle.content_digest.specs.declared.algorithm.Algorithm.{Algorithm}
use Rattle.content_digest.specs.declared.algorithm.Algorithm.TheVariants.{Sha256, Sha512}

-- the key of the algorithm's member
abbrev pub key_of : Algorithm → List ℕ
key_of Sha256 = codes "sha-256"
key_of Sha512 = codes "sha-512"

-- the algorithm whose key it is
abbrev pub algorithm_of : List ℕ → Option Algorithm
algorithm_of key =
    if bytes_eq key (codes "sha-256") then Some Sha256
    else if bytes_eq key (codes "sha-512") then Some Sha512
    else None

-- the digest by the algorithm (FIPS 180-4, RFC 6234)
abbrev pub digest_by : Algorithm → List ℕ → List ℕ
digest_by Sha256 content = sha256 content
digest_by Sha512 content = sha512 content
