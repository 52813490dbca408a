-- The parameters of a signature by their keys (RFC 9421 section 2.3).
use Rattle.std.specs.Prelude.{ℕ, ℤ, Option, option_and_then, List, codes}
use Rattle.sfv_text.specs.Parts.{integer_in, string_in}
use Rattle.sfv_text.specs.Keys.{value_of}
use Rattle.component_ids.specs.declared.params.SigParams.{SigParams}

-- the number of a parameter that is an Integer
abbrev pub integer_param : SigParams → List ℕ → Option ℤ
integer_param params key = option_and_then integer_in (value_of params.params key)

-- the characters of a parameter that is a String
abbrev pub string_param : SigParams → List ℕ → Option (List ℕ)
string_param params key = option_and_then string_in (value_of params.params key)

-- when the signature was made, in seconds since the epoch: the parameter `created`
abbrev pub created_of : SigParams → Option ℤ
created_of params = integer_param params (codes "created")

-- the last moment at which the signature may be accepted: the parameter `expires`
abbrev pub expires_of : SigParams → Option ℤ
expires_of params = integer_param params (codes "expires")

-- the text that the signer gives to one signature alone: the parameter `nonce`
abbrev pub nonce_of : SigParams → Option (List ℕ)
nonce_of params = string_param params (codes "nonce")

-- the algorithm of the signature by its registered name: the parameter `alg`
abbrev pub alg_of : SigParams → Option (List ℕ)
alg_of params = string_param params (codes "alg")

-- the name of the key: the parameter `keyid`
abbrev pub keyid_of : SigParams → Option (List ℕ)
keyid_of params = string_param params (codes "keyid")

-- what the signature is for, by an application's own text: the parameter `tag`, which is none of
-- the bytes of the signature
abbrev pub tag_param_of : SigParams → Option (List ℕ)
tag_param_of params = string_param params (codes "tag")
