-- The request of a sample, how it is signed, and by what its chain is judged.
use Rattle.std.specs.Prelude.{ℕ, ◌+◌, ◌%◌, Some, None, List, [], ◌∷◌, ◌++◌, codes, map}
use Rattle.std.specs.List.{range_with_len}
use Rattle.std.specs.FinMap as finmap
use Rattle.sfv_text.specs.declared.value.BareItem.TheVariants.{Str}
use Rattle.component_ids.specs.declared.id.ComponentId.{ComponentId}
use Rattle.component_ids.specs.declared.params.SigParams.{SigParams}
use Rattle.content_digest.specs.declared.algorithm.Algorithm.TheVariants.{Sha256}
use Rattle.settings.specs.Configuration.{Configuration}
use Rattle.settings.specs.Standard.{standard_configuration, standard_policy}
use Rattle.settings.specs.declared.policy.Policy.{Policy}
use Rattle.settings.specs.declared.policy.DigestUse.TheVariants.{Always}
use Rattle.signing.specs.Asked.{moment_item}
use Rattle.signing.specs.declared.spec.SignSpec.{SignSpec}
use Rattle.samples.specs.declared.limits.TheConstants.{CONTENT_BYTES, MOMENT}

-- how many bytes the content has; it isn't unfolded by itself, so that no check computes a list of
-- so many
unfoldable pub content_bytes : ℕ
content_bytes = CONTENT_BYTES

-- the content: bytes that count up from the seed, each modulo 256
abbrev pub content_of : ℕ → List ℕ
content_of seed = map (λ j. (j + seed) % 256) (range_with_len 0 content_bytes)

-- the head of the unsigned request, and the line of its one chunk
abbrev pub request_head : List ℕ
request_head =
    codes "POST /sample HTTP/1.1\r\nHost: sample.example\r\n"
    ++ (codes "Date: Tue, 20 Apr 2021 02:07:55 GMT\r\n"
    ++ codes "Transfer-Encoding: chunked\r\n\r\n186a0\r\n")

-- the unsigned request
abbrev pub request_text : ℕ → List ℕ
request_text seed = request_head ++ (content_of seed ++ codes "\r\n0\r\n\r\n")

-- the key of HMAC, and its name
abbrev pub sample_key : List ℕ
sample_key = range_with_len 0 32

abbrev pub sample_keyid : List ℕ
sample_keyid = codes "sample"

-- a component without parameters
abbrev pub plain : List ℕ → ComponentId
plain name = record { name = name; params = [] }

-- the covered components, and the parameters of the signature
abbrev pub sample_params : SigParams
sample_params = record {
  ids = plain (codes "@method") ∷ plain (codes "@authority") ∷ plain (codes "@path")
      ∷ plain (codes "date") ∷ plain (codes "content-digest") ∷ [];
  params = record { key = codes "created"; value = moment_item MOMENT }
      ∷ record { key = codes "keyid"; value = Str sample_keyid } ∷ [];
}

-- how the request is signed
abbrev pub sample_spec : SignSpec
sample_spec = record {
  label = codes "s";
  params = sample_params;
  key = sample_key;
  digest = Some Sha256;
}

-- the standard policy, but that a digest is always asked for
abbrev pub always_digested : Policy
always_digested = record {
  selects = standard_policy.selects;
  max_age = standard_policy.max_age;
  skew = standard_policy.skew;
  require_request = standard_policy.require_request;
  require_response = standard_policy.require_response;
  expires = standard_policy.expires;
  nonce = standard_policy.nonce;
  tag = standard_policy.tag;
  digest = Always;
}

-- by what the chain is judged: the standard, with the one key, and a digest is always asked for
abbrev pub sample_configuration : Configuration
sample_configuration = record {
  scheme = standard_configuration.scheme;
  keys = finmap.insert finmap.empty sample_keyid sample_key;
  types = standard_configuration.types;
  policies = always_digested ∷ [];
  nonces = standard_configuration.nonces;
  sign = None;
  gateway = None;
}
