-- Which rewritings of a whole message a signature permits, since they keep what it rests on: a row
-- for each kind.
use Rattle.std.specs.Prelude.{◌≡◌, ⊤, ℕ, IsTrue, IsFalse, Option, Some, None, unwrap_or, List, [], ◌∷◌, codes}
use Rattle.std.specs.List.{All, list_any}
use Rattle.std.specs.Str.{byte, str_to_ascii_lowercase}
use Rattle.sfv_text.specs.Keys.{value_of}
use Rattle.sfv_text.specs.declared.pair.Pair.{Pair}
use Rattle.sfv_text.specs.declared.value.Member.{Member}
use Rattle.msg_head.specs.declared.error.Side.TheVariants.{Header}
use Rattle.msg_head.specs.Values.{value, values}
use Rattle.msg_body.specs.Messages.{Message}
use Rattle.msg_body.specs.Views.{lines_on}
use Rattle.derived_values.specs.Targets.{TargetParts, query_of}
use Rattle.derived_values.specs.Query.{matches}
use Rattle.component_ids.specs.Table.{is_listed}
use Rattle.component_ids.specs.declared.id.ComponentId.{ComponentId}
use Rattle.component_ids.specs.declared.params.SigParams.{SigParams}
use Rattle.derived_values.specs.Derived.{param_name, scheme_text}
use Rattle.component_values.specs.Context.{MessageContext}
use Rattle.component_values.specs.Values.{Has}
use Rattle.signatures.specs.Signatures.{HasDict, input_name, signature_name}
use Rattle.rewrite_script.specs.declared.rewrite.WholeRewrite.{WholeRewrite}
use Rattle.rewrite_script.specs.declared.rewrite.WholeRewrite.TheVariants.{AddLabel, Rechunk, Chunk, Dechunk, Origin, Absolute, Host, Query, Resf}
use Rattle.line_rewrites.specs.Covered.{covers_field}
use Rattle.line_rewrites.specs.Permitted.{counted_names, framing_names}
use Rattle.whole_rewrites.specs.Covered.{is_own_of, covers_one_of, covers_unread, rests_on_label}
use Rattle.whole_rewrites.specs.Targets.{OfTarget, AreOneAuthority, derived_id, query_in}

-- ---- what rows ask

-- the target as it is sent isn't covered (RFC 9421 section 2.2.5)
abbrev pub MayChangeTarget : SigParams → Type 0
MayChangeTarget params = IsFalse (covers_one_of (codes "@request-target" ∷ []) params)

-- content may be sent in another way: no field that frames is covered in the header
abbrev pub MayFrameAnew : SigParams → Type 0
MayFrameAnew params =
    IsFalse (list_any (λ name. covers_field Header name params) framing_names)

-- the field is there and reads as a Dictionary, which has no member of the label
pub record LacksLabel (message : Message) (name added : List ℕ) : Type 0 where
  pub dict : List (Pair Member)
  pub has : HasDict message name dict
  pub none : value_of dict added ≡ None

-- a further label: neither Dictionary has it, and no component rests on its members
pub record MayAddLabel (message : Message) (added : List ℕ) (params : SigParams) : Type 0 where
  pub input : LacksLabel message input_name added
  pub signature : LacksLabel message signature_name added
  pub covered : IsFalse (list_any (rests_on_label added) params.ids)

-- there is one line `Host`, with this value
abbrev pub HasOneHost : Message → List ℕ → Type 0
HasOneHost message host = values (lines_on Header message) (codes "host") ≡ host ∷ []

-- the target names the configured scheme and the authority that the one line `Host` has
pub record NamesHost (context : MessageContext) (parts : TargetParts) : Type 0 where
  pub scheme : List ℕ
  pub authority : List ℕ
  pub host : List ℕ
  pub scheme_is : parts.scheme ≡ Some scheme
  pub authority_is : parts.authority ≡ Some authority
  pub one_host : HasOneHost context.message host
  pub same_scheme : str_to_ascii_lowercase scheme ≡ scheme_text context.scheme
  pub same : AreOneAuthority (scheme_text context.scheme) host authority

-- under the scheme of the request the text is of the authority that the one line `Host` has
pub record IsSameHost (context : MessageContext) (text : List ℕ) : Type 0 where
  pub scheme : List ℕ
  pub host : List ℕ
  pub has : Has context (derived_id (codes "@scheme")) scheme
  pub one_host : HasOneHost context.message host
  pub same : AreOneAuthority scheme host (value (byte " " ∷ text))

-- under the component's name both queries have the same encoded values (RFC 9421 section 2.2.8)
abbrev pub HaveSameParam : List ℕ → List ℕ → ComponentId → Type 0
HaveSameParam query other id =
    matches other (param_name id.params) ≡ matches query (param_name id.params)

-- so have the query, which is there, and that of the text
pub record HasSameMatches (text : Option (List ℕ)) (id : ComponentId) (parts : TargetParts)
    : Type 0 where
  pub query : Option (List ℕ)
  pub query_is : query_of parts ≡ Some query
  pub same : HaveSameParam (unwrap_or query []) (query_in text) id

-- of a parameter of the query, the message has a query to draw it from, and keeps its values
abbrev pub KeepsParam : Message → Option (List ℕ) → ComponentId → Type 0
KeepsParam message text id = IsTrue (is_own_of (codes "@query-param" ∷ []) id)
    → OfTarget message (HasSameMatches text id)

-- the components that have a query whole in their values
abbrev pub whole_query_names : List (List ℕ)
whole_query_names = codes "@query" ∷ codes "@target-uri" ∷ codes "@request-target" ∷ []

-- the query isn't covered whole, and each parameter that is covered is kept so
pub record MayChangeQuery (message : Message) (text : Option (List ℕ)) (params : SigParams)
    : Type 0 where
  pub covered : IsFalse (covers_one_of whole_query_names params)
  pub each : All (KeepsParam message text) params.ids

-- ---- kinds

-- a signature of these parameters permits the rewriting of the whole message
abbrev pub PermitsWhole : MessageContext → WholeRewrite → SigParams → Type 0
PermitsWhole context (AddLabel added tag text) params =
    MayAddLabel context.message added params
PermitsWhole context (Rechunk sizes) params = ⊤
PermitsWhole context (Chunk sizes) params = MayFrameAnew params
PermitsWhole context Dechunk params = MayFrameAnew params
PermitsWhole context Origin params =
    MayChangeTarget params × OfTarget context.message (NamesHost context)
PermitsWhole context Absolute params = MayChangeTarget params
PermitsWhole context (Host text) params = IsFalse (covers_field Header (codes "host") params)
    × IsSameHost context text
PermitsWhole context (Query text) params = MayChangeQuery context.message text params
PermitsWhole context (Resf side name) params = IsFalse (is_listed counted_names name)
    × IsFalse (covers_unread side name params)
