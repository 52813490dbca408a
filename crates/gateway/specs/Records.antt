-- What a gateway answers for a message: its record, each by a condition of its own.
use Rattle.std.specs.Prelude.{◌≡◌, ℕ, Bool, true, false, List}
use Rattle.msg_body.specs.Messages.{Message}
use Rattle.component_ids.specs.declared.params.SigParams.{SigParams}
use Rattle.component_values.specs.Context.{MessageContext, context_with}
use Rattle.nonces.specs.Books.{Book}
use Rattle.settings.specs.Configuration.{Configuration}
use Rattle.settings.specs.declared.gateway_conf.GatewayConf.{GatewayConf}
use Rattle.signatures.specs.Signatures.{HasSignature}
use Rattle.signing.specs.declared.spec.SignSpec.{SignSpec}
use Rattle.verdicts.specs.Asked.{AreAsked}
use Rattle.verdicts.specs.declared.outcome.Verdict.{Verdict}
use Rattle.gateway.specs.Accepted.{IsFirstAccepted, IsRefusal, verification_seen}
use Rattle.gateway.specs.Arrivals.{Arrival, IsBad, IsRead}
use Rattle.gateway.specs.Forwarded.{IsForwarded, IsHeldFor, IsOwnSpec, IsPassed}
use Rattle.gateway.specs.Seen.{IsAdvanced, Remembers}
use Rattle.gateway.specs.declared.gateway_record.GatewayRecord.{GatewayRecord}
use Rattle.gateway.specs.declared.gateway_record.GatewayRecord.TheVariants.{Pass, Stop, Held, Bad}

-- the message passed
abbrev pub is_pass : GatewayRecord → Bool
is_pass (Pass index label message) = true
is_pass record_ = false

-- by what a gateway judges a message: its configuration, what was seen, and how many messages came
-- before; what the configuration says of gateways is given beside it
pub record GatewayState : Type 0 where
  pub conf : Configuration
  pub seen : Book
  pub count : ℕ

-- of the labels that are asked for, this one is the first that is accepted, with these parameters
pub record IsLetIn (settings : GatewayConf) (state : GatewayState) (context : MessageContext)
    (label keyid : List ℕ) (params : SigParams) : Type 0 where
  pub labels : List (List ℕ)
  pub asked : AreAsked settings.label context.message labels
  pub accepted :
      IsFirstAccepted (verification_seen state.conf state.seen context) labels label keyid
  pub tag : List ℕ
  pub signature : HasSignature context.message label params tag

-- of the labels that are asked for none is accepted, and the first one has this verdict
pub record IsStopped (settings : GatewayConf) (state : GatewayState) (context : MessageContext)
    (label : List ℕ) (verdict : Verdict) : Type 0 where
  pub labels : List (List ℕ)
  pub asked : AreAsked settings.label context.message labels
  pub refusal : IsRefusal (verification_seen state.conf state.seen context) labels label verdict

-- The label is accepted, and its nonce is remembered. After the steps that its signature permits
-- the message has this outcome, by what the configuration asks to be signed.
pub record IsLetOn (settings : GatewayConf) (state : GatewayState) (context : MessageContext)
    (label : List ℕ) (Outcome : MessageContext → SigParams → SignSpec → Type 0) (after : Book)
    : Type 0 where
  pub keyid : List ℕ
  pub params : SigParams
  pub let_in : IsLetIn settings state context label keyid params
  pub forwarded : Message
  pub steps : IsForwarded settings.steps label params context forwarded
  pub spec : SignSpec
  pub spec_is : IsOwnSpec state.conf state.seen.moment forwarded spec
  pub outcome : Outcome (context_with context forwarded) params spec
  pub remembers : Remembers state.conf params keyid state.seen after

-- the record of the message, and what is remembered after it
abbrev pub IsRecordOf : GatewayConf → GatewayState → Arrival → GatewayRecord → Book → Type 0
IsRecordOf settings state arrival (Bad index fault) after =
    (index ≡ state.count) × IsBad arrival fault × (after ≡ state.seen)
IsRecordOf settings state arrival (Stop index label verdict) after =
    (index ≡ state.count) × (after ≡ state.seen) × (context : MessageContext)
    × IsRead state.conf arrival context × IsStopped settings state context label verdict
IsRecordOf settings state arrival (Held index fault) after =
    (index ≡ state.count) × (context : MessageContext) × IsRead state.conf arrival context
    × (label : List ℕ) × IsLetOn settings state context label
    (λ made params spec. IsHeldFor made params spec fault) after
IsRecordOf settings state arrival (Pass index label text) after =
    (index ≡ state.count) × (context : MessageContext) × IsRead state.conf arrival context
    × IsLetOn settings state context label
    (λ made params spec. IsPassed made params spec text) after

-- the same at a moment, at which what was over is dropped first
pub record Answers (settings : GatewayConf) (state : GatewayState) (now : ℕ) (arrival : Arrival)
    (record_ : GatewayRecord) (after : Book) : Type 0 where
  pub seen : Book
  pub advanced : IsAdvanced now state.seen seen
  pub is : IsRecordOf settings (record state { seen = seen }) arrival record_ after
