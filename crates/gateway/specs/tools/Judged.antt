-- What the parts of a gateway answer for a message. No public clause cites this module.
use Rattle.std.specs.Prelude.{◌≡◌, ℕ, IsFalse, Option, Some, None, option_map, IfSome, Result, Ok, Err, List}
use Rattle.msg_body.specs.Messages.{Message}
use Rattle.msg_body.specs.Views.{message_of}
use Rattle.msg_body.specs.declared.view.MessageView.{MessageView as View}
use Rattle.component_ids.specs.declared.params.SigParams.{SigParams}
use Rattle.component_values.specs.Context.{MessageContext, context_with}
use Rattle.nonces.specs.Books.{Book}
use Rattle.settings.specs.Configuration.{Configuration}
use Rattle.settings.specs.declared.gateway_conf.GatewayConf.{GatewayConf}
use Rattle.signatures.specs.Signatures.{HasSignature}
use Rattle.verdicts.specs.Asked.{AreAsked}
use Rattle.verdicts.specs.Verdicts.{Accepts, IsVerdict, is_accepted}
use Rattle.verdicts.specs.Verification.{Verification}
use Rattle.verdicts.specs.declared.outcome.Verdict.{Verdict}
use Rattle.verdicts.specs.declared.outcome.Verdict.TheVariants.{Ok as Accepted, Rule as Refused}
use Rattle.gateway.specs.Accepted.{IsFirstAccepted, IsRefusal, verification_seen}
use Rattle.gateway.specs.Arrivals.{Arrival, IsAnswered, IsBad, IsRead}
use Rattle.gateway.specs.Forwarded.{IsForwarded, IsHeldFor, IsOwnSpec, IsPassed}
use Rattle.gateway.specs.Records.{GatewayState, IsRecordOf}
use Rattle.gateway.specs.Seen.{Remembers}
use Rattle.gateway.specs.declared.accepted.AcceptedLabel.{AcceptedLabel}
use Rattle.gateway.specs.declared.accepted.Judged.{Judged}
use Rattle.gateway.specs.declared.accepted.Judged.TheVariants as judged
use Rattle.gateway.specs.declared.gateway.Outcome.{Outcome}
use Rattle.gateway.specs.declared.gateway_record.BadFault.{BadFault}
use Rattle.gateway.specs.declared.gateway_record.BadFault.TheVariants.{Related as BadRelated}
use Rattle.gateway.specs.declared.gateway_record.GatewayRecord.{GatewayRecord}
use Rattle.gateway.specs.declared.own_signature.Forwarded.{Forwarded}
use Rattle.gateway.specs.declared.own_signature.Forwarded.TheVariants as forwarded
use Rattle.signing.specs.declared.spec.SignSpec.{SignSpec}

-- the label with the parameters of its signature, and the keyid of its key
pub record IsAcceptedLabel (message : Message) (label keyid : List ℕ) (accepted : AcceptedLabel)
    : Type 0 where
  pub label_is : accepted.label ≡ label
  pub keyid_is : accepted.keyid ≡ keyid
  pub tag : List ℕ
  pub signature : HasSignature message label accepted.params tag

-- the label with these parameters, where the verdict accepts it, or else the verdict
abbrev pub IsJudgedBy : List ℕ → SigParams → Verdict → Result AcceptedLabel Verdict → Type 0
IsJudgedBy label params (Accepted keyid) given =
    given ≡ Ok (record { label = label; keyid = keyid; params = params })
IsJudgedBy label params (Refused rule place) given = given ≡ Err (Refused rule place)

-- what comes of a label: it is accepted, or this is its verdict, by which it isn't
abbrev pub IsJudgedLabel : Message → Verification → Result AcceptedLabel Verdict → Type 0
IsJudgedLabel message v (Ok accepted) = Accepts v accepted.keyid
    × IsAcceptedLabel message v.label accepted.keyid accepted
IsJudgedLabel message v (Err verdict) = IsVerdict v verdict × IsFalse (is_accepted verdict)

-- it is the first of the labels that is accepted
abbrev pub IsFirstLabel : Message → (List ℕ → Verification) → List (List ℕ) → AcceptedLabel
    → Type 0
IsFirstLabel message judged_by labels accepted =
    IsFirstAccepted judged_by labels accepted.label accepted.keyid
    × IsAcceptedLabel message accepted.label accepted.keyid accepted

-- the first of the labels that is accepted, or the verdict on the first one
abbrev pub IsJudged : Message → (List ℕ → Verification) → List (List ℕ) → Judged → Type 0
IsJudged message judged_by labels (judged.Accepted accepted) =
    IsFirstLabel message judged_by labels accepted
IsJudged message judged_by labels (judged.Refused label verdict) =
    IsRefusal judged_by labels label verdict

-- the request that the message answers, or that it is no whole request
abbrev pub SaysRelated : Arrival → Result (Option Message) BadFault → Type 0
SaysRelated arrival (Ok related) = IsAnswered arrival.related related
SaysRelated arrival (Err fault) = (fault ≡ BadRelated) × IsBad arrival BadRelated

-- the signed message, or why it is held, by what is asked to be signed
abbrev pub SaysSigned : MessageContext → SigParams → SignSpec → Forwarded → Type 0
SaysSigned context params spec (forwarded.Signed text) = IsPassed context params spec text
SaysSigned context params spec (forwarded.Held fault) = IsHeldFor context params spec fault

-- the same by what the configuration asks to be signed at this moment
abbrev pub SaysForwarded : Configuration → ℕ → MessageContext → SigParams → Forwarded → Type 0
SaysForwarded conf now context params outcome = (spec : SignSpec)
    × IsOwnSpec conf now context.message spec × SaysSigned context params spec outcome

-- what is to be remembered after the outcome
abbrev pub RemembersAccepted : Configuration → Option AcceptedLabel → Book → Book → Type 0
RemembersAccepted conf None before after = after ≡ before
RemembersAccepted conf (Some accepted) before after =
    Remembers conf accepted.params accepted.keyid before after

-- the record, and the label whose nonce is remembered then
abbrev pub IsOutcome : GatewayConf → GatewayState → Arrival → Outcome → Type 0
IsOutcome settings state arrival outcome =
    (after : Book) → RemembersAccepted state.conf outcome.accepted state.seen after
    → IsRecordOf settings state arrival outcome.answer after

-- what holds of the label whose nonce is remembered: it is accepted at the book's moment
abbrev pub IsAcceptedNow : Configuration → Book → AcceptedLabel → Type 0
IsAcceptedNow conf seen accepted = (v : Verification) × Accepts v accepted.keyid
    × IsAcceptedLabel v.context.message v.label accepted.keyid accepted
    × (v.conf ≡ conf) × (v.now ≡ seen.moment) × (v.seen ≡ Some seen)

-- what was read of the request
abbrev pub related_read : Result (Option View) BadFault → Result (Option Message) BadFault
related_read (Ok request) = Ok (option_map (λ view. message_of view) request)
related_read (Err fault) = Err fault

-- what becomes of the message, after the configured steps
abbrev pub SaysForwardedFrom : GatewayConf → GatewayState → MessageContext → AcceptedLabel
    → Forwarded → Type 0
SaysForwardedFrom settings state context accepted outcome = (after : Message)
    × IsForwarded settings.steps accepted.label accepted.params context after
    × SaysForwarded state.conf state.seen.moment (context_with context after) accepted.params
    outcome

-- the label is one that is accepted now, where there is one
abbrev pub MayBeRemembered : GatewayState → Option AcceptedLabel → Type 0
MayBeRemembered state accepted = IfSome accepted (IsAcceptedNow state.conf state.seen)

-- the outcome of a message that was read: that of each text which is read as it
abbrev pub IsOutcomeOf : GatewayConf → GatewayState → MessageContext → Outcome → Type 0
IsOutcomeOf settings state context outcome = (arrival : Arrival)
    → IsRead state.conf arrival context → IsOutcome settings state arrival outcome

-- what comes of the labels that are asked for of the message
abbrev pub SaysJudged : GatewayState → MessageContext → Judged → Type 0
SaysJudged state context given = (labels : List (List ℕ))
    × ((settings : GatewayConf) → state.conf.gateway ≡ Some settings
    → AreAsked settings.label context.message labels)
    × IsJudged context.message (verification_seen state.conf state.seen context) labels given

-- with this record the label is accepted
abbrev pub IsAnswerOf : GatewayConf → GatewayState → MessageContext → AcceptedLabel
    → GatewayRecord → Type 0
IsAnswerOf settings state context accepted answer =
    IsOutcomeOf settings state context (record { answer = answer; accepted = Some accepted })
