-- Messages as they come to a gateway, and as they are read (RFC 9112 sections 2.1 and 6.3).
use Rattle.std.specs.Prelude.{◌≡◌, ◌≤◌, ℕ, Option, Some, None, option_map, IfSome, List, length}
use Rattle.msg_body.specs.Messages.{Message}
use Rattle.msg_body.specs.WholeTexts.{IsMessageFault, IsWhole, one_request}
use Rattle.msg_body.specs.declared.expect.Expect.TheVariants as expect
use Rattle.msg_body.specs.declared.limits.TheConstants.{MAX_MESSAGE_BYTES}
use Rattle.msg_body.specs.declared.whole.Reading.{Reading}
use Rattle.component_values.specs.Context.{MessageContext, answers_head}
use Rattle.recording.specs.declared.item.Role.{Role}
use Rattle.recording.specs.declared.item.Role.TheVariants.{Request, Response}
use Rattle.settings.specs.Configuration.{Configuration}
use Rattle.signatures.specs.Contexts.{context_for}
use Rattle.gateway.specs.declared.arrival.Arrival.{Arrival as Borrowed}
use Rattle.gateway.specs.declared.arrival.Arrival.TheVariants as borrowed
use Rattle.gateway.specs.declared.gateway_record.BadFault.{BadFault}
use Rattle.gateway.specs.declared.gateway_record.BadFault.TheVariants.{Message as BadMessage, Related as BadRelated}

-- what is to be a request or a response, its bytes, and those of the request that it answers, where
-- that came with it
pub record Arrival : Type 0 where
  pub role : Role
  pub text : List ℕ
  pub related : Option (List ℕ)

-- what the borrowed parts stand for
abbrev pub arrival_of : Borrowed → Arrival
arrival_of (borrowed.Request text) =
    record { role = Request; text = text.now; related = None }
arrival_of (borrowed.Response text related) = record {
  role = Response;
  text = text.now;
  related = option_map (λ request. request.now) related;
}

-- the text and that of the request that it answers are no longer than a message may be
pub record IsSized (arrival : Arrival) : Type 0 where
  pub text : length arrival.text ≤ MAX_MESSAGE_BYTES
  pub related : IfSome arrival.related (λ request. length request ≤ MAX_MESSAGE_BYTES)

-- the request that the message answers, where one came with it
abbrev pub IsAnswered : Option (List ℕ) → Option Message → Type 0
IsAnswered None request = request ≡ None
IsAnswered (Some text) None = ⊥
IsAnswered (Some text) (Some request) = IsWhole one_request text request

-- how the message is read: as a response to the request that is known, or as a request
abbrev pub arrival_reading : Role → Option Message → Reading
arrival_reading Response related =
    record { expect = expect.Response; to_head = answers_head related }
arrival_reading role related = one_request

-- it is one whole message, and answers one whole request, if any; this is its context
pub record IsRead (conf : Configuration) (arrival : Arrival) (context : MessageContext)
    : Type 0 where
  pub related : Option Message
  pub answers : IsAnswered arrival.related related
  pub message : Message
  pub is : IsWhole (arrival_reading arrival.role related) arrival.text message
  pub context_is : context ≡ context_for conf message related

-- why it is bad: the request that it answers isn't one whole request; or, where it is, it isn't one
-- whole message itself
abbrev pub IsBad : Arrival → BadFault → Type 0
IsBad arrival BadRelated = (text : List ℕ) × (arrival.related ≡ Some text)
    × ((request : Message) → ¬ IsWhole one_request text request)
IsBad arrival (BadMessage fault) = (related : Option Message)
    × IsAnswered arrival.related related
    × IsMessageFault (arrival_reading arrival.role related) arrival.text fault
