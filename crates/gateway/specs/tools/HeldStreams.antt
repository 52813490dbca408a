-- A stream as it is held. No public clause cites this module.
use Rattle.std.specs.Prelude.{◌≡◌, ◌≤◌, ◌<◌, ◌+◌, ⊤, ℕ, Bool, Option, Some, None, option_map, IfOk, IfSome, IsTrue, Result, Ok, Err, List, [], ◌∷◌, ◌++◌, length}
use Rattle.std.specs.Io.KnownBytes.{Appends, Keeps}
use Rattle.std.specs.List.{list_all}
use Rattle.msg_body.specs.declared.limits.TheConstants.{MAX_MESSAGE_BYTES}
use Rattle.nonces.specs.Books.{Book}
use Rattle.nonces.specs.declared.limits.TheConstants.{MAX_MOMENT}
use Rattle.recording.specs.Items.{Body, PlacedItem, moment, stored}
use Rattle.recording.specs.declared.item.Role.TheVariants.{Response}
use Rattle.recording.specs.declared.limits.TheConstants.{MAX_ITEMS}
use Rattle.settings.specs.Configuration.{Configuration}
use Rattle.settings.specs.declared.gateway_conf.GatewayConf.{GatewayConf}
use Rattle.gateway.specs.Arrivals.{Arrival}
use Rattle.gateway.specs.Records.{is_pass}
use Rattle.gateway.specs.Seen.{nothing_seen}
use Rattle.hms_io.specs.Writing.{AppendsPart}
use Rattle.gateway.specs.RecordTexts.{is_record_in_range, record_text, records_text}
use Rattle.gateway.specs.Streams.{AddsRecord, MeetsItem, RelatedRequest, StreamState}
use Rattle.gateway.specs.declared.fault.StreamFault.{StreamFault}
use Rattle.gateway.specs.declared.fault.StreamFault.TheVariants.{Memory, NotWritten, OutOfPlace}
use Rattle.gateway.specs.declared.gateway_record.GatewayRecord.{GatewayRecord}
use Rattle.gateway.specs.declared.stream.RelatedRequest.{RelatedRequest as HeldRequest}

-- the configuration, and what the items so far say of the next message; of the records only how
-- many there are
pub record HeldStream : Type 0 where
  pub conf : Configuration
  pub moment : ℕ
  pub related : Option RelatedRequest
  pub seen : Book
  pub count : ℕ

-- with these records it is that of the items so far
abbrev pub state_with : HeldStream → List GatewayRecord → StreamState
state_with held records = record {
  moment = held.moment;
  related = held.related;
  seen = held.seen;
  records = records;
}

-- what is held of a related request
abbrev pub related_held : Option HeldRequest → Option RelatedRequest
related_held None = None
related_held (Some request) = Some (record { offset = request.offset; text = request.text })

-- The nonces are those of an earlier moment, or of this one, and a request is no longer than a
-- message may be.
pub record IsStreamHeld (seen : Book) (moment : ℕ) (related : Option RelatedRequest)
    : Type 0 where
  pub later : seen.moment ≤ moment
  pub latest : moment ≤ MAX_MOMENT
  pub sized : IfSome related (λ request. length request.text ≤ MAX_MESSAGE_BYTES)

-- that of a stream of which no item came
abbrev pub stream_held : Configuration → HeldStream
stream_held conf = record {
  conf = conf;
  moment = 0;
  related = None;
  seen = nothing_seen conf 0;
  count = 0;
}

-- ---- an item

-- the item is short, and its moment isn't earlier
abbrev pub CanMeetBody : HeldStream → Body → Type 0
CanMeetBody held (moment seconds) = (held.moment ≤ seconds) × (seconds ≤ MAX_MOMENT)
CanMeetBody held (stored kind text) = length text ≤ MAX_MESSAGE_BYTES

-- it can come next
abbrev pub CanMeet : HeldStream → PlacedItem → Type 0
CanMeet held item = (held.count < MAX_ITEMS) × CanMeetBody held item.body

-- the record that is answered is in range
abbrev pub AnswersInRange : Result (Option GatewayRecord) StreamFault → Type 0
AnswersInRange result =
    IfOk result (λ answer. IfSome answer (λ given. IsTrue (is_record_in_range given)))

-- the records that an answer adds
abbrev pub added : Option GatewayRecord → List GatewayRecord
added None = []
added (Some answer) = answer ∷ []

-- after any records this leads to those with what was added
abbrev pub AddsTo : (StreamState → StreamState → Type 0) → HeldStream → HeldStream
    → Option GatewayRecord → Type 0
AddsTo Leads old new answer = (new.conf ≡ old.conf)
    × (new.count ≡ old.count + length (added answer))
    × ((records : List GatewayRecord) → length records ≡ old.count
    → Leads (state_with old records) (state_with new (records ++ added answer)))

-- a message that comes now adds its record; else no memory was found
abbrev pub SaysAdded : GatewayConf → HeldStream → HeldStream → Arrival
    → Result (Option GatewayRecord) StreamFault → Type 0
SaysAdded settings old new arrival (Ok answer) = AddsTo
    (λ before after. AddsRecord old.conf settings before arrival after) old new answer
SaysAdded settings old new arrival (Err fault) = fault ≡ Memory

-- a response to this request
abbrev pub answered_by : List ℕ → List ℕ → Arrival
answered_by text request = record { role = Response; text = text; related = Some request }

-- a response, and the request before it, where that is there
abbrev pub answered : Option RelatedRequest → List ℕ → Arrival
answered related text = record {
  role = Response;
  text = text;
  related = option_map (λ request. request.text) related;
}

-- what comes of the item: it is met, or isn't in its place
abbrev pub SaysItemMet : GatewayConf → HeldStream → HeldStream → PlacedItem
    → Result (Option GatewayRecord) StreamFault → Type 0
SaysItemMet settings old new item (Ok answer) = AddsTo
    (λ before after. MeetsItem old.conf settings before item after) old new answer
SaysItemMet settings old new item (Err Memory) = ⊤
SaysItemMet settings old new item (Err fault) = (fault ≡ OutOfPlace item.offset)
    × ((records : List GatewayRecord) (after : StreamState)
    → ¬ MeetsItem old.conf settings (state_with old records) item after)

-- nothing but a response comes after a related request
abbrev pub SaysFree : HeldStream → ℕ → Result (⊤) StreamFault → Type 0
SaysFree held offset (Ok done) = held.related ≡ None
SaysFree held offset (Err fault) = (fault ≡ OutOfPlace offset)
    × (request : RelatedRequest) × (held.related ≡ Some request)

-- no related request is left, or the stream ends out of its place
abbrev pub SaysFinished : HeldStream → Result (⊤) StreamFault → Type 0
SaysFinished held (Ok done) = held.related ≡ None
SaysFinished held (Err fault) = (request : RelatedRequest) × (held.related ≡ Some request)
    × (fault ≡ OutOfPlace request.offset)

-- ---- what is written

-- The whole text was written; where a write failed, a part of it; and otherwise nothing.
abbrev pub WritesText : {T : Type 0} → List ℕ → Option (List ℕ) → Option (List ℕ)
    → Result T StreamFault → Type 0
WritesText text before now (Ok done) = Appends before now text
WritesText text before now (Err NotWritten) = AppendsPart before now text
WritesText text before now (Err fault) = (fault ≡ Memory) × Keeps before now

-- The item is met, and the record was written, if one is added; it says whether the message passed.
-- Where a write failed, a part of the record was written, and where the item isn't met, nothing.
abbrev pub MeetsAndWrites : GatewayConf → HeldStream → HeldStream → PlacedItem
    → Option (List ℕ) → Option (List ℕ) → Result Bool StreamFault → Type 0
MeetsAndWrites settings old new item taken now (Ok passes) = (answer : Option GatewayRecord)
    × SaysItemMet settings old new item (Ok answer)
    × Appends taken now (records_text (added answer))
    × (passes ≡ list_all is_pass (added answer))
MeetsAndWrites settings old new item taken now (Err NotWritten) = (answer : GatewayRecord)
    × SaysItemMet settings old new item (Ok (Some answer))
    × AppendsPart taken now (record_text answer)
MeetsAndWrites settings old new item taken now (Err fault) =
    SaysItemMet settings old new item (Err fault) × Keeps taken now
