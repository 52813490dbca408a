-- What `gateway` wrote tells of the messages that came to it (RFC 9421 sections 3.1, 3.2, 7.2.2).
use Rattle.std.specs.Prelude.{◌≡◌, ◌⊎◌, ◌<◌, ℕ, Option, Some, List, ◌∷◌, ◌++◌, length, option_map}
use Rattle.std.specs.List.{Contains}
use Rattle.hms_io.specs.Files.{FileMap}
use Rattle.hms_io.specs.declared.status.Status.{Status}
use Rattle.command_line.specs.Command.{Gateway, GatewayWords, IsCommand}
use Rattle.msg_body.specs.Messages.{Message, Spells}
use Rattle.component_values.specs.Context.{MessageContext, answers_head, context_with}
use Rattle.nonces.specs.Books.{Book, Entry}
use Rattle.recording.specs.Items.{PlacedItem, message, stored}
use Rattle.settings.specs.Configuration.{Configuration}
use Rattle.settings.specs.declared.gateway_conf.GatewayConf.{GatewayConf}
use Rattle.settings.specs.declared.sign_conf.SignConf.{SignConf}
use Rattle.verdicts.specs.Laws.{IsRightlySigned}
use Rattle.verdicts.specs.Verification.{verification_for}
use Rattle.gateway.specs.Arrivals.{Arrival, IsRead}
use Rattle.gateway.specs.Laws.{AcceptsEntry, KeepsAccepted}
use Rattle.gateway.specs.Records.{GatewayState}
use Rattle.gateway.specs.Seen.{IsAdvanced}
use Rattle.gateway.specs.Streams.{IsServedTo, LeadOn, LeadTo, StreamState}
use Rattle.gateway.specs.declared.gateway_record.GatewayRecord.{GatewayRecord}
use Rattle.gateway.specs.declared.gateway_record.GatewayRecord.TheVariants.{Pass}
use Rattle.refusals.specs.declared.refusal.Refusal.{Refusal}
use Rattle.intake.specs.Files.{Found, AreFound}
use Rattle.program.specs.Commands.{name_of}
use Rattle.program.specs.StreamEnds.{EndsServed}

-- ---- a message that comes

-- the message comes with an item of the stream, when this is known of the items before it, and
-- these nonces were seen that aren't over at their moment
pub record ComesWith (conf : Configuration) (settings : GatewayConf) (items : List PlacedItem)
    (arrival : Arrival) : Type 0 where
  pub before : List PlacedItem
  pub item : PlacedItem
  pub later : List PlacedItem
  pub joined : items ≡ before ++ item ∷ later
  pub body : item.body ≡ stored (message arrival.role) arrival.text
  pub known : StreamState
  pub leads : LeadTo conf settings before known
  pub related : arrival.related ≡ option_map (λ request. request.text) known.related
  pub seen : Book
  pub advanced : IsAdvanced known.moment known.seen seen

-- by what it is judged
abbrev pub judged_by : {conf : Configuration} {settings : GatewayConf} {items : List PlacedItem}
    {arrival : Arrival} → ComesWith conf settings items arrival → GatewayState
judged_by {conf = conf} comes =
    record { conf = conf; seen = comes.seen; count = length comes.known.records }

-- ---- a message that passes

-- the text is that of a message that passes in place of the one that came, and this holds of it
pub record IsPassedFor (conf : Configuration) (arrival : Arrival) (text : List ℕ)
    (P : MessageContext → Message → Type 0) : Type 0 where
  pub context : MessageContext
  pub read : IsRead conf arrival context
  pub passed : Message
  pub spells : Spells (answers_head context.related) passed text
  pub holds : P context passed

-- The message of this index, before which so many came and have their records, passes as this text:
-- in it the accepted label has the signature parameters, the tag and the base that it had, and is
-- accepted; and the gateway's own label is rightly signed.
pub record PassesRightly (conf : Configuration) (settings : GatewayConf)
    (items : List PlacedItem) (index : ℕ) (label text : List ℕ) : Type 0 where
  pub arrival : Arrival
  pub comes : ComesWith conf settings items arrival
  pub index_is : index ≡ length comes.known.records
  pub kept : IsPassedFor conf arrival text
      (λ context passed. KeepsAccepted settings (judged_by comes) context label passed)
  pub sign : SignConf
  pub sign_is : conf.sign ≡ Some sign
  pub own : IsPassedFor conf arrival text (λ context passed. IsRightlySigned
      (verification_for conf comes.seen.moment (context_with context passed) sign.label)
      sign.keyid)

-- ---- nonces

-- Of two messages of the stream that are accepted, whether they pass or are held, with one keyid
-- and one nonce, the later one comes after the last moment at which the earlier one would be
-- accepted. So no signature parameters with a nonce are accepted twice.
abbrev pub AcceptsOnce : Configuration → GatewayConf → List PlacedItem → Type 0
AcceptsOnce conf settings items =
    (first between rest : List PlacedItem) (item later : PlacedItem)
    (before after next last : StreamState) (entry other : Entry)
    → items ≡ first ++ item ∷ (between ++ later ∷ rest)
    → LeadTo conf settings first before → AcceptsEntry conf settings before item after entry
    → LeadOn conf settings after between next
    → AcceptsEntry conf settings next later last other
    → entry.keyid ≡ other.keyid → entry.nonce ≡ other.nonce → entry.until < next.moment

-- ---- of a run

-- what the records of these items tell
pub record TellsRecords (conf : Configuration) (settings : GatewayConf)
    (items : List PlacedItem) (records : List GatewayRecord) : Type 0 where
  pub passed : (index : ℕ) (label text : List ℕ) → Contains records (Pass index label text)
      → PassesRightly conf settings items index label text
  pub once : AcceptsOnce conf settings items

-- the stream is served, and the records of its items tell this, however many of them were read
pub record TellsStream (words : GatewayWords) (found : Found)
    (left left_now taken now : Option (List ℕ)) (status : Status) (told : Option Refusal)
    : Type 0 where
  pub ends : EndsServed words found left left_now taken now status told
  pub tells : (items : List PlacedItem) (state : StreamState)
      → IsServedTo ends.conf ends.settings ends.served.serves.text items state
      → TellsRecords ends.conf ends.settings items state.records

-- where `gateway` has read of its stream, what it wrote tells this
abbrev pub WritesPassed : List (List ℕ) → Option FileMap → Type 0 → Option (List ℕ)
    → Option (List ℕ) → Option (List ℕ) → Option (List ℕ) → Status → Option Refusal → Type 0
WritesPassed arguments shelf Same left left_now taken now status told =
    (words : GatewayWords) → IsCommand arguments (Gateway words) → (found : Found)
    × AreFound shelf (name_of (Gateway words)) found
    × (Same ⊎ TellsStream words found left left_now taken now status told)
