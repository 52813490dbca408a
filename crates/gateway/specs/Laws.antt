-- Laws of gateways.
use Rattle.std.specs.Prelude.{◌≡◌, ◌<◌, ◌≤◌, ℕ, Some, List, ◌∷◌, ◌++◌, length}
use Rattle.std.specs.List.Sorted.{IsNonDecreasing}
use Rattle.msg_body.specs.Messages.{Message, Spells}
use Rattle.component_ids.specs.declared.params.SigParams.{SigParams}
use Rattle.component_values.specs.Context.{MessageContext, answers_head, context_with}
use Rattle.nonces.specs.Books.{Book, Entry}
use Rattle.nonces.specs.declared.limits.TheConstants.{MAX_MOMENT}
use Rattle.recording.specs.Items.{PlacedItem}
use Rattle.recording.specs.Recordings.{bodies, moments}
use Rattle.rewrites.specs.Laws.{IsBaseOf}
use Rattle.settings.specs.Configuration.{Configuration}
use Rattle.settings.specs.Valid.{IsValid}
use Rattle.settings.specs.declared.gateway_conf.GatewayConf.{GatewayConf}
use Rattle.settings.specs.declared.sign_conf.SignConf.{SignConf}
use Rattle.signatures.specs.Signatures.{HasSignature}
use Rattle.verdicts.specs.Laws.{IsRightlySigned}
use Rattle.verdicts.specs.Verdicts.{Accepts}
use Rattle.verdicts.specs.Verification.{verification_for}
use Rattle.gateway.specs.Accepted.{verification_seen}
use Rattle.gateway.specs.Arrivals.{Arrival, IsRead, IsSized}
use Rattle.gateway.specs.Records.{GatewayState, IsLetIn, IsRecordOf}
use Rattle.gateway.specs.Seen.{HasBecome, IsEntryOf, Remembers}
use Rattle.gateway.specs.Streams.{AddsRecord, IsServed, LeadOn, LeadTo, MeetsItem, StreamState}
use Rattle.gateway.specs.declared.gateway_record.GatewayRecord.{GatewayRecord}
use Rattle.gateway.specs.declared.gateway_record.GatewayRecord.TheVariants.{Pass}

-- the configuration is valid, says what is signed, and that this is what a gateway does; and the
-- moment isn't too great
pub record IsReady (settings : GatewayConf) (state : GatewayState) : Type 0 where
  pub valid : IsValid state.conf
  pub sign : SignConf
  pub sign_is : state.conf.sign ≡ Some sign
  pub settings_are : state.conf.gateway ≡ Some settings
  pub early : state.seen.moment ≤ MAX_MOMENT

-- ---- one record

-- what is no longer than a message may be has a record
abbrev pub HasSomeRecord : Type 0
HasSomeRecord =
    (settings : GatewayConf) (state : GatewayState) (arrival : Arrival) → IsReady settings state
    → IsSized arrival → (record_ : GatewayRecord) × (after : Book)
    × IsRecordOf settings state arrival record_ after

-- it has one
abbrev pub HasOneRecord : Type 0
HasOneRecord =
    (settings : GatewayConf) (state : GatewayState) (arrival : Arrival)
    (record_ other : GatewayRecord) (after another : Book)
    → IsRecordOf settings state arrival record_ after
    → IsRecordOf settings state arrival other another → record_ ≡ other

-- and one book comes after it, its entries in any order
abbrev pub HasOneBook : Type 0
HasOneBook =
    (settings : GatewayConf) (state : GatewayState) (arrival : Arrival) (record_ : GatewayRecord)
    (after another : Book) → IsRecordOf settings state arrival record_ after
    → IsRecordOf settings state arrival record_ another
    → HasBecome another.entries another.moment another after

-- ---- one list of records

-- the items of a stream have one
abbrev pub HasOneListOfRecords : Type 0
HasOneListOfRecords =
    (conf : Configuration) (settings : GatewayConf) (items : List PlacedItem)
    (state other : StreamState) → LeadTo conf settings items state
    → LeadTo conf settings items other → state.records ≡ other.records

-- so has a stream, in whatever pieces it comes
abbrev pub IsServedInOneWay : Type 0
IsServedInOneWay =
    (conf : Configuration) (settings : GatewayConf) (text : List ℕ)
    (records others : List GatewayRecord) → IsServed conf settings text records
    → IsServed conf settings text others → records ≡ others

-- ---- what passes

-- the message that passes has the signature of the accepted label, with the same parameters, tag
-- and base, and the label is accepted in it, at the same moment and with what was seen before
pub record KeepsAccepted (settings : GatewayConf) (state : GatewayState)
    (context : MessageContext) (label : List ℕ) (passed : Message) : Type 0 where
  pub keyid : List ℕ
  pub params : SigParams
  pub let_in : IsLetIn settings state context label keyid params
  pub signature : HasSignature passed label params let_in.tag
  pub base : (base : List ℕ) → IsBaseOf context params base
      → IsBaseOf (context_with context passed) params base
  pub accepts : Accepts
      (verification_seen state.conf state.seen (context_with context passed) label) keyid

-- what passes is a message that keeps it
abbrev pub IsKeptWherePassed : Type 0
IsKeptWherePassed =
    (settings : GatewayConf) (state : GatewayState) (arrival : Arrival) (index : ℕ)
    (label text : List ℕ) (after : Book) → IsReady settings state
    → IsRecordOf settings state arrival (Pass index label text) after
    → (context : MessageContext) × IsRead state.conf arrival context × (passed : Message)
    × Spells (answers_head context.related) passed text
    × KeepsAccepted settings state context label passed

-- and the gateway's own label is rightly signed in it: rules 1 to 12 and 27 to 32 hold
abbrev pub IsOwnLabelRight : Type 0
IsOwnLabelRight =
    (settings : GatewayConf) (state : GatewayState) (arrival : Arrival) (index : ℕ)
    (label text : List ℕ) (after : Book) (ready : IsReady settings state)
    → IsRecordOf settings state arrival (Pass index label text) after
    → (context : MessageContext) × IsRead state.conf arrival context × (passed : Message)
    × Spells (answers_head context.related) passed text
    × IsRightlySigned (verification_for state.conf state.seen.moment
    (context_with context passed) ready.sign.label) ready.sign.keyid

-- ---- nonces

-- At this item a message comes whose label is accepted, by what was seen before it, whether it
-- passes or is held; and its nonce is remembered by this entry.
pub record AcceptsEntry (conf : Configuration) (settings : GatewayConf) (before : StreamState)
    (item : PlacedItem) (after : StreamState) (entry : Entry) : Type 0 where
  pub meets : MeetsItem conf settings before item after
  pub arrival : Arrival
  pub adds : AddsRecord conf settings before arrival after
  pub context : MessageContext
  pub read : IsRead conf arrival context
  pub label : List ℕ
  pub keyid : List ℕ
  pub params : SigParams
  pub let_in : IsLetIn settings (record {
    conf = conf;
    seen = adds.answers.seen;
    count = length before.records;
  }) context label keyid params
  pub remembers : Remembers conf params keyid adds.answers.seen after.seen
  pub entry_is : IsEntryOf conf params keyid entry

-- Two messages of a stream are accepted with one keyid and one nonce, and no moment is earlier than
-- one before it, as in each recording. Then the later one comes after the last moment of the entry
-- that the earlier one added. So no signature parameters with a nonce are accepted twice.
abbrev pub IsNoNonceTwice : Type 0
IsNoNonceTwice =
    (conf : Configuration) (settings : GatewayConf) (items between : List PlacedItem)
    (item later : PlacedItem) (before after next last : StreamState) (entry other : Entry)
    → IsNonDecreasing (moments (bodies (items ++ item ∷ between)))
    → LeadTo conf settings items before
    → AcceptsEntry conf settings before item after entry
    → LeadOn conf settings after between next
    → AcceptsEntry conf settings next later last other
    → entry.keyid ≡ other.keyid → entry.nonce ≡ other.nonce → entry.until < next.moment
