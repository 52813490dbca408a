-- What a gateway answers for the items of a stream.
use Rattle.std.specs.Prelude.{◌≡◌, ◌⊎◌, ◌<◌, ◌≤◌, ⊤, ℕ, Option, Some, None, List, [], ◌∷◌, ◌++◌, length}
use Rattle.std.specs.Io.KnownBytes.{IsAtEnd}
use Rattle.std.specs.List.{FoldsTo}
use Rattle.nonces.specs.Books.{Book}
use Rattle.recording.specs.Items.{Body, PlacedItem, message, moment, stored}
use Rattle.recording.specs.Readers.{BeginsWithItems, IsFaultFrom, IsFaultSoFar, IsOpen}
use Rattle.recording.specs.Recordings.{SpellsRecording}
use Rattle.recording.specs.declared.item.Role.TheVariants.{Request, Response, Related}
use Rattle.recording.specs.declared.item_fault.ItemFault.{ItemFault}
use Rattle.recording.specs.declared.item_fault.ItemFault.TheVariants as fault
use Rattle.recording.specs.declared.limits.TheConstants.{MAX_ITEMS}
use Rattle.recording.specs.declared.reader.TheConstants.{MAX_PIECE_BYTES}
use Rattle.settings.specs.Configuration.{Configuration}
use Rattle.settings.specs.declared.gateway_conf.GatewayConf.{GatewayConf}
use Rattle.gateway.specs.Arrivals.{Arrival}
use Rattle.gateway.specs.Records.{Answers}
use Rattle.gateway.specs.Seen.{nothing_seen}
use Rattle.gateway.specs.declared.fault.StreamFault.{StreamFault}
use Rattle.gateway.specs.declared.fault.StreamFault.TheVariants.{Memory, NotRead, NotWritten, Recording, OutOfPlace, TooManyItems}
use Rattle.gateway.specs.declared.gateway_record.GatewayRecord.{GatewayRecord}

-- ---- item by item

-- a request that the next message is to answer, and the offset of its line
pub record RelatedRequest : Type 0 where
  pub offset : ℕ
  pub text : List ℕ

-- what the items so far say: the last moment, the request that the next message is to answer, the
-- entries that were seen, and the records
pub record StreamState : Type 0 where
  pub moment : ℕ
  pub related : Option RelatedRequest
  pub seen : Book
  pub records : List GatewayRecord

-- no item came
abbrev pub stream_begin : Configuration → StreamState
stream_begin conf =
    record { moment = 0; related = None; seen = nothing_seen conf 0; records = [] }

-- a message comes now: its record is added
pub record AddsRecord (conf : Configuration) (settings : GatewayConf) (before : StreamState)
    (arrival : Arrival) (after : StreamState) : Type 0 where
  pub record_ : GatewayRecord
  pub answers : Answers settings (record {
    conf = conf;
    seen = before.seen;
    count = length before.records;
  }) before.moment arrival record_ after.seen
  pub records : after.records ≡ before.records ++ record_ ∷ []
  pub moment : after.moment ≡ before.moment
  pub related : after.related ≡ None

-- What is at this offset comes in its place, where this request is to be answered or none: after a
-- request the response to it and nothing else, and a script nowhere.
abbrev pub MeetsBody : Configuration → GatewayConf → StreamState → Option RelatedRequest → ℕ
    → Body → StreamState → Type 0
MeetsBody conf settings before None offset (moment seconds) after =
    after ≡ record before { moment = seconds }
MeetsBody conf settings before None offset (stored (message Related) text) after =
    after ≡ record before { related = Some (record { offset = offset; text = text }) }
MeetsBody conf settings before None offset (stored (message Request) text) after =
    AddsRecord conf settings before (record { role = Request; text = text; related = None }) after
MeetsBody conf settings before None offset (stored (message Response) text) after =
    AddsRecord conf settings before (record { role = Response; text = text; related = None }) after
MeetsBody conf settings before (Some request) offset (stored (message Response) text) after =
    AddsRecord conf settings before
    (record { role = Response; text = text; related = Some request.text }) after
MeetsBody conf settings before related offset body after = ⊥

-- the item comes in its place
abbrev pub MeetsItem : Configuration → GatewayConf → StreamState → PlacedItem → StreamState
    → Type 0
MeetsItem conf settings before item after =
    MeetsBody conf settings before before.related item.offset item.body after

-- the items lead from one state to the other
abbrev pub LeadOn : Configuration → GatewayConf → StreamState → List PlacedItem → StreamState
    → Type 0
LeadOn conf settings before items after =
    FoldsTo (λ before item after. MeetsItem conf settings before item after) before items after

-- the items lead from the beginning to this
abbrev pub LeadTo : Configuration → GatewayConf → List PlacedItem → StreamState → Type 0
LeadTo conf settings items after = LeadOn conf settings (stream_begin conf) items after

-- ---- the whole stream

-- a fault of a source, or of what it gives
abbrev pub stream_fault_of : ItemFault → StreamFault
stream_fault_of fault.Memory = Memory
stream_fault_of fault.Failed = NotRead
stream_fault_of (fault.Recording own) = Recording own
stream_fault_of fault.TooManyItems = TooManyItems

-- the stream is a recording, and these are the records of its messages
pub record IsServed (conf : Configuration) (settings : GatewayConf) (text : List ℕ)
    (records : List GatewayRecord) : Type 0 where
  pub items : List PlacedItem
  pub spells : SpellsRecording text items
  pub few : length items ≤ MAX_ITEMS
  pub state : StreamState
  pub leads : LeadTo conf settings items state
  pub related : state.related ≡ None
  pub records_are : state.records ≡ records

-- there are no items yet, or the stream begins with them, and they lead to this
pub record IsServedTo (conf : Configuration) (settings : GatewayConf) (text : List ℕ)
    (items : List PlacedItem) (state : StreamState) : Type 0 where
  pub begins : (items ≡ []) ⊎ ((rest : List ℕ) × BeginsWithItems text items rest)
  pub few : length items ≤ MAX_ITEMS
  pub leads : LeadTo conf settings items state

-- No more was read than the item after these needs: without its last piece, which is no longer than
-- the pieces that are read, the text holds neither that item nor a fault.
pub record IsNeeded (items : List PlacedItem) (text : List ℕ) : Type 0 where
  pub earlier : List ℕ
  pub piece : List ℕ
  pub joined : text ≡ earlier ++ piece
  pub few : length piece ≤ MAX_PIECE_BYTES
  pub not_yet : IsOpen items earlier

-- The last of these items is a message, whose record is the last one: the state before it has all
-- the records but that. No more was read than this item needs.
pub record IsAtRecord (conf : Configuration) (settings : GatewayConf) (text : List ℕ)
    (items : List PlacedItem) (state : StreamState) : Type 0 where
  pub before : List PlacedItem
  pub last : PlacedItem
  pub items_are : items ≡ before ++ last ∷ []
  pub known : StreamState
  pub leads : LeadTo conf settings before known
  pub meets : MeetsItem conf settings known last state
  pub record_ : GatewayRecord
  pub records_are : state.records ≡ known.records ++ record_ ∷ []
  pub needed : IsNeeded before text

-- The next item, which isn't one too many, isn't in its place, and its line is at this offset; or
-- the stream ends after the related request whose line is there. This is left of the source.
abbrev pub IsOutOfPlace : Configuration → GatewayConf → List ℕ → Option (List ℕ)
    → List PlacedItem → StreamState → ℕ → Type 0
IsOutOfPlace conf settings text left items state offset =
    ((next : PlacedItem) × (rest : List ℕ) × BeginsWithItems text (items ++ next ∷ []) rest
    × (length items < MAX_ITEMS)
    × ((after : StreamState) → ¬ MeetsItem conf settings state next after)
    × (offset ≡ next.offset))
    ⊎ ((request : RelatedRequest) × SpellsRecording text items × IsAtEnd left
    × (state.related ≡ Some request) × (offset ≡ request.offset))

-- Why the stream isn't served further than these items, where this text was read and this is left.
-- A read fails where there is no further item. A write fails at the record of the last item, and no
-- more was read than that needs. The text is no recording, whatever comes, or it ends there. An
-- item is out of its place, or one too many. Out of memory nothing is said.
abbrev pub IsStreamFault : Configuration → GatewayConf → List ℕ → Option (List ℕ)
    → List PlacedItem → StreamState → StreamFault → Type 0
IsStreamFault conf settings text left items state Memory = ⊤
IsStreamFault conf settings text left items state NotRead = IsOpen items text
IsStreamFault conf settings text left items state NotWritten =
    IsAtRecord conf settings text items state
IsStreamFault conf settings text left items state (Recording fault) =
    IsFaultSoFar text items fault × (IsFaultFrom text fault ⊎ IsAtEnd left)
IsStreamFault conf settings text left items state (OutOfPlace offset) =
    IsOutOfPlace conf settings text left items state offset
IsStreamFault conf settings text left items state TooManyItems = (length items ≡ MAX_ITEMS)
    × (next : PlacedItem) × (rest : List ℕ) × BeginsWithItems text (items ++ next ∷ []) rest

-- the stream is served up to these records, and no further, for this fault
pub record IsServedUpTo (conf : Configuration) (settings : GatewayConf) (text : List ℕ)
    (left : Option (List ℕ)) (records : List GatewayRecord) (fault : StreamFault) : Type 0 where
  pub items : List PlacedItem
  pub state : StreamState
  pub served : IsServedTo conf settings text items state
  pub records_are : state.records ≡ records
  pub why : IsStreamFault conf settings text left items state fault
