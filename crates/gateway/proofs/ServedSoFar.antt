-- How far a stream was read and served. The items that were read are those that were met, or one more.
use Rattle.std.proofs.Common.{◌≡◌, ◌⊎◌, ◌≤◌, inl, inr, ℕ, Bool, true, List, [], ◌∷◌, ◌++◌, length, Option, refl, sym, subst, arith}
use Rattle.std.proofs.KnownBytes.{Appends-nil, Consumes-nil}
use Rattle.std.specs.Io.KnownBytes.{Appends, Consumes}
use Rattle.std.specs.List.{list_all}
use Rattle.settings.specs.Configuration.{Configuration}
use Rattle.settings.specs.declared.gateway_conf.GatewayConf.{GatewayConf}
use Rattle.recording.specs.Items.{PlacedItem}
use Rattle.recording.specs.Readers.{BeginsWithItems, HasRead, IsLastMoment, IsReadTo, ReaderState, nothing_read}
use Rattle.recording.specs.Recordings.{SpellsRecording, bodies, moments}
use Rattle.recording.specs.declared.item_fault.ItemFault.{ItemFault}
use Rattle.recording.specs.declared.limits.TheConstants.{MAX_ITEMS}
use Rattle.recording.specs.declared.reader.ReaderStage.{ReaderStage}
use Rattle.recording.specs.declared.reader.ReaderStage.TheVariants.{Begin, Items, LastLine, End, Refused}
use Rattle.gateway.specs.Records.{is_pass}
use Rattle.gateway.specs.RecordTexts.{records_text}
use Rattle.gateway.specs.Streams.{IsNeeded, LeadTo}
use Rattle.gateway.specs.declared.gateway_record.GatewayRecord.{GatewayRecord}
use Rattle.gateway.specs.tools.HeldStreams.{HeldStream, state_with, stream_held}

-- the reader may be asked for the next item
pub record MayRead (stage : ReaderStage) : Type 0 where
  pub no_end : stage ≡ End → ⊥
  pub no_fault : (fault : ItemFault) → stage ≡ Refused fault → ⊥

-- no more was read than the last of the items needs
pub record IsNeededLast (items : List PlacedItem) (text : List ℕ) : Type 0 where
  pub before : List PlacedItem
  pub last : PlacedItem
  pub items_are : items ≡ before ++ last ∷ []
  pub needed : IsNeeded before text

-- the items were read of the source, and no more than the last of them needs
pub record AreRead (left left_now : Option (List ℕ)) (reader : ReaderState) (items : List PlacedItem) : Type 0 where
  pub text : List ℕ
  pub has_read : HasRead reader items text
  pub going : MayRead reader.stage
  pub few : reader.count ≤ MAX_ITEMS
  pub consumed : Consumes left left_now text
  pub needed : (text ≡ []) ⊎ IsNeededLast items text

-- the items lead to this stream, and their records were written
pub record AreServed (conf : Configuration) (settings : GatewayConf) (taken taken_now : Option (List ℕ)) (stream : HeldStream) (all_pass : Bool) (items : List PlacedItem) : Type 0 where
  pub records : List GatewayRecord
  pub leads : LeadTo conf settings items (state_with stream records)
  pub conf_is : stream.conf ≡ conf
  pub count : length records ≡ stream.count
  pub fewer : length records ≤ length items
  pub moment : IsLastMoment (moments (bodies items)) stream.moment
  pub written : Appends taken taken_now (records_text records)
  pub passes : all_pass ≡ list_all is_pass records

-- ---- at the begin

begin_goes : MayRead Begin
begin_goes = record { no_end = λ e. absurd (cc e); no_fault = λ fault e. absurd (cc e) }

pub read_nothing : (left : Option (List ℕ)) (reader : ReaderState) → reader ≡ nothing_read → AreRead left left reader []
read_nothing left reader is = subst (λ (r : ReaderState). AreRead left left r []) (sym is) (record {
  text = [];
  has_read = record { given = refl; count = refl; moment = ([], refl); read = (refl, refl) };
  going = begin_goes;
  few = omega arith;
  consumed = Consumes-nil left;
  needed = inl refl;
})

pub served_nothing : (conf : Configuration) (settings : GatewayConf) (taken : Option (List ℕ)) (stream : HeldStream) → stream ≡ stream_held conf → AreServed conf settings taken taken stream true []
served_nothing conf settings taken stream is = subst (λ (h : HeldStream). AreServed conf settings taken taken h true []) (sym is) (record {
  records = [];
  leads = refl;
  conf_is = refl;
  count = refl;
  fewer = omega arith;
  moment = ([], refl);
  written = Appends-nil taken;
  passes = refl;
})

-- ---- what the text begins with

abbrev pub Begins : List ℕ → List PlacedItem → Type 0
Begins text items = (items ≡ []) ⊎ ((rest : List ℕ) × BeginsWithItems text items rest)

spelled : (text : List ℕ) (items : List PlacedItem) → SpellsRecording text items → Begins text items
spelled text items s = inr (_, record { are = s.form.are; allowed = s.allowed; placed = s.placed; joined = s.form.joined })

begins_at : (stage : ReaderStage) (items : List PlacedItem) (text held : List ℕ) → IsReadTo stage items text held → Begins text items
begins_at Begin items text held read = inl read.0
begins_at Items items text held read = inr (held, read)
begins_at LastLine items text held read = spelled text items read.0
begins_at End items text held read = spelled text items read.0
begins_at (Refused fault) items text held read = read

pub begins_read : (reader : ReaderState) (items : List PlacedItem) (text : List ℕ) → HasRead reader items text → Begins text items
begins_read reader items text read = begins_at reader.stage items text reader.held read.read
