-- A stream is read and served by one more item.
use Rattle.std.proofs.Common.{◌≡◌, ◌⊎◌, ◌≤◌, inl, inr, ℕ, Bool, true, ◌&&◌, List, [], ◌∷◌, ◌++◌, length, append_assoc, append-nil, Option, Some, None, Ok, refl, sym, ap, subst, ◌∙◌, arith, length-append}
use Rattle.std.proofs.lemmas.Fn.{FoldsTo-push}
use Rattle.std.proofs.lemmas.Grind.{flat_map-append}
use Rattle.std.proofs.lemmas.List.Folds.{list_all-append}
use Rattle.std.proofs.KnownBytes.{Appends-trans, Consumes-trans}
use Rattle.std.specs.Io.KnownBytes.{Appends}
use Rattle.std.specs.List.{list_all}
use Rattle.settings.specs.Configuration.{Configuration}
use Rattle.settings.specs.declared.gateway_conf.GatewayConf.{GatewayConf}
use Rattle.recording.specs.Items.{Body, PlacedItem, message, moment, script, stored}
use Rattle.recording.specs.Readers.{AnswersNext, IsLastMoment, IsOpen, ReadsNeeded, ReadsNext, ReaderState}
use Rattle.recording.specs.Recordings.{bodies, moments}
use Rattle.recording.specs.declared.item.Role.TheVariants.{Request, Response, Related}
use Rattle.recording.specs.declared.limits.TheConstants.{MAX_ITEMS}
use Rattle.recording.specs.declared.reader.ReaderStage.{ReaderStage}
use Rattle.recording.specs.declared.reader.ReaderStage.TheVariants.{Items}
use Rattle.gateway.specs.Records.{is_pass}
use Rattle.gateway.specs.RecordTexts.{record_text, records_text}
use Rattle.gateway.specs.Streams.{LeadTo, MeetsBody, MeetsItem, RelatedRequest, StreamState, stream_begin}
use Rattle.gateway.specs.declared.gateway_record.GatewayRecord.{GatewayRecord}
use Rattle.gateway.specs.tools.HeldStreams.{CanMeet, CanMeetBody, HeldStream, MeetsAndWrites, added, state_with}
use Rattle.gateway.proofs.ServedSoFar.{AreRead, AreServed, IsNeededLast, MayRead, begins_read}
use Rattle.gateway.proofs.ItemsRead.{IsAllowed, last_allowed, last_is_below, last_more, later, open_more}

-- ---- reading

items_go : (stage : ReaderStage) → stage ≡ Items → MayRead stage
items_go stage is = record { no_end = λ e. absurd (cc (e, is)); no_fault = λ fault e. absurd (cc (e, is)) }

-- no more than the next item needs was read
needed_more : (before now : Option (List ℕ)) (items : List PlacedItem) (next : PlacedItem) (text more : List ℕ) → ReadsNeeded before now items text more → (text ≡ []) ⊎ IsNeededLast items text
    → (text ++ more ≡ []) ⊎ IsNeededLast (items ++ next ∷ []) (text ++ more)
needed_more before now items next text more reads old = elim reads.needed [
  | inl none ↦ elim old [
    | inl empty ↦ inl (cc (none, empty))
    | inr need ↦ inr (record {
      before = items;
      last = next;
      items_are = refl;
      needed = record {
        earlier = need.needed.earlier;
        piece = need.needed.piece;
        joined = ap (λ (l : List ℕ). text ++ l) none ∙ append-nil text ∙ need.needed.joined;
        few = need.needed.few;
        not_yet = subst (λ (l : List PlacedItem). IsOpen l need.needed.earlier) (sym need.items_are) (open_more need.before need.last need.needed.earlier need.needed.not_yet);
      };
    })
  ]
  | inr last ↦ inr (record {
    before = items;
    last = next;
    items_are = refl;
    needed = record {
      earlier = text ++ last.0;
      piece = last.1;
      joined = ap (λ (l : List ℕ). text ++ l) last.2 ∙ sym (append_assoc text last.0 last.1);
      few = last.4;
      not_yet = last.3;
    };
  })
]

-- the next item was read
pub record IsNextRead (left left_now : Option (List ℕ)) (reader : ReaderState) (items : List PlacedItem) : Type 0 where
  pub next : PlacedItem
  pub item_is : reader.item ≡ Some next
  pub read : AreRead left left_now reader (items ++ next ∷ [])

pub read_more : (left left_now left_new : Option (List ℕ)) (reader new : ReaderState) (items : List PlacedItem) → AreRead left left_now reader items → ReadsNext reader new left_now left_new (Ok true) → new.count ≤ MAX_ITEMS
    → IsNextRead left left_new new items
read_more left left_now left_new reader new items r reads few = found (reads items r.text r.has_read r.going.no_end r.going.no_fault)
  where
    found : (more : List ℕ) × ReadsNeeded left_now left_new items r.text more × AnswersNext items r.text more left_new new (Ok true) → IsNextRead left left_new new items
    found (more, needs, (next, item_is, stage_is, has_read)) = record {
      next = next;
      item_is = item_is;
      read = record {
        text = r.text ++ more;
        has_read = has_read;
        going = items_go new.stage stage_is;
        few = few;
        consumed = Consumes-trans left left_now left_new r.text more r.consumed needs.taken;
        needed = needed_more left_now left_new items next r.text more needs r.needed;
      };
    }

-- ---- meeting

can_body : (held : HeldStream) (items : List PlacedItem) (body : Body) → IsAllowed items body → IsLastMoment (moments (bodies items)) held.moment → CanMeetBody held body
can_body held items (moment seconds) allowed last = (last_is_below last.0 (moments (bodies items)) held.moment seconds last.1 allowed.in_order, omega (arith, allowed.number))
can_body held items (stored kind text) allowed last = allowed.short

pub can_meet : (conf : Configuration) (settings : GatewayConf) (left left_now taken taken_now : Option (List ℕ)) (reader : ReaderState) (stream : HeldStream) (all_pass : Bool) (items : List PlacedItem) (next : PlacedItem)
    → AreRead left left_now reader (items ++ next ∷ []) → AreServed conf settings taken taken_now stream all_pass items → CanMeet stream next
can_meet conf settings left left_now taken taken_now reader stream all_pass items next r s = (
  omega (arith, r.few, r.has_read.count, length-append items (next ∷ []), s.count, s.fewer),
  can_body stream items next.body (last_allowed r.text items next (begins_read reader (items ++ next ∷ []) r.text r.has_read)) s.moment,
)

moment_met : (conf : Configuration) (settings : GatewayConf) (before : StreamState) (related : Option RelatedRequest) (offset : ℕ) (body : Body) (after : StreamState) → MeetsBody conf settings before related offset body after
    → after.moment ≡ later before.moment body
moment_met conf settings before None offset (moment seconds) after m = ap (λ (s : StreamState). s.moment) m
moment_met conf settings before None offset (stored (message Related) text) after m = ap (λ (s : StreamState). s.moment) m
moment_met conf settings before None offset (stored (message Request) text) after m = m.moment
moment_met conf settings before None offset (stored (message Response) text) after m = m.moment
moment_met conf settings before None offset (stored script text) after m = absurd m
moment_met conf settings before (Some request) offset (moment seconds) after m = absurd m
moment_met conf settings before (Some request) offset (stored (message Related) text) after m = absurd m
moment_met conf settings before (Some request) offset (stored (message Request) text) after m = absurd m
moment_met conf settings before (Some request) offset (stored (message Response) text) after m = m.moment
moment_met conf settings before (Some request) offset (stored script text) after m = absurd m

pub leads_more : (conf : Configuration) (settings : GatewayConf) (stream : HeldStream) (records : List GatewayRecord) (items : List PlacedItem) (next : PlacedItem) (after : StreamState) → stream.conf ≡ conf
    → LeadTo conf settings items (state_with stream records) → MeetsItem stream.conf settings (state_with stream records) next after → LeadTo conf settings (items ++ next ∷ []) after
leads_more conf settings stream records items next after is leads meets =
    FoldsTo-push (λ (before : StreamState) (item : PlacedItem) (state : StreamState). MeetsItem conf settings before item state) (stream_begin conf) items (state_with stream records) next after leads
    (subst (λ (k : Configuration). MeetsItem k settings (state_with stream records) next after) is meets)

few_added : (answer : Option GatewayRecord) → length (added answer) ≤ 1
few_added None = omega arith
few_added (Some answer) = omega arith

pub served_more : (conf : Configuration) (settings : GatewayConf) (taken taken_now taken_new : Option (List ℕ)) (stream new : HeldStream) (all_pass passes both : Bool) (items : List PlacedItem) (next : PlacedItem)
    → both ≡ (all_pass && passes) → AreServed conf settings taken taken_now stream all_pass items → MeetsAndWrites settings stream new next taken_now taken_new (Ok passes)
    → AreServed conf settings taken taken_new new both (items ++ next ∷ [])
served_more conf settings taken taken_now taken_new stream new all_pass passes both items next is s (answer, adds, writes, passes_is) =
    let records = s.records ++ added answer in
    let meets : MeetsItem stream.conf settings (state_with stream s.records) next (state_with new records) = adds.2 s.records s.count in
    let moment_is : new.moment ≡ later stream.moment next.body = moment_met stream.conf settings (state_with stream s.records) stream.related next.offset next.body (state_with new records) meets in
    record {
      records = records;
      leads = leads_more conf settings stream s.records items next (state_with new records) s.conf_is s.leads meets;
      conf_is = adds.0 ∙ s.conf_is;
      count = omega (arith, length-append s.records (added answer), s.count, adds.1);
      fewer = omega (arith, length-append s.records (added answer), length-append items (next ∷ []), s.fewer, few_added answer);
      moment = subst (IsLastMoment (moments (bodies (items ++ next ∷ [])))) (sym moment_is) (last_more items next stream.moment s.moment);
      written = subst (Appends taken taken_new) (sym (flat_map-append record_text s.records (added answer))) (Appends-trans taken taken_now taken_new (records_text s.records) (records_text (added answer)) s.written writes);
      passes = is ∙ ap (λ (b : Bool). b && passes) s.passes ∙ ap (λ (b : Bool). list_all is_pass s.records && b) passes_is ∙ sym (list_all-append is_pass s.records (added answer));
    }
