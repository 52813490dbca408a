-- How a stream ends that was served so far.
use Rattle.std.proofs.Common.{◌≡◌, ◌⊎◌, ◌<◌, inl, inr, ℕ, Bool, false, List, [], ◌∷◌, ◌++◌, length, Option, None, Ok, Err, refl, sym, ap, subst, arith, length-append}
use Rattle.std.proofs.lemmas.List.{same_from_push}
use Rattle.std.proofs.KnownBytes.{Appends-kept, Appends-nil, Consumes-nil, Consumes-trans}
use Rattle.settings.specs.Configuration.{Configuration}
use Rattle.settings.specs.declared.gateway_conf.GatewayConf.{GatewayConf}
use Rattle.recording.specs.Items.{PlacedItem}
use Rattle.recording.specs.Readers.{AnswersNext, ReadsNeeded, ReadsNext, ReaderState}
use Rattle.recording.specs.declared.item_fault.ItemFault.{ItemFault}
use Rattle.recording.specs.declared.item_fault.ItemFault.TheVariants as item
use Rattle.recording.specs.declared.limits.TheConstants.{MAX_ITEMS}
use Rattle.gateway.specs.RecordTexts.{records_text}
use Rattle.gateway.specs.Served.{IsWrittenOf, Serves}
use Rattle.gateway.specs.Streams.{IsNeeded, IsOutOfPlace, IsServedTo, IsStreamFault, MeetsItem, StreamState, stream_begin, stream_fault_of}
use Rattle.gateway.specs.declared.fault.StreamFault.{StreamFault}
use Rattle.gateway.specs.declared.fault.StreamFault.TheVariants as fault
use Rattle.gateway.specs.declared.gateway_record.GatewayRecord.{GatewayRecord}
use Rattle.gateway.specs.tools.HeldStreams.{HeldStream, MeetsAndWrites, SaysFinished, state_with}
use Rattle.gateway.proofs.ServedSoFar.{AreRead, AreServed, Begins, IsNeededLast, begins_read}
use Rattle.gateway.proofs.ItemsRead.{begins_more, begins_shorter, not_empty}
use Rattle.gateway.proofs.GoingOn.{leads_more}

-- ---- before the begin

pub ends_unopened : (conf : Configuration) (settings : GatewayConf) (left taken : Option (List ℕ)) → Serves conf settings left left taken taken (Err fault.Memory)
ends_unopened conf settings left taken = record {
  text = [];
  read = Consumes-nil left;
  written = (
    [],
    record {
      items = [];
      state = stream_begin conf;
      served = record { begins = inl refl; few = omega arith; leads = refl };
      records_are = refl;
      why = tt;
    },
    Appends-nil taken,
  );
}

-- ---- no further item is read

module _ (conf : Configuration) (settings : GatewayConf) (left left_now left_new taken taken_now : Option (List ℕ)) (reader new : ReaderState) (stream : HeldStream) (all_pass : Bool) (items : List PlacedItem)
    (r : AreRead left left_now reader items) (s : AreServed conf settings taken taken_now stream all_pass items) where
  served_to : (more : List ℕ) → IsServedTo conf settings (r.text ++ more) items (state_with stream s.records)
  served_to more = record {
    begins = begins_more r.text more items (begins_read reader items r.text r.has_read);
    few = omega (arith, r.few, r.has_read.count);
    leads = s.leads;
  }

  because : (more : List ℕ) (own : ItemFault) → AnswersNext items r.text more left_new new (Err own) → IsStreamFault conf settings (r.text ++ more) left_new items (state_with stream s.records) (stream_fault_of own)
  because more item.Memory answers = tt
  because more item.Failed answers = answers
  because more (item.Recording own) answers = (answers.0, answers.1)
  because more item.TooManyItems answers = answers

  written_up_to : (more : List ℕ) (own : ItemFault) → IsStreamFault conf settings (r.text ++ more) left_new items (state_with stream s.records) (stream_fault_of own)
      → IsWrittenOf conf settings (r.text ++ more) left_new taken taken_now (Err (stream_fault_of own))
  written_up_to more item.Memory why = (s.records, record { items = items; state = state_with stream s.records; served = served_to more; records_are = refl; why = why }, s.written)
  written_up_to more item.Failed why = (s.records, record { items = items; state = state_with stream s.records; served = served_to more; records_are = refl; why = why }, s.written)
  written_up_to more (item.Recording own) why = (s.records, record { items = items; state = state_with stream s.records; served = served_to more; records_are = refl; why = why }, s.written)
  written_up_to more item.TooManyItems why = (s.records, record { items = items; state = state_with stream s.records; served = served_to more; records_are = refl; why = why }, s.written)

  pub ends_unread : (own : ItemFault) → ReadsNext reader new left_now left_new (Err own) → Serves conf settings left left_new taken taken_now (Err (stream_fault_of own))
  ends_unread own reads = ends (reads items r.text r.has_read r.going.no_end r.going.no_fault)
    where
      ends : (more : List ℕ) × ReadsNeeded left_now left_new items r.text more × AnswersNext items r.text more left_new new (Err own) → Serves conf settings left left_new taken taken_now (Err (stream_fault_of own))
      ends (more, needs, answers) = record {
        text = r.text ++ more;
        read = Consumes-trans left left_now left_new r.text more r.consumed needs.taken;
        written = written_up_to more own (because more own answers);
      }

  -- the stream has ended, and no related request is left
  pub ends_passed : ReadsNext reader new left_now left_new (Ok false) → stream.related ≡ None → Serves conf settings left left_new taken taken_now (Ok all_pass)
  ends_passed reads free = ends (reads items r.text r.has_read r.going.no_end r.going.no_fault)
    where
      ends : (more : List ℕ) × ReadsNeeded left_now left_new items r.text more × AnswersNext items r.text more left_new new (Ok false) → Serves conf settings left left_new taken taken_now (Ok all_pass)
      ends (more, needs, (spells, end, stage, has_read)) = record {
        text = r.text ++ more;
        read = Consumes-trans left left_now left_new r.text more r.consumed needs.taken;
        written = (
          s.records,
          record { items = items; spells = spells; few = omega (arith, r.few, r.has_read.count); state = state_with stream s.records; leads = s.leads; related = free; records_are = refl },
          end,
          s.written,
          s.passes,
        );
      }

  -- or one is
  pub ends_waiting : (own : StreamFault) → ReadsNext reader new left_now left_new (Ok false) → SaysFinished stream (Err own) → Serves conf settings left left_new taken taken_now (Err own)
  ends_waiting own reads finished = subst (λ (f : StreamFault). Serves conf settings left left_new taken taken_now (Err f)) (sym finished.2) (ends (reads items r.text r.has_read r.going.no_end r.going.no_fault))
    where
      ends : (more : List ℕ) × ReadsNeeded left_now left_new items r.text more × AnswersNext items r.text more left_new new (Ok false) → Serves conf settings left left_new taken taken_now (Err (fault.OutOfPlace finished.0.offset))
      ends (more, needs, (spells, end, stage, has_read)) = record {
        text = r.text ++ more;
        read = Consumes-trans left left_now left_new r.text more r.consumed needs.taken;
        written = (
          s.records,
          record {
            items = items;
            state = state_with stream s.records;
            served = served_to more;
            records_are = refl;
            why = inr (finished.0, spells, end, finished.1, refl);
          },
          s.written,
        );
      }

-- ---- an item isn't met, or a write failed

module _ (conf : Configuration) (settings : GatewayConf) (left left_now taken taken_now taken_new : Option (List ℕ)) (reader : ReaderState) (stream new : HeldStream) (all_pass : Bool) (items : List PlacedItem) (next : PlacedItem)
    (r : AreRead left left_now reader (items ++ next ∷ [])) (s : AreServed conf settings taken taken_now stream all_pass items) where
  size : length items < MAX_ITEMS
  size = omega (arith, r.few, r.has_read.count, length-append items (next ∷ []))

  served_before : IsServedTo conf settings r.text items (state_with stream s.records)
  served_before = record { begins = begins_shorter r.text items next (begins_read reader (items ++ next ∷ []) r.text r.has_read); few = omega (arith, size); leads = s.leads }

  needed_for : (r.text ≡ []) ⊎ IsNeededLast (items ++ next ∷ []) r.text → IsNeeded items r.text
  needed_for (inl empty) = absurd (not_empty r.text items next (begins_read reader (items ++ next ∷ []) r.text r.has_read) empty)
  needed_for (inr own) = subst (λ (l : List PlacedItem). IsNeeded l r.text) (sym (same_from_push items own.before next own.last own.items_are).0) own.needed

  out_of_place : (own : ℕ) → own ≡ next.offset → ((records : List GatewayRecord) (after : StreamState) → MeetsItem stream.conf settings (state_with stream records) next after → ⊥) → Begins r.text (items ++ next ∷ [])
      → IsOutOfPlace conf settings r.text left_now items (state_with stream s.records) own
  out_of_place own place none (inl empty) = absurd (omega (arith, ap (λ (l : List PlacedItem). length l) empty, length-append items (next ∷ [])))
  out_of_place own place none (inr b) = inl (next, b.0, b.1, size, (λ after meets. none s.records after (subst (λ (k : Configuration). MeetsItem k settings (state_with stream s.records) next after) (sym s.conf_is) meets)), place)

  broken : (own : StreamFault) → MeetsAndWrites settings stream new next taken_now taken_new (Err own) → IsWrittenOf conf settings r.text left_now taken taken_new (Err own)
  broken fault.Memory (met, keeps) =
      (s.records, record { items = items; state = state_with stream s.records; served = served_before; records_are = refl; why = tt }, Appends-kept taken taken_now taken_new (records_text s.records) s.written keeps)
  broken fault.NotRead ((is, none), keeps) = absurd (cc is)
  broken fault.NotWritten (answer, adds, part) =
      let records = s.records ++ answer ∷ [] in
      let meets = adds.2 s.records s.count in (
        records,
        record {
          items = items ++ next ∷ [];
          state = state_with new records;
          served = record { begins = begins_read reader (items ++ next ∷ []) r.text r.has_read; few = omega (arith, r.few, r.has_read.count); leads = leads_more conf settings stream s.records items next (state_with new records) s.conf_is s.leads meets };
          records_are = refl;
          why = record {
            before = items;
            last = next;
            items_are = refl;
            known = state_with stream s.records;
            leads = s.leads;
            meets = subst (λ (k : Configuration). MeetsItem k settings (state_with stream s.records) next (state_with new records)) s.conf_is meets;
            record_ = answer;
            records_are = refl;
            needed = needed_for r.needed;
          };
        },
        record { earlier = s.records; last = answer; records_are = refl; between = taken_now; whole = s.written; part = part },
      )
  broken (fault.Recording own) ((is, none), keeps) = absurd (cc is)
  broken (fault.OutOfPlace own) ((is, none), keeps) =
      let place : own ≡ next.offset = cc in (
        s.records,
        record {
          items = items;
          state = state_with stream s.records;
          served = served_before;
          records_are = refl;
          why = out_of_place own place none (begins_read reader (items ++ next ∷ []) r.text r.has_read);
        },
        Appends-kept taken taken_now taken_new (records_text s.records) s.written keeps,
      )
  broken fault.TooManyItems ((is, none), keeps) = absurd (cc is)

  pub ends_unmet : (own : StreamFault) → MeetsAndWrites settings stream new next taken_now taken_new (Err own) → Serves conf settings left left_now taken taken_new (Err own)
  ends_unmet own m = record { text = r.text; read = r.consumed; written = broken own m }
