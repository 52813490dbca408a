-- A stream of messages in their places isn't refused.
use Rattle.std.proofs.Common.{◌≡◌, ◌⊎◌, ◌≤◌, ◌+◌, ◌++◌, ◌∙◌, inl, inr, arith, ℕ, List, [], ◌∷◌, Bool, true, false, Option, Some, None, Result, Ok, Err, length, refl, sym, ap, subst}
use Rattle.std.specs.Prelude.{IfSome}
use Rattle.std.specs.Io.KnownBytes.{Appends, Keeps}
use Rattle.std.specs.List.{All, FoldsTo, list_all}
use Rattle.std.proofs.KnownBytes.{Appends-kept, Appends-nil}
use Rattle.std.proofs.lemmas.List.{append_assoc, append-nil, length-append}
use Rattle.std.proofs.lemmas.List.Elements.{All-head, All-tail}
use Rattle.hms_io.specs.declared.status.Status.{Status}
use Rattle.hms_io.specs.declared.status.Status.TheVariants.{Done, NotOk, BadArguments, BadInput, ReadFault, WriteFault, OutOfMemory, BadConf, LimitPassed, FileMissing}
use Rattle.msg_body.specs.declared.limits.TheConstants.{MAX_MESSAGE_BYTES}
use Rattle.nonces.specs.Books.{Book, live_entries}
use Rattle.nonces.specs.declared.limits.TheConstants.{MAX_MOMENT}
use Rattle.byte_grammar.specs.Numbers.{IsNumber}
use Rattle.recording.specs.Items.{Body, IsShort, PlacedItem, body_text, message, moment, number_of, script, stored}
use Rattle.recording.specs.Readers.{BeginsWithItems}
use Rattle.recording.specs.Recordings.{ArePlaced, HasForm, SpellsRecording, bodies, items_text}
use Rattle.recording.specs.declared.item.Role.TheVariants.{Request, Response, Related}
use Rattle.recording.specs.declared.limits.TheConstants.{MAX_ITEMS}
use Rattle.recording.proofs.RecordingLaws.{no_fault_of_recording, one_recording}
use Rattle.recording.proofs.RestLaws.{rest_is_others}
use Rattle.conf.specs.Configuration.{Configuration}
use Rattle.settings.specs.Valid.{IsValid}
use Rattle.settings.specs.declared.gateway_conf.GatewayConf.{GatewayConf}
use Rattle.settings.specs.declared.sign_conf.SignConf.{SignConf}
use Rattle.gateway.specs.Arrivals.{Arrival, IsSized}
use Rattle.gateway.specs.Laws.{IsReady}
use Rattle.gateway.specs.RecordTexts.{records_text}
use Rattle.gateway.specs.Records.{GatewayState, is_pass}
use Rattle.gateway.specs.Seen.{IsAdvanced}
use Rattle.gateway.specs.Served.{Serves, WritesRecords}
use Rattle.gateway.specs.Streams.{AddsRecord, IsOutOfPlace, IsServed, IsServedUpTo, LeadTo, MeetsBody, MeetsItem, RelatedRequest, StreamState, stream_begin}
use Rattle.gateway.specs.declared.fault.StreamFault.{StreamFault}
use Rattle.gateway.specs.declared.fault.StreamFault.TheVariants as stream
use Rattle.gateway.specs.declared.gateway_record.GatewayRecord.{GatewayRecord}
use Rattle.refusals.specs.declared.refusal.Refusal.{Refusal}
use Rattle.intake.specs.Files.{Found, Conf as ConfFile}
use Rattle.intake.specs.declared.tables.Needs.TheVariants.{GatewayTables}
use Rattle.command_line.specs.Command.{GatewayWords}
use Rattle.program.specs.Laws.{IsServedInPlace, WritesServed}
use Rattle.refusals.specs.declared.file.FileRefusal.{FileRefusal}
use Rattle.program.specs.Intake.{IsConfLacking}
use Rattle.program.specs.StreamEnds.{EndsAfter, EndsBefore, refusal_in, stream_refusal, stream_status}
use Rattle.program.proofs.CommandLaws.{conf_decided, valid_where_configured}
use Rattle.program.proofs.GatewayLaws.{one_list_of_records, served_in_one_way, some_record}
use Rattle.program.proofs.IntakeLaws.{conf_not}
use Rattle.program.proofs.StreamRecords.{brings, first_of, items_early, some_sign}

-- ---- the items of a part of a recording

-- items in their places are the first of others that have their bodies first
placed_first : (offset : ℕ) (items all : List PlacedItem) (others : List Body) → ArePlaced offset items → ArePlaced offset all → bodies all ≡ bodies items ++ others → (more : List PlacedItem) × (all ≡ items ++ more)
placed_first offset [] all others here there same = (all, refl)
placed_first offset (item ∷ items) [] others here there same = absurd (cc same)
placed_first offset (item ∷ items) (other ∷ all) others here there same =
    let body : other.body ≡ item.body = cc same in
    let rest : bodies all ≡ bodies items ++ others = cc same in
    let moved : ArePlaced (offset + length (body_text item.body)) all = subst (λ (b : Body). ArePlaced (offset + length (body_text b)) all) body there.1 in
    let first : other ≡ item = λ i. record { offset = (there.0 ∙ sym here.0) i; body = body i } in
    let next = placed_first (offset + length (body_text item.body)) items all others here.1 moved rest in
    (next.0, cc (first, next.1))

-- a text with which a recording begins begins with its first items
first_items : (input text left : List ℕ) (items all : List PlacedItem) (rest : List ℕ) → input ≡ text ++ left → BeginsWithItems text items rest → SpellsRecording input all → (more : List PlacedItem) × (all ≡ items ++ more)
first_items input text left items all rest joined begins spells =
    let whole = joined ∙ ap (λ (t : List ℕ). t ++ left) begins.joined ∙ append_assoc (items_text (bodies items)) rest left in
    let form = subst (λ (t : List ℕ). HasForm t (bodies all)) whole spells.form in
    let others = rest_is_others (bodies items) (bodies all) (rest ++ left) begins.are form in
    placed_first _ items all others.0 begins.placed spells.placed others.1

-- what holds of the last one
last_of : (P : Body → Type 0) (items : List PlacedItem) (last : PlacedItem) → All P (bodies (items ++ last ∷ [])) → P last.body
last_of P [] last all = All-head P last.body [] all
last_of P (item ∷ items) last all = last_of P items last (All-tail P item.body (bodies (items ++ last ∷ [])) all)

module _ (conf : Configuration) (settings : GatewayConf) where
  abbrev Folds : StreamState → List PlacedItem → StreamState → Type 0
  Folds before items after = FoldsTo (λ before item after. MeetsItem conf settings before item after) before items after

  -- items that are met are met up to one of them
  met_first : (items : List PlacedItem) (next : PlacedItem) (more : List PlacedItem) (before after : StreamState) → Folds before (items ++ next ∷ more) after
      → (middle : StreamState) × Folds before items middle × ((last : StreamState) × MeetsItem conf settings middle next last)
  met_first [] next more before after (last, meets, folds) = (before, refl, (last, meets))
  met_first (item ∷ items) next more before after (between, meets, folds) =
      let later = met_first items next more between after folds in
      (later.0, (between, meets, later.1), later.2)

  -- they are met up to one of them, and from there on
  parted : (items more : List PlacedItem) (before after : StreamState) → Folds before (items ++ more) after → (middle : StreamState) × Folds before items middle × Folds middle more after
  parted [] more before after folds = (before, refl, folds)
  parted (item ∷ items) more before after (between, meets, folds) =
      let later = parted items more between after folds in
      (later.0, (between, meets, later.1), later.2)

  -- records are added at the end
  grown : (items : List PlacedItem) (before after : StreamState) → Folds before items after → (more : List GatewayRecord) × (after.records ≡ before.records ++ more)
  grown [] before after same = ([], ap (λ (s : StreamState). s.records) (sym same) ∙ sym (append-nil before.records))
  grown (item ∷ items) before after (next, meets, folds) =
      let later = grown items next after folds in
      elim (brings conf settings before next before.related item.offset item.body meets) [
        | inl same ↦ (later.0, later.1 ∙ ap (λ (rs : List GatewayRecord). rs ++ later.0) same)
        | inr brought ↦ (brought.1.record_ ∷ later.0, later.1 ∙ ap (λ (rs : List GatewayRecord). rs ++ later.0) brought.1.records ∙ append_assoc before.records (brought.1.record_ ∷ []) later.0)
      ]

  -- ---- the request that is to be answered

  -- it is the same after the same item
  one_related : (p q after other : StreamState) (related : Option RelatedRequest) (offset : ℕ) (body : Body) → p.related ≡ related → q.related ≡ related → MeetsBody conf settings p related offset body after
      → MeetsBody conf settings q related offset body other → after.related ≡ other.related
  one_related p q after other None offset (moment seconds) a b is also = ap (λ (s : StreamState). s.related) is ∙ (a ∙ sym b) ∙ sym (ap (λ (s : StreamState). s.related) also)
  one_related p q after other None offset (stored script text) a b is also = absurd is
  one_related p q after other None offset (stored (message Related) text) a b is also = ap (λ (s : StreamState). s.related) is ∙ sym (ap (λ (s : StreamState). s.related) also)
  one_related p q after other None offset (stored (message Request) text) a b is also = is.related ∙ sym also.related
  one_related p q after other None offset (stored (message Response) text) a b is also = is.related ∙ sym also.related
  one_related p q after other (Some request) offset (moment seconds) a b is also = absurd is
  one_related p q after other (Some request) offset (stored script text) a b is also = absurd is
  one_related p q after other (Some request) offset (stored (message Related) text) a b is also = absurd is
  one_related p q after other (Some request) offset (stored (message Request) text) a b is also = absurd is
  one_related p q after other (Some request) offset (stored (message Response) text) a b is also = is.related ∙ sym also.related

  -- and after the same items
  same_related : (items : List PlacedItem) (p q after other : StreamState) → p.related ≡ q.related → Folds p items after → Folds q items other → after.related ≡ other.related
  same_related [] p q after other same is also = ap (λ (s : StreamState). s.related) (sym is) ∙ same ∙ ap (λ (s : StreamState). s.related) also
  same_related (item ∷ items) p q after other same (next, meets, folds) (last, met, folded) =
      let there : MeetsBody conf settings q p.related item.offset item.body last = subst (λ (r : Option RelatedRequest). MeetsBody conf settings q r item.offset item.body last) (sym same) met in
      same_related items next last after other (one_related p q next last p.related item.offset item.body refl (sym same) meets there) folds folded

  -- ---- what isn't too long

  step_sized : (before after : StreamState) (related : Option RelatedRequest) (offset : ℕ) (body : Body) → MeetsBody conf settings before related offset body after → IsShort body → before.related ≡ related
      → IfSome related (λ request. length request.text ≤ MAX_MESSAGE_BYTES) → IfSome after.related (λ request. length request.text ≤ MAX_MESSAGE_BYTES)
  step_sized before after None offset (moment seconds) meets short is sized = rw (ap (λ (s : StreamState). s.related) meets ∙ is) tt
  step_sized before after None offset (stored script text) meets short is sized = absurd meets
  step_sized before after None offset (stored (message Related) text) meets short is sized = rw (ap (λ (s : StreamState). s.related) meets) short
  step_sized before after None offset (stored (message Request) text) meets short is sized = rw meets.related tt
  step_sized before after None offset (stored (message Response) text) meets short is sized = rw meets.related tt
  step_sized before after (Some request) offset (moment seconds) meets short is sized = absurd meets
  step_sized before after (Some request) offset (stored script text) meets short is sized = absurd meets
  step_sized before after (Some request) offset (stored (message Related) text) meets short is sized = absurd meets
  step_sized before after (Some request) offset (stored (message Request) text) meets short is sized = absurd meets
  step_sized before after (Some request) offset (stored (message Response) text) meets short is sized = rw meets.related tt

  items_sized : (items : List PlacedItem) (before after : StreamState) → Folds before items after → All IsShort (bodies items) → IfSome before.related (λ request. length request.text ≤ MAX_MESSAGE_BYTES)
      → IfSome after.related (λ request. length request.text ≤ MAX_MESSAGE_BYTES)
  items_sized [] before after same short sized = subst (λ (s : StreamState). IfSome s.related (λ request. length request.text ≤ MAX_MESSAGE_BYTES)) same sized
  items_sized (item ∷ items) before after (next, meets, folds) short sized =
      items_sized items next after folds (All-tail IsShort item.body (bodies items) short)
      (step_sized before next before.related item.offset item.body meets (All-head IsShort item.body (bodies items) short) refl sized)

  -- ---- a message that can be met

  module _ (valid : IsValid conf) (sign : SignConf) (sign_is : conf.sign ≡ Some sign) (settings_are : conf.gateway ≡ Some settings) where
    -- what lives of the entries at the moment
    abbrev advanced_to : StreamState → Book
    advanced_to state = record { entries = live_entries state.moment state.seen.entries; capacity = state.seen.capacity; window = state.seen.window; moment = state.moment }

    is_advanced : (state : StreamState) → IsAdvanced state.moment state.seen (advanced_to state)
    is_advanced state = record { entries_are = record { members = λ entry. (λ there. there, λ there. there); length = refl }; moment = refl; capacity = refl; window = refl }

    abbrev with_seen : StreamState → Book → GatewayState
    with_seen state seen = record { conf = conf; seen = seen; count = length state.records }

    some_added : (state : StreamState) (arrival : Arrival) → state.moment ≤ MAX_MOMENT → IsSized arrival → (after : StreamState) × AddsRecord conf settings state arrival after
    some_added state arrival early sized =
        let ready : IsReady settings (with_seen state (advanced_to state)) = record { valid = valid; sign = sign; sign_is = sign_is; settings_are = settings_are; early = early } in
        let answer = some_record settings (with_seen state (advanced_to state)) arrival ready sized in (
          record { moment = state.moment; related = None; seen = answer.1; records = state.records ++ answer.0 ∷ [] },
          record {
            record_ = answer.0;
            answers = record { seen = advanced_to state; advanced = is_advanced state; is = answer.2 };
            records = refl;
            moment = refl;
            related = refl;
          },
        )

    -- what can be met at a request can be met at the same one
    can_meet : (state p last : StreamState) (related : Option RelatedRequest) (offset : ℕ) (body : Body) → MeetsBody conf settings p related offset body last → state.moment ≤ MAX_MOMENT → IsShort body
        → IfSome related (λ request. length request.text ≤ MAX_MESSAGE_BYTES) → (after : StreamState) × MeetsBody conf settings state related offset body after
    can_meet state p last None offset (moment seconds) meets early short sized = (record state { moment = seconds }, refl)
    can_meet state p last None offset (stored script text) meets early short sized = absurd meets
    can_meet state p last None offset (stored (message Related) text) meets early short sized = (record state { related = Some (record { offset = offset; text = text }) }, refl)
    can_meet state p last None offset (stored (message Request) text) meets early short sized = some_added state (record { role = Request; text = text; related = None }) early (record { text = short; related = tt })
    can_meet state p last None offset (stored (message Response) text) meets early short sized = some_added state (record { role = Response; text = text; related = None }) early (record { text = short; related = tt })
    can_meet state p last (Some request) offset (moment seconds) meets early short sized = absurd meets
    can_meet state p last (Some request) offset (stored script text) meets early short sized = absurd meets
    can_meet state p last (Some request) offset (stored (message Related) text) meets early short sized = absurd meets
    can_meet state p last (Some request) offset (stored (message Request) text) meets early short sized = absurd meets
    can_meet state p last (Some request) offset (stored (message Response) text) meets early short sized =
        some_added state (record { role = Response; text = text; related = Some request.text }) early (record { text = short; related = sized })

    -- ---- a stream that can be served

    module _ (input text left : List ℕ) (joined : input ≡ text ++ left) (records : List GatewayRecord) (served : IsServed conf settings input records) where
      -- it is all that was read at its end
      ended : left ≡ [] → input ≡ text
      ended none = joined ∙ ap (λ (l : List ℕ). text ++ l) none ∙ append-nil text

      -- each item of it is in its place
      in_place : (items : List PlacedItem) (state : StreamState) (next : PlacedItem) (rest : List ℕ) → LeadTo conf settings items state → BeginsWithItems text (items ++ next ∷ []) rest
          → (after : StreamState) × MeetsItem conf settings state next after
      in_place items state next rest leads begins =
          let first = first_items input text left (items ++ next ∷ []) served.items rest joined begins served.spells in
          let all : served.items ≡ items ++ next ∷ first.0 = first.1 ∙ append_assoc items (next ∷ []) first.0 in
          let led : LeadTo conf settings (items ++ next ∷ first.0) served.state = subst (λ (is : List PlacedItem). LeadTo conf settings is served.state) all served.leads in
          let met = met_first items next first.0 (stream_begin conf) served.state led in
          let same : met.0.related ≡ state.related = same_related items (stream_begin conf) (stream_begin conf) met.0 state refl met.1 leads in
          let here : MeetsBody conf settings met.0 state.related next.offset next.body met.2.0 = subst (λ (r : Option RelatedRequest). MeetsBody conf settings met.0 r next.offset next.body met.2.0) same met.2.1 in
          let numbers = first_of (λ body. IsNumber (number_of body)) items (next ∷ []) begins.are.numbers in
          let short = first_of IsShort items (next ∷ []) begins.allowed.short in
          let last_short = last_of IsShort items next begins.allowed.short in
          can_meet state met.0 met.2.0 state.related next.offset next.body here (items_early conf settings items (stream_begin conf) state leads numbers (omega arith)) last_short
          (items_sized items (stream_begin conf) state leads short tt)

      not_out_of_place : (items : List PlacedItem) (state : StreamState) (offset : ℕ) → LeadTo conf settings items state → IsOutOfPlace conf settings text (Some left) items state offset → ⊥
      not_out_of_place items state offset leads (inl (next, rest, begins, few, none, is)) = let here = in_place items state next rest leads begins in none here.0 here.1
      not_out_of_place items state offset leads (inr (request, spells, at_end, is, offset_is)) =
          let whole : SpellsRecording input items = subst (λ (t : List ℕ). SpellsRecording t items) (sym (ended at_end)) spells in
          let all : items ≡ served.items = one_recording input items served.items whole served.spells in
          let led : LeadTo conf settings items served.state = subst (λ (is : List PlacedItem). LeadTo conf settings is served.state) (sym all) served.leads in
          let same : served.state.related ≡ state.related = same_related items (stream_begin conf) (stream_begin conf) served.state state refl led leads in
          cc (sym served.related ∙ same ∙ is)

      not_too_many : (items : List PlacedItem) (next : PlacedItem) (rest : List ℕ) → length items ≡ MAX_ITEMS → BeginsWithItems text (items ++ next ∷ []) rest → ⊥
      not_too_many items next rest many begins =
          let first = first_items input text left (items ++ next ∷ []) served.items rest joined begins served.spells in
          let count = ap length first.1 ∙ length-append (items ++ next ∷ []) first.0 in
          omega (arith, count, length-append items (next ∷ []), many, served.few)

      -- the records of its first items are the first of all
      items_first : (items : List PlacedItem) → (items ≡ []) ⊎ ((rest : List ℕ) × BeginsWithItems text items rest) → (more : List PlacedItem) × (served.items ≡ items ++ more)
      items_first items (inl none) = (served.items, ap (λ (is : List PlacedItem). is ++ served.items) (sym none))
      items_first items (inr (rest, begins)) = first_items input text left items served.items rest joined begins served.spells

      first_records : (fault : StreamFault) (others : List GatewayRecord) → IsServedUpTo conf settings text (Some left) others fault → (more : List GatewayRecord) × (records ≡ others ++ more)
      first_records fault others up =
          let more = items_first up.items up.served.begins in
          let led : LeadTo conf settings (up.items ++ more.0) served.state = subst (λ (is : List PlacedItem). LeadTo conf settings is served.state) more.1 served.leads in
          let parts = parted up.items more.0 (stream_begin conf) served.state led in
          let same : parts.0.records ≡ up.state.records = one_list_of_records conf settings up.items parts.0 up.state parts.1 up.served.leads in
          let rest = grown more.0 parts.0 served.state parts.2 in
          (rest.0, sym served.records_are ∙ rest.1 ∙ ap (λ (rs : List GatewayRecord). rs ++ rest.0) (same ∙ up.records_are))

      unrefused : (fault : StreamFault) (others : List GatewayRecord) → IsServedUpTo conf settings text (Some left) others fault → stream_refusal fault ≡ None
      unrefused stream.Memory others up = refl
      unrefused stream.NotRead others up = refl
      unrefused stream.NotWritten others up = refl
      unrefused (stream.Recording f) others up = elim (up.why.1) [
        | inl from ↦ absurd (no_fault_of_recording (text ++ left) served.items f (subst (λ (t : List ℕ). SpellsRecording t served.items) joined served.spells) (from left))
        | inr at_end ↦ absurd (no_fault_of_recording text served.items f (subst (λ (t : List ℕ). SpellsRecording t served.items) (ended at_end) served.spells) up.why.0.is)
      ]
      unrefused (stream.OutOfPlace offset) others up = absurd (not_out_of_place up.items up.state offset up.served.leads up.why)
      unrefused stream.TooManyItems others up = let why = up.why in absurd (not_too_many up.items why.1 why.2 why.0 why.3)

-- ---- a run

all_written : (records : List GatewayRecord) (taken now : Option (List ℕ)) (all_pass : Bool) → Appends taken now (records_text records) → all_pass ≡ list_all is_pass records → WritesServed records taken now (stream_status (Ok all_pass))
all_written records taken now true written is = (written, sym is)
all_written records taken now false written is = (written, sym is)

some_written : (records others more : List GatewayRecord) (taken now : Option (List ℕ)) (fault : StreamFault) → records ≡ others ++ more → stream_refusal fault ≡ None → WritesRecords others taken now fault
    → WritesServed records taken now (stream_status (Err fault))
some_written records others more taken now stream.Memory parts none written = record { first = others; rest = more; parts = parts; written = written }
some_written records others more taken now stream.NotRead parts none written = record { first = others; rest = more; parts = parts; written = written }
some_written records others more taken now stream.NotWritten parts none written = record { first = others; rest = more; parts = parts; written = written }
some_written records others more taken now (stream.Recording f) parts none written = absurd (cc none)
some_written records others more taken now (stream.OutOfPlace offset) parts none written = absurd (cc none)
some_written records others more taken now stream.TooManyItems parts none written = absurd (cc none)

-- nothing comes after the records
ends_so : (records : List GatewayRecord) (own : Status) (taken between now : Option (List ℕ)) (status : Status) (told : Option Refusal) → WritesServed records taken between own → EndsAfter None own between now status told
    → WritesServed records taken now status × (told ≡ None)
ends_so records own taken between now status told written (keeps, is, none) =
    (subst (λ (s : Status). WritesServed records taken now s) (sym is) (subst (λ (n : Option (List ℕ)). WritesServed records taken n own) (sym keeps) written), none)

module _ (conf : Configuration) (settings : GatewayConf) (valid : IsValid conf) (sign : SignConf) (sign_is : conf.sign ≡ Some sign) (settings_are : conf.gateway ≡ Some settings) where
  served_ends : (input : List ℕ) (records : List GatewayRecord) → IsServed conf settings input records → (left_now taken between now : Option (List ℕ)) (status : Status) (told : Option Refusal) (served : Result Bool StreamFault)
      → Serves conf settings (Some input) left_now taken between served → EndsAfter (refusal_in served) (stream_status served) between now status told → WritesServed records taken now status × (told ≡ None)
  served_ends input records whole None taken between now status told served serves after = absurd serves.read
  served_ends input records whole (Some left) taken between now status told (Ok all_pass) serves after =
      let w = serves.written in
      let all : input ≡ serves.text = serves.read ∙ ap (λ (l : List ℕ). serves.text ++ l) w.2 ∙ append-nil serves.text in
      let same : w.0 ≡ records = served_in_one_way conf settings input w.0 records (subst (λ (t : List ℕ). IsServed conf settings t w.0) (sym all) w.1) whole in
      let written = all_written w.0 taken between all_pass w.3 w.4 in
      ends_so records (stream_status (Ok all_pass)) taken between now status told (subst (λ (rs : List GatewayRecord). WritesServed rs taken between (stream_status (Ok all_pass))) same written) after
  served_ends input records whole (Some left) taken between now status told (Err fault) serves after =
      let w = serves.written in
      let none = unrefused conf settings valid sign sign_is settings_are input serves.text left serves.read records whole fault w.0 w.1 in
      let first = first_records conf settings valid sign sign_is settings_are input serves.text left serves.read records whole fault w.0 w.1 in
      let ends : EndsAfter None (stream_status (Err fault)) between now status told = subst (λ (r : Option Refusal). EndsAfter r (stream_status (Err fault)) between now status told) none after in
      ends_so records (stream_status (Err fault)) taken between now status told (some_written records w.0 first.0 taken between fault first.1 none w.2) ends

-- none of the records was written
none_written : (taken now : Option (List ℕ)) → Keeps taken now → Appends taken now (records_text [])
none_written taken now keeps = Appends-kept taken taken now [] (Appends-nil taken) keeps

-- a configuration that has what is needed isn't refused
before_ends : (records : List GatewayRecord) (words : GatewayWords) (found : Found) (taken now : Option (List ℕ)) (status : Status) (told : Option Refusal)
    → ((cause : FileRefusal) → ¬ IsConfLacking GatewayTables (Some words.conf) (found ConfFile) cause) → EndsBefore words found taken now status told → WritesServed records taken now status × (told ≡ None)
before_ends records words found taken now Done told not (cause, lacking, ends) = absurd (not cause lacking)
before_ends records words found taken now NotOk told not (cause, lacking, ends) = absurd (not cause lacking)
before_ends records words found taken now BadArguments told not (cause, lacking, ends) = absurd (not cause lacking)
before_ends records words found taken now BadInput told not (cause, lacking, ends) = absurd (not cause lacking)
before_ends records words found taken now ReadFault told not (keeps, none) = (record { first = []; rest = records; parts = refl; written = none_written taken now keeps }, none)
before_ends records words found taken now WriteFault told not (cause, lacking, ends) = absurd (not cause lacking)
before_ends records words found taken now OutOfMemory told not (keeps, none) = (record { first = []; rest = records; parts = refl; written = none_written taken now keeps }, none)
before_ends records words found taken now BadConf told not (cause, lacking, ends) = absurd (not cause lacking)
before_ends records words found taken now LimitPassed told not (cause, lacking, ends) = absurd (not cause lacking)
before_ends records words found taken now FileMissing told not (cause, lacking, ends) = absurd (not cause lacking)

pub served_in_place : IsServedInPlace
served_in_place words found input left_now taken now status told servable (inl before) =
    before_ends servable.records words found taken now status told (λ cause lacking. conf_not GatewayTables (Some words.conf) (found ConfFile) cause (servable.conf, servable.read) lacking) before
served_in_place words found input left_now taken now status told servable (inr ends) =
    let one : servable.conf ≡ ends.conf = (conf_decided (Some words.conf) (found ConfFile)).value servable.conf ends.conf servable.read.configured ends.read.configured in
    let both : Some servable.settings ≡ Some ends.settings = sym servable.settings_are ∙ ap (λ (c : Configuration). c.gateway) one ∙ ends.settings_are in
    let same : servable.settings ≡ ends.settings = cc both in
    let whole : IsServed ends.conf ends.settings input servable.records =
    subst (λ (s : GatewayConf). IsServed ends.conf s input servable.records) same (subst (λ (c : Configuration). IsServed c servable.settings input servable.records) one servable.served) in
    let sign = some_sign ends.conf ends.read.tables.1 in
    served_ends ends.conf ends.settings (valid_where_configured (Some words.conf) (found ConfFile) ends.conf ends.read.configured) sign.0 sign.1 ends.settings_are input servable.records whole
    left_now taken ends.served.between now status told ends.served.served ends.served.serves ends.served.after
