-- What the records of a stream tell of the messages that came.
use Rattle.std.proofs.Common.{◌≡◌, ◌⊎◌, ◌<◌, ◌≤◌, ◌++◌, ◌∙◌, inl, inr, arith, ℕ, List, [], ◌∷◌, Option, Some, None, length, refl, sym, ap, subst}
use Rattle.std.specs.Prelude.{IsSome, option_map}
use Rattle.std.specs.List.{All, Contains, FoldsTo}
use Rattle.std.specs.List.Sorted.{IsNonDecreasing}
use Rattle.std.proofs.Math.Seq.{take-append_seam}
use Rattle.std.proofs.lemmas.Fn.{FoldsTo-push}
use Rattle.std.proofs.lemmas.Grind.{flat_map-append}
use Rattle.std.proofs.lemmas.List.{append_assoc, map-append}
use Rattle.std.proofs.lemmas.List.Elements.{All-cons, All-head, All-nil, All-tail, Contains-push_cases}
use Rattle.std.proofs.lemmas.List.Sorted.{IsNonDecreasingBy-short, IsNonDecreasingBy-take}
use Rattle.hms_io.specs.Files.{FileMap}
use Rattle.hms_io.specs.declared.status.Status.{Status}
use Rattle.command_line.specs.Command.{Gateway, GatewayWords}
use Rattle.nonces.specs.Books.{Book}
use Rattle.nonces.specs.declared.limits.TheConstants.{MAX_MOMENT}
use Rattle.byte_grammar.specs.Numbers.{IsNumber}
use Rattle.recording.specs.Items.{Body, PlacedItem, message, moment, moment_in, number_of, script, stored}
use Rattle.recording.specs.Readers.{BeginsWithItems}
use Rattle.recording.specs.Recordings.{bodies, moments}
use Rattle.recording.specs.declared.item.Role.TheVariants.{Request, Response, Related}
use Rattle.settings.specs.Configuration.{Configuration}
use Rattle.settings.specs.Valid.{IsValid}
use Rattle.settings.specs.declared.gateway_conf.GatewayConf.{GatewayConf}
use Rattle.settings.specs.declared.sign_conf.SignConf.{SignConf}
use Rattle.gateway.specs.Arrivals.{Arrival}
use Rattle.gateway.specs.Laws.{IsReady}
use Rattle.gateway.specs.Records.{IsRecordOf}
use Rattle.gateway.specs.Streams.{AddsRecord, IsServedTo, LeadTo, MeetsBody, MeetsItem, RelatedRequest, StreamState, stream_begin}
use Rattle.gateway.specs.declared.gateway_record.GatewayRecord.{GatewayRecord}
use Rattle.gateway.specs.declared.gateway_record.GatewayRecord.TheVariants.{Pass}
use Rattle.refusals.specs.declared.refusal.Refusal.{Refusal}
use Rattle.intake.specs.Files.{Found, AreFound, Conf as ConfFile}
use Rattle.program.specs.Commands.{name_of}
use Rattle.program.specs.StreamEnds.{EndsStream}
use Rattle.program.specs.StreamMeanings.{AcceptsOnce, ComesWith, PassesRightly, TellsRecords, TellsStream, judged_by}
use Rattle.program.proofs.CommandLaws.{valid_where_configured}
use Rattle.program.proofs.GatewayLaws.{kept_where_passed, own_label_right, no_nonce_twice}

-- ---- the message of a record

-- the record is that of a message which comes with one of the items
record Answered (conf : Configuration) (settings : GatewayConf) (items : List PlacedItem) (answer : GatewayRecord) : Type 0 where
  arrival : Arrival
  comes : ComesWith conf settings items arrival
  after : Book
  is : IsRecordOf settings (judged_by comes) arrival answer after

-- what holds of the first of the items
pub first_of : (P : Body → Type 0) (first rest : List PlacedItem) → All P (bodies (first ++ rest)) → All P (bodies first)
first_of P [] rest all = All-nil P
first_of P (item ∷ first) rest all =
    All-cons P item.body (bodies first) (All-head P item.body (bodies (first ++ rest)) all) (first_of P first rest (All-tail P item.body (bodies (first ++ rest)) all))

module _ (conf : Configuration) (settings : GatewayConf) where
  -- an item brings a message, whose record is added
  abbrev pub Brings : StreamState → Option RelatedRequest → Body → StreamState → Type 0
  Brings before related body after =
      (arrival : Arrival) × AddsRecord conf settings before arrival after × (body ≡ stored (message arrival.role) arrival.text) × (arrival.related ≡ option_map (λ request. request.text) related)

  -- or it adds no record
  pub brings : (before after : StreamState) (related : Option RelatedRequest) (offset : ℕ) (body : Body) → MeetsBody conf settings before related offset body after → (after.records ≡ before.records) ⊎ Brings before related body after
  brings before after None offset (moment seconds) meets = inl (ap (λ (s : StreamState). s.records) meets)
  brings before after None offset (stored script text) meets = absurd meets
  brings before after None offset (stored (message Related) text) meets = inl (ap (λ (s : StreamState). s.records) meets)
  brings before after None offset (stored (message Request) text) meets = inr (record { role = Request; text = text; related = None }, meets, refl, refl)
  brings before after None offset (stored (message Response) text) meets = inr (record { role = Response; text = text; related = None }, meets, refl, refl)
  brings before after (Some request) offset (moment seconds) meets = absurd meets
  brings before after (Some request) offset (stored script text) meets = absurd meets
  brings before after (Some request) offset (stored (message Related) text) meets = absurd meets
  brings before after (Some request) offset (stored (message Request) text) meets = absurd meets
  brings before after (Some request) offset (stored (message Response) text) meets = inr (record { role = Response; text = text; related = Some request.text }, meets, refl, refl)

  module _ (done rest : List PlacedItem) (item : PlacedItem) (before next : StreamState) (leads : LeadTo conf settings done before) where
    -- the record that is added is that of the message
    answered_here : (arrival : Arrival) (adds : AddsRecord conf settings before arrival next) → item.body ≡ stored (message arrival.role) arrival.text
        → arrival.related ≡ option_map (λ request. request.text) before.related → Answered conf settings (done ++ item ∷ rest) adds.record_
    answered_here arrival adds body related = record {
      arrival = arrival;
      comes = record {
        before = done;
        item = item;
        later = rest;
        joined = refl;
        body = body;
        known = before;
        leads = leads;
        related = related;
        seen = adds.answers.seen;
        advanced = adds.answers.advanced;
      };
      after = next.seen;
      is = adds.answers.is;
    }

    brought : (answer : GatewayRecord) → Contains next.records answer → Brings before before.related item.body next → Contains before.records answer ⊎ Answered conf settings (done ++ item ∷ rest) answer
    brought answer there (arrival, adds, body, related) =
        let there_now = subst (λ (rs : List GatewayRecord). Contains rs answer) adds.records there in
        elim (Contains-push_cases before.records adds.record_ answer there_now) [
          | inl was ↦ inl was
          | inr same ↦ inr (subst (λ (r : GatewayRecord). Answered conf settings (done ++ item ∷ rest) r) same (answered_here arrival adds body related))
        ]

    at_item : MeetsItem conf settings before item next → (answer : GatewayRecord) → Contains next.records answer → Contains before.records answer ⊎ Answered conf settings (done ++ item ∷ rest) answer
    at_item meets answer there = elim (brings before next before.related item.offset item.body meets) [
      | inl same ↦ inl (subst (λ (rs : List GatewayRecord). Contains rs answer) same there)
      | inr brings_one ↦ brought answer there brings_one
    ]

  -- a record was there before, or is that of a message which comes with one of these items
  answered_in : (rest done : List PlacedItem) (before after : StreamState) → LeadTo conf settings done before → FoldsTo (λ before item after. MeetsItem conf settings before item after) before rest after
      → (answer : GatewayRecord) → Contains after.records answer → Contains before.records answer ⊎ Answered conf settings (done ++ rest) answer
  answered_in [] done before after leads same answer there = inl (subst (λ (s : StreamState). Contains s.records answer) (sym same) there)
  answered_in (item ∷ rest) done before after leads (next, meets, folds) answer there =
      let on = FoldsTo-push (λ before item after. MeetsItem conf settings before item after) (stream_begin conf) done before item next leads meets in
      elim (answered_in rest (done ++ item ∷ []) next after on folds answer there) [
        | inl was ↦ at_item done rest item before next leads meets answer was
        | inr later ↦ inr (subst (λ (is : List PlacedItem). Answered conf settings is answer) (append_assoc done (item ∷ []) rest) later)
      ]

  -- no record is there at the begin
  answered : (items : List PlacedItem) (state : StreamState) → LeadTo conf settings items state → (answer : GatewayRecord) → Contains state.records answer → Answered conf settings items answer
  answered items state leads answer there = elim (answered_in items [] (stream_begin conf) state refl leads answer there) [
    | inl none ↦ absurd (let below : none.0 < 0 = none.1 in omega (arith, below))
    | inr is ↦ is
  ]

  -- ---- its moment

  abbrev IsEarly : StreamState → Type 0
  IsEarly state = state.moment ≤ MAX_MOMENT

  number_early : (seconds : ℕ) → IsNumber seconds → seconds ≤ MAX_MOMENT
  number_early seconds number = omega (arith, number)

  -- one item more
  step_early : (before after : StreamState) (related : Option RelatedRequest) (offset : ℕ) (body : Body) → MeetsBody conf settings before related offset body after → IsNumber (number_of body) → IsEarly before → IsEarly after
  step_early before after None offset (moment seconds) meets number early = subst IsEarly (sym meets) (number_early seconds number)
  step_early before after None offset (stored script text) meets number early = absurd meets
  step_early before after None offset (stored (message Related) text) meets number early = subst IsEarly (sym meets) early
  step_early before after None offset (stored (message Request) text) meets number early = subst (λ (n : ℕ). n ≤ MAX_MOMENT) (sym meets.moment) early
  step_early before after None offset (stored (message Response) text) meets number early = subst (λ (n : ℕ). n ≤ MAX_MOMENT) (sym meets.moment) early
  step_early before after (Some request) offset (moment seconds) meets number early = absurd meets
  step_early before after (Some request) offset (stored script text) meets number early = absurd meets
  step_early before after (Some request) offset (stored (message Related) text) meets number early = absurd meets
  step_early before after (Some request) offset (stored (message Request) text) meets number early = absurd meets
  step_early before after (Some request) offset (stored (message Response) text) meets number early = subst (λ (n : ℕ). n ≤ MAX_MOMENT) (sym meets.moment) early

  pub items_early : (items : List PlacedItem) (before after : StreamState) → FoldsTo (λ before item after. MeetsItem conf settings before item after) before items after
      → All (λ body. IsNumber (number_of body)) (bodies items) → IsEarly before → IsEarly after
  items_early [] before after same numbers early = subst IsEarly same early
  items_early (item ∷ items) before after (next, meets, folds) numbers early =
      items_early items next after folds (All-tail (λ body. IsNumber (number_of body)) item.body (bodies items) numbers)
      (step_early before next before.related item.offset item.body meets (All-head (λ body. IsNumber (number_of body)) item.body (bodies items) numbers) early)

  -- of the items up to one of them
  first_early : (first rest : List PlacedItem) (state : StreamState) → LeadTo conf settings first state → All (λ body. IsNumber (number_of body)) (bodies (first ++ rest)) → IsEarly state
  first_early first rest state leads numbers = items_early first (stream_begin conf) state leads (first_of (λ body. IsNumber (number_of body)) first rest numbers) (omega arith)

  comes_early : (items : List PlacedItem) (arrival : Arrival) (comes : ComesWith conf settings items arrival) → All (λ body. IsNumber (number_of body)) (bodies items) → comes.seen.moment ≤ MAX_MOMENT
  comes_early items arrival comes numbers =
      let early = first_early comes.before (comes.item ∷ comes.later) comes.known comes.leads (subst (λ (is : List PlacedItem). All (λ body. IsNumber (number_of body)) (bodies is)) comes.joined numbers) in
      subst (λ (n : ℕ). n ≤ MAX_MOMENT) (sym comes.advanced.moment) early

-- ---- a message that passes

-- the numbers of a stream's items are numbers of few digits
numbers_of : (text : List ℕ) (items : List PlacedItem) → (items ≡ []) ⊎ ((rest : List ℕ) × BeginsWithItems text items rest) → All (λ body. IsNumber (number_of body)) (bodies items)
numbers_of text items (inl none) = subst (λ (is : List PlacedItem). All (λ body. IsNumber (number_of body)) (bodies is)) (sym none) (All-nil (λ body. IsNumber (number_of body)))
numbers_of text items (inr (rest, begins)) = begins.are.numbers

passes_rightly : (conf : Configuration) (settings : GatewayConf) (items : List PlacedItem) (index : ℕ) (label text : List ℕ) (sign : SignConf) → IsValid conf → conf.sign ≡ Some sign → conf.gateway ≡ Some settings
    → All (λ body. IsNumber (number_of body)) (bodies items) → Answered conf settings items (Pass index label text) → PassesRightly conf settings items index label text
passes_rightly conf settings items index label text sign valid sign_is settings_are numbers is =
    let ready : IsReady settings (judged_by is.comes) =
    record { valid = valid; sign = sign; sign_is = sign_is; settings_are = settings_are; early = comes_early conf settings items is.arrival is.comes numbers } in
    let kept = kept_where_passed settings (judged_by is.comes) is.arrival index label text is.after ready is.is in
    let own = own_label_right settings (judged_by is.comes) is.arrival index label text is.after ready is.is in
    record {
      arrival = is.arrival;
      comes = is.comes;
      index_is = is.is.0;
      kept = record { context = kept.0; read = kept.1; passed = kept.2; spells = kept.3; holds = kept.4 };
      sign = sign;
      sign_is = sign_is;
      own = record { context = own.0; read = own.1; passed = own.2; spells = own.3; holds = own.4 };
    }

-- ---- nonces

-- the moments of the items don't fall
in_order : (text : List ℕ) (items : List PlacedItem) → (items ≡ []) ⊎ ((rest : List ℕ) × BeginsWithItems text items rest) → IsNonDecreasing (moments (bodies items))
in_order text items (inl none) = subst (λ (is : List PlacedItem). IsNonDecreasing (moments (bodies is))) (sym none) (IsNonDecreasingBy-short (λ x. x) [] (omega arith))
in_order text items (inr (rest, begins)) = begins.allowed.in_order

moments_joined : (xs ys : List PlacedItem) → moments (bodies (xs ++ ys)) ≡ moments (bodies xs) ++ moments (bodies ys)
moments_joined xs ys =
    ap moments (map-append (λ (item : PlacedItem). item.body) xs ys) ∙ flat_map-append moment_in (bodies xs) (bodies ys)

-- nor do those of the first of them
first_in_order : (xs ys : List PlacedItem) → IsNonDecreasing (moments (bodies (xs ++ ys))) → IsNonDecreasing (moments (bodies xs))
first_in_order xs ys all =
    let joined = subst IsNonDecreasing (moments_joined xs ys) all in
    subst IsNonDecreasing (take-append_seam (moments (bodies xs)) (moments (bodies ys))) (IsNonDecreasingBy-take (λ x. x) (length (moments (bodies xs))) (moments (bodies xs) ++ moments (bodies ys)) joined)

accepts_once : (conf : Configuration) (settings : GatewayConf) (text : List ℕ) (items : List PlacedItem) → (items ≡ []) ⊎ ((rest : List ℕ) × BeginsWithItems text items rest) → AcceptsOnce conf settings items
accepts_once conf settings text items begins first between rest item later before after next last entry other joined leads accepts on accepts_later keyid nonce =
    let same : items ≡ (first ++ item ∷ between) ++ later ∷ rest = joined ∙ sym (append_assoc first (item ∷ between) (later ∷ rest)) in
    let ordered = first_in_order (first ++ item ∷ between) (later ∷ rest) (subst (λ (is : List PlacedItem). IsNonDecreasing (moments (bodies is))) same (in_order text items begins)) in
    no_nonce_twice conf settings first between item later before after next last entry other ordered leads accepts on accepts_later keyid nonce

-- ---- the records

pub records_told : (conf : Configuration) (settings : GatewayConf) (sign : SignConf) → IsValid conf → conf.sign ≡ Some sign → conf.gateway ≡ Some settings → (text : List ℕ) (items : List PlacedItem) (state : StreamState)
    → IsServedTo conf settings text items state → TellsRecords conf settings items state.records
records_told conf settings sign valid sign_is settings_are text items state served = record {
  passed = λ index label passed there.
      passes_rightly conf settings items index label passed sign valid sign_is settings_are (numbers_of text items served.begins) (answered conf settings items state served.leads (Pass index label passed) there);
  once = accepts_once conf settings text items served.begins;
}

-- ---- a run

pub some_sign : (conf : Configuration) → IsSome conf.sign → (sign : SignConf) × (conf.sign ≡ Some sign)
some_sign conf has = of_option conf.sign has where
  of_option : (o : Option SignConf) → IsSome o → (sign : SignConf) × (o ≡ Some sign)
  of_option (Some sign) is = (sign, refl)
  of_option None is = absurd cc

pub told_rightly : (words : GatewayWords) (shelf : Option FileMap) (Same : Type 0) (left left_now taken now : Option (List ℕ)) (status : Status) (told : Option Refusal)
    → EndsStream words shelf Same left left_now taken now status told → (found : Found) × AreFound shelf (name_of (Gateway words)) found × (Same ⊎ TellsStream words found left left_now taken now status told)
told_rightly words shelf Same left left_now taken now status told (found, are, inl (same, before)) = (found, are, inl same)
told_rightly words shelf Same left left_now taken now status told (found, are, inr ends) =
    let valid = valid_where_configured (Some words.conf) (found ConfFile) ends.conf ends.read.configured in
    let sign = some_sign ends.conf ends.read.tables.1 in (
      found,
      are,
      inr (record { ends = ends; tells = records_told ends.conf ends.settings sign.0 valid sign.1 ends.settings_are ends.served.serves.text }),
    )
