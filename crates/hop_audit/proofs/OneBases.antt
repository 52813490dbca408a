-- A signature's base over two messages: what it tells of its components, and of its tag.
use Rattle.std.proofs.Common.{◌≡◌, ◌⊎◌, inl, inr, ℕ, zero, suc, ◌+◌, Bool, true, ◌&&◌, Option, Some, None, unwrap_or, List, [], ◌∷◌, ◌++◌, codes, length, refl, sym, ap, subst, ◌∙◌, arith}
use Rattle.std.specs.Prelude.{IfSome, slice_get, ◌↔◌}
use Rattle.std.specs.List.{All, AllZip, flat_map, list_all}
use Rattle.std.proofs.lemmas.Bool.{and_from, and_parts}
use Rattle.std.proofs.lemmas.List.Elements.{All-cons, All-head, All-nil, All-tail}
use Rattle.byte_grammar.proofs.ListLaws.{all_parts}
use Rattle.sfv_text.specs.Classes.{is_byte}
use Rattle.msg_body.specs.Messages.{Message}
use Rattle.msg_body.specs.WholeTexts.{IsWhole}
use Rattle.msg_body.specs.declared.whole.Reading.{Reading}
use Rattle.component_ids.specs.declared.id.ComponentId.{ComponentId}
use Rattle.component_ids.specs.declared.params.SigParams.{SigParams}
use Rattle.component_values.specs.Context.{MessageContext, context_with}
use Rattle.component_values.specs.Laws.{HasMessages, IsSpelled}
use Rattle.component_values.specs.Values.{HaveValues}
use Rattle.signatures.specs.SignatureBase.{signature_base}
use Rattle.signatures.proofs.Readings.{one_reading}
use Rattle.signatures.specs.Signatures.{HasSignature}
use Rattle.signatures.proofs.Reading.{has_one_signature}
use Rattle.settings.specs.Configuration.{Configuration}
use Rattle.rewrites.specs.Laws.{verification_over}
use Rattle.verdicts.specs.Contexts.{context_for}
use Rattle.verdicts.specs.Laws.{Agree, HaveOneTag, IsTagOfTwo, base_of}
use Rattle.verdicts.specs.Parameters.{keyid_of}
use Rattle.verdicts.specs.Rules.{key_in}
use Rattle.verdicts.specs.Verdicts.{Accepts}
use Rattle.verdicts.proofs.OneTags.{all_lines, have_base, one_tag_agrees}
use Rattle.verdicts.specs.declared.outcome.Verdict.TheVariants.{Ok as Accepted}
use Rattle.byte_grammar.specs.Numbers.{number_line}
use Rattle.recording.specs.Items.{Body, PlacedItem, body_text, kind_word, moment, script, stored}
use Rattle.recording.specs.Recordings.{SpellsRecording, bodies, items_text}
use Rattle.recording.specs.Chains.{RecordedHop, Subject, hop_items, message_item, moment_items, related_items, requests, responses, role_of}
use Rattle.hop_audit.specs.ChainValues.{AnswersRequest, Chain, Hop, IsHop, one_request, reading_of}
use Rattle.hop_audit.specs.declared.line.Fate.{Fate}
use Rattle.hop_audit.specs.declared.line.Fate.TheVariants.{Changed, Kept}
use Rattle.hop_audit.specs.Fates.{HasKept, IsFate}
use Rattle.hop_audit.specs.Hops.{PlacedHop, places_from}
use Rattle.hop_audit.specs.Laws.{HasSameBase, HasTwoBases, IsAccepted, IsKeptWithItsBase, IsKeptWithItsBaseAtHops, TellsWhatChanged, TellsWhatChangedAtHops}
use Rattle.hop_audit.specs.Report.{AreItemsOf, places_of}
use Rattle.hop_audit.proofs.Fates.{has_one_fate}
use Rattle.hop_audit.proofs.Reports.{label_line_is, some_is}
use Rattle.hop_audit.proofs.SameVerdicts.{Says, between, says_at, stages_from}

-- ---- components with one value over both messages

module _ (context : MessageContext) (other : Message) where
  abbrev moved : MessageContext
  moved = context_with context other

  over_other : HasMessages context → IsSpelled other → HasMessages moved
  over_other spelled also = record { message = also; related = spelled.related }

  all_kept : (ids : List ComponentId) (values : List (List ℕ)) → HaveValues context ids values → HaveValues moved ids values → All (HasKept context other) ids
  all_kept [] [] have also = All-nil (HasKept context other)
  all_kept (id ∷ ids) (value ∷ values) have also =
      All-cons (HasKept context other) id ids (value, record { before = have.0; after = also.0 }) (all_kept ids values have.1 also.1)
  all_kept [] (value ∷ values) have also = absurd have
  all_kept (id ∷ ids) [] have also = absurd have

  kept_values : (ids : List ComponentId) → All (HasKept context other) ids → (values : List (List ℕ)) × HaveValues context ids values × HaveValues moved ids values
  kept_values [] kept = ([], tt, tt)
  kept_values (id ∷ ids) kept =
      let first = All-head (HasKept context other) id ids kept in
      let rest = kept_values ids (All-tail (HasKept context other) id ids kept) in
      (first.0 ∷ rest.0, (first.1.before, rest.1), (first.1.after, rest.2))

  module _ (label : List ℕ) (params : SigParams) (tag : List ℕ) (spelled : HasMessages context) (also : IsSpelled other) where
    kept_base : IsFate context other label params tag Kept → HasSignature other label params tag × HasSameBase context other params
    kept_base kept =
        let values = kept_values params.ids kept.1 in
        (kept.0, (signature_base params values.0, (values.0, values.1, refl), (values.0, values.2, refl)))

    -- the values are those that the base tells
    base_kept : HasSignature other label params tag × HasSameBase context other params → IsFate context other label params tag Kept
    base_kept has =
        let before = has.1.1 in
        let after = has.1.2 in
        let same = (one_reading params params before.0 after.0 (have_base context other label params tag before.0 has.0 before.1) (all_lines context params.ids before.0 spelled before.1)
        (have_base moved other label params tag after.0 has.0 after.1)).0 (sym before.2 ∙ after.2) in
        (has.0, all_kept params.ids before.0 before.1 (subst (λ (v : List (List ℕ)). HaveValues moved params.ids v) (sym same.1) after.1))

pub is_kept_with_its_base : IsKeptWithItsBase
is_kept_with_its_base context other label params tag spelled also =
    (kept_base context other label params tag spelled also, base_kept context other label params tag spelled also)

-- ---- two bases with one tag

not_both : (id : ComponentId) → ¬ (Kept ≡ Changed id)
not_both id same = absurd cc

-- both accepted labels have the signature, and so the same values where they agree
module _ (conf : Configuration) (context : MessageContext) (other : Message) (label : List ℕ) (params : SigParams) (tag keyid another : List ℕ) (id : ComponentId) (spelled : HasMessages context) (also : IsSpelled other)
    (has : HasSignature context.message label params tag) (fate : IsFate context other label params tag (Changed id)) (accepted : IsAccepted conf context label keyid)
    (again : IsAccepted conf (context_with context other) label another) where
  abbrev a : Accepts (verification_over context label conf accepted.0 accepted.1) keyid
  a = accepted.2

  abbrev b : Accepts (verification_over (context_with context other) label conf again.0 again.1) another
  b = again.2

  first : (a.params ≡ params) × (a.tag ≡ tag)
  first = has_one_signature context.message label a.params params a.tag tag a.signature has

  second : (b.params ≡ params) × (b.tag ≡ tag)
  second = has_one_signature other label b.params params b.tag tag b.signature fate.0

  have : HaveValues context params.ids a.values
  have = subst (λ (p : SigParams). HaveValues context p.ids a.values) first.0 a.have

  have_after : HaveValues (context_with context other) params.ids b.values
  have_after = subst (λ (p : SigParams). HaveValues (context_with context other) p.ids b.values) second.0 b.have

  names : keyid ≡ another
  names = some_is (sym a.keyid_is ∙ (ap keyid_of (first.0 ∙ sym second.0) ∙ b.keyid_is))

  one_tag : HaveOneTag a b
  one_tag = record {
    message = spelled;
    other_message = over_other context other spelled also;
    tag = first.1 ∙ sym second.1;
    key = some_is (sym a.key_is ∙ (ap (key_in conf) names ∙ b.key_is));
  }

  agree_not : ¬ Agree a b
  agree_not agree =
      let base = signature_base params a.values in
      let same : base ≡ signature_base params b.values = ap (signature_base params) agree.1 in
      not_both id (has_one_fate context other label params tag Kept (Changed id)
      (base_kept context other label params tag spelled also (fate.0, (base, (a.values, have, refl), (b.values, have_after, same)))) fate)

  two_bases : Agree a b ⊎ IsTagOfTwo a.key a.tag (base_of a) (base_of b) → HasTwoBases conf keyid context other params tag
  two_bases (inl agree) = absurd (agree_not agree)
  two_bases (inr two) = record {
    base = base_of a;
    base_is = (a.values, have, ap (λ (p : SigParams). signature_base p a.values) first.0);
    changed = base_of b;
    changed_is = (b.values, have_after, ap (λ (p : SigParams). signature_base p b.values) second.0);
    key = a.key;
    key_is = a.key_is;
    two = subst (λ (t : List ℕ). IsTagOfTwo a.key t (base_of a) (base_of b)) first.1 two;
  }

pub tells_what_changed : TellsWhatChanged
tells_what_changed conf context other label params tag keyid another id spelled also has fate accepted again =
    two_bases conf context other label params tag keyid another id spelled also has fate accepted again
    (one_tag_agrees _ _ keyid another accepted.2 again.2 (one_tag conf context other label params tag keyid another id spelled also has fate accepted again))

-- ---- the messages of a recording

abbrev is_of_bytes : Body → Bool
is_of_bytes (moment seconds) = true
is_of_bytes (stored kind text) = list_all is_byte text

body_bytes : (body : Body) → list_all is_byte (body_text body) ≡ true → is_of_bytes body ≡ true
body_bytes (moment seconds) bytes = refl
body_bytes (stored kind text) bytes =
    let own = all_parts is_byte (number_line (kind_word kind) (length text)) (text ++ codes "\n") bytes in
    (all_parts is_byte text (codes "\n") own.1).0

all_bytes : (items : List Body) → list_all is_byte (flat_map body_text items) ≡ true → list_all is_of_bytes items ≡ true
all_bytes [] bytes = refl
all_bytes (body ∷ items) bytes =
    let parts = all_parts is_byte (body_text body) (flat_map body_text items) bytes in
    and_from (is_of_bytes body) (list_all is_of_bytes items) (body_bytes body parts.0) (all_bytes items parts.1)

recorded_bytes : (text : List ℕ) (items : List PlacedItem) → list_all is_byte text ≡ true → SpellsRecording text items → list_all is_of_bytes (bodies items) ≡ true
recorded_bytes text items bytes spells =
    let whole = all_parts is_byte (items_text (bodies items)) (codes "end\n") (ap (list_all is_byte) (sym spells.form.joined) ∙ bytes) in
    all_bytes (bodies items) (all_parts is_byte (codes "hms-recording 1\n") (flat_map body_text (bodies items)) whole.0).1

spelled_by : (reading : Reading) (text : List ℕ) (message : Message) → list_all is_byte text ≡ true → IsWhole reading text message → IsSpelled message
spelled_by reading text message bytes whole = record { to_head = reading.to_head; text = text; are_bytes = bytes; spells = whole.spells }

related_spelled : (subject : Subject) (related : Option Message) → list_all is_of_bytes (related_items subject) ≡ true → AnswersRequest subject related → IfSome related IsSpelled
related_spelled subject None bytes is = tt
related_spelled requests (Some r) bytes is = absurd cc
related_spelled (responses None) (Some r) bytes is = absurd cc
related_spelled (responses (Some text)) (Some r) bytes is = spelled_by one_request text r (and_parts (list_all is_byte text) true bytes).0 is

message_bytes : (subject : Subject) (text : List ℕ) → is_of_bytes (message_item subject text) ≡ true → list_all is_byte text ≡ true
message_bytes requests text bytes = bytes
message_bytes (responses related) text bytes = bytes

-- of a hop, and of those after it
hop_bytes : (subject : Subject) (hop : RecordedHop) (hops : List RecordedHop) → list_all is_of_bytes (flat_map (hop_items subject) (hop ∷ hops)) ≡ true
    → (list_all is_byte hop.message ≡ true) × (list_all is_of_bytes (flat_map (hop_items subject) hops) ≡ true)
hop_bytes subject hop hops bytes =
    let all = all_parts is_of_bytes (hop_items subject hop) (flat_map (hop_items subject) hops) bytes in
    let own = all_parts is_of_bytes (moment_items hop.moment) (stored script hop.script ∷ message_item subject hop.message ∷ []) all.0 in
    let two = and_parts (list_all is_byte hop.script) (is_of_bytes (message_item subject hop.message) && true) own.1 in
    (message_bytes subject hop.message (and_parts (is_of_bytes (message_item subject hop.message)) true two.1).0, all.1)

hop_spelled : (subject : Subject) (reading : Reading) (recorded : List RecordedHop) (hops : List Hop) (index last : ℕ) (first : Message) (at : ℕ) (hop : PlacedHop) → IsSpelled first
    → list_all is_of_bytes (flat_map (hop_items subject) recorded) ≡ true → AllZip (IsHop reading) recorded hops → slice_get (places_from index last first hops) at ≡ Some hop
    → IsSpelled hop.before × IsSpelled hop.after
hop_spelled subject reading [] [] index last first at hop spelled bytes zip there = absurd cc
hop_spelled subject reading (r ∷ recorded) (h ∷ hops) index last first zero hop spelled bytes zip there =
    let after = spelled_by reading r.message h.message (hop_bytes subject r recorded bytes).0 zip.0.message in
    subst (λ (p : PlacedHop). IsSpelled p.before × IsSpelled p.after) (some_is there) (spelled, after)
hop_spelled subject reading (r ∷ recorded) (h ∷ hops) index last first (suc at) hop spelled bytes zip there =
    let own = hop_bytes subject r recorded bytes in
    hop_spelled subject reading recorded hops (index + 1) (unwrap_or h.moment last) h.message at hop (spelled_by reading r.message h.message own.0 zip.0.message) own.1 zip.1 there
hop_spelled subject reading (r ∷ recorded) [] index last first at hop spelled bytes zip there = absurd zip
hop_spelled subject reading [] (h ∷ hops) index last first at hop spelled bytes zip there = absurd zip

record AreSpelled (chain : Chain) (hop : PlacedHop) : Type 0 where
  related : IfSome chain.related IsSpelled
  before : IsSpelled hop.before
  after : IsSpelled hop.after

are_spelled : (items : List PlacedItem) (chain : Chain) (at : ℕ) (hop : PlacedHop) → list_all is_of_bytes (bodies items) ≡ true → AreItemsOf items chain
    → slice_get (places_of chain) at ≡ Some hop → AreSpelled chain hop
are_spelled items chain at hop bytes are there =
    let of = are.recorded in
    let subject = of.subject in
    let reading = reading_of chain.related (role_of subject) in
    let all : list_all is_of_bytes (related_items subject ++ (message_item subject of.first ∷ flat_map (hop_items subject) of.hops)) ≡ true = ap (list_all is_of_bytes) (sym are.is) ∙ bytes in
    let parts = all_parts is_of_bytes (related_items subject) (message_item subject of.first ∷ flat_map (hop_items subject) of.hops) all in
    let more = and_parts (is_of_bytes (message_item subject of.first)) (list_all is_of_bytes (flat_map (hop_items subject) of.hops)) parts.1 in
    let first = spelled_by reading of.first chain.message (message_bytes subject of.first more.0) are.values.message in
    let ends = hop_spelled subject reading of.hops chain.hops 0 chain.moment chain.message at hop first more.1 are.values.hops there in
    record { related = related_spelled subject chain.related parts.0 are.values.related; before = ends.0; after = ends.1 }

-- ---- what a report says

pub tells_what_changed_at_hops : TellsWhatChangedAtHops
tells_what_changed_at_hops conf text items chain lines index label id keyid bytes spells are report says =
    let of = label_line_is conf chain lines (index + 1) label says.permitted (Changed id) report says.changed in
    let hop = of.hop in
    let ends = between 0 chain.moment chain.message chain.hops of.at hop of.there in
    let place : index ≡ of.at = omega (arith, of.index_is, ends.index_is) in
    let spelled = are_spelled items chain of.at hop (recorded_bytes text items bytes spells) are of.there in
    let first = says_at conf chain lines report label index (Accepted keyid) says.before in
    let second = says_at conf chain lines report label (index + 1) (Accepted says.another) says.after in
    let was : first.0 ≡ (hop.was, hop.before) = some_is (sym first.1 ∙ (ap (slice_get (stages_from chain.moment chain.message chain.hops)) place ∙ ends.before)) in
    let now : second.0 ≡ (hop.now, hop.after) = some_is (sym second.1 ∙ (ap (slice_get (stages_from chain.moment chain.message chain.hops)) (omega (arith, place)) ∙ ends.after)) in
    let accepted = subst (λ (s : ℕ × Message). Says conf chain.related label s.1 s.0 (Accepted keyid)) was first.2 in
    let again = subst (λ (s : ℕ × Message). Says conf chain.related label s.1 s.0 (Accepted says.another)) now second.2 in (
      hop,
      of.report.params,
      of.report.tag,
      ap (slice_get (places_of chain)) place ∙ of.there,
      of.report.signature,
      tells_what_changed conf (context_for conf hop.before chain.related) hop.after label of.report.params of.report.tag keyid says.another id
          (record { message = spelled.before; related = spelled.related }) spelled.after of.report.signature of.report.fate_is (hop.was, None, accepted) (hop.now, None, again),
    )

-- the fate of a label's line
kept_or_not : (context : MessageContext) (other : Message) (label : List ℕ) (params : SigParams) (tag : List ℕ) (fate : Fate) → HasMessages context → IsSpelled other
    → IsFate context other label params tag fate → (fate ≡ Kept) ↔ (HasSignature other label params tag × HasSameBase context other params)
kept_or_not context other label params tag fate spelled also is = (
  λ same. kept_base context other label params tag spelled also (subst (λ (f : Fate). IsFate context other label params tag f) same is),
  λ has. has_one_fate context other label params tag fate Kept is (base_kept context other label params tag spelled also has),
)

pub is_kept_with_its_base_at_hops : IsKeptWithItsBaseAtHops
is_kept_with_its_base_at_hops conf text items chain lines index label permitted fate bytes spells are report contains =
    let of = label_line_is conf chain lines (index + 1) label permitted fate report contains in
    let hop = of.hop in
    let ends = between 0 chain.moment chain.message chain.hops of.at hop of.there in
    let place : index ≡ of.at = omega (arith, of.index_is, ends.index_is) in
    let spelled = are_spelled items chain of.at hop (recorded_bytes text items bytes spells) are of.there in (
      hop,
      of.report.params,
      of.report.tag,
      ap (slice_get (places_of chain)) place ∙ of.there,
      of.report.signature,
      kept_or_not (context_for conf hop.before chain.related) hop.after label of.report.params of.report.tag fate (record { message = spelled.before; related = spelled.related })
          spelled.after of.report.fate_is,
    )
