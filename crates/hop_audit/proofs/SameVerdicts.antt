-- At one moment a label for which a hop is permitted has the same verdict before it and after it.
use Rattle.std.proofs.Common.{◌≡◌, ℕ, zero, suc, ◌+◌, arith, true, Option, Some, None, unwrap_or, List, [], ◌∷◌, ◌++◌, map, refl, sym, subst, ap, ◌∙◌, inl, inr}
use Rattle.std.specs.Prelude.{◌↔◌, IsSomeAnd, MatchOption, slice_get}
use Rattle.std.specs.List.{AllZip, Contains, flat_map}
use Rattle.std.proofs.lemmas.Bool.{cases_Bool}
use Rattle.std.proofs.lemmas.List.Elements.{Contains-append_cases, Contains-append_left, Contains-append_right}
use Rattle.std.proofs.lemmas.Option.{get_or_from_slice_get, slice_get-get_or, slice_get_within}
use Rattle.std.proofs.lemmas.Slice.Eq.{bytes_eq-Decides}
use Rattle.std.proofs.lemmas.Slice.Zip.{AllZip-left}
use Rattle.byte_grammar.proofs.Indices.{some_and_parts}
use Rattle.sfv_text.specs.Keys.{has_key, value_of}
use Rattle.sfv_text.specs.declared.pair.Pair.{Pair}
use Rattle.sfv_text.specs.declared.value.Member.{Member}
use Rattle.msg_body.specs.Messages.{Message}
use Rattle.component_ids.specs.declared.params.SigParams.{SigParams}
use Rattle.settings.specs.Configuration.{Configuration}
use Rattle.signatures.specs.Signatures.{AreLabels, HasSignature}
use Rattle.signatures.proofs.Reading.{has_one_list_of_labels}
use Rattle.rewrites.specs.Laws.{KeepsOverSteps}
use Rattle.rewrites.proofs.Kept.{keeps_over_steps}
use Rattle.verdicts.specs.Verdicts.{IsVerdict}
use Rattle.verdicts.specs.declared.outcome.Verdict.{Verdict}
use Rattle.verdicts.proofs.Judging.{has_one_verdict}
use Rattle.hop_audit.specs.declared.line.AuditLine.{AuditLine}
use Rattle.hop_audit.specs.declared.line.AuditLine.TheVariants.{Message as MessageLine, Hop as HopLine, Unread as UnreadLine, Label as LabelLine}
use Rattle.hop_audit.specs.declared.line.Fate.{Fate}
use Rattle.recording.specs.Chains.{role_of}
use Rattle.hop_audit.specs.ChainValues.{Chain, Hop, moments_from, reading_of}
use Rattle.hop_audit.specs.Hops.{PlacedHop, places_from}
use Rattle.recording.specs.Items.{PlacedItem}
use Rattle.hop_audit.specs.Laws.{HaveOneMoment, KeepsWhatIsPermitted}
use Rattle.verdicts.specs.Contexts.{context_for}
use Rattle.hop_audit.specs.Report.{AreHopLines, AreItemsOf, AreMessageLines, IsHopLine, IsLabelLine, IsMessageLine, IsReport, places_of}
use Rattle.verdicts.specs.Verification.{or_no_label, verification_for}
use Rattle.hop_audit.proofs.Permitted.{kept}
use Rattle.hop_audit.proofs.Reports.{keeps_fates, label_line_is, one_of, part_at, script_at, some_is, zip_at}

-- ---- labels

listed : (dict : List (Pair Member)) (label : List ℕ) (member : Member) → value_of dict label ≡ Some member → Contains (map (λ (m : Pair Member). m.key) dict) label
listed [] label member is = absurd cc
listed (pair ∷ dict) label member is = elim (cases_Bool (has_key label pair)) [
  | inl same ↦ (0, omega arith, (bytes_eq-Decides pair.key label).0 same)
  | inr other ↦ let at = listed dict label member (rw other at is) in (suc at.0, omega (arith, at.1), at.2)
]

signed_listed : (message : Message) (label : List ℕ) (params : SigParams) (tag : List ℕ) (labels : List (List ℕ)) → HasSignature message label params tag → AreLabels message labels
    → Contains labels label
signed_listed message label params tag labels has are =
    let own = has.input in
    let keys = map (λ (m : Pair Member). m.key) own.dict in
    let same = has_one_list_of_labels message labels keys are (inl (own.dict, own.has, refl)) in
    subst (λ (l : List (List ℕ)). Contains l label) (sym same) (listed own.dict label _ own.member_is)

some_labels : (labels : List (List ℕ)) (label : List ℕ) → Contains labels label → or_no_label labels ≡ labels
some_labels [] label at = absurd omega (arith, at.1)
some_labels (l ∷ labels) label at = refl

-- ---- messages at their moments

abbrev pub stages_from : ℕ → Message → List Hop → List (ℕ × Message)
stages_from last message [] = (last, message) ∷ []
stages_from last message (hop ∷ hops) = (last, message) ∷ stages_from (unwrap_or hop.moment last) hop.message hops

stage_head : (last : ℕ) (message : Message) (hops : List Hop) → slice_get (stages_from last message hops) 0 ≡ Some (last, message)
stage_head last message [] = refl
stage_head last message (hop ∷ hops) = refl

-- each place is between two of them
pub record IsBetween (stages : List (ℕ × Message)) (first at : ℕ) (hop : PlacedHop) : Type 0 where
  pub index_is : hop.index ≡ first + at + 1
  pub before : slice_get stages at ≡ Some (hop.was, hop.before)
  pub after : slice_get stages (suc at) ≡ Some (hop.now, hop.after)

pub between : (index last : ℕ) (message : Message) (hops : List Hop) (at : ℕ) (hop : PlacedHop) → slice_get (places_from index last message hops) at ≡ Some hop
    → IsBetween (stages_from last message hops) index at hop
between index last message [] at hop there = absurd cc
between index last message (h ∷ hops) zero hop there =
    subst (λ (p : PlacedHop). IsBetween (stages_from last message (h ∷ hops)) index 0 p) (some_is there)
    (record { index_is = omega arith; before = refl; after = stage_head (unwrap_or h.moment last) h.message hops })
between index last message (h ∷ hops) (suc at) hop there =
    let rest = between (index + 1) (unwrap_or h.moment last) h.message hops at hop there in
    record { index_is = rest.index_is ∙ omega arith; before = rest.before; after = rest.after }

-- before each but the first there is one
place_before : (index last : ℕ) (message : Message) (hops : List Hop) (at : ℕ) (stage : ℕ × Message) → slice_get (stages_from last message hops) (suc at) ≡ Some stage
    → (hop : PlacedHop) × (slice_get (places_from index last message hops) at ≡ Some hop)
place_before index last message [] at stage there = absurd cc
place_before index last message (h ∷ hops) zero stage there = (_, refl)
place_before index last message (h ∷ hops) (suc at) stage there = place_before (index + 1) (unwrap_or h.moment last) h.message hops at stage there

-- their moments
moment_is : (last : ℕ) (message : Message) (hops : List Hop) (k seconds : ℕ) (stage : ℕ × Message) → slice_get (last ∷ moments_from last hops) k ≡ Some seconds
    → slice_get (stages_from last message hops) k ≡ Some stage → stage.0 ≡ seconds
moment_is last message [] zero seconds stage a b = let e : (last, message) ≡ stage = some_is b in ap (λ (s : ℕ × Message). s.0) (sym e) ∙ some_is a
moment_is last message [] (suc k) seconds stage a b = absurd cc
moment_is last message (h ∷ hops) zero seconds stage a b = let e : (last, message) ≡ stage = some_is b in ap (λ (s : ℕ × Message). s.0) (sym e) ∙ some_is a
moment_is last message (h ∷ hops) (suc k) seconds stage a b = moment_is (unwrap_or h.moment last) h.message hops k seconds stage a b

-- ---- lines of messages

zip_left : {A B : Type 0} (R : A → B → Type 0) (xs : List A) (ys : List B) → AllZip R xs ys → (k : ℕ) (x : A) → slice_get xs k ≡ Some x → (y : B) × Contains ys y × R x y
zip_left {A} {B} R xs ys zip k x there =
    let at = subst (λ (o : Option A). MatchOption o (Unit {0}) (λ x. IsSomeAnd (slice_get ys k) (R x))) there (AllZip-left R xs ys zip k) in
    let parts = some_and_parts (R x) (slice_get ys k) at in
    (parts.0, (k, slice_get_within ys k parts.0 parts.1, get_or_from_slice_get ys k parts.0 parts.0 parts.1), parts.2)

module _ (conf : Configuration) (related : Option Message) (label : List ℕ) where
  abbrev pub Says : Message → ℕ → Verdict → Type 0
  Says message moment verdict = IsVerdict (verification_for conf moment (context_for conf message related) label) verdict

  message_says : (message : Message) (index moment : ℕ) (lines : List AuditLine) (k : ℕ) (verdict : Verdict) → AreMessageLines conf (context_for conf message related) index moment lines
      → Contains lines (MessageLine k label verdict) → (k ≡ index) × Says message moment verdict
  message_says message index moment lines k verdict are found =
      let at = zip_at (IsMessageLine conf (context_for conf message related) index moment) (or_no_label are.0) lines are.2 (MessageLine k label verdict) found in
      (at.3.0, subst (λ (l : List ℕ). IsVerdict (verification_for conf moment (context_for conf message related) l) verdict) (sym at.3.1) at.3.2)

  line_says : (message : Message) (index moment : ℕ) (line : AuditLine) → IsMessageLine conf (context_for conf message related) index moment label line
      → (verdict : Verdict) × (line ≡ MessageLine index label verdict) × Says message moment verdict
  line_says message index moment (MessageLine k named verdict) is = (verdict, (λ i. MessageLine (is.0 i) (is.1 i) verdict), is.2)
  line_says message index moment (HopLine k explained stopped) is = absurd is
  line_says message index moment (UnreadLine k named) is = absurd is
  line_says message index moment (LabelLine k named permitted fate) is = absurd is

  -- a label with a signature has its line
  signed_says : (message : Message) (index moment : ℕ) (lines : List AuditLine) (params : SigParams) (tag : List ℕ) → AreMessageLines conf (context_for conf message related) index moment lines
      → HasSignature message label params tag → (verdict : Verdict) × Contains lines (MessageLine index label verdict) × Says message moment verdict
  signed_says message index moment lines params tag are has =
      let own = signed_listed message label params tag are.0 has are.1 in
      let zip = subst (λ (l : List (List ℕ)). AllZip (IsMessageLine conf (context_for conf message related) index moment) l lines) (some_labels are.0 label own) are.2 in
      let there : slice_get are.0 own.0 ≡ Some label = slice_get-get_or are.0 own.0 label own.1 ∙ ap Some own.2 in
      let at = zip_left (IsMessageLine conf (context_for conf message related) index moment) are.0 lines zip own.0 label there in
      let says = line_says message index moment at.0 at.2 in
      (says.0, subst (λ (l : AuditLine). Contains lines l) says.1 at.1, says.2)

  -- of the lines of a hop, that of a message is one of the message after it
  hop_says : (hop : PlacedHop) (lines : List AuditLine) (k : ℕ) (verdict : Verdict) → AreHopLines conf related hop lines → Contains lines (MessageLine k label verdict)
      → (k ≡ hop.index) × Says hop.after hop.now verdict
  hop_says hop lines k verdict are found =
      by_line are.line are.is (subst (λ (l : List AuditLine). Contains l (MessageLine k label verdict)) are.joined found)
    where
      no_label_line : (own : List ℕ) → ¬ IsLabelLine (context_for conf hop.before related) hop own (MessageLine k label verdict)
      no_label_line own is = is

      by_part : Contains (are.own ++ are.after) (MessageLine k label verdict) → (k ≡ hop.index) × Says hop.after hop.now verdict
      by_part both = elim (Contains-append_cases are.own are.after (MessageLine k label verdict) both) [
        | inl here ↦
            let at = zip_at (IsLabelLine (context_for conf hop.before related) hop) are.labels are.own are.each (MessageLine k label verdict) here in
            absurd (no_label_line at.1 at.3)
        | inr later ↦ message_says hop.after hop.index hop.now are.after k verdict are.after_are later
      ]

      one_has : (line : AuditLine) → IsHopLine (context_for conf hop.before related) hop line → ¬ Contains (line ∷ []) (MessageLine k label verdict)
      one_has (HopLine index explained stopped) is at = one_of (HopLine index explained stopped) (MessageLine k label verdict) at (λ e. absurd cc)
      one_has (MessageLine index own other) is at = is
      one_has (UnreadLine index own) is at = is
      one_has (LabelLine index own other another) is at = is

      by_line : (line : AuditLine) → IsHopLine (context_for conf hop.before related) hop line → Contains (line ∷ (are.own ++ are.after)) (MessageLine k label verdict)
          → (k ≡ hop.index) × Says hop.after hop.now verdict
      by_line line is all = elim (Contains-append_cases (line ∷ []) (are.own ++ are.after) (MessageLine k label verdict) all) [
        | inl first ↦ absurd (one_has line is first)
        | inr rest ↦ by_part rest
      ]

  -- a label with a signature in the message after a hop has its line
  hop_signed : (hop : PlacedHop) (lines : List AuditLine) (params : SigParams) (tag : List ℕ) → AreHopLines conf related hop lines → HasSignature hop.after label params tag
      → (verdict : Verdict) × Contains lines (MessageLine hop.index label verdict) × Says hop.after hop.now verdict
  hop_signed hop lines params tag are has =
      let own = signed_says hop.after hop.index hop.now are.after params tag are.after_are has in
      let line = MessageLine hop.index label own.0 in
      let in_part = Contains-append_right (are.line ∷ []) (are.own ++ are.after) line (Contains-append_right are.own are.after line own.1) in
      (own.0, subst (λ (l : List AuditLine). Contains l line) (sym are.joined) in_part, own.2)

-- what a part has, all have
joined_has : {X : Type 0} (parts : List (List X)) (part : List X) (x : X) → Contains parts part → Contains part x → Contains (flat_map (λ p. p) parts) x
joined_has [] part x at has = absurd omega (arith, at.1)
joined_has {X} (own ∷ parts) part x (zero, lt, is) has = Contains-append_left own (flat_map (λ p. p) parts) x (subst (λ (p : List X). Contains p x) (sym is) has)
joined_has (own ∷ parts) part x (suc k, lt, is) has = Contains-append_right own (flat_map (λ p. p) parts) x (joined_has parts part x (k, omega (arith, lt), is) has)

module _ (conf : Configuration) (chain : Chain) (lines : List AuditLine) (report : IsReport conf chain lines) (label : List ℕ) where
  abbrev stages : List (ℕ × Message)
  stages = stages_from chain.moment chain.message chain.hops

  -- a line of a message says its verdict at its moment
  pub says_at : (k : ℕ) (verdict : Verdict) → Contains lines (MessageLine k label verdict)
      → (stage : ℕ × Message) × (slice_get stages k ≡ Some stage) × Says conf chain.related label stage.1 stage.0 verdict
  says_at k verdict found = elim (Contains-append_cases report.first (flat_map (λ p. p) report.parts) (MessageLine k label verdict) (subst (λ (l : List AuditLine). Contains l (MessageLine k label verdict)) report.joined found)) [
    | inl here ↦
        let own = message_says conf chain.related label chain.message 0 chain.moment report.first k verdict report.first_are here in
        ((chain.moment, chain.message), ap (slice_get stages) own.0 ∙ stage_head chain.moment chain.message chain.hops, own.1)
    | inr later ↦
        let part = part_at report.parts (MessageLine k label verdict) later in
        let at = zip_at (AreHopLines conf chain.related) (places_of chain) report.parts report.each part.0 part.1 in
        let own = hop_says conf chain.related label at.1 part.0 k verdict at.3 part.2 in
        let ends = between 0 chain.moment chain.message chain.hops at.0 at.1 at.2 in
        let place : k ≡ suc at.0 = own.0 ∙ ends.index_is ∙ omega arith in
        ((at.1.now, at.1.after), ap (slice_get stages) place ∙ ends.after, own.1)
  ]

  -- a label with a signature in a message has its line
  signed_at : (k : ℕ) (stage : ℕ × Message) (params : SigParams) (tag : List ℕ) → slice_get stages k ≡ Some stage → HasSignature stage.1 label params tag
      → (verdict : Verdict) × Contains lines (MessageLine k label verdict) × Says conf chain.related label stage.1 stage.0 verdict
  signed_at zero stage params tag there has =
      let same : (chain.moment, chain.message) ≡ stage = some_is (sym (stage_head chain.moment chain.message chain.hops) ∙ there) in
      subst (λ (s : ℕ × Message). (verdict : Verdict) × Contains lines (MessageLine 0 label verdict) × Says conf chain.related label s.1 s.0 verdict) same (first_says (subst (λ (s : ℕ × Message). HasSignature s.1 label params tag) (sym same) has))
    where
      first_says : HasSignature chain.message label params tag → (verdict : Verdict) × Contains lines (MessageLine 0 label verdict) × Says conf chain.related label chain.message chain.moment verdict
      first_says own =
          let line = signed_says conf chain.related label chain.message 0 chain.moment report.first params tag report.first_are own in (
            line.0,
            subst (λ (l : List AuditLine). Contains l (MessageLine 0 label line.0)) (sym report.joined)
                (Contains-append_left report.first (flat_map (λ p. p) report.parts) (MessageLine 0 label line.0) line.1),
            line.2,
          )
  signed_at (suc k) stage params tag there has =
      let place = place_before 0 chain.moment chain.message chain.hops k stage there in
      let ends = between 0 chain.moment chain.message chain.hops k place.0 place.1 in
      let same : (place.0.now, place.0.after) ≡ stage = some_is (sym ends.after ∙ there) in
      let index : place.0.index ≡ suc k = ends.index_is ∙ omega arith in
      let part = zip_left (AreHopLines conf chain.related) (places_of chain) report.parts report.each k place.0 place.1 in
      let own = hop_signed conf chain.related label place.0 part.0 params tag part.2 (subst (λ (s : ℕ × Message). HasSignature s.1 label params tag) (sym same) has) in
      let all = Contains-append_right report.first (flat_map (λ p. p) report.parts) (MessageLine place.0.index label own.0) (joined_has report.parts part.0 (MessageLine place.0.index label own.0) part.1 own.1) in (
        own.0,
        subst (λ (i : ℕ). Contains lines (MessageLine i label own.0)) index (subst (λ (l : List AuditLine). Contains l (MessageLine place.0.index label own.0)) (sym report.joined) all),
        subst (λ (s : ℕ × Message). Says conf chain.related label s.1 s.0 own.0) same own.2,
      )

  -- a verdict that the label has in a signed message is that of its line
  line_at : (k : ℕ) (stage : ℕ × Message) (params : SigParams) (tag : List ℕ) (verdict : Verdict) → slice_get stages k ≡ Some stage → HasSignature stage.1 label params tag
      → Says conf chain.related label stage.1 stage.0 verdict → Contains lines (MessageLine k label verdict)
  line_at k stage params tag verdict there has says =
      let own = signed_at k stage params tag there has in
      let same = has_one_verdict (verification_for conf stage.0 (context_for conf stage.1 chain.related) label) own.0 verdict own.2 says in
      subst (λ (v : Verdict). Contains lines (MessageLine k label v)) same own.1

module _ (keeps : KeepsOverSteps) (conf : Configuration) (items : List PlacedItem) (chain : Chain) (lines : List AuditLine) (are : AreItemsOf items chain) (report : IsReport conf chain lines) where
  pub keeps_verdicts : (index : ℕ) (label : List ℕ) (fate : Fate) (verdict : Verdict) → Contains lines (LabelLine (index + 1) label true fate) → HaveOneMoment chain index (index + 1)
      → Contains lines (MessageLine index label verdict) ↔ Contains lines (MessageLine (index + 1) label verdict)
  keeps_verdicts index label fate verdict found moments = (onward, back)
    where
      onward : Contains lines (MessageLine index label verdict) → Contains lines (MessageLine (index + 1) label verdict)
      onward line =
          let of = label_line_is conf chain lines (index + 1) label true fate report found in
          let written = script_at (reading_of chain.related (role_of are.recorded.subject)) are.recorded.hops chain.hops 0 chain.moment chain.message of.at of.hop are.values.hops of.there in
          let ends = between 0 chain.moment chain.message chain.hops of.at of.hop of.there in
          let place : index ≡ of.at = omega (arith, of.index_is, ends.index_is) in
          let k = kept keeps (context_for conf of.hop.before chain.related) of.hop.script of.hop.after label of.report.params of.report.tag written.writable written.values of.report.signature of.report.permission in
          let before : slice_get (stages_from chain.moment chain.message chain.hops) index ≡ Some (of.hop.was, of.hop.before) = ap (slice_get (stages_from chain.moment chain.message chain.hops)) place ∙ ends.before in
          let after : slice_get (stages_from chain.moment chain.message chain.hops) (index + 1) ≡ Some (of.hop.now, of.hop.after) = ap (slice_get (stages_from chain.moment chain.message chain.hops)) (omega (arith, place)) ∙ ends.after in
          let one : of.hop.was ≡ of.hop.now =
          moment_is chain.moment chain.message chain.hops index moments.0 (of.hop.was, of.hop.before) moments.1 before
          ∙ sym (moment_is chain.moment chain.message chain.hops (index + 1) moments.0 (of.hop.now, of.hop.after) moments.2 after) in
          let here = says_at conf chain lines report label index verdict line in
          let stage : here.0 ≡ (of.hop.was, of.hop.before) = some_is (sym here.1 ∙ before) in
          let says = subst (λ (s : ℕ × Message). Says conf chain.related label s.1 s.0 verdict) stage here.2 in
          line_at conf chain lines report label (index + 1) (of.hop.now, of.hop.after) of.report.params of.report.tag verdict after k.signature
          (subst (λ (t : ℕ). Says conf chain.related label of.hop.after t verdict) one ((k.verdict conf of.hop.was None verdict).0 says))

      back : Contains lines (MessageLine (index + 1) label verdict) → Contains lines (MessageLine index label verdict)
      back line =
          let of = label_line_is conf chain lines (index + 1) label true fate report found in
          let written = script_at (reading_of chain.related (role_of are.recorded.subject)) are.recorded.hops chain.hops 0 chain.moment chain.message of.at of.hop are.values.hops of.there in
          let ends = between 0 chain.moment chain.message chain.hops of.at of.hop of.there in
          let place : index ≡ of.at = omega (arith, of.index_is, ends.index_is) in
          let k = kept keeps (context_for conf of.hop.before chain.related) of.hop.script of.hop.after label of.report.params of.report.tag written.writable written.values of.report.signature of.report.permission in
          let before : slice_get (stages_from chain.moment chain.message chain.hops) index ≡ Some (of.hop.was, of.hop.before) = ap (slice_get (stages_from chain.moment chain.message chain.hops)) place ∙ ends.before in
          let after : slice_get (stages_from chain.moment chain.message chain.hops) (index + 1) ≡ Some (of.hop.now, of.hop.after) = ap (slice_get (stages_from chain.moment chain.message chain.hops)) (omega (arith, place)) ∙ ends.after in
          let one : of.hop.was ≡ of.hop.now =
          moment_is chain.moment chain.message chain.hops index moments.0 (of.hop.was, of.hop.before) moments.1 before
          ∙ sym (moment_is chain.moment chain.message chain.hops (index + 1) moments.0 (of.hop.now, of.hop.after) moments.2 after) in
          let here = says_at conf chain lines report label (index + 1) verdict line in
          let stage : here.0 ≡ (of.hop.now, of.hop.after) = some_is (sym here.1 ∙ after) in
          let says = subst (λ (s : ℕ × Message). Says conf chain.related label s.1 s.0 verdict) stage here.2 in
          line_at conf chain lines report label index (of.hop.was, of.hop.before) of.report.params of.report.tag verdict before of.report.signature
          ((k.verdict conf of.hop.was None verdict).1 (subst (λ (t : ℕ). Says conf chain.related label of.hop.after t verdict) (sym one) says))

-- each report is sound
pub keeps_what_is_permitted : KeepsOverSteps → KeepsWhatIsPermitted
keeps_what_is_permitted keeps conf items chain lines are report = record {
  fates = keeps_fates keeps conf items chain lines are report;
  verdicts = keeps_verdicts keeps conf items chain lines are report;
}

-- so it is, by the law of steps that are permitted
pub what_is_permitted_is_kept : KeepsWhatIsPermitted
what_is_permitted_is_kept = keeps_what_is_permitted keeps_over_steps
