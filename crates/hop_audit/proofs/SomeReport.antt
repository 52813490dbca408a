-- Items have a report, or a fault.
use Rattle.std.proofs.Common.{◌≡◌, ◌+◌, ℕ, Bool, Option, unwrap_or, List, [], ◌∷◌, ◌++◌, length, refl, sym, subst, ap, inl, inr}
use Rattle.std.specs.List.{AllZip, flat_map}
use Rattle.std.proofs.lemmas.Bool.{cases_lt}
use Rattle.msg_body.specs.Messages.{IsMessage, Message}
use Rattle.msg_body.specs.declared.whole.Reading.{Reading}
use Rattle.component_values.specs.Context.{MessageContext, answers_head}
use Rattle.settings.specs.Configuration.{Configuration}
use Rattle.signatures.proofs.Reading.{has_labels, has_no_failure_where_read, has_signature_or_not}
use Rattle.verdicts.specs.Contexts.{context_for}
use Rattle.verdicts.specs.Verification.{or_no_label, verification_for}
use Rattle.verdicts.proofs.Judging.{has_verdict}
use Rattle.hop_audit.specs.declared.fault.ChainFault.TheVariants.{Order, TooManyHops}
use Rattle.recording.specs.declared.limits.TheConstants.{MAX_HOPS}
use Rattle.hop_audit.specs.declared.line.AuditLine.{AuditLine}
use Rattle.hop_audit.specs.declared.line.AuditLine.TheVariants.{Message as MessageLine, Hop as HopLine, Unread as UnreadLine, Label as LabelLine}
use Rattle.recording.specs.Chains.{RecordedChain, RecordedHop, Subject, requests, responses, role_of}
use Rattle.hop_audit.specs.ChainValues.{AnswersRequest, Chain, Hop, IsChainOf, IsHop, reading_of}
use Rattle.hop_audit.specs.Hops.{PlacedHop, places_from}
use Rattle.hop_audit.specs.Laws.{HaveAuditOrFault}
use Rattle.hop_audit.specs.Report.{AreHopLines, AreMessageLines, IsLabelLine, IsMessageLine, IsReport}
use Rattle.hop_audit.proofs.Fates.{has_some_fate}
use Rattle.hop_audit.proofs.FirstFaults.{fault_of_number, fault_of_order, values_or_fault}
use Rattle.recording.proofs.OrderFaults.{chain_or_not}
use Rattle.hop_audit.proofs.Reports.{IsWritten}
use Rattle.hop_audit.proofs.StepLists.{has_explanation, has_permission}

-- ---- lists

-- a list is in such a relation, where an element is for each
some_zip : {A B : Type 0} (R : A → B → Type 0) → ((x : A) → (y : B) × R x y) → (xs : List A) → (ys : List B) × AllZip R xs ys
some_zip R some [] = ([], tt)
some_zip R some (x ∷ xs) =
    let first = some x in
    let rest = some_zip R some xs in
    (first.0 ∷ rest.0, (first.1, rest.1))

-- ---- the lines of a message

some_message_lines : (conf : Configuration) (context : MessageContext) (index moment : ℕ) → (lines : List AuditLine) × AreMessageLines conf context index moment lines
some_message_lines conf context index moment =
    let labels = has_labels context.message in
    let lines = some_zip (IsMessageLine conf context index moment) some_line (or_no_label labels.0) in
    (lines.0, (labels.0, labels.1, lines.1))
  where
    some_line : (label : List ℕ) → (line : AuditLine) × IsMessageLine conf context index moment label line
    some_line label =
        let own = has_verdict (verification_for conf moment context label) in
        (MessageLine index label own.0, (refl, refl, own.1))

-- ---- the lines of a hop

-- the script is such as its lines write, and both ends are messages
record IsSound (related : Option Message) (hop : PlacedHop) : Type 0 where
  script : IsWritten hop.script
  before : IsMessage (answers_head related) hop.before
  after : IsMessage (answers_head related) hop.after

module _ (conf : Configuration) (related : Option Message) (hop : PlacedHop) (sound : IsSound related hop) where
  abbrev context : MessageContext
  context = context_for conf hop.before related

  some_label_line : (label : List ℕ) → (line : AuditLine) × IsLabelLine context hop label line
  some_label_line label = elim (has_signature_or_not hop.before label) [
    | inl own ↦
        let permission = has_permission label context hop.script hop.after sound.script.writable sound.before sound.after in
        let fate = has_some_fate context hop.after label own.0 own.1 in (
          LabelLine hop.index label permission.0 fate.0,
          (refl, refl, record { params = own.0; tag = own.1; signature = own.2; permission = permission.1; fate_is = fate.1 }),
        )
    | inr unread ↦ (
      UnreadLine hop.index label,
      (refl, refl, λ params tag has. has_no_failure_where_read hop.before label params tag unread.0 unread.1 has unread.2.holds),
    )
  ]

  some_hop : (lines : List AuditLine) × AreHopLines conf related hop lines
  some_hop =
      let explanation = has_explanation context hop.script hop.after sound.script.writable sound.before sound.after in
      let labels = has_labels hop.before in
      let own = some_zip (IsLabelLine context hop) some_label_line labels.0 in
      let after = some_message_lines conf (context_for conf hop.after related) hop.index hop.now in (
        HopLine hop.index explanation.0 explanation.1 ∷ (own.0 ++ after.0),
        record {
          line = HopLine hop.index explanation.0 explanation.1;
          is = (refl, explanation.2);
          labels = labels.0;
          labels_are = labels.1;
          own = own.0;
          each = own.1;
          after = after.0;
          after_are = after.1;
          joined = refl;
        },
      )

-- ---- the lines of a chain

some_parts : (conf : Configuration) (related : Option Message) (reading : Reading) → reading.to_head ≡ answers_head related → (recorded : List RecordedHop) (hops : List Hop) (index last : ℕ) (message : Message)
    → AllZip (IsHop reading) recorded hops → IsMessage (answers_head related) message → (parts : List (List AuditLine)) × AllZip (AreHopLines conf related) (places_from index last message hops) parts
some_parts conf related reading same recorded [] index last message zip is = ([], tt)
some_parts conf related reading same [] (h ∷ hops) index last message zip is = absurd zip
some_parts conf related reading same (r ∷ recorded) (h ∷ hops) index last message zip is =
    let after = subst (λ (b : Bool). IsMessage b h.message) same zip.0.message.spells.is in
    let written : IsWritten h.script = record { writable = zip.0.script.1.writable; values = zip.0.script.1.values } in
    let first = some_hop conf related
    (record { index = index + 1; was = last; before = message; script = h.script; now = unwrap_or h.moment last; after = h.message })
    (record { script = written; before = is; after = after }) in
    let rest = some_parts conf related reading same recorded hops (index + 1) (unwrap_or h.moment last) h.message zip.1 after in
    (first.0 ∷ rest.0, (first.1, rest.1))

-- a chain's messages are read as those that answer its request
to_head_is : (subject : Subject) (related : Option Message) → AnswersRequest subject related → (reading_of related (role_of subject)).to_head ≡ answers_head related
to_head_is requests related is = sym (ap answers_head is)
to_head_is (responses text) related is = refl

pub some_report : (conf : Configuration) (recorded : RecordedChain) (chain : Chain) → IsChainOf recorded chain → (lines : List AuditLine) × IsReport conf chain lines
some_report conf recorded chain values =
    let reading = reading_of chain.related (role_of recorded.subject) in
    let same = to_head_is recorded.subject chain.related values.related in
    let message = subst (λ (b : Bool). IsMessage b chain.message) same values.message.spells.is in
    let first = some_message_lines conf (context_for conf chain.message chain.related) 0 chain.moment in
    let parts = some_parts conf chain.related reading same recorded.hops chain.hops 0 chain.moment chain.message values.hops message in
    (first.0 ++ flat_map (λ part. part) parts.0, record { first = first.0; first_are = first.1; parts = parts.0; each = parts.1; joined = refl })

-- ---- or a fault

pub have_audit_or_fault : HaveAuditOrFault
have_audit_or_fault conf items begin short = elim (chain_or_not items begin) [
  | inr fault ↦ inr (Order fault.0, fault_of_order items fault.0 fault.1)
  | inl chain ↦ elim (cases_lt MAX_HOPS (length chain.0.hops)) [
    | inl many ↦ inr (TooManyHops, fault_of_number items chain.0 chain.1 many)
    | inr few ↦ elim (values_or_fault items chain.0 chain.1 few short) [
      | inr fault ↦ inr fault
      | inl values ↦
          let report = some_report conf chain.0 values.0 values.1 in
          inl (report.0, (values.0, record { recorded = chain.0; is = chain.1; few = few; values = values.1 }, report.1))
    ]
  ]
]
