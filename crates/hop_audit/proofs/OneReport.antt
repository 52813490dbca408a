-- Items have one report.
use Rattle.std.proofs.Common.{◌≡◌, ℕ, Bool, Option, Some, None, List, [], ◌∷◌, ◌++◌, refl, sym, subst, ap, ◌∙◌}
use Rattle.std.specs.List.{AllZip, flat_map}
use Rattle.byte_grammar.proofs.Indices.{some_and_parts}
use Rattle.msg_body.specs.Messages.{Message}
use Rattle.msg_body.specs.WholeTexts.{IsWhole}
use Rattle.msg_body.specs.declared.whole.Reading.{Reading}
use Rattle.msg_body.proofs.WholeTexts.{one_whole}
use Rattle.component_ids.specs.declared.params.SigParams.{SigParams}
use Rattle.component_values.specs.Context.{MessageContext}
use Rattle.settings.specs.Configuration.{Configuration}
use Rattle.signatures.proofs.Reading.{has_one_list_of_labels, has_one_signature}
use Rattle.rewrite_script.proofs.ScriptLaws.{one_script}
use Rattle.verdicts.specs.Contexts.{context_for}
use Rattle.verdicts.specs.Verdicts.{IsVerdict}
use Rattle.verdicts.specs.Verification.{or_no_label, verification_for}
use Rattle.verdicts.specs.declared.outcome.Verdict.{Verdict}
use Rattle.verdicts.proofs.Judging.{has_one_verdict}
use Rattle.hop_audit.specs.declared.line.AuditLine.{AuditLine}
use Rattle.hop_audit.specs.declared.line.AuditLine.TheVariants.{Message as MessageLine, Hop as HopLine, Unread as UnreadLine, Label as LabelLine}
use Rattle.hop_audit.specs.declared.line.Fate.{Fate}
use Rattle.recording.specs.Chains.{Subject, requests, responses, RecordedChain, RecordedHop, role_of}
use Rattle.hop_audit.specs.ChainValues.{AnswersRequest, Chain, Hop, IsChainOf, IsHop, one_request, reading_of}
use Rattle.hop_audit.specs.Fates.{IsFate}
use Rattle.hop_audit.specs.Hops.{IsExplanation, PlacedHop}
use Rattle.hop_audit.specs.Laws.{HaveOneAudit}
use Rattle.hop_audit.specs.Report.{AreHopLines, AreMessageLines, IsHopLine, IsLabelLine, IsLabelReport, IsMessageLine, IsReport, places_of}
use Rattle.hop_audit.proofs.Fates.{has_one_fate}
use Rattle.recording.proofs.OneChain.{one_chain}
use Rattle.hop_audit.proofs.StepLists.{one_explanation, one_permission}

-- ---- lists

-- one list is in such a relation, where one element is
pub one_of_zip : {A B : Type 0} (R : A → B → Type 0) → ((x : A) (y z : B) → R x y → R x z → y ≡ z) → (xs : List A) (ys zs : List B) → AllZip R xs ys → AllZip R xs zs → ys ≡ zs
one_of_zip R one [] [] [] a b = refl
one_of_zip R one [] [] (z ∷ zs) a b = absurd b
one_of_zip R one [] (y ∷ ys) zs a b = absurd a
one_of_zip R one (x ∷ xs) [] zs a b = absurd a
one_of_zip R one (x ∷ xs) (y ∷ ys) [] a b = absurd b
one_of_zip R one (x ∷ xs) (y ∷ ys) (z ∷ zs) a b =
    let first = one x y z a.0 b.0 in
    let rest = one_of_zip R one xs ys zs a.1 b.1 in
    λ i. first i ∷ rest i

-- ---- the lines of a message

module _ (conf : Configuration) (context : MessageContext) (index moment : ℕ) where
  -- the line and its verdict
  message_line_is : (label : List ℕ) (line : AuditLine) → IsMessageLine conf context index moment label line
      → (verdict : Verdict) × (line ≡ MessageLine index label verdict) × IsVerdict (verification_for conf moment context label) verdict
  message_line_is label (MessageLine k named verdict) is = (verdict, (λ i. MessageLine (is.0 i) (is.1 i) verdict), is.2)
  message_line_is label (HopLine k explained stopped) is = absurd is
  message_line_is label (UnreadLine k named) is = absurd is
  message_line_is label (LabelLine k named permitted fate) is = absurd is

  one_message_line : (label : List ℕ) (line other : AuditLine) → IsMessageLine conf context index moment label line → IsMessageLine conf context index moment label other → line ≡ other
  one_message_line label line other a b =
      let x = message_line_is label line a in
      let y = message_line_is label other b in
      let same = has_one_verdict (verification_for conf moment context label) x.0 y.0 x.2 y.2 in
      x.1 ∙ ap (λ (v : Verdict). MessageLine index label v) same ∙ sym y.1

  pub one_message_lines : (lines others : List AuditLine) → AreMessageLines conf context index moment lines → AreMessageLines conf context index moment others → lines ≡ others
  one_message_lines lines others a b =
      let labels = has_one_list_of_labels context.message a.0 b.0 a.1 b.1 in
      let zip = subst (λ (l : List (List ℕ)). AllZip (IsMessageLine conf context index moment) (or_no_label l) lines) labels a.2 in
      one_of_zip (IsMessageLine conf context index moment) one_message_line (or_no_label b.0) lines others zip b.2

-- ---- the lines of a hop

module _ (context : MessageContext) (hop : PlacedHop) where
  -- the line and its explanation
  hop_line_is : (line : AuditLine) → IsHopLine context hop line
      → (explained : Bool) × (stopped : Option ℕ) × (line ≡ HopLine hop.index explained stopped) × IsExplanation context hop.script hop.after explained stopped
  hop_line_is (HopLine k explained stopped) is = (explained, stopped, ap (λ (n : ℕ). HopLine n explained stopped) is.0, is.1)
  hop_line_is (MessageLine k named verdict) is = absurd is
  hop_line_is (UnreadLine k named) is = absurd is
  hop_line_is (LabelLine k named permitted fate) is = absurd is

  one_hop_line : (line other : AuditLine) → IsHopLine context hop line → IsHopLine context hop other → line ≡ other
  one_hop_line line other a b =
      let x = hop_line_is line a in
      let y = hop_line_is other b in
      let same = one_explanation context hop.script hop.after x.0 y.0 x.1 y.1 x.3 y.3 in
      x.2 ∙ (λ i. HopLine hop.index (same.0 i) (same.1 i)) ∙ sym y.2

  one_label_report : (label : List ℕ) (a b : Bool) (fate other : Fate) → IsLabelReport context hop label a fate → IsLabelReport context hop label b other → (a ≡ b) × (fate ≡ other)
  one_label_report label a b fate other x y =
      let same = has_one_signature context.message label x.params y.params x.tag y.tag x.signature y.signature in
      let params = subst (λ (p : SigParams). IsFate context hop.after label p x.tag fate) same.0 x.fate_is in
      let is = subst (λ (t : List ℕ). IsFate context hop.after label y.params t fate) same.1 params in
      (one_permission label context hop.script hop.after a b x.permission y.permission, has_one_fate context hop.after label y.params y.tag fate other is y.fate_is)

  one_label_line : (label : List ℕ) (line other : AuditLine) → IsLabelLine context hop label line → IsLabelLine context hop label other → line ≡ other
  one_label_line label (UnreadLine k named) (UnreadLine m own) a b = let index = a.0 ∙ sym b.0 in let name = a.1 ∙ sym b.1 in λ i. UnreadLine (index i) (name i)
  one_label_line label (UnreadLine k named) (LabelLine m own permitted fate) a b = absurd (a.2 b.2.params b.2.tag b.2.signature)
  one_label_line label (UnreadLine k named) (MessageLine m own verdict) a b = absurd b
  one_label_line label (UnreadLine k named) (HopLine m explained stopped) a b = absurd b
  one_label_line label (LabelLine k named permitted fate) (UnreadLine m own) a b = absurd (b.2 a.2.params a.2.tag a.2.signature)
  one_label_line label (LabelLine k named permitted fate) (LabelLine m own allowed other) a b =
      let index = a.0 ∙ sym b.0 in
      let name = a.1 ∙ sym b.1 in
      let same = one_label_report label permitted allowed fate other a.2 b.2 in
      λ i. LabelLine (index i) (name i) (same.0 i) (same.1 i)
  one_label_line label (LabelLine k named permitted fate) (MessageLine m own verdict) a b = absurd b
  one_label_line label (LabelLine k named permitted fate) (HopLine m explained stopped) a b = absurd b
  one_label_line label (MessageLine k named verdict) other a b = absurd a
  one_label_line label (HopLine k explained stopped) other a b = absurd a

pub one_hop : (conf : Configuration) (related : Option Message) (hop : PlacedHop) (lines others : List AuditLine) → AreHopLines conf related hop lines → AreHopLines conf related hop others → lines ≡ others
one_hop conf related hop lines others a b =
    let context = context_for conf hop.before related in
    let line = one_hop_line context hop a.line b.line a.is b.is in
    let labels = has_one_list_of_labels hop.before a.labels b.labels a.labels_are b.labels_are in
    let zip = subst (λ (l : List (List ℕ)). AllZip (IsLabelLine context hop) l a.own) labels a.each in
    let own = one_of_zip (IsLabelLine context hop) (one_label_line context hop) b.labels a.own b.own zip b.each in
    let after = one_message_lines conf (context_for conf hop.after related) hop.index hop.now a.after b.after a.after_are b.after_are in
    a.joined ∙ (λ i. line i ∷ (own i ++ after i)) ∙ sym b.joined

-- ---- the lines of a chain

pub one_report : (conf : Configuration) (chain : Chain) (lines others : List AuditLine) → IsReport conf chain lines → IsReport conf chain others → lines ≡ others
one_report conf chain lines others a b =
    let first = one_message_lines conf (context_for conf chain.message chain.related) 0 chain.moment a.first b.first a.first_are b.first_are in
    let parts = one_of_zip (AreHopLines conf chain.related) (one_hop conf chain.related) (places_of chain) a.parts b.parts a.each b.each in
    a.joined ∙ (λ i. first i ++ flat_map (λ part. part) (parts i)) ∙ sym b.joined

-- ---- the values of a chain

one_request_known : (subject : Subject) (related other : Option Message) → AnswersRequest subject related → AnswersRequest subject other → related ≡ other
one_request_known requests related other a b = a ∙ sym b
one_request_known (responses None) related other a b = a ∙ sym b
one_request_known (responses (Some text)) related other a b =
    let x = some_and_parts (IsWhole one_request text) related a in
    let y = some_and_parts (IsWhole one_request text) other b in
    x.1 ∙ ap (λ (m : Message). Some m) (one_whole one_request text x.0 y.0 x.2 y.2) ∙ sym y.1

one_hop_value : (reading : Reading) (recorded : RecordedHop) (hop other : Hop) → IsHop reading recorded hop → IsHop reading recorded other → hop ≡ other
one_hop_value reading recorded hop other a b =
    let moment = a.moment ∙ sym b.moment in
    let script = one_script recorded.script hop.script other.script a.script.1 b.script.1 in
    let message = one_whole reading recorded.message hop.message other.message a.message b.message in
    λ i. record { moment = moment i; script = script i; message = message i }

-- a recorded chain is one chain of values
pub one_chain_value : (recorded : RecordedChain) (chain other : Chain) → IsChainOf recorded chain → IsChainOf recorded other → chain ≡ other
one_chain_value recorded chain other a b =
    let moment = a.moment ∙ sym b.moment in
    let related = one_request_known recorded.subject chain.related other.related a.related b.related in
    let reading = reading_of other.related (role_of recorded.subject) in
    let first = subst (λ (r : Option Message). IsWhole (reading_of r (role_of recorded.subject)) recorded.first chain.message) related a.message in
    let message = one_whole reading recorded.first chain.message other.message first b.message in
    let each = subst (λ (r : Option Message). AllZip (IsHop (reading_of r (role_of recorded.subject))) recorded.hops chain.hops) related a.hops in
    let hops = one_of_zip (IsHop reading) (one_hop_value reading) recorded.hops chain.hops other.hops each b.hops in
    λ i. record { moment = moment i; related = related i; message = message i; hops = hops i }

-- items that are one chain have one report
pub have_one_audit : HaveOneAudit
have_one_audit conf items lines others a b =
    let recorded = one_chain items a.1.recorded b.1.recorded a.1.is b.1.is in
    let values = subst (λ (r : RecordedChain). IsChainOf r a.0) recorded a.1.values in
    let chain = one_chain_value b.1.recorded a.0 b.0 values b.1.values in
    one_report conf b.0 lines others (subst (λ (c : Chain). IsReport conf c lines) chain a.2) b.2
