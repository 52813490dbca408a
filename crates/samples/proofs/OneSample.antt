-- A seed and a number of hops have at most one summary.
use Rattle.std.proofs.Common.{◌≡◌, ℕ, List, [], ◌∷◌, refl, sym, subst, ◌∙◌}
use Rattle.msg_body.specs.Messages.{Message}
use Rattle.msg_body.specs.WholeTexts.{one_request}
use Rattle.msg_body.proofs.WholeTexts.{one_whole}
use Rattle.signing.specs.Signed.{IsSignedMessage}
use Rattle.signing.proofs.OneSigned.{one_signed_message}
use Rattle.rewrite_script.specs.declared.rewrite.Rewrite.{Rewrite}
use Rattle.hop_audit.specs.ChainValues.{Chain, Hop}
use Rattle.hop_audit.specs.Report.{IsReport}
use Rattle.hop_audit.specs.declared.line.AuditLine.{AuditLine}
use Rattle.hop_audit.proofs.OneReport.{one_report}
use Rattle.hop_audit.proofs.StepLists.{one_end}
use Rattle.samples.specs.Chains.{AreHopsFrom, IsSampleChain, IsUnsigned, sample_context}
use Rattle.samples.specs.Laws.{HasOneSample}
use Rattle.samples.specs.Requests.{request_text, sample_configuration, sample_spec}
use Rattle.samples.specs.Scripts.{scripts_from}
use Rattle.samples.specs.Summary.{IsSummaryOf}
use Rattle.samples.specs.declared.summary.Summary.{Summary}

one_unsigned : (seed : ℕ) (a b : Message) → IsUnsigned seed a → IsUnsigned seed b → a ≡ b
one_unsigned seed a b is also = one_whole one_request (request_text seed) a b is also

-- ---- the hops

one_list : (message : Message) (scripts : List (List Rewrite)) (hops others : List Hop) → AreHopsFrom message scripts hops → AreHopsFrom message scripts others → hops ≡ others
one_list message [] [] [] a b = refl
one_list message [] [] (g ∷ others) a b = absurd b
one_list message [] (h ∷ hops) others a b = absurd a
one_list message (script ∷ scripts) [] others a b = absurd a
one_list message (script ∷ scripts) (h ∷ hops) [] a b = absurd b
one_list message (script ∷ scripts) (h ∷ hops) (g ∷ others) a b =
    let moment = a.0 ∙ sym b.0 in
    let steps = a.1 ∙ sym b.1 in
    let end = one_end (sample_context message) script h.message g.message a.2 b.2 in
    let rest = one_list g.message scripts hops others (subst (λ (m : Message). AreHopsFrom m scripts hops) end a.3) b.3 in
    λ i. record { moment = moment i; script = steps i; message = end i } ∷ rest i

-- ---- the chain

one_chain : (seed count : ℕ) (chain other : Chain) → IsSampleChain seed count chain → IsSampleChain seed count other → chain ≡ other
one_chain seed count chain other a b =
    let moment = a.moment ∙ sym b.moment in
    let related = a.related ∙ sym b.related in
    let unsigned = one_unsigned seed a.unsigned b.unsigned a.unsigned_is b.unsigned_is in
    let signed = subst (λ (m : Message). IsSignedMessage (sample_context m) sample_spec chain.message) unsigned a.signed in
    let message = one_signed_message (sample_context b.unsigned) sample_spec chain.message other.message signed b.signed in
    let hops = one_list other.message (scripts_from seed count) chain.hops other.hops (subst (λ (m : Message). AreHopsFrom m (scripts_from seed count) chain.hops) message a.hops) b.hops in
    λ i. record { moment = moment i; related = related i; message = message i; hops = hops i }

-- ---- the summary

same_numbers : (chain : Chain) (lines : List AuditLine) (one other : Summary) → IsSummaryOf chain lines one → IsSummaryOf chain lines other → one ≡ other
same_numbers chain lines one other a b =
    let hops = a.hops ∙ sym b.hops in
    let steps = a.steps ∙ sym b.steps in
    let permitted = a.permitted ∙ sym b.permitted in
    let kept = a.kept ∙ sym b.kept in
    let ok = a.ok ∙ sym b.ok in
    let last = a.last ∙ sym b.last in
    let faulty = a.faulty ∙ sym b.faulty in
    λ i. record { hops = hops i; steps = steps i; permitted = permitted i; kept = kept i; ok = ok i; last = last i; finds_fault = faulty i }

pub one_sample : HasOneSample
one_sample seed count one other a b =
    let chain = one_chain seed count a.chain b.chain a.is b.is in
    let report = subst (λ (c : Chain). IsReport sample_configuration c a.lines) chain a.report in
    let lines = one_report sample_configuration b.chain a.lines b.lines report b.report in
    let counted = subst (λ (c : Chain). IsSummaryOf c a.lines one) chain a.summary_is in
    same_numbers b.chain b.lines one other (subst (λ (all : List AuditLine). IsSummaryOf b.chain all one) lines counted) b.summary_is
