-- Verdicts on labels have one outcome.
use Rattle.std.proofs.Common.{◌≡◌, ℕ, List, [], ◌∷◌, Option, Some, None, refl, sym, ap, subst, ◌∙◌}
use Rattle.msg_body.specs.Messages.{Message}
use Rattle.component_values.specs.Context.{MessageContext}
use Rattle.conf.specs.Configuration.{Configuration}
use Rattle.verdicts.specs.declared.outcome.Verdict.{Verdict}
use Rattle.commands.specs.Laws.{HaveOneOutcome}
use Rattle.commands.specs.Verify.{AreAsked, AreVerdicts, verdicts_outcome}
use Rattle.verdicts.specs.Verification.{verification_for, or_no_label}
use Rattle.commands.proofs.LowerVerdicts.{one_list_of_labels, one_verdict}

labels_one : (label : Option (List ℕ)) (message : Message) (a b : List (List ℕ)) → AreAsked label message a → AreAsked label message b → a ≡ b
labels_one None message a b is also =
    is.2 ∙ (ap or_no_label (one_list_of_labels message is.0 also.0 is.1 also.1) ∙ sym also.2)
labels_one (Some label) message a b is also = is ∙ sym also

verdicts_one : (conf : Configuration) (moment : ℕ) (context : MessageContext) (labels : List (List ℕ)) (a b : List Verdict) → AreVerdicts conf moment context labels a → AreVerdicts conf moment context labels b → a ≡ b
verdicts_one conf moment context [] [] [] is also = refl
verdicts_one conf moment context [] [] (w ∷ ws) is also = absurd also
verdicts_one conf moment context [] (v ∷ vs) b is also = absurd is
verdicts_one conf moment context (l ∷ ls) [] b is also = absurd is
verdicts_one conf moment context (l ∷ ls) (v ∷ vs) [] is also = absurd also
verdicts_one conf moment context (l ∷ ls) (v ∷ vs) (w ∷ ws) is also =
    let same = one_verdict (verification_for conf moment context l) v w is.0 also.0 in
    let rest = verdicts_one conf moment context ls vs ws is.1 also.1 in
    λ i. same i ∷ rest i

pub verdicts_law : HaveOneOutcome
verdicts_law label moment conf context one other a b =
    let labels : a.labels ≡ b.labels = labels_one label context.message a.labels b.labels a.asked b.asked in
    let verdicts : a.verdicts ≡ b.verdicts =
    verdicts_one conf moment context b.labels a.verdicts b.verdicts (subst (λ (ls : List (List ℕ)). AreVerdicts conf moment context ls a.verdicts) labels a.are) b.are in
    a.outcome_is ∙ ((λ i. verdicts_outcome (labels i) (verdicts i)) ∙ sym b.outcome_is)
