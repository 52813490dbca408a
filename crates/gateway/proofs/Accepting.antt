-- The first label that is accepted.
use Rattle.std.proofs.Common.{◌≡◌, ◌<◌, ◌≤◌, ◌+◌, ℕ, suc, Result, Err, Some, List, [], ◌∷◌, get_or, length, take, refl, sym, ap, subst, ◌∙◌, false}
use Rattle.std.proofs.lemmas.Bool.{false≢true}
use Rattle.std.proofs.lemmas.List.Elements.{All-cons, All-more, All-nil}
use Rattle.std.proofs.lemmas.List.{take_all}
use Rattle.std.proofs.lemmas.Option.{slice_get-get_or}
use Rattle.byte_grammar.specs.Causes.{AnswersWhere}
use Rattle.msg_body.specs.Messages.{Message}
use Rattle.component_ids.specs.declared.params.SigParams.{SigParams}
use Rattle.signatures.specs.Rules.{IsLabelUnread}
use Rattle.signatures.specs.Signatures.{HasSignature}
use Rattle.signatures.specs.declared.label.LabelFault.{LabelFault}
use Rattle.signatures.specs.declared.label.LabelFault.TheVariants.{Memory as OutOfMemory, Rule as Unread}
use Rattle.signatures.specs.declared.place.Place.{Place}
use Rattle.signatures.specs.declared.rule.Rule.{Rule}
use Rattle.signatures.specs.declared.label.LabelRead.{LabelRead}
use Rattle.verdicts.specs.Verdicts.{Accepts, IsVerdict, is_accepted}
use Rattle.verdicts.specs.Verification.{Verification}
use Rattle.verdicts.specs.declared.outcome.Verdict.{Verdict}
use Rattle.verdicts.specs.declared.outcome.Verdict.TheVariants.{Ok as Accepted, Rule as Refused}
use Rattle.verdicts.proofs.Judging.{has_one_verdict, unread_is_first}
use Rattle.gateway.specs.Accepted.{AreRefused, IsFirstAccepted, IsRefusal}
use Rattle.gateway.specs.declared.accepted.AcceptedLabel.{AcceptedLabel}
use Rattle.gateway.specs.tools.Judged.{IsAcceptedLabel, IsFirstLabel, IsJudgedBy, IsJudgedLabel}

-- the verdict says that the label isn't accepted
abbrev IsRefusedBy : Verification → Verdict → Type 0
IsRefusedBy v verdict = IsVerdict v verdict × (is_accepted verdict ≡ false)

never_accepted : (v : Verification) (verdict : Verdict) → IsRefusedBy v verdict → (keyid : List ℕ) → ¬ Accepts v keyid
never_accepted v verdict refused keyid accepts =
    false≢true (sym refused.1 ∙ ap is_accepted (has_one_verdict v verdict (Accepted keyid) refused.0 accepts))

-- a label at which a rule fails isn't accepted
pub not_accepted : (v : Verification) (rule : Rule) (place : Place) → IsVerdict v (Refused rule place) → (keyid : List ℕ) → ¬ Accepts v keyid
not_accepted v rule place fails = never_accepted v (Refused rule place) (fails, refl)

-- nor is one that isn't read
pub unread_label : (message : Message) (v : Verification) (rule : Rule) (place : Place) (result : Result LabelRead LabelFault)
    → ((r : Rule) (p : Place) → AnswersWhere OutOfMemory result (Unread r p) (IsLabelUnread v.context.message v.label r p)) → result ≡ Err (Unread rule place) → IsJudgedLabel message v (Err (Refused rule place))
unread_label message v rule place result says is = (unread_is_first v rule place ((says rule place).only is), refl)

-- what comes of a label that was read, by the verdict on it
pub judged_label : (message : Message) (v : Verification) (params : SigParams) (tag : List ℕ) (verdict : Verdict) (given : Result AcceptedLabel Verdict) → HasSignature message v.label params tag → IsVerdict v verdict
    → IsJudgedBy v.label params verdict given → IsJudgedLabel message v given
judged_label message v params tag (Accepted keyid) given has is told =
    subst (IsJudgedLabel message v) (sym told) (is, record { label_is = refl; keyid_is = refl; tag = tag; signature = has })
judged_label message v params tag (Refused rule place) given has is told =
    subst (IsJudgedLabel message v) (sym told) (is, refl)

module _ (judged_by : List ℕ → Verification) where
  abbrev IsNotAccepted : List ℕ → Type 0
  IsNotAccepted label = (keyid : List ℕ) → ¬ Accepts (judged_by label) keyid

  pub none_refused : AreRefused judged_by []
  none_refused = All-nil IsNotAccepted

  -- one more isn't accepted
  pub refused_more : (labels : List (List ℕ)) (index : ℕ) (label : List ℕ) (verdict : Verdict) → index < length labels → label ≡ get_or labels index label
      → AreRefused judged_by (take index labels) → IsRefusedBy (judged_by label) verdict → AreRefused judged_by (take (index + 1) labels)
  refused_more labels index label verdict lt is before refused =
      All-more IsNotAccepted labels index label lt before (subst IsNotAccepted is (never_accepted (judged_by label) verdict refused))

  pub refused_all : (labels : List (List ℕ)) (index : ℕ) → length labels ≤ index → AreRefused judged_by (take index labels) → AreRefused judged_by labels
  refused_all labels index end before = subst (AreRefused judged_by) (take_all index labels end) before

  -- this one is accepted, after others that aren't
  pub accepted_here : (labels : List (List ℕ)) (index : ℕ) (label keyid : List ℕ) → index < length labels → label ≡ get_or labels index label
      → AreRefused judged_by (take index labels) → Accepts (judged_by label) keyid → IsFirstAccepted judged_by labels label keyid
  accepted_here labels index label keyid lt is before accepts = record {
    index = index;
    is = record {
      label = label;
      there = slice_get-get_or labels index label lt ∙ ap Some (sym is);
      accepts = accepts;
      before = before;
    };
    label_is = refl;
  }

  -- ---- the first one and the others

  module _ (first : List ℕ) (others : List (List ℕ)) where
    pub accepted_first : (keyid : List ℕ) → Accepts (judged_by first) keyid → IsFirstAccepted judged_by (first ∷ others) first keyid
    accepted_first keyid accepts = record {
      index = 0;
      is = record { label = first; there = refl; accepts = accepts; before = none_refused };
      label_is = refl;
    }

    pub accepted_later : (verdict : Verdict) → IsRefusedBy (judged_by first) verdict → (label keyid : List ℕ) → IsFirstAccepted judged_by others label keyid
        → IsFirstAccepted judged_by (first ∷ others) label keyid
    accepted_later verdict refused label keyid later = record {
      index = suc later.index;
      is = record {
        label = later.is.label;
        there = later.is.there;
        accepts = later.is.accepts;
        before =
            All-cons IsNotAccepted first (take later.index others) (never_accepted (judged_by first) verdict refused) later.is.before;
      };
      label_is = later.label_is;
    }

    pub refused_first : (verdict : Verdict) → IsRefusedBy (judged_by first) verdict → AreRefused judged_by others → IsRefusal judged_by (first ∷ others) first verdict
    refused_first verdict refused none = record {
      first = refl;
      none = All-cons IsNotAccepted first others (never_accepted (judged_by first) verdict refused) none;
      is = refused.0;
    }

  -- what is answered of the label that is the first
  pub first_label : (message : Message) (labels : List (List ℕ)) (label keyid : List ℕ) (accepted : AcceptedLabel) → IsFirstAccepted judged_by labels label keyid
      → IsAcceptedLabel message label keyid accepted → IsFirstLabel message judged_by labels accepted
  first_label message labels label keyid accepted first is = (
    subst (λ (l : List ℕ). IsFirstAccepted judged_by labels l accepted.keyid) (sym is.label_is)
        (subst (λ (k : List ℕ). IsFirstAccepted judged_by labels label k) (sym is.keyid_is) first),
    record {
      label_is = refl;
      keyid_is = refl;
      tag = is.tag;
      signature = subst (λ (l : List ℕ). HasSignature message l accepted.params is.tag) (sym is.label_is) is.signature;
    },
  )
