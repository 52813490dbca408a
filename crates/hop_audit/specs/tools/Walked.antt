-- What the code makes of the steps of a script. No public clause cites this module.
use Rattle.std.specs.Prelude.{◌≡◌, ◌↔◌, ℕ, IsTrue, Option, IfSome, IsSomeAnd, MatchOption, is_some, List, take, drop}
use Rattle.std.specs.Borrow.{Bor}
use Rattle.std.specs.List.{All, AllZip}
use Rattle.msg_body.specs.Messages.{Message, Spells}
use Rattle.component_ids.specs.SignatureParams.{are_sig_params_in_range}
use Rattle.component_ids.specs.declared.params.SigParams.{SigParams}
use Rattle.component_values.specs.Context.{MessageContext, answers_head}
use Rattle.rewrite_script.specs.declared.rewrite.Rewrite.{Rewrite}
use Rattle.rewrites.specs.Permitted.{Permits}
use Rattle.rewrites.specs.Steps.{Step, Steps}
use Rattle.signatures.specs.Signatures.{AreLabels, HasSignature}
use Rattle.signatures.specs.declared.label.LabelRead.{LabelRead}
use Rattle.rewrites.specs.declared.watcher.Judgement.{Judgement}
use Rattle.rewrites.specs.declared.watcher.Judgement.TheVariants.{Permitted}
use Rattle.hop_audit.specs.declared.walk.Mark.{Mark}
use Rattle.hop_audit.specs.declared.walk.Marks.{Marks}
use Rattle.hop_audit.specs.declared.walk.Walked.{Walked}
use Rattle.hop_audit.specs.declared.walk.Walked.TheVariants.{To, Stopped}
use Rattle.hop_audit.specs.Hops.{IsPermitted, IsStoppedAt}

-- the label's signature in the message, or that it has none
abbrev pub IsMarkRead : Message → List ℕ → Option (Bor LabelRead) → Type 0
IsMarkRead message label read = MatchOption read
    ((params : SigParams) (tag : List ℕ) → ¬ HasSignature message label params tag)
    (λ read. HasSignature message label read.now.params read.now.tag)

-- the label's signature in the message, or that it has none; so far each step is permitted, where
-- it has one
pub record IsMarkOf (message : Message) (label : List ℕ) (mark : Mark) : Type 0 where
  pub label_is : mark.label.now ≡ label
  pub read : IsMarkRead message label mark.read
  pub permitted : mark.permitted ≡ is_some mark.read

-- each label has its mark
abbrev pub AreMarksOf : Message → List (List ℕ) → List Mark → Type 0
AreMarksOf message labels marks = AllZip (IsMarkOf message) labels marks

-- each label of the message has its mark
pub record AreMarksIn (message : Message) (marks : List Mark) : Type 0 where
  pub labels : List (List ℕ)
  pub are : AreLabels message labels
  pub each : AreMarksOf message labels marks

-- where the label has a signature, its parameters can be written as a structured field
abbrev pub IsMarkInRange : Mark → Type 0
IsMarkInRange mark = IfSome mark.read (λ read. IsTrue (are_sig_params_in_range read.now.params))

-- where the signature has permitted all so far, the message has it
abbrev pub HoldsSignature : Message → Mark → Type 0
HoldsSignature message mark = IsTrue mark.permitted
    → IsSomeAnd mark.read (λ read. HasSignature message mark.label.now read.now.params read.now.tag)

-- all of them do
abbrev pub HoldSignatures : Message → List Mark → Type 0
HoldSignatures message marks = All (HoldsSignature message) marks

-- the label and its signature stay
pub record IsSameMark (was now : Mark) : Type 0 where
  pub label : now.label.now ≡ was.label.now
  pub read : now.read ≡ was.read

-- the label is marked by whether its signature permits the step too
pub record IsMarkedBy (context : MessageContext) (step : Rewrite) (was now : Mark)
    : Type 0 where
  pub same : IsSameMark was now
  pub permitted : IsTrue now.permitted ↔ (IsTrue was.permitted
      × IsSomeAnd was.read (λ read. Permits context step was.label.now read.now.params))

-- each label is, and the walk goes on
abbrev pub AreMarkedBy : MessageContext → Rewrite → Marks → Marks → Judgement → Type 0
AreMarkedBy context step was now judgement =
    AllZip (IsMarkedBy context step) was.marks.items now.marks.items × (judgement ≡ Permitted)

-- the label is marked by whether its signature permits the steps to this message
pub record IsMarkedAfter (context : MessageContext) (script : List Rewrite) (after : Message)
    (was now : Mark) : Type 0 where
  pub same : IsSameMark was now
  pub permitted : IsTrue now.permitted
      ↔ (IsTrue was.permitted × IsPermitted was.label.now context script after)

-- the text of the message to which the steps lead, and each label marked by whether they are
-- permitted; or the first step that isn't applicable
abbrev pub SaysWalked : MessageContext → List Rewrite → List Mark → List Mark → Walked → Type 0
SaysWalked context script was now (To text) = (after : Message)
    × Spells (answers_head context.related) after text × Steps Step context script after
    × AllZip (IsMarkedAfter context script after) was now
SaysWalked context script was now (Stopped index) =
    IsStoppedAt context script index × AllZip IsSameMark was now

-- so many labels are marked by whether their signatures permit the step too; the others are as
-- before
pub record AreMarkedSoFar (context : MessageContext) (step : Rewrite) (was now : List Mark)
    (count : ℕ) : Type 0 where
  pub marked : AllZip (IsMarkedBy context step) (take count was) (take count now)
  pub others : drop count now ≡ drop count was
