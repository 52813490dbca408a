-- The input that a source gives.
use Rattle.std.proofs.Common.{◌≡◌, ◌+◌, ◌<◌, ◌≤◌, inl, inr, ℕ, Bool, true, false, List, [], ◌∷◌, length, replicate, Option, Some, None, Result, Err, refl, sym, ap, ◌∙◌, subst, arith}
use Rattle.std.specs.Prelude.{IfSome}
use Rattle.std.specs.List.{list_all, slice_get}
use Rattle.std.proofs.lemmas.List.{drop_all, length-replicate}
use Rattle.hms_io.specs.Reading.{LosesPrefix, GivesAll}
use Rattle.hms_io.specs.declared.read_write.FillError.{FillError}
use Rattle.hms_io.specs.declared.read_write.FillError.TheVariants.{Memory as NoFillMemory, Failed, TooLong as Longer}
use Rattle.byte_grammar.proofs.Indices.{some_and_parts}
use Rattle.msg_body.specs.Messages.{Message, Spells}
use Rattle.component_ids.specs.declared.id.ComponentId.{ComponentId}
use Rattle.component_values.specs.Context.{MessageContext, answers_head, context_with}
use Rattle.conf.specs.Configuration.{Configuration}
use Rattle.verdicts.specs.declared.outcome.Verdict.{Verdict}
use Rattle.normal_forms.specs.declared.explanation.Explained.{Explained}
use Rattle.normal_forms.specs.declared.explanation.Explained.TheVariants.{Same as SameForms, Differs}
use Rattle.commands.specs.Explain.{ReportsExplanation, WritesExplained, differing_text}
use Rattle.intake.specs.Messages.{IsInputMessage, IsInputRefused}
use Rattle.msg_body.specs.WholeTexts.{reading_for}
use Rattle.commands.specs.Negotiate.{ReportsNegotiation}
use Rattle.commands.specs.Rewrite.{ReportsSteps, ReportsRewriting}
use Rattle.commands.specs.Sign.{ReportsEach, ReportsSigning}
use Rattle.rewrite_script.specs.declared.rewrite.Rewrite.{Rewrite}
use Rattle.signing.specs.declared.spec.SignSpec.{SignSpec}
use Rattle.commands.specs.Base.{ReportsBase}
use Rattle.commands.specs.Verify.{verdicts_outcome, ReportsVerdicts}
use Rattle.verdicts.specs.Verdicts.{is_accepted}
use Rattle.msg_body.specs.declared.whole.Reading.{Reading}
use Rattle.program.specs.Commands.{Whole, LosesAtMost}
use Rattle.program.specs.Ends.{HasInput, Leaves}
use Rattle.program.specs.Report.{Answers}
use Rattle.program.specs.tools.Parts.{FileValues, IsAfterInput, IsOwn, ReportsMessage}
use Rattle.refusals.specs.declared.refusal.Refusal.{Refusal}
use Rattle.refusals.specs.declared.refusal.TheConstants.{MAX_INPUT_BYTES}
use Rattle.refusals.specs.declared.refusal.Refusal.TheVariants.{Arguments, Of, Command}
use Rattle.refusals.specs.declared.role.Role.TheVariants.{Conf, Request, Wanted, Script, Other, Input, Item}
use Rattle.refusals.specs.declared.file.FileRefusal.{FileRefusal}
use Rattle.refusals.specs.declared.file.FileRefusal.TheVariants.{Missing, TooLong, Message as NoMessage, Conf as NoConf, Script as NoScript, Recording as NoRecording, Order, TooManyHops, OutOfPlace, TooManyItems, Fields}
use Rattle.commands.specs.declared.outcome.Outcome.{Outcome}
use Rattle.commands.specs.declared.outcome.Outcome.TheVariants.{Done, NotOk, Refused}
use Rattle.intake.specs.declared.stop.Stop.{Stop}
use Rattle.intake.specs.declared.stop.Stop.TheVariants.{Memory, ReadFault, Refused as IsRefused}
use Rattle.intake.specs.Stops.{IfRefused, IsRefusalFor, stop_of_fill}
use Rattle.commands.specs.Outcome.{IfOutcome}
use Rattle.program.proofs.Layers.{both, went_on}

-- some input, the known bytes where they are known, that is longer than n
pub longer : (n : ℕ) (before now : Option (List ℕ)) → LosesPrefix before now (n + 1)
    → (input : List ℕ) × IfSome before (λ bytes. bytes ≡ input) × (n < length input)
longer n None now lost = (replicate (n + 1) 0, tt, rw (length-replicate {A = ℕ} (n + 1) 0) (omega arith))
longer n (Some all) now lost = (all, refl, omega (arith, lost.0))

-- what is left once it was read to the end, or past the limit
abbrev pub LeavesInput : Type 0 → Option (List ℕ) → Option (List ℕ) → Outcome → Type 0
LeavesInput = Leaves (Whole MAX_INPUT_BYTES)

-- why it isn't read whole
pub fill_stop : (Then : Answers) (files : FileValues) (other : Option Message) (Same : Type 0) (before now : Option (List ℕ)) (error : FillError)
    → (error ≡ Longer → LosesPrefix before now (MAX_INPUT_BYTES + 1))
    → IfOutcome (Err (stop_of_fill MAX_INPUT_BYTES error)) (HasInput (ReportsMessage Then files other) (LeavesInput Same before now) before)
fill_stop Then files other Same before now NoFillMemory lost = tt
fill_stop Then files other Same before now Failed lost = tt
fill_stop Then files other Same before now Longer lost =
    let input = longer MAX_INPUT_BYTES before now (lost refl) in
    record { input = input.0; known = input.1; reports = inr (TooLong MAX_INPUT_BYTES, (refl, input.2), refl); leaves = lost refl }

-- ---- an input that was read whole

pub known_input : (before now : Option (List ℕ)) (input : List ℕ) → GivesAll before now input → IfSome before (λ bytes. bytes ≡ input)
known_input None now input all = tt
known_input (Some bytes) now input all = sym all.0

pub nothing_left : (before now : Option (List ℕ)) (input : List ℕ) → GivesAll before now input → IfSome before (λ _. now ≡ Some [])
nothing_left None now input all = tt
nothing_left (Some bytes) now input all = all.1

after_input : (Same : Type 0) (before now : Option (List ℕ)) → IfSome before (λ _. now ≡ Some []) → (outcome : Outcome) → IsAfterInput outcome → LeavesInput Same before now outcome
after_input Same before now none (Done text) after = none
after_input Same before now none (NotOk text) after = none
after_input Same before now none (Refused Arguments) after = absurd after
after_input Same before now none (Refused (Of Conf r)) after = absurd after
after_input Same before now none (Refused (Of Request r)) after = absurd after
after_input Same before now none (Refused (Of Wanted r)) after = absurd after
after_input Same before now none (Refused (Of Script r)) after = absurd after
after_input Same before now none (Refused (Of Other r)) after = absurd after
after_input Same before now none (Refused (Of Input Missing)) after = absurd after
after_input Same before now none (Refused (Of Input (TooLong n))) after = absurd after
after_input Same before now none (Refused (Of Input (NoMessage f))) after = none
after_input Same before now none (Refused (Of Input (NoConf f))) after = absurd after
after_input Same before now none (Refused (Of Input (NoScript f))) after = absurd after
after_input Same before now none (Refused (Of Input (NoRecording f))) after = absurd after
after_input Same before now none (Refused (Of Input (Order n))) after = absurd after
after_input Same before now none (Refused (Of Input (TooManyHops n))) after = absurd after
after_input Same before now none (Refused (Of Input (OutOfPlace n))) after = absurd after
after_input Same before now none (Refused (Of Input (TooManyItems n))) after = absurd after
after_input Same before now none (Refused (Of Input (Fields f))) after = absurd after
after_input Same before now none (Refused (Of (Item n) r)) after = absurd after
after_input Same before now none (Refused (Command r)) after = none

pub input_outcome : (Then : Answers) (files : FileValues) (other : Option Message) (Same : Type 0) (input read : List ℕ) (before now : Option (List ℕ)) → read ≡ input → GivesAll before now input
    → (result : Result Outcome Stop) → IfOutcome result (ReportsMessage Then files other read) → IfOutcome result IsAfterInput
    → IfOutcome result (HasInput (ReportsMessage Then files other) (LeavesInput Same before now) before)
input_outcome Then files other Same input read before now same all result reported after =
    went_on (λ outcome facts. record {
      input = input;
      known = known_input before now input all;
      reports = subst (λ (bytes : List ℕ). ReportsMessage Then files other bytes outcome) same facts.0;
      leaves = after_input Same before now (nothing_left before now input all) outcome facts.1;
    }) result (both (ReportsMessage Then files other read) IsAfterInput result reported after)

-- what is gone once it was read to its end
pub all_gone : (limit : ℕ) (before now : Option (List ℕ)) (input : List ℕ) → GivesAll before now input → length input ≤ limit → LosesAtMost (limit + 1) before now
all_gone limit None now input all short = (0, omega arith, tt)
all_gone limit (Some bytes) now input all short =
    let within : length input ≤ length bytes = omega (arith, ap length all.0) in
    let whole : length bytes ≤ length input = omega (arith, ap length all.0) in
    (length input, omega (arith, short), (within, all.1 ∙ ap (λ (l : List ℕ). Some l) (sym (drop_all (length input) bytes whole))))

-- nothing is gone
pub none_gone : (most : ℕ) (before now : Option (List ℕ)) → now ≡ before → LosesAtMost most before now
none_gone most None now same = (0, omega arith, tt)
none_gone most (Some bytes) now same = (0, omega arith, (omega arith, same))

-- ---- what comes once all was read

after_cause : (reading : Reading) (input : List ℕ) (cause : FileRefusal) → length input ≤ MAX_INPUT_BYTES → IsInputRefused reading input cause → IsAfterInput (Refused (Of Input cause))
after_cause reading input Missing short is = absurd is
after_cause reading input (NoConf f) short is = absurd is
after_cause reading input (NoScript f) short is = absurd is
after_cause reading input (NoRecording f) short is = absurd is
after_cause reading input (Order n) short is = absurd is
after_cause reading input (TooManyHops n) short is = absurd is
after_cause reading input (OutOfPlace n) short is = absurd is
after_cause reading input (TooManyItems n) short is = absurd is
after_cause reading input (Fields f) short is = absurd is
after_cause reading input (TooLong n) short is = absurd (omega (arith, short, is.1))
after_cause reading input (NoMessage f) short is = tt

pub after_refusal : (reading : Reading) (input : List ℕ) (stop : Stop) → length input ≤ MAX_INPUT_BYTES
    → IfRefused stop (IsRefusalFor (IsInputRefused reading input) (λ refusal. Of Input refusal)) → IfOutcome (Err stop) IsAfterInput
after_refusal reading input Memory short is = tt
after_refusal reading input ReadFault short is = tt
after_refusal reading input (IsRefused refusal) short is =
    subst (λ (r : Refusal). IsAfterInput (Refused r)) (sym is.2) (after_cause reading input is.0 short is.1)

own_after : (outcome : Outcome) → IsOwn outcome → IsAfterInput outcome
own_after (Done text) own = tt
own_after (NotOk text) own = tt
own_after (Refused Arguments) own = absurd own
own_after (Refused (Of role r)) own = absurd own
own_after (Refused (Command r)) own = tt

pub after_answer : (result : Result Outcome Stop) → IfOutcome result IsOwn → IfOutcome result IsAfterInput
after_answer result own = went_on own_after result own

-- ---- what is the command's own

pub own_of_base : (params : List ℕ) (context : MessageContext) (outcome : Outcome) → ReportsBase params context outcome → IsOwn outcome
own_of_base params context outcome (inl sig) = elim sig.2 [
  | inl values ↦ subst IsOwn (sym values.2) tt
  | inr cause ↦ subst IsOwn (sym cause.2) tt
]
own_of_base params context outcome (inr cause) = subst IsOwn (sym cause.2) tt

own_lines : (labels : List (List ℕ)) (verdicts : List Verdict) (accepted : Bool) → list_all is_accepted verdicts ≡ accepted → IsOwn (verdicts_outcome labels verdicts)
own_lines labels verdicts true is = rw is tt
own_lines labels verdicts false is = rw is tt

pub own_of_verdicts : (label : Option (List ℕ)) (now : ℕ) (conf : Configuration) (context : MessageContext) (outcome : Outcome) → ReportsVerdicts label now conf context outcome → IsOwn outcome
own_of_verdicts label now conf context outcome reports =
    subst IsOwn (sym reports.outcome_is) (own_lines reports.labels reports.verdicts (list_all is_accepted reports.verdicts) refl)

own_of_each : (specs : List SignSpec) (context : MessageContext) (outcome : Outcome) → ReportsEach context specs outcome → IsOwn outcome
own_of_each [] context outcome is = subst IsOwn (sym is) tt
own_of_each (spec ∷ specs) context outcome (inl made) = own_of_each specs (context_with context made.0) outcome made.2
own_of_each (spec ∷ specs) context outcome (inr cause) = subst IsOwn (sym cause.2) tt

pub own_of_signing : (nonce : Option (List ℕ)) (moment : ℕ) (conf : Configuration) (wishes : Option Message) (context : MessageContext) (outcome : Outcome)
    → ReportsSigning nonce moment conf wishes context outcome → IsOwn outcome
own_of_signing text moment conf None context outcome is = own_of_each (is.spec ∷ []) context outcome is.reports
own_of_signing text moment conf (Some wishes) context outcome (inl specs) = own_of_each specs.0 context outcome specs.2
own_of_signing text moment conf (Some wishes) context outcome (inr cause) = subst IsOwn (sym cause.2) tt

pub own_of_negotiation : (moment : ℕ) (conf : Configuration) (context : MessageContext) (outcome : Outcome) → ReportsNegotiation moment conf context outcome → IsOwn outcome
own_of_negotiation moment conf context outcome (inl made) = subst IsOwn (sym made.2) tt
own_of_negotiation moment conf context outcome (inr cause) = subst IsOwn (sym cause.2) tt

own_of_steps : (script : List Rewrite) (label : Option (List ℕ)) (index : ℕ) (context : MessageContext) (outcome : Outcome) → ReportsSteps label index context script outcome → IsOwn outcome
own_of_steps [] label index context outcome is = subst IsOwn (sym is) tt
own_of_steps (step ∷ script) label index context outcome (inl taken) = own_of_steps script label (index + 1) (context_with context taken.0) outcome taken.2
own_of_steps (step ∷ script) label index context outcome (inr cause) = subst IsOwn (sym cause.2) tt

pub own_of_rewriting : (label : Option (List ℕ)) (script : List Rewrite) (context : MessageContext) (outcome : Outcome) → ReportsRewriting label script context outcome → IsOwn outcome
own_of_rewriting label script context outcome is = own_of_steps script label 0 context outcome is

own_of_written : (message : Message) (label : List ℕ) (explained : Explained) (outcome : Outcome) → WritesExplained message label explained outcome → IsOwn outcome
own_of_written message label (SameForms first second) outcome is = subst IsOwn (sym is) tt
own_of_written message label (Differs index) outcome is =
    let id = some_and_parts (λ (i : ComponentId). outcome ≡ NotOk (differing_text i)) (slice_get is.params.ids index) is.there in
    subst IsOwn (sym id.2) tt

pub own_of_explanation : (label : List ℕ) (also : Message) (context : MessageContext) (outcome : Outcome) → ReportsExplanation label also context outcome → IsOwn outcome
own_of_explanation label also context outcome (inl made) = own_of_written context.message label made.0 outcome made.2
own_of_explanation label also context outcome (inr cause) = subst IsOwn (sym cause.2) tt

-- an input is the text of the context's message
pub spelled_input : (related : Option Message) (input : List ℕ) (message : Message) → IsInputMessage (reading_for related) input message → Spells (answers_head related) message input
spelled_input None input message is = is.whole.spells
spelled_input (Some request) input message is = is.whole.spells
