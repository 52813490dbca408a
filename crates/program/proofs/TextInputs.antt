-- A text that a source gives, and what a command over it comes to.
use Rattle.std.proofs.Common.{◌≡◌, ◌+◌, ◌<◌, inl, inr, ℕ, List, [], length, Option, Some, None, Result, Ok, Err, refl, sym, ap, subst}
use Rattle.std.specs.Prelude.{IfSome}
use Rattle.hms_io.specs.Files.{FileMap}
use Rattle.hms_io.specs.Reading.{LosesPrefix, GivesAll}
use Rattle.hms_io.specs.declared.read_write.FillError.{FillError}
use Rattle.hms_io.specs.declared.read_write.FillError.TheVariants.{Memory as NoFillMemory, Failed, TooLong as Longer}
use Rattle.conf.specs.Configuration.{Configuration}
use Rattle.intake.specs.Configured.{IsConfigured, IsConfRefused}
use Rattle.intake.specs.Files.{AreFound, HasFound, file_names}
use Rattle.intake.specs.Stops.{CountsStop, IfStopped, IsRefusalFor, stop_of_fill}
use Rattle.commands.specs.Outcome.{IfOutcome}
use Rattle.commands.specs.declared.outcome.Outcome.{Outcome}
use Rattle.commands.specs.declared.outcome.Outcome.TheVariants.{Done, NotOk, Refused}
use Rattle.intake.specs.declared.stop.Stop.{Stop}
use Rattle.intake.specs.declared.stop.Stop.TheVariants.{Memory, ReadFault, Refused as IsRefused}
use Rattle.refusals.specs.declared.file.FileRefusal.TheVariants.{Missing, TooLong, Message, Conf as NoConf, Script as NoScript, Recording, Order, TooManyHops, OutOfPlace, TooManyItems, Fields}
use Rattle.refusals.specs.declared.refusal.Refusal.{Refusal}
use Rattle.refusals.specs.declared.refusal.Refusal.TheVariants.{Arguments, Of, Command}
use Rattle.refusals.specs.declared.role.Role.TheVariants.{Conf, Request, Wanted, Script, Other, Input, Item}
use Rattle.program.specs.Commands.{Whole}
use Rattle.program.specs.Ends.{HasInput, HasOutcome, Leaves}
use Rattle.program.specs.Report.{ReportsConfigured}
use Rattle.program.specs.tools.Parts.{CountsOne, IsAfterText, conf_names, too_long}
use Rattle.program.proofs.Layers.{both, went_on}
use Rattle.program.proofs.Reports.{conf_found, some_input}
use Rattle.program.proofs.Sources.{known_input, longer, nothing_left}

-- what a command comes to over a text
abbrev pub TextAnswers : Type 1
TextAnswers = List ℕ → Outcome → Type 0

-- why it isn't read whole
pub text_unread : (Reports : TextAnswers) (limit : ℕ) → ((text : List ℕ) → limit < length text → Reports text (too_long limit))
    → (Same : Type 0) (before now : Option (List ℕ)) (error : FillError) → (error ≡ Longer → LosesPrefix before now (limit + 1))
    → IfOutcome (Err (stop_of_fill limit error)) (HasInput Reports (Leaves (Whole limit) Same before now) before)
text_unread Reports limit refused Same before now NoFillMemory lost = tt
text_unread Reports limit refused Same before now Failed lost = tt
text_unread Reports limit refused Same before now Longer lost =
    let input = longer limit before now (lost refl) in
    record { input = input.0; known = input.1; reports = refused input.0 input.2; leaves = lost refl }

-- ---- one that was read whole

after_leaves : (limit : ℕ) (Same : Type 0) (before now : Option (List ℕ)) → IfSome before (λ _. now ≡ Some []) → (outcome : Outcome) → IsAfterText outcome → Leaves (Whole limit) Same before now outcome
after_leaves limit Same before now none (Done text) after = none
after_leaves limit Same before now none (NotOk text) after = none
after_leaves limit Same before now none (Refused Arguments) after = absurd after
after_leaves limit Same before now none (Refused (Of Conf r)) after = absurd after
after_leaves limit Same before now none (Refused (Of Request r)) after = absurd after
after_leaves limit Same before now none (Refused (Of Wanted r)) after = absurd after
after_leaves limit Same before now none (Refused (Of Script r)) after = absurd after
after_leaves limit Same before now none (Refused (Of Other r)) after = absurd after
after_leaves limit Same before now none (Refused (Of Input Missing)) after = none
after_leaves limit Same before now none (Refused (Of Input (TooLong n))) after = absurd after
after_leaves limit Same before now none (Refused (Of Input (Message f))) after = none
after_leaves limit Same before now none (Refused (Of Input (NoConf f))) after = none
after_leaves limit Same before now none (Refused (Of Input (NoScript f))) after = none
after_leaves limit Same before now none (Refused (Of Input (Recording f))) after = none
after_leaves limit Same before now none (Refused (Of Input (Order n))) after = none
after_leaves limit Same before now none (Refused (Of Input (TooManyHops n))) after = none
after_leaves limit Same before now none (Refused (Of Input (OutOfPlace n))) after = none
after_leaves limit Same before now none (Refused (Of Input (TooManyItems n))) after = none
after_leaves limit Same before now none (Refused (Of Input (Fields f))) after = none
after_leaves limit Same before now none (Refused (Of (Item n) r)) after = none
after_leaves limit Same before now none (Refused (Command r)) after = none

pub text_outcome : (Reports : TextAnswers) (limit : ℕ) (Same : Type 0) (input read : List ℕ) (before now : Option (List ℕ)) → read ≡ input → GivesAll before now input
    → (result : Result Outcome Stop) → IfOutcome result (Reports read) → IfOutcome result IsAfterText → IfOutcome result (HasInput Reports (Leaves (Whole limit) Same before now) before)
text_outcome Reports limit Same input read before now same all result reported after =
    went_on (λ outcome facts. record {
      input = input;
      known = known_input before now input all;
      reports = subst (λ (bytes : List ℕ). Reports bytes outcome) same facts.0;
      leaves = after_leaves limit Same before now (nothing_left before now input all) outcome facts.1;
    }) result (both (Reports read) IsAfterText result reported after)

-- ---- the configuration

module _ (Reports : Configuration → TextAnswers) (limit : ℕ) (name : Option (List ℕ)) (shelf : Option FileMap) (Same : Type 0) (before now : Option (List ℕ)) where
  -- a run that comes to an outcome with the file of this name
  abbrev pub HasTextOutcome : Outcome → Type 0
  HasTextOutcome =
      HasOutcome (λ found input. ReportsConfigured (λ conf. Reports conf input) (conf_names name) found) (Leaves (Whole limit) Same before now) (AreFound shelf (conf_names name)) before

  -- a stop while it is read
  pub conf_stopped : (stop : Stop) → Same → IfStopped stop (λ refusal. HasFound shelf name (λ found. IsRefusalFor (IsConfRefused name found) (λ cause. Of Conf cause) refusal)) → IfOutcome (Err stop) HasTextOutcome
  conf_stopped Memory same has = tt
  conf_stopped ReadFault same has = tt
  conf_stopped (IsRefused refusal) same has =
      let input = some_input before in
      let cause = has.holds in
      record {
        found = file_names has.found None None None None;
        files = conf_found shelf name has.found has.known;
        holds = record {
          input = input.0;
          known = input.1;
          reports = inr (cause.0, cause.1, ap (λ (r : Refusal). Refused r) cause.2);
          leaves = subst (λ (r : Refusal). Leaves (Whole limit) Same before now (Refused r)) (sym cause.2) same;
        };
      }

  -- what comes after it
  pub conf_read : (conf : Configuration) (result : Result Outcome Stop) → HasFound shelf name (λ found. IsConfigured name found conf)
      → IfOutcome result (HasInput (Reports conf) (Leaves (Whole limit) Same before now) before) → IfOutcome result HasTextOutcome
  conf_read conf result has =
      went_on (λ outcome reported. record {
        found = file_names has.found None None None None;
        files = conf_found shelf name has.found has.known;
        holds = record {
          input = reported.input;
          known = reported.known;
          reports = inl (conf, has.holds, reported.reports);
          leaves = reported.leaves;
        };
      }) result

-- ---- the counts of faults

-- where the shelf's count is as it was, at most the source's rose
pub source_counts : (Same : Type 0) (shelf shelf_now source source_now : ℕ) (result : Result Outcome Stop) → shelf_now ≡ shelf → CountsStop source source_now result
    → CountsOne Same shelf shelf_now source source_now result
source_counts Same shelf shelf_now source source_now (Ok outcome) same counts = (same, counts)
source_counts Same shelf shelf_now source source_now (Err Memory) same counts = (same, counts)
source_counts Same shelf shelf_now source source_now (Err ReadFault) same counts = inr (same, counts)
source_counts Same shelf shelf_now source source_now (Err (IsRefused refusal)) same counts = (same, counts)
