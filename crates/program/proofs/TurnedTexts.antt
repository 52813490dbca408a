-- What `lists` comes to once its input was read, and what it keeps.
use Rattle.std.proofs.Common.{◌≡◌, ◌<◌, ◌≤◌, inl, inr, ℕ, Bool, true, false, List, length, Option, None, refl, sym, ap, subst, arith, ◌∙◌}
use Rattle.command_line.specs.Command.{CommandLine, Lists}
use Rattle.command_line.proofs.CommandLaws.{one_command}
use Rattle.component_ids.specs.declared.scheme.Scheme.{Scheme}
use Rattle.component_values.specs.Context.{MessageContext}
use Rattle.conf.specs.Configuration.{Configuration}
use Rattle.field_lists.specs.FromMessages.{TurnsIntoList}
use Rattle.list_texts.specs.declared.list.FieldList.{FieldList}
use Rattle.msg_body.specs.Messages.{Message as MessageValue}
use Rattle.msg_body.specs.WholeTexts.{reading_for}
use Rattle.verdicts.specs.Contexts.{context_for}
use Rattle.intake.specs.Configured.{IsConfigured}
use Rattle.intake.specs.Files.{Found, Conf as ConfFile}
use Rattle.commands.specs.Lists.{IsListRefused, ReportsIntoFields, ReportsIntoMessage, ReportsMessageOf}
use Rattle.intake.specs.Messages.{IsInputMessage}
use Rattle.commands.specs.declared.outcome.Outcome.{Outcome}
use Rattle.commands.specs.declared.outcome.Outcome.TheVariants.{Done, Refused}
use Rattle.intake.specs.declared.tables.Needs.TheVariants.{Nothing}
use Rattle.refusals.specs.declared.file.FileRefusal.{FileRefusal}
use Rattle.refusals.specs.declared.file.FileRefusal.TheVariants.{Missing, TooLong, Message, Conf as NoConf, Script as NoScript, Recording, Order, TooManyHops, OutOfPlace, TooManyItems, Fields}
use Rattle.refusals.specs.declared.refusal.Refusal.{Refusal}
use Rattle.refusals.specs.declared.refusal.Refusal.TheVariants.{Of}
use Rattle.refusals.specs.declared.refusal.TheConstants.{MAX_INPUT_BYTES}
use Rattle.refusals.specs.declared.role.Role.TheVariants.{Input}
use Rattle.program.specs.Intake.{IsIntake, TakenValues}
use Rattle.program.specs.Laws.{IsSameList, IsSameMessage, IsSameTurned, IsSameWhereTurned}
use Rattle.program.specs.Report.{ReportsCommand, ReportsTurned}
use Rattle.program.specs.tools.Parts.{IsAfterText, IsOwn, conf_names, too_long}
use Rattle.program.proofs.CommandLaws.{has_same_in_list, has_same_in_message, whole_message}

pub list_longer : (conf : Configuration) (text : List ℕ) → MAX_INPUT_BYTES < length text → ReportsIntoMessage conf text (too_long MAX_INPUT_BYTES)
list_longer conf text long = inr (TooLong MAX_INPUT_BYTES, (refl, long), refl)

-- ---- once all was read

refused_after : (input : List ℕ) (cause : FileRefusal) → length input ≤ MAX_INPUT_BYTES → IsListRefused input cause → IsAfterText (Refused (Of Input cause))
refused_after input Missing short is = tt
refused_after input (Message f) short is = tt
refused_after input (NoConf f) short is = tt
refused_after input (NoScript f) short is = tt
refused_after input (Recording f) short is = tt
refused_after input (Order n) short is = tt
refused_after input (TooManyHops n) short is = tt
refused_after input (OutOfPlace n) short is = tt
refused_after input (TooManyItems n) short is = tt
refused_after input (Fields f) short is = tt
refused_after input (TooLong n) short is = absurd (omega (arith, short, is.1))

message_after : (scheme : Scheme) (list : FieldList) (outcome : Outcome) → ReportsMessageOf scheme list outcome → IsAfterText outcome
message_after scheme list outcome (inl turned) = subst IsAfterText (sym turned.2) tt
message_after scheme list outcome (inr cause) = subst IsAfterText (sym cause.2) tt

pub turned_after : (conf : Configuration) (input : List ℕ) (outcome : Outcome) → length input ≤ MAX_INPUT_BYTES → ReportsIntoMessage conf input outcome → IsAfterText outcome
turned_after conf input outcome short (inr cause) = subst IsAfterText (sym cause.2) (refused_after input cause.0 short cause.1)
turned_after conf input outcome short (inl (list, is, reports)) = message_after conf.scheme list outcome reports

pub own_of_list : (context : MessageContext) (outcome : Outcome) → ReportsIntoFields context outcome → IsOwn outcome
own_of_list context outcome (inl turned) = subst IsOwn (sym turned.2) tt
own_of_list context outcome (inr cause) = subst IsOwn (sym cause.2) tt

-- ---- what it keeps

done_is : (written text : List ℕ) → Done written ≡ Done text → written ≡ text
done_is written text same = cc same

not_done : (written : List ℕ) (refusal : Refusal) → Done written ≡ Refused refusal → ⊥
not_done written refusal same = cc same

same_message : (conf : Configuration) (input written : List ℕ) → ReportsIntoMessage conf input (Done written) → IsSameMessage conf input written
same_message conf input written (inr cause) = absurd (not_done written _ cause.2)
same_message conf input written (inl (list, is, inr cause)) = absurd (not_done written _ cause.2)
same_message conf input written (inl (list, is, inl (message, turned, same))) =
    let whole = whole_message list conf.scheme message is.spells.within.content turned in
    record {
      list = list;
      listed = is;
      message = message;
      whole = whole.0;
      written_is = done_is written _ same;
      content = whole.1;
      same = λ id result. has_same_in_message list conf.scheme message conf.types id result turned;
    }

same_list : (name : Option (List ℕ)) (found : Found) (input written : List ℕ) (taken : TakenValues) → IsIntake Nothing (conf_names name) found input taken
    → ReportsIntoFields taken.context (Done written) → IsConfigured name (found ConfFile) taken.conf × IsSameList taken.conf input written
same_list name found input written taken is (inr cause) = absurd (not_done written _ cause.2)
same_list name found input written taken is (inl (list, turned, same)) =
    let related : taken.context.related ≡ None = is.requested in
    let context : taken.context ≡ context_for taken.conf taken.context.message None =
    is.context_is ∙ ap (λ (r : Option MessageValue). context_for taken.conf taken.context.message r) related in (
      is.conf.configured,
      record {
        message = taken.context.message;
        is = subst (λ (r : Option MessageValue). IsInputMessage (reading_for r) input taken.context.message) related is.is;
        list = list;
        written_is = done_is written _ same;
        same = λ id result. has_same_in_list (context_for taken.conf taken.context.message None) list id result (subst (λ (x : MessageContext). TurnsIntoList x list) context turned);
      },
    )

same_turned : (into_message : Bool) (name : Option (List ℕ)) (found : Found) (input written : List ℕ) → ReportsTurned into_message (conf_names name) found input (Done written)
    → (conf : Configuration) × IsConfigured name (found ConfFile) conf × IsSameTurned into_message conf input written
same_turned true name found input written (inr cause) = absurd (not_done written _ cause.2)
same_turned true name found input written (inl (conf, configured, reports)) = (conf, configured, same_message conf input written reports)
same_turned false name found input written (inr cause) = absurd (not_done written _ cause.2)
same_turned false name found input written (inl (taken, is, reports)) =
    let same = same_list name found input written taken is reports in
    (taken.conf, same.0, same.1)

pub same_where_turned : IsSameWhereTurned
same_where_turned arguments words found input written spells (inr cause) = absurd (not_done written _ cause.2)
same_where_turned arguments words found input written spells (inl (command, also, reports)) =
    same_turned words.into_message words.conf found input written (subst (λ (c : CommandLine). ReportsCommand c found input (Done written)) (one_command arguments command (Lists words) also spells) reports)
