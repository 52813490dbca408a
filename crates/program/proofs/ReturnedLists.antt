-- What `lists` makes of a list comes back as that list.
use Rattle.std.proofs.Common.{◌≡◌, Bool, true, false, ℕ, List, Option, None, inl, inr, refl, ap, subst, ◌∙◌}
use Rattle.command_line.specs.Command.{CommandLine, Lists, ListsWords, IsCommand}
use Rattle.command_line.proofs.CommandLaws.{one_command}
use Rattle.component_ids.specs.Types.{KindMap}
use Rattle.component_ids.specs.declared.scheme.Scheme.{Scheme}
use Rattle.component_values.specs.Context.{MessageContext}
use Rattle.conf.specs.Configuration.{Configuration}
use Rattle.field_lists.specs.Laws.{HasAuthority, alone, normal_list}
use Rattle.field_lists.specs.ToCauses.{TurnsInto}
use Rattle.field_lists.proofs.BackLaws.{turns_back}
use Rattle.field_lists.proofs.FromLaws.{no_from_fault, one_list_of_message}
use Rattle.list_texts.specs.Lists.{list_text}
use Rattle.list_texts.specs.declared.list.FieldList.{FieldList}
use Rattle.msg_body.specs.Messages.{Message}
use Rattle.msg_body.specs.WholeTexts.{IsWhole, reading_for}
use Rattle.verdicts.specs.Contexts.{context_for}
use Rattle.intake.specs.Configured.{IsConfigured}
use Rattle.intake.specs.Files.{Found, Conf as ConfFile}
use Rattle.intake.specs.Messages.{IsInputMessage, IsInputRefused}
use Rattle.commands.specs.Lists.{IsListText, ReportsIntoFields, ReportsIntoMessage}
use Rattle.commands.specs.declared.outcome.Outcome.{Outcome}
use Rattle.commands.specs.declared.outcome.Outcome.TheVariants.{Done}
use Rattle.intake.specs.declared.tables.Needs.TheVariants.{Nothing}
use Rattle.refusals.specs.declared.refusal.Refusal.{Refusal}
use Rattle.refusals.specs.declared.refusal.Refusal.TheVariants.{Arguments, Of, Command}
use Rattle.refusals.specs.declared.role.Role.TheVariants.{Conf, Request, Wanted, Script, Other, Input, Item}
use Rattle.program.specs.Intake.{IsIntake, IsIntakeRefused, TakenValues}
use Rattle.program.specs.Laws.{HasComeBackWhereTurned}
use Rattle.program.specs.Report.{Reports, ReportsCommand, ReportsTurned}
use Rattle.program.specs.tools.Parts.{conf_names}
use Rattle.program.proofs.CommandLaws.{conf_decided, whole_message}
use Rattle.program.proofs.IntakeLaws.{conf_not}
use Rattle.program.proofs.SignedInputs.{not_refused, read_as, short_of}

-- the command is the one that was asked for
lists_parts : (arguments : List (List ℕ)) (words : ListsWords) (found : Found) (input : List ℕ) (outcome : Outcome) → IsCommand arguments (Lists words) → Reports arguments found input outcome
    → ReportsTurned words.into_message (conf_names words.conf) found input outcome
lists_parts arguments words found input outcome is (inr cause) = absurd (cause.1 (Lists words) is)
lists_parts arguments words found input outcome is (inl (command, spells, reports)) =
    subst (λ (c : CommandLine). ReportsCommand c found input outcome) (one_command arguments command (Lists words) spells is) reports

-- ---- the list that was turned

-- the list of an input, and the message that was written
record IsTurned (scheme : Scheme) (input written : List ℕ) : Type 0 where
  list : FieldList
  listed : IsListText input list
  message : Message
  turned : TurnsInto list scheme message
  whole : IsWhole (reading_for None) written message

turned_parts : (conf : Configuration) (input written : List ℕ) → ReportsIntoMessage conf input (Done written) → IsTurned conf.scheme input written
turned_parts conf input written (inr cause) = absurd (cc cause.2)
turned_parts conf input written (inl (list, is, inr cause)) = absurd (cc cause.2)
turned_parts conf input written (inl (list, is, inl (message, turned, same))) = record {
  list = list;
  listed = is;
  message = message;
  turned = turned;
  whole = record {
    expected = refl;
    spells = record { is = (whole_message list conf.scheme message is.spells.within.content turned).0; text = cc same };
  };
}

turned_by : (name : Option (List ℕ)) (found : Found) (input written : List ℕ) (conf : Configuration) → IsConfigured name (found ConfFile) conf → ReportsTurned true (conf_names name) found input (Done written)
    → IsTurned conf.scheme input written
turned_by name found input written conf configured (inr cause) = absurd (cc cause.2)
turned_by name found input written conf configured (inl (own, also, reports)) =
    subst (λ (c : Configuration). IsTurned c.scheme input written) ((conf_decided name (found ConfFile)).value own conf also configured) (turned_parts own input written reports)

-- ---- the message that is read again

module _ (name : Option (List ℕ)) (found : Found) (written : List ℕ) (message : Message) (whole : IsWhole (reading_for None) written message) (conf : Configuration)
    (configured : IsConfigured name (found ConfFile) conf) where
  none_refused : (refusal : Refusal) → IsIntakeRefused Nothing (conf_names name) found written refusal → ⊥
  none_refused Arguments un = un
  none_refused (Command r) un = un
  none_refused (Of (Item i) r) un = un
  none_refused (Of Conf r) un = conf_not Nothing name (found ConfFile) r (conf, record { configured = configured; tables = tt }) un
  none_refused (Of Request r) un = un.1
  none_refused (Of Wanted r) un = un.1
  none_refused (Of Script r) un = un.1
  none_refused (Of Other r) un = un.1.refused
  none_refused (Of Input r) un =
      let related : un.1.related ≡ None = un.1.requested in
      not_refused (reading_for None) written message r (short_of false message written whole.spells) whole (subst (λ (o : Option Message). IsInputRefused (reading_for o) written r) related un.1.refused)

  taken_context : (taken : TakenValues) → IsIntake Nothing (conf_names name) found written taken → taken.context ≡ context_for conf message None
  taken_context taken is =
      let related : taken.context.related ≡ None = is.requested in
      let one : taken.context.message ≡ message = read_as (reading_for None) written message taken.context.message whole
      (subst (λ (r : Option Message). IsInputMessage (reading_for r) written taken.context.message) related is.is) in
      let own : taken.conf ≡ conf = (conf_decided name (found ConfFile)).value taken.conf conf is.conf.configured configured in
      let parts : context_for taken.conf taken.context.message taken.context.related ≡ context_for conf message None = λ i. context_for (own i) (one i) (related i) in
      is.context_is ∙ parts

  returned_by : (outcome : Outcome) → ReportsTurned false (conf_names name) found written outcome → ReportsIntoFields (context_for conf message None) outcome
  returned_by outcome (inr (refusal, un, same)) = absurd (none_refused refusal un)
  returned_by outcome (inl (taken, is, reports)) = subst (λ (c : MessageContext). ReportsIntoFields c outcome) (taken_context taken is) reports

-- ---- both

-- the message is turned back, where it has an authority
list_back : (list : FieldList) (scheme : Scheme) (message : Message) (types : KindMap) (outcome : Outcome) (turned : TurnsInto list scheme message) → ReportsIntoFields (alone message scheme types) outcome → HasAuthority turned.control
    → outcome ≡ Done (list_text (normal_list turned.control turned.others list))
list_back list scheme message types outcome turned (inl (own, into, same)) has =
    let normal = normal_list turned.control turned.others list in
    same ∙ ap (λ (l : FieldList). Done (list_text l)) (one_list_of_message (alone message scheme types) own normal into (turns_back list scheme message types turned has))
list_back list scheme message types outcome turned (inr (fault, is, same)) has =
    absurd (no_from_fault (alone message scheme types) (normal_list turned.control turned.others list) fault (turns_back list scheme message types turned has) is)

pub come_back_where_turned : HasComeBackWhereTurned
come_back_where_turned turning returning turned returned found other input written outcome is also both wrote reports =
    let first : ReportsTurned true (conf_names turned.conf) found input (Done written) =
    subst (λ (b : Bool). ReportsTurned b (conf_names turned.conf) found input (Done written)) both.into_message (lists_parts turning turned found input (Done written) is wrote) in
    let second : ReportsTurned false (conf_names returned.conf) other written outcome =
    subst (λ (b : Bool). ReportsTurned b (conf_names returned.conf) other written outcome) both.into_fields (lists_parts returning returned other written outcome also reports) in
    let parts = turned_by turned.conf found input written both.conf both.configured first in
    let again : ReportsIntoFields (context_for both.next parts.message None) outcome = returned_by returned.conf other written parts.message parts.whole both.next both.next_configured outcome second in
    let by_scheme : ReportsIntoFields (alone parts.message both.conf.scheme both.next.types) outcome =
    subst (λ (s : Scheme). ReportsIntoFields (alone parts.message s both.next.types) outcome) both.scheme again in
    record {
      list = parts.list;
      listed = parts.listed;
      message = parts.message;
      turned = parts.turned;
      back = list_back parts.list both.conf.scheme parts.message both.next.types outcome parts.turned by_scheme;
    }
