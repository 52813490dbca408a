-- Arguments, files and an input have one outcome.
use Rattle.std.proofs.Common.{◌≡◌, Bool, true, false, List, ℕ, Option, Some, None, refl, sym, ◌∙◌}
use Rattle.std.specs.Prelude.{⊤, IsSomeAnd}
use Rattle.command_line.specs.Command.{CommandLine, Help, HelpOf, Version, Base, Verify, Sign, Rewrite, Explain, Audit, Gateway, Lists, Negotiate, Sample, IsCommand, NoCommand}
use Rattle.command_line.proofs.CommandLaws.{one_command}
use Rattle.component_values.specs.Context.{MessageContext}
use Rattle.msg_body.specs.Messages.{Message}
use Rattle.component_ids.specs.declared.params.SigParams.{SigParams}
use Rattle.commands.specs.Base.{ReportsValues, ReportsBase}
use Rattle.commands.specs.Explain.{ReportsExplanation}
use Rattle.intake.specs.Files.{FileNames, Found, Conf as ConfFile}
use Rattle.intake.specs.Layers.{IsDecisive}
use Rattle.commands.specs.Lists.{ReportsIntoFields}
use Rattle.commands.specs.Negotiate.{ReportsNegotiation}
use Rattle.commands.specs.Rewrite.{ReportsRewriting}
use Rattle.commands.specs.Sign.{ReportsSigning}
use Rattle.intake.specs.Tables.{HasTables}
use Rattle.commands.specs.Verify.{ReportsVerdicts}
use Rattle.intake.specs.declared.tables.Needs.{Needs}
use Rattle.intake.specs.declared.tables.Needs.TheVariants.{Nothing, SignTable}
use Rattle.program.specs.Laws.{HasOneReport}
use Rattle.program.specs.Commands.{name_of}
use Rattle.program.specs.Intake.{TakenValues}
use Rattle.program.specs.Report.{Answers, ReportsCommand, ReportsFiles, ReportsTurned}
use Rattle.program.proofs.CommandLaws.{auditing_law, conf_decided, explaining_law, into_fields_law, into_message_law, negotiation_law, params_decided, rewriting_law, sampling_law, signing_law, values_decided, verdicts_law}
use Rattle.program.proofs.IntakeLaws.{intake_decided}
use Rattle.program.proofs.Layers.{HasOne, one_of_layers}

one_cause : (arguments : List (List ℕ)) (c d : ⊤) → NoCommand arguments → NoCommand arguments → c ≡ d
one_cause arguments c d a b = refl

arguments_decided : (arguments : List (List ℕ)) → IsDecisive (IsCommand arguments) (λ (_ : ⊤). NoCommand arguments)
arguments_decided arguments = record {
  value = one_command arguments;
  cause = one_cause arguments;
  either = λ command c is none. none command is;
}

one_of_values : (context : MessageContext) (sig : SigParams) → HasOne (ReportsValues context sig)
one_of_values context sig = one_of_layers _ _ _ _ (values_decided context sig.ids) (λ values _ one other a b. a ∙ sym b)

one_of_base : (params : List ℕ) (context : MessageContext) → HasOne (ReportsBase params context)
one_of_base params context = one_of_layers _ _ _ _ (params_decided params) (λ sig _. one_of_values context sig)

one_of_files : (needs : Needs) (Then : Answers) → ((taken : TakenValues) → HasTables needs taken.conf → HasOne (Then taken)) → (names : FileNames) (found : Found) (input : List ℕ)
    → HasOne (ReportsFiles needs Then names found input)
one_of_files needs Then one names found input = one_of_layers _ _ _ _ (intake_decided needs names found input) (λ taken is. one taken is.conf.tables)

one_of_explanation : (label : List ℕ) (also : Option Message) (context : MessageContext) → HasOne (λ outcome. IsSomeAnd also (λ other. ReportsExplanation label other context outcome))
one_of_explanation label None context one other a b = absurd a
one_of_explanation label (Some also) context one other a b = explaining_law label also context one other a b

one_of_turned : (into_message : Bool) (names : FileNames) (found : Found) (input : List ℕ) → HasOne (ReportsTurned into_message names found input)
one_of_turned true names found input = one_of_layers _ _ _ _ (conf_decided (names ConfFile) (found ConfFile)) (λ conf _. into_message_law conf input)
one_of_turned false names found input = one_of_files Nothing (λ taken. ReportsIntoFields taken.context) (λ taken _. into_fields_law taken.context) names found input

one_of_command : (command : CommandLine) (found : Found) (input : List ℕ) → HasOne (ReportsCommand command found input)
one_of_command Help found input = λ one other a b. a ∙ sym b
one_of_command (HelpOf command) found input = λ one other a b. a ∙ sym b
one_of_command Version found input = λ one other a b. a ∙ sym b
one_of_command (Base words) found input =
    one_of_files Nothing (λ taken. ReportsBase words.params taken.context) (λ taken _. one_of_base words.params taken.context) (name_of (Base words)) found input
one_of_command (Verify words) found input =
    one_of_files Nothing (λ taken. ReportsVerdicts words.label words.now taken.conf taken.context) (λ taken _. verdicts_law words.label words.now taken.conf taken.context) (name_of (Verify words)) found input
one_of_command (Sign words) found input =
    one_of_files SignTable (λ taken. ReportsSigning words.nonce words.now taken.conf taken.wishes taken.context)
    (λ taken has one other a b. signing_law words.nonce words.now taken.conf taken.wishes taken.context one other has a b) (name_of (Sign words)) found input
one_of_command (Rewrite words) found input =
    one_of_files Nothing (λ taken. ReportsRewriting words.label taken.script taken.context) (λ taken _. rewriting_law words.label taken.script taken.context) (name_of (Rewrite words)) found input
one_of_command (Explain words) found input =
    one_of_files Nothing (λ taken outcome. IsSomeAnd taken.other (λ other. ReportsExplanation words.label other taken.context outcome))
    (λ taken _. one_of_explanation words.label taken.other taken.context) (name_of (Explain words)) found input
one_of_command (Audit words) found input = one_of_layers _ _ _ _ (conf_decided (Some words.conf) (found ConfFile)) (λ conf _. auditing_law conf input)
one_of_command (Gateway words) found input = λ one other a b. absurd a
one_of_command (Lists words) found input = one_of_turned words.into_message (name_of (Lists words)) found input
one_of_command (Negotiate words) found input =
    one_of_files SignTable (λ taken. ReportsNegotiation words.now taken.conf taken.context)
    (λ taken has one other a b. negotiation_law words.now taken.conf taken.context one other has a b) (name_of (Negotiate words)) found input
one_of_command (Sample words) found input = sampling_law words.seed words.count

pub one_report_law : HasOneReport
one_report_law arguments found input = one_of_layers _ _ _ _ (arguments_decided arguments) (λ command _. one_of_command command found input)
