-- What the program answers for its arguments, what was found in its files, and its input, and for
-- nothing else.
use Rattle.std.specs.Prelude.{⊤, ℕ, Bool, false, true, IsSomeAnd, List}
use Rattle.command_line.specs.Command.{CommandLine, Help, HelpOf, Version, Base, Verify, Sign, Rewrite, Explain, Audit, Gateway, Lists, Negotiate, Sample, IsCommand, NoCommand}
use Rattle.conf.specs.Configuration.{Configuration}
use Rattle.commands.specs.Audit.{ReportsAudit}
use Rattle.commands.specs.Base.{ReportsBase}
use Rattle.intake.specs.Configured.{IsConfigured, IsConfRefused}
use Rattle.commands.specs.Explain.{ReportsExplanation}
use Rattle.intake.specs.Files.{FileNames, Found, Conf as ConfFile}
use Rattle.commands.specs.Layers.{ReadsThen}
use Rattle.commands.specs.Lists.{ReportsIntoFields, ReportsIntoMessage}
use Rattle.commands.specs.Negotiate.{ReportsNegotiation}
use Rattle.commands.specs.Rewrite.{ReportsRewriting}
use Rattle.commands.specs.Sample.{ReportsSample}
use Rattle.commands.specs.Sign.{ReportsSigning}
use Rattle.commands.specs.Verify.{ReportsVerdicts}
use Rattle.commands.specs.declared.outcome.Outcome.{Outcome}
use Rattle.intake.specs.declared.tables.Needs.{Needs}
use Rattle.intake.specs.declared.tables.Needs.TheVariants.{Nothing, SignTable}
use Rattle.program.specs.Commands.{name_of}
use Rattle.program.specs.Help.{ReportsHelp, ReportsHelpOf, ReportsVersion}
use Rattle.program.specs.Intake.{TakenValues, IsIntake, IsIntakeRefused}
use Rattle.refusals.specs.declared.role.Role.TheVariants.{Conf}
use Rattle.refusals.specs.declared.refusal.Refusal.TheVariants.{Arguments, Of}

-- what a command comes to over what was read for it
abbrev pub Answers : Type 1
Answers = TakenValues → Outcome → Type 0

-- what comes of the files of these names and of the input
abbrev pub ReportsFiles : Needs → Answers → FileNames → Found → List ℕ → Outcome → Type 0
ReportsFiles needs Then names found input =
    ReadsThen (IsIntake needs names found input) (IsIntakeRefused needs names found input)
    (λ refusal. refusal) Then

-- what comes of the configuration in the file of this name
abbrev pub ReportsConfigured : (Configuration → Outcome → Type 0) → FileNames → Found → Outcome
    → Type 0
ReportsConfigured Then names found =
    ReadsThen (IsConfigured (names ConfFile) (found ConfFile))
    (IsConfRefused (names ConfFile) (found ConfFile)) (λ refusal. Of Conf refusal) Then

-- what comes of a list of fields, by the configuration of these names, or of a message
abbrev pub ReportsTurned : Bool → FileNames → Found → List ℕ → Outcome → Type 0
ReportsTurned true names found input =
    ReportsConfigured (λ conf. ReportsIntoMessage conf input) names found
ReportsTurned false names found input =
    ReportsFiles Nothing (λ taken. ReportsIntoFields taken.context) names found input

-- What a command comes to over what was found and an input. What `gateway` writes isn't known
-- before its input is read, so it has no outcome of this kind.
abbrev pub ReportsCommand : CommandLine → Found → List ℕ → Outcome → Type 0
ReportsCommand Help found input = ReportsHelp
ReportsCommand (HelpOf command) found input = ReportsHelpOf command
ReportsCommand Version found input = ReportsVersion
ReportsCommand (Base words) found input =
    ReportsFiles Nothing (λ taken. ReportsBase words.params taken.context) (name_of (Base words))
    found input
ReportsCommand (Verify words) found input =
    ReportsFiles Nothing
    (λ taken. ReportsVerdicts words.label words.now taken.conf taken.context)
    (name_of (Verify words)) found input
ReportsCommand (Sign words) found input =
    ReportsFiles SignTable
    (λ taken. ReportsSigning words.nonce words.now taken.conf taken.wishes taken.context)
    (name_of (Sign words)) found input
ReportsCommand (Rewrite words) found input =
    ReportsFiles Nothing (λ taken. ReportsRewriting words.label taken.script taken.context)
    (name_of (Rewrite words)) found input
ReportsCommand (Explain words) found input =
    ReportsFiles Nothing
    (λ taken outcome. IsSomeAnd taken.other (λ other.
    ReportsExplanation words.label other taken.context outcome))
    (name_of (Explain words)) found input
ReportsCommand (Audit words) found input =
    ReportsConfigured (λ conf. ReportsAudit conf input) (name_of (Audit words)) found
ReportsCommand (Gateway words) found input = λ outcome. ⊥
ReportsCommand (Lists words) found input =
    ReportsTurned words.into_message (name_of (Lists words)) found input
ReportsCommand (Negotiate words) found input =
    ReportsFiles SignTable (λ taken. ReportsNegotiation words.now taken.conf taken.context)
    (name_of (Negotiate words)) found input
ReportsCommand (Sample words) found input = ReportsSample words.seed words.count

-- The outcome for these arguments, what was found and this input. The arguments are judged first,
-- then the configuration, the request, the message that wishes signatures, the script, the other
-- record of the message, the input, and the command over them; of `audit`, and of `lists` over a
-- list, the configuration, and then the input.
abbrev pub Reports : List (List ℕ) → Found → List ℕ → Outcome → Type 0
Reports arguments found input =
    ReadsThen (IsCommand arguments) (λ (_ : ⊤). NoCommand arguments) (λ _. Arguments) (λ command.
    ReportsCommand command found input)
