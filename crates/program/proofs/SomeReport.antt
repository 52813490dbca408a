-- Arguments, what was found and an input have some outcome, and one of status 0 or 1 where the
-- command has all that it needs.
use Rattle.std.proofs.Common.{◌≡◌, ◌+◌, ◌++◌, inl, inr, ℕ, Bool, true, false, List, [], ◌∷◌, Option, Some, None, refl}
use Rattle.std.specs.Prelude.{⊤, IsTrue, IsSome, IsSomeAnd}
use Rattle.std.specs.List.{list_all, slice_get}
use Rattle.byte_grammar.proofs.Indices.{some_and_parts}
use Rattle.sfv_text.specs.Classes.{is_byte}
use Rattle.command_line.specs.Command.{CommandLine, Help, HelpOf, Version, Base, Verify, Sign, Rewrite, Explain, Audit, Gateway, Lists, Negotiate, Sample, IsCommand, NoCommand}
use Rattle.command_line.proofs.SomeCommand.{command_or_none}
use Rattle.component_ids.specs.declared.id.ComponentId.{ComponentId}
use Rattle.component_ids.specs.declared.params.SigParams.{SigParams}
use Rattle.component_values.specs.Context.{MessageContext, answers_head, context_with}
use Rattle.conf.specs.Configuration.{Configuration}
use Rattle.signatures.specs.SignatureBase.{signature_base}
use Rattle.verdicts.specs.declared.outcome.Verdict.{Verdict}
use Rattle.recording.specs.Items.{PlacedItem}
use Rattle.hop_audit.specs.Lines.{finds_fault}
use Rattle.hop_audit.specs.declared.line.AuditLine.{AuditLine}
use Rattle.commands.specs.Audit.{IsRecordingText, IsChainRefused, ReportsAudit, audit_outcome}
use Rattle.commands.specs.Base.{ReportsValues, ReportsBase}
use Rattle.commands.specs.Explain.{ReportsExplanation, WritesExplained, differing_text}
use Rattle.intake.specs.Files.{FileNames, Found, FileRole, Conf as ConfFile, Request as RequestFile, Script as ScriptFile, Other as OtherFile}
use Rattle.intake.specs.Layers.{HasAnswer}
use Rattle.commands.specs.Layers.{ReadsThen}
use Rattle.commands.specs.Lists.{ReportsIntoFields, ReportsMessageOf}
use Rattle.list_texts.specs.Lists.{list_text}
use Rattle.list_texts.specs.declared.list.FieldList.{FieldList}
use Rattle.field_lists.specs.ToCauses.{IsToFault}
use Rattle.field_lists.specs.declared.to_fault.ToFault.{ToFault}
use Rattle.field_lists.specs.FromCauses.{IsFromFault}
use Rattle.field_lists.specs.declared.from_fault.FromFault.{FromFault}
use Rattle.intake.specs.MessageFiles.{IsOfBytes}
use Rattle.commands.specs.Negotiate.{ReportsNegotiation}
use Rattle.commands.specs.Rewrite.{IsTaken, ReportsSteps, ReportsRewriting}
use Rattle.commands.specs.Sign.{ReportsEach, ReportsSigning}
use Rattle.intake.specs.declared.tables.Needs.{Needs}
use Rattle.intake.specs.declared.tables.Needs.TheVariants.{Nothing, SignTable}
use Rattle.msg_body.specs.Messages.{Message, IsMessage, message_text}
use Rattle.settings.specs.declared.sign_conf.SignConf.{SignConf}
use Rattle.rewrite_script.specs.Lines.{is_writable}
use Rattle.rewrite_script.specs.declared.rewrite.Rewrite.{Rewrite as Rewriting}
use Rattle.normal_forms.specs.declared.explanation.Explained.{Explained}
use Rattle.normal_forms.specs.declared.explanation.Explained.TheVariants.{Same, Differs}
use Rattle.rewrites.specs.Steps.{Steps}
use Rattle.signing.specs.declared.spec.SignSpec.{SignSpec}
use Rattle.commands.specs.Verify.{ReportsVerdicts, verdicts_outcome}
use Rattle.verdicts.specs.Verdicts.{is_accepted}
use Rattle.program.specs.Help.{help_text, text_of}
use Rattle.program.specs.declared.help.TheConstants.{TITLE_TEXT, VERSION_TEXT}
use Rattle.commands.specs.declared.outcome.Outcome.{Outcome}
use Rattle.commands.specs.declared.outcome.Outcome.TheVariants.{Done, NotOk, Refused}
use Rattle.refusals.specs.declared.refusal.Refusal.{Refusal}
use Rattle.program.specs.Laws.{HasSomeReport, IsBaseDone, CanSignEach, IsSignDone, IsNegotiateDone, IsRewriteDone, IsExplainDone, IsServed, HasAll, HasAllToTurn, IsAnswered, IsComplete}
use Rattle.program.specs.Commands.{input_use, is_whole, name_of}
use Rattle.program.specs.Intake.{IsConfRead, TakenValues}
use Rattle.program.specs.Report.{Answers, ReportsCommand, ReportsFiles, ReportsTurned}
use Rattle.program.proofs.CommandLaws.{conf_answer, explaining_answer, into_fields_answer, into_message_answer, list_or_from_fault, message_or_fault, negotiation_answer, params_answer, values_answer, verdicts_answer, signing_answer, rewriting_answer, auditing_answer, audit_answer, sampling_answer, writable_where_scripted, valid_where_configured}
use Rattle.program.proofs.IntakeLaws.{intake_answer}
use Rattle.program.specs.tools.Parts.{HasOther}
use Rattle.program.proofs.Reports.{has_requested, other_answers}
use Rattle.program.proofs.Sources.{spelled_input}

-- some outcome
abbrev HasSome : (Outcome → Type 0) → Type 0
HasSome P = (outcome : Outcome) × P outcome

some_of_layers : {V C : Type 0} (Reads : V → Type 0) (Causes : C → Type 0) (refusal_of : C → Refusal) (Then : V → Outcome → Type 0)
    → HasAnswer Reads Causes → ((v : V) → Reads v → HasSome (Then v)) → HasSome (ReadsThen Reads Causes refusal_of Then)
some_of_layers Reads Causes refusal_of Then (inl read) then = let next = then read.0 read.1 in (next.0, inl (read.0, read.1, next.1))
some_of_layers Reads Causes refusal_of Then (inr cause) then = (Refused (refusal_of cause.0), inr (cause.0, cause.1, refl))

some_of_values : (context : MessageContext) (sig : SigParams) → HasSome (ReportsValues context sig)
some_of_values context sig = some_of_layers _ _ _ _ (values_answer context sig.ids) (λ values _. (Done (signature_base sig values), refl))

some_of_base : (params : List ℕ) (context : MessageContext) → HasSome (ReportsBase params context)
some_of_base params context = some_of_layers _ _ _ _ (params_answer params) (λ sig _. some_of_values context sig)

-- the files are of bytes
abbrev AreOfBytes : Found → Type 0
AreOfBytes found = (role : FileRole) → IsOfBytes (found role)

-- a command has some outcome over what was read for it, where the configuration was found under this name and has what is needed, and the other record, where its file has a name
abbrev HasSomeAnswer : Needs → Answers → Option (List ℕ) → Option (List ℕ) → Option (List ℕ) → Type 0
HasSomeAnswer needs Then name text other =
    (taken : TakenValues) → IsConfRead needs name text taken.conf → IsTrue (list_all is_writable taken.script) → IsMessage (answers_head taken.context.related) taken.context.message
    → HasOther other taken.context.related taken.other → HasSome (Then taken)

some_of_files : (needs : Needs) (Then : Answers) (names : FileNames) (found : Found) (input : List ℕ) → HasSomeAnswer needs Then (names ConfFile) (found ConfFile) (names OtherFile) → AreOfBytes found
    → IsTrue (list_all is_byte input) → HasSome (ReportsFiles needs Then names found input)
some_of_files needs Then names found input some files bytes =
    some_of_layers _ _ _ _ (intake_answer needs names found input files bytes) (λ taken is.
    some taken is.conf (writable_where_scripted (names ScriptFile) (found ScriptFile) taken.script is.scripted) (spelled_input taken.context.related input taken.context.message is.is).is
    (other_answers (names OtherFile) (found OtherFile) taken.context.related taken.other is.recorded))

some_sign : (conf : Configuration) → IsSome conf.sign → (sign : SignConf) × (conf.sign ≡ Some sign)
some_sign conf has = of_option conf.sign has where
  of_option : (o : Option SignConf) → IsSome o → (sign : SignConf) × (o ≡ Some sign)
  of_option (Some sign) is = (sign, refl)
  of_option None is = absurd cc

some_of_signing : (nonce : Option (List ℕ)) (now : ℕ) (name text : Option (List ℕ)) → HasSomeAnswer SignTable (λ taken. ReportsSigning nonce now taken.conf taken.wishes taken.context) name text None
some_of_signing nonce now name text taken read writable is other =
    let sign = some_sign taken.conf read.tables in
    signing_answer nonce now taken.conf taken.wishes taken.context sign.0 sign.1 ((valid_where_configured name text taken.conf read.configured).sign sign.0 sign.1).keyid

some_of_explanation : (label name : List ℕ) (also : Option Message) (context : MessageContext) → IsMessage (answers_head context.related) context.message → HasOther (Some name) context.related also
    → HasSome (λ outcome. IsSomeAnd also (λ other. ReportsExplanation label other context outcome))
some_of_explanation label name None context is other = absurd (cc other)
some_of_explanation label name (Some also) context is other = explaining_answer label also context is other

some_of_turned : (into_message : Bool) (names : FileNames) (found : Found) (input : List ℕ) → AreOfBytes found → IsTrue (list_all is_byte input) → HasSome (ReportsTurned into_message names found input)
some_of_turned true names found input files bytes = some_of_layers _ _ _ _ (conf_answer (names ConfFile) (found ConfFile)) (λ conf _. into_message_answer conf input bytes)
some_of_turned false names found input files bytes =
    some_of_files Nothing (λ taken. ReportsIntoFields taken.context) names found input (λ taken _ _ _ _. into_fields_answer taken.context) files bytes

some_of_command : (command : CommandLine) → IsTrue (is_whole (input_use command)) → (found : Found) (input : List ℕ) → AreOfBytes found → IsTrue (list_all is_byte input) → HasSome (ReportsCommand command found input)
some_of_command Help whole found input files bytes = (Done help_text, refl)
some_of_command (HelpOf command) whole found input files bytes = (Done (TITLE_TEXT.now ++ text_of command), refl)
some_of_command Version whole found input files bytes = (Done VERSION_TEXT.now, refl)
some_of_command (Base words) whole found input files bytes =
    some_of_files Nothing (λ taken. ReportsBase words.params taken.context) (name_of (Base words)) found input (λ taken _ _ _ _. some_of_base words.params taken.context) files bytes
some_of_command (Verify words) whole found input files bytes =
    some_of_files Nothing (λ taken. ReportsVerdicts words.label words.now taken.conf taken.context) (name_of (Verify words)) found input
    (λ taken _ _ _ _. verdicts_answer words.label words.now taken.conf taken.context) files bytes
some_of_command (Sign words) whole found input files bytes =
    some_of_files SignTable (λ taken. ReportsSigning words.nonce words.now taken.conf taken.wishes taken.context) (name_of (Sign words)) found input
    (some_of_signing words.nonce words.now (Some words.conf) (found ConfFile)) files bytes
some_of_command (Rewrite words) whole found input files bytes =
    some_of_files Nothing (λ taken. ReportsRewriting words.label taken.script taken.context) (name_of (Rewrite words)) found input
    (λ taken _ writable message _. rewriting_answer words.label taken.script taken.context writable message) files bytes
some_of_command (Explain words) whole found input files bytes =
    some_of_files Nothing (λ taken outcome. IsSomeAnd taken.other (λ other. ReportsExplanation words.label other taken.context outcome)) (name_of (Explain words)) found input
    (λ taken _ _ message other. some_of_explanation words.label words.other taken.other taken.context message other) files bytes
some_of_command (Audit words) whole found input files bytes = some_of_layers _ _ _ _ (conf_answer (Some words.conf) (found ConfFile)) (λ conf _. auditing_answer conf input bytes)
some_of_command (Gateway words) whole found input files bytes = absurd (cc whole)
some_of_command (Lists words) whole found input files bytes = some_of_turned words.into_message (name_of (Lists words)) found input files bytes
some_of_command (Negotiate words) whole found input files bytes =
    some_of_layers _ _ _ _ (intake_answer SignTable (name_of (Negotiate words)) found input files bytes) (λ taken is.
    negotiation_answer words.now taken.conf taken.context is.conf.tables (has_requested (Some words.request) (found RequestFile) taken.context.related is.requested))
some_of_command (Sample words) whole found input files bytes = let some = sampling_answer words.seed words.count in (some.0, some.1)

arguments_answer : (arguments : List (List ℕ)) → HasAnswer (IsCommand arguments) (λ (_ : ⊤). NoCommand arguments)
arguments_answer arguments = elim (command_or_none arguments) [
  | inl command ↦ inl command
  | inr none ↦ inr (tt, none)
]

pub some_report_law : HasSomeReport
some_report_law arguments found input whole files bytes = some_of_layers _ _ _ _ (arguments_answer arguments) (λ command is. some_of_command command (whole command is) found input files bytes)

-- ---- where nothing is refused

-- an outcome of status 0 or 1
abbrev HasAnswered : (Outcome → Type 0) → Type 0
HasAnswered P = (outcome : Outcome) × P outcome × IsAnswered outcome

files_answered : (needs : Needs) (Then : Answers) (IsDone : TakenValues → Type 0) → ((taken : TakenValues) → IsDone taken → HasAnswered (Then taken))
    → (names : FileNames) (found : Found) (input : List ℕ) → IsServed needs names found input IsDone → HasAnswered (ReportsFiles needs Then names found input)
files_answered needs Then IsDone answered names found input served =
    let next = answered served.taken served.done in
    (next.0, inl (served.taken, served.is, next.1), next.2)

each_answered : (specs : List SignSpec) (context : MessageContext) → CanSignEach context specs → HasAnswered (ReportsEach context specs)
each_answered [] context can = (Done (message_text context.message), refl, inl refl)
each_answered (spec ∷ specs) context can =
    let next = each_answered specs (context_with context can.0) can.2 in
    (next.0, inl (can.0, can.1, next.1), next.2)

signing_answered : (nonce : Option (List ℕ)) (now : ℕ) (conf : Configuration) (wishes : Option Message) (context : MessageContext) → IsSignDone nonce now conf wishes context
    → HasAnswered (ReportsSigning nonce now conf wishes context)
signing_answered own now conf None context done =
    let next = each_answered (done.0 ∷ []) context done.2 in
    (next.0, record { spec = done.0; is = done.1; reports = next.1 }, next.2)
signing_answered own now conf (Some wishes) context done =
    let next = each_answered done.0 context done.2 in
    (next.0, inl (done.0, done.1, next.1), next.2)

negotiation_answered : (now : ℕ) (conf : Configuration) (context : MessageContext) → IsNegotiateDone now conf context → HasAnswered (ReportsNegotiation now conf context)
negotiation_answered now conf context done = (Done (message_text done.0), inl (done.0, done.1, refl), inl refl)

steps_answered : (script : List Rewriting) (label : Option (List ℕ)) (index : ℕ) (context : MessageContext) (after : Message) → Steps (IsTaken label) context script after
    → HasAnswered (ReportsSteps label index context script)
steps_answered [] label index context after are = (Done (message_text context.message), refl, inl refl)
steps_answered (step ∷ script) label index context after are =
    let next = steps_answered script label (index + 1) (context_with context are.0) after are.2 in
    (next.0, inl (are.0, are.1, next.1), next.2)

base_answered : (params : List ℕ) (context : MessageContext) → IsBaseDone params context → HasAnswered (ReportsBase params context)
base_answered params context done =
    (Done (signature_base done.sig done.values), inl (done.sig, done.reads, inl (done.values, done.have, refl)), inl refl)

lines_answered : (labels : List (List ℕ)) (verdicts : List Verdict) (accepted : Bool) → list_all is_accepted verdicts ≡ accepted → IsAnswered (verdicts_outcome labels verdicts)
lines_answered labels verdicts true is = rw is (inl refl)
lines_answered labels verdicts false is = rw is (inr refl)

written_answered : (message : Message) (label : List ℕ) (explained : Explained) (outcome : Outcome) → WritesExplained message label explained outcome → IsAnswered outcome
written_answered message label (Same first second) outcome is = rw is (inl refl)
written_answered message label (Differs index) outcome is =
    let id = some_and_parts (λ (i : ComponentId). outcome ≡ NotOk (differing_text i)) (slice_get is.params.ids index) is.there in
    rw id.2 (inr refl)

explanation_answered : (label name : List ℕ) (also : Option Message) (context : MessageContext) → IsMessage (answers_head context.related) context.message → HasOther (Some name) context.related also
    → IsExplainDone label also context → HasAnswered (λ outcome. IsSomeAnd also (λ other. ReportsExplanation label other context outcome))
explanation_answered label name None context is other done = absurd (cc other)
explanation_answered label name (Some also) context is other done =
    let some = explaining_answer label also context is other in
    elim some.1 [
      | inl made ↦ (some.0, inl made, written_answered context.message label made.0 some.0 made.2)
      | inr cause ↦ absurd (done cause.0 cause.1)
    ]

verdicts_answered : (label : Option (List ℕ)) (now : ℕ) (conf : Configuration) (context : MessageContext) → HasAnswered (ReportsVerdicts label now conf context)
verdicts_answered label now conf context =
    let some = verdicts_answer label now conf context in
    let reports = some.1 in
    (some.0, reports, rw (reports.outcome_is) (lines_answered reports.labels reports.verdicts (list_all is_accepted reports.verdicts) refl))

report_answered : (lines : List AuditLine) (counts : Bool) → finds_fault lines ≡ counts → IsAnswered (audit_outcome lines)
report_answered lines true is = rw is (inr refl)
report_answered lines false is = rw is (inl refl)

audit_answered : (conf : Configuration) (input : List ℕ) (items : List PlacedItem) → IsRecordingText input items → ((refusal : Refusal) → ¬ IsChainRefused items refusal) → HasAnswered (ReportsAudit conf input)
audit_answered conf input items is none = elim (audit_answer conf input items is) [
  | inl audit ↦ (audit_outcome audit.0, inl (items, is, inl (audit.0, audit.1, refl)), report_answered audit.0 (finds_fault audit.0) refl)
  | inr cause ↦ absurd (none cause.0 cause.1)
]

message_answered : (conf : Configuration) (list : FieldList) → ((fault : ToFault) → ¬ IsToFault list conf.scheme fault) → HasAnswered (ReportsMessageOf conf.scheme list)
message_answered conf list none = elim (message_or_fault list conf.scheme) [
  | inl turned ↦ (Done (message_text turned.0), inl (turned.0, turned.1, refl), inl refl)
  | inr fault ↦ absurd (none fault.0 fault.1)
]

fields_answered : (context : MessageContext) → ((fault : FromFault) → ¬ IsFromFault context fault) → HasAnswered (ReportsIntoFields context)
fields_answered context none = elim (list_or_from_fault context) [
  | inl turned ↦ (Done (list_text turned.0), inl (turned.0, turned.1, refl), inl refl)
  | inr fault ↦ absurd (none fault.0 fault.1)
]

turned_answered : (into_message : Bool) (names : FileNames) (found : Found) (input : List ℕ) → HasAllToTurn into_message names found input → HasAnswered (ReportsTurned into_message names found input)
turned_answered true names found input has =
    let next = message_answered has.conf has.list has.none in
    (next.0, inl (has.conf, has.configured, inl (has.list, has.listed, next.1)), next.2)
turned_answered false names found input has =
    files_answered Nothing (λ taken. ReportsIntoFields taken.context) (λ taken. (fault : FromFault) → ¬ IsFromFault taken.context fault) (λ taken. fields_answered taken.context) names found input has

command_answered : (command : CommandLine) (found : Found) (input : List ℕ) → HasAll command found input → HasAnswered (ReportsCommand command found input)
command_answered Help found input has = (Done help_text, refl, inl refl)
command_answered (HelpOf command) found input has = (Done (TITLE_TEXT.now ++ text_of command), refl, inl refl)
command_answered Version found input has = (Done VERSION_TEXT.now, refl, inl refl)
command_answered (Base words) found input has =
    files_answered Nothing (λ taken. ReportsBase words.params taken.context) (λ taken. IsBaseDone words.params taken.context) (λ taken. base_answered words.params taken.context) (name_of (Base words)) found input has
command_answered (Verify words) found input has =
    files_answered Nothing (λ taken. ReportsVerdicts words.label words.now taken.conf taken.context) (λ taken. ⊤) (λ taken _. verdicts_answered words.label words.now taken.conf taken.context)
    (name_of (Verify words)) found input has
command_answered (Sign words) found input has =
    files_answered SignTable (λ taken. ReportsSigning words.nonce words.now taken.conf taken.wishes taken.context) (λ taken. IsSignDone words.nonce words.now taken.conf taken.wishes taken.context)
    (λ taken. signing_answered words.nonce words.now taken.conf taken.wishes taken.context) (name_of (Sign words)) found input has
command_answered (Rewrite words) found input has =
    files_answered Nothing (λ taken. ReportsRewriting words.label taken.script taken.context) (λ taken. IsRewriteDone words.label taken.script taken.context)
    (λ taken done. steps_answered taken.script words.label 0 taken.context done.0 done.1) (name_of (Rewrite words)) found input has
command_answered (Explain words) found input has =
    let is = has.is in
    let next = explanation_answered words.label words.other has.taken.other has.taken.context (spelled_input has.taken.context.related input has.taken.context.message is.is).is
    (other_answers (Some words.other) (found OtherFile) has.taken.context.related has.taken.other is.recorded) has.done in
    (next.0, inl (has.taken, is, next.1), next.2)
command_answered (Audit words) found input has =
    let next = audit_answered has.conf input has.items has.recorded has.none in
    (next.0, inl (has.conf, has.configured, next.1), next.2)
command_answered (Gateway words) found input has = absurd has
command_answered (Lists words) found input has = turned_answered words.into_message (name_of (Lists words)) found input has
command_answered (Negotiate words) found input has =
    files_answered SignTable (λ taken. ReportsNegotiation words.now taken.conf taken.context) (λ taken. IsNegotiateDone words.now taken.conf taken.context)
    (λ taken. negotiation_answered words.now taken.conf taken.context) (name_of (Negotiate words)) found input has
command_answered (Sample words) found input has = sampling_answer words.seed words.count

pub complete_law : IsComplete
complete_law arguments command found input is has =
    let next = command_answered command found input has in
    (next.0, inl (command, is, next.1), next.2)
