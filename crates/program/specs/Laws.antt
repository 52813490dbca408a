-- Laws of what the program answers.
use Rattle.std.specs.Prelude.{◌≡◌, ◌≢◌, ◌⊎◌, ◌↔◌, ⊤, ℕ, Bool, false, true, IsTrue, IsFalse, IsSomeAnd, List, [], ◌∷◌, ◌++◌, Option, Some, None, Result, codes}
use Rattle.std.specs.Io.KnownBytes.{Appends}
use Rattle.std.specs.List.{list_all, list_any}
use Rattle.hms_io.specs.declared.status.Status.{Status}
use Rattle.hms_io.specs.declared.status.Status.TheVariants.{Done, NotOk, ReadFault, WriteFault, OutOfMemory}
use Rattle.sfv_text.specs.Classes.{is_byte}
use Rattle.command_line.specs.Command.{CommandLine, Help, HelpOf, Version, Base, Verify, Sign, Rewrite, Explain, Audit, Gateway, Lists, Negotiate, Sample, SignWords, VerifyWords, RewriteWords, AuditWords, GatewayWords, ListsWords, NegotiateWords, IsCommand}
use Rattle.component_ids.specs.declared.id.ComponentId.{ComponentId}
use Rattle.component_ids.specs.declared.params.SigParams.{SigParams}
use Rattle.component_ids.specs.declared.scheme.Scheme.{Scheme}
use Rattle.component_values.specs.Context.{MessageContext, context_with}
use Rattle.component_values.specs.Values.{ComesTo, HaveValues}
use Rattle.derived_values.specs.declared.lack.Lack.{Lack}
use Rattle.msg_body.specs.Messages.{Message, IsMessage, message_text}
use Rattle.msg_body.specs.Views.{message_content}
use Rattle.msg_body.specs.WholeTexts.{reading_for}
use Rattle.conf.specs.Configuration.{Configuration}
use Rattle.commands.specs.Audit.{IsChainRefused, IsRecordingText, audit_outcome}
use Rattle.intake.specs.Configured.{IsConfigured}
use Rattle.commands.specs.Covered.{ReadsParams}
use Rattle.intake.specs.Files.{FileNames, Found, FileRole, Conf as ConfFile, Request as RequestFile, Wanted as WantedFile, Script as ScriptFile}
use Rattle.intake.specs.Layers.{HasAnswer, IsDecisive}
use Rattle.commands.specs.Layers.{IsUnrefused}
use Rattle.commands.specs.Lists.{IsListText}
use Rattle.intake.specs.Messages.{IsInputMessage}
use Rattle.commands.specs.Outcome.{status_of}
use Rattle.intake.specs.MessageFiles.{IsRequested, IsWanted, IsOfBytes}
use Rattle.commands.specs.Rewrite.{IsTaken}
use Rattle.intake.specs.Scripts.{IsScripted}
use Rattle.commands.specs.Sign.{AreWishesRefused, IsSignRefused}
use Rattle.commands.specs.SignedMessages.{IsWishedAs, SignsAs}
use Rattle.commands.specs.Verify.{verdicts_outcome}
use Rattle.commands.specs.declared.outcome.Outcome.{Outcome}
use Rattle.commands.specs.declared.outcome.Outcome.TheVariants.{Done as Written, Refused}
use Rattle.intake.specs.declared.tables.Needs.{Needs}
use Rattle.intake.specs.declared.tables.Needs.TheVariants.{Nothing, SignTable, GatewayTables}
use Rattle.framing.specs.Framings.{is_request}
use Rattle.list_texts.specs.Lists.{list_text}
use Rattle.list_texts.specs.declared.list.FieldList.{FieldList}
use Rattle.field_lists.specs.FromCauses.{IsFromFault}
use Rattle.field_lists.specs.Laws.{HasAuthority, IsOwn, alone, normal_list}
use Rattle.field_lists.specs.ListValues.{ListComesTo}
use Rattle.field_lists.specs.ToCauses.{IsToFault, TurnsInto, is_refused_name}
use Rattle.field_lists.specs.declared.from_fault.FromFault.{FromFault}
use Rattle.field_lists.specs.declared.to_fault.ToFault.{ToFault}
use Rattle.negotiation.specs.NegotiateCauses.{IsNegotiateFault}
use Rattle.negotiation.specs.Negotiated.{IsNegotiated}
use Rattle.rewrite_script.specs.declared.rewrite.Rewrite.{Rewrite as Rewriting}
use Rattle.recording.specs.Items.{PlacedItem}
use Rattle.settings.specs.declared.gateway_conf.GatewayConf.{GatewayConf}
use Rattle.gateway.specs.RecordTexts.{records_text}
use Rattle.gateway.specs.Records.{is_pass}
use Rattle.gateway.specs.Served.{WritesRecords}
use Rattle.gateway.specs.Streams.{IsServed as IsServedWhole}
use Rattle.gateway.specs.declared.fault.StreamFault.{StreamFault}
use Rattle.gateway.specs.declared.fault.StreamFault.TheVariants as stream
use Rattle.gateway.specs.declared.gateway_record.GatewayRecord.{GatewayRecord}
use Rattle.normal_forms.specs.Causes.{IsExplainFault}
use Rattle.normal_forms.specs.declared.fault.ExplainFault.{ExplainFault}
use Rattle.hop_audit.specs.ChainValues.{Chain}
use Rattle.hop_audit.specs.Laws.{IsSoundReport}
use Rattle.hop_audit.specs.Report.{AreItemsOf, IsReport}
use Rattle.hop_audit.specs.declared.line.AuditLine.{AuditLine}
use Rattle.refusals.specs.Laws.{IsLine}
use Rattle.refusals.specs.Refusal.{refusal_line}
use Rattle.refusals.specs.declared.refusal.Refusal.{Refusal}
use Rattle.rewrites.specs.Laws.{rests_on_conf}
use Rattle.rewrites.specs.Steps.{Steps}
use Rattle.signing.specs.Asked.{IsSpecOf}
use Rattle.signing.specs.Signed.{IsSignedMessage}
use Rattle.signing.specs.Wishes.{AreWished}
use Rattle.signing.specs.declared.spec.SignSpec.{SignSpec}
use Rattle.verdicts.specs.Contexts.{context_for}
use Rattle.verdicts.specs.Laws.{is_rule_of_signing}
use Rattle.verdicts.specs.Rules.{key_in}
use Rattle.verdicts.specs.declared.outcome.Verdict.{Verdict}
use Rattle.verdicts.specs.declared.outcome.Verdict.TheVariants.{Ok as Accepted, Rule as Failing}
use Rattle.program.specs.Commands.{ReadsWhole, name_of}
use Rattle.program.specs.Intake.{IsConfRead, IsIntake, IsIntakeRefused, TakenValues}
use Rattle.program.specs.Report.{Reports}
use Rattle.program.specs.StreamEnds.{EndsBefore, EndsServed}

-- of the files of these names and an input at most one value is taken, or it is refused for at most
-- one cause
abbrev pub IsIntakeDecided : Type 0
IsIntakeDecided =
    (needs : Needs) (names : FileNames) (found : Found) (input : List ℕ)
    → IsDecisive (IsIntake needs names found input) (IsIntakeRefused needs names found input)

-- where the files and the input are of bytes, a value is taken, or there is a cause to refuse it
abbrev pub HasIntake : Type 0
HasIntake =
    (needs : Needs) (names : FileNames) (found : Found) (input : List ℕ)
    → ((role : FileRole) → IsOfBytes (found role)) → IsTrue (list_all is_byte input)
    → HasAnswer (IsIntake needs names found input) (IsIntakeRefused needs names found input)

-- the arguments, what was found and the input have at most one outcome
abbrev pub HasOneReport : Type 0
HasOneReport =
    (arguments : List (List ℕ)) (found : Found) (input : List ℕ) (one other : Outcome) →
    Reports arguments found input one → Reports arguments found input other → one ≡ other

-- they have some outcome, where the files and the input are of bytes, and the command writes
-- nothing before it has read all
abbrev pub HasSomeReport : Type 0
HasSomeReport =
    (arguments : List (List ℕ)) (found : Found) (input : List ℕ) → ReadsWhole arguments
    → ((role : FileRole) → IsOfBytes (found role)) → IsTrue (list_all is_byte input)
    → (outcome : Outcome) × Reports arguments found input outcome

-- what is refused is written as one line: it has one LF, at its end
abbrev pub IsLineWhereRefused : Type 0
IsLineWhereRefused =
    (arguments : List (List ℕ)) (found : Found) (input : List ℕ) (refusal : Refusal)
    → Reports arguments found input (Refused refusal) → IsLine (refusal_line refusal)

-- ---- where nothing is refused

-- PARAMS are read, and each component that they cover has a value
pub record IsBaseDone (params : List ℕ) (context : MessageContext) : Type 0 where
  pub sig : SigParams
  pub reads : ReadsParams params sig
  pub values : List (List ℕ)
  pub have : HaveValues context sig.ids values

-- each of these signatures can be made, each over the message that the one before it gave
abbrev pub CanSignEach : MessageContext → List SignSpec → Type 0
CanSignEach context [] = ⊤
CanSignEach context (spec ∷ specs) =
    (written : Message)
    × IsUnrefused (IsSignedMessage context spec) (IsSignRefused context spec) written
    × CanSignEach (context_with context written) specs

-- the signature that the configuration asks for can be made, or each that is wished
abbrev pub IsSignDone : Option (List ℕ) → ℕ → Configuration → Option Message → MessageContext
    → Type 0
IsSignDone own moment conf None context =
    (spec : SignSpec) × IsSpecOf conf (is_request context.message.head.start) moment own spec
    × CanSignEach context (spec ∷ [])
IsSignDone own moment conf (Some wishes) context =
    (specs : List SignSpec)
    × IsUnrefused (AreWished conf moment wishes) (AreWishesRefused conf wishes) specs
    × CanSignEach context specs

-- there is nothing for which the response isn't signed as its request asks
abbrev pub IsNegotiateDone : ℕ → Configuration → MessageContext → Type 0
IsNegotiateDone moment conf context =
    (written : Message)
    × IsUnrefused (IsNegotiated conf moment context) (IsNegotiateFault conf moment context)
    written

-- each step of the script can be taken, each on the message that the one before it gave
abbrev pub IsRewriteDone : Option (List ℕ) → List Rewriting → MessageContext → Type 0
IsRewriteDone label script context = (after : Message) × Steps (IsTaken label) context script after

-- there is nothing for which the message and its other record aren't explained for the label
abbrev pub IsExplainDone : List ℕ → Option Message → MessageContext → Type 0
IsExplainDone label other context =
    IsSomeAnd other (λ also. (fault : ExplainFault)
    → ¬ IsExplainFault context (context_with context also) label fault)

-- all that the command needs is read, and over it the command can be done
pub record IsServed (needs : Needs) (names : FileNames) (found : Found) (input : List ℕ)
    (IsDone : TakenValues → Type 0) : Type 0 where
  pub taken : TakenValues
  pub is : IsIntake needs names found input taken
  pub done : IsDone taken

-- the file of this name says a configuration, and the input is the recording of a chain, which
-- isn't refused
pub record IsAuditable (words : AuditWords) (found : Found) (input : List ℕ) : Type 0 where
  pub conf : Configuration
  pub configured : IsConfigured (Some words.conf) (found ConfFile) conf
  pub items : List PlacedItem
  pub recorded : IsRecordingText input items
  pub none : (refusal : Refusal) → ¬ IsChainRefused items refusal

-- the file of this name says a configuration, and the input is a list that it turns into a message
pub record IsTurnable (names : FileNames) (found : Found) (input : List ℕ) : Type 0 where
  pub conf : Configuration
  pub configured : IsConfigured (names ConfFile) (found ConfFile) conf
  pub list : FieldList
  pub listed : IsListText input list
  pub none : (fault : ToFault) → ¬ IsToFault list conf.scheme fault

-- all is there for a list that is turned into a message, or for a message that is turned into a
-- list
abbrev pub HasAllToTurn : Bool → FileNames → Found → List ℕ → Type 0
HasAllToTurn true names found input = IsTurnable names found input
HasAllToTurn false names found input =
    IsServed Nothing names found input
    (λ taken. (fault : FromFault) → ¬ IsFromFault taken.context fault)

-- the command has all that it needs; of `gateway` it is said with what it writes
abbrev pub HasAll : CommandLine → Found → List ℕ → Type 0
HasAll Help found input = ⊤
HasAll (HelpOf command) found input = ⊤
HasAll Version found input = ⊤
HasAll (Base words) found input =
    IsServed Nothing (name_of (Base words)) found input
    (λ taken. IsBaseDone words.params taken.context)
HasAll (Verify words) found input =
    IsServed Nothing (name_of (Verify words)) found input (λ taken. ⊤)
HasAll (Sign words) found input =
    IsServed SignTable (name_of (Sign words)) found input
    (λ taken. IsSignDone words.nonce words.now taken.conf taken.wishes taken.context)
HasAll (Rewrite words) found input =
    IsServed Nothing (name_of (Rewrite words)) found input
    (λ taken. IsRewriteDone words.label taken.script taken.context)
HasAll (Explain words) found input =
    IsServed Nothing (name_of (Explain words)) found input
    (λ taken. IsExplainDone words.label taken.other taken.context)
HasAll (Audit words) found input = IsAuditable words found input
HasAll (Gateway words) found input = ⊥
HasAll (Lists words) found input =
    HasAllToTurn words.into_message (name_of (Lists words)) found input
HasAll (Negotiate words) found input =
    IsServed SignTable (name_of (Negotiate words)) found input
    (λ taken. IsNegotiateDone words.now taken.conf taken.context)
HasAll (Sample words) found input = ⊤

-- the outcome is what was asked for, and no refusal
abbrev pub IsAnswered : Outcome → Type 0
IsAnswered outcome = (status_of outcome ≡ Done) ⊎ (status_of outcome ≡ NotOk)

-- a command that has all that it needs is answered
abbrev pub IsComplete : Type 0
IsComplete =
    (arguments : List (List ℕ)) (command : CommandLine) (found : Found) (input : List ℕ)
    → IsCommand arguments command → HasAll command found input
    → (outcome : Outcome) × Reports arguments found input outcome × IsAnswered outcome

-- ---- what is signed

-- the verdict is `ok`, or names a rule that isn't one of signing: one by which a key, a moment, a
-- nonce, a digest or what is covered is judged
abbrev pub IsOkOrPolicy : Verdict → Type 0
IsOkOrPolicy (Accepted keyid) = ⊤
IsOkOrPolicy (Failing rule place) = IsFalse (is_rule_of_signing rule)

-- `verify` is asked for the label, with the request of `sign`
pub record VerifiesSigned (signed : SignWords) (verified : VerifyWords) (label : List ℕ)
    : Type 0 where
  pub request : verified.request ≡ signed.request
  pub label_is : verified.label ≡ Some label

-- `sign` makes a signature of this label by the key of this `keyid`, and the configuration of
-- `verify` has the same scheme, kinds of fields and key of this `keyid`.
pub record KnowsSigner (signed : SignWords) (verified : VerifyWords) (found other : Found)
    (label keyid : List ℕ) : Type 0 where
  pub conf : Configuration
  pub configured : IsConfigured (Some signed.conf) (found ConfFile) conf
  pub wishes : Option Message
  pub wanted : IsWanted signed.wanted (found WantedFile) wishes
  pub signs : SignsAs conf wishes label keyid
  pub next : Configuration
  pub next_configured : IsConfigured (Some verified.conf) (other ConfFile) next
  pub scheme : next.scheme ≡ conf.scheme
  pub types : next.types ≡ conf.types
  pub key : key_in next keyid ≡ key_in conf keyid

-- What `sign` writes, given to `verify` with the same request, at any moment, is `ok` for each
-- label that was signed, or names one of the rules 13 to 26, 33 and 34, which aren't of signing.
abbrev pub IsAcceptedWhereSigned : Type 0
IsAcceptedWhereSigned =
    (signing verifying : List (List ℕ)) (signed : SignWords) (verified : VerifyWords)
    (label keyid : List ℕ) (found other : Found) (input written : List ℕ) (outcome : Outcome)
    → IsCommand signing (Sign signed) → IsCommand verifying (Verify verified)
    → VerifiesSigned signed verified label → other RequestFile ≡ found RequestFile
    → KnowsSigner signed verified found other label keyid
    → Reports signing found input (Written written) → Reports verifying other written outcome
    → (verdict : Verdict) × IsOkOrPolicy verdict
    × (outcome ≡ verdicts_outcome (label ∷ []) (verdict ∷ []))

-- ---- what is signed as a request asks

-- `verify` is asked for the label, with the request of `negotiate`
pub record VerifiesNegotiated (negotiated : NegotiateWords) (verified : VerifyWords)
    (label : List ℕ) : Type 0 where
  pub request : verified.request ≡ Some negotiated.request
  pub label_is : verified.label ≡ Some label

-- The request wishes a signature of this label by the key of this `keyid`, and the configuration of
-- `verify` has the same scheme, kinds of fields and key of this `keyid`.
pub record KnowsNegotiator (negotiated : NegotiateWords) (found other : Found)
    (verified : VerifyWords) (label keyid : List ℕ) : Type 0 where
  pub conf : Configuration
  pub configured : IsConfigured (Some negotiated.conf) (found ConfFile) conf
  pub request : Message
  pub requested : IsRequested (Some negotiated.request) (found RequestFile) (Some request)
  pub wished : IsWishedAs conf request label keyid
  pub next : Configuration
  pub next_configured : IsConfigured (Some verified.conf) (other ConfFile) next
  pub scheme : next.scheme ≡ conf.scheme
  pub types : next.types ≡ conf.types
  pub key : key_in next keyid ≡ key_in conf keyid

-- What `negotiate` writes, given to `verify` with the same request, at any moment, is `ok` for each
-- label that is wished, or names one of the rules 13 to 26, 33 and 34, which aren't of signing.
abbrev pub IsAcceptedWhereNegotiated : Type 0
IsAcceptedWhereNegotiated =
    (negotiating verifying : List (List ℕ)) (negotiated : NegotiateWords)
    (verified : VerifyWords) (label keyid : List ℕ) (found other : Found)
    (input written : List ℕ) (outcome : Outcome)
    → IsCommand negotiating (Negotiate negotiated) → IsCommand verifying (Verify verified)
    → VerifiesNegotiated negotiated verified label → other RequestFile ≡ found RequestFile
    → KnowsNegotiator negotiated found other verified label keyid
    → Reports negotiating found input (Written written) → Reports verifying other written outcome
    → (verdict : Verdict) × IsOkOrPolicy verdict
    × (outcome ≡ verdicts_outcome (label ∷ []) (verdict ∷ []))

-- ---- what is rewritten

-- `verify` is asked for the label of `rewrite`, with the request of `rewrite`
pub record VerifiesRewritten (rewritten : RewriteWords) (verified : VerifyWords)
    (label : List ℕ) : Type 0 where
  pub label_of : rewritten.label ≡ Some label
  pub label_is : verified.label ≡ Some label
  pub request : verified.request ≡ rewritten.request

-- a step of the script rests on the configured scheme or kinds of fields
abbrev pub RestsOnConf : RewriteWords → Found → Type 0
RestsOnConf words found = (script : List Rewriting)
    × IsScripted (Some words.script) (found ScriptFile) script
    × IsTrue (list_any rests_on_conf script)

-- the configurations of both commands have one scheme and the same kinds of fields
abbrev pub AreReadAlike : RewriteWords → VerifyWords → Found → Found → Type 0
AreReadAlike rewritten verified found other =
    (conf next : Configuration) → IsConfigured rewritten.conf (found ConfFile) conf
    → IsConfigured (Some verified.conf) (other ConfFile) next
    → (next.scheme ≡ conf.scheme) × (next.types ≡ conf.types)

-- Where `rewrite` is done under a label, `verify` comes to the same for the label over what was
-- read and over what was written: the same line and status, at each moment and by each
-- configuration. Where a step rests on the scheme or the kinds of fields, these are the same. That
-- what a run writes is of bytes is a fact of how it ends.
abbrev pub IsVerdictKept : Type 0
IsVerdictKept =
    (rewriting verifying : List (List ℕ)) (rewritten : RewriteWords) (verified : VerifyWords)
    (label : List ℕ) (found other : Found) (input written : List ℕ) (outcome : Outcome)
    → IsCommand rewriting (Rewrite rewritten) → IsCommand verifying (Verify verified)
    → VerifiesRewritten rewritten verified label → other RequestFile ≡ found RequestFile
    → (RestsOnConf rewritten found → AreReadAlike rewritten verified found other)
    → Reports rewriting found input (Written written)
    → (Reports verifying other written outcome → Reports verifying other input outcome)
    × (IsTrue (list_all is_byte written) → Reports verifying other input outcome
    → Reports verifying other written outcome)

-- ---- what is turned

-- The input is the text of a list, and the text that of a message. A component that is drawn from
-- the message itself comes to the same in both, but for the lines that say where the message goes
-- and how it is sent.
pub record IsSameMessage (conf : Configuration) (input written : List ℕ) : Type 0 where
  pub list : FieldList
  pub listed : IsListText input list
  pub message : Message
  pub whole : IsMessage false message
  pub written_is : written ≡ message_text message
  pub content : message_content message ≡ list.content
  pub same : (id : ComponentId) (result : Result (List ℕ) Lack)
      → IsOwn id → id.name ≢ codes "host" → id.name ≢ codes "transfer-encoding"
      → ListComesTo list conf.types id result
      ↔ ComesTo (alone message conf.scheme conf.types) id result

-- The input is the text of a message, and the text that of a list. A component that is drawn from
-- the message itself comes to the same in both, but for fields that no list has.
pub record IsSameList (conf : Configuration) (input written : List ℕ) : Type 0 where
  pub message : Message
  pub is : IsInputMessage (reading_for None) input message
  pub list : FieldList
  pub written_is : written ≡ list_text list
  pub same : (id : ComponentId) (result : Result (List ℕ) Lack)
      → IsOwn id → IsFalse (is_refused_name id.name)
      → ListComesTo list conf.types id result
      ↔ ComesTo (context_for conf message None) id result

-- What is written has the values of the input: the message those of the list, or the list those of
-- the message.
abbrev pub IsSameTurned : Bool → Configuration → List ℕ → List ℕ → Type 0
IsSameTurned true = IsSameMessage
IsSameTurned false = IsSameList

-- By the configuration in the file of this name what is written has the values of the input.
abbrev pub TellsTurned : ListsWords → Found → List ℕ → List ℕ → Type 0
TellsTurned words found input written =
    (conf : Configuration) × IsConfigured words.conf (found ConfFile) conf
    × IsSameTurned words.into_message conf input written

-- what `lists` writes is so
abbrev pub IsSameWhereTurned : Type 0
IsSameWhereTurned =
    (arguments : List (List ℕ)) (words : ListsWords) (found : Found) (input written : List ℕ)
    → IsCommand arguments (Lists words) → Reports arguments found input (Written written)
    → TellsTurned words found input written

-- ---- what is turned, and back

-- `lists --into message`, and then `lists --into fields`, by configurations of one scheme
pub record TurnsAndReturns (turned returned : ListsWords) (found other : Found) : Type 0 where
  pub into_message : turned.into_message ≡ true
  pub into_fields : returned.into_message ≡ false
  pub conf : Configuration
  pub configured : IsConfigured turned.conf (found ConfFile) conf
  pub next : Configuration
  pub next_configured : IsConfigured returned.conf (other ConfFile) next
  pub scheme : next.scheme ≡ conf.scheme

-- The input is the text of a list that is turned into a message. Where its authority is one, or it
-- is a response, the outcome is the text of that list, with its pseudo-header fields in one order
-- and each other value as a message has it.
pub record HasComeBack (scheme : Scheme) (input : List ℕ) (outcome : Outcome) : Type 0 where
  pub list : FieldList
  pub listed : IsListText input list
  pub message : Message
  pub turned : TurnsInto list scheme message
  pub back : HasAuthority turned.control
      → outcome ≡ Written (list_text (normal_list turned.control turned.others list))

-- What `lists` writes as a message of a list, given to `lists`, comes back as the list.
abbrev pub HasComeBackWhereTurned : Type 0
HasComeBackWhereTurned =
    (turning returning : List (List ℕ)) (turned returned : ListsWords) (found other : Found)
    (input written : List ℕ) (outcome : Outcome) → IsCommand turning (Lists turned)
    → IsCommand returning (Lists returned)
    → (both : TurnsAndReturns turned returned found other)
    → Reports turning found input (Written written) → Reports returning other written outcome
    → HasComeBack both.conf.scheme input outcome

-- ---- what is audited

-- The outcome is the report on the chain that the input records, by this configuration. Where a
-- line of it says that a label's signature permits a hop, it is kept or lacking.
pub record IsSoundAudit (conf : Configuration) (input : List ℕ) (outcome : Outcome)
    : Type 0 where
  pub items : List PlacedItem
  pub recorded : IsRecordingText input items
  pub chain : Chain
  pub are : AreItemsOf items chain
  pub lines : List AuditLine
  pub report : IsReport conf chain lines
  pub outcome_is : outcome ≡ audit_outcome lines
  pub sound : IsSoundReport chain lines

-- What `audit` writes is such a report.
abbrev pub IsKeptWherePermitted : Type 0
IsKeptWherePermitted =
    (arguments : List (List ℕ)) (words : AuditWords) (found : Found) (input : List ℕ)
    (outcome : Outcome) → IsCommand arguments (Audit words)
    → Reports arguments found input outcome → IsAnswered outcome
    → (conf : Configuration) × IsConfigured (Some words.conf) (found ConfFile) conf
    × IsSoundAudit conf input outcome

-- ---- a stream

-- the file of this name says a configuration with all that a gateway needs, and by it the input is
-- the recording of messages in their places
pub record IsServable (words : GatewayWords) (found : Found) (input : List ℕ) : Type 0 where
  pub conf : Configuration
  pub read : IsConfRead GatewayTables (Some words.conf) (found ConfFile) conf
  pub settings : GatewayConf
  pub settings_are : conf.gateway ≡ Some settings
  pub records : List GatewayRecord
  pub served : IsServedWhole conf settings input records

-- the first of the records were written when this fault came; where a write failed, the last of
-- these in part
pub record WritesFirst (records : List GatewayRecord) (taken now : Option (List ℕ))
    (fault : StreamFault) : Type 0 where
  pub first : List GatewayRecord
  pub rest : List GatewayRecord
  pub parts : records ≡ first ++ rest
  pub written : WritesRecords first taken now fault

-- What was written, by the status: each of the records, where each message passes or one doesn't;
-- or the first of them, where a device failed or no memory was found. No other status comes.
abbrev pub WritesServed : List GatewayRecord → Option (List ℕ) → Option (List ℕ) → Status
    → Type 0
WritesServed records taken now Done =
    Appends taken now (records_text records) × IsTrue (list_all is_pass records)
WritesServed records taken now NotOk =
    Appends taken now (records_text records) × IsFalse (list_all is_pass records)
WritesServed records taken now ReadFault = WritesFirst records taken now stream.NotRead
WritesServed records taken now WriteFault = WritesFirst records taken now stream.NotWritten
WritesServed records taken now OutOfMemory = WritesFirst records taken now stream.Memory
WritesServed records taken now status = ⊥

-- A run of `gateway` over it isn't refused: no refusal is told, and nothing but records is written.
abbrev pub IsServedInPlace : Type 0
IsServedInPlace =
    (words : GatewayWords) (found : Found) (input : List ℕ)
    (left_now taken now : Option (List ℕ)) (status : Status) (told : Option Refusal)
    (servable : IsServable words found input)
    → EndsBefore words found taken now status told
    ⊎ EndsServed words found (Some input) left_now taken now status told
    → WritesServed servable.records taken now status × (told ≡ None)
