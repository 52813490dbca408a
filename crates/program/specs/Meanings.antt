-- What the program's output tells of the messages that it was given (RFC 9421 sections 2.5, 3.2).
use Rattle.std.specs.Prelude.{◌≡◌, ◌⊎◌, ◌↔◌, ℕ, ◌+◌, Bool, List, slice_get, Option, Some, IfSome, IsSomeAnd}
use Rattle.std.specs.Io.KnownBytes.{Appends}
use Rattle.std.specs.List.{All, Contains, zip}
use Rattle.hms_io.specs.Files.{FileMap}
use Rattle.hms_io.specs.declared.status.Status.{Status}
use Rattle.hms_io.specs.declared.status.Status.TheVariants.{Done, NotOk}
use Rattle.command_line.specs.Command.{Base, Verify, Sign, Rewrite, Explain, Audit, Lists, Negotiate, BaseWords, VerifyWords, SignWords, RewriteWords, ExplainWords, AuditWords, ListsWords, NegotiateWords, IsCommand}
use Rattle.framing.specs.Framings.{is_request}
use Rattle.msg_body.specs.Messages.{Message, Spells}
use Rattle.msg_body.specs.WholeTexts.{reading_for}
use Rattle.sfv_text.specs.declared.pair.Pair.{Pair}
use Rattle.sfv_text.specs.declared.value.Member.{Member}
use Rattle.component_ids.specs.declared.id.ComponentId.{ComponentId}
use Rattle.component_ids.specs.declared.params.SigParams.{SigParams}
use Rattle.component_values.specs.Context.{MessageContext, answers_head}
use Rattle.component_values.specs.Laws.{HasMessages}
use Rattle.component_values.specs.Values.{HaveValues}
use Rattle.signatures.specs.BaseLaws.{HaveBase}
use Rattle.signatures.specs.SignatureBase.{signature_base}
use Rattle.conf.specs.Configuration.{Configuration}
use Rattle.content_digest.specs.declared.algorithm.Algorithm.{Algorithm}
use Rattle.signatures.specs.Signatures.{HasDict, HasSignature}
use Rattle.signing.specs.Wishes.{wish_name}
use Rattle.negotiation.specs.Laws.{IsSignedAsWished}
use Rattle.negotiation.specs.NegotiateCauses.{HasDigestBy, HasRightDigests}
use Rattle.negotiation.specs.Preferences.{IsChosen}
use Rattle.verdicts.specs.Contexts.{context_for}
use Rattle.verdicts.specs.Laws.{Agree, IsRightlySigned, IsTagOfTwo, base_of}
use Rattle.verdicts.specs.VerdictLine.{verdict_line}
use Rattle.verdicts.specs.Verdicts.{Accepts}
use Rattle.verdicts.specs.Verification.{Verification, verification_for}
use Rattle.verdicts.specs.declared.outcome.Verdict.{Verdict}
use Rattle.verdicts.specs.declared.outcome.Verdict.TheVariants.{Ok as Accepted}
use Rattle.rewrite_script.specs.declared.rewrite.Rewrite.{Rewrite as Rewriting}
use Rattle.rewrites.specs.Laws.{KeepsSignature}
use Rattle.rewrites.specs.Steps.{Steps}
use Rattle.normal_forms.specs.Agreement.{AgreeOn}
use Rattle.normal_forms.specs.Explanations.{AreExplained, DifferFirstAt}
use Rattle.recording.specs.Items.{PlacedItem}
use Rattle.hop_audit.specs.ChainValues.{Chain}
use Rattle.hop_audit.specs.Laws.{AcceptsChange, HasTagOfTwo, IsKeptWithItsBaseAt, IsSoundReport}
use Rattle.hop_audit.specs.Lines.{line_text, report_text}
use Rattle.hop_audit.specs.Report.{AreItemsOf, IsReport}
use Rattle.hop_audit.specs.declared.line.AuditLine.{AuditLine}
use Rattle.hop_audit.specs.declared.line.AuditLine.TheVariants.{Label as LabelLine}
use Rattle.hop_audit.specs.declared.line.Fate.{Fate}
use Rattle.refusals.specs.Laws.{IsLine}
use Rattle.commands.specs.Audit.{IsRecordingText}
use Rattle.intake.specs.Configured.{IsConfigured}
use Rattle.commands.specs.Covered.{ReadsParams}
use Rattle.commands.specs.Explain.{differing_text, explained_text}
use Rattle.intake.specs.Files.{Found, Conf as ConfFile, Request as RequestFile, Wanted as WantedFile, Script as ScriptFile, Other as OtherFile}
use Rattle.intake.specs.MessageFiles.{IsMessageFile, IsRequested, IsWanted}
use Rattle.intake.specs.Messages.{IsInputMessage}
use Rattle.intake.specs.Scripts.{IsScripted}
use Rattle.commands.specs.Outcome.{output_of, status_of}
use Rattle.commands.specs.Rewrite.{IsTaken}
use Rattle.commands.specs.SignedMessages.{SignsAs}
use Rattle.commands.specs.Verify.{AreAsked, verdict_lines}
use Rattle.commands.specs.declared.outcome.Outcome.{Outcome}
use Rattle.commands.specs.declared.outcome.Outcome.TheVariants.{Done as Written}
use Rattle.program.specs.Commands.{AreFoundFor}
use Rattle.program.specs.Laws.{TellsTurned}
use Rattle.program.specs.Report.{Reports}

-- ---- `base`

-- The output is the signature base of the parameters that were asked for and of the values that the
-- components have in the input. No other parameters and no other values have it.
pub record TellsOneBase (words : BaseWords) (found : Found) (input output : List ℕ)
    : Type 0 where
  pub conf : Configuration
  pub configured : IsConfigured words.conf (found ConfFile) conf
  pub related : Option Message
  pub requested : IsRequested words.request (found RequestFile) related
  pub message : Message
  pub is : IsInputMessage (reading_for related) input message
  pub params : SigParams
  pub reads : ReadsParams words.params params
  pub values : List (List ℕ)
  pub have : HaveValues (context_for conf message related) params.ids values
  pub one : (others : SigParams) (also : List (List ℕ)) → HaveBase others also
      → (output ≡ signature_base others also) ↔ ((others ≡ params) × (also ≡ values))

-- what `base` writes is so
abbrev pub HasOneBase : Type 0
HasOneBase =
    (arguments : List (List ℕ)) (words : BaseWords) (found : Found) (input output : List ℕ)
    → IsCommand arguments (Base words) → Reports arguments found input (Written output)
    → TellsOneBase words found input output

-- ---- `verify`

-- The label is accepted. Whatever else is accepted with its tag under its key, of any message, has
-- the same signature parameters and the same value of each covered component; or the tag is the
-- HMAC of both signature bases, which differ.
pub record HasOneMeaning (v : Verification) (keyid : List ℕ) : Type 0 where
  pub accepts : Accepts v keyid
  pub messages : HasMessages v.context
  pub one : (w : Verification) (another : List ℕ) (other : Accepts w another)
      → HasMessages w.context → accepts.tag ≡ other.tag → accepts.key ≡ other.key
      → Agree accepts other
      ⊎ IsTagOfTwo accepts.key accepts.tag (base_of accepts) (base_of other)

-- The output has the line of each label that was asked for, whose one LF is its end, and a label
-- whose line is `ok` has one meaning.
pub record TellsVerdicts (words : VerifyWords) (found : Found) (input output : List ℕ)
    : Type 0 where
  pub conf : Configuration
  pub configured : IsConfigured (Some words.conf) (found ConfFile) conf
  pub related : Option Message
  pub requested : IsRequested words.request (found RequestFile) related
  pub message : Message
  pub is : IsInputMessage (reading_for related) input message
  pub labels : List (List ℕ)
  pub asked : AreAsked words.label message labels
  pub verdicts : List Verdict
  pub written : output ≡ verdict_lines labels verdicts
  pub lines : All (λ line. IsLine (verdict_line line)) (zip labels verdicts)
  pub ok : (label keyid : List ℕ) → Contains (zip labels verdicts) (label, Accepted keyid)
      → HasOneMeaning
      (verification_for conf words.now (context_for conf message related) label) keyid

-- what `verify` writes is so
abbrev pub HaveOneMeaning : Type 0
HaveOneMeaning =
    (arguments : List (List ℕ)) (words : VerifyWords) (found : Found) (input : List ℕ)
    (outcome : Outcome) → IsCommand arguments (Verify words)
    → Reports arguments found input outcome
    → (status_of outcome ≡ Done) ⊎ (status_of outcome ≡ NotOk)
    → TellsVerdicts words found input (output_of outcome)

-- Labels that are `ok` in both outputs with one tag under one key have the same signature
-- parameters and the same value of each covered component, or the tag is the HMAC of two bases.
abbrev pub AgreeWhereOneTag : {words other_words : VerifyWords} {found other_found : Found}
    {input other_input output other_output : List ℕ}
    → TellsVerdicts words found input output
    → TellsVerdicts other_words other_found other_input other_output → Type 0
AgreeWhereOneTag one other =
    (label other_label keyid other_keyid : List ℕ)
    (ok : Contains (zip one.labels one.verdicts) (label, Accepted keyid))
    (also : Contains (zip other.labels other.verdicts) (other_label, Accepted other_keyid))
    → (one.ok label keyid ok).accepts.tag ≡ (other.ok other_label other_keyid also).accepts.tag
    → (one.ok label keyid ok).accepts.key ≡ (other.ok other_label other_keyid also).accepts.key
    → Agree (one.ok label keyid ok).accepts (other.ok other_label other_keyid also).accepts
    ⊎ IsTagOfTwo (one.ok label keyid ok).accepts.key (one.ok label keyid ok).accepts.tag
    (base_of (one.ok label keyid ok).accepts)
    (base_of (other.ok other_label other_keyid also).accepts)

-- So it is with any two runs of `verify`.
abbrev pub RunsAgreeWhereOneTag : Type 0
RunsAgreeWhereOneTag =
    (words other_words : VerifyWords) (found other_found : Found)
    (input other_input output other_output : List ℕ)
    (one : TellsVerdicts words found input output)
    (other : TellsVerdicts other_words other_found other_input other_output)
    → AgreeWhereOneTag one other

-- ---- `sign`

-- The output is a message in which each label that the input had keeps its signature parameters and
-- its tag, and each label that was signed is rightly signed.
pub record TellsSigned (words : SignWords) (found : Found) (input output : List ℕ) : Type 0 where
  pub conf : Configuration
  pub configured : IsConfigured (Some words.conf) (found ConfFile) conf
  pub related : Option Message
  pub requested : IsRequested words.request (found RequestFile) related
  pub wishes : Option Message
  pub wanted : IsWanted words.wanted (found WantedFile) wishes
  pub message : Message
  pub is : IsInputMessage (reading_for related) input message
  pub written : Message
  pub spells : Spells (answers_head related) written output
  pub kept : (label : List ℕ) (params : SigParams) (tag : List ℕ)
      → HasSignature message label params tag → HasSignature written label params tag
  pub right : (label keyid : List ℕ) → SignsAs conf wishes label keyid
      → IsRightlySigned
      (verification_for conf words.now (context_for conf written related) label) keyid

-- what `sign` writes is so
abbrev pub HasSigned : Type 0
HasSigned =
    (arguments : List (List ℕ)) (words : SignWords) (found : Found) (input output : List ℕ)
    → IsCommand arguments (Sign words) → Reports arguments found input (Written output)
    → TellsSigned words found input output

-- ---- `negotiate`

-- The output is the response with each signature that the request wishes: of its label, components
-- and parameters, and rightly signed. Each label that the response had keeps its signature
-- parameters and its tag. Where the request asks for a digest, it is there, and it is right.
pub record TellsNegotiated (words : NegotiateWords) (found : Found) (input output : List ℕ)
    : Type 0 where
  pub conf : Configuration
  pub configured : IsConfigured (Some words.conf) (found ConfFile) conf
  pub request : Message
  pub requested : IsRequested (Some words.request) (found RequestFile) (Some request)
  pub message : Message
  pub is : IsInputMessage (reading_for (Some request)) input message
  pub written : Message
  pub spells : Spells (answers_head (Some request)) written output
  pub wished : (wishes : List (Pair Member)) (wish : Pair Member)
      → HasDict request wish_name wishes → Contains wishes wish
      → IsSignedAsWished conf words.now (context_for conf written (Some request)) wish
  pub kept : (label : List ℕ) (params : SigParams) (tag : List ℕ)
      → HasSignature message label params tag → HasSignature written label params tag
  pub digest : (algorithm : Algorithm) → IsChosen request algorithm
      → HasDigestBy written algorithm × HasRightDigests written

-- what `negotiate` writes is so
abbrev pub HasNegotiated : Type 0
HasNegotiated =
    (arguments : List (List ℕ)) (words : NegotiateWords) (found : Found)
    (input output : List ℕ) → IsCommand arguments (Negotiate words)
    → Reports arguments found input (Written output) → TellsNegotiated words found input output

-- ---- `rewrite`

-- The output is the message to which the steps of the script lead, each taken on the message that
-- the one before it gave. It is of the kind of the input, and where a label is given it has the
-- label's signature, with the same parameters, tag and base, over the same values and the same
-- content; so it has the same verdict.
pub record TellsRewritten (words : RewriteWords) (found : Found) (input output : List ℕ)
    : Type 0 where
  pub conf : Configuration
  pub configured : IsConfigured words.conf (found ConfFile) conf
  pub related : Option Message
  pub requested : IsRequested words.request (found RequestFile) related
  pub script : List Rewriting
  pub scripted : IsScripted (Some words.script) (found ScriptFile) script
  pub message : Message
  pub is : IsInputMessage (reading_for related) input message
  pub written : Message
  pub spells : Spells (answers_head related) written output
  pub kind : is_request written.head.start ≡ is_request message.head.start
  pub steps : Steps (IsTaken words.label) (context_for conf message related) script written
  pub kept : (label : List ℕ) (params : SigParams) (tag : List ℕ) → words.label ≡ Some label
      → HasSignature message label params tag
      → KeepsSignature (context_for conf message related) label params tag written

-- what `rewrite` writes is so
abbrev pub HasRewritten : Type 0
HasRewritten =
    (arguments : List (List ℕ)) (words : RewriteWords) (found : Found) (input output : List ℕ)
    → IsCommand arguments (Rewrite words) → Reports arguments found input (Written output)
    → TellsRewritten words found input output

-- ---- `explain`

-- The output has two lists of steps, each of which the label's signature permits on the message
-- that it meets. They lead the two messages to normal ones, which are alike.
pub record TellsSteps (context other : MessageContext) (label : List ℕ) (params : SigParams)
    (output : List ℕ) : Type 0 where
  pub steps : List Rewriting
  pub others : List Rewriting
  pub are : AreExplained context other label params steps others
  pub written : output ≡ explained_text steps others

-- the output has the first component that is covered and on which the messages don't agree
pub record TellsDifference (message other : Message) (params : SigParams) (output : List ℕ)
    : Type 0 where
  pub index : ℕ
  pub first : DifferFirstAt message other index params.ids
  pub written : IsSomeAnd (slice_get params.ids index) (λ id. output ≡ differing_text id)

-- The label has one signature in both messages. The steps are told exactly where the messages agree
-- on each component that it covers, and else the first on which they don't.
pub record IsExplanation (context other : MessageContext) (label : List ℕ) (status : Status)
    (output : List ℕ) : Type 0 where
  pub params : SigParams
  pub tag : List ℕ
  pub signature : HasSignature context.message label params tag
  pub other_signature : HasSignature other.message label params tag
  pub exact : (status ≡ Done) ↔ All (AgreeOn context.message other.message) params.ids
  pub steps : status ≡ Done → TellsSteps context other label params output
  pub difference : status ≡ NotOk → TellsDifference context.message other.message params output

-- the same of the input and of the message in the other file
pub record TellsExplanation (words : ExplainWords) (status : Status) (found : Found)
    (input output : List ℕ) : Type 0 where
  pub conf : Configuration
  pub configured : IsConfigured words.conf (found ConfFile) conf
  pub related : Option Message
  pub requested : IsRequested words.request (found RequestFile) related
  pub other : Message
  pub recorded : IsMessageFile (reading_for related) (Some words.other) (found OtherFile)
      (Some other)
  pub message : Message
  pub is : IsInputMessage (reading_for related) input message
  pub explains : IsExplanation (context_for conf message related) (context_for conf other related)
      words.label status output

-- what `explain` writes is so
abbrev pub HasExplanation : Type 0
HasExplanation =
    (arguments : List (List ℕ)) (words : ExplainWords) (found : Found) (input : List ℕ)
    (outcome : Outcome) → IsCommand arguments (Explain words)
    → Reports arguments found input outcome
    → (status_of outcome ≡ Done) ⊎ (status_of outcome ≡ NotOk)
    → TellsExplanation words (status_of outcome) found input (output_of outcome)

-- ---- `audit`

-- The output is the report on the chain that the input records; the one LF of each line is its end.
-- A label's fate is kept exactly where the message after the hop has the label with the same
-- parameters and tag, and both bases are the same text. Where a label is accepted before and after
-- a hop and one of its components has changed, two bases have one HMAC. A label for which a hop is
-- permitted is kept or lacking, and where both messages have one moment, its verdict is the same in
-- both.
pub record TellsOneChain (words : AuditWords) (found : Found) (input output : List ℕ)
    : Type 0 where
  pub conf : Configuration
  pub configured : IsConfigured (Some words.conf) (found ConfFile) conf
  pub items : List PlacedItem
  pub recorded : IsRecordingText input items
  pub chain : Chain
  pub are : AreItemsOf items chain
  pub lines : List AuditLine
  pub report : IsReport conf chain lines
  pub written : output ≡ report_text lines
  pub each : All (λ line. IsLine (line_text line)) lines
  pub kept : (index : ℕ) (label : List ℕ) (permitted : Bool) (fate : Fate)
      → Contains lines (LabelLine (index + 1) label permitted fate)
      → IsKeptWithItsBaseAt conf chain index label fate
  pub changed : (index : ℕ) (label : List ℕ) (id : ComponentId) (keyid : List ℕ)
      → AcceptsChange lines index label id keyid → HasTagOfTwo conf chain index label keyid
  pub sound : IsSoundReport chain lines

-- what `audit` writes is so
abbrev pub HasOneChain : Type 0
HasOneChain =
    (arguments : List (List ℕ)) (words : AuditWords) (found : Found) (input : List ℕ)
    (outcome : Outcome) → IsCommand arguments (Audit words)
    → Reports arguments found input outcome
    → (status_of outcome ≡ Done) ⊎ (status_of outcome ≡ NotOk)
    → TellsOneChain words found input (output_of outcome)

-- ---- of a run

-- Some output was added to the known bytes, and it tells this of what was found in the files and of
-- some input. Where the bytes of the source are known, they are that input.
pub record HasWritten (Tells : Found → List ℕ → List ℕ → Type 0) (IsOfFiles : Found → Type 0)
    (before taken now : Option (List ℕ)) : Type 0 where
  pub found : Found
  pub files : IsOfFiles found
  pub input : List ℕ
  pub known : IfSome before (λ bytes. bytes ≡ input)
  pub output : List ℕ
  pub appended : Appends taken now output
  pub tells : Tells found input output

-- where `base` is done, one base was written
abbrev pub WritesOneBase : List (List ℕ) → Option FileMap → Option (List ℕ) → Option (List ℕ)
    → Option (List ℕ) → Status → Type 0
WritesOneBase arguments shelf before taken now status =
    (words : BaseWords) → IsCommand arguments (Base words) → status ≡ Done
    → HasWritten (TellsOneBase words) (AreFoundFor arguments shelf) before taken now

-- where `verify` is done, whether each label is `ok` or not, each that is has one meaning
abbrev pub WritesVerdicts : List (List ℕ) → Option FileMap → Option (List ℕ) → Option (List ℕ)
    → Option (List ℕ) → Status → Type 0
WritesVerdicts arguments shelf before taken now status =
    (words : VerifyWords) → IsCommand arguments (Verify words)
    → (status ≡ Done) ⊎ (status ≡ NotOk)
    → HasWritten (TellsVerdicts words) (AreFoundFor arguments shelf) before taken now

-- where `sign` is done, a signed message was written
abbrev pub WritesSigned : List (List ℕ) → Option FileMap → Option (List ℕ) → Option (List ℕ)
    → Option (List ℕ) → Status → Type 0
WritesSigned arguments shelf before taken now status =
    (words : SignWords) → IsCommand arguments (Sign words) → status ≡ Done
    → HasWritten (TellsSigned words) (AreFoundFor arguments shelf) before taken now

-- where `negotiate` is done, a response that is signed as its request asks was written
abbrev pub WritesNegotiated : List (List ℕ) → Option FileMap → Option (List ℕ)
    → Option (List ℕ) → Option (List ℕ) → Status → Type 0
WritesNegotiated arguments shelf before taken now status =
    (words : NegotiateWords) → IsCommand arguments (Negotiate words) → status ≡ Done
    → HasWritten (TellsNegotiated words) (AreFoundFor arguments shelf) before taken now

-- where `rewrite` is done, the message after the steps was written
abbrev pub WritesRewritten : List (List ℕ) → Option FileMap → Option (List ℕ)
    → Option (List ℕ) → Option (List ℕ) → Status → Type 0
WritesRewritten arguments shelf before taken now status =
    (words : RewriteWords) → IsCommand arguments (Rewrite words) → status ≡ Done
    → HasWritten (TellsRewritten words) (AreFoundFor arguments shelf) before taken now

-- where `lists` is done, a message or a list with the same values was written
abbrev pub WritesTurned : List (List ℕ) → Option FileMap → Option (List ℕ) → Option (List ℕ)
    → Option (List ℕ) → Status → Type 0
WritesTurned arguments shelf before taken now status =
    (words : ListsWords) → IsCommand arguments (Lists words) → status ≡ Done
    → HasWritten (TellsTurned words) (AreFoundFor arguments shelf) before taken now

-- where `explain` is done, whether the messages agree or not, an explanation was written
abbrev pub WritesExplanation : List (List ℕ) → Option FileMap → Option (List ℕ)
    → Option (List ℕ) → Option (List ℕ) → Status → Type 0
WritesExplanation arguments shelf before taken now status =
    (words : ExplainWords) → IsCommand arguments (Explain words)
    → (status ≡ Done) ⊎ (status ≡ NotOk)
    → HasWritten (TellsExplanation words status) (AreFoundFor arguments shelf) before taken now

-- where `audit` is done, whether a line counts against the chain or none, one chain was told
abbrev pub WritesOneChain : List (List ℕ) → Option FileMap → Option (List ℕ) → Option (List ℕ)
    → Option (List ℕ) → Status → Type 0
WritesOneChain arguments shelf before taken now status =
    (words : AuditWords) → IsCommand arguments (Audit words)
    → (status ≡ Done) ⊎ (status ≡ NotOk)
    → HasWritten (TellsOneChain words) (AreFoundFor arguments shelf) before taken now
