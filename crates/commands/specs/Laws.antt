-- Laws of what a command makes of what was read.
use Rattle.std.specs.Prelude.{◌≡◌, ◌⊎◌, ℕ, IsTrue, List, Option, Some, IsSome}
use Rattle.std.specs.FinMap as map
use Rattle.hms_io.specs.declared.status.Status.TheVariants.{Done, NotOk}
use Rattle.std.specs.List.{list_all}
use Rattle.sfv_text.specs.Classes.{is_byte}
use Rattle.component_ids.specs.declared.id.ComponentId.{ComponentId}
use Rattle.component_values.specs.Context.{MessageContext, HasWholeMessage, answers_head, context_with}
use Rattle.component_values.specs.Values.{HaveValues}
use Rattle.msg_body.specs.Messages.{Message, IsMessage}
use Rattle.conf.specs.Configuration.{Configuration}
use Rattle.settings.specs.declared.sign_conf.SignConf.{SignConf}
use Rattle.commands.specs.Audit.{IsRecordingText, IsRecordingRefused, IsChainRefused, ReportsAudit}
use Rattle.commands.specs.Base.{AreParamsRefused, IsValueLacking}
use Rattle.commands.specs.Covered.{ReadsParams}
use Rattle.commands.specs.Explain.{ReportsExplanation}
use Rattle.intake.specs.Layers.{IsDecisive, HasAnswer}
use Rattle.commands.specs.Lists.{IsListText, IsListRefused, ReportsIntoFields, ReportsIntoMessage}
use Rattle.commands.specs.Negotiate.{ReportsNegotiation}
use Rattle.recording.specs.Items.{PlacedItem}
use Rattle.hop_audit.specs.Report.{IsAudit}
use Rattle.rewrite_script.specs.Lines.{is_writable}
use Rattle.rewrite_script.specs.declared.rewrite.Rewrite.{Rewrite}
use Rattle.commands.specs.Rewrite.{ReportsRewriting}
use Rattle.commands.specs.Outcome.{status_of}
use Rattle.commands.specs.Sample.{ReportsSample}
use Rattle.commands.specs.Sign.{ReportsSigning}
use Rattle.commands.specs.Verify.{ReportsVerdicts}
use Rattle.commands.specs.declared.outcome.Outcome.{Outcome}

-- PARAMS are at most one value of signature parameters, or are refused for at most one cause
abbrev pub AreParamsDecided : Type 0
AreParamsDecided = (params : List ℕ) → IsDecisive (ReadsParams params) (AreParamsRefused params)

-- components have at most one list of values, or at most one is the first that lacks its value
abbrev pub AreValuesDecided : Type 0
AreValuesDecided =
    (context : MessageContext) (ids : List ComponentId)
    → IsDecisive (HaveValues context ids) (IsValueLacking context ids)

-- an input is the recording of at most one list of items, or is refused for at most one cause
abbrev pub IsRecordingDecided : Type 0
IsRecordingDecided =
    (input : List ℕ) → IsDecisive (IsRecordingText input) (IsRecordingRefused input)

-- an input is the text of at most one list of fields, or is refused for at most one cause
abbrev pub IsListDecided : Type 0
IsListDecided = (input : List ℕ) → IsDecisive (IsListText input) (IsListRefused input)

-- items have at most one report, or are refused as a chain for at most one cause
abbrev pub IsChainDecided : Type 0
IsChainDecided =
    (conf : Configuration) (items : List PlacedItem)
    → IsDecisive (IsAudit conf items) (IsChainRefused items)

-- a label or none, a moment, a configuration and a context have at most one outcome
abbrev pub HaveOneOutcome : Type 0
HaveOneOutcome =
    (label : Option (List ℕ)) (moment : ℕ) (conf : Configuration) (context : MessageContext)
    (one other : Outcome) → ReportsVerdicts label moment conf context one
    → ReportsVerdicts label moment conf context other → one ≡ other

-- a nonce or none, a moment, a configuration that says what is signed, wishes or none, and a
-- context have at most one outcome
abbrev pub HasOneSigning : Type 0
HasOneSigning =
    (nonce : Option (List ℕ)) (moment : ℕ) (conf : Configuration) (wishes : Option Message)
    (context : MessageContext) (one other : Outcome) → IsSome conf.sign
    → ReportsSigning nonce moment conf wishes context one
    → ReportsSigning nonce moment conf wishes context other → one ≡ other

-- a label or none, a script and a context have at most one outcome
abbrev pub HasOneRewritten : Type 0
HasOneRewritten =
    (label : Option (List ℕ)) (script : List Rewrite) (context : MessageContext)
    (one other : Outcome) → ReportsRewriting label script context one
    → ReportsRewriting label script context other → one ≡ other

-- a label, another record of a message and the message's context have at most one outcome of
-- `explain`
abbrev pub HasOneExplained : Type 0
HasOneExplained =
    (label : List ℕ) (also : Message) (context : MessageContext) (one other : Outcome)
    → ReportsExplanation label also context one
    → ReportsExplanation label also context other → one ≡ other

-- a configuration and an input have at most one outcome of `audit`
abbrev pub HasOneAuditing : Type 0
HasOneAuditing =
    (conf : Configuration) (input : List ℕ) (one other : Outcome) → ReportsAudit conf input one
    → ReportsAudit conf input other → one ≡ other

-- a configuration and an input have at most one outcome of `lists --into message`
abbrev pub HasOneIntoMessage : Type 0
HasOneIntoMessage =
    (conf : Configuration) (input : List ℕ) (one other : Outcome)
    → ReportsIntoMessage conf input one → ReportsIntoMessage conf input other → one ≡ other

-- a context has at most one outcome of `lists --into fields`
abbrev pub HasOneIntoFields : Type 0
HasOneIntoFields =
    (context : MessageContext) (one other : Outcome) → ReportsIntoFields context one
    → ReportsIntoFields context other → one ≡ other

-- a moment, a configuration that says what is signed, and the context of a response have at most
-- one outcome of `negotiate`
abbrev pub HasOneNegotiation : Type 0
HasOneNegotiation =
    (moment : ℕ) (conf : Configuration) (context : MessageContext) (one other : Outcome)
    → IsSome conf.sign → ReportsNegotiation moment conf context one
    → ReportsNegotiation moment conf context other → one ≡ other

-- a seed and a number of hops have at most one outcome of `sample`
abbrev pub HasOneSampling : Type 0
HasOneSampling =
    (seed count : ℕ) (one other : Outcome) → ReportsSample seed count one
    → ReportsSample seed count other → one ≡ other

-- ---- each has an answer

-- PARAMS are signature parameters, or there is a cause to refuse them
abbrev pub HaveParams : Type 0
HaveParams = (params : List ℕ) → HasAnswer (ReadsParams params) (AreParamsRefused params)

-- components have values, or one of them is the first that lacks its value
abbrev pub HaveValuesOrLack : Type 0
HaveValuesOrLack =
    (context : MessageContext) (ids : List ComponentId)
    → HasAnswer (HaveValues context ids) (IsValueLacking context ids)

-- an input of bytes is a recording, or there is a cause to refuse it
abbrev pub HasRecording : Type 0
HasRecording =
    (input : List ℕ) → IsTrue (list_all is_byte input)
    → HasAnswer (IsRecordingText input) (IsRecordingRefused input)

-- an input of bytes is the text of a list of fields, or there is a cause to refuse it
abbrev pub HasList : Type 0
HasList =
    (input : List ℕ) → IsTrue (list_all is_byte input)
    → HasAnswer (IsListText input) (IsListRefused input)

-- the items of a recording have a report, or there is a cause to refuse them as a chain
abbrev pub HasAudit : Type 0
HasAudit =
    (conf : Configuration) (input : List ℕ) (items : List PlacedItem)
    → IsRecordingText input items → HasAnswer (IsAudit conf items) (IsChainRefused items)

-- a label or none, a moment, a configuration and a context have an outcome
abbrev pub HaveSomeOutcome : Type 0
HaveSomeOutcome =
    (label : Option (List ℕ)) (moment : ℕ) (conf : Configuration) (context : MessageContext)
    → (outcome : Outcome) × ReportsVerdicts label moment conf context outcome

-- a nonce or none, a moment, a configuration that says what is signed and by which key, wishes or
-- none, and a context have an outcome
abbrev pub HasSomeSigning : Type 0
HasSomeSigning =
    (nonce : Option (List ℕ)) (moment : ℕ) (conf : Configuration) (wishes : Option Message)
    (context : MessageContext) (sign : SignConf) → conf.sign ≡ Some sign
    → IsSome (map.get conf.keys sign.keyid)
    → (outcome : Outcome) × ReportsSigning nonce moment conf wishes context outcome

-- a label or none, a script that lines can write, and a context of a message have an outcome
abbrev pub HasSomeRewritten : Type 0
HasSomeRewritten =
    (label : Option (List ℕ)) (script : List Rewrite) (context : MessageContext)
    → IsTrue (list_all is_writable script)
    → IsMessage (answers_head context.related) context.message
    → (outcome : Outcome) × ReportsRewriting label script context outcome

-- a label, another record of a message and the message's context have an outcome of `explain`
abbrev pub HasSomeExplained : Type 0
HasSomeExplained =
    (label : List ℕ) (also : Message) (context : MessageContext) → HasWholeMessage context
    → HasWholeMessage (context_with context also)
    → (outcome : Outcome) × ReportsExplanation label also context outcome

-- a configuration and an input of bytes have an outcome of `audit`
abbrev pub HasSomeAuditing : Type 0
HasSomeAuditing =
    (conf : Configuration) (input : List ℕ) → IsTrue (list_all is_byte input)
    → (outcome : Outcome) × ReportsAudit conf input outcome

-- a configuration and an input of bytes have an outcome of `lists --into message`
abbrev pub HasSomeIntoMessage : Type 0
HasSomeIntoMessage =
    (conf : Configuration) (input : List ℕ) → IsTrue (list_all is_byte input)
    → (outcome : Outcome) × ReportsIntoMessage conf input outcome

-- a context has an outcome of `lists --into fields`
abbrev pub HasSomeIntoFields : Type 0
HasSomeIntoFields =
    (context : MessageContext) → (outcome : Outcome) × ReportsIntoFields context outcome

-- a moment, a configuration that says what is signed, and the context of a response whose request
-- is known have an outcome of `negotiate`
abbrev pub HasSomeNegotiation : Type 0
HasSomeNegotiation =
    (moment : ℕ) (conf : Configuration) (context : MessageContext) → IsSome conf.sign
    → IsSome context.related
    → (outcome : Outcome) × ReportsNegotiation moment conf context outcome

-- they have an outcome of `sample`, which is what was asked for
abbrev pub HasSomeSampling : Type 0
HasSomeSampling =
    (seed count : ℕ) → (outcome : Outcome) × ReportsSample seed count outcome
    × ((status_of outcome ≡ Done) ⊎ (status_of outcome ≡ NotOk))
