-- Laws of audits.
use Rattle.std.specs.Prelude.{◌≡◌, ◌↔◌, ◌⊎◌, ⊤, ℕ, ◌+◌, Bool, true, ◌&&◌, IsTrue, Option, Some, List, ◌++◌, slice_get, codes}
use Rattle.std.specs.List.{All, Contains, list_all}
use Rattle.msg_body.specs.Messages.{Message}
use Rattle.component_ids.specs.declared.id.ComponentId.{ComponentId}
use Rattle.component_ids.specs.declared.params.SigParams.{SigParams}
use Rattle.component_values.specs.Context.{MessageContext, context_with}
use Rattle.component_values.specs.Laws.{HasMessages, IsSpelled}
use Rattle.nonces.specs.Books.{Book}
use Rattle.settings.specs.Configuration.{Configuration}
use Rattle.signatures.specs.Signatures.{HasSignature}
use Rattle.rewrite_script.specs.Lines.{is_writable}
use Rattle.rewrite_script.specs.Scripts.{HaveValues}
use Rattle.rewrite_script.specs.declared.rewrite.Rewrite.{Rewrite}
use Rattle.rewrites.specs.Laws.{IsBaseOf, verification_over}
use Rattle.verdicts.specs.Laws.{IsTagOfTwo}
use Rattle.verdicts.specs.Rules.{key_in}
use Rattle.verdicts.specs.Verdicts.{IsVerdict}
use Rattle.verdicts.specs.declared.outcome.Verdict.{Verdict}
use Rattle.verdicts.specs.declared.outcome.Verdict.TheVariants.{Ok as Accepted, Rule as Failing}
use Rattle.signatures.specs.declared.place.Place.{Place}
use Rattle.signatures.specs.declared.place.Place.TheVariants.{Name, Identifier}
use Rattle.component_ids.specs.Identifiers.{id_text}
use Rattle.byte_grammar.specs.Classes.{is_line_byte}
use Rattle.hop_audit.specs.Lines.{line_text}
use Rattle.hop_audit.specs.declared.fault.ChainFault.{ChainFault}
use Rattle.hop_audit.specs.declared.line.Fate.{Fate}
use Rattle.hop_audit.specs.declared.line.Fate.TheVariants.{Dropped, Changed, Lacking, Kept}
use Rattle.hop_audit.specs.declared.line.AuditLine.{AuditLine}
use Rattle.hop_audit.specs.declared.line.AuditLine.TheVariants.{Message as MessageLine, Unread as UnreadLine, Label as LabelLine}
use Rattle.hop_audit.specs.ChainFaults.{IsChainFault}
use Rattle.hop_audit.specs.ChainValues.{Chain, moments_of}
use Rattle.hop_audit.specs.Fates.{IsFate}
use Rattle.hop_audit.specs.Hops.{IsPermitted, PlacedHop}
use Rattle.recording.specs.Items.{IsShort, PlacedItem}
use Rattle.recording.specs.Recordings.{BeginWithMoment, SpellsRecording, bodies}
use Rattle.hop_audit.specs.Report.{AreItemsOf, IsReport, IsAudit, places_of}
use Rattle.sfv_text.specs.Classes.{is_byte}
use Rattle.verdicts.specs.Contexts.{context_for}

-- ---- one answer

-- items have at most one report
abbrev pub HaveOneAudit : Type 0
HaveOneAudit = (conf : Configuration) (items : List PlacedItem) (lines others : List AuditLine)
    → IsAudit conf items lines → IsAudit conf items others → lines ≡ others

-- items have at most one fault
abbrev pub HaveOneFault : Type 0
HaveOneFault = (items : List PlacedItem) (fault other : ChainFault)
    → IsChainFault items fault → IsChainFault items other → fault ≡ other

-- items that have a report have no fault
abbrev pub HaveNoFaultWhereAudited : Type 0
HaveNoFaultWhereAudited = (conf : Configuration) (items : List PlacedItem)
    (lines : List AuditLine) (fault : ChainFault)
    → IsAudit conf items lines → ¬ IsChainFault items fault

-- items of a recording have a report, or a fault
abbrev pub HaveAuditOrFault : Type 0
HaveAuditOrFault = (conf : Configuration) (items : List PlacedItem) → BeginWithMoment (bodies items)
    → All IsShort (bodies items)
    → ((lines : List AuditLine) × IsAudit conf items lines)
    ⊎ ((fault : ChainFault) × IsChainFault items fault)

-- a signature has one fate
abbrev pub HasOneFate : Type 0
HasOneFate = (context : MessageContext) (other : Message) (label : List ℕ) (params : SigParams)
    (tag : List ℕ) (fate another : Fate) → IsFate context other label params tag fate
    → IsFate context other label params tag another → fate ≡ another

-- it has some
abbrev pub HasSomeFate : Type 0
HasSomeFate = (context : MessageContext) (other : Message) (label : List ℕ) (params : SigParams)
    (tag : List ℕ) → (fate : Fate) × IsFate context other label params tag fate

-- ---- what is permitted is kept

-- the signature has stayed: it has its base in both messages, or in none
abbrev pub IsKeptOrLacking : Fate → Type 0
IsKeptOrLacking Dropped = ⊥
IsKeptOrLacking (Changed id) = ⊥
IsKeptOrLacking (Lacking id) = ⊤
IsKeptOrLacking Kept = ⊤

-- a hop for which it is permitted keeps a signature, or leaves it lacking
abbrev pub KeepsFate : Type 0
KeepsFate = (context : MessageContext) (script : List Rewrite) (after : Message) (label : List ℕ)
    (params : SigParams) (tag : List ℕ) (fate : Fate) → IsTrue (list_all is_writable script)
    → HaveValues script → HasSignature context.message label params tag
    → IsPermitted label context script after → IsFate context after label params tag fate
    → IsKeptOrLacking fate

-- messages of these indices have one moment
abbrev pub HaveOneMoment : Chain → ℕ → ℕ → Type 0
HaveOneMoment chain index other =
    (seconds : ℕ) × (slice_get (moments_of chain) index ≡ Some seconds)
    × (slice_get (moments_of chain) other ≡ Some seconds)

-- A label for which the hop is permitted keeps its signature, or lacks what it lacked. Where both
-- messages have one moment, the label has the same verdict in both, its place included.
pub record IsSoundReport (chain : Chain) (lines : List AuditLine) : Type 0 where
  pub fates : (index : ℕ) (label : List ℕ) (fate : Fate)
      → Contains lines (LabelLine index label true fate) → IsKeptOrLacking fate
  pub verdicts : (index : ℕ) (label : List ℕ) (fate : Fate) (verdict : Verdict)
      → Contains lines (LabelLine (index + 1) label true fate)
      → HaveOneMoment chain index (index + 1)
      → Contains lines (MessageLine index label verdict)
      ↔ Contains lines (MessageLine (index + 1) label verdict)

-- every report is so
abbrev pub KeepsWhatIsPermitted : Type 0
KeepsWhatIsPermitted = (conf : Configuration) (items : List PlacedItem) (chain : Chain)
    (lines : List AuditLine) → AreItemsOf items chain → IsReport conf chain lines
    → IsSoundReport chain lines

-- ---- one base, one meaning

-- one text is the signature's base over both messages
abbrev pub HasSameBase : MessageContext → Message → SigParams → Type 0
HasSameBase context other params = (base : List ℕ) × IsBaseOf context params base
    × IsBaseOf (context_with context other) params base

-- A signature is kept exactly where the other message has it, and it has one base over both
-- messages (RFC 9421 section 2.5).
abbrev pub IsKeptWithItsBase : Type 0
IsKeptWithItsBase = (context : MessageContext) (other : Message) (label : List ℕ)
    (params : SigParams) (tag : List ℕ) → HasMessages context → IsSpelled other
    → IsFate context other label params tag Kept
    ↔ (HasSignature other label params tag × HasSameBase context other params)

-- the label's verdict is `ok` at some moment, with some nonces that were seen
abbrev pub IsAccepted : Configuration → MessageContext → List ℕ → List ℕ → Type 0
IsAccepted conf context label keyid = (now : ℕ) × (seen : Option Book)
    × IsVerdict (verification_over context label conf now seen) (Accepted keyid)

-- The tag is the HMAC of the signature's bases over both messages under the key that is configured
-- for this `keyid`, and they are two texts.
pub record HasTwoBases (conf : Configuration) (keyid : List ℕ) (context : MessageContext)
    (other : Message) (params : SigParams) (tag : List ℕ) : Type 0 where
  pub base : List ℕ
  pub base_is : IsBaseOf context params base
  pub changed : List ℕ
  pub changed_is : IsBaseOf (context_with context other) params changed
  pub key : List ℕ
  pub key_is : key_in conf keyid ≡ Some key
  pub two : IsTagOfTwo key tag base changed

-- Where a component of a signature has changed and the signature is accepted in both messages, two
-- texts have one HMAC: its bases differ, since a base has one reading (RFC 9421 section 7.5.5).
abbrev pub TellsWhatChanged : Type 0
TellsWhatChanged = (conf : Configuration) (context : MessageContext) (other : Message)
    (label : List ℕ) (params : SigParams) (tag keyid another : List ℕ) (id : ComponentId)
    → HasMessages context → IsSpelled other
    → HasSignature context.message label params tag
    → IsFate context other label params tag (Changed id)
    → IsAccepted conf context label keyid
    → IsAccepted conf (context_with context other) label another
    → HasTwoBases conf keyid context other params tag

-- The report says that the label is accepted in the message of this index and in the next, and that
-- this component of its signature has changed between them.
pub record AcceptsChange (lines : List AuditLine) (index : ℕ) (label : List ℕ) (id : ComponentId)
    (keyid : List ℕ) : Type 0 where
  pub before : Contains lines (MessageLine index label (Accepted keyid))
  pub another : List ℕ
  pub after : Contains lines (MessageLine (index + 1) label (Accepted another))
  pub permitted : Bool
  pub changed : Contains lines (LabelLine (index + 1) label permitted (Changed id))

-- At the hop after the message of this index the tag of the label is the HMAC of two texts: its
-- signature's bases over the messages before the hop and after it.
abbrev pub HasTagOfTwo : Configuration → Chain → ℕ → List ℕ → List ℕ → Type 0
HasTagOfTwo conf chain index label keyid =
    (hop : PlacedHop) × (params : SigParams) × (tag : List ℕ)
    × (slice_get (places_of chain) index ≡ Some hop) × HasSignature hop.before label params tag
    × HasTwoBases conf keyid (context_for conf hop.before chain.related) hop.after params tag

-- Where the report on a recording says so, it is so.
abbrev pub TellsWhatChangedAtHops : Type 0
TellsWhatChangedAtHops = (conf : Configuration) (text : List ℕ) (items : List PlacedItem)
    (chain : Chain) (lines : List AuditLine) (index : ℕ) (label : List ℕ) (id : ComponentId)
    (keyid : List ℕ) → IsTrue (list_all is_byte text) → SpellsRecording text items
    → AreItemsOf items chain → IsReport conf chain lines → AcceptsChange lines index label id keyid
    → HasTagOfTwo conf chain index label keyid

-- At the hop after the message of this index the label's signature is kept exactly where the
-- message after it has the signature, with one base over both.
abbrev pub IsKeptWithItsBaseAt : Configuration → Chain → ℕ → List ℕ → Fate → Type 0
IsKeptWithItsBaseAt conf chain index label fate =
    (hop : PlacedHop) × (params : SigParams) × (tag : List ℕ)
    × (slice_get (places_of chain) index ≡ Some hop) × HasSignature hop.before label params tag
    × ((fate ≡ Kept) ↔ (HasSignature hop.after label params tag
    × HasSameBase (context_for conf hop.before chain.related) hop.after params))

-- So it is with the fate of each label's line in the report on a recording.
abbrev pub IsKeptWithItsBaseAtHops : Type 0
IsKeptWithItsBaseAtHops = (conf : Configuration) (text : List ℕ) (items : List PlacedItem)
    (chain : Chain) (lines : List AuditLine) (index : ℕ) (label : List ℕ) (permitted : Bool)
    (fate : Fate) → IsTrue (list_all is_byte text) → SpellsRecording text items
    → AreItemsOf items chain → IsReport conf chain lines
    → Contains lines (LabelLine (index + 1) label permitted fate)
    → IsKeptWithItsBaseAt conf chain index label fate

-- ---- lines

-- the text is one line: it has one LF, at its end
pub record IsLine (text : List ℕ) : Type 0 where
  pub line : List ℕ
  pub text_is : text ≡ line ++ codes "\n"
  pub clean : IsTrue (list_all is_line_byte line)

-- the text or the identifier where a rule fails, if any, has no end of a line
abbrev pub is_clean_place : Place → Bool
is_clean_place (Name text) = list_all is_line_byte text
is_clean_place (Identifier id) = list_all is_line_byte (id_text id)
is_clean_place place = true

-- nor has that of a verdict
abbrev pub is_clean_verdict : Verdict → Bool
is_clean_verdict (Accepted keyid) = true
is_clean_verdict (Failing rule place) = is_clean_place place

-- nor has the identifier of the component that decides what becomes of a signature
abbrev pub is_clean_fate : Fate → Bool
is_clean_fate (Changed id) = list_all is_line_byte (id_text id)
is_clean_fate (Lacking id) = list_all is_line_byte (id_text id)
is_clean_fate fate = true

-- what the line has from a message has no end of a line
abbrev pub is_clean_line : AuditLine → Bool
is_clean_line (MessageLine index label verdict) =
    list_all is_line_byte label && is_clean_verdict verdict
is_clean_line (UnreadLine index label) = list_all is_line_byte label
is_clean_line (LabelLine index label permitted fate) =
    list_all is_line_byte label && is_clean_fate fate
is_clean_line line = true

-- it is written as one line then
abbrev pub HasOneLf : Type 0
HasOneLf = (line : AuditLine) → IsTrue (is_clean_line line) → IsLine (line_text line)
