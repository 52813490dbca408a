-- Laws of rewritings: what a signature permits keeps all that it rests on.
use Rattle.std.specs.Prelude.{◌≡◌, ◌↔◌, ℕ, Bool, false, IsTrue, Option, List}
use Rattle.std.specs.List.{All, list_all}
use Rattle.sfv_read.specs.Laws.{ReadAlike}
use Rattle.framing.specs.Framings.{is_request}
use Rattle.msg_body.specs.Messages.{IsMessage, Message}
use Rattle.msg_body.specs.Views.{message_content}
use Rattle.component_ids.specs.declared.params.SigParams.{SigParams}
use Rattle.component_values.specs.Alike.{ComesToSame}
use Rattle.component_values.specs.Context.{MessageContext, answers_head, context_with}
use Rattle.component_values.specs.Values.{HaveValues as HaveComponentValues}
use Rattle.signatures.specs.SignatureBase.{signature_base}
use Rattle.settings.specs.Configuration.{Configuration}
use Rattle.nonces.specs.Books.{Book}
use Rattle.signatures.specs.Signatures.{HasSignature}
use Rattle.verdicts.specs.ContentDigest.{covers_digest, digest_text}
use Rattle.verdicts.specs.Verdicts.{IsVerdict}
use Rattle.verdicts.specs.Verification.{Verification}
use Rattle.verdicts.specs.declared.outcome.Verdict.{Verdict}
use Rattle.rewrite_script.specs.Lines.{HasValues, HasWholeValues, is_whole_writable, is_writable}
use Rattle.rewrite_script.specs.Scripts.{HaveValues}
use Rattle.rewrite_script.specs.declared.rewrite.Rewrite.{Rewrite}
use Rattle.rewrite_script.specs.declared.rewrite.Rewrite.TheVariants.{Lines, Whole}
use Rattle.rewrite_script.specs.declared.rewrite.WholeRewrite.{WholeRewrite}
use Rattle.line_rewrites.specs.SameFor.{SameFor}
use Rattle.whole_rewrites.specs.Laws.{IsOfMessages, IsReadAs, whole_rests_on_conf}
use Rattle.whole_rewrites.specs.Permitted.{PermitsWhole}
use Rattle.whole_rewrites.specs.Steps.{GivesWhole}
use Rattle.rewrites.specs.Steps.{Step, Steps}
use Rattle.rewrites.specs.Permitted.{Permits}

-- ---- what is kept

-- the text is the signature base over the values that the components have
abbrev pub IsBaseOf : MessageContext → SigParams → List ℕ → Type 0
IsBaseOf context params base = (values : List (List ℕ))
    × HaveComponentValues context params.ids values × (base ≡ signature_base params values)

-- what the label is judged by, over this context
abbrev pub verification_over : MessageContext → List ℕ → Configuration → ℕ → Option Book
    → Verification
verification_over context label conf now seen =
    record { context = context; label = label; conf = conf; now = now; seen = seen }

-- at each moment, by each configuration and each book, the label's verdict is the same over the
-- other message, its place included
abbrev pub HasSameVerdict : MessageContext → Message → List ℕ → Type 0
HasSameVerdict context other label =
    (conf : Configuration) (now : ℕ) (seen : Option Book) (verdict : Verdict)
    → IsVerdict (verification_over context label conf now seen) verdict
    ↔ IsVerdict (verification_over (context_with context other) label conf now seen) verdict

-- The other message has the label's signature, over the same values and the same content. So it has
-- its signature base, and its verdict.
pub record KeepsSignature (context : MessageContext) (label : List ℕ) (params : SigParams)
    (tag : List ℕ) (other : Message) : Type 0 where
  pub signature : HasSignature other label params tag
  pub components : All (ComesToSame context other) params.ids
  pub content : message_content other ≡ message_content context.message
  pub base : (base : List ℕ) → IsBaseOf context params base
      ↔ IsBaseOf (context_with context other) params base
  pub verdict : HasSameVerdict context other label

-- ---- what is alike

-- The other message is of the kind of the context's, and has its content and the label's signature.
-- The components come to the same, and the field of the digests, where it is covered, reads as the
-- same.
pub record IsAlikeForLabel (context : MessageContext) (label : List ℕ) (params : SigParams)
    (tag : List ℕ) (other : Message) : Type 0 where
  pub kind : is_request other.head.start ≡ is_request context.message.head.start
  pub content : message_content other ≡ message_content context.message
  pub signature : HasSignature other label params tag
  pub components : All (ComesToSame context other) params.ids
  pub digests : IsTrue (covers_digest params.ids)
      → ReadAlike (digest_text context.message) (digest_text other)

-- ---- the laws

-- a step gives at most one message
abbrev pub GivesOneMessage : Type 0
GivesOneMessage =
    (context : MessageContext) (step : Rewrite) (after other : Message)
    → Step context step after → Step context step other → after ≡ other

-- what a step gives is a message of the same kind
abbrev pub GivesKind : Type 0
GivesKind =
    (context : MessageContext) (step : Rewrite) (after : Message) → Step context step after
    → IsMessage (answers_head context.related) after
    × (is_request after.head.start ≡ is_request context.message.head.start)

-- a message that is the same for a signature keeps it
abbrev pub KeepsWhereSame : Type 0
KeepsWhereSame =
    (context : MessageContext) (label : List ℕ) (params : SigParams) (tag : List ℕ)
    (other : Message) → HasSignature context.message label params tag
    → SameFor params context.message other → KeepsSignature context label params tag other

-- so does a message that is alike for the label
abbrev pub KeepsWhereAlike : Type 0
KeepsWhereAlike =
    (context : MessageContext) (label : List ℕ) (params : SigParams) (tag : List ℕ)
    (other : Message) → HasSignature context.message label params tag
    → IsAlikeForLabel context label params tag other
    → KeepsSignature context label params tag other

-- a rewriting of the whole message that is permitted gives such a message
abbrev pub IsAlikeAfter : WholeRewrite → Type 0
IsAlikeAfter step =
    (context : MessageContext) (label : List ℕ) (params : SigParams) (tag : List ℕ)
    (after : Message) → IsTrue (is_whole_writable step) → HasWholeValues step
    → HasSignature context.message label params tag → GivesWhole context step after
    → PermitsWhole context step params → IsAlikeForLabel context label params tag after

-- what is permitted keeps the signature
abbrev pub KeepsWherePermitted : Type 0
KeepsWherePermitted =
    (context : MessageContext) (step : Rewrite) (label : List ℕ) (params : SigParams)
    (tag : List ℕ) (after : Message) → IsTrue (is_writable step) → HasValues step
    → HasSignature context.message label params tag → Step context step after
    → Permits context step label params → KeepsSignature context label params tag after

-- the step gives the message, and the signature that the label has in the context's message permits
-- it
pub record IsPermittedStep (label : List ℕ) (context : MessageContext) (step : Rewrite)
    (after : Message) : Type 0 where
  pub gives : Step context step after
  pub params : SigParams
  pub tag : List ℕ
  pub signature : HasSignature context.message label params tag
  pub permits : Permits context step label params

-- so does every list of steps of which each is permitted in the message that it meets
abbrev pub KeepsOverSteps : Type 0
KeepsOverSteps =
    (context : MessageContext) (steps : List Rewrite) (label : List ℕ) (params : SigParams)
    (tag : List ℕ) (after : Message) → IsTrue (list_all is_writable steps) → HaveValues steps
    → HasSignature context.message label params tag
    → Steps (IsPermittedStep label) context steps after
    → KeepsSignature context label params tag after

-- ---- configurations

-- what the step gives, and whether it is permitted, rests on the scheme or on the kinds of fields
-- that are configured
abbrev pub rests_on_conf : Rewrite → Bool
rests_on_conf (Lines step) = false
rests_on_conf (Whole step) = whole_rests_on_conf step

-- where the step rests on what is configured, the contexts agree on it
abbrev pub AgreeFor : Rewrite → MessageContext → MessageContext → Type 0
AgreeFor step context other = IsTrue (rests_on_conf step) → IsReadAs context other

-- What a step gives, and whether it is permitted, is said of the messages alone; of a step that
-- rests on what is configured, of that too.
pub record DependsOnMessages : Type 0 where
  pub gives : (context other : MessageContext) (step : Rewrite) (after : Message)
      → IsOfMessages context other → AgreeFor step context other
      → Step context step after → Step other step after
  pub permits : (context other : MessageContext) (step : Rewrite) (label : List ℕ)
      (params : SigParams) → IsOfMessages context other → AgreeFor step context other
      → Permits context step label params → Permits other step label params
