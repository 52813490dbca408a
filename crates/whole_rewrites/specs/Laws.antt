-- Laws of rewritings of the whole message: what each gives, and what signatures permit.
use Rattle.std.specs.Prelude.{◌≡◌, ◌⊎◌, Bool, true, false, IsTrue}
use Rattle.framing.specs.Framings.{is_request}
use Rattle.msg_body.specs.Messages.{IsMessage, Message}
use Rattle.component_ids.specs.declared.params.SigParams.{SigParams}
use Rattle.component_values.specs.Context.{MessageContext, answers_head}
use Rattle.rewrite_script.specs.Lines.{is_whole_writable}
use Rattle.rewrite_script.specs.declared.rewrite.WholeRewrite.{WholeRewrite}
use Rattle.rewrite_script.specs.declared.rewrite.WholeRewrite.TheVariants.{AddLabel, Rechunk, Chunk, Dechunk, Origin, Absolute, Host, Query, Resf}
use Rattle.line_rewrites.specs.SameFor.{SameFor}
use Rattle.whole_rewrites.specs.Permitted.{PermitsWhole}
use Rattle.whole_rewrites.specs.Steps.{GivesNoWhole, GivesWhole}

-- ---- what is given

-- a rewriting gives at most one message
abbrev pub GivesOneWhole : Type 0
GivesOneWhole =
    (context : MessageContext) (step : WholeRewrite) (after other : Message)
    → GivesWhole context step after → GivesWhole context step other → after ≡ other

-- a rewriting that a line can write gives a message, or isn't applicable
abbrev pub GivesWholeOrNot : Type 0
GivesWholeOrNot =
    (context : MessageContext) (step : WholeRewrite) → IsTrue (is_whole_writable step)
    → IsMessage (answers_head context.related) context.message
    → ((after : Message) × GivesWhole context step after) ⊎ GivesNoWhole context step

-- what a rewriting gives is a message of the same kind
abbrev pub GivesKindOfWhole : Type 0
GivesKindOfWhole =
    (context : MessageContext) (step : WholeRewrite) (after : Message)
    → GivesWhole context step after → IsMessage (answers_head context.related) after
    × (is_request after.head.start ≡ is_request context.message.head.start)

-- ---- what is permitted

-- a signature permits the rewriting or not
abbrev pub IsPermittedOrNot : WholeRewrite → Type 0
IsPermittedOrNot step = (context : MessageContext) (params : SigParams)
    → PermitsWhole context step params ⊎ (¬ PermitsWhole context step params)

-- it permits each or not
abbrev pub PermitsWholeOrNot : Type 0
PermitsWholeOrNot = (step : WholeRewrite) → IsPermittedOrNot step

-- ---- configurations

-- what the rewriting makes, and whether it is permitted, rests on the scheme or on the kinds of
-- fields that are configured
abbrev pub whole_rests_on_conf : WholeRewrite → Bool
whole_rests_on_conf (AddLabel added tag params) = false
whole_rests_on_conf (Rechunk sizes) = false
whole_rests_on_conf (Chunk sizes) = false
whole_rests_on_conf Dechunk = false
whole_rests_on_conf Origin = true
whole_rests_on_conf Absolute = true
whole_rests_on_conf (Host text) = true
whole_rests_on_conf (Query text) = false
whole_rests_on_conf (Resf side name) = true

-- the context of other components: another scheme and other kinds of fields
abbrev pub IsOfMessages : MessageContext → MessageContext → Type 0
IsOfMessages context other = (other.message ≡ context.message) × (other.related ≡ context.related)

-- both contexts have one scheme and the same kinds of fields
abbrev pub IsReadAs : MessageContext → MessageContext → Type 0
IsReadAs context other = (other.scheme ≡ context.scheme) × (other.types ≡ context.types)

-- What is permitted is said of the messages alone; of a rewriting that rests on what is configured,
-- of that too.
abbrev pub PermittedByMessages : Type 0
PermittedByMessages =
    (context other : MessageContext) (step : WholeRewrite) (params : SigParams)
    → IsOfMessages context other → (IsTrue (whole_rests_on_conf step) → IsReadAs context other)
    → PermitsWhole context step params → PermitsWhole other step params

-- So is what a rewriting gives.
abbrev pub GivenByMessages : Type 0
GivenByMessages =
    (context other : MessageContext) (step : WholeRewrite) (after : Message)
    → IsOfMessages context other → (IsTrue (whole_rests_on_conf step) → IsReadAs context other)
    → GivesWhole context step after → GivesWhole other step after

-- ---- content that is sent in another way

-- the rewriting changes how content is sent, and nothing else
abbrev pub is_of_content : WholeRewrite → Bool
is_of_content (Rechunk sizes) = true
is_of_content (Chunk sizes) = true
is_of_content Dechunk = true
is_of_content other = false

-- where it is permitted, it gives a message that is the same for the signature
abbrev pub IsSameWhereContentPermitted : Type 0
IsSameWhereContentPermitted =
    (context : MessageContext) (step : WholeRewrite) (params : SigParams) (after : Message)
    → IsTrue (is_of_content step) → GivesWhole context step after
    → PermitsWhole context step params → SameFor params context.message after
