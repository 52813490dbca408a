-- A hop: whether its script explains what came out, and whether a label's signature permits each
-- step (RFC 9421 section 1.1).
use Rattle.std.specs.Prelude.{◌≡◌, ℕ, ◌+◌, Bool, true, false, Option, Some, None, unwrap_or, List, [], ◌∷◌, take, slice_get}
use Rattle.msg_body.specs.Messages.{Message}
use Rattle.component_values.specs.Context.{MessageContext, context_with}
use Rattle.rewrite_script.specs.declared.rewrite.Rewrite.{Rewrite}
use Rattle.rewrites.specs.Laws.{IsPermittedStep}
use Rattle.rewrites.specs.Steps.{Step, Steps, IsNotApplicable}
use Rattle.hop_audit.specs.ChainValues.{Hop}

-- a hop in its place: the index, from 1 on, the message before it with its moment, the steps, and
-- the message after it with its moment
pub record PlacedHop : Type 0 where
  pub index : ℕ
  pub was : ℕ
  pub before : Message
  pub script : List Rewrite
  pub now : ℕ
  pub after : Message

-- the hops in their places; before them come the message of this index and its moment
abbrev pub places_from : ℕ → ℕ → Message → List Hop → List PlacedHop
places_from index last message [] = []
places_from index last message (hop ∷ hops) = record {
  index = index + 1;
  was = last;
  before = message;
  script = hop.script;
  now = unwrap_or hop.moment last;
  after = hop.message;
} ∷ places_from (index + 1) (unwrap_or hop.moment last) hop.message hops

-- ---- explained

-- the step of this index is the first that gives no message: those before it lead to one, in which
-- it isn't applicable
pub record IsStoppedAt (context : MessageContext) (script : List Rewrite) (index : ℕ)
    : Type 0 where
  pub met : Message
  pub before : Steps Step context (take index script) met
  pub step : Rewrite
  pub there : slice_get script index ≡ Some step
  pub stops : IsNotApplicable (context_with context met) step

-- the steps lead to another message
pub record LeadElsewhere (context : MessageContext) (script : List Rewrite) (after : Message)
    : Type 0 where
  pub other : Message
  pub lead : Steps Step context script other
  pub differs : ¬ (other ≡ after)

-- The hop is explained where the steps lead to just the message that came out. Else they lead to
-- another, or the first that gives none has this index.
abbrev pub IsExplanation : MessageContext → List Rewrite → Message → Bool → Option ℕ → Type 0
IsExplanation context script after true None = Steps Step context script after
IsExplanation context script after true (Some index) = ⊥
IsExplanation context script after false None = LeadElsewhere context script after
IsExplanation context script after false (Some index) = IsStoppedAt context script index

-- ---- permitted

-- the hop is explained, and the signature that the label has in the message that a step meets
-- permits the step
abbrev pub IsPermitted : List ℕ → MessageContext → List Rewrite → Message → Type 0
IsPermitted label context script after =
    Steps (IsPermittedStep label) context script after

-- it is so, or it isn't
abbrev pub IsPermission : List ℕ → MessageContext → List Rewrite → Message → Bool → Type 0
IsPermission label context script after true = IsPermitted label context script after
IsPermission label context script after false = ¬ IsPermitted label context script after
