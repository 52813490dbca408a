-- What the code makes of the components of two messages. No public clause cites this module.
use Rattle.std.specs.Prelude.{ℕ, Option, Some, None, IfSome, IsTrue, List, take, Result, Ok, Err}
use Rattle.std.specs.List.{All}
use Rattle.sfv_text.specs.Keys.{value_of}
use Rattle.sfv_text.specs.declared.pair.Pair.{Pair}
use Rattle.msg_body.specs.Messages.{Message}
use Rattle.component_ids.specs.Identifiers.{id_text, is_id_in_range}
use Rattle.component_ids.specs.declared.id.ComponentId.{ComponentId}
use Rattle.component_values.specs.Context.{MessageContext}
use Rattle.derived_values.specs.declared.lack.Lack.{Lack}
use Rattle.hop_audit.specs.declared.answer.Answer.{Answer}
use Rattle.hop_audit.specs.declared.answer.Answer.TheVariants.{Value, Lacks}
use Rattle.hop_audit.specs.declared.comparison.ComponentFate.{ComponentFate}
use Rattle.hop_audit.specs.declared.comparison.ComponentFate.TheVariants as component
use Rattle.hop_audit.specs.declared.line.Fate.{Fate}
use Rattle.hop_audit.specs.declared.line.Fate.TheVariants.{Dropped, Changed, Lacking, Kept}
use Rattle.hop_audit.specs.Fates.{HasChanged, HasKept, HasStayed, IsFirstOf, LacksValue}

-- what the component comes to
abbrev pub answer_of : Answer → Result (List ℕ) Lack
answer_of (Value text) = Ok text
answer_of (Lacks lack) = Err lack

-- of the components: the first that has changed; the first that lacks, where none has; or that each
-- is kept
abbrev pub SaysCompared : MessageContext → Message → List ComponentId → Fate → Type 0
SaysCompared context other ids Dropped = ⊥
SaysCompared context other ids (Changed id) = IsFirstOf (HasChanged context other) ids id
SaysCompared context other ids (Lacking id) =
    All (HasStayed context other) ids × IsFirstOf (LacksValue context) ids id
SaysCompared context other ids Kept = All (HasKept context other) ids

-- what becomes of a component
abbrev pub IsComponentFate : MessageContext → Message → ComponentId → ComponentFate → Type 0
IsComponentFate context other id component.Changed = HasChanged context other id
IsComponentFate context other id component.Lacking =
    HasStayed context other id × LacksValue context id
IsComponentFate context other id component.Kept = HasKept context other id

-- where a fate stands by the text of a component's identifier, it is what becomes of the component
abbrev pub AreCompared : MessageContext → Message → List (Pair ComponentFate) → Type 0
AreCompared context other compared = (id : ComponentId) → IsTrue (is_id_in_range id)
    → IfSome (value_of compared (id_text id)) (IsComponentFate context other id)

-- ---- component by component

-- the first that lacks a value, where this comes next
abbrev pub lacking_with : Option ComponentId → ComponentFate → ComponentId → Option ComponentId
lacking_with (Some first) fate id = Some first
lacking_with None component.Lacking id = Some id
lacking_with None fate id = None

-- the first that lacks a value is this one, or none of so many does
abbrev pub LacksSoFar : MessageContext → List ComponentId → ℕ → Option ComponentId → Type 0
LacksSoFar context ids count None = All (λ id. ¬ LacksValue context id) (take count ids)
LacksSoFar context ids count (Some id) = IsFirstOf (LacksValue context) ids id

-- so many have stayed, and that is the first that lacks a value
pub record AreComparedSoFar (context : MessageContext) (other : Message) (ids : List ComponentId)
    (count : ℕ) (lacking : Option ComponentId) : Type 0 where
  pub stay : All (HasStayed context other) (take count ids)
  pub lacks : LacksSoFar context ids count lacking
