-- What becomes of a label's signature at a hop. Of a signature exactly one of these holds.
use Rattle.std.specs.Prelude.{◌≡◌, ℕ, Some, List, take, slice_get, Result, Ok}
use Rattle.std.specs.List.{All}
use Rattle.msg_body.specs.Messages.{Message}
use Rattle.component_ids.specs.declared.id.ComponentId.{ComponentId}
use Rattle.component_ids.specs.declared.params.SigParams.{SigParams}
use Rattle.derived_values.specs.declared.lack.Lack.{Lack}
use Rattle.component_values.specs.Context.{MessageContext, context_with}
use Rattle.component_values.specs.Values.{ComesTo, Lacks}
use Rattle.signatures.specs.Signatures.{HasSignature}
use Rattle.hop_audit.specs.declared.line.Fate.{Fate}
use Rattle.hop_audit.specs.declared.line.Fate.TheVariants.{Dropped, Changed, Lacking, Kept}

-- the first element of which the fact holds
pub record IsFirstOf {X : Type 0} (Fact : X → Type 0) (xs : List X) (x : X) : Type 0 where
  pub index : ℕ
  pub before : All (λ y. ¬ Fact y) (take index xs)
  pub there : slice_get xs index ≡ Some x
  pub holds : Fact x

-- the component comes to this in the context's message, and to that in the other
pub record ComesToBoth (context : MessageContext) (other : Message) (id : ComponentId)
    (was now : Result (List ℕ) Lack) : Type 0 where
  pub before : ComesTo context id was
  pub after : ComesTo (context_with context other) id now

-- it has a value in one of the messages and another or none in the other, or lacks a value in both,
-- in different ways
abbrev pub HasChanged : MessageContext → Message → ComponentId → Type 0
HasChanged context other id = (was now : Result (List ℕ) Lack)
    × ComesToBoth context other id was now × ¬ (was ≡ now)

-- it has one value in both messages, or lacks one in both in the same way
abbrev pub HasStayed : MessageContext → Message → ComponentId → Type 0
HasStayed context other id = (result : Result (List ℕ) Lack)
    × ComesToBoth context other id result result

-- it has one value in both messages
abbrev pub HasKept : MessageContext → Message → ComponentId → Type 0
HasKept context other id = (value : List ℕ) × ComesToBoth context other id (Ok value) (Ok value)

-- it lacks a value in the context's message
abbrev pub LacksValue : MessageContext → ComponentId → Type 0
LacksValue context id = (lack : Lack) × Lacks context id lack

-- What becomes of the signature with these parameters and this tag, which the label has in the
-- context's message: the other message doesn't have it; a component has changed, the first of them;
-- none has, and one lacks a value, the first of them; each has its value in both.
abbrev pub IsFate : MessageContext → Message → List ℕ → SigParams → List ℕ → Fate → Type 0
IsFate context other label params tag Dropped = ¬ HasSignature other label params tag
IsFate context other label params tag (Changed id) = HasSignature other label params tag
    × IsFirstOf (HasChanged context other) params.ids id
IsFate context other label params tag (Lacking id) = HasSignature other label params tag
    × All (HasStayed context other) params.ids × IsFirstOf (LacksValue context) params.ids id
IsFate context other label params tag Kept = HasSignature other label params tag
    × All (HasKept context other) params.ids
