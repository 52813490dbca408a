-- A component that lacks a value, as what ends the making of a base.
use Rattle.std.proofs.Common.{◌≡◌, ℕ, List, Some, Err, refl, sym, ap, ◌∙◌, inl, inr}
use Rattle.std.specs.List.{slice_get}
use Rattle.std.specs.Prelude.{IsSomeAnd}
use Rattle.byte_grammar.specs.Causes.{AnswersWhere}
use Rattle.byte_grammar.proofs.Indices.{some_and, some_and_at, some_and_parts}
use Rattle.component_ids.specs.Identifiers.{id_text}
use Rattle.component_ids.specs.declared.id.ComponentId.{ComponentId}
use Rattle.component_ids.specs.declared.params.SigParams.{SigParams}
use Rattle.derived_values.specs.declared.lack.Lack.{Lack}
use Rattle.component_values.specs.declared.fault.ValueFault.{ValueFault}
use Rattle.component_values.specs.declared.fault.ValueFault.TheVariants.{Memory, Lacks}
use Rattle.component_values.specs.declared.prepared.Prepared.{Prepared}
use Rattle.component_values.specs.Values.{IsFirstLack}
use Rattle.component_values.specs.Context.{MessageContext}
use Rattle.commands.specs.Base.{ReportsValues}
use Rattle.refusals.specs.declared.refusal.CommandRefusal.TheVariants.{Lacks as LacksValue}
use Rattle.intake.specs.declared.stop.Stop.{Stop}
use Rattle.commands.specs.tools.Prepared.{SaysFault, stop_for_lack}
use Rattle.commands.specs.Outcome.{IfOutcome}

-- the component at an index has an identifier
pub id_there : (P : ComponentId → Type 0) (ids : List ComponentId) (index : ℕ) → IsSomeAnd (slice_get ids index) P
    → (text : List ℕ) × IsSomeAnd (slice_get ids index) (λ id. text ≡ id_text id)
id_there P ids index there =
    let id = some_and_parts P (slice_get ids index) there in
    (id_text id.0, some_and (λ (lacking : ComponentId). id_text id.0 ≡ id_text lacking) (slice_get ids index) id.0 id.1 refl)

-- and no other
pub one_id : (ids : List ComponentId) (n m : ℕ) (i k : List ℕ) → n ≡ m → IsSomeAnd (slice_get ids n) (λ id. i ≡ id_text id) → IsSomeAnd (slice_get ids m) (λ id. k ≡ id_text id) → i ≡ k
one_id ids n m i k same a b =
    let one = some_and_parts (λ (id : ComponentId). i ≡ id_text id) (slice_get ids n) a in
    let at : slice_get ids m ≡ Some one.0 = ap (λ (x : ℕ). slice_get ids x) (sym same) ∙ one.1 in
    one.2 ∙ sym (some_and_at (λ (id : ComponentId). k ≡ id_text id) (slice_get ids m) one.0 at b)

-- the identifier that a stop says
pub said_id : (ids : List ComponentId) (index : ℕ) (lack : Lack) (stop : Stop) → IsSomeAnd (slice_get ids index) (λ id. stop ≡ stop_for_lack lack (id_text id))
    → (text : List ℕ) × IsSomeAnd (slice_get ids index) (λ id. text ≡ id_text id) × (stop ≡ stop_for_lack lack text)
said_id ids index lack stop says =
    let id = some_and_parts (λ (i : ComponentId). stop ≡ stop_for_lack lack (id_text i)) (slice_get ids index) says in
    (id_text id.0, some_and (λ (lacking : ComponentId). id_text id.0 ≡ id_text lacking) (slice_get ids index) id.0 id.1 refl, id.2)

-- what is known of a fault, by the contract of what prepares
abbrev pub IsAnswered : MessageContext → SigParams → ValueFault → Type 0
IsAnswered context sig fault =
    (index : ℕ) (lack : Lack) → AnswersWhere {T = Prepared} Memory (Err fault) (Lacks index lack) (IsFirstLack context sig.ids index lack)

-- a stop that says the fault comes to its refusal
pub lacking_outcome : (context : MessageContext) (sig : SigParams) (fault : ValueFault) (stop : Stop) → IsAnswered context sig fault → SaysFault sig.ids fault stop
    → IfOutcome (Err stop) (ReportsValues context sig)
lacking_outcome context sig Memory stop answered says = rw says tt
lacking_outcome context sig (Lacks index lack) stop answered (inl memory) = rw memory tt
lacking_outcome context sig (Lacks index lack) stop answered (inr says) =
    let id = said_id sig.ids index lack stop says in
    rw id.2 (inr (LacksValue lack id.0, (index, (answered index lack).only refl, id.1), refl))
