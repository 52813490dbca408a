-- What becomes of components, one after another.
use Rattle.std.proofs.Common.{◌≡◌, ◌≢◌, ◌<◌, ◌≤◌, ◌+◌, ℕ, Bool, true, Option, Some, None, List, inl, inr, length, get_or, take, Result, Ok, Err, refl, sym, subst, ap, ◌∙◌}
use Rattle.std.specs.Prelude.{◌↔◌, IfOk, IsTrue, slice_get}
use Rattle.std.specs.Str.{bytes_eq}
use Rattle.std.specs.List.{All}
use Rattle.std.proofs.lemmas.Bool.{cases_Bool}
use Rattle.std.proofs.lemmas.List.Elements.{All-more, All-weaker, All-same}
use Rattle.std.proofs.lemmas.List.{take_all}
use Rattle.std.proofs.lemmas.Option.{slice_get-get_or}
use Rattle.std.proofs.lemmas.Slice.Eq.{bytes_eq-Decides}
use Rattle.sfv_text.specs.Keys.{put, value_of}
use Rattle.sfv_text.specs.declared.pair.Pair.{Pair}
use Rattle.sfv_text.proofs.PutLaws.{put_value}
use Rattle.sfv_read.specs.Reads.{ReadsItem}
use Rattle.sfv_read.proofs.Readings.{item_has_one_value}
use Rattle.sfv_read.proofs.StrictReads.{item_text_reads}
use Rattle.msg_body.specs.Messages.{Message}
use Rattle.component_ids.specs.Identifiers.{id_of, id_text, is_id_in_range, item_of}
use Rattle.component_ids.specs.declared.id.ComponentId.{ComponentId}
use Rattle.component_ids.specs.declared.params.SigParams.{SigParams}
use Rattle.component_values.specs.Context.{MessageContext}
use Rattle.component_values.proofs.RowLaws.{lacks_no_value}
use Rattle.signatures.specs.Exchanges.{ExchangeState}
use Rattle.signatures.specs.Signatures.{HasSignature}
use Rattle.signatures.proofs.Reading.{has_one_signature}
use Rattle.byte_grammar.specs.declared.memory.Memory.{Memory}
use Rattle.hop_audit.specs.declared.comparison.ComponentFate.{ComponentFate}
use Rattle.hop_audit.specs.declared.comparison.ComponentFate.TheVariants as component
use Rattle.hop_audit.specs.declared.line.Fate.{Fate}
use Rattle.hop_audit.specs.declared.line.Fate.TheVariants.{Dropped, Changed, Lacking, Kept}
use Rattle.hop_audit.specs.Fates.{HasChanged, HasStayed, IsFate, LacksValue}
use Rattle.hop_audit.specs.tools.Compared.{AreCompared, AreComparedSoFar, IsComponentFate, LacksSoFar, SaysCompared, lacking_with}
use Rattle.hop_audit.proofs.Fates.{all_kept, stays_unchanged}

-- ---- by the texts of identifiers

-- an identifier in range has a text of its own
one_id : (a b : ComponentId) → is_id_in_range a ≡ true → is_id_in_range b ≡ true → id_text a ≡ id_text b → a ≡ b
one_id a b fits also same =
    ap id_of
    (item_has_one_value (id_text a) (item_of a) (item_of b) (item_text_reads (item_of a) fits)
    (subst (λ (t : List ℕ). ReadsItem t (item_of b)) (sym same) (item_text_reads (item_of b) also)))

-- one component more was compared
pub compared_more : (context : MessageContext) (other : Message) (pairs : List (Pair ComponentFate)) (id : ComponentId) (text : List ℕ) (fate : ComponentFate) → AreCompared context other pairs
    → is_id_in_range id ≡ true → text ≡ id_text id → IsComponentFate context other id fate → AreCompared context other (put pairs text fate)
compared_more context other pairs id text fate are fits printed is own ranged = elim (cases_Bool (bytes_eq text (id_text own))) [
  | inl same ↦
      let there : value_of (put pairs text fate) (id_text own) ≡ Some fate = put_value text fate (id_text own) pairs ∙ rw same refl in
      let one : id ≡ own = one_id id own fits ranged (sym printed ∙ (bytes_eq-Decides text (id_text own)).0 same) in
      rw there (subst (λ (i : ComponentId). IsComponentFate context other i fate) one is)
  | inr apart ↦
      let there : value_of (put pairs text fate) (id_text own) ≡ value_of pairs (id_text own) = put_value text fate (id_text own) pairs ∙ rw apart refl in
      rw there (are own ranged)
]

-- what holds of exchanges holds of the same ones
pub at_same : (Holds : MessageContext → Message → Type 0) (before was after now : ExchangeState) → before ≡ was → after ≡ now → Holds before.context after.context.message → Holds was.context now.context.message
at_same Holds before was after now b a holds =
    subst (λ (e : ExchangeState). Holds e.context now.context.message) b (subst (λ (e : ExchangeState). Holds before.context e.context.message) a holds)

module _ (context : MessageContext) (other : Message) (ids : List ComponentId) where
  -- ---- at the next component

  module _ (n : ℕ) (id : ComponentId) (lt : n < length ids) (is : id ≡ get_or ids n id) where
    there : slice_get ids n ≡ Some id
    there = slice_get-get_or ids n id lt ∙ ap (λ (i : ComponentId). Some i) (sym is)

    further : (P : ComponentId → Type 0) → All P (take n ids) → P id → All P (take (n + 1) ids)
    further P all here = All-more P ids n id lt all (subst (λ (i : ComponentId). P i) is here)

    pub changed_here : (lacking : Option ComponentId) (fate : ComponentFate) → AreComparedSoFar context other ids n lacking → IsComponentFate context other id fate → fate ≡ component.Changed
        → SaysCompared context other ids (Changed id)
    changed_here lacking component.Changed so_far is changed = record {
      index = n;
      before = All-weaker (HasStayed context other) (λ i. ¬ HasChanged context other i) (stays_unchanged context other) (take n ids) so_far.stay;
      there = there;
      holds = is;
    }
    changed_here lacking component.Lacking so_far is changed = absurd (cc changed)
    changed_here lacking component.Kept so_far is changed = absurd (cc changed)

    stays : (fate : ComponentFate) → IsComponentFate context other id fate → fate ≢ component.Changed → HasStayed context other id
    stays component.Changed is not = absurd (not refl)
    stays component.Lacking is not = is.0
    stays component.Kept is not = (Ok is.0, is.1)

    lacks_further : (lacking : Option ComponentId) (fate : ComponentFate) → LacksSoFar context ids n lacking → IsComponentFate context other id fate → fate ≢ component.Changed
        → LacksSoFar context ids (n + 1) (lacking_with lacking fate id)
    lacks_further (Some first) fate so_far is not = so_far
    lacks_further None component.Changed so_far is not = absurd (not refl)
    lacks_further None component.Lacking so_far is not = record { index = n; before = so_far; there = there; holds = is.1 }
    lacks_further None component.Kept so_far is not = further (λ i. ¬ LacksValue context i) so_far (λ lacks. lacks_no_value context id is.0 lacks.0 is.1.before lacks.1)

    pub more_compared : (lacking : Option ComponentId) (fate : ComponentFate) → AreComparedSoFar context other ids n lacking → IsComponentFate context other id fate → fate ≢ component.Changed
        → AreComparedSoFar context other ids (n + 1) (lacking_with lacking fate id)
    more_compared lacking fate so_far is not = record {
      stay = further (HasStayed context other) so_far.stay (stays fate is not);
      lacks = lacks_further lacking fate so_far.lacks is not;
    }

  -- ---- at the end

  module _ (n : ℕ) (end : length ids ≤ n) where
    every : (P : ComponentId → Type 0) → All P (take n ids) → All P ids
    every P all = All-same P ids (take n ids) (sym (take_all n ids end)) all

    pub none_lacks : AreComparedSoFar context other ids n None → SaysCompared context other ids Kept
    none_lacks so_far = all_kept context other ids (every (λ i. ¬ LacksValue context i) so_far.lacks) (every (HasStayed context other) so_far.stay)

    pub one_lacks : (id : ComponentId) → AreComparedSoFar context other ids n (Some id) → SaysCompared context other ids (Lacking id)
    one_lacks id so_far = (every (HasStayed context other) so_far.stay, so_far.lacks)

-- what is said of the components is so of the signature
pub compared_fate : (context : MessageContext) (other : Message) (label : List ℕ) (params : SigParams) (tag : List ℕ) (fate : Fate) → HasSignature other label params tag
    → SaysCompared context other params.ids fate → IsFate context other label params tag fate
compared_fate context other label params tag Dropped has says = absurd says
compared_fate context other label params tag (Changed id) has says = (has, says)
compared_fate context other label params tag (Lacking id) has says = (has, says.0, says.1)
compared_fate context other label params tag Kept has says = (has, says)

-- ---- the signature in the other message

-- the label has one signature
pub same_signature : (message : Message) (label : List ℕ) (own params : SigParams) (tag other : List ℕ) (same : Bool) → HasSignature message label own tag
    → IsTrue same ↔ ((own ≡ params) × (tag ≡ other)) → IsTrue same ↔ HasSignature message label params other
same_signature message label own params tag other same has both = (
  λ yes. subst (λ (t : List ℕ). HasSignature message label params t) (both.0 yes).1 (subst (λ (p : SigParams). HasSignature message label p tag) (both.0 yes).0 has),
  λ is. both.1 (has_one_signature message label own params tag other has is),
)

-- so is what was answered of its components
pub fate_by : (context : MessageContext) (other : Message) (label : List ℕ) (params : SigParams) (tag : List ℕ) (ids : List ComponentId) (result : Result Fate Memory) → HasSignature other label params tag
    → ids ≡ params.ids → IfOk result (SaysCompared context other ids) → IfOk result (IsFate context other label params tag)
fate_by context other label params tag ids (Ok fate) has same says =
    compared_fate context other label params tag fate has (subst (λ (l : List ComponentId). SaysCompared context other l fate) same says)
fate_by context other label params tag ids (Err memory) has same says = tt
