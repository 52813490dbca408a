-- A signature has one fate at a hop.
use Rattle.std.proofs.Common.{◌≡◌, ◌⊎◌, ℕ, List, Result, Ok, Err, refl, sym, subst, ap, ◌∙◌, inl, inr}
use Rattle.std.specs.List.{All}
use Rattle.std.specs.Prelude.{slice_index_or}
use Rattle.std.proofs.lemmas.List.Elements.{All-weaker}
use Rattle.msg_body.specs.Messages.{Message}
use Rattle.component_ids.specs.declared.id.ComponentId.{ComponentId}
use Rattle.component_ids.specs.declared.params.SigParams.{SigParams}
use Rattle.derived_values.specs.declared.lack.Lack.{Lack}
use Rattle.component_values.specs.Context.{MessageContext, context_with}
use Rattle.component_values.specs.Values.{ComesTo}
use Rattle.component_values.proofs.RowLaws.{has_or_lacks, has_one_value, lacks_in_one_way, lacks_no_value}
use Rattle.signatures.specs.Signatures.{HasSignature}
use Rattle.signatures.proofs.Reading.{has_no_failure_where_read, has_one_signature, has_signature_or_not}
use Rattle.hop_audit.specs.declared.line.Fate.{Fate}
use Rattle.hop_audit.specs.declared.line.Fate.TheVariants.{Dropped, Changed, Lacking, Kept}
use Rattle.hop_audit.specs.Fates.{ComesToBoth, HasChanged, HasKept, HasStayed, IsFate, IsFirstOf, LacksValue}
use Rattle.hop_audit.specs.Laws.{HasOneFate, HasSomeFate}
use Rattle.hop_audit.proofs.Equal.{decided_answer, decided_bytes, decided_params}
use Rattle.hop_audit.proofs.FirstOf.{all_at, none_or_first, one_first}

abbrev Answer : Type 0
Answer = Result (List ℕ) Lack

-- a component comes to one answer
pub one_answer : (context : MessageContext) (id : ComponentId) (a b : Answer) → ComesTo context id a → ComesTo context id b → a ≡ b
one_answer context id (Ok a) (Ok b) is also = ap (λ (t : List ℕ). Ok t) (has_one_value context id a b is also)
one_answer context id (Ok a) (Err b) is also = absurd (lacks_no_value context id a b is also)
one_answer context id (Err a) (Ok b) is also = absurd (lacks_no_value context id b a also is)
one_answer context id (Err a) (Err b) is also = ap (λ (l : Lack). Err l) (lacks_in_one_way context id a b is also)

-- and to some
pub some_answer : (context : MessageContext) (id : ComponentId) → (a : Answer) × ComesTo context id a
some_answer context id = elim (has_or_lacks context id) [
  | inl has ↦ (Ok has.0, has.1)
  | inr lacks ↦ (Err lacks.0, lacks.1)
]

-- ---- components of two messages

module _ (context : MessageContext) (other : Message) where
  abbrev moved : MessageContext
  moved = context_with context other

  pub stays_unchanged : (id : ComponentId) → HasStayed context other id → ¬ HasChanged context other id
  stays_unchanged id stays changed =
      let was = one_answer context id stays.0 changed.0 stays.1.before changed.2.before in
      let now = one_answer moved id stays.0 changed.1 stays.1.after changed.2.after in
      changed.3 (sym was ∙ now)

  pub changed_or_stays : (id : ComponentId) → HasChanged context other id ⊎ HasStayed context other id
  changed_or_stays id =
      let was = some_answer context id in
      let now = some_answer moved id in
      elim (decided_answer was.0 now.0) [
        | inl same ↦ inr (was.0, record { before = was.1; after = subst (λ (a : Answer). ComesTo moved id a) (sym same) now.1 })
        | inr apart ↦ inl (was.0, now.0, record { before = was.1; after = now.1 }, apart)
      ]

  decided_change : (id : ComponentId) → HasChanged context other id ⊎ (¬ HasChanged context other id)
  decided_change id = elim (changed_or_stays id) [
    | inl changed ↦ inl changed
    | inr stays ↦ inr (stays_unchanged id stays)
  ]

  unchanged_stays : (id : ComponentId) → ¬ HasChanged context other id → HasStayed context other id
  unchanged_stays id none = elim (changed_or_stays id) [
    | inl changed ↦ absurd (none changed)
    | inr stays ↦ stays
  ]

  decided_lack : (id : ComponentId) → LacksValue context id ⊎ (¬ LacksValue context id)
  decided_lack id = elim (has_or_lacks context id) [
    | inl has ↦ inr (λ lacks. lacks_no_value context id has.0 lacks.0 has.1 lacks.1)
    | inr lacks ↦ inl lacks
  ]

  kept_stays : (id : ComponentId) → HasKept context other id → HasStayed context other id
  kept_stays id kept = (Ok kept.0, kept.1)

  kept_lacks_none : (id : ComponentId) → HasKept context other id → ¬ LacksValue context id
  kept_lacks_none id kept lacks = lacks_no_value context id kept.0 lacks.0 kept.1.before lacks.1

  stays_with_value : (id : ComponentId) → ¬ LacksValue context id → HasStayed context other id → HasKept context other id
  stays_with_value id none stays = by_answer stays.0 stays.1
    where
      by_answer : (a : Answer) → ComesToBoth context other id a a → HasKept context other id
      by_answer (Ok value) both = (value, both)
      by_answer (Err lack) both = absurd (none (lack, both.before))

  -- ---- all components

  pub all_kept : (ids : List ComponentId) → All (λ id. ¬ LacksValue context id) ids → All (HasStayed context other) ids → All (HasKept context other) ids
  all_kept ids none stay = λ k d lt. stays_with_value (slice_index_or ids k d) (none k d lt) (stay k d lt)

  module _ (label : List ℕ) (params : SigParams) (tag : List ℕ) where
    abbrev Has : Type 0
    Has = HasSignature other label params tag

    fate_where_had : Has → (fate : Fate) × IsFate context other label params tag fate
    fate_where_had has = elim (none_or_first (HasChanged context other) decided_change params.ids) [
      | inr first ↦ (Changed first.0, (has, first.1))
      | inl none ↦
          let stay = All-weaker (λ id. ¬ HasChanged context other id) (HasStayed context other) unchanged_stays params.ids none in
          elim (none_or_first (LacksValue context) decided_lack params.ids) [
            | inr first ↦ (Lacking first.0, (has, stay, first.1))
            | inl full ↦ (Kept, (has, all_kept params.ids full stay))
          ]
    ]

    -- the message has the signature or not
    pub has_or_not : Has ⊎ (¬ Has)
    has_or_not = elim (has_signature_or_not other label) [
      | inr unread ↦ inr (λ has. has_no_failure_where_read other label params tag unread.0 unread.1 has unread.2.holds)
      | inl own ↦ elim (decided_params own.0 params) [
        | inr apart ↦ inr (λ has. apart (has_one_signature other label own.0 params own.1 tag own.2 has).0)
        | inl same ↦ elim (decided_bytes own.1 tag) [
          | inr apart ↦ inr (λ has. apart (has_one_signature other label own.0 params own.1 tag own.2 has).1)
          | inl equal ↦ inl (subst (λ (t : List ℕ). HasSignature other label params t) equal (subst (λ (p : SigParams). HasSignature other label p own.1) same own.2))
        ]
      ]
    ]

    pub some_fate : (fate : Fate) × IsFate context other label params tag fate
    some_fate = elim has_or_not [
      | inl has ↦ fate_where_had has
      | inr none ↦ (Dropped, none)
    ]

    -- ---- one fate

    changed_stays : (id : ComponentId) → IsFirstOf (HasChanged context other) params.ids id → ¬ All (HasStayed context other) params.ids
    changed_stays id first stay =
        stays_unchanged id (all_at (HasStayed context other) params.ids first.index id stay first.there) first.holds

    all_stay : All (HasKept context other) params.ids → All (HasStayed context other) params.ids
    all_stay kept = All-weaker (HasKept context other) (HasStayed context other) kept_stays params.ids kept

    lacking_kept : (id : ComponentId) → IsFirstOf (LacksValue context) params.ids id → ¬ All (HasKept context other) params.ids
    lacking_kept id first kept =
        kept_lacks_none id (all_at (HasKept context other) params.ids first.index id kept first.there) first.holds

    pub one_fate : (fate another : Fate) → IsFate context other label params tag fate → IsFate context other label params tag another → fate ≡ another
    one_fate Dropped Dropped a b = refl
    one_fate Dropped (Changed id) a b = absurd (a b.0)
    one_fate Dropped (Lacking id) a b = absurd (a b.0)
    one_fate Dropped Kept a b = absurd (a b.0)
    one_fate (Changed id) Dropped a b = absurd (b a.0)
    one_fate (Changed id) (Changed own) a b = ap (λ (c : ComponentId). Changed c) (one_first (HasChanged context other) params.ids id own a.1 b.1)
    one_fate (Changed id) (Lacking own) a b = absurd (changed_stays id a.1 b.1)
    one_fate (Changed id) Kept a b = absurd (changed_stays id a.1 (all_stay b.1))
    one_fate (Lacking id) Dropped a b = absurd (b a.0)
    one_fate (Lacking id) (Changed own) a b = absurd (changed_stays own b.1 a.1)
    one_fate (Lacking id) (Lacking own) a b = ap (λ (c : ComponentId). Lacking c) (one_first (LacksValue context) params.ids id own a.2 b.2)
    one_fate (Lacking id) Kept a b = absurd (lacking_kept id a.2 b.1)
    one_fate Kept Dropped a b = absurd (b a.0)
    one_fate Kept (Changed own) a b = absurd (changed_stays own b.1 (all_stay a.1))
    one_fate Kept (Lacking own) a b = absurd (lacking_kept own b.2 a.1)
    one_fate Kept Kept a b = refl

pub has_one_fate : HasOneFate
has_one_fate context other label params tag fate another a b = one_fate context other label params tag fate another a b

pub has_some_fate : HasSomeFate
has_some_fate context other label params tag = some_fate context other label params tag
