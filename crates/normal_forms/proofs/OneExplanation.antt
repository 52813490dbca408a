-- Two messages have one explanation for a label, and one fault.
use Rattle.std.proofs.Common.{◌≡◌, ◌⊎◌, ◌<◌, ◌+◌, ℕ, zero, suc, Bool, Option, Some, None, List, [], ◌∷◌, ◌++◌, refl, sym, subst, ap, ◌∙◌, inl, inr, arith}
use Rattle.std.specs.Prelude.{map, slice_get, take}
use Rattle.std.specs.List.{All, position}
use Rattle.std.proofs.lemmas.Bool.{cases_order}
use Rattle.std.proofs.lemmas.List.Elements.{All-head, All-tail}
use Rattle.byte_grammar.specs.tools.Determined.{AreDetermined}
use Rattle.byte_grammar.proofs.CauseLaws.{first_is_one}
use Rattle.byte_grammar.proofs.Indices.{slice_get_take, some_and_parts}
use Rattle.msg_head.specs.declared.error.Side.TheVariants.{Header, Trailer}
use Rattle.framing.specs.Framings.{content_length_of}
use Rattle.msg_body.specs.Bodies.{trailers_in}
use Rattle.msg_body.specs.Messages.{Message, IsMessage}
use Rattle.msg_body.specs.Views.{message_content}
use Rattle.component_ids.specs.declared.id.ComponentId.{ComponentId}
use Rattle.component_ids.specs.declared.params.SigParams.{SigParams}
use Rattle.component_values.specs.Context.{MessageContext, HasWholeMessage, answers_head, context_with}
use Rattle.rewrite_script.specs.declared.rewrite.Rewrite.{Rewrite}
use Rattle.rewrite_script.specs.declared.rewrite.Rewrite.TheVariants.{Lines, Whole}
use Rattle.rewrite_script.specs.declared.rewrite.WholeRewrite.TheVariants.{Rechunk}
use Rattle.signatures.specs.Rules.{IsLabelUnread}
use Rattle.signatures.specs.Signatures.{HasSignature}
use Rattle.signatures.specs.declared.place.Place.{Place}
use Rattle.signatures.specs.declared.rule.Rule.{Rule}
use Rattle.signatures.proofs.Reading.{has_no_failure_where_read, has_one_signature, has_signature_or_not}
use Rattle.normal_forms.specs.Agreement.{AgreeOn, AreOfOneBasis, HasSameBasis}
use Rattle.normal_forms.specs.Causes.{IsExplainCause, IsExplainFault, basis_order, explain_order, is_unplain}
use Rattle.normal_forms.specs.Explanations.{DifferFirstAt, Explains, ExplainsFor}
use Rattle.normal_forms.specs.Laws.{HasExplanationOrFault, HasOneExplainFault, HasOneExplanation, LeadToNormal}
use Rattle.normal_forms.specs.NormalMessages.{whole_size}
use Rattle.normal_forms.specs.Steps.{HasNormalSteps, MakeChunksNormal, normal_message}
use Rattle.normal_forms.specs.tools.Judged.{IsFirstOther}
use Rattle.normal_forms.specs.declared.basis.Basis.{Basis}
use Rattle.normal_forms.specs.declared.basis.Basis.TheVariants.{StartLine, Content, Field}
use Rattle.normal_forms.specs.declared.basis.FixedName.TheVariants.{Host, ContentLength, TransferEncoding, Signature, SignatureInput}
use Rattle.normal_forms.specs.declared.explanation.Explained.{Explained}
use Rattle.normal_forms.specs.declared.explanation.Explained.TheVariants.{Same, Differs}
use Rattle.normal_forms.specs.declared.fault.ExplainFault.{ExplainFault}
use Rattle.normal_forms.specs.declared.fault.ExplainFault.TheVariants.{Memory, Unread, NotPlain, OtherBasis}
use Rattle.normal_forms.proofs.AlikeForms.{alike_where_agreed, lines_of_body, same_signature}
use Rattle.normal_forms.proofs.DecidedParts.{agree_or_not, all_or_first, basis_or_not, one_chunk_or_not}
use Rattle.normal_forms.proofs.LeadLaws.{lead_to_normal}
use Rattle.normal_forms.proofs.LeadLines.{lead_on_side}
use Rattle.normal_forms.proofs.NormalLists.{makes_normal}
use Rattle.normal_forms.proofs.NormalSteps.{makes_some}
use Rattle.normal_forms.proofs.OneNormal.{one_normal}

-- ---- the first that differs

-- what holds of all holds at an index
pub all_there : {X : Type 0} (Holds : X → Type 0) (xs : List X) (i : ℕ) (x : X) → All Holds xs → slice_get xs i ≡ Some x → Holds x
all_there Holds [] i x all there = absurd cc
all_there Holds (y ∷ ys) zero x all there = let same : y ≡ x = cc in subst Holds same (All-head Holds y ys all)
all_there Holds (y ∷ ys) (suc i) x all there = all_there Holds ys i x (All-tail Holds y ys all) there

module _ (first second : Message) (ids : List ComponentId) where
  -- where they differ first, they don't agree on all
  not_all : (index : ℕ) → DifferFirstAt first second index ids → All (AgreeOn first second) ids → ⊥
  not_all index differ agree =
      let at = some_and_parts (λ (id : ComponentId). ¬ AgreeOn first second id) (slice_get ids index) differ.there in
      at.2 (all_there (AgreeOn first second) ids index at.0 agree at.1)

  -- nor before an index further on
  not_before : (i j : ℕ) → i < j → DifferFirstAt first second i ids → DifferFirstAt first second j ids → ⊥
  not_before i j less one other =
      let at = some_and_parts (λ (id : ComponentId). ¬ AgreeOn first second id) (slice_get ids i) one.there in
      at.2 (all_there (AgreeOn first second) (take j ids) i at.0 other.before (slice_get_take ids j i less ∙ at.1))

  one_difference : (i j : ℕ) → DifferFirstAt first second i ids → DifferFirstAt first second j ids → i ≡ j
  one_difference i j one other = elim (cases_order i j) [
    | inl same ↦ same
    | inr apart ↦ elim apart [
      | inl less ↦ absurd (not_before i j less one other)
      | inr more ↦ absurd (not_before j i more other one)
    ]
  ]

-- ---- one explanation

one_for : (first second : MessageContext) (label : List ℕ) (params : SigParams) (one other : Explained) → ExplainsFor first second label params one
    → ExplainsFor first second label params other → one ≡ other
one_for first second label params (Same steps others) (Same more rest) a b =
    let here = one_normal (answers_head first.related) params first.message steps more a.normal b.normal a.first_form.made b.first_form.made in
    let there = one_normal (answers_head second.related) params second.message others rest a.other b.other a.second_form.made b.second_form.made in
    λ i. Same (here.0 i) (there.0 i)
one_for first second label params (Same steps others) (Differs index) a b = absurd (not_all first.message second.message params.ids index b a.agree)
one_for first second label params (Differs index) (Same steps others) a b = absurd (not_all first.message second.message params.ids index a b.agree)
one_for first second label params (Differs i) (Differs j) a b = ap (λ (k : ℕ). Differs k) (one_difference first.message second.message params.ids i j a b)

pub has_one_explanation : HasOneExplanation
has_one_explanation first second label one other a b =
    let params : a.params ≡ b.params = (has_one_signature first.message label a.params b.params a.tag b.tag a.first_has b.first_has).0 in
    one_for first second label a.params one other a.explains (subst (λ (p : SigParams). ExplainsFor first second label p other) (sym params) b.explains)

-- ---- one fault

-- all that is judged, in order
abbrev pub all_bases : List Basis
all_bases =
    StartLine ∷ Content ∷ Field Header Host ∷ Field Header ContentLength ∷ Field Header TransferEncoding ∷ Field Header Signature ∷ Field Header SignatureInput ∷ Field Trailer Host
    ∷ Field Trailer ContentLength ∷ Field Trailer TransferEncoding ∷ Field Trailer Signature ∷ Field Trailer SignatureInput ∷ []

pub basis_by_order : (basis : Basis) → slice_get all_bases (basis_order basis) ≡ Some basis
basis_by_order StartLine = refl
basis_by_order Content = refl
basis_by_order (Field Header Host) = refl
basis_by_order (Field Header ContentLength) = refl
basis_by_order (Field Header TransferEncoding) = refl
basis_by_order (Field Header Signature) = refl
basis_by_order (Field Header SignatureInput) = refl
basis_by_order (Field Trailer Host) = refl
basis_by_order (Field Trailer ContentLength) = refl
basis_by_order (Field Trailer TransferEncoding) = refl
basis_by_order (Field Trailer Signature) = refl
basis_by_order (Field Trailer SignatureInput) = refl

one_basis : (one other : Basis) → basis_order one ≡ basis_order other → one ≡ other
one_basis one other same =
    let found : Some one ≡ Some other = sym (basis_by_order one) ∙ (ap (λ (n : ℕ). slice_get all_bases n) same ∙ basis_by_order other) in
    cc

module _ (first second : MessageContext) (label : List ℕ) where
  one_index : (i j : ℕ) → IsExplainCause first second label (NotPlain i) → IsExplainCause first second label (NotPlain j) → i ≡ j
  one_index i j a b =
      let params : a.0 ≡ b.0 = (has_one_signature first.message label a.0 b.0 a.1 b.1 a.2 b.2).0 in
      let same : Some i ≡ Some j = sym a.3 ∙ (ap (λ (p : SigParams). position is_unplain p.ids) params ∙ b.3) in
      cc

  determined : AreDetermined explain_order (IsExplainCause first second label)
  determined Memory other e a b = absurd a
  determined Unread Memory e a b = absurd b
  determined Unread Unread e a b = refl
  determined Unread (NotPlain j) e a b = absurd (omega (arith, e))
  determined Unread (OtherBasis basis) e a b = absurd (omega (arith, e))
  determined (NotPlain i) Memory e a b = absurd b
  determined (NotPlain i) Unread e a b = absurd (omega (arith, e))
  determined (NotPlain i) (NotPlain j) e a b = ap (λ (k : ℕ). NotPlain k) (one_index i j a b)
  determined (NotPlain i) (OtherBasis basis) e a b = absurd (omega (arith, e))
  determined (OtherBasis basis) Memory e a b = absurd b
  determined (OtherBasis basis) Unread e a b = absurd (omega (arith, e))
  determined (OtherBasis basis) (NotPlain j) e a b = absurd (omega (arith, e))
  determined (OtherBasis one) (OtherBasis other) e a b =
      let same : basis_order one ≡ basis_order other = omega (arith, e) in
      ap (λ (basis : Basis). OtherBasis basis) (one_basis one other same)

pub has_one_explain_fault : HasOneExplainFault
has_one_explain_fault first second label one other a b = first_is_one explain_order (IsExplainCause first second label) (determined first second label) one other a b

-- ---- an explanation or a fault

some_same : (one other : Basis) → Some one ≡ Some other → basis_order other ≡ basis_order one
some_same one other same = let is : other ≡ one = cc in ap basis_order is

pub order_found : (i : ℕ) (basis : Basis) → slice_get all_bases i ≡ Some basis → basis_order basis ≡ i
order_found zero basis is = some_same StartLine basis is
order_found (suc zero) basis is = some_same Content basis is
order_found (suc (suc zero)) basis is = some_same (Field Header Host) basis is
order_found (suc (suc (suc zero))) basis is = some_same (Field Header ContentLength) basis is
order_found (suc (suc (suc (suc zero)))) basis is = some_same (Field Header TransferEncoding) basis is
order_found (suc (suc (suc (suc (suc zero))))) basis is = some_same (Field Header Signature) basis is
order_found (suc (suc (suc (suc (suc (suc zero)))))) basis is = some_same (Field Header SignatureInput) basis is
order_found (suc (suc (suc (suc (suc (suc (suc zero))))))) basis is = some_same (Field Trailer Host) basis is
order_found (suc (suc (suc (suc (suc (suc (suc (suc zero)))))))) basis is = some_same (Field Trailer ContentLength) basis is
order_found (suc (suc (suc (suc (suc (suc (suc (suc (suc zero))))))))) basis is = some_same (Field Trailer TransferEncoding) basis is
order_found (suc (suc (suc (suc (suc (suc (suc (suc (suc (suc zero)))))))))) basis is = some_same (Field Trailer Signature) basis is
order_found (suc (suc (suc (suc (suc (suc (suc (suc (suc (suc (suc zero))))))))))) basis is = some_same (Field Trailer SignatureInput) basis is
order_found (suc (suc (suc (suc (suc (suc (suc (suc (suc (suc (suc (suc i)))))))))))) basis is = absurd cc

-- the messages are of one basis, or differ in a first part of it
basis_or_first : (message other : Message) → AreOfOneBasis message other ⊎ ((basis : Basis) × IsFirstOther message other basis)
basis_or_first message other = elim (all_or_first (HasSameBasis message other) (basis_or_not message other) all_bases) [
  | inl all ↦ inl (λ basis. all_there (HasSameBasis message other) all_bases (basis_order basis) basis all (basis_by_order basis))
  | inr first ↦
      let at = some_and_parts (λ (b : Basis). HasSameBasis message other b → ⊥) (slice_get all_bases first.0) first.2 in
      let before : (b : Basis) → basis_order b < basis_order at.0 → (HasSameBasis message other b → ⊥) → ⊥ =
      λ b less apart.
      let within : basis_order b < first.0 = subst (λ (n : ℕ). basis_order b < n) (order_found first.0 at.0 at.1) less in
      apart (all_there (HasSameBasis message other) (take first.0 all_bases) (basis_order b) b first.1 (slice_get_take all_bases first.0 (basis_order b) within ∙ basis_by_order b)) in
      inr (at.0, record { holds = at.2; none_before = before })
]

-- a message has steps that make it normal
pub some_normal : (to_head : Bool) (params : SigParams) (message : Message) → IsMessage to_head message
    → (steps : List Rewrite) × (normal : Message) × HasNormalSteps to_head params message steps normal
some_normal to_head params message is =
    let header = makes_some Header params message.head.lines is.head.lines in
    let trailer = makes_some Trailer params (trailers_in message.body) (lines_of_body message.framing (content_length_of message.head) message.body is.body) in
    let chunks : (steps : List Rewrite) × MakeChunksNormal message steps =
    elim (one_chunk_or_not message.body) [
      | inl one ↦ ([], inl (one, refl))
      | inr more ↦ (Whole (Rechunk (whole_size (message_content message))) ∷ [], inr (more, refl))
    ] in (
      map Lines (header.0 ++ trailer.0) ++ chunks.0,
      normal_message to_head message header.1 trailer.1,
      record {
        header_steps = header.0;
        header = header.1;
        header_made = header.2;
        trailer_steps = trailer.0;
        trailer = trailer.1;
        trailer_made = trailer.2;
        chunk_steps = chunks.0;
        chunks_made = chunks.1;
        steps_are = refl;
        normal_is = refl;
      },
    )

-- they lead to it, and each is permitted
leads : LeadToNormal
leads = lead_to_normal lead_on_side (λ side params lines steps normal is made. makes_normal side params lines steps normal made)

-- rules of reading fail
pub unread_fault : (first second : MessageContext) (label : List ℕ) (rule : Rule) (place : Place) → IsLabelUnread first.message label rule place
    → IsExplainFault first second label Unread
unread_fault first second label rule place unread = record {
  holds = λ params tag has. has_no_failure_where_read first.message label params tag rule place has unread.holds;
  none_before = λ other less cause. omega (arith, less);
}

module _ (first second : MessageContext) (label : List ℕ) (params : SigParams) (tag : List ℕ) (has : HasSignature first.message label params tag) where
  -- the signature can be read
  read : IsExplainCause first second label Unread → ⊥
  read unread = unread params tag has

  -- a component covers what isn't plain
  pub unplain_fault : (index : ℕ) → position is_unplain params.ids ≡ Some index → IsExplainFault first second label (NotPlain index)
  unplain_fault index there = record { holds = (params, tag, has, there); none_before = before }
    where
      before : (other : ExplainFault) → explain_order other < 1 → IsExplainCause first second label other → ⊥
      before Memory less cause = cause
      before Unread less cause = read cause
      before (NotPlain i) less cause = omega (arith, less)
      before (OtherBasis basis) less cause = omega (arith, less)

  module _ (none : position is_unplain params.ids ≡ None) where
    plain_all : (index : ℕ) → IsExplainCause first second label (NotPlain index) → ⊥
    plain_all index cause =
        let is : params ≡ cause.0 = (has_one_signature first.message label params cause.0 tag cause.1 has cause.2).0 in
        let found : None ≡ Some index = sym none ∙ (ap (λ (p : SigParams). position is_unplain p.ids) is ∙ cause.3) in
        cc

    pub basis_fault : (basis : Basis) → IsFirstOther first.message second.message basis → IsExplainFault first second label (OtherBasis basis)
    basis_fault basis apart = record { holds = apart.holds; none_before = before }
      where
        before : (other : ExplainFault) → explain_order other < 2 + basis_order basis → IsExplainCause first second label other → ⊥
        before Memory less cause = cause
        before Unread less cause = read cause
        before (NotPlain i) less cause = plain_all i cause
        before (OtherBasis b) less cause = apart.none_before b (omega (arith, less)) cause

    -- there is no cause against an explanation
    pub no_cause : AreOfOneBasis first.message second.message → (fault : ExplainFault) → IsExplainCause first second label fault → ⊥
    no_cause basis Memory cause = cause
    no_cause basis Unread cause = read cause
    no_cause basis (NotPlain i) cause = plain_all i cause
    no_cause basis (OtherBasis b) cause = cause (basis b)

  module _ (basis : AreOfOneBasis first.message second.message) where
    second_has : HasSignature second.message label params tag
    second_has = same_signature first.message second.message label params tag basis has

    -- a first component differs
    pub differs_explained : (index : ℕ) → DifferFirstAt first.message second.message index params.ids → Explains first second label (Differs index)
    differs_explained index apart = record { params = params; tag = tag; first_has = has; second_has = second_has; explains = apart }

    module _ (whole : HasWholeMessage first) (second_whole : HasWholeMessage second) (same : second ≡ context_with first second.message) where
      -- they agree on all, and these steps make them normal
      pub same_explained : All (AgreeOn first.message second.message) params.ids → (steps others : List Rewrite) (normal another : Message)
          → HasNormalSteps (answers_head first.related) params first.message steps normal → HasNormalSteps (answers_head second.related) params second.message others another
          → Explains first second label (Same steps others)
      same_explained agree steps others normal another one other =
          let to_head = answers_head first.related in
          let related : answers_head second.related ≡ to_head = ap (λ (c : MessageContext). answers_head c.related) same in
          let message = subst (λ (b : Bool). IsMessage b second.message) related second_whole in
          let made = subst (λ (b : Bool). HasNormalSteps b params second.message others another) related other in
          record {
            params = params;
            tag = tag;
            first_has = has;
            second_has = second_has;
            explains = record {
              agree = agree;
              normal = normal;
              first_form = leads first label params tag steps normal whole has one;
              other = another;
              second_form = leads second label params tag others another second_whole second_has other;
              alike = (alike_where_agreed to_head params first.message second.message steps others normal another whole message basis one made).1 agree;
            };
          }

      some_explanation : (is : Explained) × Explains first second label is
      some_explanation = elim (all_or_first (AgreeOn first.message second.message) (agree_or_not first.message second.message) params.ids) [
        | inr apart ↦ (Differs apart.0, differs_explained apart.0 (record { before = apart.1; there = apart.2 }))
        | inl agree ↦
            let one = some_normal (answers_head first.related) params first.message whole in
            let other = some_normal (answers_head second.related) params second.message second_whole in
            (Same one.0 other.0, same_explained agree one.0 other.0 one.1 other.1 one.2 other.2)
      ]

abbrev ExplanationOrFault : MessageContext → MessageContext → List ℕ → Type 0
ExplanationOrFault first second label =
    ((fault : ExplainFault) × IsExplainFault first second label fault)
    ⊎ (((fault : ExplainFault) → IsExplainFault first second label fault → ⊥) × ((is : Explained) × Explains first second label is))

with_plain : (first second : MessageContext) (label : List ℕ) (whole : HasWholeMessage first) (second_whole : HasWholeMessage second) (same : second ≡ context_with first second.message)
    (params : SigParams) (tag : List ℕ) (has : HasSignature first.message label params tag) (unplain_at : Option ℕ) → position is_unplain params.ids ≡ unplain_at
    → ExplanationOrFault first second label
with_plain first second label whole second_whole same params tag has (Some index) there = inl (NotPlain index, unplain_fault first second label params tag has index there)
with_plain first second label whole second_whole same params tag has None none = elim (basis_or_first first.message second.message) [
  | inr apart ↦ inl (OtherBasis apart.0, basis_fault first second label params tag has none apart.0 apart.1)
  | inl basis ↦ inr (
    λ fault is. no_cause first second label params tag has none basis fault is.holds,
    some_explanation first second label params tag has basis whole second_whole same,
  )
]

pub has_explanation_or_fault : HasExplanationOrFault
has_explanation_or_fault first second label whole second_whole same = elim (has_signature_or_not first.message label) [
  | inl signed ↦ with_plain first second label whole second_whole same signed.0 signed.1 signed.2 (position is_unplain signed.0.ids) refl
  | inr unread ↦ inl (Unread, unread_fault first second label unread.0 unread.1 unread.2)
]
