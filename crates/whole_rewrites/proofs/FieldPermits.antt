-- What a signature permits of fields: it does or not, by the messages alone.
use Rattle.component_ids.specs.Table.{is_listed}
use Rattle.component_ids.specs.declared.params.SigParams.{SigParams}
use Rattle.component_values.specs.Context.{MessageContext}
use Rattle.line_rewrites.specs.Permitted.{counted_names}
use Rattle.msg_body.specs.Messages.{Message}
use Rattle.msg_body.specs.Views.{lines_on}
use Rattle.msg_head.specs.Values.{combined_value, is_there}
use Rattle.msg_head.specs.declared.error.Side.TheVariants.{Header}
use Rattle.msg_head.specs.declared.error.Side.{Side}
use Rattle.rewrite_script.specs.declared.rewrite.WholeRewrite.TheVariants.{AddLabel, Resf, Rechunk, Chunk, Dechunk}
use Rattle.whole_rewrites.specs.Covered.{covers_unread, rests_on_label}
use Rattle.whole_rewrites.specs.Laws.{IsOfMessages, IsPermittedOrNot}
use Rattle.whole_rewrites.specs.Permitted.{LacksLabel, MayAddLabel, PermitsWhole, MayFrameAnew}
use Rattle.sfv_read.proofs.Readings.{dict_has_one_value, dict_is_decided}
use Rattle.sfv_read.specs.Reads.{ReadsDict}
use Rattle.sfv_text.specs.Keys.{value_of}
use Rattle.sfv_text.specs.declared.pair.Pair.{Pair}
use Rattle.sfv_text.specs.declared.value.Member.{Member}
use Rattle.signatures.specs.Signatures.{HasDict, input_name, signature_name}
use Rattle.std.proofs.Common.{◌≡◌, ℕ, Bool, true, false, not, Option, Some, None, List, refl, sym, subst, ◌∙◌, ap, inl, inr, ◌⊎◌}
use Rattle.std.proofs.lemmas.Bool.{cases_Bool, false≢true}
use Rattle.std.specs.List.{list_any}
use Rattle.std.specs.Prelude.{IsTrue, ◌↔◌, is_none, is_some}

-- ---- what is permitted

lacks_or_not : (message : Message) (name added : List ℕ) → LacksLabel message name added ⊎ (¬ LacksLabel message name added)
lacks_or_not message name added = elim (cases_Bool (is_there (lines_on Header message) name)) [
  | inr none ↦ inr (λ lacks. false≢true (sym none ∙ lacks.has.there))
  | inl there ↦ elim (dict_is_decided (combined_value (lines_on Header message) name)) [
    | inr unread ↦ inr (λ lacks. unread lacks.dict lacks.has.reads)
    | inl read ↦ by there read.0 read.1 (value_of read.0 added) refl
  ]
]
  where
    by : IsTrue (is_there (lines_on Header message) name) → (dict : List (Pair Member)) → ReadsDict (combined_value (lines_on Header message) name) dict → (found : Option Member) → value_of dict added ≡ found
        → LacksLabel message name added ⊎ (¬ LacksLabel message name added)
    by there dict reads None is = inl (record { dict = dict; has = record { there = there; reads = reads }; none = is })
    by there dict reads (Some member) is = inr (λ lacks.
        let same = dict_has_one_value (combined_value (lines_on Header message) name) lacks.dict dict lacks.has.reads reads in
        let e : Some member ≡ None = sym is ∙ (ap (λ (d : List (Pair Member)). value_of d added) (sym same) ∙ lacks.none) in cc)

pub label_decided : (added tag text : List ℕ) → IsPermittedOrNot (AddLabel added tag text)
label_decided added tag text context params = elim (lacks_or_not context.message input_name added) [
  | inr never ↦ inr (λ may. never may.input)
  | inl input ↦ elim (lacks_or_not context.message signature_name added) [
    | inr never ↦ inr (λ may. never may.signature)
    | inl signature ↦ elim (cases_Bool (list_any (rests_on_label added) params.ids)) [
      | inl covered ↦ inr (λ may. false≢true (sym may.covered ∙ covered))
      | inr free ↦ inl (record { input = input; signature = signature; covered = free })
    ]
  ]
]

pub strict_decided : (side : Side) (name : List ℕ) → IsPermittedOrNot (Resf side name)
strict_decided side name context params = elim (cases_Bool (is_listed counted_names name)) [
  | inl counted ↦ inr (λ may. false≢true (sym may.0 ∙ counted))
  | inr free ↦ elim (cases_Bool (covers_unread side name params)) [
    | inl covered ↦ inr (λ may. false≢true (sym may.1 ∙ covered))
    | inr read ↦ inl (free, read)
  ]
]

pub label_permits : (added tag text : List ℕ) (context other : MessageContext) → IsOfMessages context other → (params : SigParams) → PermitsWhole context (AddLabel added tag text) params
    → PermitsWhole other (AddLabel added tag text) params
label_permits added tag text context other same params is = subst (λ (m : Message). MayAddLabel m added params) (sym same.0) is

pub strict_permits : (side : Side) (name : List ℕ) (context other : MessageContext) (params : SigParams) → PermitsWhole context (Resf side name) params → PermitsWhole other (Resf side name) params
strict_permits side name context other params is = is

-- ---- labels

field_lacks : (message : Message) (name label : List ℕ) (dict : List (Pair Member)) (found : Option Member) (b : Bool) → HasDict message name dict → value_of dict label ≡ found → b ≡ is_none found
    → IsTrue b ↔ LacksLabel message name label
field_lacks message name label dict None b has is told = (λ _. record { dict = dict; has = has; none = is }, λ _. told)
field_lacks message name label dict (Some member) b has is told = (
  λ yes. absurd (false≢true (sym told ∙ yes)),
  λ lacks.
      let one = dict_has_one_value (combined_value (lines_on Header message) name) lacks.dict dict lacks.has.reads has.reads in
      let e : Some member ≡ None = sym is ∙ (ap (λ (d : List (Pair Member)). value_of d label) (sym one) ∙ lacks.none) in absurd cc,
)

some_or_none : {V : Type 0} (o : Option V) → not (is_some o) ≡ is_none o
some_or_none None = refl
some_or_none (Some v) = refl

-- a field that isn't there
pub absent_lacks : (message : Message) (name label : List ℕ) → is_there (lines_on Header message) name ≡ false → IsTrue false ↔ LacksLabel message name label
absent_lacks message name label none = (λ no. absurd (false≢true no), λ lacks. absurd (false≢true (sym none ∙ lacks.has.there)))

module _ (message : Message) (name label text : List ℕ) (there : is_there (lines_on Header message) name ≡ true) (is : text ≡ combined_value (lines_on Header message) name) where
  -- a field that reads as a Dictionary
  pub read_lacks : (has : Bool) → ((dict : List (Pair Member)) × ReadsDict text dict × (has ≡ is_some (value_of dict label))) → IsTrue (not has) ↔ LacksLabel message name label
  read_lacks has h =
      let reads : ReadsDict (combined_value (lines_on Header message) name) h.0 = subst (λ (t : List ℕ). ReadsDict t h.0) is h.1 in
      field_lacks message name label h.0 (value_of h.0 label) (not has) (record { there = there; reads = reads }) refl (ap not h.2 ∙ some_or_none (value_of h.0 label))

  -- another field
  pub unread_lacks : ((dict : List (Pair Member)) → ¬ ReadsDict text dict) → IsTrue false ↔ LacksLabel message name label
  unread_lacks none = (λ no. absurd (false≢true no), λ lacks. absurd (none lacks.dict (subst (λ (t : List ℕ). ReadsDict t lacks.dict) (sym is) lacks.has.reads)))

-- ---- fields that frame

false_or_not : (b : Bool) → (b ≡ false) ⊎ (¬ (b ≡ false))
false_or_not false = inl refl
false_or_not true = inr (λ e. false≢true (sym e))

framing_decided : (params : SigParams) → MayFrameAnew params ⊎ (¬ MayFrameAnew params)
framing_decided params = false_or_not _

pub rechunk_decided : (sizes : List ℕ) → IsPermittedOrNot (Rechunk sizes)
rechunk_decided sizes context params = inl tt

pub chunk_decided : (sizes : List ℕ) → IsPermittedOrNot (Chunk sizes)
chunk_decided sizes context params = framing_decided params

pub dechunk_decided : IsPermittedOrNot Dechunk
dechunk_decided context params = framing_decided params
