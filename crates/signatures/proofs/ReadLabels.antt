-- The signatures of labels, one after another.
use Rattle.std.proofs.Common.{◌≡◌, ℕ, true, false, Option, Some, None, IfSome, List, [], ◌∷◌, map, refl, sym, ap, ◌∙◌, inl, inr}
use Rattle.std.specs.Prelude.{MatchOption}
use Rattle.std.specs.Str.{bytes_eq}
use Rattle.std.proofs.lemmas.Bool.{cases_Bool, false≢true}
use Rattle.std.proofs.lemmas.Slice.Eq.{bytes_eq-Decides}
use Rattle.sfv_text.specs.Keys.{put, value_of}
use Rattle.sfv_text.specs.declared.pair.Pair.{Pair}
use Rattle.sfv_text.specs.declared.value.Member.{Member}
use Rattle.sfv_text.proofs.PutLaws.{put_value}
use Rattle.sfv_read.proofs.Readings.{dict_has_one_value}
use Rattle.msg_body.specs.Messages.{Message}
use Rattle.msg_body.specs.Views.{lines_on}
use Rattle.msg_head.specs.Values.{combined_value}
use Rattle.msg_head.specs.declared.error.Side.TheVariants.{Header}
use Rattle.component_ids.specs.Table.{is_listed}
use Rattle.component_ids.specs.declared.params.SigParams.{SigParams}
use Rattle.signatures.specs.Signatures.{AreLabels, HasSignature, input_name}
use Rattle.signatures.specs.declared.label.LabelRead.{LabelRead}
use Rattle.signatures.specs.MessageSignatures.{IsSignatureOf}
use Rattle.signatures.specs.tools.Reading.{AreReadIn, AreReadSoFar}

same_both_ways : (a b : List ℕ) → bytes_eq a b ≡ bytes_eq b a
same_both_ways a b = elim (cases_Bool (bytes_eq a b)) [
  | inl same ↦ let e = (bytes_eq-Decides a b).0 same in same ∙ sym ((bytes_eq-Decides b a).1 (sym e))
  | inr apart ↦ elim (cases_Bool (bytes_eq b a)) [
    | inr also ↦ apart ∙ sym also
    | inl same ↦ let e = (bytes_eq-Decides b a).0 same in absurd (false≢true (sym apart ∙ (bytes_eq-Decides a b).1 (sym e)))
  ]
]

-- a key of a Dictionary is among its keys
listed_key : (dict : List (Pair Member)) (label : List ℕ) (member : Member) → value_of dict label ≡ Some member → is_listed (map (λ m. m.key) dict) label ≡ true
listed_key [] label member is = absurd cc
listed_key (pair ∷ dict) label member is = elim (cases_Bool (bytes_eq pair.key label)) [
  | inl same ↦ let own : bytes_eq label pair.key ≡ true = same_both_ways label pair.key ∙ same in rw own refl
  | inr apart ↦
      let own : bytes_eq label pair.key ≡ false = same_both_ways label pair.key ∙ apart in
      rw own (listed_key dict label member (rw apart at is))
]

-- a label that has a signature is among the labels
signed_is_listed : (message : Message) (labels : List (List ℕ)) (label : List ℕ) (params : SigParams) (tag : List ℕ) → AreLabels message labels → HasSignature message label params tag
    → is_listed labels label ≡ true
signed_is_listed message labels label params tag (inr (none, empty)) has = absurd (none has.input.dict has.input.has)
signed_is_listed message labels label params tag (inl (dict, reads, are)) has =
    let same = dict_has_one_value (combined_value (lines_on Header message) input_name) has.input.dict dict has.input.has.reads reads.reads in
    let member_is = ap (λ (d : List (Pair Member)). value_of d label) (sym same) ∙ has.input.member_is in
    rw are (listed_key dict label _ member_is)

module _ (message : Message) (labels : List (List ℕ)) where
  -- one label more
  pub label_read : (signatures : List (Pair (Option LabelRead))) (label : List ℕ) (left : List (List ℕ)) (read : Option LabelRead) → AreReadSoFar message signatures labels (label ∷ left) → IsSignatureOf message label read
      → AreReadSoFar message (put signatures label read) labels left
  label_read signatures label left read so_far is = record { read = reads; rest = rest }
    where
      reads : (name : List ℕ) → IfSome (value_of (put signatures label read) name) (IsSignatureOf message name)
      reads name = elim (cases_Bool (bytes_eq label name)) [
        | inl same ↦
            let name_is : name ≡ label = sym ((bytes_eq-Decides label name).0 same) in
            let own : value_of (put signatures label read) label ≡ Some read = put_value label read label signatures ∙ rw ((bytes_eq-Decides label label).1 refl) refl in
            rw (name_is, own) is
        | inr apart ↦
            let own : value_of (put signatures label read) name ≡ value_of signatures name = put_value label read name signatures ∙ rw apart refl in
            rw own (so_far.read name)
      ]

      rest : (name : List ℕ) → value_of (put signatures label read) name ≡ None → is_listed left name ≡ is_listed labels name
      rest name none = elim (cases_Bool (bytes_eq label name)) [
        | inl same ↦
            let own : value_of (put signatures label read) name ≡ Some read = put_value label read name signatures ∙ rw same refl in
            let e : Some read ≡ None = sym own ∙ none in
            absurd cc
        | inr apart ↦
            let own : value_of (put signatures label read) name ≡ value_of signatures name = put_value label read name signatures ∙ rw apart refl in
            let other : bytes_eq name label ≡ false = same_both_ways name label ∙ apart in
            let before = so_far.rest name (sym own ∙ none) in
            rw other at before
      ]

  -- all labels
  pub all_labels_read : (signatures : List (Pair (Option LabelRead))) → AreLabels message labels → AreReadSoFar message signatures labels [] → AreReadIn message signatures
  all_labels_read signatures are so_far label = by (value_of signatures label) refl
    where
      by : (found : Option (Option LabelRead)) → value_of signatures label ≡ found
          → MatchOption found ((params : SigParams) (tag : List ℕ) → ¬ HasSignature message label params tag) (IsSignatureOf message label)
      by None none = λ params tag has. false≢true (so_far.rest label none ∙ signed_is_listed message labels label params tag are has)
      by (Some read) is = rw is at (so_far.read label)
