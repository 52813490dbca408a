-- Whether a response has other digests than are asked for.
use Rattle.std.proofs.Common.{◌≡◌, ◌⊎◌, Option, Some, None, List, refl, ap, inl, inr}
use Rattle.sfv_text.specs.Keys.{value_of}
use Rattle.sfv_text.specs.declared.pair.Pair.{Pair}
use Rattle.sfv_text.specs.declared.value.Member.{Member}
use Rattle.msg_body.specs.Messages.{Message}
use Rattle.msg_body.specs.Views.{message_content}
use Rattle.content_digest.proofs.DigestLaws.{has_digest_answer, no_fault_where_holds}
use Rattle.content_digest.specs.Algorithms.{key_of}
use Rattle.content_digest.specs.Digests.{digest_name}
use Rattle.content_digest.specs.declared.algorithm.Algorithm.{Algorithm}
use Rattle.signatures.specs.ContentDigests.{digest_text}
use Rattle.signatures.specs.Fields.{IsFieldOf}
use Rattle.signatures.specs.Signatures.{HasField, HasDict}
use Rattle.signatures.specs.declared.field.DictField.{DictField}
use Rattle.signatures.specs.declared.field.DictField.TheVariants as field
use Rattle.negotiation.specs.NegotiateCauses.{HasDigestBy, HasOtherDigests, HasRightDigests}
use Rattle.negotiation.proofs.Wishing.{has_field, one_dict}

module _ (response : Message) (algorithm : Algorithm) where
  pub no_digests : ¬ HasField response digest_name → ¬ HasOtherDigests response algorithm
  no_digests none others = none others.0

  pub bad_digests : HasField response digest_name × ((dict : List (Pair Member)) → ¬ HasDict response digest_name dict) → HasOtherDigests response algorithm
  bad_digests bad = (bad.0, inr (λ by. bad.1 by.1.dict by.1.has))

  module _ (dict : List (Pair Member)) (has : HasDict response digest_name dict) where
    pub none_by : value_of dict (key_of algorithm) ≡ None → HasOtherDigests response algorithm
    none_by none = (has.there, inr lacks) where
      lacks : ¬ HasDigestBy response algorithm
      lacks by =
          let same = ap (λ (d : List (Pair Member)). value_of d (key_of algorithm)) (one_dict response digest_name by.1.dict dict by.1.has has) in
          let is = by.1.member_is in
          absurd (cc (same, is, none))

    pub wrong : ¬ HasRightDigests response → HasOtherDigests response algorithm
    wrong not = (has.there, inl not)

    pub right : (member : Member) → value_of dict (key_of algorithm) ≡ Some member → HasRightDigests response → ¬ HasOtherDigests response algorithm
    right member is holds others = elim others.1 [
      | inl not ↦ not holds
      | inr lacks ↦ lacks (member, record { dict = dict; has = has; member_is = is })
    ]

  -- ---- it is decided

  by_member : (dict : List (Pair Member)) → HasDict response digest_name dict → (o : Option Member) → value_of dict (key_of algorithm) ≡ o
      → HasOtherDigests response algorithm ⊎ (HasDigestBy response algorithm × HasRightDigests response)
  by_member dict has None none = inl (none_by dict has none)
  by_member dict has (Some member) there = elim (has_digest_answer (digest_text response) (message_content response)) [
    | inl holds ↦ inr ((member, record { dict = dict; has = has; member_is = there }), holds)
    | inr fault ↦ inl (wrong dict has (λ holds. no_fault_where_holds (digest_text response) (message_content response) fault.0 holds fault.1))
  ]

  by_field : (f : DictField) → IsFieldOf response digest_name f
      → HasOtherDigests response algorithm ⊎ (¬ HasField response digest_name) ⊎ (HasDigestBy response algorithm × HasRightDigests response)
  by_field field.Absent is = inr (inl is)
  by_field field.Malformed is = inl (bad_digests is)
  by_field (field.Dict dict) is = elim (by_member dict is (value_of dict (key_of algorithm)) refl) [
    | inl others ↦ inl others
    | inr own ↦ inr (inr own)
  ]

  pub digests_decided : HasOtherDigests response algorithm ⊎ (¬ HasField response digest_name) ⊎ (HasDigestBy response algorithm × HasRightDigests response)
  digests_decided = let f = has_field response digest_name in by_field f.0 f.1

  pub others_decided : HasOtherDigests response algorithm ⊎ (¬ HasOtherDigests response algorithm)
  others_decided = elim digests_decided [
    | inl others ↦ inl others
    | inr rest ↦ elim rest [
      | inl none ↦ inr (no_digests none)
      | inr own ↦ inr (λ others. elim others.1 [
        | inl not ↦ not own.1
        | inr lacks ↦ lacks own.0
      ])
    ]
  ]
