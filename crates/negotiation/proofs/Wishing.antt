-- The digest that a message asks for: what its field says of it, and that there is one at most.
use Rattle.std.proofs.Common.{◌≡◌, ◌⊎◌, ℕ, true, false, Option, Some, None, Ok, Err, List, sym, subst, ◌∙◌, inl, inr}
use Rattle.std.specs.List.{list_all}
use Rattle.std.proofs.lemmas.Bool.{cases_Bool, false≢true}
use Rattle.sfv_text.specs.declared.pair.Pair.{Pair}
use Rattle.sfv_text.specs.declared.value.Member.{Member}
use Rattle.sfv_read.proofs.Readings.{dict_has_one_value, dict_is_decided}
use Rattle.msg_head.specs.Values.{combined_value, is_there}
use Rattle.msg_head.specs.declared.error.Side.TheVariants.{Header}
use Rattle.msg_body.specs.Messages.{Message}
use Rattle.msg_body.specs.Views.{lines_on}
use Rattle.content_digest.specs.declared.algorithm.Algorithm.{Algorithm}
use Rattle.signatures.specs.Fields.{IsFieldOf}
use Rattle.signatures.specs.Signatures.{HasField, HasDict}
use Rattle.signatures.specs.declared.field.DictField.{DictField}
use Rattle.signatures.specs.declared.field.DictField.TheVariants as field
use Rattle.negotiation.specs.Laws.{HasOneChosen}
use Rattle.negotiation.specs.Preferences.{IsPreferred, IsWishMalformed, IsWishedDigest, is_preference_sound, want_digest_name}
use Rattle.negotiation.specs.declared.fault.NegotiateFault.TheVariants.{WishMalformed, Unacceptable}
use Rattle.negotiation.specs.tools.Judged.{ExplainsWish}
use Rattle.negotiation.specs.tools.Preferring.{IsMostPreferred}
use Rattle.negotiation.proofs.Preferring.{one_preferred, some_preferred}

-- a field reads as one Dictionary
pub one_dict : (message : Message) (name : List ℕ) (a b : List (Pair Member)) → HasDict message name a → HasDict message name b → a ≡ b
one_dict message name a b one other = dict_has_one_value (combined_value (lines_on Header message) name) a b one.reads other.reads

-- a field is absent, or no Dictionary, or one
pub has_field : (message : Message) (name : List ℕ) → (field : DictField) × IsFieldOf message name field
has_field message name = elim (cases_Bool (is_there (lines_on Header message) name)) [
  | inr none ↦ (field.Absent, λ there. false≢true (sym none ∙ there))
  | inl there ↦ elim (dict_is_decided (combined_value (lines_on Header message) name)) [
    | inl reads ↦ (field.Dict reads.0, record { there = there; reads = reads.1 })
    | inr unread ↦ (field.Malformed, (there, (λ dict has. unread dict has.reads)))
  ]
]

pub one_chosen : HasOneChosen
one_chosen message algorithm other one two =
    let dict = one_dict message want_digest_name one.0 two.0 one.1 two.1 in
    one_preferred two.0 algorithm other (subst (λ (d : List (Pair Member)). IsPreferred d algorithm) dict one.2) two.2

pub one_wished_digest : (message : Message) (one other : Option Algorithm) → IsWishedDigest message one → IsWishedDigest message other → one ≡ other
one_wished_digest message None None a b = λ i. None
one_wished_digest message None (Some other) a b = absurd (a b.1.there)
one_wished_digest message (Some one) None a b = absurd (b a.1.there)
one_wished_digest message (Some one) (Some other) a b = let same = one_chosen message one other a b in λ i. Some (same i)

module _ (message : Message) where
  -- ---- no Dictionary

  pub no_field : ¬ HasField message want_digest_name → ExplainsWish message (Ok None)
  no_field none = (none, (λ bad. none bad.0), (λ lacks. none lacks.0))

  pub bad_field : HasField message want_digest_name × ((dict : List (Pair Member)) → ¬ HasDict message want_digest_name dict) → ExplainsWish message (Err WishMalformed)
  bad_field bad = (bad.0, λ dict has. absurd (bad.1 dict has))

  -- ---- a Dictionary

  module _ (dict : List (Pair Member)) (has : HasDict message want_digest_name dict) where
    pub unsound : list_all is_preference_sound dict ≡ false → ExplainsWish message (Err WishMalformed)
    unsound fails = (has.there, λ other also. subst (λ (d : List (Pair Member)). list_all is_preference_sound d ≡ false) (one_dict message want_digest_name dict other has also) fails)

    module _ (sound : list_all is_preference_sound dict ≡ true) where
      not_malformed : ¬ IsWishMalformed message
      not_malformed bad = false≢true (sym (bad.1 dict has) ∙ sound)

      pub chosen : (algorithm : Algorithm) → IsMostPreferred dict (Some algorithm) → ExplainsWish message (Ok (Some algorithm))
      chosen algorithm is = ((dict, has, is), not_malformed, (λ lacks. lacks.1 algorithm (dict, has, is)))

      pub unacceptable : IsMostPreferred dict None → ExplainsWish message (Err Unacceptable)
      unacceptable none = (
        (has.there, λ algorithm is. none algorithm (subst (λ (d : List (Pair Member)). IsPreferred d algorithm) (one_dict message want_digest_name is.0 dict is.1 has) is.2)),
        not_malformed,
      )

  -- ---- there is an answer

  abbrev pub WishAnswer : Type 0
  WishAnswer =
      ((digest : Option Algorithm) × ExplainsWish message (Ok digest)) ⊎ ExplainsWish message (Err WishMalformed) ⊎ ExplainsWish message (Err Unacceptable)

  by_preferred : (dict : List (Pair Member)) → HasDict message want_digest_name dict → list_all is_preference_sound dict ≡ true → (o : Option Algorithm) → IsMostPreferred dict o → WishAnswer
  by_preferred dict has sound (Some algorithm) is = inl (Some algorithm, chosen dict has sound algorithm is)
  by_preferred dict has sound None is = inr (inr (unacceptable dict has sound is))

  by_field : (f : DictField) → IsFieldOf message want_digest_name f → WishAnswer
  by_field field.Absent is = inl (None, no_field is)
  by_field field.Malformed is = inr (inl (bad_field is))
  by_field (field.Dict dict) is = elim (cases_Bool (list_all is_preference_sound dict)) [
    | inl sound ↦ let most = some_preferred dict in by_preferred dict is sound most.0 most.1
    | inr fails ↦ inr (inl (unsound dict is fails))
  ]

  pub wish_answer : WishAnswer
  wish_answer = let f = has_field message want_digest_name in by_field f.0 f.1
