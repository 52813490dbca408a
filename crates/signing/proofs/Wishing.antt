-- The causes for which a wish isn't met.
use Rattle.std.proofs.Common.{◌≡◌, ◌<◌, lit<, ℕ, Bool, true, false, ◌||◌, Option, Some, None, IfSome, Result, Err, List, ◌∷◌, refl, sym, ap, subst, ◌∙◌, arith}
use Rattle.std.specs.Option.{IsSomeAnd}
use Rattle.std.specs.List.{list_all}
use Rattle.std.proofs.lemmas.Bool.{false≢true}
use Rattle.byte_grammar.specs.Causes.{AnswersWhere}
use Rattle.sfv_text.specs.declared.value.InnerList.{InnerList}
use Rattle.sfv_text.specs.declared.value.Item.{Item}
use Rattle.sfv_text.specs.declared.value.Member.TheVariants.{Item as ItemMember, InnerList as InnerMember}
use Rattle.component_ids.specs.Causes.{IsIdFault}
use Rattle.component_ids.specs.SignatureParams.{IsParamsOf}
use Rattle.component_ids.specs.Table.{is_listed}
use Rattle.component_ids.specs.declared.fault.IdFault.{IdFault}
use Rattle.component_ids.specs.declared.fault.IdFault.TheVariants as id
use Rattle.component_ids.specs.declared.id.ComponentId.{ComponentId}
use Rattle.component_ids.specs.declared.params.SigParams.{SigParams}
use Rattle.component_ids.proofs.FaultLaws.{not_both}
use Rattle.settings.specs.Configuration.{Configuration}
use Rattle.settings.specs.Covered.{params_of}
use Rattle.settings.specs.declared.sign_conf.SignConf.{SignConf}
use Rattle.signatures.specs.Algorithms.{supported_algorithm, refused_algorithms}
use Rattle.signing.specs.Wishes.{can_be_met, components_in, wished_alg, wished_key}
use Rattle.signing.specs.declared.wish.WishFault.{WishFault}
use Rattle.signing.specs.declared.wish.WishFault.TheVariants.{Memory, NotInnerList, Ids, Parameter, AlgRefused, AlgUnknown, KeyUnknown}
use Rattle.signing.specs.tools.Wished.{fault_of_ids, wish_order, ExplainsAlgorithm, ExplainsComponents, ExplainsFault, IsWishCause, IsWishFault}

-- ---- components

ids_answered : (list : InnerList) (fault : IdFault) → ((other : IdFault) → ¬ (other ≡ id.Memory) → fault ≡ other → IsIdFault (components_in list) other) → ExplainsComponents list (Err (fault_of_ids fault))
ids_answered list id.Memory answers = tt
ids_answered list id.TooMany answers = answers id.TooMany (λ e. absurd cc) refl
ids_answered list (id.BadComponent i r) answers = answers (id.BadComponent i r) (λ e. absurd cc) refl
ids_answered list (id.Repeated i) answers = answers (id.Repeated i) (λ e. absurd cc) refl
ids_answered list (id.BadParameter key) answers = answers (id.BadParameter key) (λ e. absurd cc) refl

abbrev not_params : IdFault → Result SigParams IdFault
not_params fault = Err fault

pub read_ids_answered : (list copied : InnerList) (fault : IdFault) → copied ≡ components_in list
    → ((other : IdFault) → ¬ (other ≡ id.Memory) → AnswersWhere id.Memory (not_params fault) other (IsIdFault copied other)) → ExplainsComponents list (Err (fault_of_ids fault))
read_ids_answered list copied fault same answers =
    ids_answered list fault (λ other known is. subst (λ (l : InnerList). IsIdFault l other) same ((answers other known).only (ap (λ (f : IdFault). not_params f) is)))

-- ---- algorithms

not_refused : (alg : Option (List ℕ)) → IfSome alg (λ name. name ≡ supported_algorithm) → ¬ IsSomeAnd alg (λ name. is_listed refused_algorithms name ≡ true)
not_refused None fine there = absurd there
not_refused (Some name) fine there = let none : is_listed refused_algorithms name ≡ false = rw fine refl in false≢true (sym none ∙ there)

not_unknown : (alg : Option (List ℕ)) → IfSome alg (λ name. name ≡ supported_algorithm) → ¬ IsSomeAnd alg (λ name. is_listed (supported_algorithm ∷ refused_algorithms) name ≡ false)
not_unknown None fine there = absurd there
not_unknown (Some name) fine there = let one : is_listed (supported_algorithm ∷ refused_algorithms) name ≡ true = rw fine refl in false≢true (sym there ∙ one)

unlisted : (a b : Bool) → (a || b) ≡ false → b ≡ false
unlisted true b none = absurd cc
unlisted false b none = none

unknown_not_refused : (alg : Option (List ℕ)) → IsSomeAnd alg (λ name. is_listed (supported_algorithm ∷ refused_algorithms) name ≡ false) → ¬ IsSomeAnd alg (λ name. is_listed refused_algorithms name ≡ true)
unknown_not_refused None unknown there = absurd there
unknown_not_refused (Some name) unknown there = false≢true (sym (unlisted _ (is_listed refused_algorithms name) unknown) ∙ there)

-- ---- one wish

pub not_a_list : (conf : Configuration) (sign : SignConf) (item : Item) → IsWishFault conf sign (ItemMember item) NotInnerList
not_a_list conf sign item = record { holds = (item, refl); none_before = λ other lt h. absurd (omega (arith, lt)) }

module _ (conf : Configuration) (sign : SignConf) (list : InnerList) where
  one_list : (other : InnerList) → InnerMember list ≡ InnerMember other → other ≡ list
  one_list other e = cc

  below : (n : ℕ) → (1 < n → (fault : IdFault) → ¬ IsIdFault (components_in list) fault) → (2 < n → list_all (can_be_met sign.expires_after) list.params ≡ true)
      → (3 < n → ¬ IsSomeAnd (wished_alg list) (λ alg. is_listed refused_algorithms alg ≡ true))
      → (4 < n → ¬ IsSomeAnd (wished_alg list) (λ alg. is_listed (supported_algorithm ∷ refused_algorithms) alg ≡ false)) → (5 < n → ¬ (wished_key conf sign list ≡ None))
      → (fault : WishFault) → wish_order fault < n → ¬ IsWishCause conf sign (InnerMember list) fault
  below n ids can refused unknown key NotInnerList lt = λ h. let e = h.1 in absurd (cc e)
  below n ids can refused unknown key (Ids fault) lt = λ h. ids lt fault (subst (λ (l : InnerList). IsIdFault (components_in l) fault) (one_list h.0 h.1) h.2)
  below n ids can refused unknown key Parameter lt = λ h.
      false≢true (sym (subst (λ (l : InnerList). list_all (can_be_met sign.expires_after) l.params ≡ false) (one_list h.0 h.1) h.2) ∙ can lt)
  below n ids can refused unknown key AlgRefused lt = λ h. refused lt (subst (λ (l : InnerList). IsSomeAnd (wished_alg l) (λ alg. is_listed refused_algorithms alg ≡ true)) (one_list h.0 h.1) h.2)
  below n ids can refused unknown key AlgUnknown lt = λ h.
      unknown lt (subst (λ (l : InnerList). IsSomeAnd (wished_alg l) (λ alg. is_listed (supported_algorithm ∷ refused_algorithms) alg ≡ false)) (one_list h.0 h.1) h.2)
  below n ids can refused unknown key KeyUnknown lt = λ h. key lt (subst (λ (l : InnerList). wished_key conf sign l ≡ None) (one_list h.0 h.1) h.2)
  below n ids can refused unknown key Memory lt = λ h. h

  pub components_fail : (fault : WishFault) → ExplainsComponents list (Err fault) → ExplainsFault conf sign (InnerMember list) fault
  components_fail (Ids fault) is = record {
    holds = (list, refl, is);
    none_before = below 1 (λ lt. absurd (omega (arith, lt))) (λ lt. absurd (omega (arith, lt))) (λ lt. absurd (omega (arith, lt))) (λ lt. absurd (omega (arith, lt))) (λ lt. absurd (omega (arith, lt)));
  }
  components_fail Memory is = tt
  components_fail NotInnerList is = absurd is
  components_fail Parameter is = absurd is
  components_fail AlgRefused is = absurd is
  components_fail AlgUnknown is = absurd is
  components_fail KeyUnknown is = absurd is

  module _ (ids : List ComponentId) (are : IsParamsOf (components_in list) (params_of ids)) where
    no_ids : (fault : IdFault) → ¬ IsIdFault (components_in list) fault
    no_ids fault = not_both (components_in list) (params_of ids) fault are

    pub cannot : list_all (can_be_met sign.expires_after) list.params ≡ false → IsWishFault conf sign (InnerMember list) Parameter
    cannot no_wish = record {
      holds = (list, refl, no_wish);
      none_before = below 2 (λ _. no_ids) (λ lt. absurd (omega (arith, lt))) (λ lt. absurd (omega (arith, lt))) (λ lt. absurd (omega (arith, lt))) (λ lt. absurd (omega (arith, lt)));
    }

    module _ (can : list_all (can_be_met sign.expires_after) list.params ≡ true) where
      pub algorithm_fails : (fault : WishFault) → ExplainsAlgorithm (wished_alg list) (Err fault) → ExplainsFault conf sign (InnerMember list) fault
      algorithm_fails AlgRefused is = record {
        holds = (list, refl, is);
        none_before = below 3 (λ _. no_ids) (λ _. can) (λ lt. absurd (omega (arith, lt))) (λ lt. absurd (omega (arith, lt))) (λ lt. absurd (omega (arith, lt)));
      }
      algorithm_fails AlgUnknown is = record {
        holds = (list, refl, is);
        none_before = below 4 (λ _. no_ids) (λ _. can) (λ _. unknown_not_refused (wished_alg list) is) (λ lt. absurd (omega (arith, lt))) (λ lt. absurd (omega (arith, lt)));
      }
      algorithm_fails Memory is = tt
      algorithm_fails (Ids fault) is = absurd is
      algorithm_fails NotInnerList is = absurd is
      algorithm_fails Parameter is = absurd is
      algorithm_fails KeyUnknown is = absurd is

      module _ (fine : IfSome (wished_alg list) (λ alg. alg ≡ supported_algorithm)) where
        pub key_unknown : wished_key conf sign list ≡ None → IsWishFault conf sign (InnerMember list) KeyUnknown
        key_unknown none = record {
          holds = (list, refl, none);
          none_before = below 5 (λ _. no_ids) (λ _. can) (λ _. not_refused (wished_alg list) fine) (λ _. not_unknown (wished_alg list) fine) (λ lt. absurd (omega (arith, lt)));
        }

        pub no_wish_cause : (key : List ℕ) → wished_key conf sign list ≡ Some key → (fault : WishFault) → ¬ IsWishCause conf sign (InnerMember list) fault
        no_wish_cause key there fault h =
            below 6 (λ _. no_ids) (λ _. can) (λ _. not_refused (wished_alg list) fine) (λ _. not_unknown (wished_alg list) fine) (λ _ none. absurd (cc (there, none))) fault (number fault h) h
          where
            number : (fault : WishFault) → IsWishCause conf sign (InnerMember list) fault → wish_order fault < 6
            number NotInnerList h = lit< tt
            number (Ids fault) h = lit< tt
            number Parameter h = lit< tt
            number AlgRefused h = lit< tt
            number AlgUnknown h = lit< tt
            number KeyUnknown h = lit< tt
            number Memory h = absurd h
