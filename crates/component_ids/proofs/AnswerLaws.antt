-- The clauses of the reader of signature parameters.
use Rattle.std.proofs.Common.{◌≡◌, ◌⊎◌, Bool, Result, Ok, Err, MatchResult, IfOk, IsTrue, ◌&&◌, refl, sym, ap, ◌∙◌, inl, inr}
use Rattle.std.proofs.lemmas.List.Folds.{list_all-map}
use Rattle.byte_grammar.specs.Causes.{AnswersWhere}
use Rattle.sfv_text.specs.Range.{is_item_in_range, is_inner_in_range, are_params_in_range}
use Rattle.sfv_text.specs.declared.value.InnerList.{InnerList}
use Rattle.component_ids.specs.declared.fault.IdFault.{IdFault}
use Rattle.component_ids.specs.declared.fault.IdFault.TheVariants.{Memory, TooMany, BadComponent, Repeated, BadParameter}
use Rattle.component_ids.specs.declared.params.SigParams.{SigParams}
use Rattle.component_ids.specs.Identifiers.{item_of}
use Rattle.component_ids.specs.SignatureParams.{list_of, are_sig_params_in_range, IsSigParams}
use Rattle.component_ids.specs.Causes.{IsIdFault}
use Rattle.component_ids.specs.tools.Reads.{ExplainsParams}
use Rattle.component_ids.proofs.FaultLaws.{one_value, one_fault, no_cause, first_of}

-- ---- the clauses of the reader

-- what was read stands for the list, and of what was refused a fault comes first
pub answers_fault : (list : InnerList) (result : Result SigParams IdFault) → ExplainsParams list result → (fault : IdFault) → ¬ (fault ≡ Memory)
    → AnswersWhere Memory result fault (IsIdFault list fault)
answers_fault list result x fault not_memory = record { only = only_first list result x fault not_memory; there = first_there list result x fault }
  where
    only_first : (list : InnerList) (result : Result SigParams IdFault) → ExplainsParams list result → (fault : IdFault) → ¬ (fault ≡ Memory) → result ≡ Err fault → IsIdFault list fault
    only_first list result x fault known e = first_of list fault known (rw e at x)

    first_there : (list : InnerList) (result : Result SigParams IdFault) → ExplainsParams list result → (fault : IdFault) → IsIdFault list fault → (result ≡ Err fault) ⊎ (result ≡ Err Memory)
    first_there list (Ok params) x fault first = absurd (no_cause list params x fault first.holds)
    first_there list (Err Memory) x fault first = inr refl
    first_there list (Err TooMany) x fault first = inl (ap (λ (f : IdFault). Err f) (one_fault list TooMany fault (first_of list TooMany (λ e. absurd cc) x) first))
    first_there list (Err (BadComponent i r)) x fault first = inl (ap (λ (f : IdFault). Err f) (one_fault list (BadComponent i r) fault (first_of list (BadComponent i r) (λ e. absurd cc) x) first))
    first_there list (Err (Repeated i)) x fault first = inl (ap (λ (f : IdFault). Err f) (one_fault list (Repeated i) fault (first_of list (Repeated i) (λ e. absurd cc) x) first))
    first_there list (Err (BadParameter key)) x fault first = inl (ap (λ (f : IdFault). Err f) (one_fault list (BadParameter key) fault (first_of list (BadParameter key) (λ e. absurd cc) x) first))

-- a list that is signature parameters is read
pub answers_only : (list : InnerList) (result : Result SigParams IdFault) → ExplainsParams list result → (params : SigParams) → IsSigParams params
    → list_of params ≡ list → MatchResult result (λ given. given ≡ params) (λ fault. fault ≡ Memory)
answers_only list (Ok given) x params is same = one_value list given params x (is, same)
answers_only list (Err Memory) x params is same = refl
answers_only list (Err TooMany) x params is same = absurd (no_cause list params (is, same) TooMany x)
answers_only list (Err (BadComponent i r)) x params is same = absurd (no_cause list params (is, same) (BadComponent i r) x.1)
answers_only list (Err (Repeated i)) x params is same = absurd (no_cause list params (is, same) (Repeated i) x.1)
answers_only list (Err (BadParameter key)) x params is same = absurd (no_cause list params (is, same) (BadParameter key) x.2)

-- signature parameters are in range where their list is
pub in_range_of_list : (params : SigParams) → are_sig_params_in_range params ≡ is_inner_in_range (list_of params)
in_range_of_list params = ap (λ (b : Bool). b && are_params_in_range params.params) (sym (list_all-map is_item_in_range item_of params.ids))

pub answers_in_range : (list : InnerList) (result : Result SigParams IdFault) → ExplainsParams list result
    → IfOk result (λ params. IsTrue (is_inner_in_range list) → IsTrue (are_sig_params_in_range params))
answers_in_range list (Ok params) x = λ ranged. in_range_of_list params ∙ (ap is_inner_in_range x.1 ∙ ranged)
answers_in_range list (Err fault) x = tt
