-- What is read at each layer is one value, or has one cause to be refused.
use Rattle.std.proofs.Common.{◌≡◌, ℕ, List, ap, subst}
use Rattle.byte_grammar.proofs.OffsetLaws.{one_offset}
use Rattle.sfv_text.specs.declared.value.InnerList.{InnerList}
use Rattle.sfv_read.specs.Reads.{ReadsInner}
use Rattle.component_ids.proofs.FaultLaws.{one_fault}
use Rattle.component_ids.specs.Causes.{IsIdFault}
use Rattle.component_ids.specs.SignatureParams.{list_of}
use Rattle.component_ids.specs.declared.fault.IdFault.{IdFault}
use Rattle.component_ids.specs.declared.id.ComponentId.{ComponentId}
use Rattle.component_ids.specs.declared.params.SigParams.{SigParams}
use Rattle.component_values.specs.Context.{MessageContext}
use Rattle.component_values.specs.Values.{HaveValues}
use Rattle.component_values.proofs.FirstLacks.{have_one_list, first_lack_is_one, none_lacks}
use Rattle.commands.specs.Base.{HasIdFault, AreParamsRefused, IsValueLacking}
use Rattle.commands.specs.Covered.{ReadsParams}
use Rattle.commands.specs.Laws.{AreParamsDecided, AreValuesDecided}
use Rattle.refusals.specs.declared.refusal.CommandRefusal.{CommandRefusal}
use Rattle.refusals.specs.declared.refusal.CommandRefusal.TheVariants.{Syntax, Ids, Lacks, Sign, Wishes, NotTaken, Explain, ToMessage, FromMessage, Digest}
use Rattle.commands.proofs.Lacking.{one_id}
use Rattle.commands.proofs.LowerLaws.{one_list, no_fault, one_params}

-- ---- PARAMS

one_sig : (params : List ℕ) (a b : SigParams) → ReadsParams params a → ReadsParams params b → a ≡ b
one_sig params a b one other = one_params a b one.is other.is (one_list params (list_of a) (list_of b) one.reads other.reads)

one_id_fault : (params : List ℕ) (f g : IdFault) → HasIdFault params f → HasIdFault params g → f ≡ g
one_id_fault params f g a b =
    let lists : a.list ≡ b.list = one_list params a.list b.list a.reads b.reads in
    one_fault b.list f g (subst (λ (list : InnerList). IsIdFault list f) lists a.is) b.is

params_cause : (params : List ℕ) (c d : CommandRefusal) → AreParamsRefused params c → AreParamsRefused params d → c ≡ d
params_cause params (Syntax i) (Syntax j) a b = ap Syntax (one_offset ReadsInner params i j a b)
params_cause params (Syntax i) (Ids g) a b = absurd (a.none b.list b.reads)
params_cause params (Syntax i) (Lacks m k) a b = absurd b
params_cause params (Syntax i) (Sign g) a b = absurd b
params_cause params (Syntax i) (Wishes g) a b = absurd b
params_cause params (Syntax i) (NotTaken g) a b = absurd b
params_cause params (Syntax i) (Explain g) a b = absurd b
params_cause params (Syntax i) (ToMessage g) a b = absurd b
params_cause params (Syntax i) (FromMessage g) a b = absurd b
params_cause params (Syntax i) (Digest g) a b = absurd b
params_cause params (Ids f) (Syntax j) a b = absurd (b.none a.list a.reads)
params_cause params (Ids f) (Ids g) a b = ap (λ (h : IdFault). Ids h) (one_id_fault params f g a b)
params_cause params (Ids f) (Lacks m k) a b = absurd b
params_cause params (Ids f) (Sign g) a b = absurd b
params_cause params (Ids f) (Wishes g) a b = absurd b
params_cause params (Ids f) (NotTaken g) a b = absurd b
params_cause params (Ids f) (Explain g) a b = absurd b
params_cause params (Ids f) (ToMessage g) a b = absurd b
params_cause params (Ids f) (FromMessage g) a b = absurd b
params_cause params (Ids f) (Digest g) a b = absurd b
params_cause params (Lacks l i) d a b = absurd a
params_cause params (Sign f) d a b = absurd a
params_cause params (Wishes f) d a b = absurd a
params_cause params (NotTaken f) d a b = absurd a
params_cause params (Explain f) d a b = absurd a
params_cause params (ToMessage f) d a b = absurd a
params_cause params (FromMessage f) d a b = absurd a
params_cause params (Digest f) d a b = absurd a

params_either : (params : List ℕ) (sig : SigParams) (c : CommandRefusal) → ReadsParams params sig → AreParamsRefused params c → ⊥
params_either params sig (Syntax i) reads c = c.none (list_of sig) reads.reads
params_either params sig (Ids f) reads c = no_fault sig c.list f reads.is (one_list params (list_of sig) c.list reads.reads c.reads) c.is
params_either params sig (Lacks l i) reads c = c
params_either params sig (Sign f) reads c = c
params_either params sig (Wishes f) reads c = c
params_either params sig (NotTaken f) reads c = c
params_either params sig (Explain f) reads c = c
params_either params sig (ToMessage f) reads c = c
params_either params sig (FromMessage f) reads c = c
params_either params sig (Digest f) reads c = c

pub params_decided : AreParamsDecided
params_decided params = record {
  value = one_sig params;
  cause = params_cause params;
  either = params_either params;
}

-- ---- the values of components

values_cause : (context : MessageContext) (ids : List ComponentId) (c d : CommandRefusal) → IsValueLacking context ids c → IsValueLacking context ids d → c ≡ d
values_cause context ids (Syntax i) d a b = absurd a
values_cause context ids (Ids f) d a b = absurd a
values_cause context ids (Sign f) d a b = absurd a
values_cause context ids (Wishes f) d a b = absurd a
values_cause context ids (NotTaken f) d a b = absurd a
values_cause context ids (Explain f) d a b = absurd a
values_cause context ids (ToMessage f) d a b = absurd a
values_cause context ids (FromMessage f) d a b = absurd a
values_cause context ids (Digest f) d a b = absurd a
values_cause context ids (Lacks l i) (Syntax j) a b = absurd b
values_cause context ids (Lacks l i) (Ids g) a b = absurd b
values_cause context ids (Lacks l i) (Sign g) a b = absurd b
values_cause context ids (Lacks l i) (Wishes g) a b = absurd b
values_cause context ids (Lacks l i) (NotTaken g) a b = absurd b
values_cause context ids (Lacks l i) (Explain g) a b = absurd b
values_cause context ids (Lacks l i) (ToMessage g) a b = absurd b
values_cause context ids (Lacks l i) (FromMessage g) a b = absurd b
values_cause context ids (Lacks l i) (Digest g) a b = absurd b
values_cause context ids (Lacks l i) (Lacks m k) a b =
    let same = first_lack_is_one context ids a.0 b.0 l m a.1 b.1 in
    let texts = one_id ids a.0 b.0 i k same.0 a.2 b.2 in
    λ t. Lacks (same.1 t) (texts t)

values_either : (context : MessageContext) (ids : List ComponentId) (values : List (List ℕ)) (c : CommandRefusal)
    → HaveValues context ids values → IsValueLacking context ids c → ⊥
values_either context ids values (Syntax i) have c = c
values_either context ids values (Ids f) have c = c
values_either context ids values (Sign f) have c = c
values_either context ids values (Wishes f) have c = c
values_either context ids values (NotTaken f) have c = c
values_either context ids values (Explain f) have c = c
values_either context ids values (ToMessage f) have c = c
values_either context ids values (FromMessage f) have c = c
values_either context ids values (Digest f) have c = c
values_either context ids values (Lacks l i) have c = none_lacks context ids values c.0 l have c.1

pub values_decided : AreValuesDecided
values_decided context ids = record {
  value = have_one_list context ids;
  cause = values_cause context ids;
  either = values_either context ids;
}
