-- What is signed, and why it isn't: there is at most one of each.
use Rattle.std.specs.FinMap as map
use Rattle.std.proofs.Common.{◌≡◌, ℕ, Option, Some, List, [], ◌∷◌, refl, sym, ap, subst, ◌∙◌}
use Rattle.byte_grammar.proofs.CauseLaws.{first_is_one}
use Rattle.sfv_text.specs.declared.pair.Pair.{Pair}
use Rattle.sfv_text.specs.declared.value.InnerList.{InnerList}
use Rattle.sfv_text.specs.declared.value.Member.{Member}
use Rattle.component_ids.proofs.FaultLaws.{one_value}
use Rattle.component_ids.specs.SignatureParams.{IsParamsOf}
use Rattle.component_ids.specs.declared.id.ComponentId.{ComponentId}
use Rattle.component_ids.specs.declared.params.SigParams.{SigParams}
use Rattle.component_values.proofs.FirstLacks.{have_one_list}
use Rattle.hmac_sha256.specs.Hmac.{hmac}
use Rattle.signatures.specs.SignatureBase.{signature_base}
use Rattle.settings.specs.Configuration.{Configuration}
use Rattle.settings.specs.Covered.{params_of}
use Rattle.settings.specs.declared.sign_conf.SignConf.{SignConf}
use Rattle.signatures.proofs.Reading.{one_dict}
use Rattle.signing.specs.Asked.{asked_params, covered_ids, digest_algorithm}
use Rattle.signing.specs.Laws.{HasOneSignedMessage, HasOneSignFault, HasOneSpec, HasOneListOfSpecs, HasOneWantFault}
use Rattle.signing.specs.SignCauses.{IsSignCause, sign_order}
use Rattle.signing.specs.WishCauses.{IsWantCause, want_order}
use Rattle.signing.specs.Wishes.{MeetsWish, MeetWishes, components_in, wished_key, wished_params, wish_name}
use Rattle.signing.specs.Written.{context_with_digest, signed_message}
use Rattle.signing.specs.declared.spec.SignSpec.{SignSpec}
use Rattle.signing.proofs.Made as made
use Rattle.signing.proofs.Wanting as wanting

pub one_signed_message : HasOneSignedMessage
one_signed_message context spec written other a b =
    let values = have_one_list (context_with_digest context spec.digest) spec.params.ids a.values b.values a.have b.have in
    a.written_is ∙ (ap (λ (vs : List (List ℕ)). signed_message context.message spec (hmac spec.key (signature_base spec.params vs))) values ∙ sym b.written_is)

pub one_sign_fault : HasOneSignFault
one_sign_fault context spec fault other = first_is_one sign_order (IsSignCause context spec) (made.determined context spec) fault other

some_is : {X : Type 0} (o : Option X) (x y : X) → o ≡ Some x → o ≡ Some y → x ≡ y
some_is o x y a b = cc (a, b)

pub one_spec : HasOneSpec
one_spec conf of_request now nonce spec other a b =
    let sign : a.sign ≡ b.sign = some_is conf.sign a.sign b.sign a.sign_is b.sign_is in
    let label : spec.label ≡ other.label = a.label ∙ (ap (λ (s : SignConf). s.label) sign ∙ sym b.label) in
    let ids : spec.params.ids ≡ other.params.ids = a.ids ∙ (ap (λ (s : SignConf). covered_ids s of_request) sign ∙ sym b.ids) in
    let params : spec.params.params ≡ other.params.params = a.params ∙ (ap (λ (s : SignConf). asked_params s now nonce) sign ∙ sym b.params) in
    let key : spec.key ≡ other.key = some_is _ spec.key other.key a.key (ap (λ (s : SignConf). map.get conf.keys s.keyid) sign ∙ b.key) in
    let digest : spec.digest ≡ other.digest = a.digest ∙ (ap (λ (s : SignConf). digest_algorithm s.digest) sign ∙ sym b.digest) in
    λ i. record { label = label i; params = record { ids = ids i; params = params i }; key = key i; digest = digest i }

one_ids : (list : InnerList) (a b : List ComponentId) → IsParamsOf (components_in list) (params_of a) → IsParamsOf (components_in list) (params_of b) → a ≡ b
one_ids list a b is also = ap (λ (p : SigParams). p.ids) (one_value (components_in list) (params_of a) (params_of b) is also)

one_met : (conf : Configuration) (now : ℕ) (wish : Pair Member) (spec other : SignSpec) → MeetsWish conf now wish spec → MeetsWish conf now wish other → spec ≡ other
one_met conf now wish spec other a b =
    let sign : a.sign ≡ b.sign = some_is conf.sign a.sign b.sign a.sign_is b.sign_is in
    let one = a.list_is in
    let two = b.list_is in
    let list : a.list ≡ b.list = cc (one, two) in
    let label : spec.label ≡ other.label = a.label ∙ sym b.label in
    let ids : spec.params.ids ≡ other.params.ids =
    one_ids b.list spec.params.ids other.params.ids (subst (λ (l : InnerList). IsParamsOf (components_in l) (params_of spec.params.ids)) list a.ids) b.ids in
    let params : spec.params.params ≡ other.params.params = a.params ∙ ((λ i. wished_params (sign i) now (list i).params) ∙ sym b.params) in
    let key : spec.key ≡ other.key = some_is _ spec.key other.key a.key ((λ i. wished_key conf (sign i) (list i)) ∙ b.key) in
    let digest : spec.digest ≡ other.digest = a.digest ∙ (ap (λ (s : SignConf). digest_algorithm s.digest) sign ∙ sym b.digest) in
    λ i. record { label = label i; params = record { ids = ids i; params = params i }; key = key i; digest = digest i }

one_meet : (conf : Configuration) (now : ℕ) (wishes : List (Pair Member)) (specs others : List SignSpec) → MeetWishes conf now wishes specs → MeetWishes conf now wishes others → specs ≡ others
one_meet conf now [] [] [] a b = refl
one_meet conf now [] [] (o ∷ os) a b = absurd b
one_meet conf now [] (s ∷ ss) others a b = absurd a
one_meet conf now (w ∷ ws) [] others a b = absurd a
one_meet conf now (w ∷ ws) (s ∷ ss) [] a b = absurd b
one_meet conf now (w ∷ ws) (s ∷ ss) (o ∷ os) a b =
    let first = one_met conf now w s o a.0 b.0 in
    let rest = one_meet conf now ws ss os a.1 b.1 in
    λ i. first i ∷ rest i

pub one_list_of_specs : HasOneListOfSpecs
one_list_of_specs conf now message specs others a b =
    let same = one_dict message wish_name a.0 b.0 a.1 b.1 in
    one_meet conf now b.0 specs others (subst (λ (d : List (Pair Member)). MeetWishes conf now d specs) same a.2) b.2

pub one_want_fault : HasOneWantFault
one_want_fault conf message fault other configured =
    let sign = wanting.some_sign conf 0 message conf.sign configured in
    first_is_one want_order (IsWantCause conf message) (wanting.determined conf sign.0 message sign.1) fault other
