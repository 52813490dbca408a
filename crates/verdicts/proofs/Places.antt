-- The component at which a rule fails is in range.
use Rattle.std.proofs.Common.{◌≡◌, ℕ, Bool, true, false, IsTrue, IsFalse, ◌∷◌, List, refl}
use Rattle.std.specs.List.{All, list_all, slice_get}
use Rattle.std.specs.Option.{IsSomeAnd}
use Rattle.std.proofs.lemmas.Bool.{and_parts}
use Rattle.std.proofs.lemmas.List.Elements.{All-contains}
use Rattle.byte_grammar.proofs.Indices.{some_and_parts, all_at}
use Rattle.sfv_text.specs.Range.{are_params_in_range}
use Rattle.sfv_text.specs.Strict.{string_text}
use Rattle.msg_body.specs.Messages.{Message}
use Rattle.component_ids.specs.Identifiers.{is_id_in_range}
use Rattle.component_ids.specs.Table.{is_listed}
use Rattle.component_ids.specs.declared.id.ComponentId.{ComponentId}
use Rattle.component_ids.specs.declared.params.SigParams.{SigParams}
use Rattle.derived_values.specs.declared.lack.Lack.{Lack}
use Rattle.derived_values.specs.declared.lack.Lack.TheVariants as lack
use Rattle.framing.specs.Framings.{is_request}
use Rattle.settings.specs.declared.policy.Policy.{Policy}
use Rattle.settings.specs.ValidSections.{IsValidPolicy}
use Rattle.settings.proofs.ChosenLaws.{chosen_is_one}
use Rattle.verdicts.specs.Choice.{policy_of}
use Rattle.verdicts.specs.Parameters.{alg_of, tag_param_of}
use Rattle.verdicts.specs.Policies.{IsFirstUncovered, required_ids}
use Rattle.verdicts.specs.Verification.{Verification}
use Rattle.signatures.specs.declared.place.Place.{Place}
use Rattle.signatures.specs.declared.place.Place.TheVariants.{Name, Identifier}
use Rattle.signatures.specs.declared.rule.Rule.{Rule}
use Rattle.signatures.specs.declared.rule.Rule.TheVariants.{InputAbsent, InputMalformed, SignatureAbsent, SignatureMalformed, LabelNotInInput, LabelNotInSignature, InputNotList, SignatureNotBytes, ComponentsMany, ComponentBad, ComponentRepeated, ParameterBad, AlgRefused, AlgUnknown, KeyidAbsent, KeyUnknown, ComponentRequired, CreatedAbsent, CreatedAhead, TooOld, ExpiresAbsent, Expired, TagWrong, NonceAbsent, NonceRepeated, NonceLong, Absent, Ambiguous, Underivable, Unreadable, NotAscii, MacMismatch, Digest, NoncesFull}
use Rattle.signatures.specs.Signatures.{HasSignature}
use Rattle.signatures.specs.Rules.{FailsToRead}
use Rattle.signatures.specs.Algorithms.{supported_algorithm, refused_algorithms}
use Rattle.verdicts.specs.Rules.{FailsByLack, Fails}
use Rattle.verdicts.specs.Verdicts.{is_place_in_range}
use Rattle.signatures.proofs.InRange.{is_signature_in_range}

-- each component that a signature covers is in range
ids_in_range : (message : Message) (label : List ℕ) (params : SigParams) (tag : List ℕ) → HasSignature message label params tag → list_all is_id_in_range params.ids ≡ true
ids_in_range message label params tag has = (and_parts (list_all is_id_in_range params.ids) (are_params_in_range params.params) (is_signature_in_range message label params tag has)).0

pub reading_place : (message : Message) (label : List ℕ) (rule : Rule) (place : Place) → FailsToRead message label rule place → is_place_in_range place ≡ true
reading_place message label InputAbsent place fails = rw fails.0 refl
reading_place message label InputMalformed place fails = rw fails.0 refl
reading_place message label SignatureAbsent place fails = rw fails.0 refl
reading_place message label SignatureMalformed place fails = rw fails.0 refl
reading_place message label LabelNotInInput place fails = rw fails.0 refl
reading_place message label LabelNotInSignature place fails = rw fails.0 refl
reading_place message label InputNotList place fails = rw fails.0 refl
reading_place message label SignatureNotBytes place fails = rw fails.0 refl
reading_place message label ComponentsMany place fails = rw fails.0 refl
reading_place message label ComponentBad place fails = rw fails.2 refl
reading_place message label ComponentRepeated place fails = rw fails.1 refl
reading_place message label ParameterBad place fails = rw fails.1 refl
reading_place message label rule place fails = absurd fails

name_place : (P : List ℕ → Type 0) (text_at : List ℕ → List ℕ) (params : SigParams) (place : Place) → IsSomeAnd (alg_of params) (λ alg. P alg × (place ≡ Name (text_at alg)))
    → is_place_in_range place ≡ true
name_place P text_at params place fact = let at = some_and_parts (λ alg. P alg × (place ≡ Name (text_at alg))) (alg_of params) fact in rw at.2.1 refl

lack_place : (v : Verification) (how : Lack) (place : Place) → FailsByLack v how place → is_place_in_range place ≡ true
lack_place v how place fails =
    let at = some_and_parts (λ (id : ComponentId). place ≡ Identifier id) (slice_get fails.0.ids fails.3.0) fails.3.2 in
    rw at.2 (all_at is_id_in_range fails.0.ids fails.3.0 at.0 (ids_in_range v.context.message v.label fails.0 fails.1 fails.2) at.1)

-- a required component is in range where the policy is valid
required_in_range : (policy : Policy) (is_request : Bool) → IsValidPolicy policy → list_all is_id_in_range (required_ids policy is_request) ≡ true
required_in_range policy true valid = valid.require_request.in_range
required_in_range policy false valid = valid.require_response.in_range

required_place : (v : Verification) → All IsValidPolicy v.conf.policies → (place : Place) → Fails v ComponentRequired place → is_place_in_range place ≡ true
required_place v valid place fails =
    let params = fails.0 in
    let is_asked = is_request v.context.message.head.start in
    let asked : Policy → Type 0 = λ policy. (id : ComponentId) × (place ≡ Identifier id) × IsFirstUncovered params.ids (required_ids policy is_asked) id in
    let at = some_and_parts asked (policy_of v.conf params) fails.3 in
    let policy = at.0 in
    let is_valid = All-contains IsValidPolicy v.conf.policies policy valid (chosen_is_one v.conf.policies (tag_param_of params) policy at.1) in
    let found = at.2 in
    let first = found.2 in
    rw found.1 (all_at is_id_in_range (required_ids policy is_asked) first.index found.0 (required_in_range policy is_asked is_valid) first.there)

pub place_in_range : (v : Verification) → All IsValidPolicy v.conf.policies → (rule : Rule) (place : Place) → Fails v rule place → is_place_in_range place ≡ true
place_in_range v valid InputAbsent place fails = reading_place v.context.message v.label InputAbsent place fails
place_in_range v valid InputMalformed place fails = reading_place v.context.message v.label InputMalformed place fails
place_in_range v valid SignatureAbsent place fails = reading_place v.context.message v.label SignatureAbsent place fails
place_in_range v valid SignatureMalformed place fails = reading_place v.context.message v.label SignatureMalformed place fails
place_in_range v valid LabelNotInInput place fails = reading_place v.context.message v.label LabelNotInInput place fails
place_in_range v valid LabelNotInSignature place fails = reading_place v.context.message v.label LabelNotInSignature place fails
place_in_range v valid InputNotList place fails = reading_place v.context.message v.label InputNotList place fails
place_in_range v valid SignatureNotBytes place fails = reading_place v.context.message v.label SignatureNotBytes place fails
place_in_range v valid ComponentsMany place fails = reading_place v.context.message v.label ComponentsMany place fails
place_in_range v valid ComponentBad place fails = reading_place v.context.message v.label ComponentBad place fails
place_in_range v valid ComponentRepeated place fails = reading_place v.context.message v.label ComponentRepeated place fails
place_in_range v valid ParameterBad place fails = reading_place v.context.message v.label ParameterBad place fails
place_in_range v valid AlgRefused place fails = name_place (λ alg. IsTrue (is_listed refused_algorithms alg)) (λ alg. alg) fails.0 place fails.3
place_in_range v valid AlgUnknown place fails = name_place (λ alg. IsFalse (is_listed (supported_algorithm ∷ refused_algorithms) alg)) string_text fails.0 place fails.3
place_in_range v valid KeyidAbsent place fails = rw fails.0 refl
place_in_range v valid KeyUnknown place fails = rw fails.0 refl
place_in_range v valid ComponentRequired place fails = required_place v valid place fails
place_in_range v valid CreatedAbsent place fails = rw fails.0 refl
place_in_range v valid CreatedAhead place fails = rw fails.0 refl
place_in_range v valid TooOld place fails = rw fails.0 refl
place_in_range v valid ExpiresAbsent place fails = rw fails.0 refl
place_in_range v valid Expired place fails = rw fails.0 refl
place_in_range v valid TagWrong place fails = rw fails.0 refl
place_in_range v valid NonceAbsent place fails = rw fails.0 refl
place_in_range v valid NonceRepeated place fails = rw fails.0 refl
place_in_range v valid NonceLong place fails = rw fails.0 refl
place_in_range v valid Absent place fails = lack_place v lack.Absent place fails
place_in_range v valid Ambiguous place fails = lack_place v lack.Ambiguous place fails
place_in_range v valid Underivable place fails = lack_place v lack.Underivable place fails
place_in_range v valid Unreadable place fails = lack_place v lack.Unreadable place fails
place_in_range v valid NotAscii place fails = lack_place v lack.NotAscii place fails
place_in_range v valid MacMismatch place fails = rw fails.0 refl
place_in_range v valid Digest place fails = rw fails.1 refl
place_in_range v valid NoncesFull place fails = rw fails.0 refl
