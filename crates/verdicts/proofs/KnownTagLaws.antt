-- What is known of a tag, by the key that is found for it and by the verdict on its label.
use Rattle.std.proofs.Common.{◌≡◌, ℕ, Bool, Option, Some, None, List, sym, ap, subst, ◌∙◌}
use Rattle.component_ids.specs.declared.params.SigParams.{SigParams}
use Rattle.component_values.specs.Context.{MessageContext}
use Rattle.settings.specs.Configuration.{Configuration}
use Rattle.signatures.specs.Signatures.{HasSignature}
use Rattle.signatures.proofs.Reading.{has_one_signature}
use Rattle.verdicts.specs.KnownTags.{IsKnownOf, IsRightOrNot, KnowsTag}
use Rattle.verdicts.specs.Parameters.{keyid_of}
use Rattle.verdicts.specs.Rules.{key_in}

-- what is known of the label is known of the signature and the key that were found for it
pub known_of : (conf : Configuration) (context : MessageContext) (label : List ℕ) (params : SigParams) (tag keyid key : List ℕ) → HasSignature context.message label params tag → keyid_of params ≡ Some keyid
    → key_in conf keyid ≡ Some key → (is_right : Option Bool) → KnowsTag conf context label is_right → IsKnownOf context params tag key is_right
known_of conf context label params tag keyid key has keyid_is key_is None known = tt
known_of conf context label params tag keyid key has keyid_is key_is (Some is_right) known =
    let same = has_one_signature context.message label known.params params known.tag tag known.signature has in
    let names : Some known.keyid ≡ Some keyid = sym known.keyid_is ∙ (ap keyid_of same.0 ∙ keyid_is) in
    let name : known.keyid ≡ keyid = cc in
    let keys : Some known.key ≡ Some key = sym known.key_is ∙ (ap (key_in conf) name ∙ key_is) in
    let own : known.key ≡ key = cc in
    subst (λ (p : SigParams). IsRightOrNot context p tag key is_right) same.0
    (subst (λ (t : List ℕ). IsRightOrNot context known.params t key is_right) same.1 (subst (λ (k : List ℕ). IsRightOrNot context known.params known.tag k is_right) own known.is))
