-- What is signed as a configuration asks names the key that it is signed with.
use Rattle.std.proofs.Common.{◌≡◌, ℕ, Bool, Option, Some, None, List, ◌++◌, codes, refl, ap, ◌∙◌}
use Rattle.std.specs.Prelude.{option_and_then}
use Rattle.sfv_text.specs.Keys.{value_of}
use Rattle.sfv_text.specs.Parts.{string_in}
use Rattle.sfv_text.specs.declared.pair.Pair.{Pair}
use Rattle.sfv_text.specs.declared.value.BareItem.{BareItem}
use Rattle.sfv_text.specs.declared.value.BareItem.TheVariants.{Str}
use Rattle.conf.specs.Configuration.{Configuration}
use Rattle.signing.specs.Asked.{IsSpecOf, given, moment_item}
use Rattle.signing.specs.declared.spec.SignSpec.{SignSpec}
use Rattle.verdicts.specs.Parameters.{keyid_of}

abbrev keyid : List ℕ
keyid = codes "keyid"

asked_is : (now : ℕ) (expires : Option ℕ) (nonce alg : Option (List ℕ)) (name : List ℕ) (rest : List (Pair BareItem))
    → value_of (given (codes "created") moment_item (Some now) ++ (given (codes "expires") moment_item expires ++ (given (codes "nonce") Str nonce
    ++ (given (codes "alg") Str alg ++ (given keyid Str (Some name) ++ rest))))) keyid ≡ Some (Str name)
asked_is now None None None name rest = refl
asked_is now None None (Some a) name rest = refl
asked_is now None (Some n) None name rest = refl
asked_is now None (Some n) (Some a) name rest = refl
asked_is now (Some e) None None name rest = refl
asked_is now (Some e) None (Some a) name rest = refl
asked_is now (Some e) (Some n) None name rest = refl
asked_is now (Some e) (Some n) (Some a) name rest = refl

pub asked_names_key : (conf : Configuration) (of_request : Bool) (now : ℕ) (nonce : Option (List ℕ)) (spec : SignSpec) (is : IsSpecOf conf of_request now nonce spec) → keyid_of spec.params ≡ Some is.sign.keyid
asked_names_key conf of_request now nonce spec is =
    ap (λ (params : List (Pair BareItem)). option_and_then string_in (value_of params keyid)) is.params ∙ ap (option_and_then string_in) (asked_is now _ nonce _ is.sign.keyid _)
