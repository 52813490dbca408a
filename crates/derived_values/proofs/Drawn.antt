-- What is drawn from a request, from what its parts answer.
use Rattle.std.proofs.Common.{◌≡◌, ℕ, false, List, Ok, Err, refl, sym, ◌∙◌}
use Rattle.std.specs.Str.{str_to_ascii_lowercase}
use Rattle.std.specs.List.{list_all}
use Rattle.std.proofs.lemmas.Bool.{false≢true}
use Rattle.byte_grammar.specs.Classes.{is_visible}
use Rattle.derived_values.specs.Authorities.{AuthorityParts, IsAuthorityFor, authority_text}
use Rattle.derived_values.proofs.Schemes.{scheme_in_any_case}
use Rattle.derived_values.proofs.Visible.{has_visible_text}
use Rattle.derived_values.specs.declared.lack.Lack.TheVariants.{Underivable}
use Rattle.derived_values.specs.Derived.{AuthorityRow}

-- the scheme may be written in any case
pub authority_found : (scheme text : List ℕ) (authority : AuthorityParts) → IsAuthorityFor scheme text authority
    → AuthorityRow (str_to_ascii_lowercase scheme) (Ok text) (Ok (authority_text authority))
authority_found scheme text authority is = (authority, scheme_in_any_case scheme text authority is, refl)

-- a text with a byte that isn't visible is no authority
pub none_named : (scheme text : List ℕ) → list_all is_visible text ≡ false → AuthorityRow scheme (Ok text) (Err Underivable)
none_named scheme text not = (refl, λ value is. false≢true (sym not ∙ has_visible_text text is.0.host is.1.0 is.1.1))
