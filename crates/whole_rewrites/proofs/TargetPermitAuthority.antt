-- Whether two texts are authorities of one value: by their hosts in lower case and the ports that are kept.
use Rattle.std.proofs.Common.{◌≡◌, ◌↔◌, inl, inr, ℕ, List, ◌++◌, refl, sym, subst, ◌∙◌}
use Rattle.std.specs.Str.{str_to_ascii_lowercase}
use Rattle.derived_values.specs.Authorities.{AuthorityParts, IsAuthority, IsAuthorityFor, IsAuthorityValue, authority_text, port_text}
use Rattle.derived_values.proofs.AuthorityParts.{one_authority, one_authority_value}
use Rattle.derived_values.proofs.AuthorityValues.{has_parts_in_value}
use Rattle.derived_values.proofs.Decided.{authority_is_decided}
use Rattle.derived_values.proofs.Schemes.{scheme_in_any_case}
use Rattle.whole_rewrites.specs.Targets.{AreOneAuthority}
use Rattle.whole_rewrites.specs.tools.Requests.{HaveOneValue}
use Rattle.whole_rewrites.proofs.TargetPermitTests.{HoldsOrNot, texts_or_not}

same_text : (parts others : AuthorityParts) → HaveOneValue parts others → authority_text parts ≡ authority_text others
same_text parts others (hosts, ports) = λ i. hosts i ++ port_text (ports i)

same_parts : (scheme one other : List ℕ) (parts others : AuthorityParts) → IsAuthorityFor scheme one parts → IsAuthorityFor scheme other others
    → authority_text parts ≡ authority_text others → HaveOneValue parts others
same_parts scheme one other parts others a b same =
    one_authority (authority_text others) (str_to_ascii_lowercase parts.host) (str_to_ascii_lowercase others.host) parts.port others.port
    (subst (λ (text : List ℕ). IsAuthority text (str_to_ascii_lowercase parts.host) parts.port) same (has_parts_in_value scheme one parts a)) (has_parts_in_value scheme other others b)

pub by_parts : (scheme one other : List ℕ) (parts others : AuthorityParts) → IsAuthorityFor scheme one parts → IsAuthorityFor scheme other others
    → HaveOneValue parts others ↔ AreOneAuthority (str_to_ascii_lowercase scheme) one other
by_parts scheme one other parts others a b = (gives, comes)
  where
    lowered : List ℕ
    lowered = str_to_ascii_lowercase scheme

    one_is : IsAuthorityFor lowered one parts
    one_is = scheme_in_any_case scheme one parts a

    other_is : IsAuthorityFor lowered other others
    other_is = scheme_in_any_case scheme other others b

    gives : HaveOneValue parts others → AreOneAuthority lowered one other
    gives same = (authority_text parts, (parts, one_is, refl), (others, other_is, same_text parts others same))

    comes : AreOneAuthority lowered one other → HaveOneValue parts others
    comes (text, first, second) =
        same_parts lowered one other parts others one_is other_is
        (one_authority_value lowered one (authority_text parts) text (parts, one_is, refl) first
        ∙ sym (one_authority_value lowered other (authority_text others) text (others, other_is, refl) second))

pub one_authority_or_not : (scheme one other : List ℕ) → HoldsOrNot (AreOneAuthority scheme one other)
one_authority_or_not scheme one other = elim (authority_is_decided scheme one) [
  | inr none ↦ inr (λ both. none both.0 both.1)
  | inl (value, is) ↦ elim (authority_is_decided scheme other) [
    | inr none ↦ inr (λ both. none both.0 both.2)
    | inl (last, also) ↦ elim (texts_or_not value last) [
      | inl same ↦ inl (last, subst (λ (text : List ℕ). IsAuthorityValue scheme one text) same is, also)
      | inr apart ↦ inr (λ both. apart (one_authority_value scheme one value both.0 is both.1 ∙ sym (one_authority_value scheme other last both.0 also both.2)))
    ]
  ]
]
