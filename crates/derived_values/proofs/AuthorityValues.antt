-- The value of an authority is an authority of that value, and can stand in a target.
use Rattle.std.proofs.Common.{◌≡◌, ◌<◌, inl, inr, ℕ, Bool, true, ◌||◌, ◌==◌, nat_lt, List, ◌∷◌, ◌++◌, length, Option, Some, None, IfSome, refl, sym, ap, subst, ◌∙◌, arith, codes}
use Rattle.std.specs.Char.{is_ascii_alphanumeric, to_ascii_lowercase}
use Rattle.std.specs.List.{list_all}
use Rattle.std.specs.Str.{str_to_ascii_lowercase}
use Rattle.std.proofs.lemmas.Bool.{and_parts, and_from, cases_Bool, or_cases, or_left, eqb-true}
use Rattle.std.proofs.lemmas.Bool.Decides.{nat_tests}
use Rattle.std.proofs.lemmas.List.{length-map, map-append}
use Rattle.std.proofs.lemmas.List.Folds.{list_all-map}
use Rattle.byte_grammar.specs.Classes.{is_digit}
use Rattle.byte_grammar.proofs.ChoiceLaws.{of_each}
use Rattle.byte_grammar.proofs.ListLaws.{all_joined, all_implied}
use Rattle.derived_values.specs.UriBytes.{is_authority_byte, is_host_byte, is_literal_byte, is_unreserved_or_delim}
use Rattle.derived_values.specs.Authorities.{IsAuthority, IsHost, IsLiteral, is_default_port, kept_port, port_text}
use Rattle.derived_values.specs.TargetLaws.{HasItselfForValue, HasPartsInValue, IsAuthorityInTarget}
use Rattle.derived_values.proofs.Schemes.{lowered_twice}
use Rattle.derived_values.proofs.Visible.{host_passes}

-- ---- a host in lower case

letter_lowered : (c : ℕ) → is_ascii_alphanumeric c ≡ true → is_ascii_alphanumeric (to_ascii_lowercase c) ≡ true
letter_lowered c is = grind (arith, nat_tests)

unreserved_lowered : (c : ℕ) → is_unreserved_or_delim c ≡ true → is_unreserved_or_delim (to_ascii_lowercase c) ≡ true
unreserved_lowered c is = elim (or_cases _ _ is) [
  | inl letter ↦ or_left _ _ (letter_lowered c letter)
  | inr mark ↦ of_each (λ c. is_unreserved_or_delim (to_ascii_lowercase c)) (codes "-._~!$&'()*+,;=") refl c mark
]

-- the same of bytes of a class that has one mark more
host_byte_lowered : (c : ℕ) → is_host_byte c ≡ true → is_host_byte (to_ascii_lowercase c) ≡ true
host_byte_lowered c is = elim (or_cases _ _ is) [
  | inl some ↦ or_left _ _ (unreserved_lowered c some)
  | inr mark ↦ let same : c ≡ 37 = eqb-true c 37 mark in rw same refl
]

literal_byte_lowered : (c : ℕ) → is_literal_byte c ≡ true → is_literal_byte (to_ascii_lowercase c) ≡ true
literal_byte_lowered c is = elim (or_cases _ _ is) [
  | inl some ↦ or_left _ _ (unreserved_lowered c some)
  | inr mark ↦ let same : c ≡ 58 = eqb-true c 58 mark in rw same refl
]

-- bytes of a class are in lower case too
all_lowered : (class : ℕ → Bool) → ((c : ℕ) → class c ≡ true → class (to_ascii_lowercase c) ≡ true) → (text : List ℕ) → list_all class text ≡ true
    → list_all class (str_to_ascii_lowercase text) ≡ true
all_lowered class each text all = list_all-map class to_ascii_lowercase text ∙ all_implied class (λ c. class (to_ascii_lowercase c)) each text all

literal_lowered : (host : List ℕ) → IsLiteral host → IsLiteral (str_to_ascii_lowercase host)
literal_lowered host is = record {
  inner = str_to_ascii_lowercase is.inner;
  some = subst (λ n. 0 < n) (sym (length-map is.inner to_ascii_lowercase)) is.some;
  each = all_lowered is_literal_byte literal_byte_lowered is.inner is.each;
  joined = ap str_to_ascii_lowercase is.joined ∙ ap (λ (text : List ℕ). 91 ∷ text) (map-append to_ascii_lowercase is.inner (codes "]"));
}

host_is_lowered : (host : List ℕ) → IsHost host → IsHost (str_to_ascii_lowercase host)
host_is_lowered host (inl literal) = inl (literal_lowered host literal)
host_is_lowered host (inr name) =
    let both = and_parts _ _ name in
    let some : nat_lt 0 (length (str_to_ascii_lowercase host)) ≡ true = ap (nat_lt 0) (length-map host to_ascii_lowercase) ∙ both.0 in
    inr (and_from _ _ some (all_lowered is_host_byte host_byte_lowered host both.1))

-- ---- the port that is kept

abbrev AreDigits : Option (List ℕ) → Type 0
AreDigits port = IfSome port (λ digits. list_all is_digit digits ≡ true)

kept_digits : (scheme : List ℕ) (port : Option (List ℕ)) → AreDigits port → AreDigits (kept_port scheme port)
kept_digits scheme None is = tt
kept_digits scheme (Some port) is = elim (cases_Bool ((length port == 0) || is_default_port scheme port)) [
  | inl dropped ↦ rw dropped tt
  | inr kept ↦ rw kept is
]

kept_again : (scheme : List ℕ) (port : Option (List ℕ)) → kept_port scheme port ≡ kept_port scheme (kept_port scheme port)
kept_again scheme None = refl
kept_again scheme (Some port) = elim (cases_Bool ((length port == 0) || is_default_port scheme port)) [
  | inl dropped ↦ rw dropped refl
  | inr kept ↦ rw (kept, kept) refl
]

-- ---- the value

pub has_itself_for_value : HasItselfForValue
has_itself_for_value scheme text value (parts, (port, is, kept), same) =
    let host = str_to_ascii_lowercase parts.host in
    let digits : AreDigits parts.port = subst AreDigits (sym kept) (kept_digits scheme port is.is_port) in
    let again : parts.port ≡ kept_port scheme parts.port = kept ∙ kept_again scheme port ∙ ap (kept_port scheme) (sym kept) in (
      record { host = host; port = parts.port },
      (parts.port, record { is_host = host_is_lowered parts.host is.is_host; is_port = digits; joined = same }, again),
      same ∙ ap (λ (text : List ℕ). text ++ port_text parts.port) (sym (lowered_twice parts.host)),
    )

pub has_parts_in_value : HasPartsInValue
has_parts_in_value scheme text parts (port, is, kept) = record {
  is_host = host_is_lowered parts.host is.is_host;
  is_port = subst AreDigits (sym kept) (kept_digits scheme port is.is_port);
  joined = refl;
}

letter_in_target : (c : ℕ) → is_ascii_alphanumeric c ≡ true → is_authority_byte c ≡ true
letter_in_target c is = grind (arith, nat_tests)

digit_in_target : (c : ℕ) → is_digit c ≡ true → is_authority_byte c ≡ true
digit_in_target c is = grind (arith, nat_tests)

port_in_target : (port : Option (List ℕ)) → AreDigits port → list_all is_authority_byte (port_text port) ≡ true
port_in_target None is = refl
port_in_target (Some port) is = all_implied is_digit is_authority_byte digit_in_target port is

text_in_target : (text host : List ℕ) (port : Option (List ℕ)) → IsAuthority text host port → list_all is_authority_byte text ≡ true
text_in_target text host port is =
    ap (list_all is_authority_byte) is.joined
    ∙ all_joined is_authority_byte host (port_text port) (host_passes is_authority_byte letter_in_target refl refl refl refl refl host is.is_host) (port_in_target port is.is_port)

pub is_authority_in_target : IsAuthorityInTarget
is_authority_in_target scheme text value is =
    let again = has_itself_for_value scheme text value is in
    text_in_target value again.0.host again.1.0 again.1.1
