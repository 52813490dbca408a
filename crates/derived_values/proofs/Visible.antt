-- Parts of visible targets, and values of authorities, are visible.
use Rattle.std.proofs.Common.{◌≡◌, inl, inr, ℕ, Bool, true, ◌||◌, ◌==◌, List, ◌++◌, length, Option, Some, None, IfSome, refl, sym, ap, subst, ◌∙◌, arith, codes}
use Rattle.std.specs.Char.{is_ascii_alphanumeric, to_ascii_lowercase}
use Rattle.std.specs.List.{list_all}
use Rattle.std.specs.Str.{str_to_ascii_lowercase}
use Rattle.std.proofs.lemmas.Bool.{and_parts, and_from, cases_Bool, or_cases, eqb-true}
use Rattle.std.proofs.lemmas.Bool.Decides.{nat_tests}
use Rattle.std.proofs.lemmas.List.Folds.{list_all-map}
use Rattle.byte_grammar.specs.Classes.{is_visible, is_digit}
use Rattle.byte_grammar.proofs.ChoiceLaws.{of_each}
use Rattle.byte_grammar.proofs.ListLaws.{all_joined, all_parts, all_implied}
use Rattle.derived_values.specs.UriBytes.{is_host_byte, is_literal_byte, is_unreserved_or_delim}
use Rattle.derived_values.specs.Marks.{marked_text}
use Rattle.derived_values.specs.Targets.{TargetParts, query_text, IsOriginForm, IsAbsoluteForm}
use Rattle.derived_values.specs.Authorities.{IsHost, is_default_port, kept_port, port_text}
use Rattle.derived_values.specs.TargetLaws.{AreVisible, HasVisibleParts, HasVisibleText, HasVisibleValue}

abbrev IsVisible : List ℕ → Type 0
IsVisible text = list_all is_visible text ≡ true

-- ---- parts

after_mark : (mark : ℕ) (part : Option (List ℕ)) → IsVisible (marked_text mark part) → IfSome part (λ text. IsVisible text)
after_mark mark None is = tt
after_mark mark (Some text) is = (and_parts _ _ is).1

origin_parts : (target : List ℕ) (parts : TargetParts) → IsOriginForm target parts → IsVisible target → AreVisible parts
origin_parts target parts o is =
    let both = all_parts is_visible parts.path (query_text parts.query) (sym (ap (list_all is_visible) o.joined) ∙ is) in
    record { scheme = rw o.no_scheme tt; authority = rw o.no_authority tt; path = both.0; query = after_mark 63 parts.query both.1 }

absolute_parts : (target : List ℕ) (parts : TargetParts) → IsAbsoluteForm target parts → IsVisible target → AreVisible parts
absolute_parts target parts f is =
    let first = all_parts is_visible f.scheme (codes "://" ++ (f.authority ++ (parts.path ++ query_text parts.query))) (sym (ap (list_all is_visible) f.joined) ∙ is) in
    let second = all_parts is_visible (codes "://") (f.authority ++ (parts.path ++ query_text parts.query)) first.1 in
    let third = all_parts is_visible f.authority (parts.path ++ query_text parts.query) second.1 in
    let last = all_parts is_visible parts.path (query_text parts.query) third.1 in
    record { scheme = rw (f.scheme_is, first.0) refl; authority = rw (f.authority_is, third.0) refl; path = last.0; query = after_mark 63 parts.query last.1 }

pub has_visible_parts : HasVisibleParts
has_visible_parts method target parts (inl a) is = subst AreVisible (sym a.1.parts_are) (record { scheme = tt; authority = is; path = refl; query = tt })
has_visible_parts method target parts (inr (isnt, inl o)) is = origin_parts target parts o is
has_visible_parts method target parts (inr (isnt, inr (inl f))) is = absolute_parts target parts f is
has_visible_parts method target parts (inr (isnt, inr (inr a))) is = subst AreVisible (sym a.parts_are) (record { scheme = tt; authority = tt; path = refl; query = tt })

-- ---- values

digit_byte : (c : ℕ) → is_digit c ≡ true → is_visible c ≡ true
digit_byte c is = grind (arith, nat_tests)

-- a test that letters, digits and the marks of hosts pass
module _ (p : ℕ → Bool) (letters : (c : ℕ) → is_ascii_alphanumeric c ≡ true → p c ≡ true) (marks : list_all p (codes "-._~!$&'()*+,;=") ≡ true) (percent : p 37 ≡ true) (colon : p 58 ≡ true)
    (opening : p 91 ≡ true) (closing : list_all p (codes "]") ≡ true) where
  unreserved : (c : ℕ) → is_unreserved_or_delim c ≡ true → p c ≡ true
  unreserved c is = elim (or_cases _ _ is) [
    | inl letter ↦ letters c letter
    | inr other ↦ of_each p (codes "-._~!$&'()*+,;=") marks c other
  ]

  host_byte : (c : ℕ) → is_host_byte c ≡ true → p c ≡ true
  host_byte c is = elim (or_cases _ _ is) [
    | inl some ↦ unreserved c some
    | inr mark ↦ let same : c ≡ 37 = eqb-true c 37 mark in rw same percent
  ]

  literal_byte : (c : ℕ) → is_literal_byte c ≡ true → p c ≡ true
  literal_byte c is = elim (or_cases _ _ is) [
    | inl some ↦ unreserved c some
    | inr mark ↦ let same : c ≡ 58 = eqb-true c 58 mark in rw same colon
  ]

  pub host_passes : (host : List ℕ) → IsHost host → list_all p host ≡ true
  host_passes host (inr name) = all_implied is_host_byte p host_byte host (and_parts _ _ name).1
  host_passes host (inl literal) =
      let inner = all_implied is_literal_byte p literal_byte literal.inner literal.each in
      ap (list_all p) literal.joined ∙ and_from (p 91) (list_all p (literal.inner ++ codes "]")) opening (all_joined p literal.inner (codes "]") inner closing)

-- the byte in lower case is visible
abbrev is_lowered_visible : ℕ → Bool
is_lowered_visible c = is_visible (to_ascii_lowercase c)

lowered_letters : (c : ℕ) → is_ascii_alphanumeric c ≡ true → is_lowered_visible c ≡ true
lowered_letters c is = grind (arith, nat_tests)

letters_visible : (c : ℕ) → is_ascii_alphanumeric c ≡ true → is_visible c ≡ true
letters_visible c is = grind (arith, nat_tests)

host_lowered : (host : List ℕ) → IsHost host → list_all is_lowered_visible host ≡ true
host_lowered host is = host_passes is_lowered_visible lowered_letters refl refl refl refl refl host is

host_visible : (host : List ℕ) → IsHost host → list_all is_visible host ≡ true
host_visible host is = host_passes is_visible letters_visible refl refl refl refl refl host is

port_text_visible : (port : Option (List ℕ)) → IfSome port (λ digits. list_all is_digit digits ≡ true) → IsVisible (port_text port)
port_text_visible None is = refl
port_text_visible (Some port) is = all_implied is_digit is_visible digit_byte port is

pub has_visible_text : HasVisibleText
has_visible_text text host port is =
    ap (list_all is_visible) is.joined ∙ all_joined is_visible host (port_text port) (host_visible host is.is_host) (port_text_visible port is.is_port)

port_visible : (scheme : List ℕ) (port : Option (List ℕ)) → IfSome port (λ digits. list_all is_digit digits ≡ true) → IsVisible (port_text (kept_port scheme port))
port_visible scheme None is = refl
port_visible scheme (Some port) is = elim (cases_Bool ((length port == 0) || is_default_port scheme port)) [
  | inl dropped ↦ rw dropped refl
  | inr kept ↦ rw kept (all_implied is_digit is_visible digit_byte port is)
]

pub has_visible_value : HasVisibleValue
has_visible_value scheme text value (parts, (port, is, kept), same) =
    let host : IsVisible (str_to_ascii_lowercase parts.host) = list_all-map is_visible to_ascii_lowercase parts.host ∙ host_lowered parts.host is.is_host in
    let last : IsVisible (port_text parts.port) = ap (λ p. list_all is_visible (port_text p)) kept ∙ port_visible scheme port is.is_port in
    ap (list_all is_visible) same ∙ all_joined is_visible (str_to_ascii_lowercase parts.host) (port_text parts.port) host last
