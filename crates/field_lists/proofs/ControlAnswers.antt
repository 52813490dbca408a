-- What is answered of the control data with which fields begin.
use Rattle.std.proofs.Common.{◌≡◌, ◌==◌, ℕ, Bool, true, not, ◌&&◌, ◌||◌, Option, Some, None, List, [], ◌∷◌, take, refl, sym, ap, subst, ◌∙◌, inl, inr, codes}
use Rattle.std.specs.Prelude.{◌↔◌, IfNone}
use Rattle.std.specs.List.{list_all, list_any}
use Rattle.std.specs.Str.{byte, bytes_eq}
use Rattle.std.proofs.lemmas.Bool.{and_from, and_parts, cases_eq, eq-eqb, false≢true, ne_eqb, not-true}
use Rattle.std.proofs.lemmas.Slice.Eq.{bytes_eq-Decides}
use Rattle.byte_grammar.specs.Classes.{is_one_of, is_token, is_visible}
use Rattle.byte_grammar.specs.Language.{starts_in}
use Rattle.list_texts.specs.declared.list.Field.{Field}
use Rattle.field_lists.specs.Controls.{Control, RequestControl, request, response, is_lower_scheme, is_path_text, is_text, AreOfRequest, HasPseudo, IsAllowed, IsAllowedRequest}
use Rattle.field_lists.specs.tools.Allowed.{has_no_fragment, is_allowed, is_allowed_request, is_method}
use Rattle.field_lists.proofs.ControlOrNone.{enough_fields}
use Rattle.field_lists.proofs.LineNames.{or_none, other_text}

pub if_none : {T P Q : Type 0} (result : Option T) → (P → Q) → IfNone result P → IfNone result Q
if_none (Some x) f p = tt
if_none None f p = f p

-- ---- a request

pub no_four : (fields pseudo : List Field) → pseudo ≡ take 4 fields → ((control : RequestControl) → ¬ AreOfRequest pseudo control) → (control : RequestControl) (others : List Field) → ¬ HasPseudo fields (request control) others
no_four fields pseudo cut none control others has = none control (subst (λ (fs : List Field). AreOfRequest fs control) (sym cut) (enough_fields fields control others has).1)

-- ---- values

one_byte : (a c : ℕ) → (c == a) ≡ is_one_of (a ∷ []) c
one_byte a c = elim (cases_eq c a) [
  | inl same ↦ eq-eqb c a same ∙ sym (or_none (a == c) ∙ eq-eqb a c (sym same))
  | inr apart ↦ ne_eqb c a apart ∙ sym (or_none (a == c) ∙ ne_eqb a c (λ e. apart (sym e)))
]

any_same : (a : ℕ) (text : List ℕ) → list_any (λ c. c == a) text ≡ list_any (is_one_of (a ∷ [])) text
any_same a [] = refl
any_same a (c ∷ cs) = λ i. one_byte a c i || any_same a cs i

starts_same : (a : ℕ) (text : List ℕ) → starts_in (λ c. c == a) text ≡ starts_in (is_one_of (a ∷ [])) text
starts_same a [] = refl
starts_same a (c ∷ cs) = one_byte a c

pub no_fragment : (text : List ℕ) (any : Bool) → true ≡ list_all is_visible text → any ≡ list_any (λ c. c == byte "#") text → not any ≡ has_no_fragment text
no_fragment text any all is =
    ap not (is ∙ any_same (byte "#") text) ∙ ap (λ b. b && not (list_any (is_one_of (codes "#")) text)) all

pub is_path : (text : List ℕ) (begins rest : Bool) → begins ≡ starts_in (λ c. c == byte "/") text → rest ≡ has_no_fragment text → (begins && rest) ≡ is_path_text text
is_path text begins rest first is = λ i. (first ∙ starts_same (byte "/") text) i && is i

-- the test of the values is right
allowed_if : (c : RequestControl) → is_allowed_request c ≡ true → IsAllowedRequest c
allowed_if c passes =
    let last = and_parts ((is_method c.method && is_lower_scheme c.scheme) && is_text c.authority) (is_path_text c.path) passes in
    let third = and_parts (is_method c.method && is_lower_scheme c.scheme) (is_text c.authority) last.0 in
    let two = and_parts (is_method c.method) (is_lower_scheme c.scheme) third.0 in
    let method = and_parts (is_token c.method) (not (bytes_eq c.method (codes "CONNECT"))) two.0 in
    let other = not-true (bytes_eq c.method (codes "CONNECT")) method.1 in
    record {
      method = method.0;
      no_tunnel = λ e. false≢true (sym other ∙ (bytes_eq-Decides c.method (codes "CONNECT")).1 e);
      scheme = two.1;
      authority = third.1;
      path = last.1;
    }

only_allowed : (c : RequestControl) → IsAllowedRequest c → is_allowed_request c ≡ true
only_allowed c is =
    let other : not (bytes_eq c.method (codes "CONNECT")) ≡ true = ap not (other_text c.method (codes "CONNECT") (λ e. is.no_tunnel (sym e))) in
    let method = and_from (is_token c.method) (not (bytes_eq c.method (codes "CONNECT"))) is.method other in
    let two = and_from (is_method c.method) (is_lower_scheme c.scheme) method is.scheme in
    let third = and_from (is_method c.method && is_lower_scheme c.scheme) (is_text c.authority) two is.authority in
    and_from ((is_method c.method && is_lower_scheme c.scheme) && is_text c.authority) (is_path_text c.path) third is.path

pub allowed_test : (control : Control) → (is_allowed control ≡ true) ↔ IsAllowed control
allowed_test (request c) = (allowed_if c, only_allowed c)
allowed_test (response code) = (λ is. is, λ is. is)
