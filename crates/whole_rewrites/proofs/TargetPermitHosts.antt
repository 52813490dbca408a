-- Whether the target, or another text of `Host`, is of the authority that the one line `Host` has.
use Rattle.std.proofs.Common.{◌≡◌, ◌↔◌, ◌⊎◌, ℕ, false, Option, Some, None, List, [], ◌∷◌, codes, refl, sym, ap, subst, ◌∙◌, inl, inr}
use Rattle.std.specs.List.{list_all, slice_split, onto_first, join_by}
use Rattle.std.specs.Prelude.{map, filter}
use Rattle.std.specs.Str.{str_to_ascii_lowercase}
use Rattle.std.proofs.lemmas.Bool.{false≢true}
use Rattle.std.proofs.lemmas.List.Splits.{slice_split-cons_no}
use Rattle.byte_grammar.specs.Classes.{is_visible}
use Rattle.msg_head.specs.declared.error.Side.TheVariants.{Header}
use Rattle.msg_head.specs.Starts.{RequestLine}
use Rattle.msg_head.specs.Values.{has_bytes, is_end, value, values, without_blanks}
use Rattle.msg_body.specs.Messages.{Message}
use Rattle.msg_body.specs.Views.{lines_on}
use Rattle.derived_values.specs.Targets.{TargetParts}
use Rattle.derived_values.proofs.Visible.{has_visible_text}
use Rattle.derived_values.specs.Derived.{scheme_text}
use Rattle.component_values.specs.Context.{MessageContext}
use Rattle.whole_rewrites.specs.Permitted.{HasOneHost, IsSameHost, NamesHost}
use Rattle.whole_rewrites.specs.Targets.{AreOneAuthority, HasTarget, OfTarget}
use Rattle.whole_rewrites.specs.tools.Requests.{NamesOwn, scheme_in}
use Rattle.whole_rewrites.proofs.TargetPermitAuthority.{one_authority_or_not}
use Rattle.whole_rewrites.proofs.TargetPermitRequests.{by_the_target, has_scheme, no_scheme, of_target_or_not, one_scheme, target_or_none}
use Rattle.whole_rewrites.proofs.TargetPermitTests.{HoldsOrNot, texts_or_not}

-- ---- authorities of lines

-- a text with a byte that isn't visible is no authority
pub one_visible : (scheme one other : List ℕ) → list_all is_visible one ≡ false → ¬ AreOneAuthority scheme one other
one_visible scheme one other not (text, is, also) = false≢true (sym not ∙ has_visible_text one is.0.host is.1.0 is.1.1)

pub other_visible : (scheme one other : List ℕ) → list_all is_visible other ≡ false → ¬ AreOneAuthority scheme one other
other_visible scheme one other not (text, also, is) = false≢true (sym not ∙ has_visible_text other is.0.host is.1.0 is.1.1)

blank_first : (pieces : List (List ℕ)) → filter has_bytes (map without_blanks (onto_first 32 pieces)) ≡ filter has_bytes (map without_blanks pieces)
blank_first [] = refl
blank_first (piece ∷ pieces) = refl

-- the space that the rewriting puts before the text isn't part of its value
pub value_of_text : (text : List ℕ) → value (32 ∷ text) ≡ value text
value_of_text text =
    ap (λ (pieces : List (List ℕ)). join_by (λ (t : List ℕ). t) (codes " ") (filter has_bytes (map without_blanks pieces))) (slice_split-cons_no is_end 32 text refl)
    ∙ ap (join_by (λ (t : List ℕ). t) (codes " ")) (blank_first (slice_split is_end text))

-- ---- the one line `Host`

pub one_host : (message : Message) (host other : List ℕ) → HasOneHost message host → HasOneHost message other → host ≡ other
one_host message host other a b = let both = sym a ∙ b in cc

host_or_none : (message : Message) → ((host : List ℕ) × HasOneHost message host) ⊎ ((host : List ℕ) → ¬ HasOneHost message host)
host_or_none message = by (values (lines_on Header message) (codes "host")) refl
  where
    by : (found : List (List ℕ)) → values (lines_on Header message) (codes "host") ≡ found → ((host : List ℕ) × HasOneHost message host) ⊎ ((host : List ℕ) → ¬ HasOneHost message host)
    by [] is = inr (λ host one. let e = sym is ∙ one in absurd cc)
    by (host ∷ []) is = inl (host, is)
    by (host ∷ other ∷ others) is = inr (λ last one. let e = sym is ∙ one in absurd cc)

-- ---- the target names what the message has

names_own : (context : MessageContext) (parts : TargetParts) (scheme authority : List ℕ) → parts.scheme ≡ Some scheme → parts.authority ≡ Some authority
    → NamesOwn context scheme authority ↔ NamesHost context parts
names_own context parts scheme authority scheme_is authority_is = (gives, comes)
  where
    gives : NamesOwn context scheme authority → NamesHost context parts
    gives own = record {
      scheme = scheme;
      authority = authority;
      host = own.host;
      scheme_is = scheme_is;
      authority_is = authority_is;
      one_host = own.one_host;
      same_scheme = own.same_scheme;
      same = own.same;
    }

    comes : NamesHost context parts → NamesOwn context scheme authority
    comes names =
        let some = sym names.scheme_is ∙ scheme_is in
        let also = sym names.authority_is ∙ authority_is in
        let schemes : names.scheme ≡ scheme = cc in
        let authorities : names.authority ≡ authority = cc in
        record {
          host = names.host;
          one_host = names.one_host;
          same_scheme = ap str_to_ascii_lowercase (sym schemes) ∙ names.same_scheme;
          same = subst (λ (text : List ℕ). AreOneAuthority (scheme_text context.scheme) names.host text) authorities names.same;
        }

pub names_of_target : (context : MessageContext) (line : RequestLine) (parts : TargetParts) (scheme authority : List ℕ) → HasTarget context.message line parts
    → parts.scheme ≡ Some scheme → parts.authority ≡ Some authority → NamesOwn context scheme authority ↔ OfTarget context.message (NamesHost context)
names_of_target context line parts scheme authority has scheme_is authority_is =
    let own = names_own context parts scheme authority scheme_is authority_is in
    let of = by_the_target context.message (NamesHost context) line parts has in
    (λ names. of.0 (own.0 names), λ names. own.1 (of.1 names))

pub own_by_host : (context : MessageContext) (scheme authority host : List ℕ) → HasOneHost context.message host → str_to_ascii_lowercase scheme ≡ scheme_text context.scheme
    → AreOneAuthority (scheme_text context.scheme) host authority ↔ NamesOwn context scheme authority
own_by_host context scheme authority host one same = (
  λ both. record { host = host; one_host = one; same_scheme = same; same = both },
  λ own. subst (λ (text : List ℕ). AreOneAuthority (scheme_text context.scheme) text authority) (one_host context.message own.host host own.one_host one) own.same,
)

-- ---- the text is of what the message has

pub same_of_target : (context : MessageContext) (line : RequestLine) (parts : TargetParts) (host text : List ℕ) → HasTarget context.message line parts → HasOneHost context.message host
    → AreOneAuthority (scheme_in context parts) host (value (32 ∷ text)) ↔ IsSameHost context text
same_of_target context line parts host text has one = (gives, comes)
  where
    gives : AreOneAuthority (scheme_in context parts) host (value (32 ∷ text)) → IsSameHost context text
    gives both = record { scheme = scheme_in context parts; host = host; has = has_scheme context line parts has; one_host = one; same = both }

    comes : IsSameHost context text → AreOneAuthority (scheme_in context parts) host (value (32 ∷ text))
    comes is =
        let schemes = one_scheme context line parts is.scheme has is.has in
        let hosts = one_host context.message is.host host is.one_host one in
        subst (λ (both : List ℕ × List ℕ). AreOneAuthority both.0 both.1 (value (32 ∷ text))) (λ i. (schemes i, hosts i)) is.same

-- ---- decisions

own_or_not : (context : MessageContext) (scheme authority : List ℕ) → HoldsOrNot (NamesOwn context scheme authority)
own_or_not context scheme authority = elim (host_or_none context.message) [
  | inr none ↦ inr (λ own. none own.host own.one_host)
  | inl (host, one) ↦ elim (texts_or_not (str_to_ascii_lowercase scheme) (scheme_text context.scheme)) [
    | inr other ↦ inr (λ own. other own.same_scheme)
    | inl same ↦ elim (one_authority_or_not (scheme_text context.scheme) host authority) [
      | inl both ↦ inl ((own_by_host context scheme authority host one same).0 both)
      | inr never ↦ inr (λ own. never ((own_by_host context scheme authority host one same).1 own))
    ]
  ]
]

names_or_not : (context : MessageContext) (parts : TargetParts) → HoldsOrNot (NamesHost context parts)
names_or_not context parts = by parts.scheme parts.authority refl refl
  where
    by : (scheme authority : Option (List ℕ)) → parts.scheme ≡ scheme → parts.authority ≡ authority → HoldsOrNot (NamesHost context parts)
    by None authority none is = inr (λ names. let e = sym none ∙ names.scheme_is in absurd cc)
    by (Some scheme) None is none = inr (λ names. let e = sym none ∙ names.authority_is in absurd cc)
    by (Some scheme) (Some authority) is also =
        let own = names_own context parts scheme authority is also in elim (own_or_not context scheme authority) [
          | inl names ↦ inl (own.0 names)
          | inr never ↦ inr (λ names. never (own.1 names))
        ]

pub names_host_or_not : (context : MessageContext) → HoldsOrNot (OfTarget context.message (NamesHost context))
names_host_or_not context = of_target_or_not context.message (NamesHost context) (names_or_not context)

pub same_host_or_not : (context : MessageContext) (text : List ℕ) → HoldsOrNot (IsSameHost context text)
same_host_or_not context text = elim (target_or_none context.message) [
  | inr none ↦ inr (λ is. no_scheme context none is.scheme is.has)
  | inl (line, parts, has) ↦ elim (host_or_none context.message) [
    | inr none ↦ inr (λ is. none is.host is.one_host)
    | inl (host, one) ↦ elim (one_authority_or_not (scheme_in context parts) host (value (32 ∷ text))) [
      | inl both ↦ inl ((same_of_target context line parts host text has one).0 both)
      | inr never ↦ inr (λ is. never ((same_of_target context line parts host text has one).1 is))
    ]
  ]
]
