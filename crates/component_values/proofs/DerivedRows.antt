-- Each row of a derived component has one answer.
use Rattle.std.specs.Result.{result_map_both}
use Rattle.std.proofs.Common.{◌≡◌, ℕ, List, Option, Some, None, Result, Ok, Err, inl, inr, refl, sym, ap, ◌∙◌, subst}
use Rattle.sfv_text.specs.declared.pair.Pair.{Pair}
use Rattle.sfv_text.specs.declared.value.BareItem.{BareItem}
use Rattle.msg_head.specs.Lines.{FieldLine}
use Rattle.msg_head.specs.Starts.{StartLine, request, status}
use Rattle.component_ids.specs.declared.scheme.Scheme.{Scheme}
use Rattle.derived_values.specs.Targets.{TargetParts, SpellsTarget, path_of, query_of}
use Rattle.derived_values.specs.Authorities.{IsAuthorityValue}
use Rattle.derived_values.proofs.Decided.{target_is_decided, authority_is_decided}
use Rattle.derived_values.proofs.TargetParts.{one_target}
use Rattle.derived_values.proofs.AuthorityParts.{one_authority_value}
use Rattle.derived_values.specs.declared.derived.DerivedName.{DerivedName}
use Rattle.derived_values.specs.declared.derived.DerivedName.TheVariants.{Method, RequestTarget, Status, OfTarget}
use Rattle.derived_values.specs.declared.derived.TargetName.{TargetName}
use Rattle.derived_values.specs.declared.derived.TargetName.TheVariants as name
use Rattle.derived_values.specs.declared.lack.Lack.{Lack}
use Rattle.derived_values.specs.declared.lack.Lack.TheVariants.{Underivable}
use Rattle.derived_values.specs.Derived.{RequestParts, scheme_of, named_authority, AuthorityRow, TargetAuthorityRow, path_value, query_value, uri_text, TargetUriRow, param_value, TargetRow, FormedRow, RequestRow, response_value, StartRow, DerivedRow}

abbrev pub Answer : Type 0
Answer = Result (List ℕ) Lack

-- the row has an answer, and no other
pub record HasSoleAnswer (Row : Answer → Type 0) : Type 0 where
  pub answer : Answer
  pub is : Row answer
  pub only : (other : Answer) → Row other → other ≡ answer

pub same : {Row : Answer → Type 0} → HasSoleAnswer Row → (one other : Answer) → Row one → Row other → one ≡ other
same row one other is also = row.only one is ∙ sym (row.only other also)

pub the_answer : (answer : Answer) → HasSoleAnswer (λ other. other ≡ answer)
the_answer answer = record { answer = answer; is = refl; only = λ other is. is }

-- ---- authorities

authority_one : (scheme : List ℕ) (named : Answer) → HasSoleAnswer (AuthorityRow scheme named)
authority_one scheme (Err lack) = the_answer (Err lack)
authority_one scheme (Ok text) = elim (authority_is_decided scheme text) [
  | inl some ↦ record { answer = Ok some.0; is = some.1; only = is_value some.0 some.1 }
  | inr none ↦ record { answer = Err Underivable; is = (refl, none); only = is_none none }
]
  where
    is_value : (value : List ℕ) → IsAuthorityValue scheme text value → (other : Answer) → AuthorityRow scheme (Ok text) other → other ≡ Ok value
    is_value value is (Ok other) row = ap Ok (one_authority_value scheme text other value row is)
    is_value value is (Err lack) row = absurd (row.1 value is)

    is_none : ((value : List ℕ) → IsAuthorityValue scheme text value → ⊥) → (other : Answer) → AuthorityRow scheme (Ok text) other → other ≡ Err Underivable
    is_none none (Ok other) row = absurd (none other row)
    is_none none (Err lack) row = ap Err row.0

target_authority_one : (parts : RequestParts) (target : TargetParts) → HasSoleAnswer (TargetAuthorityRow parts target)
target_authority_one parts target = authority_one (scheme_of parts target) (named_authority parts target.authority)

uri_one : (path : Option (List ℕ)) (parts : RequestParts) (target : TargetParts) → HasSoleAnswer (TargetUriRow path parts target)
uri_one None parts target = the_answer (Err Underivable)
uri_one (Some path) parts target =
    let authority = target_authority_one parts target in
    let answer_of = result_map_both (uri_text parts target path) (λ lack. lack) in
    record {
      answer = answer_of authority.answer;
      is = (authority.answer, authority.is, refl);
      only = λ other row. row.2 ∙ ap answer_of (authority.only row.0 row.1);
    }

-- ---- targets

target_one : (of_target : TargetName) (params : List (Pair BareItem)) (parts : RequestParts) (target : TargetParts) → HasSoleAnswer (TargetRow of_target params parts target)
target_one name.Scheme params parts target = the_answer (Ok (scheme_of parts target))
target_one name.Authority params parts target = target_authority_one parts target
target_one name.Path params parts target = the_answer (path_value target)
target_one name.Query params parts target = the_answer (query_value target)
target_one name.TargetUri params parts target = uri_one (path_of target) parts target
target_one name.QueryParam params parts target = the_answer (param_value (query_of target) params)

formed_one : (of_target : TargetName) (params : List (Pair BareItem)) (parts : RequestParts) → HasSoleAnswer (FormedRow of_target params parts)
formed_one of_target params parts = elim (target_is_decided parts.method parts.target) [
  | inl some ↦
      let row = target_one of_target params parts some.0 in
      record { answer = row.answer; is = inl (some.0, some.1, row.is); only = is_formed some.0 some.1 }
  | inr none ↦ record { answer = Err Underivable; is = inr (none, refl); only = is_none none }
]
  where
    is_formed : (target : TargetParts) → SpellsTarget parts.method parts.target target → (other : Answer) → FormedRow of_target params parts other
        → other ≡ (target_one of_target params parts target).answer
    is_formed target spells other (inl (also, spelled, row)) =
        (target_one of_target params parts target).only other
        (subst (λ t. TargetRow of_target params parts t other) (one_target parts.method parts.target also target spelled spells) row)
    is_formed target spells other (inr (none, is)) = absurd (none target spells)

    is_none : ((target : TargetParts) → SpellsTarget parts.method parts.target target → ⊥) → (other : Answer) → FormedRow of_target params parts other → other ≡ Err Underivable
    is_none none other (inl (also, spelled, row)) = absurd (none also spelled)
    is_none none other (inr (unformed, is)) = is

-- ---- messages

request_one : (derived : DerivedName) (params : List (Pair BareItem)) (parts : RequestParts) → HasSoleAnswer (RequestRow derived params parts)
request_one Method params parts = the_answer (Ok parts.method)
request_one RequestTarget params parts = the_answer (Ok parts.target)
request_one Status params parts = the_answer (Err Underivable)
request_one (OfTarget of_target) params parts = formed_one of_target params parts

start_one : (derived : DerivedName) (params : List (Pair BareItem)) (scheme : Scheme) (lines : List FieldLine) (start : StartLine) → HasSoleAnswer (StartRow derived params scheme lines start)
start_one derived params scheme lines (request line) =
    request_one derived params (record { method = line.method; target = line.target; lines = lines; scheme = scheme })
start_one derived params scheme lines (status line) = the_answer (response_value derived line.code)

pub derived_one : (derived : Option DerivedName) (params : List (Pair BareItem)) (scheme : Scheme) (lines : List FieldLine) (start : StartLine)
    → HasSoleAnswer (DerivedRow derived params scheme lines start)
derived_one (Some derived) params scheme lines start = start_one derived params scheme lines start
derived_one None params scheme lines start = the_answer (Err Underivable)
