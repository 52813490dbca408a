-- What is said of the parts of the request's target.
use Rattle.std.proofs.Common.{◌≡◌, ◌⊎◌, ◌↔◌, ℕ, Some, List, [], Ok, refl, sym, ap, subst, ◌∙◌, inl, inr, codes}
use Rattle.msg_head.specs.Starts.{RequestLine, StartLine, request, status}
use Rattle.msg_body.specs.Messages.{Message}
use Rattle.derived_values.specs.Targets.{TargetParts}
use Rattle.derived_values.proofs.StartTargets.{is_one_request, is_request_or_not}
use Rattle.derived_values.proofs.TargetParts.{one_target}
use Rattle.derived_values.specs.Derived.{DerivedRow}
use Rattle.derived_values.specs.declared.derived.DerivedName.TheVariants.{OfTarget as FromTarget}
use Rattle.derived_values.specs.declared.derived.TargetName.TheVariants.{Scheme}
use Rattle.component_values.specs.Context.{MessageContext}
use Rattle.component_values.specs.Values.{Has}
use Rattle.whole_rewrites.specs.Targets.{HasTarget, OfTarget, derived_id}
use Rattle.whole_rewrites.specs.tools.Requests.{scheme_in}
use Rattle.whole_rewrites.proofs.TargetPermitTests.{HoldsOrNot}

-- ---- the target

-- it holds of the one target
pub of_the_target : (message : Message) (Holds : TargetParts → Type 0) (line : RequestLine) (parts : TargetParts) → HasTarget message line parts → OfTarget message Holds → Holds parts
of_the_target message Holds line parts has (other, others, also, holds) =
    let same = is_one_request message.head.start other line others parts also has in
    subst Holds same.1 holds

pub by_the_target : (message : Message) (Holds : TargetParts → Type 0) (line : RequestLine) (parts : TargetParts) → HasTarget message line parts → Holds parts ↔ OfTarget message Holds
by_the_target message Holds line parts has = (λ holds. (line, parts, has, holds), of_the_target message Holds line parts has)

abbrev pub HasNoTarget : Message → Type 0
HasNoTarget message = (line : RequestLine) (parts : TargetParts) → ¬ HasTarget message line parts

pub target_or_none : (message : Message) → ((line : RequestLine) × (parts : TargetParts) × HasTarget message line parts) ⊎ HasNoTarget message
target_or_none message = is_request_or_not message.head.start

pub of_target_or_not : (message : Message) (Holds : TargetParts → Type 0) → ((parts : TargetParts) → HoldsOrNot (Holds parts)) → HoldsOrNot (OfTarget message Holds)
of_target_or_not message Holds each = elim (target_or_none message) [
  | inr none ↦ inr (λ of. none of.0 of.1 of.2)
  | inl (line, parts, has) ↦ elim (each parts) [
    | inl holds ↦ inl (line, parts, has, holds)
    | inr never ↦ inr (λ of. never (of_the_target message Holds line parts has of))
  ]
]

-- ---- the scheme

pub has_scheme : (context : MessageContext) (line : RequestLine) (parts : TargetParts) → HasTarget context.message line parts
    → Has context (derived_id (codes "@scheme")) (scheme_in context parts)
has_scheme context line parts has =
    subst (λ (start : StartLine). DerivedRow (Some (FromTarget Scheme)) [] context.scheme context.message.head.lines start (Ok (scheme_in context parts))) (sym has.start_is)
    (inl (parts, has.spells, refl))

abbrev SchemeRow : MessageContext → List ℕ → StartLine → Type 0
SchemeRow context scheme start = DerivedRow (Some (FromTarget Scheme)) [] context.scheme context.message.head.lines start (Ok scheme)

pub one_scheme : (context : MessageContext) (line : RequestLine) (parts : TargetParts) (scheme : List ℕ) → HasTarget context.message line parts
    → Has context (derived_id (codes "@scheme")) scheme → scheme ≡ scheme_in context parts
one_scheme context line parts scheme has row = by (subst (SchemeRow context scheme) has.start_is row)
  where
    by : SchemeRow context scheme (request line) → scheme ≡ scheme_in context parts
    by (inl (target, spells, same)) =
        let one : target ≡ parts = one_target line.method line.target target parts spells has.spells in
        let value : scheme ≡ scheme_in context target = cc in
        value ∙ ap (scheme_in context) one
    by (inr (none, same)) = absurd (none parts has.spells)

pub no_scheme : (context : MessageContext) → HasNoTarget context.message → (scheme : List ℕ) → ¬ Has context (derived_id (codes "@scheme")) scheme
no_scheme context none scheme row = by context.message.head.start refl row
  where
    by : (start : StartLine) → context.message.head.start ≡ start → SchemeRow context scheme start → ⊥
    by (request line) is (inl (target, spells, same)) = none line target (record { start_is = is; spells = spells })
    by (request line) is (inr (never, same)) = absurd cc
    by (status line) is same = absurd cc
