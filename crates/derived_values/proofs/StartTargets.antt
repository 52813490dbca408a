-- Start lines of requests, by the parts of their targets.
use Rattle.std.proofs.Common.{◌≡◌, refl, sym, subst, ◌∙◌, inl, inr}
use Rattle.msg_head.specs.Starts.{RequestLine, StartLine, request, status}
use Rattle.derived_values.specs.TargetLaws.{IsOneRequest, IsRequestOrNot}
use Rattle.derived_values.specs.Targets.{IsRequestOf, SpellsTarget, TargetParts}
use Rattle.derived_values.proofs.Decided.{target_is_decided}
use Rattle.derived_values.proofs.TargetParts.{one_target}

pub is_one_request : IsOneRequest
is_one_request start line other parts others a b =
    let starts : request line ≡ request other = sym a.start_is ∙ b.start_is in
    let lines : line ≡ other = cc in
    (lines, one_target other.method other.target parts others (subst (λ (l : RequestLine). SpellsTarget l.method l.target parts) lines a.spells) b.spells)

-- a line whose target has no parts
pub not_spelled : (start : StartLine) (line : RequestLine) → start ≡ request line → ((parts : TargetParts) → ¬ SpellsTarget line.method line.target parts)
    → (other : RequestLine) (parts : TargetParts) → ¬ IsRequestOf start other parts
not_spelled start line is none other parts has =
    let starts : request other ≡ request line = sym has.start_is ∙ is in
    let lines : other ≡ line = cc in
    none parts (subst (λ (l : RequestLine). SpellsTarget l.method l.target parts) lines has.spells)

pub is_request_or_not : IsRequestOrNot
is_request_or_not (status line) = inr (λ other parts has. let e = has.start_is in absurd cc)
is_request_or_not (request line) = elim (target_is_decided line.method line.target) [
  | inl found ↦ inl (line, found.0, record { start_is = refl; spells = found.1 })
  | inr none ↦ inr (not_spelled (request line) line refl none)
]
