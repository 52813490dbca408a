use Rattle.std.proofs.Common.{ℕ, List, refl, subst}
use Rattle.std.proofs.lemmas.Bool.{false≢true}
use Rattle.derived_values.specs.Authorities.{IsAuthorityValue}
use Rattle.derived_values.specs.Views.{parts_of}
use Rattle.derived_values.specs.Derived.{named_authority}
use Rattle.component_values.specs.Context.{context_of}
use Rattle.field_lists.specs.FromMessages.{request_parts}
use Rattle.field_lists.proofs.FromParts.{none_named, no_authority}
use Rattle.field_lists.proofs.into_list.named_authority.Goals as goal

pub returns-in_default : goal.returns-in_default
returns-in_default c = λ line.
    let gives = c.in_ok-text.ensures line in
    none_named c.args.scheme.now (named_authority (request_parts (context_of c.args.context.now) line) (parts_of c.args.target).authority) (rw c.in_default.is at gives)

pub returns-then-not-is_authority : goal.returns-then-not-is_authority
returns-then-not-is_authority c = λ line.
    let gives = c.in_ok-text.ensures line in
    let none : (value : List ℕ) → ¬ IsAuthorityValue c.args.scheme.now c.bytes.result.now value = λ value is. false≢true (c.if-not-is_authority.ensures.no value is) in
    no_authority c.args.scheme.now c.in-Some.text (named_authority (request_parts (context_of c.args.context.now) line) (parts_of c.args.target).authority) (rw c.in-Some.is at gives)
    (subst (λ (text : List ℕ). (value : List ℕ) → ¬ IsAuthorityValue c.args.scheme.now text value) c.bytes.ensures none)

pub returns : goal.returns
returns c = λ line.
    let gives = c.in_ok-text.ensures line in (
      (rw c.in-Some.is at gives),
      subst (λ (text : List ℕ). (value : List ℕ) × IsAuthorityValue c.args.scheme.now text value) c.bytes.ensures (c.if-not-is_authority.ensures.yes refl),
    )
