use Rattle.std.proofs.Common.{sym, ap, ◌∙◌, Some}
use Rattle.derived_values.specs.Derived.{derived_of}
use Rattle.derived_values.proofs.derived.derived_parts.Goals as goal

pub returns-in-Request-clause-row : goal.returns-in-Request-clause-row
returns-in-Request-clause-row c =
    rw (ap derived_of (sym c.bytes.ensures) ∙ sym c.derived_of.ensures ∙ c.in-Some.is, ← c.in-Request.ensures) c.value.ensures.row

pub returns-in-Request-clause-needed : goal.returns-in-Request-clause-needed
returns-in-Request-clause-needed c = λ none.
    ap derived_of (sym c.bytes.ensures) ∙ sym c.derived_of.ensures ∙ c.in-Some.is ∙ ap Some (c.value.ensures.needed none)
