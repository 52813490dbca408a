use Rattle.std.proofs.Common.{◌∷◌, ◌-◌, ℕ, List, length, sym, ap, subst, ◌∙◌, arith}
use Rattle.recording.specs.Items.{PlacedItem, body_of}
use Rattle.recording.specs.tools.RecordingViews.{AreLeft, items_from}
use Rattle.recording.proofs.ViewLaws.{next_left, next_given, none_left, never_stops}
use Rattle.recording.proofs.view.ItemsIterator.next.Goals as goal

pub invariant_of-self : goal.invariant_of-self
invariant_of-self c =
    subst (λ (m : ℕ). AreLeft c.self.inside.text.now m c.in-Ok-Some-default.rest.now) (sym c.moment_after-self-inside.ensures)
    (next_left c.self.inside.text.now c.self.inside.last c.self.inside.left.now c.self.invariant (body_of c.in-Ok-Some-default.body) c.in-Ok-Some-default.rest.now
    (rw c.in-Ok-Some-default.field-0-0-is at c.in-Ok-Some-default.ensures.gives))

pub unreachable-requires : goal.unreachable-requires
unreachable-requires c = never_stops c.self.inside.text.now c.self.inside.last c.self.inside.left.now c.self.invariant c.in-Err.field-0 c.in-Err.ensures.gives

pub returns-in-Ok-Some-default-clause-steps : goal.returns-in-Ok-Some-default-clause-steps
returns-in-Ok-Some-default-clause-steps c =
    sym c.self.view_is
    ∙ next_given c.self.inside.text.now c.self.inside.last c.self.inside.left.now c.self.invariant (body_of c.in-Ok-Some-default.body) c.in-Ok-Some-default.rest.now
    (rw c.in-Ok-Some-default.field-0-0-is at c.in-Ok-Some-default.ensures.gives)
    ∙ ap (λ (m : ℕ). record { offset = length c.self.inside.text.now - length c.self.inside.left.now; body = body_of c.in-Ok-Some-default.body }
    ∷ items_from (length c.self.inside.text.now - length c.in-Ok-Some-default.rest.now) m c.in-Ok-Some-default.rest.now) (sym c.moment_after-self-inside.ensures)

pub returns-in-Ok-Some-default-clause-goes : goal.returns-in-Ok-Some-default-clause-goes
returns-in-Ok-Some-default-clause-goes c =
    let count = ap (λ (items : List PlacedItem). length items) (returns-in-Ok-Some-default-clause-steps c) in
    omega (arith, count)

pub returns-in-Ok-None-default-clause-steps : goal.returns-in-Ok-None-default-clause-steps
returns-in-Ok-None-default-clause-steps c =
    let none = sym c.self.view_is ∙ none_left c.self.inside.text.now c.self.inside.last c.self.inside.left.now c.self.invariant c.in-Ok-None-default.field-0-1.now
    (rw c.in-Ok-None-default.field-0-0-is at c.in-Ok-None-default.ensures.gives) in
    (none, none)
