use Rattle.std.proofs.Common.{◌≡◌, ◌+◌, sym, ◌∙◌, arith}
use Rattle.nonces.specs.Books.{hour_of}
use Rattle.nonces.specs.declared.limits.TheConstants.{MAX_WINDOW}
use Rattle.nonces.proofs.Passed.{advanced, advanced_live, advanced_size, hour_later, within_book}
use Rattle.nonces.proofs.Turned.{hour_begins, hour_ends}
use Rattle.nonces.proofs.book.NonceBook.advance.Goals.{then-hour_of-hour, else-hour_of-hour}
use Rattle.nonces.proofs.book.NonceBook.advance.Goals as goal

pub drop_seconds-requires-clause-last : goal.drop_seconds-requires-clause-last
drop_seconds-requires-clause-last g c =
    let old = c.self.inside in
    (old.moment + MAX_WINDOW + 1, within_book old.wheels.entries old.capacity old.window old.moment c.self.invariant.0)

pub drop_seconds-requires-clause-begins : goal.drop_seconds-requires-clause-begins
drop_seconds-requires-clause-begins g c = omega (arith, c.self.invariant.1, hour_begins c.self.inside.moment)

pub drop_seconds-requires-clause-order : goal.drop_seconds-requires-clause-order
drop_seconds-requires-clause-order g c = rw (← c.self.view_is) at c.requires.later

pub drop_seconds-requires-clause-ends : goal.drop_seconds-requires-clause-ends
drop_seconds-requires-clause-ends g c = omega (arith, hour_ends c.args.now, c.hour_of.ensures, c.hour.ensures)

pub turn_to-requires-clause-within : goal.turn_to-requires-clause-within
turn_to-requires-clause-within g c =
    let old = c.self.inside in within_book old.wheels.entries old.capacity old.window old.moment c.self.invariant.0

pub turn_to-requires-clause-hour : goal.turn_to-requires-clause-hour
turn_to-requires-clause-hour g c = sym c.self.invariant.1

pub turn_to-requires-clause-later : goal.turn_to-requires-clause-later
turn_to-requires-clause-later g c =
    let later = rw (← c.self.view_is) at c.requires.later in
    omega (
      arith,
      hour_later c.self.inside.moment c.args.now later,
      c.self.invariant.1,
      c.hour_of.ensures,
      c.hour.ensures,
    )

pub invariant_of-self : goal.invariant_of-self
invariant_of-self g c =
    let old = c.self.inside in
    let os = old.wheels.entries in
    let held = c.self.invariant in
    let later = rw (← c.self.view_is) at c.requires.later in
    elim c.if-hour_of-hour.branch [
      | then-hour_of-hour w ↦
          let new = w.drop_seconds.new.self in
          let entries = w.drop_seconds.ensures.entries in
          let hour : new.hour ≡ hour_of c.args.now =
          w.drop_seconds.ensures.hour ∙ sym c.hour.ensures ∙ sym w.if-hour_of-hour.true ∙ c.hour_of.ensures in
          rw w.self-inside-is (
            advanced os new.entries old.capacity old.window old.moment c.args.now held.0 later c.requires.now entries,
            hour,
            advanced_size os new.entries c.args.now entries ∙ held.2,
          )
      | else-hour_of-hour w ↦
          let new = w.turn_to.new.self in
          let entries = w.turn_to.ensures.entries in
          rw w.self-inside-is (
            advanced os new.entries old.capacity old.window old.moment c.args.now held.0 later c.requires.now entries,
            w.turn_to.ensures.hour,
            advanced_size os new.entries c.args.now entries ∙ held.2,
          )
    ]

pub returns-clause-live : goal.returns-clause-live
returns-clause-live g c =
    let os = c.self.inside.wheels.entries in
    elim c.if-hour_of-hour.branch [
      | then-hour_of-hour w ↦
          rw (w.self-inside-is, ← c.self.view_is)
          (advanced_live os w.drop_seconds.new.self.entries c.args.now w.drop_seconds.ensures.entries)
      | else-hour_of-hour w ↦
          rw (w.self-inside-is, ← c.self.view_is)
          (advanced_live os w.turn_to.new.self.entries c.args.now w.turn_to.ensures.entries)
    ]
