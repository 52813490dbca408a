use Rattle.std.proofs.Common.{◌∷◌, length, sym, ◌∙◌, ap, subst, arith}
use Rattle.std.proofs.lemmas.List.{length-set}
use Rattle.nonces.specs.Books.{Entry, HaveSameEntries}
use Rattle.nonces.specs.tools.Nodes.{entries_in}
use Rattle.nonces.proofs.Held.{room_left}
use Rattle.nonces.proofs.Passed.{held_put, same_put}
use Rattle.nonces.proofs.book.NonceBook.record.Goals as goal

pub add-requires-clause-room : goal.add-requires-clause-room
add-requires-clause-room g c =
    let old = c.self.inside in
    let room = rw (← c.self.view_is) at (sym c.if-is_full.ensures) in
    omega (
      arith,
      room_left (entries_in old.wheels.entries) old.capacity old.window old.moment c.self.invariant.0 room,
      c.self.invariant.2,
    )

pub invariant_of-self : goal.invariant_of-self
invariant_of-self g c =
    let held = c.self.invariant in
    let old = c.self.inside in
    let room = rw (← c.self.view_is) at (sym c.if-is_full.ensures) in
    let new = rw (← c.self.view_is) at c.requires.new in
    let live = rw (← c.self.view_is) at c.requires.live in
    let soon = rw (← c.self.view_is) at c.requires.soon in
    let entry : Entry =
    record { keyid = c.args.keyid.now; nonce = c.args.nonce.now; until = c.args.until } in
    let added = c.add.ensures.added in (
      rw (added.2, c.new.ensures) (
          held_put old.wheels.entries added.0 old.capacity old.window old.moment entry added.1
          (record { keyid = c.requires.keyid; nonce = c.requires.nonce; live = live; soon = soon })
          new room held.0
          ),
      c.add.ensures.hour ∙ held.1,
      ap length added.2 ∙ length-set old.wheels.entries added.0 _ ∙ held.2,
    )

pub returns-clause-ok : goal.returns-clause-ok
returns-clause-ok g c =
    let old = c.self.inside in
    let added = c.add.ensures.added in
    subst (λ entry. HaveSameEntries (entries_in c.add.new.self.entries) (entry ∷ c.args.self.now.entries)) c.new.ensures (
    subst (λ book. HaveSameEntries (entries_in c.add.new.self.entries) (c.new.result ∷ book.entries)) c.self.view_is (
    subst (λ os. HaveSameEntries (entries_in os) (c.new.result ∷ entries_in old.wheels.entries)) (sym added.2)
    (same_put old.wheels.entries added.0 c.new.result added.1)
    )
    )
