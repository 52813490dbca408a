use Rattle.std.proofs.Common.{◌≡◌, None, length, replicate, ◌∙◌, ap}
use Rattle.std.proofs.lemmas.List.{length-replicate}
use Rattle.nonces.specs.Books.{book_of}
use Rattle.nonces.proofs.Passed.{book_opened, entries_opened}
use Rattle.nonces.proofs.book.NonceBook.open.Goals as goal

pub invariant_of-result : goal.invariant_of-result
invariant_of-result c =
    let wheels = c.in_ok-wheels.wheels in
    let is : wheels.entries ≡ replicate c.args.capacity None = ap (λ w. w.entries) c.in_ok-wheels.ensures in (
      book_opened wheels.entries c.args.capacity c.args.window c.args.now is c.requires.some c.requires.few c.requires.window
          c.requires.now,
      ap (λ w. w.hour) c.in_ok-wheels.ensures ∙ c.hour_of.ensures,
      ap length is ∙ length-replicate c.args.capacity None,
    )

pub returns : goal.returns
returns c =
    let wheels = c.in_ok-wheels.wheels in
    let is : wheels.entries ≡ replicate c.args.capacity None = ap (λ w. w.entries) c.in_ok-wheels.ensures in
    ap (λ l. book_of l c.args.capacity c.args.window c.args.now) (entries_opened wheels.entries c.args.capacity is)
