use Rattle.std.proofs.Common.{◌≡◌, ◌≤◌, ◌+◌, ℕ, sym, subst}
use Rattle.std.specs.List.{count_by}
use Rattle.nonces.specs.Books.{book_of, is_seen, live_entries}
use Rattle.nonces.specs.Buckets.{IsLeastPowerOfTwo, bucket_of, is_in_bucket}
use Rattle.nonces.specs.tools.Nodes.{entries_in}
use Rattle.nonces.proofs.Held.{live_of_book}
use Rattle.nonces.proofs.book.NonceBook.find.Goals as goal

pub returns-clause-live : goal.returns-clause-live
returns-clause-live g c =
    let old = c.self.inside in
    let live = live_of_book (book_of (entries_in old.wheels.entries) old.capacity old.window old.moment) c.self.invariant.0 in
    subst (λ book. c.find.result ≡ is_seen c.args.keyid.now c.args.nonce.now (live_entries book.moment book.entries))
    c.self.view_is (rw live c.find.ensures.found)

pub returns-clause-bound : goal.returns-clause-bound
returns-clause-bound g c =
    subst (
    λ book. (buckets : ℕ) → IsLeastPowerOfTwo book.capacity buckets
    → c.find.new.steps
    ≤ c.args.steps.now
    + count_by (is_in_bucket buckets (bucket_of buckets c.args.keyid.now c.args.nonce.now)) book.entries
    + 1
    ) c.self.view_is
    (λ buckets least. c.find.ensures.cost buckets (subst (λ n. IsLeastPowerOfTwo n buckets) (sym c.self.invariant.2) least))
