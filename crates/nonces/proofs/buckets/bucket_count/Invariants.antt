use Rattle.std.proofs.Common.{◌≡◌, ◌≤◌, ◌-◌, ◌^◌, ℕ}
use Rattle.nonces.proofs.buckets.bucket_count.Given as goal

-- no lesser power of two reaches the capacity
abbrev pub invariant-powers : goal.invariant-powers
invariant-powers l =
    (exponent : ℕ) × (l.count ≡ 2 ^ exponent) × ((k : ℕ) → l.capacity ≤ 2 ^ k → l.count ≤ 2 ^ k)

abbrev pub decreases-powers : goal.decreases-powers
decreases-powers l = l.capacity - l.count
