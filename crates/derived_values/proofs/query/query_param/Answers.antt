use Rattle.std.proofs.Common.{◌≡◌, ℕ, List, true, false, [], ◌∷◌, ◌++◌, append_assoc, rules}
use Rattle.std.specs.Str.{bytes_eq}
use Rattle.derived_values.specs.Query.{decoded, encoded}
use Rattle.derived_values.proofs.ValueLaws.{has_one_more, has_the_same}
use Rattle.derived_values.proofs.query.query_param.Goals as goal

pub loop-raw_name-preserved-then-branch : goal.loop-raw_name-preserved-then-branch
loop-raw_name-preserved-then-branch c =
    let so_far = c.loop-raw_name.invariant in
    let raw : List ℕ × List ℕ = (c.in-Some.raw_name.now, c.in-Some.raw_value.now) in
    let is : bytes_eq (encoded (decoded raw.0)) c.args.name.now ≡ true = search (rules, c.in_ok-has_param_name.ensures, c.if-branch.true) in (
      so_far.0 ++ raw ∷ [],
      rw (append_assoc, ← c.in-Some.ensures.steps) so_far.1,
      rw (has_one_more c.args.name.now so_far.0 raw is) (c.in_ok-found.ensures _ so_far.2),
    )

pub loop-raw_name-preserved : goal.loop-raw_name-preserved
loop-raw_name-preserved c =
    let so_far = c.loop-raw_name.invariant in
    let raw : List ℕ × List ℕ = (c.in-Some.raw_name.now, c.in-Some.raw_value.now) in
    let other : bytes_eq (encoded (decoded raw.0)) c.args.name.now ≡ false = search (rules, c.in_ok-has_param_name.ensures, c.if-branch.false) in (
      so_far.0 ++ raw ∷ [],
      rw (append_assoc, ← c.in-Some.ensures.steps) so_far.1,
      rw (has_the_same c.args.name.now so_far.0 raw other) so_far.2,
    )
