use Rattle.derived_values.specs.tools.Params.{AreToldSoFar}
use Rattle.derived_values.proofs.query_params.which_are_same.Given as goal

abbrev pub invariant-loop-place : goal.invariant-loop-place
invariant-loop-place l = AreToldSoFar l.are_same l.params l.others l.initial.place-iterator.rest.now l.place-iterator.rest.now
