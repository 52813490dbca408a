use Rattle.std.proofs.Common.{◌≡◌, length}
use Rattle.byte_grammar.specs.tools.Walks.{turns_read, with_state}
use Rattle.sfv_read.specs.Item.{put_pair}
use Rattle.sfv_read.specs.tools.ItemWalk.{next_parameter_read, parameters_read}
use Rattle.sfv_read.proofs.params.read_parameters.Given as goal

abbrev pub invariant-params : goal.invariant-params
invariant-params l = with_state put_pair l.params (turns_read next_parameter_read l.rest) ≡ parameters_read l.bytes

abbrev pub decreases-params : goal.decreases-params
decreases-params l = length l.rest
