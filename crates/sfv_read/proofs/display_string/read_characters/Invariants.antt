use Rattle.std.proofs.Common.{◌≡◌, length}
use Rattle.byte_grammar.specs.tools.Walks.{turns_read, with_state}
use Rattle.sfv_read.specs.tools.DisplayWalk.{with_run, next_encoded_run_read, display_characters_read}
use Rattle.sfv_read.proofs.display_string.read_characters.Given as goal

abbrev pub invariant-runs : goal.invariant-runs
invariant-runs l = with_state with_run l.text (turns_read next_encoded_run_read l.rest) ≡ display_characters_read l.bytes

abbrev pub decreases-runs : goal.decreases-runs
decreases-runs l = length l.rest
