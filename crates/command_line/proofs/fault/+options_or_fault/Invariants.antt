use Rattle.std.proofs.Common.{length}
use Rattle.command_line.proofs.fault.+options_or_fault.Given as goal

abbrev pub decreases-options_or_fault : goal.decreases-options_or_fault
decreases-options_or_fault l = length l.words.now
