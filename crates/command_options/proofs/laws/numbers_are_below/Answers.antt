use Rattle.command_options.proofs.Moments.{below_digits, is_below}
use Rattle.command_options.proofs.laws.numbers_are_below.Goals as goal

pub returns : goal.returns
returns c = record { numbers = below_digits; moments = is_below }
