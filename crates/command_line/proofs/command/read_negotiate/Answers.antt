use Rattle.std.proofs.Common.{◌≡◌, Some, sym}
use Rattle.std.specs.Prelude.{codes}
use Rattle.command_options.proofs.OptionLists.{value_had}
use Rattle.command_line.proofs.command.read_negotiate.Goals as goal

pub number_of-requires : goal.number_of-requires
number_of-requires c =
    let found = c.in-Some-Some.ensures.some in
    let given : c.in-Some-Some.field-0.now ≡ Some c.in-Some-Some.now = cc in
    value_had (codes "--now") c.in-Some-Some.now.now found.options found.are.had (sym (rw given at found.now_is found.options found.are.joined))
