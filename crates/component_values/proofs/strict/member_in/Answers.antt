use Rattle.std.proofs.Common.{sym}
use Rattle.component_values.proofs.Unread.{member_in_range}
use Rattle.component_values.proofs.strict.member_in.Goals as goal

pub print_member-requires : goal.print_member-requires
print_member-requires c = member_in_range c.args.key.now c.requires.0 c.in-Ok.dict c.in-Some.member.now (rw c.in-Ok.is at c.requires.1) (sym c.in-Some.ensures)
