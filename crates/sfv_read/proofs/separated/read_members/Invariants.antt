use Rattle.std.proofs.Common.{◌≡◌, length}
use Rattle.byte_grammar.specs.tools.Walks.{turns_read, with_state}
use Rattle.sfv_read.specs.tools.MemberWalk.{next_member_read, members_read}
use Rattle.sfv_read.proofs.separated.read_members.Given as goal

abbrev pub invariant-members : goal.invariant-members
invariant-members g l = with_state (g.S.Separated.with_part l.kind) l.members (turns_read (next_member_read g.S.Separated.reading) l.rest)
    ≡ with_state (g.S.Separated.with_part l.kind) g.S.Separated.nothing (members_read g.S.Separated.reading l.bytes)

abbrev pub decreases-members : goal.decreases-members
decreases-members g l = length l.rest
