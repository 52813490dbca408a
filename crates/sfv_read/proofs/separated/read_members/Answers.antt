use Rattle.std.proofs.Common.{ap, ◌∙◌}
use Rattle.std.proofs.lemmas.Result.{err_from_is_err_and}
use Rattle.byte_grammar.specs.tools.Walks.{turns_read, with_state}
use Rattle.byte_grammar.proofs.Loops.{state_last, state_err, state_more, some_next}
use Rattle.sfv_read.specs.tools.MemberWalk.{next_member_read}
use Rattle.sfv_read.proofs.SeparatedTexts.{members_err}
use Rattle.sfv_read.proofs.Stopping.{stops_more}
use Rattle.sfv_read.proofs.separated.read_members.Goals as goal

pub returns-in_err-next : goal.returns-in_err-next
returns-in_err-next g c =
    let p = err_from_is_err_and c.from_residual-in_err-next.result c.from_residual-in_err-next.ensures.1 in
    rw (p.1, p.2) (stops_more _ _ _ (state_err (g.S.Separated.with_part c.args.kind.now) (next_member_read g.S.Separated.reading) c.empty-members.ensures.loops c.members.members c.members.rest.now _ c.members.invariant) c.in_err-next.ensures)

pub returns-in_err-first : goal.returns-in_err-first
returns-in_err-first g c =
    let p = err_from_is_err_and c.from_residual.result c.from_residual.ensures.1 in
    rw (p.1, p.2) (stops_more _ _ _ (members_err (g.S.Separated.with_part c.args.kind.now) g.S.Separated.nothing g.S.Separated.reading c.args.bytes.now) c.in_err-first.ensures)

pub returns-in-None : goal.returns-in-None
returns-in-None g c = state_last (g.S.Separated.with_part c.args.kind.now) (next_member_read g.S.Separated.reading) c.empty-members.ensures.loops c.members.members c.members.rest.now _ c.members.invariant _ (some_next _ _ _ _ c.in_ok-next.ensures c.in-None.is)

pub members-smaller : goal.members-smaller
members-smaller g c = c.empty-members.ensures.shorter c.members.rest.now c.in-Some.part c.in_ok-next.after.now (some_next _ _ _ _ c.in_ok-next.ensures c.in-Some.is)

pub members-preserved : goal.members-preserved
members-preserved g c =
    ap (λ s. with_state (g.S.Separated.with_part c.args.kind.now) s (turns_read (next_member_read g.S.Separated.reading) c.in_ok-next.after.now)) c.in_ok-add-in-Some.ensures
    ∙ state_more (g.S.Separated.with_part c.args.kind.now) (next_member_read g.S.Separated.reading) c.empty-members.ensures.loops c.members.members c.members.rest.now _ c.members.invariant c.in-Some.part c.in_ok-next.after.now (some_next _ _ _ _ c.in_ok-next.ensures c.in-Some.is)
