use Rattle.std.proofs.Common.{◌∙◌, ap, get_or}
use Rattle.std.proofs.lemmas.Result.{err_from_is_err_and}
use Rattle.msg_body.specs.declared.whole.Reading.{Reading}
use Rattle.recording.specs.RecordedChains.{subject_meant}
use Rattle.hop_audit.specs.tools.Judged.{related_of}
use Rattle.hop_audit.proofs.AuditAnswers.{same_head}
use Rattle.hop_audit.proofs.AuditSteps.{IsAuditOf, all_reported, first_reached, first_refused, hop_at, hop_refused, next_reached, no_hop}
use Rattle.hop_audit.proofs.chain_audit.ChainAudit.report.Goals as goal

pub first-requires-clause-reading : goal.first-requires-clause-reading
first-requires-clause-reading c =
    ap (λ (r : Reading). r.to_head) c.requires.reading ∙ same_head (subject_meant c.args.chain.now.subject) (related_of c.args.self.now) c.requires.related

pub returns-in_err-reached : goal.returns-in_err-reached
returns-in_err-reached c =
    let p = err_from_is_err_and c.from_residual.result c.from_residual.ensures.1 in
    let of : IsAuditOf c.args.self.now c.args.chain.now = record { related = c.requires.related; reading = c.requires.reading } in
    rw (p.1, p.2) (first_refused c.args.self.now c.args.chain.now of c.in_err-reached.field-0.0 c.in_err-reached.ensures)

pub loop-count-init : goal.loop-count-init
loop-count-init c =
    let of : IsAuditOf c.args.self.now c.args.chain.now = record { related = c.requires.related; reading = c.requires.reading } in
    first_reached c.args.self.now c.args.chain.now of c.in_ok-reached.reached c.first.new.lines (rw c.new-lines.ensures at c.in_ok-reached.ensures)

pub next-requires-clause-stage : goal.next-requires-clause-stage
next-requires-clause-stage c = c.loop-count.invariant.stage_in

pub next-requires-clause-reading : goal.next-requires-clause-reading
next-requires-clause-reading c =
    ap (λ (r : Reading). r.to_head) c.requires.reading ∙ same_head (subject_meant c.args.chain.now.subject) (related_of c.args.self.now) c.requires.related

pub next-requires-clause-sized : goal.next-requires-clause-sized
next-requires-clause-sized c =
    c.requires.held.hops c.loop-count.count _ (hop_at c.args.chain.now.hops c.as_slice-hop-items.result.now c.loop-count.count no_hop c.as_slice-hop-items.ensures c.loop-count-test.true)

pub returns-in_err-reached-2 : goal.returns-in_err-reached-2
returns-in_err-reached-2 c =
    let p = err_from_is_err_and c.from_residual-in_err-reached-2.result c.from_residual-in_err-reached-2.ensures.1 in
    let of : IsAuditOf c.args.self.now c.args.chain.now = record { related = c.requires.related; reading = c.requires.reading } in
    let there = hop_at c.args.chain.now.hops c.as_slice-hop-items.result.now c.loop-count.count no_hop c.as_slice-hop-items.ensures c.loop-count-test.true in
    rw (p.1, p.2) (hop_refused c.args.self.now c.args.chain.now of c.loop-count.count c.loop-count.reached c.loop-count.lines
    (get_or c.as_slice-hop-items.result.now c.loop-count.count no_hop) there c.loop-count.invariant c.next.new.lines c.in_err-reached-2.field-0.0 c.in_err-reached-2.ensures)

pub loop-count-preserved : goal.loop-count-preserved
loop-count-preserved c =
    let of : IsAuditOf c.args.self.now c.args.chain.now = record { related = c.requires.related; reading = c.requires.reading } in
    let there = hop_at c.args.chain.now.hops c.as_slice-hop-items.result.now c.loop-count.count no_hop c.as_slice-hop-items.ensures c.loop-count-test.true in
    let hop = get_or c.as_slice-hop-items.result.now c.loop-count.count no_hop in
    next_reached c.args.self.now c.args.chain.now of c.loop-count.count c.loop-count.reached c.loop-count.lines hop there c.loop-count.invariant c.next.new.lines c.in_ok-reached-2.reached
    c.in_ok-reached-2.ensures

pub returns : goal.returns
returns c =
    let of : IsAuditOf c.args.self.now c.args.chain.now = record { related = c.requires.related; reading = c.requires.reading } in
    all_reported c.args.self.now c.args.chain.now of c.loop-count.count c.loop-count.reached c.loop-count.lines (rw c.as_slice-hop-items.ensures at c.loop-count-test.false) c.loop-count.invariant
