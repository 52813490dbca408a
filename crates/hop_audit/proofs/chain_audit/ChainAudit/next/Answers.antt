use Rattle.std.proofs.Common.{ap}
use Rattle.std.proofs.lemmas.Result.{err_from_is_err_and}
use Rattle.hop_audit.specs.tools.Stages.{StageState}
use Rattle.hop_audit.proofs.AuditAnswers.{next_made}
use Rattle.hop_audit.proofs.chain_audit.ChainAudit.next.Goals as goal

pub returns-in_err-add_hop_lines : goal.returns-in_err-add_hop_lines
returns-in_err-add_hop_lines c =
    let p = err_from_is_err_and c.from_residual-in_err-add_hop_lines.result c.from_residual-in_err-add_hop_lines.ensures.1 in
    rw (p.1, p.2) tt

pub returns-in_err-add_lines : goal.returns-in_err-add_lines
returns-in_err-add_lines c =
    let p = err_from_is_err_and c.from_residual-in_err-add_lines.result c.from_residual-in_err-add_lines.ensures.1 in
    rw (p.1, p.2) tt

pub returns : goal.returns
returns c =
    next_made c.args.self.now c.args.index c.args.before.now c.args.hop.now c.args.lines.now c.add_hop_lines.new.lines c.add_lines.new.lines c.in_ok-script.script c.as_slice.result.now
    c.unwrap_or-moment.result c.before-2.inside.moment c.in_ok-after.after c.add_hop_lines.new.after c.add_lines.new.self c.in_ok-script.ensures c.as_slice.ensures
    (ap (λ (s : StageState). s.moment) c.before-2.view_is) c.unwrap_or-moment.ensures c.in_ok-after.ensures c.in_ok-add_hop_lines.ensures.lines c.add_hop_lines.ensures.after
    c.in_ok-add_lines.ensures.lines c.add_lines.ensures.same
