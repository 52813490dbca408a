use Rattle.std.proofs.Common.{List, ◌-◌, refl, subst, arith}
use Rattle.msg_head.specs.Lines.{FieldLine}
use Rattle.normal_forms.specs.tools.Sides.{AreJoinable, IsAloneAt}
use Rattle.normal_forms.proofs.SideJoined.{joins_alone, joins_pair, joins_start}
use Rattle.normal_forms.proofs.join.join_lines.Goals as goal

pub lines-init : goal.lines-init
lines-init c = joins_start c.args.side c.args.params.now c.args.lines.now.items c.len-left.result c.args.steps.now (omega (arith, c.args.lines.now.ok.0, c.len-left.ensures)) c.requires

pub lines-preserved-in-Continue-1 : goal.lines-preserved-in-Continue-1
lines-preserved-in-Continue-1 c =
    let may = subst (λ (ls : List FieldLine). AreJoinable c.args.side c.args.params.now ls (c.lines.left - 1) c.in-Some.later) c.as_slice.ensures.value c.in-Some.ensures.some in
    joins_pair c.args.side c.args.params.now c.args.lines.now.items c.lines.lines.items c.join_at.new.lines.items c.lines.left c.in-Some.later c.args.steps.now c.lines.steps c.join_at.new.steps c.lines-test.true may
    c.in_ok-join_at.ensures.lines c.in_ok-join_at.ensures.steps c.lines.invariant

pub lines-preserved : goal.lines-preserved
lines-preserved c =
    let alone = subst (λ (ls : List FieldLine). IsAloneAt c.args.side c.args.params.now ls (c.lines.left - 1)) c.as_slice.ensures.value (c.in_default.ensures.none refl) in
    joins_alone c.args.side c.args.params.now c.args.lines.now.items c.lines.lines.items c.lines.left c.args.steps.now c.lines.steps c.lines-test.true alone c.lines.invariant
