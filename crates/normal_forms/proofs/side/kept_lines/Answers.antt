use Rattle.std.proofs.Common.{List, [], ◌∷◌, ◌-◌, sym, ap, subst, ◌∙◌}
use Rattle.std.specs.Prelude.{map, reverse}
use Rattle.std.proofs.lemmas.List.{map-append}
use Rattle.msg_body.specs.Views.{lines_on, message_of}
use Rattle.msg_head.specs.declared.line.LineView.{LineView}
use Rattle.msg_head.specs.Lines.{FieldLine}
use Rattle.msg_head.specs.Views.{field_line_of}
use Rattle.rewrite_script.specs.declared.rewrite.Rewrite.{Rewrite}
use Rattle.normal_forms.specs.tools.Sides.{KeepsFrom, KeepsLines}
use Rattle.normal_forms.proofs.SideKept.{keeps_start, keeps_line, keeps_gone, keeps_end}
use Rattle.normal_forms.proofs.SideSteps.{map_reversed}
use Rattle.normal_forms.proofs.side.kept_lines.Goals as goal

pub lines-init : goal.lines-init
lines-init c =
    keeps_start c.args.side c.args.params.now (lines_on c.args.side (message_of c.args.message.now)) c.line_count-left.result
    (reverse (map field_line_of c.in_ok-kept.kept.items)) c.args.steps.now c.line_count-left.ensures (ap (λ (ls : List LineView). reverse (map field_line_of ls)) c.in_ok-kept.ensures.items)

pub lines-preserved : goal.lines-preserved
lines-preserved c =
    let lines = lines_on c.args.side (message_of c.args.message.now) in
    let kept = reverse (map field_line_of c.lines.kept.items) in
    subst (λ (steps : List Rewrite). KeepsFrom c.args.side c.args.params.now lines (c.lines.left - 1) kept c.args.steps.now steps) (sym c.in_ok-push-2.ensures.ok)
    (keeps_gone c.args.side c.args.params.now lines c.lines.left (field_line_of c.line-line.result) kept c.args.steps.now c.lines.steps c.lines-test.true c.line-line.ensures (sym c.is_kept.ensures ∙ c.if-is_kept.false) c.lines.invariant)

pub lines-preserved-in-Continue-branch-2 : goal.lines-preserved-in-Continue-branch-2
lines-preserved-in-Continue-branch-2 c =
    let lines = lines_on c.args.side (message_of c.args.message.now) in
    let line = field_line_of c.line-line.result in
    let view = ap (map field_line_of) c.in_ok-push.ensures.items ∙ map-append field_line_of c.lines.kept.items (c.line-line.result ∷ []) in
    subst (λ (ls : List FieldLine). KeepsFrom c.args.side c.args.params.now lines (c.lines.left - 1) (reverse ls) c.args.steps.now c.lines.steps) (sym view)
    (keeps_line c.args.side c.args.params.now lines c.lines.left line (map field_line_of c.lines.kept.items) c.args.steps.now c.lines.steps c.lines-test.true c.line-line.ensures (sym c.is_kept.ensures ∙ c.if-is_kept.true) c.lines.invariant)

pub returns : goal.returns
returns c =
    let lines = lines_on c.args.side (message_of c.args.message.now) in
    let back = ap (map field_line_of) c.reverse.ensures.items ∙ map_reversed field_line_of c.lines.kept.items in
    subst (λ (ls : List FieldLine). KeepsLines c.args.side c.args.params.now lines ls c.args.steps.now c.lines.steps) (sym back)
    (keeps_end c.args.side c.args.params.now lines c.lines.left (reverse (map field_line_of c.lines.kept.items)) c.args.steps.now c.lines.steps c.lines-test.false c.lines.invariant)
