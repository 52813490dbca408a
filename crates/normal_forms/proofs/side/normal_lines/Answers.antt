use Rattle.std.proofs.Common.{List, sym, subst}
use Rattle.std.specs.Prelude.{map}
use Rattle.std.specs.List.{All}
use Rattle.msg_body.specs.Views.{lines_on, message_of}
use Rattle.msg_head.specs.declared.line.LineView.{LineView}
use Rattle.msg_head.specs.Lines.{IsLine}
use Rattle.msg_head.specs.Views.{field_line_of}
use Rattle.normal_forms.specs.tools.Sides.{CleansLines}
use Rattle.normal_forms.proofs.SideCleaned.{all_made_clean}
use Rattle.normal_forms.proofs.SideKept.{holds_of_kept}
use Rattle.normal_forms.proofs.SideMade.{made_normal}
use Rattle.normal_forms.proofs.side.normal_lines.Goals as goal

pub clean_lines-requires : goal.clean_lines-requires
clean_lines-requires c =
    let kept = holds_of_kept c.args.side c.args.params.now IsLine (lines_on c.args.side (message_of c.args.message.now)) (map field_line_of c.in_ok-kept.kept.items) c.args.steps.now c.kept_lines.new.steps c.in_ok-kept.ensures c.requires in
    subst (λ (ls : List LineView). All IsLine (map field_line_of ls)) (sym c.as_slice.ensures.value) kept

pub join_lines-requires : goal.join_lines-requires
join_lines-requires c = all_made_clean c.args.side (map field_line_of c.as_slice.result.now) c.in_ok-lines.lines.items c.kept_lines.new.steps c.clean_lines.new.steps c.in_ok-lines.ensures

pub returns : goal.returns
returns c =
    let clean = subst (λ (ls : List LineView). CleansLines c.args.side (map field_line_of ls) c.in_ok-lines.lines.items c.kept_lines.new.steps c.clean_lines.new.steps) c.as_slice.ensures.value c.in_ok-lines.ensures in
    made_normal c.args.side c.args.params.now (lines_on c.args.side (message_of c.args.message.now)) (map field_line_of c.in_ok-kept.kept.items) c.in_ok-lines.lines.items c.join_lines.new.lines.items c.args.steps.now c.kept_lines.new.steps
    c.clean_lines.new.steps c.join_lines.new.steps c.in_ok-kept.ensures clean c.in_ok-join_lines.ensures.join c.in_ok-join_lines.ensures.joined
