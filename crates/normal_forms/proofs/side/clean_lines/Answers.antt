use Rattle.std.specs.Prelude.{map}
use Rattle.msg_head.specs.Views.{field_line_of}
use Rattle.normal_forms.proofs.SideCleaned.{clean_turn, raw_at, view_at}
use Rattle.normal_forms.proofs.side.clean_lines.Goals as goal

pub push_cleanings-requires : goal.push_cleanings-requires
push_cleanings-requires c = raw_at c.args.lines.now c.loop-index.index _ c.loop-index-test.true c.requires

pub loop-index-preserved : goal.loop-index-preserved
loop-index-preserved c =
    clean_turn c.args.side (map field_line_of c.args.lines.now) c.loop-index.index _ c.in_ok-normal.normal c.args.steps.now c.loop-index.steps c.push_cleanings.new.steps c.loop-index.clean.items c.push.new.self.items
    (view_at c.args.lines.now c.loop-index.index _ c.loop-index-test.true) c.loop-index.invariant c.in_ok-push_cleanings.ensures c.in_ok-normal.ensures c.in_ok-push.ensures.items
