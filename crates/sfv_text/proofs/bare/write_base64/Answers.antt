use Rattle.std.proofs.Common.{◌∙◌}
use Rattle.std.specs.Slice.Iter.{chunks_rest}
use Rattle.base64.specs.Engines.{standard}
use Rattle.sfv_text.proofs.Groups.{group_more, group_end}
use Rattle.sfv_text.proofs.bare.write_base64.Goals as goal

pub loop-group-preserved : goal.loop-group-preserved
loop-group-preserved c =
    let steps = c.in-Some.ensures.steps in
    let size = c.loop-group.invariant.size in
    record {
      size = steps.0 ∙ size;
      text = group_more standard c.loop-group.text c.write_group.new.text _ (chunks_rest c.loop-group.group-iterator) c.in-Some.group.now (chunks_rest c.next.new.self)
          steps.1.0 (rw size at steps.1.1) c.loop-group.invariant.text c.in_ok-write_group.ensures;
    }

pub returns : goal.returns
returns c = group_end standard c.loop-group.text _ (chunks_rest c.loop-group.group-iterator) c.in-None.ensures.steps.1.0 c.loop-group.invariant.text
