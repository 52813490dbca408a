use Rattle.std.proofs.Common.{◌++◌, arith}
use Rattle.msg_head.specs.Views.{field_line_of}
use Rattle.msg_body.specs.Views.{lines_on, message_of}
use Rattle.field_lists.specs.FromMessages.{kept_fields}
use Rattle.field_lists.proofs.FromParts.{all_kept, further_field}
use Rattle.field_lists.proofs.into_list.append_kept.Goals as goal

pub loop-index-preserved : goal.loop-index-preserved
loop-index-preserved c =
    let lines = lines_on c.args.side (message_of c.args.message.now) in
    further_field lines c.loop-index.index (field_line_of c.line.result) (c.args.fields.now ++ kept_fields lines) c.loop-index.fields c.append_field.new.fields c.line.ensures c.loop-index.invariant c.in_ok-append_field.ensures

pub returns : goal.returns
returns c =
    let lines = lines_on c.args.side (message_of c.args.message.now) in
    all_kept lines c.loop-index.index (c.args.fields.now ++ kept_fields lines) c.loop-index.fields (omega (arith, c.loop-index-test.false, c.line_count-index-end.ensures)) c.loop-index.invariant
