use Rattle.std.proofs.Common.{◌≡◌, ◌++◌, map, take}
use Rattle.std.specs.List.{flat_map}
use Rattle.msg_head.specs.Lines.{line_text}
use Rattle.field_lists.specs.ToMessages.{line_of_field}
use Rattle.field_lists.proofs.into_message.append_lines.Given as goal

abbrev pub invariant-loop-field : goal.invariant-loop-field
invariant-loop-field l = l.text ≡ l.initial.text ++ flat_map line_text (map line_of_field (take l.field-index l.fields))
