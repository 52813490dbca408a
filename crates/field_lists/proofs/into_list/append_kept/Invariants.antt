use Rattle.std.proofs.Common.{◌≡◌, ◌++◌, drop}
use Rattle.msg_body.specs.Views.{lines_on, message_of}
use Rattle.field_lists.specs.FromMessages.{kept_fields}
use Rattle.field_lists.proofs.into_list.append_kept.Given as goal

abbrev pub invariant-loop-index : goal.invariant-loop-index
invariant-loop-index l =
    let lines = lines_on l.side (message_of l.message) in
    l.fields ++ kept_fields (drop l.index lines) ≡ l.initial.fields ++ kept_fields lines
