use Rattle.std.proofs.Common.{◌≡◌, true, take}
use Rattle.std.specs.List.{list_all}
use Rattle.msg_body.specs.Views.{message_of, message_content}
use Rattle.content_digest.specs.Digests.{agrees}
use Rattle.content_digest.proofs.check.check_members.Given as goal

abbrev pub invariant-loop-member : goal.invariant-loop-member
invariant-loop-member l = list_all (agrees (message_content (message_of l.fn.view))) (take l.member-index l.members) ≡ true
