-- A list is turned into one message or has one fault.
use Rattle.std.proofs.Common.{sym, ◌∙◌, inl, inr}
use Rattle.field_lists.specs.declared.to_fault.ToFault.TheVariants.{Pseudo}
use Rattle.field_lists.specs.Laws.{HasMessageOrFault, OneMessage, OneToFault}
use Rattle.field_lists.specs.ToMessages.{message_with}
use Rattle.field_lists.proofs.ControlOrNone.{allowed_or_not, begins_or_none, not_allowed}
use Rattle.field_lists.proofs.Judging.{judged, no_control, one_fault}
use Rattle.field_lists.proofs.PseudoLaws.{one_pseudo}

pub has_message_or_fault : HasMessageOrFault
has_message_or_fault list scheme = elim (begins_or_none list.fields) [
  | inr none ↦ inr (Pseudo, no_control list scheme (λ control others is. none control others is.begins))
  | inl found ↦ elim (allowed_or_not found.0) [
    | inl allowed ↦ judged list scheme found.0 found.1 (record { begins = found.2; allowed = allowed })
    | inr refused ↦ inr (Pseudo, no_control list scheme (not_allowed list found.0 found.1 found.2 refused))
  ]
]

pub one_message : OneMessage
one_message list scheme message other one two =
    let same = one_pseudo list.fields one.control two.control one.others two.others one.is_of.begins two.is_of.begins in
    one.is ∙ ((λ i. message_with (same.0 i) (same.1 i) list) ∙ sym two.is)

pub one_to_fault : OneToFault
one_to_fault list scheme fault other one two = one_fault list scheme fault other one two
