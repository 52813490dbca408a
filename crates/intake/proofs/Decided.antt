-- An input is one message, or has one cause to be refused.
use Rattle.std.proofs.Common.{◌≡◌, ℕ, List, sym, ap, ◌∙◌, arith}
use Rattle.msg_body.specs.Messages.{Message}
use Rattle.msg_body.specs.declared.error.MessageFault.{MessageFault}
use Rattle.msg_body.specs.declared.whole.Reading.{Reading}
use Rattle.refusals.specs.declared.file.FileRefusal.{FileRefusal}
use Rattle.refusals.specs.declared.file.FileRefusal.TheVariants.{Missing, TooLong, Message as NoMessage, Conf, Script, Recording, Order, TooManyHops, OutOfPlace, TooManyItems, Fields}
use Rattle.intake.specs.Laws.{IsInputDecided}
use Rattle.intake.specs.Messages.{IsInputMessage, IsInputRefused}
use Rattle.intake.proofs.LowerLaws.{one_text, one_message_fault, text_no_fault}

input_cause : (r : Reading) (input : List ℕ) (c d : FileRefusal) → IsInputRefused r input c → IsInputRefused r input d → c ≡ d
input_cause r input Missing d a b = absurd a
input_cause r input (Conf f) d a b = absurd a
input_cause r input (Script f) d a b = absurd a
input_cause r input (Recording f) d a b = absurd a
input_cause r input (Order i) d a b = absurd a
input_cause r input (TooManyHops i) d a b = absurd a
input_cause r input (OutOfPlace i) d a b = absurd a
input_cause r input (TooManyItems i) d a b = absurd a
input_cause r input (Fields f) d a b = absurd a
input_cause r input (TooLong n) Missing a b = absurd b
input_cause r input (TooLong n) (Conf g) a b = absurd b
input_cause r input (TooLong n) (Script g) a b = absurd b
input_cause r input (TooLong n) (Recording g) a b = absurd b
input_cause r input (TooLong n) (Order j) a b = absurd b
input_cause r input (TooLong n) (TooManyHops j) a b = absurd b
input_cause r input (TooLong n) (OutOfPlace j) a b = absurd b
input_cause r input (TooLong n) (TooManyItems j) a b = absurd b
input_cause r input (TooLong n) (Fields g) a b = absurd b
input_cause r input (TooLong n) (TooLong m) a b = ap (λ (limit : ℕ). TooLong limit) (a.0 ∙ sym b.0)
input_cause r input (TooLong n) (NoMessage g) a b = absurd (omega (arith, a.1, b.0))
input_cause r input (NoMessage f) Missing a b = absurd b
input_cause r input (NoMessage f) (Conf g) a b = absurd b
input_cause r input (NoMessage f) (Script g) a b = absurd b
input_cause r input (NoMessage f) (Recording g) a b = absurd b
input_cause r input (NoMessage f) (Order j) a b = absurd b
input_cause r input (NoMessage f) (TooManyHops j) a b = absurd b
input_cause r input (NoMessage f) (OutOfPlace j) a b = absurd b
input_cause r input (NoMessage f) (TooManyItems j) a b = absurd b
input_cause r input (NoMessage f) (Fields g) a b = absurd b
input_cause r input (NoMessage f) (TooLong m) a b = absurd (omega (arith, a.0, b.1))
input_cause r input (NoMessage f) (NoMessage g) a b = ap (λ (h : MessageFault). NoMessage h) (one_message_fault r input f g a.1 b.1)

input_either : (r : Reading) (input : List ℕ) (message : Message) (c : FileRefusal) → IsInputMessage r input message → IsInputRefused r input c → ⊥
input_either r input message Missing is c = c
input_either r input message (Conf f) is c = c
input_either r input message (Script f) is c = c
input_either r input message (Recording f) is c = c
input_either r input message (Order i) is c = c
input_either r input message (TooManyHops i) is c = c
input_either r input message (OutOfPlace i) is c = c
input_either r input message (TooManyItems i) is c = c
input_either r input message (Fields f) is c = c
input_either r input message (TooLong n) is c = let within = is.within in omega (arith, within, c.1)
input_either r input message (NoMessage f) is c = text_no_fault r input message f is.whole c.1

pub input_decided : IsInputDecided
input_decided r input = record {
  value = λ a b is also. one_text r.to_head input a b is.whole.spells also.whole.spells;
  cause = input_cause r input;
  either = input_either r input;
}
