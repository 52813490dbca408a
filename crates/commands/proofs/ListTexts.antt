-- Texts of lists of fields as inputs of `lists`.
use Rattle.std.proofs.Common.{◌≡◌, ◌≤◌, ℕ, inl, inr, List, length, Err, refl, sym, ap, ◌∙◌, arith}
use Rattle.std.proofs.lemmas.Bool.{cases_lt}
use Rattle.byte_grammar.specs.Causes.{AnswersWhere}
use Rattle.conf.specs.Configuration.{Configuration}
use Rattle.list_texts.specs.Causes.{IsFieldsFault}
use Rattle.list_texts.specs.declared.fault.FieldsFault.{FieldsFault}
use Rattle.list_texts.specs.declared.fault.FieldsFault.TheVariants as fault
use Rattle.list_texts.specs.declared.list.FieldList.{FieldList}
use Rattle.commands.specs.Laws.{IsListDecided, HasList}
use Rattle.commands.specs.Lists.{IsListText, IsListRefused, ReportsIntoMessage}
use Rattle.intake.specs.Stops.{stop_of_fields}
use Rattle.commands.specs.Outcome.{IfOutcome}
use Rattle.refusals.specs.declared.file.FileRefusal.{FileRefusal}
use Rattle.refusals.specs.declared.file.FileRefusal.TheVariants.{Missing, TooLong, Message, Conf, Script, Recording, Order, TooManyHops, OutOfPlace, TooManyItems, Fields}
use Rattle.refusals.specs.declared.refusal.TheConstants.{MAX_INPUT_BYTES}
use Rattle.commands.proofs.LowerLists.{list_or_fault, one_list, one_fields_fault, no_fault_of_list}

-- ---- it is one list, or has one cause to be refused

list_cause : (input : List ℕ) (c d : FileRefusal) → IsListRefused input c → IsListRefused input d → c ≡ d
list_cause input Missing d a b = absurd a
list_cause input (Message f) d a b = absurd a
list_cause input (Conf f) d a b = absurd a
list_cause input (Script f) d a b = absurd a
list_cause input (Recording f) d a b = absurd a
list_cause input (Order i) d a b = absurd a
list_cause input (TooManyHops i) d a b = absurd a
list_cause input (OutOfPlace i) d a b = absurd a
list_cause input (TooManyItems i) d a b = absurd a
list_cause input (TooLong n) Missing a b = absurd b
list_cause input (TooLong n) (Message g) a b = absurd b
list_cause input (TooLong n) (Conf g) a b = absurd b
list_cause input (TooLong n) (Script g) a b = absurd b
list_cause input (TooLong n) (Recording g) a b = absurd b
list_cause input (TooLong n) (Order j) a b = absurd b
list_cause input (TooLong n) (TooManyHops j) a b = absurd b
list_cause input (TooLong n) (OutOfPlace j) a b = absurd b
list_cause input (TooLong n) (TooManyItems j) a b = absurd b
list_cause input (TooLong n) (TooLong m) a b = ap (λ (limit : ℕ). TooLong limit) (a.0 ∙ sym b.0)
list_cause input (TooLong n) (Fields g) a b = absurd (omega (arith, a.1, b.0))
list_cause input (Fields f) Missing a b = absurd b
list_cause input (Fields f) (Message g) a b = absurd b
list_cause input (Fields f) (Conf g) a b = absurd b
list_cause input (Fields f) (Script g) a b = absurd b
list_cause input (Fields f) (Recording g) a b = absurd b
list_cause input (Fields f) (Order j) a b = absurd b
list_cause input (Fields f) (TooManyHops j) a b = absurd b
list_cause input (Fields f) (OutOfPlace j) a b = absurd b
list_cause input (Fields f) (TooManyItems j) a b = absurd b
list_cause input (Fields f) (TooLong m) a b = absurd (omega (arith, a.0, b.1))
list_cause input (Fields f) (Fields g) a b = ap (λ (h : FieldsFault). Fields h) (one_fields_fault input f g a.1 b.1)

list_either : (input : List ℕ) (list : FieldList) (c : FileRefusal) → IsListText input list → IsListRefused input c → ⊥
list_either input list Missing is c = c
list_either input list (Message f) is c = c
list_either input list (Conf f) is c = c
list_either input list (Script f) is c = c
list_either input list (Recording f) is c = c
list_either input list (Order i) is c = c
list_either input list (TooManyHops i) is c = c
list_either input list (OutOfPlace i) is c = c
list_either input list (TooManyItems i) is c = c
list_either input list (TooLong n) is c = let within = is.within in omega (arith, within, c.1)
list_either input list (Fields f) is c = no_fault_of_list input list f is.spells c.1

pub list_decided : IsListDecided
list_decided input = record {
  value = λ a b is also. one_list input a b is.spells also.spells;
  cause = list_cause input;
  either = list_either input;
}

pub has_list : HasList
has_list input bytes = elim (cases_lt MAX_INPUT_BYTES (length input)) [
  | inl long ↦ inr (TooLong MAX_INPUT_BYTES, (refl, long))
  | inr short ↦ elim (list_or_fault input) [
    | inl found ↦ inl (found.0, record { are_bytes = bytes; within = short; spells = found.1 })
    | inr f ↦ inr (Fields f.0, (short, f.1))
  ]
]

-- ---- why it isn't read

pub list_stop : {T : Type 0} (conf : Configuration) (input : List ℕ) (f : FieldsFault) → length input ≤ MAX_INPUT_BYTES
    → ((e : FieldsFault) → ¬ (e ≡ fault.Memory) → AnswersWhere {T = T} fault.Memory (Err f) e (IsFieldsFault input e))
    → IfOutcome (Err (stop_of_fields f)) (ReportsIntoMessage conf input)
list_stop conf input fault.Memory short faults = tt
list_stop conf input (fault.Syntax n) short faults = inr (Fields (fault.Syntax n), (short, (faults (fault.Syntax n) (λ e. absurd (cc e))).only refl), refl)
list_stop conf input (fault.TooLong n) short faults = inr (Fields (fault.TooLong n), (short, (faults (fault.TooLong n) (λ e. absurd (cc e))).only refl), refl)
