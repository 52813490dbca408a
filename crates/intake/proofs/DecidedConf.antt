-- A configuration is read, or has one cause to be refused.
use Rattle.std.proofs.Common.{◌≡◌, ℕ, List, [], Option, Some, None, sym, ap, ◌∙◌, arith}
use Rattle.conf.specs.Configuration.{Configuration}
use Rattle.conf.specs.declared.fault.ConfFault.{ConfFault}
use Rattle.intake.specs.Configured.{IsConfText, IsConfTextRefused, IsConfigured, IsConfRefused}
use Rattle.intake.specs.Laws.{IsConfigurationDecided, IsValidWhereConfigured}
use Rattle.intake.specs.Layers.{IsDecisive, ReadsFound, IsFileRefused}
use Rattle.refusals.specs.declared.file.FileRefusal.{FileRefusal}
use Rattle.refusals.specs.declared.file.FileRefusal.TheVariants.{Missing, TooLong, Message, Conf, Script, Recording, Order, TooManyHops, OutOfPlace, TooManyItems, Fields}
use Rattle.intake.proofs.LowerLaws.{one_meaning, one_conf_fault, not_both_conf, valid_where_read}

-- ---- what was found, by its text

module _ {V : Type 0} (Reads : List ℕ → V → Type 0) (Causes : List ℕ → FileRefusal → Type 0) (decided : (text : List ℕ) → IsDecisive (Reads text) (Causes text)) where
  pub found_value : (found : Option (List ℕ)) (v w : V) → ReadsFound Reads found v → ReadsFound Reads found w → v ≡ w
  found_value None v w a b = absurd a
  found_value (Some text) v w a b = (decided text).value v w a b

  pub found_cause : (found : Option (List ℕ)) (c d : FileRefusal) → IsFileRefused Causes found c → IsFileRefused Causes found d → c ≡ d
  found_cause None c d a b = a ∙ sym b
  found_cause (Some text) c d a b = (decided text).cause c d a b

  pub found_either : (found : Option (List ℕ)) (v : V) (c : FileRefusal) → ReadsFound Reads found v → IsFileRefused Causes found c → ⊥
  found_either None v c a b = a
  found_either (Some text) v c a b = (decided text).either v c a b

-- ---- a text of a configuration

text_cause : (text : List ℕ) (c d : FileRefusal) → IsConfTextRefused text c → IsConfTextRefused text d → c ≡ d
text_cause text Missing d a b = absurd a
text_cause text (Message f) d a b = absurd a
text_cause text (Script f) d a b = absurd a
text_cause text (Recording f) d a b = absurd a
text_cause text (Order i) d a b = absurd a
text_cause text (TooManyHops i) d a b = absurd a
text_cause text (OutOfPlace i) d a b = absurd a
text_cause text (TooManyItems i) d a b = absurd a
text_cause text (Fields f) d a b = absurd a
text_cause text (TooLong n) Missing a b = absurd b
text_cause text (TooLong n) (Message g) a b = absurd b
text_cause text (TooLong n) (Script g) a b = absurd b
text_cause text (TooLong n) (Recording g) a b = absurd b
text_cause text (TooLong n) (Order j) a b = absurd b
text_cause text (TooLong n) (TooManyHops j) a b = absurd b
text_cause text (TooLong n) (OutOfPlace j) a b = absurd b
text_cause text (TooLong n) (TooManyItems j) a b = absurd b
text_cause text (TooLong n) (Fields g) a b = absurd b
text_cause text (TooLong n) (TooLong m) a b = ap (λ (limit : ℕ). TooLong limit) (a.0 ∙ sym b.0)
text_cause text (TooLong n) (Conf g) a b = absurd (omega (arith, a.1, b.0))
text_cause text (Conf f) Missing a b = absurd b
text_cause text (Conf f) (Message g) a b = absurd b
text_cause text (Conf f) (Script g) a b = absurd b
text_cause text (Conf f) (Recording g) a b = absurd b
text_cause text (Conf f) (Order j) a b = absurd b
text_cause text (Conf f) (TooManyHops j) a b = absurd b
text_cause text (Conf f) (OutOfPlace j) a b = absurd b
text_cause text (Conf f) (TooManyItems j) a b = absurd b
text_cause text (Conf f) (Fields g) a b = absurd b
text_cause text (Conf f) (TooLong m) a b = absurd (omega (arith, a.0, b.1))
text_cause text (Conf f) (Conf g) a b = ap (λ (h : ConfFault). Conf h) (one_conf_fault text f g a.1 b.1)

text_either : (text : List ℕ) (conf : Configuration) (c : FileRefusal) → IsConfText text conf → IsConfTextRefused text c → ⊥
text_either text conf Missing is c = c
text_either text conf (Message f) is c = c
text_either text conf (Script f) is c = c
text_either text conf (Recording f) is c = c
text_either text conf (Order i) is c = c
text_either text conf (TooManyHops i) is c = c
text_either text conf (OutOfPlace i) is c = c
text_either text conf (TooManyItems i) is c = c
text_either text conf (Fields f) is c = c
text_either text conf (TooLong n) is c = omega (arith, is.0, c.1)
text_either text conf (Conf f) is c = not_both_conf text conf f is.1 c.1

text_decided : (text : List ℕ) → IsDecisive (IsConfText text) (IsConfTextRefused text)
text_decided text = record {
  value = λ v w a b. one_meaning text v w a.1 b.1;
  cause = text_cause text;
  either = text_either text;
}

-- ---- the configuration

conf_value : (name found : Option (List ℕ)) (a b : Configuration) → IsConfigured name found a → IsConfigured name found b → a ≡ b
conf_value None found a b is also = one_meaning [] a b is also
conf_value (Some name) found a b is also = found_value IsConfText IsConfTextRefused text_decided found a b is also

conf_cause : (name found : Option (List ℕ)) (c d : FileRefusal) → IsConfRefused name found c → IsConfRefused name found d → c ≡ d
conf_cause None found c d a b = absurd a
conf_cause (Some name) found c d a b = found_cause IsConfText IsConfTextRefused text_decided found c d a b

conf_either : (name found : Option (List ℕ)) (conf : Configuration) (c : FileRefusal) → IsConfigured name found conf → IsConfRefused name found c → ⊥
conf_either None found conf c is cause = cause
conf_either (Some name) found conf c is cause = found_either IsConfText IsConfTextRefused text_decided found conf c is cause

pub conf_decided : IsConfigurationDecided
conf_decided name found = record { value = conf_value name found; cause = conf_cause name found; either = conf_either name found }

-- it is a valid one
pub is_valid_where_configured : IsValidWhereConfigured
is_valid_where_configured None found conf configured = valid_where_read [] conf configured
is_valid_where_configured (Some name) (Some text) conf configured = valid_where_read text conf configured.1
is_valid_where_configured (Some name) None conf configured = absurd configured
