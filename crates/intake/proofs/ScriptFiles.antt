-- A script in a file: it is read, and there is one, or one cause to refuse it.
use Rattle.std.proofs.Common.{◌≡◌, ◌≤◌, ℕ, List, [], length, Option, Some, None, Err, inl, inr, refl, sym, ap, subst, ◌∙◌, arith}
use Rattle.std.specs.Prelude.{IsTrue}
use Rattle.std.specs.List.{list_all}
use Rattle.std.proofs.lemmas.Bool.{cases_lt}
use Rattle.byte_grammar.specs.Causes.{AnswersWhere}
use Rattle.hms_io.specs.Files.{FileMap, HasFile, HasLongerFile, HasNoFile}
use Rattle.hms_io.specs.declared.whole_file.FileError.{FileError}
use Rattle.hms_io.specs.declared.whole_file.FileError.TheVariants as file
use Rattle.rewrite_script.specs.Causes.{IsScriptFault}
use Rattle.rewrite_script.specs.Lines.{is_writable}
use Rattle.rewrite_script.specs.Scripts.{HaveValues, SpellsScript}
use Rattle.rewrite_script.specs.declared.fault.ScriptFault.{ScriptFault}
use Rattle.rewrite_script.specs.declared.fault.ScriptFault.TheVariants as fault
use Rattle.rewrite_script.specs.declared.rewrite.Rewrite.{Rewrite}
use Rattle.rewrite_script.proofs.ScriptLaws.{has_script_or_fault, one_script, one_script_fault, no_fault_of_script}
use Rattle.intake.specs.Files.{HasFound}
use Rattle.intake.specs.Laws.{IsScriptDecided, HasScript, HaveValuesWhereScripted, IsWritableWhereScripted}
use Rattle.intake.specs.Layers.{IsDecisive, HasAnswer}
use Rattle.intake.specs.Scripts.{IsScriptText, IsScriptTextRefused, IsScripted, IsScriptRefused}
use Rattle.intake.specs.Stops.{IfStopped, IsRefusalFor, stop_of_file, stop_of_script}
use Rattle.rewrite_script.specs.declared.limits.TheConstants.{MAX_SCRIPT_BYTES}
use Rattle.refusals.specs.declared.role.Role.TheVariants.{Script as OfScript}
use Rattle.refusals.specs.declared.file.FileRefusal.{FileRefusal}
use Rattle.refusals.specs.declared.file.FileRefusal.TheVariants.{Missing, TooLong, Message, Conf, Script, Recording, Order, TooManyHops, OutOfPlace, TooManyItems, Fields}
use Rattle.refusals.specs.declared.refusal.Refusal.TheVariants.{Of}
use Rattle.intake.proofs.Answered.{found_answer}
use Rattle.intake.proofs.DecidedConf.{found_value, found_cause, found_either}
use Rattle.intake.proofs.FoundFiles.{file_stop, found_text}

-- why its file isn't taken
pub script_file_stop : (known : Option FileMap) (name : List ℕ) (error : FileError)
    → (error ≡ file.TooLong → HasLongerFile known name MAX_SCRIPT_BYTES) → (error ≡ file.Missing → HasNoFile known name)
    → IfStopped (stop_of_file OfScript MAX_SCRIPT_BYTES error)
    (λ refusal. HasFound known (Some name) (λ found. IsRefusalFor (IsScriptRefused (Some name) found) (λ cause. Of OfScript cause) refusal))
script_file_stop = file_stop OfScript MAX_SCRIPT_BYTES IsScriptTextRefused (λ text long. (refl, long))

fault_file : (known : Option FileMap) (name text : List ℕ) (f : ScriptFault) → HasFile known name text → length text ≤ MAX_SCRIPT_BYTES → IsScriptFault text f
    → HasFound known (Some name) (λ found. IsRefusalFor (IsScriptRefused (Some name) found) (λ cause. Of OfScript cause) (Of OfScript (Script f)))
fault_file known name text f has short is =
    record { found = Some text; known = found_text known name text has; holds = (Script f, (short, is), refl) }

-- why its text is no script
text_stop : {T : Type 0} (known : Option FileMap) (name text : List ℕ) (f : ScriptFault) → HasFile known name text → length text ≤ MAX_SCRIPT_BYTES
    → ((e : ScriptFault) → ¬ (e ≡ fault.Memory) → AnswersWhere {T = T} fault.Memory (Err f) e (IsScriptFault text e))
    → IfStopped (stop_of_script f)
    (λ refusal. HasFound known (Some name) (λ found. IsRefusalFor (IsScriptRefused (Some name) found) (λ cause. Of OfScript cause) refusal))
text_stop known name text fault.Memory has short faults = tt
text_stop known name text fault.TooMany has short faults = fault_file known name text fault.TooMany has short ((faults fault.TooMany (λ e. absurd (cc e))).only refl)
text_stop known name text (fault.BadLine i) has short faults = fault_file known name text (fault.BadLine i) has short ((faults (fault.BadLine i) (λ e. absurd (cc e))).only refl)

-- the same, of an equal text
pub script_stop : {T : Type 0} (known : Option FileMap) (name text read : List ℕ) (f : ScriptFault) → read ≡ text → HasFile known name text → length text ≤ MAX_SCRIPT_BYTES
    → ((e : ScriptFault) → ¬ (e ≡ fault.Memory) → AnswersWhere {T = T} fault.Memory (Err f) e (IsScriptFault read e))
    → IfStopped (stop_of_script f)
    (λ refusal. HasFound known (Some name) (λ found. IsRefusalFor (IsScriptRefused (Some name) found) (λ cause. Of OfScript cause) refusal))
script_stop {T} known name text read f same has short faults =
    text_stop {T = T} known name text f has short
    (subst (λ (t : List ℕ). (e : ScriptFault) → ¬ (e ≡ fault.Memory) → AnswersWhere {T = T} fault.Memory (Err f) e (IsScriptFault t e)) same faults)

-- a script that is read
pub scripted_by : (known : Option FileMap) (name text read : List ℕ) (script : List Rewrite) → read ≡ text → HasFile known name text → length text ≤ MAX_SCRIPT_BYTES → SpellsScript read script
    → HasFound known (Some name) (λ found. IsScripted (Some name) found script)
scripted_by known name text read script same has short is =
    record { found = Some text; known = found_text known name text has; holds = (short, subst (λ (t : List ℕ). SpellsScript t script) same is) }

-- that without steps
pub scripted_without : (known : Option FileMap) (script : List Rewrite) → script ≡ [] → HasFound known None (λ found. IsScripted None found script)
scripted_without known script none = record { found = None; known = tt; holds = none }

-- ---- there is one, or one cause to refuse it

text_cause : (text : List ℕ) (c d : FileRefusal) → IsScriptTextRefused text c → IsScriptTextRefused text d → c ≡ d
text_cause text Missing d a b = absurd a
text_cause text (Message f) d a b = absurd a
text_cause text (Conf f) d a b = absurd a
text_cause text (Recording f) d a b = absurd a
text_cause text (Order i) d a b = absurd a
text_cause text (TooManyHops i) d a b = absurd a
text_cause text (OutOfPlace i) d a b = absurd a
text_cause text (TooManyItems i) d a b = absurd a
text_cause text (Fields f) d a b = absurd a
text_cause text (TooLong n) Missing a b = absurd b
text_cause text (TooLong n) (Message g) a b = absurd b
text_cause text (TooLong n) (Conf g) a b = absurd b
text_cause text (TooLong n) (Recording g) a b = absurd b
text_cause text (TooLong n) (Order j) a b = absurd b
text_cause text (TooLong n) (TooManyHops j) a b = absurd b
text_cause text (TooLong n) (OutOfPlace j) a b = absurd b
text_cause text (TooLong n) (TooManyItems j) a b = absurd b
text_cause text (TooLong n) (Fields g) a b = absurd b
text_cause text (TooLong n) (TooLong m) a b = ap (λ (limit : ℕ). TooLong limit) (a.0 ∙ sym b.0)
text_cause text (TooLong n) (Script g) a b = absurd (omega (arith, a.1, b.0))
text_cause text (Script f) Missing a b = absurd b
text_cause text (Script f) (Message g) a b = absurd b
text_cause text (Script f) (Conf g) a b = absurd b
text_cause text (Script f) (Recording g) a b = absurd b
text_cause text (Script f) (Order j) a b = absurd b
text_cause text (Script f) (TooManyHops j) a b = absurd b
text_cause text (Script f) (OutOfPlace j) a b = absurd b
text_cause text (Script f) (TooManyItems j) a b = absurd b
text_cause text (Script f) (Fields g) a b = absurd b
text_cause text (Script f) (TooLong m) a b = absurd (omega (arith, a.0, b.1))
text_cause text (Script f) (Script g) a b = ap (λ (h : ScriptFault). Script h) (one_script_fault text f g a.1 b.1)

text_either : (text : List ℕ) (script : List Rewrite) (c : FileRefusal) → IsScriptText text script → IsScriptTextRefused text c → ⊥
text_either text script Missing is c = c
text_either text script (Message f) is c = c
text_either text script (Conf f) is c = c
text_either text script (Recording f) is c = c
text_either text script (Order i) is c = c
text_either text script (TooManyHops i) is c = c
text_either text script (OutOfPlace i) is c = c
text_either text script (TooManyItems i) is c = c
text_either text script (Fields f) is c = c
text_either text script (TooLong n) is c = omega (arith, is.0, c.1)
text_either text script (Script f) is c = no_fault_of_script text script f is.1 c.1

text_decided : (text : List ℕ) → IsDecisive (IsScriptText text) (IsScriptTextRefused text)
text_decided text = record {
  value = λ v w a b. one_script text v w a.1 b.1;
  cause = text_cause text;
  either = text_either text;
}

script_value : (name found : Option (List ℕ)) (a b : List Rewrite) → IsScripted name found a → IsScripted name found b → a ≡ b
script_value None found a b is also = is ∙ sym also
script_value (Some name) found a b is also = found_value IsScriptText IsScriptTextRefused text_decided found a b is also

script_cause : (name found : Option (List ℕ)) (c d : FileRefusal) → IsScriptRefused name found c → IsScriptRefused name found d → c ≡ d
script_cause None found c d a b = absurd a
script_cause (Some name) found c d a b = found_cause IsScriptText IsScriptTextRefused text_decided found c d a b

script_either : (name found : Option (List ℕ)) (script : List Rewrite) (c : FileRefusal) → IsScripted name found script → IsScriptRefused name found c → ⊥
script_either None found script c is cause = cause
script_either (Some name) found script c is cause = found_either IsScriptText IsScriptTextRefused text_decided found script c is cause

pub script_decided : IsScriptDecided
script_decided name found = record { value = script_value name found; cause = script_cause name found; either = script_either name found }

text_answer : (text : List ℕ) → HasAnswer (IsScriptText text) (IsScriptTextRefused text)
text_answer text = elim (cases_lt MAX_SCRIPT_BYTES (length text)) [
  | inl long ↦ inr (TooLong MAX_SCRIPT_BYTES, (refl, long))
  | inr short ↦ elim (has_script_or_fault text) [
    | inl script ↦ inl (script.0, (short, script.1))
    | inr f ↦ inr (Script f.0, (short, f.1))
  ]
]

pub has_script : HasScript
has_script None found = inl ([], refl)
has_script (Some name) found = found_answer IsScriptText IsScriptTextRefused text_answer found

found_writable : (found : Option (List ℕ)) (name : List ℕ) (script : List Rewrite) → IsScripted (Some name) found script → IsTrue (list_all is_writable script)
found_writable None name script is = absurd is
found_writable (Some text) name script is = is.1.writable

-- lines can write it
pub is_writable_where_scripted : IsWritableWhereScripted
is_writable_where_scripted None found script is = subst (λ (s : List Rewrite). IsTrue (list_all is_writable s)) (sym is) refl
is_writable_where_scripted (Some name) found script is = found_writable found name script is

found_values : (found : Option (List ℕ)) (name : List ℕ) (script : List Rewrite) → IsScripted (Some name) found script → HaveValues script
found_values None name script is = absurd is
found_values (Some text) name script is = is.1.values

-- its words have values
pub have_values_where_scripted : HaveValuesWhereScripted
have_values_where_scripted None found script is = subst (λ (s : List Rewrite). HaveValues s) (sym is) tt
have_values_where_scripted (Some name) found script is = found_values found name script is
