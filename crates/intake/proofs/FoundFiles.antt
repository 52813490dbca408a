-- A file that is taken, known or not, as what was found.
use Rattle.std.proofs.Common.{◌≡◌, ◌+◌, ◌<◌, ◌≤◌, ℕ, List, [], length, replicate, Option, Some, None, Err, refl, sym, subst, arith}
use Rattle.std.specs.Prelude.{MatchOption}
use Rattle.std.specs.FinMap as map
use Rattle.std.proofs.lemmas.List.{length-replicate}
use Rattle.byte_grammar.specs.Causes.{AnswersWhere}
use Rattle.hms_io.specs.Files.{FileMap, HasFile, HasLongerFile, HasNoFile}
use Rattle.hms_io.specs.declared.whole_file.FileError.{FileError}
use Rattle.hms_io.specs.declared.whole_file.FileError.TheVariants as file
use Rattle.conf.specs.Configuration.{Configuration}
use Rattle.conf.specs.Meaning.{Configures}
use Rattle.conf.specs.Refusals.{IsConfFault}
use Rattle.conf.specs.declared.fault.ConfFault.{ConfFault}
use Rattle.conf.specs.declared.fault.ConfFault.TheVariants as fault
use Rattle.intake.specs.Configured.{IsConfTextRefused, IsConfigured, IsConfRefused}
use Rattle.intake.specs.Files.{IsFound, HasFound}
use Rattle.intake.specs.Layers.{IsFileRefused}
use Rattle.refusals.specs.declared.refusal.TheConstants.{MAX_CONF_BYTES}
use Rattle.refusals.specs.declared.role.Role.{Role}
use Rattle.refusals.specs.declared.role.Role.TheVariants.{Conf as OfConf}
use Rattle.refusals.specs.declared.file.FileRefusal.{FileRefusal}
use Rattle.refusals.specs.declared.file.FileRefusal.TheVariants.{Missing, TooLong, Conf}
use Rattle.refusals.specs.declared.refusal.Refusal.TheVariants.{Of}
use Rattle.intake.specs.Stops.{IfStopped, IsRefusalFor, stop_of_file, stop_of_conf}

pub found_text : (known : Option FileMap) (name text : List ℕ) → HasFile known name text → IsFound known (Some name) (Some text)
found_text None name text has = tt
found_text (Some files) name text has = sym has

found_none : (known : Option FileMap) (name : List ℕ) → HasNoFile known name → IsFound known (Some name) None
found_none None name has = tt
found_none (Some files) name has = sym has

longer_in : (there : Option (List ℕ)) (limit : ℕ) → MatchOption there ⊥ (λ text. limit < length text) → (text : List ℕ) × (Some text ≡ there) × (limit < length text)
longer_in None limit is = absurd is
longer_in (Some text) limit is = (text, refl, is)

found_longer : (known : Option FileMap) (name : List ℕ) (limit : ℕ) → HasLongerFile known name limit
    → (text : List ℕ) × IsFound known (Some name) (Some text) × (limit < length text)
found_longer None name limit has = (replicate (limit + 1) 0, tt, rw (length-replicate {A = ℕ} (limit + 1) 0) (omega arith))
found_longer (Some files) name limit has = longer_in (map.get files name) limit has

-- why the file of a role isn't taken
module _ (role : Role) (limit : ℕ) (Causes : List ℕ → FileRefusal → Type 0) (long : (text : List ℕ) → limit < length text → Causes text (TooLong limit)) where
  pub file_stop : (known : Option FileMap) (name : List ℕ) (error : FileError)
      → (error ≡ file.TooLong → HasLongerFile known name limit) → (error ≡ file.Missing → HasNoFile known name)
      → IfStopped (stop_of_file role limit error)
      (λ refusal. HasFound known (Some name) (λ found. IsRefusalFor (IsFileRefused Causes found) (λ cause. Of role cause) refusal))
  file_stop known name file.Memory longer missing = tt
  file_stop known name file.Failed longer missing = tt
  file_stop known name file.TooLong longer missing =
      let text = found_longer known name limit (longer refl) in
      record { found = Some text.0; known = text.1; holds = (TooLong limit, long text.0 text.2, refl) }
  file_stop known name file.Missing longer missing =
      record { found = None; known = found_none known name (missing refl); holds = (Missing, refl, refl) }

-- the same of a configuration's
pub conf_file_stop : (known : Option FileMap) (name : List ℕ) (error : FileError)
    → (error ≡ file.TooLong → HasLongerFile known name MAX_CONF_BYTES) → (error ≡ file.Missing → HasNoFile known name)
    → IfStopped (stop_of_file OfConf MAX_CONF_BYTES error)
    (λ refusal. HasFound known (Some name) (λ found. IsRefusalFor (IsConfRefused (Some name) found) (λ cause. Of OfConf cause) refusal))
conf_file_stop = file_stop OfConf MAX_CONF_BYTES IsConfTextRefused (λ text long. (refl, long))

fault_file : (known : Option FileMap) (name text : List ℕ) (f : ConfFault) → HasFile known name text → length text ≤ MAX_CONF_BYTES → IsConfFault text f
    → HasFound known (Some name) (λ found. IsRefusalFor (IsConfRefused (Some name) found) (λ cause. Of OfConf cause) (Of OfConf (Conf f)))
fault_file known name text f has short is =
    record { found = Some text; known = found_text known name text has; holds = (Conf f, (short, is), refl) }

-- why its text is no configuration
text_stop : {T : Type 0} (known : Option FileMap) (name text : List ℕ) (f : ConfFault) → HasFile known name text → length text ≤ MAX_CONF_BYTES
    → ((e : ConfFault) → ¬ (e ≡ fault.Memory) → AnswersWhere {T = T} fault.Memory (Err f) e (IsConfFault text e))
    → IfStopped (stop_of_conf f)
    (λ refusal. HasFound known (Some name) (λ found. IsRefusalFor (IsConfRefused (Some name) found) (λ cause. Of OfConf cause) refusal))
text_stop known name text fault.Memory has short faults = tt
text_stop known name text fault.NotToml has short faults = fault_file known name text fault.NotToml has short ((faults fault.NotToml (λ e. absurd (cc e))).only refl)
text_stop known name text (fault.UnknownKey p) has short faults = fault_file known name text (fault.UnknownKey p) has short ((faults (fault.UnknownKey p) (λ e. absurd (cc e))).only refl)
text_stop known name text (fault.WrongType p) has short faults = fault_file known name text (fault.WrongType p) has short ((faults (fault.WrongType p) (λ e. absurd (cc e))).only refl)
text_stop known name text (fault.OutOfRange p) has short faults = fault_file known name text (fault.OutOfRange p) has short ((faults (fault.OutOfRange p) (λ e. absurd (cc e))).only refl)
text_stop known name text (fault.BadKeyText p) has short faults = fault_file known name text (fault.BadKeyText p) has short ((faults (fault.BadKeyText p) (λ e. absurd (cc e))).only refl)
text_stop known name text (fault.BadComponents p) has short faults = fault_file known name text (fault.BadComponents p) has short ((faults (fault.BadComponents p) (λ e. absurd (cc e))).only refl)
text_stop known name text (fault.BadScript p) has short faults = fault_file known name text (fault.BadScript p) has short ((faults (fault.BadScript p) (λ e. absurd (cc e))).only refl)
text_stop known name text (fault.Missing p) has short faults = fault_file known name text (fault.Missing p) has short ((faults (fault.Missing p) (λ e. absurd (cc e))).only refl)

-- the same, of an equal text
pub conf_stop : {T : Type 0} (known : Option FileMap) (name text read : List ℕ) (f : ConfFault) → read ≡ text → HasFile known name text → length text ≤ MAX_CONF_BYTES
    → ((e : ConfFault) → ¬ (e ≡ fault.Memory) → AnswersWhere {T = T} fault.Memory (Err f) e (IsConfFault read e))
    → IfStopped (stop_of_conf f)
    (λ refusal. HasFound known (Some name) (λ found. IsRefusalFor (IsConfRefused (Some name) found) (λ cause. Of OfConf cause) refusal))
conf_stop {T} known name text read f same has short faults =
    text_stop {T = T} known name text f has short
    (subst (λ (t : List ℕ). (e : ConfFault) → ¬ (e ≡ fault.Memory) → AnswersWhere {T = T} fault.Memory (Err f) e (IsConfFault t e)) same faults)

-- a configuration that is read
pub configured_by : (known : Option FileMap) (name text read : List ℕ) (conf : Configuration) → read ≡ text → HasFile known name text → length text ≤ MAX_CONF_BYTES → Configures read conf
    → HasFound known (Some name) (λ found. IsConfigured (Some name) found conf)
configured_by known name text read conf same has short is =
    record { found = Some text; known = found_text known name text has; holds = (short, subst (λ (t : List ℕ). Configures t conf) same is) }

pub configured_without : (known : Option FileMap) (conf : Configuration) → Configures [] conf → HasFound known None (λ found. IsConfigured None found conf)
configured_without known conf is = record { found = None; known = tt; holds = is }
