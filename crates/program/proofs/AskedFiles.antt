-- How many files are asked for.
use Rattle.std.proofs.Common.{◌≡◌, ◌+◌, ◌≤◌, ◌∙◌, inl, inr, arith, ℕ, List, [], ◌∷◌, Option, Some, None, Result, Ok, Err, refl, sym, ap, subst}
use Rattle.std.specs.Prelude.{option_map}
use Rattle.hms_io.specs.Files.{FileMap}
use Rattle.hms_io.specs.declared.read_write.FillError.{FillError}
use Rattle.hms_io.specs.declared.read_write.FillError.TheVariants.{Memory as NoFillMemory, Failed, TooLong as Longer}
use Rattle.hms_io.specs.declared.status.Status.{Status}
use Rattle.command_line.specs.Command.{CommandLine, IsCommand}
use Rattle.intake.specs.Files.{FileNames, FileRole, Conf, Request, Wanted, Script, HasFound, file_count, file_names}
use Rattle.intake.specs.Stops.{IfStopped, IsRefusalFor, stop_of_fill}
use Rattle.commands.specs.Outcome.{refusal_of, IfOutcome}
use Rattle.commands.specs.declared.outcome.Outcome.{Outcome}
use Rattle.commands.specs.declared.outcome.Outcome.TheVariants.{Done, NotOk, Refused}
use Rattle.intake.specs.declared.stop.Stop.{Stop}
use Rattle.intake.specs.declared.stop.Stop.TheVariants.{Memory, ReadFault, Refused as IsRefused}
use Rattle.refusals.specs.declared.file.FileRefusal.{FileRefusal}
use Rattle.refusals.specs.declared.refusal.TheConstants.{MAX_CONF_BYTES}
use Rattle.refusals.specs.declared.refusal.Refusal.{Refusal}
use Rattle.refusals.specs.declared.refusal.Refusal.TheVariants.{Arguments, Of, Command}
use Rattle.refusals.specs.declared.role.Role.{Role}
use Rattle.refusals.specs.declared.role.Role.TheVariants as role
use Rattle.program.specs.Commands.{name_of}
use Rattle.program.specs.Ends.{AsksFor, AsksForNamed}
use Rattle.program.specs.Intake.{named_count, read_order, roles_until}
use Rattle.intake.specs.declared.taken.FileWords.{FileWords}
use Rattle.program.specs.tools.Parts.{Asks, AsksOf, AsksOne, AsksUntil, IsAfterInput, conf_names, IsWritten, IsWrittenStop, roles_read}
use Rattle.program.proofs.Reports.{IfRefusedFor, of_command, one_counted, weighed}

-- ---- until an outcome

-- a run that is refused by a file of this role, after so many files
pub asked_until : (shelf : Option FileMap) (words : FileWords) (which : FileRole) (Causes : Option (List ℕ) → Option (List ℕ) → FileRefusal → Type 0) (own : Role) (stop : Stop) → IfRefusedFor shelf words which Causes own stop
    → (roles : List FileRole) → ((cause : FileRefusal) → roles_until (Of own cause) ≡ roles) → (names : FileNames) (before now : ℕ) → now ≤ before + named_count names roles → AsksUntil names (Err stop) before now
asked_until shelf words which Causes own Memory has roles until names before now is = tt
asked_until shelf words which Causes own ReadFault has roles until names before now is = tt
asked_until shelf words which Causes own (IsRefused refusal) has roles until names before now is =
    let cause = has.holds in
    let same : roles_until refusal ≡ roles = ap roles_until cause.2 ∙ until cause.0 in
    subst (λ (rs : List FileRole). now ≤ before + named_count names rs) (sym same) is

pub until_conf : (cause : FileRefusal) → roles_until (Of role.Conf cause) ≡ Conf ∷ []
until_conf cause = refl

pub until_request : (cause : FileRefusal) → roles_until (Of role.Request cause) ≡ Conf ∷ Request ∷ []
until_request cause = refl

pub until_wanted : (cause : FileRefusal) → roles_until (Of role.Wanted cause) ≡ Conf ∷ Request ∷ Wanted ∷ []
until_wanted cause = refl

pub until_script : (cause : FileRefusal) → roles_until (Of role.Script cause) ≡ Conf ∷ Request ∷ Wanted ∷ Script ∷ []
until_script cause = refl

-- ---- once all files are read

pub fill_late : (limit : ℕ) (error : FillError) → IfOutcome (Err (stop_of_fill limit error)) (λ outcome. roles_read outcome ≡ read_order)
fill_late limit NoFillMemory = tt
fill_late limit Failed = tt
fill_late limit Longer = refl

-- where the other record is refused
pub record_late : (P : Option (List ℕ) → FileRefusal → Type 0) (shelf : Option FileMap) (name : Option (List ℕ)) (stop : Stop)
    → IfStopped stop (λ refusal. HasFound shelf name (λ found. IsRefusalFor (P found) (λ cause. Of role.Other cause) refusal)) → IfOutcome (Err stop) (λ outcome. roles_read outcome ≡ read_order)
record_late P shelf name Memory has = tt
record_late P shelf name ReadFault has = tt
record_late P shelf name (IsRefused refusal) has = ap roles_until has.holds.2

late : (outcome : Outcome) → IsAfterInput outcome → roles_read outcome ≡ read_order
late (Done text) after = refl
late (NotOk text) after = refl
late (Refused Arguments) after = refl
late (Refused (Of role.Conf r)) after = absurd after
late (Refused (Of role.Request r)) after = absurd after
late (Refused (Of role.Wanted r)) after = absurd after
late (Refused (Of role.Script r)) after = absurd after
late (Refused (Of role.Other r)) after = absurd after
late (Refused (Of role.Input r)) after = refl
late (Refused (Of (role.Item n) r)) after = refl
late (Refused (Command r)) after = refl

pub answer_late : (result : Result Outcome Stop) → IfOutcome result IsAfterInput → IfOutcome result (λ outcome. roles_read outcome ≡ read_order)
answer_late (Ok outcome) after = late outcome after
answer_late (Err Memory) after = tt
answer_late (Err ReadFault) after = tt
answer_late (Err (IsRefused refusal)) after = late (Refused refusal) after

pub late_asked : (names : FileNames) (before now : ℕ) → now ≤ before + file_count names → (result : Result Outcome Stop) → IfOutcome result (λ outcome. roles_read outcome ≡ read_order)
    → AsksUntil names result before now
late_asked names before now is (Ok outcome) same = subst (λ (rs : List FileRole). now ≤ before + named_count names rs) (sym same) is
late_asked names before now is (Err Memory) same = tt
late_asked names before now is (Err ReadFault) same = tt
late_asked names before now is (Err (IsRefused refusal)) same = subst (λ (rs : List FileRole). now ≤ before + named_count names rs) (sym same) is

-- ---- a command that names no file, or a configuration alone

by_roles : (P : List FileRole → Type 0) → P (Conf ∷ []) → P (Conf ∷ Request ∷ []) → P (Conf ∷ Request ∷ Wanted ∷ []) → P (Conf ∷ Request ∷ Wanted ∷ Script ∷ []) → P read_order → (outcome : Outcome)
    → P (roles_read outcome)
by_roles P one two three four all (Done text) = all
by_roles P one two three four all (NotOk text) = all
by_roles P one two three four all (Refused Arguments) = all
by_roles P one two three four all (Refused (Of role.Conf r)) = one
by_roles P one two three four all (Refused (Of role.Request r)) = two
by_roles P one two three four all (Refused (Of role.Wanted r)) = three
by_roles P one two three four all (Refused (Of role.Script r)) = four
by_roles P one two three four all (Refused (Of role.Other r)) = all
by_roles P one two three four all (Refused (Of role.Input r)) = all
by_roles P one two three four all (Refused (Of (role.Item n) r)) = all
by_roles P one two three four all (Refused (Command r)) = all

on_outcome : (P : Outcome → Type 0) → ((outcome : Outcome) → P outcome) → (result : Result Outcome Stop) → IfOutcome result P
on_outcome P holds (Ok outcome) = holds outcome
on_outcome P holds (Err Memory) = tt
on_outcome P holds (Err ReadFault) = tt
on_outcome P holds (Err (IsRefused refusal)) = holds (Refused refusal)

pub no_more : (count : ℕ) → count ≤ count + 0
no_more count = omega arith

pub none_asked : (result : Result Outcome Stop) (count : ℕ) → AsksUntil (file_names None None None None None) result count count
none_asked result count =
    on_outcome (λ (o : Outcome). count ≤ count + named_count (file_names None None None None None) (roles_read o))
    (by_roles (λ (rs : List FileRole). count ≤ count + named_count (file_names None None None None None) rs) (no_more count) (no_more count) (no_more count) (no_more count) (no_more count)) result

pub conf_until : (name : Option (List ℕ)) (result : Result Outcome Stop) (before now : ℕ) → now ≤ before + weighed 1 name → AsksUntil (conf_names name) result before now
conf_until None result before now is =
    on_outcome (λ (o : Outcome). now ≤ before + named_count (conf_names None) (roles_read o)) (by_roles (λ (rs : List FileRole). now ≤ before + named_count (conf_names None) rs) is is is is is) result
conf_until (Some conf) result before now is =
    on_outcome (λ (o : Outcome). now ≤ before + named_count (conf_names (Some conf)) (roles_read o)) (by_roles (λ (rs : List FileRole). now ≤ before + named_count (conf_names (Some conf)) rs) is is is is is) result

module _ {X S : Type 0} (files : S → Option FileMap) (asked reached : S → ℕ) (f : X → List ℕ) where
  pub conf_asks : (name : Option X) (before now : S) → AsksOne files asked reached (MAX_CONF_BYTES + 1) name before now
      → Asks (conf_names (option_map f name)) (files before) (files now) (asked before) (asked now) (reached before) (reached now) (now ≡ before)
  conf_asks None before now one = record {
    files = one.keeps;
    asks = one_counted asked f 1 None before now one.unasked one.asks;
    reaches = one_counted reached f (MAX_CONF_BYTES + 1) None before now one.unasked one.reaches;
    unasked = λ _. one.unasked;
  }
  conf_asks (Some x) before now one = record { files = one.keeps; asks = one.asks; reaches = one.reaches; unasked = λ none. absurd (named (f x) (none Conf)) } where
    named : (x : List ℕ) → Some x ≡ None → ⊥
    named x same = absurd cc

  pub conf_asked : (name : Option X) (result : Result Outcome Stop) (before now : S) → AsksOne files asked reached (MAX_CONF_BYTES + 1) name before now
      → AsksUntil (conf_names (option_map f name)) result (asked before) (asked now)
  conf_asked name result before now one = conf_until (option_map f name) result (asked before) (asked now) (one_counted asked f 1 name before now one.unasked one.asks)

-- ---- for arguments

pub asks_of : (arguments : List (List ℕ)) (command : CommandLine) → IsCommand arguments command → (result : Result Outcome Stop) (before now : ℕ) → AsksUntil (name_of command) result before now
    → now ≤ before + file_count (name_of command) → AsksOf arguments result before now
asks_of arguments command is result before now until most = record {
  until = of_command (λ (line : CommandLine). AsksUntil (name_of line) result before now) arguments command is until;
  most = of_command (λ (line : CommandLine). now ≤ before + file_count (name_of line)) arguments command is most;
}

-- by how the run ends
asks_whole : (names : FileNames) (before now : ℕ) (outcome : Outcome) → now ≤ before + named_count names (roles_read outcome) → AsksFor names (refusal_of outcome) before now
asks_whole names before now (Done text) is = is
asks_whole names before now (NotOk text) is = is
asks_whole names before now (Refused refusal) is = is

pub asks_written : (arguments : List (List ℕ)) (outcome : Outcome) (taken now : Option (List ℕ)) (status : Status) (refusal : Option Refusal) (asked asked_now : ℕ) → IsWritten outcome taken now status refusal
    → ((command : CommandLine) → IsCommand arguments command → asked_now ≤ asked + named_count (name_of command) (roles_read outcome))
    → ((command : CommandLine) → IsCommand arguments command → asked_now ≤ asked + file_count (name_of command)) → AsksForNamed arguments refusal asked asked_now
asks_written arguments outcome taken now status refusal asked asked_now (inl (is, told, all, bytes)) until most command spells =
    subst (λ (r : Option Refusal). AsksFor (name_of command) r asked asked_now) (sym told) (asks_whole (name_of command) asked asked_now outcome (until command spells))
asks_written arguments outcome taken now status refusal asked asked_now (inr (inl (is, none, prefix, bytes))) until most command spells =
    subst (λ (r : Option Refusal). AsksFor (name_of command) r asked asked_now) (sym none) (most command spells)
asks_written arguments outcome taken now status refusal asked asked_now (inr (inr (is, none, keeps))) until most command spells =
    subst (λ (r : Option Refusal). AsksFor (name_of command) r asked asked_now) (sym none) (most command spells)

-- where a run is stopped
pub asks_stopped : (arguments : List (List ℕ)) (stop : Stop) (taken now : Option (List ℕ)) (status : Status) (refusal : Option Refusal) (asked asked_now : ℕ) → IsWrittenStop stop taken now status refusal
    → AsksOf arguments (Err stop) asked asked_now → AsksForNamed arguments refusal asked asked_now
asks_stopped arguments (IsRefused r) taken now status refusal asked asked_now written asks = asks_written arguments (Refused r) taken now status refusal asked asked_now written asks.until asks.most
asks_stopped arguments ReadFault taken now status refusal asked asked_now (keeps, is, none) asks = λ command spells. subst (λ (r : Option Refusal). AsksFor (name_of command) r asked asked_now) (sym none) (asks.most command spells)
asks_stopped arguments Memory taken now status refusal asked asked_now (keeps, is, none) asks = λ command spells. subst (λ (r : Option Refusal). AsksFor (name_of command) r asked asked_now) (sym none) (asks.most command spells)

-- a command that names a configuration alone asks for one file, whatever is told
pub conf_told : (conf : List ℕ) (told : Option Refusal) (before now : ℕ) → now ≤ before + 1 → AsksFor (file_names (Some conf) None None None None) told before now
conf_told conf None before now is = is
conf_told conf (Some refusal) before now is =
    by_roles (λ (rs : List FileRole). now ≤ before + named_count (file_names (Some conf) None None None None) rs) is is is is is (Refused refusal)
