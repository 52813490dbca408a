-- How a run of `gateway` ends.
use Rattle.std.proofs.Common.{◌≡◌, ◌+◌, ◌≤◌, ◌∙◌, inl, inr, arith, ℕ, Bool, true, false, List, Option, Some, None, Result, Ok, Err, length, drop, refl, sym, ap, subst}
use Rattle.std.specs.Prelude.{IsSome, IsTrue}
use Rattle.std.specs.Io.KnownBytes.{Appends, Consumes}
use Rattle.std.proofs.Math.Seq.{drop-append_seam}
use Rattle.std.proofs.lemmas.List.{length-append}
use Rattle.hms_io.specs.Files.{FileMap}
use Rattle.hms_io.specs.Cause.{Rose}
use Rattle.hms_io.specs.Reading.{LosesPrefix}
use Rattle.hms_io.specs.declared.status.Status.{Status}
use Rattle.hms_io.specs.declared.status.Status.TheVariants.{Done, NotOk, BadArguments, BadInput, ReadFault, WriteFault, OutOfMemory, BadConf, LimitPassed, FileMissing}
use Rattle.command_line.specs.Command.{CommandLine, Gateway, GatewayWords, IsCommand, line_of}
use Rattle.command_line.specs.declared.command.Command.{Command}
use Rattle.command_line.specs.declared.command.Command.TheVariants as command
use Rattle.command_line.specs.declared.command.GatewayWords.{GatewayWords as StreamWords}
use Rattle.command_line.proofs.CommandLaws.{one_command}
use Rattle.conf.specs.Configuration.{Configuration}
use Rattle.settings.specs.declared.gateway_conf.GatewayConf.{GatewayConf}
use Rattle.gateway.specs.Served.{CountsSink, CountsSource}
use Rattle.gateway.specs.declared.fault.StreamFault.{StreamFault}
use Rattle.gateway.specs.declared.fault.StreamFault.TheVariants as stream
use Rattle.refusals.specs.Laws.{IsOfRefusal}
use Rattle.refusals.specs.Refusal.{refusal_line, refusal_status}
use Rattle.recording.specs.declared.limits.TheConstants.{MAX_ITEMS}
use Rattle.refusals.specs.declared.file.FileRefusal.{FileRefusal}
use Rattle.refusals.specs.declared.file.FileRefusal.TheVariants.{OutOfPlace, Recording, TooManyItems}
use Rattle.refusals.specs.declared.refusal.Refusal.{Refusal}
use Rattle.refusals.specs.declared.refusal.Refusal.TheVariants.{Of}
use Rattle.refusals.specs.declared.role.Role.TheVariants.{Conf as OfConf, Input}
use Rattle.refusals.proofs.Statuses.{status_of_refusal}
use Rattle.intake.specs.Files.{Found, HasFound, Conf as ConfFile, file_names}
use Rattle.intake.specs.Stops.{IfStopped, IsRefusalFor}
use Rattle.commands.specs.declared.outcome.Outcome.TheVariants.{Refused}
use Rattle.intake.specs.declared.stop.Stop.{Stop}
use Rattle.intake.specs.declared.stop.Stop.TheVariants.{Memory as NoMemory, ReadFault as ReadFailed, Refused as StopRefused}
use Rattle.intake.specs.declared.tables.Needs.TheVariants.{GatewayTables}
use Rattle.program.specs.Commands.{LosesFew, ReadsWhole, Streamed, input_use, is_whole}
use Rattle.program.specs.Ends.{CountsFaults, CountsReads, TellsWhy}
use Rattle.program.specs.Intake.{IsConfLacking, IsConfRead}
use Rattle.program.specs.StreamEnds.{EndsAfter, EndsBefore, EndsRefused, EndsServedBy, EndsStream, IsRefusedFor, refusal_in, stream_refusal, stream_status}
use Rattle.program.specs.tools.Parts.{CountsAfter, IsWritten, IsWrittenStop}
use Rattle.program.proofs.Reports.{conf_found, some_found}

-- ---- a refusal

-- no refusal gives the status of a failed read
not_read : (refusal : Refusal) → ReadFault ≡ refusal_status refusal → ⊥
not_read refusal same = subst IsOfRefusal (sym same) (status_of_refusal refusal)

-- at a status that only a refusal gives its line was written
refused_at : (refusal : Refusal) (taken now : Option (List ℕ)) (status : Status) (told : Option Refusal) → IsOfRefusal status → Appends taken now (refusal_line refusal) → status ≡ refusal_status refusal
    → told ≡ Some refusal → EndsRefused refusal taken now status told
refused_at refusal taken now Done told of all same tells = absurd of
refused_at refusal taken now NotOk told of all same tells = absurd of
refused_at refusal taken now BadArguments told of all same tells = (all, same, tells)
refused_at refusal taken now BadInput told of all same tells = (all, same, tells)
refused_at refusal taken now ReadFault told of all same tells = absurd of
refused_at refusal taken now WriteFault told of all same tells = absurd of
refused_at refusal taken now OutOfMemory told of all same tells = absurd of
refused_at refusal taken now BadConf told of all same tells = (all, same, tells)
refused_at refusal taken now LimitPassed told of all same tells = (all, same, tells)
refused_at refusal taken now FileMissing told of all same tells = (all, same, tells)

pub refused_written : (refusal : Refusal) (taken now : Option (List ℕ)) (status : Status) (told : Option Refusal) → IsWritten (Refused refusal) taken now status told → EndsRefused refusal taken now status told
refused_written refusal taken now status told (inl (is, tells, all, bytes)) = refused_at refusal taken now status told (subst IsOfRefusal (sym is) (status_of_refusal refusal)) all is tells
refused_written refusal taken now status told (inr (inl (is, none, part, bytes))) = subst (λ (s : Status). EndsRefused refusal taken now s told) (sym is) (part, none)
refused_written refusal taken now status told (inr (inr (is, none, keeps))) = subst (λ (s : Status). EndsRefused refusal taken now s told) (sym is) (keeps, none)

-- what is told agrees with the status
abbrev TellsStatus : Status → Option Refusal → Type 0
TellsStatus status (Some refusal) = refusal_status refusal ≡ status
TellsStatus status None = ¬ IsOfRefusal status

none_told : (status own : Status) (told : Option Refusal) → ¬ IsOfRefusal own → status ≡ own → told ≡ None → TellsStatus status told
none_told status own told not is none = subst (TellsStatus status) (sym none) (subst (λ (s : Status). ¬ IsOfRefusal s) (sym is) not)

one_told : (status : Status) (refusal : Refusal) (told : Option Refusal) → status ≡ refusal_status refusal → told ≡ Some refusal → TellsStatus status told
one_told status refusal told is some = subst (TellsStatus status) (sym some) (sym is)

refused_told : (refusal : Refusal) (taken now : Option (List ℕ)) (status : Status) (told : Option Refusal) → EndsRefused refusal taken now status told → TellsStatus status told
refused_told refusal taken now Done told (all, is, some) = one_told Done refusal told is some
refused_told refusal taken now NotOk told (all, is, some) = one_told NotOk refusal told is some
refused_told refusal taken now BadArguments told (all, is, some) = one_told BadArguments refusal told is some
refused_told refusal taken now BadInput told (all, is, some) = one_told BadInput refusal told is some
refused_told refusal taken now ReadFault told (all, is, some) = one_told ReadFault refusal told is some
refused_told refusal taken now WriteFault told (part, none) = none_told WriteFault WriteFault told (λ own. own) refl none
refused_told refusal taken now OutOfMemory told (keeps, none) = none_told OutOfMemory OutOfMemory told (λ own. own) refl none
refused_told refusal taken now BadConf told (all, is, some) = one_told BadConf refusal told is some
refused_told refusal taken now LimitPassed told (all, is, some) = one_told LimitPassed refusal told is some
refused_told refusal taken now FileMissing told (all, is, some) = one_told FileMissing refusal told is some

-- a refusal doesn't end a run at the status of a failed read
not_read_ends : (refusal : Refusal) (taken now : Option (List ℕ)) (status : Status) (told : Option Refusal) → EndsRefused refusal taken now status told → status ≡ ReadFault → ⊥
not_read_ends refusal taken now status told ends fault =
    let at : EndsRefused refusal taken now ReadFault told = subst (λ (s : Status). EndsRefused refusal taken now s told) fault ends in
    not_read refusal at.1

-- ---- before the stream is read

before_refused : (words : GatewayWords) (found : Found) (cause : FileRefusal) (taken now : Option (List ℕ)) (status : Status) (told : Option Refusal) → IsConfLacking GatewayTables (Some words.conf) (found ConfFile) cause
    → EndsRefused (Of OfConf cause) taken now status told → EndsBefore words found taken now status told
before_refused words found cause taken now Done told lacking ends = (cause, lacking, ends)
before_refused words found cause taken now NotOk told lacking ends = (cause, lacking, ends)
before_refused words found cause taken now BadArguments told lacking ends = (cause, lacking, ends)
before_refused words found cause taken now BadInput told lacking ends = (cause, lacking, ends)
before_refused words found cause taken now ReadFault told lacking ends = absurd (not_read (Of OfConf cause) ends.1)
before_refused words found cause taken now WriteFault told lacking ends = (cause, lacking, ends)
before_refused words found cause taken now OutOfMemory told lacking ends = ends
before_refused words found cause taken now BadConf told lacking ends = (cause, lacking, ends)
before_refused words found cause taken now LimitPassed told lacking ends = (cause, lacking, ends)
before_refused words found cause taken now FileMissing told lacking ends = (cause, lacking, ends)

before_told : (words : GatewayWords) (found : Found) (taken now : Option (List ℕ)) (status : Status) (told : Option Refusal) → EndsBefore words found taken now status told → TellsStatus status told
before_told words found taken now Done told (cause, lacking, ends) = refused_told (Of OfConf cause) taken now Done told ends
before_told words found taken now NotOk told (cause, lacking, ends) = refused_told (Of OfConf cause) taken now NotOk told ends
before_told words found taken now BadArguments told (cause, lacking, ends) = refused_told (Of OfConf cause) taken now BadArguments told ends
before_told words found taken now BadInput told (cause, lacking, ends) = refused_told (Of OfConf cause) taken now BadInput told ends
before_told words found taken now ReadFault told (keeps, none) = none_told ReadFault ReadFault told (λ own. own) refl none
before_told words found taken now WriteFault told (cause, lacking, ends) = refused_told (Of OfConf cause) taken now WriteFault told ends
before_told words found taken now OutOfMemory told (keeps, none) = none_told OutOfMemory OutOfMemory told (λ own. own) refl none
before_told words found taken now BadConf told (cause, lacking, ends) = refused_told (Of OfConf cause) taken now BadConf told ends
before_told words found taken now LimitPassed told (cause, lacking, ends) = refused_told (Of OfConf cause) taken now LimitPassed told ends
before_told words found taken now FileMissing told (cause, lacking, ends) = refused_told (Of OfConf cause) taken now FileMissing told ends

-- ---- the configuration

module _ (words : GatewayWords) (shelf : Option FileMap) (Same : Type 0) (left left_now taken now : Option (List ℕ)) (status : Status) (told : Option Refusal) where
  -- the configuration isn't read
  pub conf_stopped : (stop : Stop) → Same → IfStopped stop (λ refusal. HasFound shelf (Some words.conf) (λ found. IsRefusalFor (IsConfLacking GatewayTables (Some words.conf) found) (λ cause. Of OfConf cause) refusal))
      → IsWrittenStop stop taken now status told → EndsStream words shelf Same left left_now taken now status told
  conf_stopped NoMemory same has (keeps, is, none) =
      let some = some_found shelf (Some words.conf) in (
        file_names some.0 None None None None,
        conf_found shelf (Some words.conf) some.0 some.1,
        inl (same, subst (λ (s : Status). EndsBefore words (file_names some.0 None None None None) taken now s told) (sym is) (keeps, none)),
      )
  conf_stopped ReadFailed same has (keeps, is, none) =
      let some = some_found shelf (Some words.conf) in (
        file_names some.0 None None None None,
        conf_found shelf (Some words.conf) some.0 some.1,
        inl (same, subst (λ (s : Status). EndsBefore words (file_names some.0 None None None None) taken now s told) (sym is) (keeps, none)),
      )
  conf_stopped (StopRefused refusal) same has written =
      let cause = has.holds in
      let ends = refused_written (Of OfConf cause.0) taken now status told (subst (λ (r : Refusal). IsWritten (Refused r) taken now status told) cause.2 written) in (
        file_names has.found None None None None,
        conf_found shelf (Some words.conf) has.found has.known,
        inl (same, before_refused words (file_names has.found None None None None) cause.0 taken now status told cause.1 ends),
      )

  some_gateway : (conf : Configuration) → IsSome conf.gateway → (settings : GatewayConf) × (conf.gateway ≡ Some settings)
  some_gateway conf has = of_option conf.gateway has where
    of_option : (o : Option GatewayConf) → IsSome o → (settings : GatewayConf) × (o ≡ Some settings)
    of_option (Some settings) is = (settings, refl)
    of_option None is = absurd cc

  -- it is read, and the stream is served
  pub conf_served : (conf : Configuration) → HasFound shelf (Some words.conf) (λ found. IsConfRead GatewayTables (Some words.conf) found conf)
      → ((settings : GatewayConf) → conf.gateway ≡ Some settings → EndsServedBy conf settings left left_now taken now status told) → EndsStream words shelf Same left left_now taken now status told
  conf_served conf has serves =
      let own = some_gateway conf has.holds.tables.0 in (
        file_names has.found None None None None,
        conf_found shelf (Some words.conf) has.found has.known,
        inr (record { conf = conf; read = has.holds; settings = own.0; settings_are = own.1; served = serves own.0 own.1 }),
      )

-- ---- the counts of faults

-- of the source, where the stream isn't served to its end
pub source_unserved : (fault : StreamFault) (before now_count : ℕ) (taken now : Option (List ℕ)) (status : Status) (told : Option Refusal) → before ≤ now_count → CountsSource {T = Bool} before now_count (Err fault)
    → EndsAfter (stream_refusal fault) (stream_status (Err fault)) taken now status told → CountsFaults ReadFault status before now_count
source_unserved stream.Memory before count taken now status told later same (keeps, is, none) = record { later = later; rose = λ fault. absurd (cc (sym is ∙ fault)); kept = inr same }
source_unserved stream.NotRead before count taken now status told later rose (keeps, is, none) = record { later = later; rose = λ fault. rose; kept = inl is }
source_unserved stream.NotWritten before count taken now status told later same (keeps, is, none) = record { later = later; rose = λ fault. absurd (cc (sym is ∙ fault)); kept = inr same }
source_unserved (stream.Recording f) before count taken now status told later same ends = record { later = later; rose = λ fault. absurd (not_read_ends (Of Input (Recording f)) taken now status told ends fault); kept = inr same }
source_unserved (stream.OutOfPlace offset) before count taken now status told later same ends = record { later = later; rose = λ fault. absurd (not_read_ends (Of Input (OutOfPlace offset)) taken now status told ends fault); kept = inr same }
source_unserved stream.TooManyItems before count taken now status told later same ends = record { later = later; rose = λ fault. absurd (not_read_ends (Of Input (TooManyItems MAX_ITEMS)) taken now status told ends fault); kept = inr same }

-- of the sink
pub sink_unserved : (fault : StreamFault) (before middle count : ℕ) (status : Status) → before ≤ middle → CountsSink {T = Bool} before middle (Err fault) → CountsAfter fault status middle count
    → CountsFaults WriteFault status before count
sink_unserved stream.NotWritten before middle count status later rose (is, same) =
    record { later = omega (arith, later, same); rose = λ fault. subst (λ (n : ℕ). Rose before n) (sym same) rose; kept = inl is }
sink_unserved stream.Memory before middle count status later same after = subst (λ (n : ℕ). CountsFaults WriteFault status n count) same after
sink_unserved stream.NotRead before middle count status later same after = subst (λ (n : ℕ). CountsFaults WriteFault status n count) same after
sink_unserved (stream.Recording f) before middle count status later same after = subst (λ (n : ℕ). CountsFaults WriteFault status n count) same after
sink_unserved (stream.OutOfPlace offset) before middle count status later same after = subst (λ (n : ℕ). CountsFaults WriteFault status n count) same after
sink_unserved stream.TooManyItems before middle count status later same after = subst (λ (n : ℕ). CountsFaults WriteFault status n count) same after

-- of the shelf and the source
pub reads_served : (Same : Type 0) (status : Status) (shelf shelf_now source source_now : ℕ) → shelf_now ≡ shelf → CountsFaults ReadFault status source source_now → CountsReads Same status shelf shelf_now source source_now
reads_served Same status shelf shelf_now source source_now same counts = record {
  shelf_later = omega (arith, same);
  source_later = counts.later;
  rose = λ fault. inr (same, counts.rose fault);
  kept = elim (counts.kept) [
    | inl fault ↦ inl fault
    | inr kept ↦ inr (same, kept)
  ];
}

-- ---- a run

-- what holds of the words of `gateway` holds of those that the arguments spell
pub for_gateway : (P : GatewayWords → Type 0) (arguments : List (List ℕ)) (own : GatewayWords) → IsCommand arguments (Gateway own) → P own → (words : GatewayWords) → IsCommand arguments (Gateway words) → P words
for_gateway P arguments own is holds words also =
    let same : own ≡ words = cc (one_command arguments (Gateway own) (Gateway words) is also) in
    subst P same holds

-- of the source a prefix is gone
consumed : (left left_now : Option (List ℕ)) (text : List ℕ) → Consumes left left_now text → LosesPrefix left left_now (length text)
consumed None left_now text read = tt
consumed (Some xs) None text read = absurd read
consumed (Some xs) (Some ys) text read =
    let counted : length xs ≡ length text + length ys = ap length read ∙ length-append text ys in
    let rest : drop (length text) xs ≡ ys = ap (λ (l : List ℕ). drop (length text) l) read ∙ drop-append_seam text ys in
    (omega (arith, counted), ap (λ (l : List ℕ). Some l) (sym rest))

none_lost : (left left_now : Option (List ℕ)) → left_now ≡ left → LosesPrefix left left_now 0
none_lost None left_now same = tt
none_lost (Some xs) left_now same = (omega arith, same)

module _ (words : GatewayWords) (shelf : Option FileMap) (Same : Type 0) (left left_now taken now : Option (List ℕ)) (status : Status) (told : Option Refusal) where
  pub stream_few : EndsStream words shelf Same left left_now taken now status told → (Same → left_now ≡ left) → LosesFew Streamed left left_now
  stream_few (found, are, inl (same, before)) unread = (0, none_lost left left_now (unread same))
  stream_few (found, are, inr ends) unread = let serves = ends.served.serves in (length serves.text, consumed left left_now serves.text serves.read)

  own_status : (served : Result Bool StreamFault) → ¬ IsOfRefusal (stream_status served)
  own_status (Ok true) = λ own. own
  own_status (Ok false) = λ own. own
  own_status (Err stream.Memory) = λ own. own
  own_status (Err stream.NotRead) = λ own. own
  own_status (Err stream.NotWritten) = λ own. own
  own_status (Err (stream.Recording f)) = λ own. own
  own_status (Err (stream.OutOfPlace offset)) = λ own. own
  own_status (Err stream.TooManyItems) = λ own. own

  after_told : (refusal : Option Refusal) (own : Status) (between : Option (List ℕ)) → ¬ IsOfRefusal own → EndsAfter refusal own between now status told → TellsStatus status told
  after_told None own between not (keeps, is, none) = none_told status own told not is none
  after_told (Some refusal) own between not ends = refused_told refusal between now status told ends

  stream_told : EndsStream words shelf Same left left_now taken now status told → TellsStatus status told
  stream_told (found, are, inl (same, before)) = before_told words found taken now status told before
  stream_told (found, are, inr ends) = let by = ends.served in after_told (refusal_in by.served) (stream_status by.served) by.between (own_status by.served) by.after

-- why it is refused
pub why_stream : (arguments : List (List ℕ)) (words : GatewayWords) → IsCommand arguments (Gateway words) → (shelf : Option FileMap) (Same : Type 0) (left left_now taken now : Option (List ℕ)) (status : Status) (told : Option Refusal)
    → EndsStream words shelf Same left left_now taken now status told → TellsWhy (IsRefusedFor arguments shelf Same left left_now taken now) status told
why_stream arguments words is shelf Same left left_now taken now status None ends = stream_told words shelf Same left left_now taken now status None ends
why_stream arguments words is shelf Same left left_now taken now status (Some refusal) ends =
    let same = stream_told words shelf Same left left_now taken now status (Some refusal) ends in
    (inr (words, is, subst (λ (s : Status). EndsStream words shelf Same left left_now taken now s (Some refusal)) (sym same) ends), same)

-- what is told of another command
pub why_whole_told : (arguments : List (List ℕ)) (shelf : Option FileMap) (Same : Type 0) (left left_now taken now : Option (List ℕ)) (status : Status) (told : Option Refusal) (IsSo : Refusal → Type 0)
    → ((refusal : Refusal) → IsSo refusal → IsRefusedFor arguments shelf Same left left_now taken now refusal) → TellsWhy IsSo status told → TellsWhy (IsRefusedFor arguments shelf Same left left_now taken now) status told
why_whole_told arguments shelf Same left left_now taken now status None IsSo then why = why
why_whole_told arguments shelf Same left left_now taken now status (Some refusal) IsSo then why = (then refusal why.0, why.1)

-- a command that isn't `gateway` writes nothing before it has read all
reads_whole : (given : Command) → ((words : StreamWords) → given ≡ command.Gateway words → ⊥) → IsTrue (is_whole (input_use (line_of given)))
reads_whole command.Help not = refl
reads_whole (command.HelpOf name) not = refl
reads_whole command.Version not = refl
reads_whole (command.Base words) not = refl
reads_whole (command.Verify words) not = refl
reads_whole (command.Sign words) not = refl
reads_whole (command.Rewrite words) not = refl
reads_whole (command.Explain words) not = refl
reads_whole (command.Audit words) not = refl
reads_whole (command.Lists words) not = refl
reads_whole (command.Negotiate words) not = refl
reads_whole (command.Gateway words) not = absurd (not words refl)
reads_whole (command.Sample words) not = refl

pub all_read_whole : (arguments : List (List ℕ)) (given : Command) → IsCommand arguments (line_of given) → ((words : StreamWords) → given ≡ command.Gateway words → ⊥) → ReadsWhole arguments
all_read_whole arguments given is not other also =
    subst (λ (line : CommandLine). IsTrue (is_whole (input_use line))) (one_command arguments (line_of given) other is also) (reads_whole given not)
