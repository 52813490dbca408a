-- The outcome of arguments, files and an input.
use Rattle.std.proofs.Common.{◌≡◌, ◌+◌, ◌≤◌, inl, inr, ℕ, suc, Bool, true, false, List, [], ◌∷◌, Option, Some, None, Result, Err, refl, sym, ap, subst, ◌∙◌, arith}
use Rattle.std.specs.Prelude.{IfSome, IfNone, IsTrue, is_some, option_map}
use Rattle.std.specs.List.{filter, list_all}
use Rattle.std.proofs.lemmas.Bool.{false≢true}
use Rattle.std.proofs.lemmas.List.Sums.{sum_by-cons}
use Rattle.std.specs.FinMap as map
use Rattle.std.specs.Io.KnownBytes.{Appends}
use Rattle.sfv_text.specs.Classes.{is_byte}
use Rattle.hms_io.specs.Files.{FileMap, KeepsFiles}
use Rattle.hms_io.specs.declared.status.Status.{Status}
use Rattle.hms_io.specs.declared.status.Status.TheVariants.{Done as Success, NotOk as Failure, BadArguments, BadInput, ReadFault, WriteFault, OutOfMemory, BadConf, LimitPassed, FileMissing}
use Rattle.command_line.specs.Command.{CommandLine, IsCommand, NoCommand}
use Rattle.conf.specs.Configuration.{Configuration}
use Rattle.msg_body.specs.Messages.{Message}
use Rattle.msg_body.specs.Views.{MessageParts, message_of}
use Rattle.msg_body.specs.WholeTexts.{one_request, reading_for}
use Rattle.intake.specs.Files.{FileNames, FileRole, Conf, Request, Wanted, Script, Other, Found, IsFound, AreFound, HasFound, file_names, file_limit}
use Rattle.intake.specs.Layers.{ReadsFound, IsFileRefused}
use Rattle.intake.specs.Messages.{IsInputMessage, IsInputRefused}
use Rattle.intake.specs.MessageFiles.{IsMessageFile, IsMessageFileRefused, IsTaken, IsMessageIn, IsTextRefused, IsRequested, IsRequestRefused, IsWanted, IsWantedRefused}
use Rattle.intake.specs.Scripts.{IsScripted, IsScriptRefused}
use Rattle.rewrite_script.specs.Lines.{is_writable}
use Rattle.rewrite_script.specs.declared.rewrite.Rewrite.{Rewrite}
use Rattle.program.proofs.CommandLaws.{writable_where_scripted}
use Rattle.msg_body.specs.declared.whole.Reading.{Reading}
use Rattle.intake.specs.Configured.{IsConfigured, IsConfRefused}
use Rattle.intake.specs.Tables.{HasTables, IsTableMissing}
use Rattle.intake.specs.declared.tables.Needs.{Needs}
use Rattle.refusals.specs.Laws.{IsOfRefusal}
use Rattle.refusals.specs.Refusal.{refusal_status}
use Rattle.refusals.proofs.Statuses.{status_of_refusal}
use Rattle.commands.specs.Outcome.{status_of, output_of, IfOutcome}
use Rattle.program.specs.Commands.{InputUse, Unread, Whole, input_use, name_of, AreFoundFor}
use Rattle.program.specs.Ends.{HasInput, HasOutcome, Leaves, HasReport, Ends}
use Rattle.program.specs.Intake.{IsConfLacking, IsConfRead, IsIntakeRefused, IsReadToScript, named_count, names_of}
use Rattle.program.specs.Report.{Answers, ReportsFiles, ReportsCommand}
use Rattle.intake.specs.declared.taken.FileWords.{FileWords}
use Rattle.program.specs.tools.Parts.{FileValues, HasOther, HasRequested, ReportsMessage, ReportsRecord, named_bytes, taken_with}
use Rattle.refusals.specs.declared.refusal.Refusal.{Refusal}
use Rattle.refusals.specs.declared.file.FileRefusal.{FileRefusal}
use Rattle.refusals.specs.declared.refusal.TheConstants.{MAX_INPUT_BYTES}
use Rattle.refusals.specs.declared.role.Role.{Role}
use Rattle.refusals.specs.declared.role.Role.TheVariants.{Conf as OfConf, Request as OfRequest, Wanted as OfWanted, Script as OfScript, Other as OfOther, Input}
use Rattle.refusals.specs.declared.refusal.Refusal.TheVariants.{Arguments, Of}
use Rattle.commands.specs.declared.outcome.Outcome.{Outcome}
use Rattle.commands.specs.declared.outcome.Outcome.TheVariants.{Done, NotOk, Refused}
use Rattle.intake.specs.declared.stop.Stop.{Stop}
use Rattle.intake.specs.declared.stop.Stop.TheVariants.{Memory, ReadFault as ReadFailed, Refused as IsRefused}
use Rattle.intake.specs.Stops.{IfStopped, IfRefused, IsRefusalFor}
use Rattle.command_line.proofs.CommandLaws.{one_command}
use Rattle.program.proofs.Layers.{went_on}
use Rattle.program.proofs.Sources.{LeavesInput, spelled_input}

-- ---- the layers over the input

-- some input, which is the known bytes where they are known
pub some_input : (before : Option (List ℕ)) → (input : List ℕ) × IfSome before (λ bytes. bytes ≡ input)
some_input None = ([], tt)
some_input (Some bytes) = (bytes, refl)

-- for arguments that are no command nothing is found
none_found : (arguments : List (List ℕ)) (shelf : Option FileMap) → NoCommand arguments → AreFoundFor arguments shelf (λ role. None)
none_found arguments shelf none command is = absurd (none command is)

-- nor for a command that names no file
pub nothing_named : (shelf : Option FileMap) → AreFound shelf (file_names None None None None None) (λ role. None)
nothing_named shelf Conf = tt
nothing_named shelf Request = tt
nothing_named shelf Wanted = tt
nothing_named shelf Script = tt
nothing_named shelf Other = tt

-- of each role
pub all_found : (shelf : Option FileMap) (names found : FileNames) → IsFound shelf (names Conf) (found Conf) → IsFound shelf (names Request) (found Request) → IsFound shelf (names Wanted) (found Wanted)
    → IsFound shelf (names Script) (found Script) → IsFound shelf (names Other) (found Other) → AreFound shelf names found
all_found shelf names found conf request wanted script other Conf = conf
all_found shelf names found conf request wanted script other Request = request
all_found shelf names found conf request wanted script other Wanted = wanted
all_found shelf names found conf request wanted script other Script = script
all_found shelf names found conf request wanted script other Other = other

-- of a configuration alone
pub conf_found : (shelf : Option FileMap) (conf text : Option (List ℕ)) → IsFound shelf conf text → AreFound shelf (file_names conf None None None None) (file_names text None None None None)
conf_found shelf conf text is = all_found shelf (file_names conf None None None None) (file_names text None None None None) is tt tt tt tt

-- what is there under a name that isn't asked for
pub some_found : (shelf : Option FileMap) (name : Option (List ℕ)) → (text : Option (List ℕ)) × IsFound shelf name text
some_found shelf None = (None, tt)
some_found None (Some name) = (None, tt)
some_found (Some files) (Some name) = (map.get files name, refl)

-- what is found later was there before
found_before : (before now : Option FileMap) (name text : Option (List ℕ)) → KeepsFiles before now → IsFound now name text → IsFound before name text
found_before before now None text keeps found = tt
found_before None now (Some name) text keeps found = tt
found_before (Some files) now (Some name) text keeps found =
    subst (λ (shelf : Option FileMap). IfSome shelf (λ all. text ≡ map.get all name)) keeps found

pub no_command : (arguments : List (List ℕ)) (shelf : Option FileMap) (Same : Type 0) (before now : Option (List ℕ)) → NoCommand arguments → Same
    → HasReport arguments shelf Same before now (Refused Arguments)
no_command arguments shelf Same before now none same =
    let input = some_input before in
    record {
      found = λ role. None;
      files = none_found arguments shelf none;
      holds = record {
        input = input.0;
        known = input.1;
        reports = inr (tt, none, refl);
        leaves = record { none = λ _. same; some = λ command is. absurd (none command is) };
      };
    }

-- what holds of the command that the arguments spell
pub of_command : (P : CommandLine → Type 0) (arguments : List (List ℕ)) (command : CommandLine) → IsCommand arguments command → P command
    → (other : CommandLine) → IsCommand arguments other → P other
of_command P arguments command is holds other also = subst P (one_command arguments command other is also) holds

-- what comes of a command is reported for the arguments that spell it
pub spelled : (arguments : List (List ℕ)) (command : CommandLine) → IsCommand arguments command → (shelf : Option FileMap) (Same : Type 0) (before now : Option (List ℕ))
    → (result : Result Outcome Stop)
    → IfOutcome result (HasOutcome (ReportsCommand command) (Leaves (input_use command) Same before now) (AreFound shelf (name_of command)) before)
    → IfOutcome result (HasReport arguments shelf Same before now)
spelled arguments command is shelf Same before now =
    went_on (λ outcome has. record {
      found = has.found;
      files = of_command (λ (c : CommandLine). AreFound shelf (name_of c) has.found) arguments command is has.files;
      holds = record {
        input = has.holds.input;
        known = has.holds.known;
        reports = inl (command, is, has.holds.reports);
        leaves = record {
          none = λ none. absurd (none command is);
          some = of_command (λ (c : CommandLine). Leaves (input_use c) Same before now outcome) arguments command is has.holds.leaves;
        };
      };
    })

-- what comes of a command that reads nothing
pub alone : (command : CommandLine) (shelf : Option FileMap) (Same : Type 0) (before now : Option (List ℕ)) (outcome : Outcome) → input_use command ≡ Unread
    → AreFound shelf (name_of command) (λ role. None) → Same → ((found : Found) (input : List ℕ) → ReportsCommand command found input outcome)
    → HasOutcome (ReportsCommand command) (Leaves (input_use command) Same before now) (AreFound shelf (name_of command)) before outcome
alone command shelf Same before now outcome none unnamed same reports =
    let input = some_input before in
    record {
      found = λ role. None;
      files = unnamed;
      holds = record {
        input = input.0;
        known = input.1;
        reports = reports (λ role. None) input.0;
        leaves = subst (λ (reads : InputUse). Leaves reads Same before now outcome) (sym none) same;
      };
    }

-- ---- a message in a file, by the text that is taken

module _ (r : Reading) where
  file_read : (name found text : Option (List ℕ)) (message : Option Message) → IsTaken name found text → IsMessageIn r text message → IsMessageFile r name found message
  file_read None found text message taken is = subst (λ (t : Option (List ℕ)). IsMessageIn r t message) taken is
  file_read (Some name) found None message taken is = absurd taken.1
  file_read (Some name) found (Some text) None taken is = absurd is
  file_read (Some name) found (Some text) (Some message) taken is =
      subst (λ (t : Option (List ℕ)). ReadsFound (IsInputMessage r) t message) (sym taken.0) is

  text_refused : (name found text : Option (List ℕ)) (cause : FileRefusal) → IsTaken name found text → IsTextRefused r text cause → IsMessageFileRefused r name found cause
  text_refused None found text cause taken is = subst (λ (t : Option (List ℕ)). IsTextRefused r t cause) taken is
  text_refused (Some name) found None cause taken is = absurd is
  text_refused (Some name) found (Some text) cause taken is =
      subst (λ (t : Option (List ℕ)). IsFileRefused (IsInputRefused r) t cause) (sym taken.0) is

  -- what is known of a file whose text is refused, which was read as the text that was taken
  pub text_stop : (role : Role) (shelf : Option FileMap) (name text : Option (List ℕ)) (reading : Reading) (borrowed : Option (List ℕ)) (stop : Stop) → reading ≡ r → borrowed ≡ text
      → HasFound shelf name (λ found. IsTaken name found text) → IfRefused stop (IsRefusalFor (IsTextRefused reading borrowed) (λ cause. Of role cause))
      → IfStopped stop (λ refusal. HasFound shelf name (λ found. IsRefusalFor (IsMessageFileRefused r name found) (λ cause. Of role cause) refusal))
  text_stop role shelf name text reading borrowed Memory one same has is = tt
  text_stop role shelf name text reading borrowed ReadFailed one same has is = tt
  text_stop role shelf name text reading borrowed (IsRefused refusal) one same has is =
      let own = subst (λ (o : Reading). IsTextRefused o text is.0) one (subst (λ (t : Option (List ℕ)). IsTextRefused reading t is.0) same is.1) in
      record { found = has.found; known = has.known; holds = (is.0, text_refused name has.found text is.0 has.holds own, is.2) }

  -- the message in a file whose text is taken
  pub file_had : (shelf : Option FileMap) (name text : Option (List ℕ)) (reading : Reading) (borrowed : Option (List ℕ)) (message : Option Message) → reading ≡ r → borrowed ≡ text
      → HasFound shelf name (λ found. IsTaken name found text) → IsMessageIn reading borrowed message → HasFound shelf name (λ found. IsMessageFile r name found message)
  file_had shelf name text reading borrowed message one same has is =
      let own = subst (λ (o : Reading). IsMessageIn o text message) one (subst (λ (t : Option (List ℕ)). IsMessageIn reading t message) same is) in
      record { found = has.found; known = has.known; holds = file_read name has.found text message has.holds own }

-- a message that is borrowed
pub same_related : {X : Type 0} (f : X → MessageParts) (view : Option X) (parts : Option MessageParts) → option_map f view ≡ parts
    → option_map (λ v. message_of (f v)) view ≡ option_map (λ p. message_of p) parts
same_related f None parts same = ap (λ (o : Option MessageParts). option_map (λ p. message_of p) o) same
same_related f (Some v) parts same = ap (λ (o : Option MessageParts). option_map (λ p. message_of p) o) same

-- ---- the configuration, which has what is needed

module _ (needs : Needs) (shelf : Option FileMap) (name : Option (List ℕ)) where
  pub needed_had : (conf : Configuration) → HasFound shelf name (λ found. IsConfigured name found conf) → HasTables needs conf → HasFound shelf name (λ found. IsConfRead needs name found conf)
  needed_had conf has tables = record { found = has.found; known = has.known; holds = record { configured = has.holds; tables = tables } }

  pub conf_lacking : (stop : Stop) → IfStopped stop (λ refusal. HasFound shelf name (λ found. IsRefusalFor (IsConfRefused name found) (λ cause. Of OfConf cause) refusal))
      → IfStopped stop (λ refusal. HasFound shelf name (λ found. IsRefusalFor (IsConfLacking needs name found) (λ cause. Of OfConf cause) refusal))
  conf_lacking Memory has = tt
  conf_lacking ReadFailed has = tt
  conf_lacking (IsRefused refusal) has =
      let cause = has.holds in
      record { found = has.found; known = has.known; holds = (cause.0, inl cause.1, cause.2) }

  pub table_lacking : (conf : Configuration) (stop : Stop) → HasFound shelf name (λ found. IsConfigured name found conf) → IfRefused stop (IsRefusalFor (IsTableMissing needs conf) (λ cause. Of OfConf cause))
      → IfStopped stop (λ refusal. HasFound shelf name (λ found. IsRefusalFor (IsConfLacking needs name found) (λ cause. Of OfConf cause) refusal))
  table_lacking conf Memory has is = tt
  table_lacking conf ReadFailed has is = tt
  table_lacking conf (IsRefused refusal) has is =
      record { found = has.found; known = has.known; holds = (is.0, inr (conf, has.holds, is.1), is.2) }

-- ---- the files

-- what is refused by a text of this role comes before the input is read
abbrev IsEarly : Role → Type 1
IsEarly role = (limit : ℕ) (Same : Type 0) (before now : Option (List ℕ)) (cause : FileRefusal) → Same → Leaves (Whole limit) Same before now (Refused (Of role cause))

conf_early : IsEarly OfConf
conf_early limit Same before now cause same = same

request_early : IsEarly OfRequest
request_early limit Same before now cause same = same

wanted_early : IsEarly OfWanted
wanted_early limit Same before now cause same = same

script_early : IsEarly OfScript
script_early limit Same before now cause same = same

pub other_early : IsEarly OfOther
other_early limit Same before now cause same = same

-- lines can write a script that is read
pub script_writable : (shelf : Option FileMap) (name : Option (List ℕ)) (script : List Rewrite) → HasFound shelf name (λ found. IsScripted name found script) → IsTrue (list_all is_writable script)
script_writable shelf name script has = writable_where_scripted name has.found script has.holds

-- what was read in the file of this role, or why it was refused
module _ (shelf : Option FileMap) (words : FileWords) (role : FileRole) where
  abbrev pub HasRead : {V : Type 0} → (Option (List ℕ) → Option (List ℕ) → V → Type 0) → V → Type 0
  HasRead Reads value = HasFound shelf (names_of words role) (λ found. Reads (names_of words role) found value)

  abbrev pub IfRefusedFor : (Option (List ℕ) → Option (List ℕ) → FileRefusal → Type 0) → Role → Stop → Type 0
  IfRefusedFor Causes own stop =
      IfStopped stop (λ refusal. HasFound shelf (names_of words role) (λ found. IsRefusalFor (Causes (names_of words role) found) (λ cause. Of own cause) refusal))

  -- what holds of a shelf that kept its files
  pub read_before : {V : Type 0} (Reads : Option (List ℕ) → Option (List ℕ) → V → Type 0) (value : V) (later : Option FileMap) → KeepsFiles shelf later
      → HasFound later (names_of words role) (λ found. Reads (names_of words role) found value) → HasRead Reads value
  read_before Reads value later keeps has =
      record { found = has.found; known = found_before shelf later (names_of words role) has.found keeps has.known; holds = has.holds }

  pub refused_before : (Causes : Option (List ℕ) → Option (List ℕ) → FileRefusal → Type 0) (own : Role) (stop : Stop) (later : Option FileMap) → KeepsFiles shelf later
      → IfStopped stop (λ refusal. HasFound later (names_of words role) (λ found. IsRefusalFor (Causes (names_of words role) found) (λ cause. Of own cause) refusal)) → IfRefusedFor Causes own stop
  refused_before Causes own Memory later keeps has = tt
  refused_before Causes own ReadFailed later keeps has = tt
  refused_before Causes own (IsRefused refusal) later keeps has =
      record { found = has.found; known = found_before shelf later (names_of words role) has.found keeps has.known; holds = has.holds }

  -- a message in a file whose text was taken
  pub message_had : (r : Reading) (text : Option (List ℕ)) (reading : Reading) (borrowed : Option (List ℕ)) (message : Option Message) (later : Option FileMap) → KeepsFiles shelf later → reading ≡ r
      → borrowed ≡ text → HasFound later (names_of words role) (λ found. IsTaken (names_of words role) found text) → IsMessageIn reading borrowed message → HasRead (IsMessageFile r) message
  message_had r text reading borrowed message later keeps one same has is =
      file_had r shelf (names_of words role) text reading borrowed message one same (read_before IsTaken text later keeps has) is

  -- or a text that was taken and is refused as one
  pub message_refused : (r : Reading) (own : Role) (text : Option (List ℕ)) (reading : Reading) (borrowed : Option (List ℕ)) (stop : Stop) (later : Option FileMap) → KeepsFiles shelf later → reading ≡ r
      → borrowed ≡ text → HasFound later (names_of words role) (λ found. IsTaken (names_of words role) found text)
      → IfRefused stop (IsRefusalFor (IsTextRefused reading borrowed) (λ cause. Of own cause)) → IfRefusedFor (IsMessageFileRefused r) own stop
  message_refused r own text reading borrowed stop later keeps one same has is =
      text_stop r own shelf (names_of words role) text reading borrowed stop one same (read_before IsTaken text later keeps has) is

  -- what is there under a name that isn't asked for
  some_named : (text : Option (List ℕ)) × IsFound shelf (names_of words role) text
  some_named = some_found shelf (names_of words role)

module _ (needs : Needs) (Then : Answers) (words : FileWords) (shelf : Option FileMap) (Same : Type 0) (before now : Option (List ℕ)) where
  -- a run that comes to an outcome with the files of these names
  abbrev pub HasFilesOutcome : Outcome → Type 0
  HasFilesOutcome = HasOutcome (ReportsFiles needs Then (names_of words)) (LeavesInput Same before now) (AreFound shelf (names_of words)) before

  -- one that is refused by a file of this role
  refused_early : (role : Role) (found : Found) (cause : FileRefusal) (refusal : Refusal) → IsEarly role → AreFound shelf (names_of words) found → Same → refusal ≡ Of role cause
      → ((input : List ℕ) → IsIntakeRefused needs (names_of words) found input (Of role cause)) → HasFilesOutcome (Refused refusal)
  refused_early role found cause refusal early files same is refused =
      let input = some_input before in
      record {
        found = found;
        files = files;
        holds = record {
          input = input.0;
          known = input.1;
          reports = inr (refusal, subst (λ (r : Refusal). IsIntakeRefused needs (names_of words) found input.0 r) (sym is) (refused input.0), refl);
          leaves = subst (λ (r : Refusal). LeavesInput Same before now (Refused r)) (sym is) (early MAX_INPUT_BYTES Same before now cause same);
        };
      }

  -- what was found, of each role
  all_there : (conf request wanted script other : Option (List ℕ)) → IsFound shelf (names_of words Conf) conf → IsFound shelf (names_of words Request) request → IsFound shelf (names_of words Wanted) wanted
      → IsFound shelf (names_of words Script) script → IsFound shelf (names_of words Other) other → AreFound shelf (names_of words) (file_names conf request wanted script other)
  all_there conf request wanted script other = all_found shelf (names_of words) (file_names conf request wanted script other)

  -- the configuration is refused
  pub conf_stopped : (stop : Stop) → Same → IfRefusedFor shelf words Conf (IsConfLacking needs) OfConf stop → IfOutcome (Err stop) HasFilesOutcome
  conf_stopped Memory same has = tt
  conf_stopped ReadFailed same has = tt
  conf_stopped (IsRefused refusal) same has =
      let request = some_named shelf words Request in
      let wanted = some_named shelf words Wanted in
      let script = some_named shelf words Script in
      let other = some_named shelf words Other in
      let cause = has.holds in
      refused_early OfConf (file_names has.found request.0 wanted.0 script.0 other.0) cause.0 refusal conf_early
      (all_there has.found request.0 wanted.0 script.0 other.0 has.known request.1 wanted.1 script.1 other.1) same cause.2
      (λ input. cause.1)

  -- ---- with a configuration

  module _ (conf : Configuration) (configured : HasRead shelf words Conf (IsConfRead needs) conf) where
    -- the request is refused
    pub request_stopped : (stop : Stop) → Same → IfRefusedFor shelf words Request IsRequestRefused OfRequest stop → IfOutcome (Err stop) HasFilesOutcome
    request_stopped Memory same has = tt
    request_stopped ReadFailed same has = tt
    request_stopped (IsRefused refusal) same has =
        let wanted = some_named shelf words Wanted in
        let script = some_named shelf words Script in
        let other = some_named shelf words Other in
        let cause = has.holds in
        refused_early OfRequest (file_names configured.found has.found wanted.0 script.0 other.0) cause.0 refusal request_early
        (all_there configured.found has.found wanted.0 script.0 other.0 configured.known has.known wanted.1 script.1 other.1) same cause.2 (λ input. ((conf, configured.holds), cause.1))

    -- ---- with a request, or none

    module _ (related : Option Message) (requested : HasRead shelf words Request IsRequested related) where
      -- the message that wishes signatures is refused
      pub wishes_stopped : (stop : Stop) → Same → IfRefusedFor shelf words Wanted IsWantedRefused OfWanted stop → IfOutcome (Err stop) HasFilesOutcome
      wishes_stopped Memory same has = tt
      wishes_stopped ReadFailed same has = tt
      wishes_stopped (IsRefused refusal) same has =
          let script = some_named shelf words Script in
          let other = some_named shelf words Other in
          let cause = has.holds in
          refused_early OfWanted (file_names configured.found requested.found has.found script.0 other.0) cause.0 refusal wanted_early
          (all_there configured.found requested.found has.found script.0 other.0 configured.known requested.known has.known script.1 other.1) same cause.2
          (λ input. (record { conf = (conf, configured.holds); request = (related, requested.holds) }, cause.1))

      -- ---- with wishes, or none

      module _ (wishes : Option Message) (wanted : HasRead shelf words Wanted IsWanted wishes) where
        -- the script is refused
        pub script_stopped : (stop : Stop) → Same → IfRefusedFor shelf words Script IsScriptRefused OfScript stop → IfOutcome (Err stop) HasFilesOutcome
        script_stopped Memory same has = tt
        script_stopped ReadFailed same has = tt
        script_stopped (IsRefused refusal) same has =
            let other = some_named shelf words Other in
            let cause = has.holds in
            refused_early OfScript (file_names configured.found requested.found wanted.found has.found other.0) cause.0 refusal script_early
            (all_there configured.found requested.found wanted.found has.found other.0 configured.known requested.known wanted.known has.known other.1) same cause.2
            (λ input. (record { before = record { conf = (conf, configured.holds); request = (related, requested.holds) }; wishes = (wishes, wanted.holds) }, cause.1))

        -- ---- with a script

        module _ (script : List Rewrite) (scripted : HasRead shelf words Script IsScripted script) where
          abbrev pub files : FileValues
          files = record { conf = conf; related = related; wishes = wishes; script = script }

          abbrev texts_with : Option (List ℕ) → Found
          texts_with other = file_names configured.found requested.found wanted.found scripted.found other

          to_script : (other : Option (List ℕ)) → IsReadToScript needs (names_of words) (texts_with other)
          to_script other = record {
            before = record { before = record { conf = (conf, configured.holds); request = (related, requested.holds) }; wishes = (wishes, wanted.holds) };
            script = (script, scripted.holds);
          }

          record_read : (found : Option (List ℕ)) (input : List ℕ) (outcome : Outcome) → ReportsRecord Then files (names_of words Other) found input outcome
              → ReportsFiles needs Then (names_of words) (texts_with found) input outcome
          record_read found input outcome (inr (cause, refused, same)) =
              inr (Of OfOther cause, (to_script found, record { related = related; requested = requested.holds; refused = refused }), same)
          record_read found input outcome (inl (other, is_other, inl (message, is, then))) =
              inl (
                taken_with files other message,
                record { conf = configured.holds; requested = requested.holds; wanted = wanted.holds; scripted = scripted.holds; recorded = is_other; is = is; context_is = refl },
                then,
              )
          record_read found input outcome (inl (other, is_other, inr (cause, refused, same))) =
              inr (Of Input cause, (to_script found, record { related = related; requested = requested.holds; recorded = (other, is_other); refused = refused }), same)

          -- what comes of the other record, and of the input
          pub all_read : (result : Result Outcome Stop) (borrowed : FileValues) (later : Option FileMap) → borrowed ≡ files → KeepsFiles shelf later
              → IfOutcome result (λ outcome. HasFound later (names_of words Other) (λ found. HasInput (ReportsRecord Then borrowed (names_of words Other) found) (LeavesInput Same before now) before outcome))
              → IfOutcome result HasFilesOutcome
          all_read result borrowed later same keeps =
              went_on (λ outcome has. record {
                found = texts_with has.found;
                files = all_there configured.found requested.found wanted.found scripted.found has.found configured.known requested.known wanted.known scripted.known
                    (found_before shelf later (names_of words Other) has.found keeps has.known);
                holds = record {
                  input = has.holds.input;
                  known = has.holds.known;
                  reports = record_read has.found has.holds.input outcome
                      (subst (λ (v : FileValues). ReportsRecord Then v (names_of words Other) has.found has.holds.input outcome) same has.holds.reports);
                  leaves = has.holds.leaves;
                };
              }) result

-- ---- the other record of a message, and what comes after it

module _ (Then : Answers) (files : FileValues) (name : Option (List ℕ)) (shelf : Option FileMap) (Same : Type 0) (before now : Option (List ℕ)) where
  -- a run that comes to an outcome with what was found for the record
  abbrev pub HasRecordOutcome : Outcome → Type 0
  HasRecordOutcome outcome = HasFound shelf name (λ found. HasInput (ReportsRecord Then files name found) (LeavesInput Same before now) before outcome)

  -- the record is refused
  pub record_stopped : (stop : Stop) → Same
      → IfStopped stop (λ refusal. HasFound shelf name (λ found. IsRefusalFor (IsMessageFileRefused (reading_for files.related) name found) (λ cause. Of OfOther cause) refusal))
      → IfOutcome (Err stop) HasRecordOutcome
  record_stopped Memory same has = tt
  record_stopped ReadFailed same has = tt
  record_stopped (IsRefused refusal) same has =
      let input = some_input before in
      let cause = has.holds in
      record {
        found = has.found;
        known = has.known;
        holds = record {
          input = input.0;
          known = input.1;
          reports = inr (cause.0, cause.1, ap (λ (r : Refusal). Refused r) cause.2);
          leaves = subst (λ (r : Refusal). LeavesInput Same before now (Refused r)) (sym cause.2) (other_early MAX_INPUT_BYTES Same before now cause.0 same);
        };
      }

  -- the record is read
  pub record_had : (other : Option Message) (result : Result Outcome Stop) (borrowed : Option Message) → borrowed ≡ other
      → HasFound shelf name (λ found. IsMessageFile (reading_for files.related) name found other) → IfOutcome result (HasInput (ReportsMessage Then files borrowed) (LeavesInput Same before now) before)
      → IfOutcome result HasRecordOutcome
  record_had other result borrowed same has =
      went_on (λ outcome reported. record {
        found = has.found;
        known = has.known;
        holds = record {
          input = reported.input;
          known = reported.known;
          reports = inl (other, has.holds, subst (λ (m : Option Message). ReportsMessage Then files m reported.input outcome) same reported.reports);
          leaves = reported.leaves;
        };
      }) result

-- a message that is read as one that answers the request may answer it
pub other_answers : (name : Option (List ℕ)) (found : Option (List ℕ)) (related other : Option Message) → IsMessageFile (reading_for related) name found other → HasOther name related other
other_answers None found related None is = refl
other_answers None found related (Some other) is = absurd (cc is)
other_answers (Some name) found related None is = absurd is
other_answers (Some name) None related (Some other) is = absurd is
other_answers (Some name) (Some text) related (Some other) is = (spelled_input related text other is).is

-- a request is there where its file has a name
pub has_requested : (name found : Option (List ℕ)) (related : Option Message) → IsMessageFile one_request name found related → HasRequested name related
has_requested None found related is = tt
has_requested (Some name) found None is = absurd is
has_requested (Some name) found (Some request) is = refl

-- files that are kept twice are kept
pub keeps_both : (before middle now : Option FileMap) → KeepsFiles before middle → KeepsFiles middle now → KeepsFiles before now
keeps_both None middle now keeps also = tt
keeps_both (Some files) middle now keeps also = subst (λ (shelf : Option FileMap). KeepsFiles shelf now) keeps also

-- ---- how many files, and how many bytes of them, are asked for, where none is that isn't named

-- what a named file adds, and nothing where none is named
abbrev pub weighed : {X : Type 0} → ℕ → Option X → ℕ
weighed weight None = 0
weighed weight (Some x) = weight

nothing_more : (n : ℕ) → n ≡ 0 + n
nothing_more n = omega arith

one_more : (n : ℕ) → suc n ≡ 1 + n
one_more n = omega arith

-- of files of these roles, one after the other
pub count_step : (names : FileNames) (role : FileRole) (roles : List FileRole) → named_count names (role ∷ roles) ≡ weighed 1 (names role) + named_count names roles
count_step names role roles = by_name (names role) refl where
  by_name : (name : Option (List ℕ)) → names role ≡ name → named_count names (role ∷ roles) ≡ weighed 1 name + named_count names roles
  by_name None is = rw is (nothing_more (named_count names roles))
  by_name (Some x) is = rw is (one_more (named_count names roles))

pub bytes_step : (names : FileNames) (role : FileRole) (roles : List FileRole) → named_bytes names (role ∷ roles) ≡ weighed (file_limit role + 1) (names role) + named_bytes names roles
bytes_step names role roles = by_name (names role) refl where
  by_name : (name : Option (List ℕ)) → names role ≡ name → named_bytes names (role ∷ roles) ≡ weighed (file_limit role + 1) name + named_bytes names roles
  by_name None is = rw is (nothing_more (named_bytes names roles))
  by_name (Some x) is = rw is (sum_by-cons (λ one. file_limit one + 1) role (filter (λ one. is_some (names one)) roles))

pub one_counted : {X S : Type 0} (asked : S → ℕ) (f : X → List ℕ) (weight : ℕ) (name : Option X) (before now : S) → IfNone name (now ≡ before) → asked now ≤ asked before + weight
    → asked now ≤ asked before + weighed weight (option_map f name)
one_counted asked f weight None before now same one = omega (arith, ap asked same)
one_counted asked f weight (Some x) before now same one = one

pub not_named : {X S : Type 0} (f : X → List ℕ) (name : Option X) (before now : S) → option_map f name ≡ None → IfNone name (now ≡ before) → now ≡ before
not_named f None before now none same = same
not_named f (Some x) before now none same = absurd (cc none)

pub never : {X : Type 0} {P : Type 0} (x : X) → Some x ≡ None → P
never x e = absurd cc

pub never_read : {P : Type 0} (limit : ℕ) → Whole limit ≡ Unread → P
never_read limit e = absurd cc

-- ---- what is written

-- a status of a run that wrote all of its output
is_whole : Status → Bool
is_whole ReadFault = false
is_whole WriteFault = false
is_whole OutOfMemory = false
is_whole status = true

whole_ends : (arguments : List (List ℕ)) (shelf : Option FileMap) (Same : Type 0) (before left taken now : Option (List ℕ)) (outcome : Outcome) (status : Status) → is_whole status ≡ true
    → HasReport arguments shelf Same before left outcome → status_of outcome ≡ status → Appends taken now (output_of outcome) → list_all is_byte (output_of outcome) ≡ true
    → Ends arguments shelf Same before left taken now status
unfolding is_whole
whole_ends arguments shelf Same before left taken now outcome Success is has same all bytes = (outcome, has, same, all, bytes)
whole_ends arguments shelf Same before left taken now outcome Failure is has same all bytes = (outcome, has, same, all, bytes)
whole_ends arguments shelf Same before left taken now outcome BadArguments is has same all bytes = (outcome, has, same, all, bytes)
whole_ends arguments shelf Same before left taken now outcome BadInput is has same all bytes = (outcome, has, same, all, bytes)
whole_ends arguments shelf Same before left taken now outcome ReadFault is has same all bytes = absurd cc
whole_ends arguments shelf Same before left taken now outcome WriteFault is has same all bytes = absurd cc
whole_ends arguments shelf Same before left taken now outcome OutOfMemory is has same all bytes = absurd cc
whole_ends arguments shelf Same before left taken now outcome BadConf is has same all bytes = (outcome, has, same, all, bytes)
whole_ends arguments shelf Same before left taken now outcome LimitPassed is has same all bytes = (outcome, has, same, all, bytes)
whole_ends arguments shelf Same before left taken now outcome FileMissing is has same all bytes = (outcome, has, same, all, bytes)

whole_refusal : (status : Status) → IsOfRefusal status → is_whole status ≡ true
unfolding is_whole
whole_refusal Success is = absurd is
whole_refusal Failure is = absurd is
whole_refusal BadArguments is = refl
whole_refusal BadInput is = refl
whole_refusal ReadFault is = absurd is
whole_refusal WriteFault is = absurd is
whole_refusal OutOfMemory is = absurd is
whole_refusal BadConf is = refl
whole_refusal LimitPassed is = refl
whole_refusal FileMissing is = refl

-- the status of an outcome is one
whole_status : (outcome : Outcome) → is_whole (status_of outcome) ≡ true
unfolding is_whole
whole_status (Done text) = refl
whole_status (NotOk text) = refl
whole_status (Refused refusal) = whole_refusal (refusal_status refusal) (status_of_refusal refusal)

-- an outcome that was written whole ends the run with its status
pub written_outcome : (arguments : List (List ℕ)) (shelf : Option FileMap) (Same : Type 0) (before left taken now : Option (List ℕ)) (outcome : Outcome) (status : Status)
    → HasReport arguments shelf Same before left outcome → status ≡ status_of outcome → Appends taken now (output_of outcome) → list_all is_byte (output_of outcome) ≡ true
    → Ends arguments shelf Same before left taken now status
written_outcome arguments shelf Same before left taken now outcome status has is all bytes =
    whole_ends arguments shelf Same before left taken now outcome status (subst (λ (s : Status). is_whole s ≡ true) (sym is) (whole_status outcome)) has (sym is) all bytes

-- ---- the counts of faults, where an outcome was written whole

pub not_read_fault : (outcome : Outcome) → status_of outcome ≡ ReadFault → ⊥
unfolding is_whole
not_read_fault outcome same = false≢true (sym (ap is_whole same) ∙ whole_status outcome)
