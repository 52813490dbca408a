-- What `sign` writes is accepted by `verify`, or fails a rule of the policy.
use Rattle.std.proofs.Common.{◌≡◌, ◌<◌, ◌≤◌, ◌^◌, ℕ, Bool, true, ◌&&◌, nat_lt, nat_le, Option, Some, None, List, [], ◌∷◌, codes, length, refl, sym, ap, subst, ◌∙◌, inl, inr, arith}
use Rattle.std.specs.Prelude.{IfSome, IsSomeAnd, IsTrue}
use Rattle.std.specs.List.{list_all}
use Rattle.std.specs.Str.Parse.{digits_value}
use Rattle.std.proofs.lemmas.Bool.{and_parts, cases_Bool}
use Rattle.sfv_text.specs.Keys.{value_of}
use Rattle.sfv_text.specs.Range.{is_string_byte}
use Rattle.command_line.specs.Command.{CommandLine, Sign, Verify, SignWords, VerifyWords, IsCommand, SpellsSign}
use Rattle.command_options.specs.Options.{is_moment, may_have}
use Rattle.command_line.proofs.CommandLaws.{one_command}
use Rattle.command_options.proofs.Moments.{is_below}
use Rattle.command_options.proofs.OptionLists.{value_had, word_had}
use Rattle.nonces.specs.declared.limits.TheConstants.{MAX_MOMENT, MAX_NONCE_BYTES}
use Rattle.msg_body.specs.Messages.{Message, Spells}
use Rattle.component_values.specs.Context.{MessageContext, answers_head}
use Rattle.component_values.specs.Values.{HaveValues}
use Rattle.conf.specs.Configuration.{Configuration}
use Rattle.verdicts.specs.Laws.{IsRightlySigned, is_rule_of_signing}
use Rattle.verdicts.specs.Rules.{key_in}
use Rattle.verdicts.specs.Verdicts.{IsVerdict}
use Rattle.verdicts.specs.Verification.{Verification}
use Rattle.verdicts.specs.declared.outcome.Verdict.{Verdict}
use Rattle.verdicts.specs.declared.outcome.Verdict.TheVariants.{Ok as Accepted, Rule as Failing}
use Rattle.verdicts.proofs.RightlySigned.{holds_rules_of_signing}
use Rattle.intake.specs.Configured.{IsConfigured}
use Rattle.verdicts.specs.Contexts.{context_for}
use Rattle.intake.specs.Files.{Found, Conf as ConfFile, Request as RequestFile, Wanted as WantedFile}
use Rattle.settings.specs.Valid.{IsValid}
use Rattle.intake.specs.Messages.{IsInputMessage, IsInputRefused}
use Rattle.msg_body.proofs.OneMessages.{one_message_law}
use Rattle.msg_body.proofs.WholeTexts.{no_fault_of_whole}
use Rattle.msg_body.specs.WholeTexts.{IsWhole, reading_for}
use Rattle.msg_body.specs.declared.whole.Reading.{Reading}
use Rattle.intake.specs.MessageFiles.{IsRequested, IsWanted}
use Rattle.commands.specs.Sign.{ReportsSigning}
use Rattle.commands.specs.SignedMessages.{SignsAs}
use Rattle.commands.specs.Verify.{AreVerdicts, ReportsVerdicts, verdicts_outcome}
use Rattle.verdicts.specs.Verification.{verification_for}
use Rattle.commands.specs.declared.outcome.Outcome.{Outcome}
use Rattle.commands.specs.declared.outcome.Outcome.TheVariants.{Done}
use Rattle.intake.specs.declared.tables.Needs.TheVariants.{Nothing}
use Rattle.refusals.specs.declared.file.FileRefusal.{FileRefusal}
use Rattle.refusals.specs.declared.file.FileRefusal.TheVariants.{Missing, TooLong, Message as NoMessage, Conf as NoConf, Script as NoScript, Recording as NoRecording, Order, TooManyHops, OutOfPlace, TooManyItems, Fields}
use Rattle.refusals.specs.declared.refusal.Refusal.{Refusal}
use Rattle.refusals.specs.declared.refusal.Refusal.TheVariants.{Arguments, Of, Command}
use Rattle.refusals.specs.declared.role.Role.TheVariants.{Conf, Request, Wanted, Script, Other, Input, Item}
use Rattle.refusals.specs.declared.refusal.TheConstants.{MAX_INPUT_BYTES}
use Rattle.program.specs.Commands.{name_of}
use Rattle.program.specs.Intake.{IsIntake, IsIntakeRefused, TakenValues}
use Rattle.program.specs.Laws.{IsAcceptedWhereSigned, IsOkOrPolicy, KnowsSigner, VerifiesSigned}
use Rattle.program.specs.Meanings.{HasSigned, TellsSigned}
use Rattle.program.specs.Report.{Reports, ReportsCommand}
use Rattle.program.proofs.IntakeLaws.{conf_not}
use Rattle.program.proofs.Sources.{spelled_input}
use Rattle.program.proofs.CommandLaws.{conf_decided, request_decided, wanted_decided, valid_where_configured, kept_where_signed, message_where_signed, right_where_signed}

-- ---- the words of `sign`

pub signs_timely : (arguments : List (List ℕ)) (words : SignWords) → SpellsSign arguments words → words.now ≤ MAX_MOMENT
signs_timely arguments words spells = of_option (value_of spells.options (codes "--now")) refl spells.now_is where
  of_option : (o : Option (List ℕ)) → value_of spells.options (codes "--now") ≡ o → IsSomeAnd o (λ digits. words.now ≡ digits_value 10 digits) → words.now ≤ MAX_MOMENT
  of_option None there is = absurd is
  of_option (Some digits) there is =
      let moment : is_moment digits ≡ true = value_had (codes "--now") digits spells.options spells.are.had there in
      let below : digits_value 10 digits < 10 ^ 15 = is_below digits moment in
      omega (arith, is, below)

pub signs_characters : (arguments : List (List ℕ)) (words : SignWords) → SpellsSign arguments words → IfSome words.nonce (λ text. IsTrue (list_all is_string_byte text))
signs_characters arguments words spells = of_option words.nonce (word_had (codes "--nonce") spells.options words.nonce spells.are.had spells.nonce_is) where
  of_option : (o : Option (List ℕ)) → IfSome o (λ word. may_have (codes "--nonce") word ≡ true) → IfSome o (λ text. IsTrue (list_all is_string_byte text))
  of_option None had = tt
  of_option (Some text) had =
      let both = and_parts (nat_lt 0 (length text)) (nat_le (length text) MAX_NONCE_BYTES && list_all is_string_byte text) had in
      (and_parts (nat_le (length text) MAX_NONCE_BYTES) (list_all is_string_byte text) both.1).1

-- ---- what `sign` read

-- the parts of a message that was signed
record IsSigned (words : SignWords) (found : Found) (input written : List ℕ) : Type 0 where
  conf : Configuration
  configured : IsConfigured (Some words.conf) (found ConfFile) conf
  related : Option Message
  requested : IsRequested words.request (found RequestFile) related
  wishes : Option Message
  wanted : IsWanted words.wanted (found WantedFile) wishes
  message : Message
  is : IsInputMessage (reading_for related) input message
  reports : ReportsSigning words.nonce words.now conf wishes (context_for conf message related) (Done written)

of_files : (words : SignWords) (found : Found) (input written : List ℕ) → ReportsCommand (Sign words) found input (Done written) → IsSigned words found input written
of_files words found input written (inr cause) = absurd (cc cause.2)
of_files words found input written (inl (taken, is, reports)) = record {
  conf = taken.conf;
  configured = is.conf.configured;
  related = taken.context.related;
  requested = is.requested;
  wishes = taken.wishes;
  wanted = is.wanted;
  message = taken.context.message;
  is = is.is;
  reports = subst (λ (context : MessageContext). ReportsSigning words.nonce words.now taken.conf taken.wishes context (Done written)) is.context_is reports;
}

signed_parts : (arguments : List (List ℕ)) (words : SignWords) (found : Found) (input written : List ℕ) → IsCommand arguments (Sign words) → Reports arguments found input (Done written)
    → IsSigned words found input written
signed_parts arguments words found input written is (inr cause) = absurd (cc cause.2)
signed_parts arguments words found input written is (inl (command, spells, reports)) =
    of_files words found input written
    (subst (λ (c : CommandLine). ReportsCommand c found input (Done written)) (one_command arguments command (Sign words) spells is) reports)

-- ---- what `verify` reads

pub to_head_is : (related : Option Message) → (reading_for related).to_head ≡ answers_head related
to_head_is None = refl
to_head_is (Some request) = refl

-- what was written is a message of the same kind, and so isn't refused as an input
pub not_refused : (reading : Reading) (written : List ℕ) (message : Message) (refusal : FileRefusal) → length written ≤ MAX_INPUT_BYTES → IsWhole reading written message → IsInputRefused reading written refusal → ⊥
not_refused reading written message Missing short is refused = refused
not_refused reading written message (NoConf f) short is refused = refused
not_refused reading written message (NoScript f) short is refused = refused
not_refused reading written message (NoRecording f) short is refused = refused
not_refused reading written message (Order i) short is refused = refused
not_refused reading written message (TooManyHops i) short is refused = refused
not_refused reading written message (OutOfPlace i) short is refused = refused
not_refused reading written message (TooManyItems i) short is refused = refused
not_refused reading written message (Fields f) short is refused = refused
not_refused reading written message (TooLong n) short is refused = omega (arith, short, refused.1)
not_refused reading written message (NoMessage f) short is refused = no_fault_of_whole reading written message f is refused.1

pub short_of : (to_head : Bool) (message : Message) (written : List ℕ) → Spells to_head message written → length written ≤ MAX_INPUT_BYTES
short_of to_head message written spells = rw spells.text spells.is.short

pub whole_is : (related : Option Message) (input written : List ℕ) (message signed : Message) → IsInputMessage (reading_for related) input message → Spells (answers_head related) signed written
    → signed.head.start ≡ message.head.start → IsWhole (reading_for related) written signed
whole_is related input written message signed is spells start = record {
  expected = rw start is.whole.expected;
  spells = subst (λ (to_head : Bool). Spells to_head signed written) (sym (to_head_is related)) spells;
}

-- the one label has one verdict
pub one_verdict : (conf : Configuration) (moment : ℕ) (context : MessageContext) (label : List ℕ) (verdicts : List Verdict) → AreVerdicts conf moment context (label ∷ []) verdicts
    → (verdict : Verdict) × (verdicts ≡ verdict ∷ []) × IsVerdict (verification_for conf moment context label) verdict
one_verdict conf moment context label [] are = absurd are
one_verdict conf moment context label (verdict ∷ []) are = (verdict, refl, are.0)
one_verdict conf moment context label (verdict ∷ other ∷ more) are = absurd are.1

pub ok_or_policy : (v : Verification) (keyid : List ℕ) (verdict : Verdict) → IsRightlySigned v keyid → IsVerdict v verdict → IsOkOrPolicy verdict
ok_or_policy v keyid (Accepted other) signed is = tt
ok_or_policy v keyid (Failing rule place) signed is = elim (cases_Bool (is_rule_of_signing rule)) [
  | inr policy ↦ policy
  | inl own ↦ absurd (holds_rules_of_signing v keyid rule place signed own is.holds)
]

-- a message that is read is the one that it is known to be
pub read_as : (reading : Reading) (written : List ℕ) (message other : Message) → IsWhole reading written message → IsInputMessage reading written other → other ≡ message
read_as reading written message other whole is = one_message_law reading.to_head written other message is.whole.spells whole.spells

-- the context that `verify` takes for a message that is read
module _ (words : VerifyWords) (found : Found) (input : List ℕ) (related : Option Message) (message : Message) (requested : IsRequested words.request (found RequestFile) related)
    (short : length input ≤ MAX_INPUT_BYTES) (whole : IsWhole (reading_for related) input message) where
  related_is : (taken : TakenValues) → IsIntake Nothing (name_of (Verify words)) found input taken → taken.context.related ≡ related
  related_is taken is = (request_decided words.request (found RequestFile)).value taken.context.related related is.requested requested

  pub taken_context : (taken : TakenValues) → IsIntake Nothing (name_of (Verify words)) found input taken → taken.context ≡ context_for taken.conf message related
  taken_context taken is =
      let same : taken.context.related ≡ related = related_is taken is in
      let one : taken.context.message ≡ message = read_as (reading_for related) input message taken.context.message whole
      (subst (λ (r : Option Message). IsInputMessage (reading_for r) input taken.context.message) same is.is) in
      let parts : context_for taken.conf taken.context.message taken.context.related ≡ context_for taken.conf message related = λ i. context_for taken.conf (one i) (same i) in
      is.context_is ∙ parts

  -- the input isn't refused
  pub input_not_refused : (refusal : FileRefusal) → IsIntakeRefused Nothing (name_of (Verify words)) found input (Of Input refusal) → ⊥
  input_not_refused refusal un =
      let same : un.1.related ≡ related = (request_decided words.request (found RequestFile)).value un.1.related related un.1.requested requested in
      not_refused (reading_for related) input message refusal short whole (subst (λ (r : Option Message). IsInputRefused (reading_for r) input refusal) same un.1.refused)

  -- nor is what comes before it, where the configuration is known
  none_refused : (conf : Configuration) → IsConfigured (Some words.conf) (found ConfFile) conf → (refusal : Refusal) → IsIntakeRefused Nothing (name_of (Verify words)) found input refusal → ⊥
  none_refused conf configured Arguments un = un
  none_refused conf configured (Command r) un = un
  none_refused conf configured (Of (Item i) r) un = un
  none_refused conf configured (Of Conf r) un = conf_not Nothing (Some words.conf) (found ConfFile) r (conf, record { configured = configured; tables = tt }) un
  none_refused conf configured (Of Request r) un = (request_decided words.request (found RequestFile)).either related r requested un.1
  none_refused conf configured (Of Wanted r) un = un.1
  none_refused conf configured (Of Script r) un = un.1
  none_refused conf configured (Of Other r) un = un.1.refused
  none_refused conf configured (Of Input r) un = input_not_refused r un

  -- what `verify` comes to over it
  pub verdicts_of : (conf : Configuration) (outcome : Outcome) → IsConfigured (Some words.conf) (found ConfFile) conf → ReportsCommand (Verify words) found input outcome
      → ReportsVerdicts words.label words.now conf (context_for conf message related) outcome
  verdicts_of conf outcome configured (inr (refusal, un, same)) = absurd (none_refused conf configured refusal un)
  verdicts_of conf outcome configured (inl (taken, is, reports)) =
      let own : ReportsVerdicts words.label words.now taken.conf (context_for taken.conf message related) outcome =
      subst (λ (context : MessageContext). ReportsVerdicts words.label words.now taken.conf context outcome) (taken_context taken is) reports in
      subst (λ (c : Configuration). ReportsVerdicts words.label words.now c (context_for c message related) outcome)
      ((conf_decided (Some words.conf) (found ConfFile)).value taken.conf conf is.conf.configured configured) own

pub verify_parts : (arguments : List (List ℕ)) (words : VerifyWords) (found : Found) (input : List ℕ) (outcome : Outcome) → IsCommand arguments (Verify words) → Reports arguments found input outcome
    → ReportsCommand (Verify words) found input outcome
verify_parts arguments words found input outcome is (inr cause) = absurd (cause.1 (Verify words) is)
verify_parts arguments words found input outcome is (inl (command, spells, reports)) =
    subst (λ (c : CommandLine). ReportsCommand c found input outcome) (one_command arguments command (Verify words) spells is) reports

-- the label's verdict is what comes of it
pub label_verdict : (asked : Option (List ℕ)) (moment : ℕ) (conf : Configuration) (context : MessageContext) (outcome : Outcome) (label : List ℕ) → asked ≡ Some label
    → ReportsVerdicts asked moment conf context outcome
    → (verdict : Verdict) × IsVerdict (verification_for conf moment context label) verdict × (outcome ≡ verdicts_outcome (label ∷ []) (verdict ∷ []))
label_verdict None moment conf context outcome label is reports = absurd (cc is)
label_verdict (Some word) moment conf context outcome label is reports =
    let same : word ≡ label = cc is in
    let labels : reports.labels ≡ label ∷ [] = reports.asked ∙ ap (λ (l : List ℕ). l ∷ []) same in
    let one = one_verdict conf moment context label reports.verdicts (subst (λ (ls : List (List ℕ)). AreVerdicts conf moment context ls reports.verdicts) labels reports.are) in (
      one.0,
      one.2,
      reports.outcome_is ∙ (ap (λ (ls : List (List ℕ)). verdicts_outcome ls reports.verdicts) labels ∙ ap (λ (vs : List Verdict). verdicts_outcome (label ∷ []) vs) one.1),
    )

-- ---- both

module _ (signed : SignWords) (found : Found) (input written : List ℕ) (timely : signed.now ≤ MAX_MOMENT) (characters : IfSome signed.nonce (λ text. IsTrue (list_all is_string_byte text)))
    (parts : IsSigned signed found input written) where
  valid : IsValid parts.conf
  valid = valid_where_configured (Some signed.conf) (found ConfFile) parts.conf parts.configured

  spelled : Spells (answers_head parts.related) parts.message input
  spelled = spelled_input parts.related input parts.message parts.is

  written_message : (message : Message) × Spells (answers_head parts.related) message written × (message.head.start ≡ parts.message.head.start)
  written_message = message_where_signed signed.nonce signed.now parts.conf parts.wishes (context_for parts.conf parts.message parts.related) input written valid timely characters spelled parts.reports

  rightly : (label keyid : List ℕ) → SignsAs parts.conf parts.wishes label keyid → IsRightlySigned (verification_for parts.conf signed.now (context_for parts.conf written_message.0 parts.related) label) keyid
  rightly label keyid signs =
      right_where_signed signed.nonce signed.now parts.conf parts.wishes (context_for parts.conf parts.message parts.related) input written label keyid written_message.0 valid timely characters spelled parts.reports
      signs written_message.1

  told : TellsSigned signed found input written
  told = record {
    conf = parts.conf;
    configured = parts.configured;
    related = parts.related;
    requested = parts.requested;
    wishes = parts.wishes;
    wanted = parts.wanted;
    message = parts.message;
    is = parts.is;
    written = written_message.0;
    spells = written_message.1;
    kept = λ label params tag.
        kept_where_signed signed.nonce signed.now parts.conf parts.wishes (context_for parts.conf parts.message parts.related) input written label params tag written_message.0 valid timely characters spelled parts.reports
        written_message.1;
    right = rightly;
  }

  -- by a configuration with the same scheme, kinds of fields and key
  module _ (verified : VerifyWords) (other : Found) (label keyid : List ℕ) (knows : KnowsSigner signed verified found other label keyid) where
    conf_is : knows.conf ≡ parts.conf
    conf_is = (conf_decided (Some signed.conf) (found ConfFile)).value knows.conf parts.conf knows.configured parts.configured

    wishes_are : knows.wishes ≡ parts.wishes
    wishes_are = (wanted_decided signed.wanted (found WantedFile)).value knows.wishes parts.wishes knows.wanted parts.wanted

    signs : SignsAs parts.conf parts.wishes label keyid
    signs = subst (λ (c : Configuration). SignsAs c parts.wishes label keyid) conf_is (subst (λ (w : Option Message). SignsAs knows.conf w label keyid) wishes_are knows.signs)

    context_is : context_for parts.conf written_message.0 parts.related ≡ context_for knows.next written_message.0 parts.related
    context_is = λ i. record {
      message = written_message.0;
      related = parts.related;
      scheme = (ap (λ (c : Configuration). c.scheme) (sym conf_is) ∙ sym knows.scheme) i;
      types = (ap (λ (c : Configuration). c.types) (sym conf_is) ∙ sym knows.types) i;
    }

    right_by : (moment : ℕ) → IsRightlySigned (verification_for knows.next moment (context_for knows.next written_message.0 parts.related) label) keyid
    right_by moment =
        let is = rightly label keyid signs in
        record {
          params = is.params;
          tag = is.tag;
          signature = is.signature;
          keyid_is = is.keyid_is;
          key = is.key;
          key_is = knows.key ∙ (ap (λ (c : Configuration). key_in c keyid) conf_is ∙ is.key_is);
          values = is.values;
          have = subst (λ (c : MessageContext). HaveValues c is.params.ids is.values) context_is is.have;
          mac = is.mac;
        }

    accepted : (outcome : Outcome) → VerifiesSigned signed verified label → other RequestFile ≡ found RequestFile → ReportsCommand (Verify verified) other written outcome
        → (verdict : Verdict) × IsOkOrPolicy verdict × (outcome ≡ verdicts_outcome (label ∷ []) (verdict ∷ []))
    accepted outcome same request reports =
        let short = short_of (answers_head parts.related) written_message.0 written written_message.1 in
        let requested : IsRequested verified.request (other RequestFile) parts.related =
        subst (λ (text : Option (List ℕ)). IsRequested verified.request text parts.related) (sym request)
        (subst (λ (name : Option (List ℕ)). IsRequested name (found RequestFile) parts.related) (sym same.request) parts.requested) in
        let whole = whole_is parts.related input written parts.message written_message.0 parts.is written_message.1 written_message.2 in
        let verdicts = verdicts_of verified other written parts.related written_message.0 requested short whole knows.next outcome knows.next_configured reports in
        let one = label_verdict verified.label verified.now knows.next (context_for knows.next written_message.0 parts.related) outcome label same.label_is verdicts in
        (one.0, ok_or_policy (verification_for knows.next verified.now (context_for knows.next written_message.0 parts.related) label) keyid one.0 (right_by verified.now) one.1, one.2)

pub has_signed : HasSigned
has_signed arguments words found input output is wrote =
    told words found input output (signs_timely arguments words is) (signs_characters arguments words is) (signed_parts arguments words found input output is wrote)

pub accepted_where_signed : IsAcceptedWhereSigned
accepted_where_signed signing verifying signed verified label keyid found other input written outcome is also same request knows wrote reports =
    let parts = signed_parts signing signed found input written is wrote in
    accepted signed found input written (signs_timely signing signed is) (signs_characters signing signed is) parts verified other label keyid knows outcome same request
    (verify_parts verifying verified other written outcome also reports)
