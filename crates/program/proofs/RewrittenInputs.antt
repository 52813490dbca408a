-- What `rewrite` writes under a label has the verdict on it that the message had that was read.
use Rattle.std.proofs.Common.{◌≡◌, ◌≤◌, ℕ, Bool, Option, Some, None, List, [], ◌∷◌, length, refl, sym, subst, inl, inr}
use Rattle.std.specs.Prelude.{IsTrue, not}
use Rattle.std.specs.List.{list_any}
use Rattle.command_line.specs.Command.{CommandLine, Rewrite, Verify, RewriteWords, VerifyWords, IsCommand}
use Rattle.command_line.proofs.CommandLaws.{one_command}
use Rattle.framing.specs.Framings.{is_request}
use Rattle.msg_body.specs.Messages.{Message, Spells, is_expected}
use Rattle.component_values.specs.Context.{MessageContext, answers_head}
use Rattle.conf.specs.Configuration.{Configuration}
use Rattle.rewrite_script.specs.declared.rewrite.Rewrite.{Rewrite as Rewriting}
use Rattle.whole_rewrites.specs.Laws.{IsReadAs}
use Rattle.rewrites.specs.Laws.{rests_on_conf}
use Rattle.rewrites.specs.Steps.{Steps}
use Rattle.rewrites.proofs.Kept.{keeps_over_steps}
use Rattle.verdicts.specs.Verdicts.{IsVerdict}
use Rattle.verdicts.specs.declared.outcome.Verdict.{Verdict}
use Rattle.intake.specs.Configured.{IsConfigured}
use Rattle.verdicts.specs.Contexts.{context_for}
use Rattle.intake.specs.Files.{Found, Conf as ConfFile, Request as RequestFile, Script as ScriptFile}
use Rattle.intake.specs.Messages.{IsInputMessage}
use Rattle.msg_body.specs.WholeTexts.{IsWhole, reading_for}
use Rattle.intake.specs.MessageFiles.{IsRequested}
use Rattle.commands.specs.Rewrite.{IsTaken, ReportsRewriting}
use Rattle.intake.specs.Scripts.{IsScripted}
use Rattle.commands.specs.Verify.{ReportsVerdicts}
use Rattle.verdicts.specs.Verification.{verification_for}
use Rattle.commands.specs.declared.outcome.Outcome.{Outcome}
use Rattle.commands.specs.declared.outcome.Outcome.TheVariants.{Done}
use Rattle.intake.specs.declared.tables.Needs.TheVariants.{Nothing}
use Rattle.refusals.specs.declared.refusal.Refusal.{Refusal}
use Rattle.refusals.specs.declared.refusal.Refusal.TheVariants.{Arguments, Of, Command}
use Rattle.refusals.specs.declared.refusal.TheConstants.{MAX_INPUT_BYTES}
use Rattle.refusals.specs.declared.role.Role.TheVariants.{Conf, Request, Wanted, Script, Other, Input, Item}
use Rattle.program.specs.Commands.{name_of}
use Rattle.program.specs.Intake.{IsIntake, IsIntakeRefused, TakenValues}
use Rattle.program.specs.Laws.{IsVerdictKept}
use Rattle.program.specs.Meanings.{HasRewritten}
use Rattle.program.specs.Report.{Reports, ReportsCommand}
use Rattle.program.proofs.Sources.{spelled_input}
use Rattle.program.proofs.SignedInputs.{input_not_refused, label_verdict, short_of, taken_context, to_head_is}
use Rattle.program.proofs.CommandLaws.{message_where_rewritten, values_where_scripted, verdict_where_rewritten, writable_where_scripted}

-- ---- what `rewrite` read

-- the parts of a message that was rewritten
record IsRewritten (words : RewriteWords) (found : Found) (input written : List ℕ) : Type 0 where
  related : Option Message
  requested : IsRequested words.request (found RequestFile) related
  script : List Rewriting
  scripted : IsScripted (Some words.script) (found ScriptFile) script
  message : Message
  is : IsInputMessage (reading_for related) input message
  conf : Configuration
  configured : IsConfigured words.conf (found ConfFile) conf
  reports : ReportsRewriting words.label script (context_for conf message related) (Done written)

of_files : (words : RewriteWords) (found : Found) (input written : List ℕ) → ReportsCommand (Rewrite words) found input (Done written) → IsRewritten words found input written
of_files words found input written (inr cause) = absurd (cc cause.2)
of_files words found input written (inl (taken, is, reports)) = record {
  related = taken.context.related;
  requested = is.requested;
  script = taken.script;
  scripted = is.scripted;
  message = taken.context.message;
  is = is.is;
  conf = taken.conf;
  configured = is.conf.configured;
  reports = subst (λ (context : MessageContext). ReportsRewriting words.label taken.script context (Done written)) is.context_is reports;
}

rewritten_parts : (arguments : List (List ℕ)) (words : RewriteWords) (found : Found) (input written : List ℕ) → IsCommand arguments (Rewrite words) → Reports arguments found input (Done written)
    → IsRewritten words found input written
rewritten_parts arguments words found input written is (inr cause) = absurd (cc cause.2)
rewritten_parts arguments words found input written is (inl (command, spells, reports)) =
    of_files words found input written (subst (λ (c : CommandLine). ReportsCommand c found input (Done written)) (one_command arguments command (Rewrite words) spells is) reports)

-- ---- what `verify` reads

-- what was written is a message of the same kind
whole_is : (related : Option Message) (input written : List ℕ) (message after : Message) → IsInputMessage (reading_for related) input message → Spells (answers_head related) after written
    → is_request after.head.start ≡ is_request message.head.start → IsWhole (reading_for related) written after
whole_is related input written message after is spells kind = record {
  expected = expected related is.whole.expected;
  spells = subst (λ (to_head : Bool). Spells to_head after written) (sym (to_head_is related)) spells;
} where
  expected : (r : Option Message) → IsTrue (is_expected (reading_for r).expect message.head.start) → IsTrue (is_expected (reading_for r).expect after.head.start)
  expected None was = refl
  expected (Some request) was = subst (λ (b : Bool). IsTrue (not b)) (sym kind) was

-- where the label has the same verdict, `verify` comes to the same
verdicts_same : (words : VerifyWords) (conf : Configuration) (label : List ℕ) (context other : MessageContext) (outcome : Outcome) → words.label ≡ Some label
    → ((verdict : Verdict) → IsVerdict (verification_for conf words.now context label) verdict → IsVerdict (verification_for conf words.now other label) verdict)
    → ReportsVerdicts words.label words.now conf context outcome → ReportsVerdicts words.label words.now conf other outcome
verdicts_same words conf label context other outcome asked same reports =
    let one = label_verdict words.label words.now conf context outcome label asked reports in
    subst (λ (l : Option (List ℕ)). ReportsVerdicts l words.now conf other outcome) (sym asked)
    (record { labels = label ∷ []; asked = refl; verdicts = one.0 ∷ []; are = (same one.0 one.1, tt); outcome_is = one.2 })

-- ---- both

module _ (verified : VerifyWords) (label : List ℕ) (asked : verified.label ≡ Some label) (found : Found) (related : Option Message) (requested : IsRequested verified.request (found RequestFile) related)
    (input other : List ℕ) (message after : Message) (short : length input ≤ MAX_INPUT_BYTES) (whole : IsWhole (reading_for related) input message) (also : IsInputMessage (reading_for related) other after)
    (same : (conf : Configuration) → IsConfigured (Some verified.conf) (found ConfFile) conf → (verdict : Verdict) → IsVerdict (verification_for conf verified.now (context_for conf message related) label) verdict
    → IsVerdict (verification_for conf verified.now (context_for conf after related) label) verdict) where
  -- what is refused before the input is
  refused_same : (refusal : Refusal) → IsIntakeRefused Nothing (name_of (Verify verified)) found input refusal → IsIntakeRefused Nothing (name_of (Verify verified)) found other refusal
  refused_same Arguments un = un
  refused_same (Command r) un = un
  refused_same (Of (Item i) r) un = un
  refused_same (Of Conf r) un = un
  refused_same (Of Request r) un = un
  refused_same (Of Wanted r) un = un
  refused_same (Of Script r) un = un
  refused_same (Of Other r) un = un
  refused_same (Of Input r) un = absurd (input_not_refused verified found input related message requested short whole r un)

  -- what is taken of the other input
  taken_other : (taken : TakenValues) → IsIntake Nothing (name_of (Verify verified)) found input taken
      → IsIntake Nothing (name_of (Verify verified)) found other (record { conf = taken.conf; wishes = taken.wishes; script = taken.script; other = taken.other; context = context_for taken.conf after related })
  taken_other taken is = record { conf = is.conf; requested = requested; wanted = is.wanted; scripted = is.scripted; recorded = is.recorded; is = also; context_is = refl }

  command_same : (outcome : Outcome) → ReportsCommand (Verify verified) found input outcome → ReportsCommand (Verify verified) found other outcome
  command_same outcome (inr (refusal, un, refused)) = inr (refusal, refused_same refusal un, refused)
  command_same outcome (inl (taken, is, reports)) =
      let own : ReportsVerdicts verified.label verified.now taken.conf (context_for taken.conf message related) outcome =
      subst (λ (context : MessageContext). ReportsVerdicts verified.label verified.now taken.conf context outcome) (taken_context verified found input related message requested short whole taken is) reports in
      inl (
        record { conf = taken.conf; wishes = taken.wishes; script = taken.script; other = taken.other; context = context_for taken.conf after related },
        taken_other taken is,
        verdicts_same verified taken.conf label (context_for taken.conf message related) (context_for taken.conf after related) outcome asked (same taken.conf is.conf.configured) own,
      )

  reports_same : (arguments : List (List ℕ)) (outcome : Outcome) → IsCommand arguments (Verify verified) → Reports arguments found input outcome → Reports arguments found other outcome
  reports_same arguments outcome spells (inr cause) = absurd (cause.1 (Verify verified) spells)
  reports_same arguments outcome spells (inl (command, is_command, reports)) =
      inl (
        Verify verified,
        spells,
        command_same outcome (subst (λ (c : CommandLine). ReportsCommand c found input outcome) (one_command arguments command (Verify verified) is_command spells) reports),
      )

pub verdict_kept : IsVerdictKept
verdict_kept rewriting verifying rewritten verified label found other input written outcome is also same request alike wrote =
    let parts = rewritten_parts rewriting rewritten found input written is wrote in
    let context = context_for parts.conf parts.message parts.related in
    let spelled = spelled_input parts.related input parts.message parts.is in
    let end = message_where_rewritten rewritten.label parts.script context input written spelled parts.reports in
    let writable = writable_where_scripted (Some rewritten.script) (found ScriptFile) parts.script parts.scripted in
    let reports : ReportsRewriting (Some label) parts.script context (Done written) =
    subst (λ (l : Option (List ℕ)). ReportsRewriting l parts.script context (Done written)) same.label_of parts.reports in
    let values = values_where_scripted (Some rewritten.script) (found ScriptFile) parts.script parts.scripted in
    let agree : (conf : Configuration) → IsConfigured (Some verified.conf) (other ConfFile) conf → IsTrue (list_any rests_on_conf parts.script)
    → IsReadAs context (context_for conf parts.message parts.related) =
    λ conf configured rests. alike (parts.script, parts.scripted, rests) parts.conf conf parts.configured configured in
    let kept = λ (conf : Configuration) (configured : IsConfigured (Some verified.conf) (other ConfFile) conf).
    verdict_where_rewritten label parts.script context input written end.after conf writable values (agree conf configured) spelled reports end.spells in
    let requested : IsRequested verified.request (other RequestFile) parts.related =
    subst (λ (text : Option (List ℕ)). IsRequested verified.request text parts.related) (sym request)
    (subst (λ (name : Option (List ℕ)). IsRequested name (found RequestFile) parts.related) (sym same.request) parts.requested) in
    let whole = whole_is parts.related input written parts.message end.after parts.is end.spells end.kind in
    let short = short_of (answers_head parts.related) end.after written end.spells in (
      reports_same verified label same.label_is other parts.related requested written input end.after parts.message short whole parts.is
          (λ conf configured verdict. (kept conf configured conf verified.now None verdict).1) verifying outcome also,
      λ bytes.
          reports_same verified label same.label_is other parts.related requested input written parts.message end.after parts.is.within parts.is.whole (record { are_bytes = bytes; within = short; whole = whole })
          (λ conf configured verdict. (kept conf configured conf verified.now None verdict).0) verifying outcome also,
    )

-- the message after the steps, and what it keeps of the label's signature
pub has_rewritten : HasRewritten
has_rewritten arguments words found input written is wrote =
    let parts = rewritten_parts arguments words found input written is wrote in
    let context = context_for parts.conf parts.message parts.related in
    let end = message_where_rewritten words.label parts.script context input written (spelled_input parts.related input parts.message parts.is) parts.reports in
    let writable = writable_where_scripted (Some words.script) (found ScriptFile) parts.script parts.scripted in
    let values = values_where_scripted (Some words.script) (found ScriptFile) parts.script parts.scripted in
    record {
      conf = parts.conf;
      configured = parts.configured;
      related = parts.related;
      requested = parts.requested;
      script = parts.script;
      scripted = parts.scripted;
      message = parts.message;
      is = parts.is;
      written = end.after;
      spells = end.spells;
      kind = end.kind;
      steps = end.steps;
      kept = λ label params tag asked has.
          keeps_over_steps context parts.script label params tag end.after writable values has
          (subst (λ (l : Option (List ℕ)). Steps (IsTaken l) context parts.script end.after) asked end.steps);
    }
