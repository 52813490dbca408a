-- What a command writes tells what it was made of.
use Rattle.std.proofs.Common.{◌≡◌, ◌⊎◌, ◌∙◌, inl, inr, arith, ℕ, zero, suc, Bool, true, false, Option, Some, None, List, [], ◌∷◌, refl, sym, ap, subst}
use Rattle.std.specs.Prelude.{IfSome, IsSomeAnd, IsTrue, ◌↔◌}
use Rattle.std.specs.Io.KnownBytes.{Appends}
use Rattle.std.specs.List.{Contains, list_all, zip}
use Rattle.hms_io.specs.Files.{FileMap}
use Rattle.hms_io.specs.declared.status.Status.{Status}
use Rattle.hms_io.specs.declared.status.Status.TheVariants.{Done, NotOk}
use Rattle.command_line.specs.Command.{CommandLine, Base, Verify, Explain, Audit, BaseWords, VerifyWords, ExplainWords, AuditWords}
use Rattle.command_line.proofs.CommandLaws.{one_command}
use Rattle.sfv_text.specs.Classes.{is_key}
use Rattle.msg_body.specs.Messages.{Message}
use Rattle.msg_body.specs.WholeTexts.{one_request, reading_for}
use Rattle.component_ids.specs.declared.params.SigParams.{SigParams}
use Rattle.component_values.specs.Context.{MessageContext, context_with}
use Rattle.component_values.specs.Laws.{HasMessages, IsSpelled}
use Rattle.component_values.specs.Values.{HaveValues}
use Rattle.component_values.proofs.FirstLacks.{have_length}
use Rattle.signatures.specs.BaseLaws.{HaveBase}
use Rattle.signatures.specs.SignatureBase.{signature_base}
use Rattle.signatures.proofs.Readings.{one_reading}
use Rattle.conf.specs.Configuration.{Configuration}
use Rattle.verdicts.specs.Contexts.{context_for}
use Rattle.verdicts.specs.Verdicts.{Accepts, IsVerdict, is_accepted}
use Rattle.verdicts.specs.Verification.{Verification, verification_for}
use Rattle.verdicts.specs.declared.outcome.Verdict.{Verdict}
use Rattle.verdicts.specs.declared.outcome.Verdict.TheVariants.{Ok as Accepted}
use Rattle.verdicts.proofs.OneTags.{all_lines, one_tag_agrees}
use Rattle.hop_audit.specs.Lines.{finds_fault, report_text}
use Rattle.hop_audit.specs.declared.line.AuditLine.{AuditLine}
use Rattle.hop_audit.proofs.OneBases.{is_kept_with_its_base_at_hops, tells_what_changed_at_hops}
use Rattle.commands.specs.Audit.{ReportsAudit, audit_outcome}
use Rattle.intake.specs.Configured.{IsConfigured}
use Rattle.commands.specs.Covered.{ReadsParams}
use Rattle.commands.specs.Explain.{ReportsExplanation}
use Rattle.intake.specs.Files.{FileNames, Found, Conf as ConfFile, Request as RequestFile, Other as OtherFile}
use Rattle.intake.specs.MessageFiles.{IsMessageFile, IsRequested}
use Rattle.intake.specs.Messages.{IsInputMessage}
use Rattle.commands.specs.Outcome.{output_of, status_of}
use Rattle.commands.specs.Verify.{AreVerdicts, verdict_lines, verdicts_outcome}
use Rattle.intake.specs.declared.tables.Needs.{Needs}
use Rattle.intake.specs.declared.tables.Needs.TheVariants.{Nothing}
use Rattle.commands.specs.declared.outcome.Outcome.{Outcome}
use Rattle.commands.specs.declared.outcome.Outcome.TheVariants.{Done as Written, NotOk as Counted, Refused}
use Rattle.refusals.specs.Laws.{IsOfRefusal}
use Rattle.refusals.specs.declared.refusal.Refusal.{Refusal}
use Rattle.refusals.proofs.Statuses.{status_of_refusal}
use Rattle.program.specs.Commands.{AreFoundFor, name_of}
use Rattle.program.specs.Intake.{IsIntake, TakenValues}
use Rattle.program.specs.Ends.{Ends, HasReport}
use Rattle.program.specs.Laws.{TellsTurned}
use Rattle.program.specs.Meanings.{HasExplanation, HasOneBase, HasOneChain, HasOneMeaning, HasWritten, HaveOneMeaning, IsExplanation, RunsAgreeWhereOneTag, TellsExplanation, TellsNegotiated, TellsOneBase, TellsOneChain, TellsRewritten, TellsSigned, TellsVerdicts, WritesExplanation, WritesNegotiated, WritesOneBase, WritesOneChain, WritesRewritten, WritesSigned, WritesTurned, WritesVerdicts}
use Rattle.program.specs.Report.{Reports, ReportsCommand}
use Rattle.program.proofs.AuditLines.{report_lines_are}
use Rattle.program.proofs.CommandLaws.{keeps_what_is_permitted, valid_where_configured}
use Rattle.program.proofs.Explanations.{explained_is}
use Rattle.program.proofs.NegotiatedInputs.{has_negotiated}
use Rattle.program.proofs.OneLines.{params_in_range}
use Rattle.program.proofs.RewrittenInputs.{has_rewritten}
use Rattle.program.proofs.SignedInputs.{has_signed}
use Rattle.program.proofs.TurnedTexts.{same_where_turned}
use Rattle.program.proofs.VerdictLines.{verdict_lines_are, verifies_key}

-- ---- a base

-- a message that is read is spelled by bytes
input_spelled : (related : Option Message) (input : List ℕ) (message : Message) → IsInputMessage (reading_for related) input message → IsSpelled message
input_spelled related input message is =
    record { to_head = (reading_for related).to_head; text = input; are_bytes = is.are_bytes; spells = is.whole.spells }

request_spelled : (name found : Option (List ℕ)) (related : Option Message) → IsRequested name found related → IfSome related IsSpelled
request_spelled name found None is = tt
request_spelled None found (Some request) is = absurd (cc is)
request_spelled (Some name) None (Some request) is = absurd is
request_spelled (Some name) (Some text) (Some request) is =
    record { to_head = one_request.to_head; text = text; are_bytes = is.are_bytes; spells = is.whole.spells }

-- the messages that are taken are spelled by bytes
intake_spelled : (needs : Needs) (names : FileNames) (found : Found) (input : List ℕ) (taken : TakenValues) → IsIntake needs names found input taken
    → HasMessages (context_for taken.conf taken.context.message taken.context.related)
intake_spelled needs names found input taken is = record {
  message = input_spelled taken.context.related input taken.context.message is.is;
  related = request_spelled (names RequestFile) (found RequestFile) taken.context.related is.requested;
}

one_base : (text : List ℕ) (params : SigParams) (context : MessageContext) (values : List (List ℕ)) → ReadsParams text params → HasMessages context → HaveValues context params.ids values
    → (output : List ℕ) → output ≡ signature_base params values → (others : SigParams) (also : List (List ℕ)) → HaveBase others also
    → (output ≡ signature_base others also) ↔ ((others ≡ params) × (also ≡ values))
one_base text params context values reads spelled have output is others also base =
    let own : HaveBase params values = record { in_range = params_in_range text params reads; each = have_length context params.ids values have } in
    let both = one_reading params others values also own (all_lines context params.ids values spelled have) base in (
      λ same. let read = both.0 (sym is ∙ same) in (sym read.0, sym read.1),
      λ same. is ∙ both.1 (sym same.0, sym same.1),
    )

base_told : (words : BaseWords) (found : Found) (input output : List ℕ) → ReportsCommand (Base words) found input (Written output) → TellsOneBase words found input output
base_told words found input output (inr cause) = absurd (cc cause.2)
base_told words found input output (inl (taken, is, inr cause)) = absurd (cc cause.2)
base_told words found input output (inl (taken, is, inl (params, reads, inr cause))) = absurd (cc cause.2)
base_told words found input output (inl (taken, is, inl (params, reads, inl (values, have, same)))) =
    let context = context_for taken.conf taken.context.message taken.context.related in
    let all : HaveValues context params.ids values = subst (λ (c : MessageContext). HaveValues c params.ids values) is.context_is have in
    record {
      conf = taken.conf;
      configured = is.conf.configured;
      related = taken.context.related;
      requested = is.requested;
      message = taken.context.message;
      is = is.is;
      params = params;
      reads = reads;
      values = values;
      have = all;
      one = one_base words.params params context values reads (intake_spelled Nothing (name_of (Base words)) found input taken is) all output (ap output_of same);
    }

pub has_one_base : HasOneBase
has_one_base arguments words found input output is (inr cause) = absurd (cc cause.2)
has_one_base arguments words found input output is (inl (command, spells, reports)) =
    base_told words found input output (subst (λ (c : CommandLine). ReportsCommand c found input (Written output)) (one_command arguments command (Base words) spells is) reports)

-- ---- a chain

refused_not : (refusal : Refusal) → (status_of (Refused refusal) ≡ Done) ⊎ (status_of (Refused refusal) ≡ NotOk) → ⊥
refused_not refusal (inl done) = subst (λ (s : Status). IsOfRefusal s) done (status_of_refusal refusal)
refused_not refusal (inr failed) = subst (λ (s : Status). IsOfRefusal s) failed (status_of_refusal refusal)

no_refusal : (refusal : Refusal) (outcome : Outcome) → outcome ≡ Refused refusal → (status_of outcome ≡ Done) ⊎ (status_of outcome ≡ NotOk) → ⊥
no_refusal refusal outcome same answered =
    refused_not refusal (subst (λ (o : Outcome). (status_of o ≡ Done) ⊎ (status_of o ≡ NotOk)) same answered)

report_written : (lines : List AuditLine) (counts : Bool) → finds_fault lines ≡ counts → output_of (audit_outcome lines) ≡ report_text lines
report_written lines true is = rw is refl
report_written lines false is = rw is refl

chain_told : (words : AuditWords) (found : Found) (input : List ℕ) (outcome : Outcome) (conf : Configuration) → IsConfigured (Some words.conf) (found ConfFile) conf → ReportsAudit conf input outcome
    → (status_of outcome ≡ Done) ⊎ (status_of outcome ≡ NotOk) → TellsOneChain words found input (output_of outcome)
chain_told words found input outcome conf configured (inr cause) answered = absurd (no_refusal _ outcome cause.2 answered)
chain_told words found input outcome conf configured (inl (items, is, inr cause)) answered = absurd (no_refusal _ outcome cause.2 answered)
chain_told words found input outcome conf configured (inl (items, is, inl (lines, audit, same))) answered = record {
  conf = conf;
  configured = configured;
  items = items;
  recorded = is;
  chain = audit.0;
  are = audit.1;
  lines = lines;
  report = audit.2;
  written = ap output_of same ∙ report_written lines (finds_fault lines) refl;
  each = report_lines_are conf (valid_where_configured (Some words.conf) (found ConfFile) conf configured) audit.0 lines audit.2;
  kept = λ index label permitted fate line.
      is_kept_with_its_base_at_hops conf input items audit.0 lines index label permitted fate is.are_bytes is.spells audit.1 audit.2 line;
  changed = λ index label id keyid accepts.
      tells_what_changed_at_hops conf input items audit.0 lines index label id keyid is.are_bytes is.spells audit.1 audit.2 accepts;
  sound = keeps_what_is_permitted conf items audit.0 lines audit.1 audit.2;
}

audit_told : (words : AuditWords) (found : Found) (input : List ℕ) (outcome : Outcome) → ReportsCommand (Audit words) found input outcome
    → (status_of outcome ≡ Done) ⊎ (status_of outcome ≡ NotOk) → TellsOneChain words found input (output_of outcome)
audit_told words found input outcome (inr cause) answered = absurd (no_refusal _ outcome cause.2 answered)
audit_told words found input outcome (inl (conf, configured, reports)) answered = chain_told words found input outcome conf configured reports answered

pub has_one_chain : HasOneChain
has_one_chain arguments words found input outcome is (inr cause) answered = absurd (no_refusal _ outcome cause.2 answered)
has_one_chain arguments words found input outcome is (inl (command, spells, reports)) answered =
    audit_told words found input outcome (subst (λ (c : CommandLine). ReportsCommand c found input outcome) (one_command arguments command (Audit words) spells is) reports) answered

-- ---- verdicts

-- a label whose verdict is `ok` is accepted
accepted_at : (conf : Configuration) (moment : ℕ) (context : MessageContext) (labels : List (List ℕ)) (verdicts : List Verdict) → AreVerdicts conf moment context labels verdicts → (label keyid : List ℕ)
    → Contains (zip labels verdicts) (label, Accepted keyid) → Accepts (verification_for conf moment context label) keyid
accepted_at conf moment context [] [] are label keyid there = absurd (let below = there.1 in omega (arith, below))
accepted_at conf moment context [] (v ∷ vs) are label keyid there = absurd are
accepted_at conf moment context (l ∷ ls) [] are label keyid there = absurd are
accepted_at conf moment context (l ∷ ls) (v ∷ vs) are label keyid (zero, below, same) =
    let label_is : l ≡ label = ap (λ (line : List ℕ × Verdict). line.0) same in
    let verdict_is : v ≡ Accepted keyid = ap (λ (line : List ℕ × Verdict). line.1) same in
    subst (λ (t : List ℕ). IsVerdict (verification_for conf moment context t) (Accepted keyid)) label_is (subst (λ (w : Verdict). IsVerdict (verification_for conf moment context l) w) verdict_is are.0)
accepted_at conf moment context (l ∷ ls) (v ∷ vs) are label keyid (suc k, below, same) = accepted_at conf moment context ls vs are.1 label keyid (k, omega (arith, below), same)

one_meaning : (v : Verification) (keyid : List ℕ) → Accepts v keyid → HasMessages v.context → HasOneMeaning v keyid
one_meaning v keyid accepts spelled = record {
  accepts = accepts;
  messages = spelled;
  one = λ w another other also tag key. one_tag_agrees v w keyid another accepts other (record { message = spelled; other_message = also; tag = tag; key = key });
}

lines_written : (labels : List (List ℕ)) (verdicts : List Verdict) (all : Bool) → list_all is_accepted verdicts ≡ all → output_of (verdicts_outcome labels verdicts) ≡ verdict_lines labels verdicts
lines_written labels verdicts true is = rw is refl
lines_written labels verdicts false is = rw is refl

verdicts_told : (words : VerifyWords) → IfSome words.label (λ label. IsTrue (is_key label)) → (found : Found) (input : List ℕ) (outcome : Outcome) → ReportsCommand (Verify words) found input outcome → (status_of outcome ≡ Done) ⊎ (status_of outcome ≡ NotOk)
    → TellsVerdicts words found input (output_of outcome)
verdicts_told words key found input outcome (inr cause) answered = absurd (no_refusal _ outcome cause.2 answered)
verdicts_told words key found input outcome (inl (taken, is, reports)) answered =
    let context = context_for taken.conf taken.context.message taken.context.related in
    let all : AreVerdicts taken.conf words.now context reports.labels reports.verdicts =
    subst (λ (c : MessageContext). AreVerdicts taken.conf words.now c reports.labels reports.verdicts) is.context_is reports.are in
    record {
      conf = taken.conf;
      configured = is.conf.configured;
      related = taken.context.related;
      requested = is.requested;
      message = taken.context.message;
      is = is.is;
      labels = reports.labels;
      asked = reports.asked;
      verdicts = reports.verdicts;
      written = ap output_of reports.outcome_is ∙ lines_written reports.labels reports.verdicts (list_all is_accepted reports.verdicts) refl;
      lines = verdict_lines_are words.label taken.conf words.now context reports.labels reports.verdicts (valid_where_configured (Some words.conf) (found ConfFile) taken.conf is.conf.configured) key reports.asked all;
      ok = λ label keyid there.
          one_meaning (verification_for taken.conf words.now context label) keyid (accepted_at taken.conf words.now context reports.labels reports.verdicts all label keyid there)
          (intake_spelled Nothing (name_of (Verify words)) found input taken is);
    }

pub have_one_meaning : HaveOneMeaning
have_one_meaning arguments words found input outcome is (inr cause) answered = absurd (no_refusal _ outcome cause.2 answered)
have_one_meaning arguments words found input outcome is (inl (command, spells, reports)) answered =
    verdicts_told words (verifies_key arguments words is) found input outcome (subst (λ (c : CommandLine). ReportsCommand c found input outcome) (one_command arguments command (Verify words) spells is) reports) answered

pub runs_agree : RunsAgreeWhereOneTag
runs_agree words other_words found other_found input other_input output other_output one other label other_label keyid other_keyid ok also tag key =
    let second = other.ok other_label other_keyid also in
    (one.ok label keyid ok).one _ other_keyid second.accepts second.messages tag key

-- ---- an explanation

explanation_told : (words : ExplainWords) (found : Found) (input : List ℕ) (taken : TakenValues) → IsIntake Nothing (name_of (Explain words)) found input taken → (also : Option Message) → taken.other ≡ also
    → (outcome : Outcome) → IsSomeAnd also (λ other. ReportsExplanation words.label other taken.context outcome) → (status_of outcome ≡ Done) ⊎ (status_of outcome ≡ NotOk)
    → TellsExplanation words (status_of outcome) found input (output_of outcome)
explanation_told words found input taken is None same outcome reports answered = absurd reports
explanation_told words found input taken is (Some also) same outcome (inr cause) answered = absurd (no_refusal _ outcome cause.2 answered)
explanation_told words found input taken is (Some also) same outcome (inl (explained, made, written)) answered =
    let context = context_for taken.conf taken.context.message taken.context.related in
    record {
      conf = taken.conf;
      configured = is.conf.configured;
      related = taken.context.related;
      requested = is.requested;
      other = also;
      recorded = subst (λ (o : Option Message). IsMessageFile (reading_for taken.context.related) (Some words.other) (found OtherFile) o) same is.recorded;
      message = taken.context.message;
      is = is.is;
      explains = subst (λ (c : MessageContext). IsExplanation c (context_with c also) words.label (status_of outcome) (output_of outcome)) is.context_is
          (explained_is taken.context also words.label explained outcome made.made written);
    }

explain_told : (words : ExplainWords) (found : Found) (input : List ℕ) (outcome : Outcome) → ReportsCommand (Explain words) found input outcome
    → (status_of outcome ≡ Done) ⊎ (status_of outcome ≡ NotOk) → TellsExplanation words (status_of outcome) found input (output_of outcome)
explain_told words found input outcome (inr cause) answered = absurd (no_refusal _ outcome cause.2 answered)
explain_told words found input outcome (inl (taken, is, reports)) answered = explanation_told words found input taken is taken.other refl outcome reports answered

pub has_explanation : HasExplanation
has_explanation arguments words found input outcome is (inr cause) answered = absurd (no_refusal _ outcome cause.2 answered)
has_explanation arguments words found input outcome is (inl (command, spells, reports)) answered =
    explain_told words found input outcome (subst (λ (c : CommandLine). ReportsCommand c found input outcome) (one_command arguments command (Explain words) spells is) reports) answered

-- ---- of a run

-- an outcome of this status is a text
written_is : (outcome : Outcome) → status_of outcome ≡ Done → outcome ≡ Written (output_of outcome)
written_is (Written text) is = refl
written_is (Counted text) is = absurd (cc is)
written_is (Refused refusal) is = absurd (refused_not refusal (inl is))

module _ (arguments : List (List ℕ)) (shelf : Option FileMap) (Same : Type 0) (before left taken now : Option (List ℕ)) (status : Status) where
  -- where the run is done, it ends so
  done_ends : Ends arguments shelf Same before left taken now status → status ≡ Done → Ends arguments shelf Same before left taken now Done
  done_ends ends done = subst (λ (s : Status). Ends arguments shelf Same before left taken now s) done ends

  not_ok_ends : Ends arguments shelf Same before left taken now status → status ≡ NotOk → Ends arguments shelf Same before left taken now NotOk
  not_ok_ends ends failed = subst (λ (s : Status). Ends arguments shelf Same before left taken now s) failed ends

  -- an outcome of which this holds was written
  outcome_written : (Tells : Found → List ℕ → List ℕ → Type 0) (outcome : Outcome) → HasReport arguments shelf Same before left outcome → Appends taken now (output_of outcome)
      → ((found : Found) (input : List ℕ) → Reports arguments found input outcome → Tells found input (output_of outcome)) → HasWritten Tells (AreFoundFor arguments shelf) before taken now
  outcome_written Tells outcome report appended tells = record {
    found = report.found;
    files = report.files;
    input = report.holds.input;
    known = report.holds.known;
    output = output_of outcome;
    appended = appended;
    tells = tells report.found report.holds.input report.holds.reports;
  }

  -- where the run is done, a text of which this holds was written
  text_written : (Tells : Found → List ℕ → List ℕ → Type 0) → ((found : Found) (input output : List ℕ) → Reports arguments found input (Written output) → Tells found input output)
      → Ends arguments shelf Same before left taken now status → status ≡ Done → HasWritten Tells (AreFoundFor arguments shelf) before taken now
  text_written Tells tells ends done =
      let end = done_ends ends done in
      outcome_written Tells end.0 end.1 end.3
      (λ found input reports. tells found input (output_of end.0) (subst (λ (o : Outcome). Reports arguments found input o) (written_is end.0 end.2) reports))

  -- where it is done, and each answer is `ok` or not, an outcome of which this holds was written
  answer_written : (Tells : Status → Found → List ℕ → List ℕ → Type 0)
      → ((found : Found) (input : List ℕ) (outcome : Outcome) → Reports arguments found input outcome → (status_of outcome ≡ Done) ⊎ (status_of outcome ≡ NotOk)
      → Tells (status_of outcome) found input (output_of outcome))
      → Ends arguments shelf Same before left taken now status → (status ≡ Done) ⊎ (status ≡ NotOk) → HasWritten (Tells status) (AreFoundFor arguments shelf) before taken now
  answer_written Tells tells ends (inl done) =
      let end = done_ends ends done in
      outcome_written (Tells status) end.0 end.1 end.3 (λ found input reports. subst (λ (s : Status). Tells s found input (output_of end.0)) (end.2 ∙ sym done) (tells found input end.0 reports (inl end.2)))
  answer_written Tells tells ends (inr failed) =
      let end = not_ok_ends ends failed in
      outcome_written (Tells status) end.0 end.1 end.3 (λ found input reports. subst (λ (s : Status). Tells s found input (output_of end.0)) (end.2 ∙ sym failed) (tells found input end.0 reports (inr end.2)))

  pub writes_one_base : Ends arguments shelf Same before left taken now status → WritesOneBase arguments shelf before taken now status
  writes_one_base ends words is done = text_written (TellsOneBase words) (λ found input output. has_one_base arguments words found input output is) ends done

  pub writes_signed : Ends arguments shelf Same before left taken now status → WritesSigned arguments shelf before taken now status
  writes_signed ends words is done = text_written (TellsSigned words) (λ found input output. has_signed arguments words found input output is) ends done

  pub writes_negotiated : Ends arguments shelf Same before left taken now status → WritesNegotiated arguments shelf before taken now status
  writes_negotiated ends words is done = text_written (TellsNegotiated words) (λ found input output. has_negotiated arguments words found input output is) ends done

  pub writes_rewritten : Ends arguments shelf Same before left taken now status → WritesRewritten arguments shelf before taken now status
  writes_rewritten ends words is done = text_written (TellsRewritten words) (λ found input output. has_rewritten arguments words found input output is) ends done

  pub writes_turned : Ends arguments shelf Same before left taken now status → WritesTurned arguments shelf before taken now status
  writes_turned ends words is done = text_written (TellsTurned words) (λ found input output. same_where_turned arguments words found input output is) ends done

  pub writes_verdicts : Ends arguments shelf Same before left taken now status → WritesVerdicts arguments shelf before taken now status
  writes_verdicts ends words is answered = answer_written (λ status. TellsVerdicts words) (λ found input outcome. have_one_meaning arguments words found input outcome is) ends answered

  pub writes_explanation : Ends arguments shelf Same before left taken now status → WritesExplanation arguments shelf before taken now status
  writes_explanation ends words is answered = answer_written (λ status. TellsExplanation words status) (λ found input outcome. has_explanation arguments words found input outcome is) ends answered

  pub writes_one_chain : Ends arguments shelf Same before left taken now status → WritesOneChain arguments shelf before taken now status
  writes_one_chain ends words is answered = answer_written (λ status. TellsOneChain words) (λ found input outcome. has_one_chain arguments words found input outcome is) ends answered
