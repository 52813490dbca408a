use Rattle.std.proofs.Common.{◌≡◌, ◌+◌, List, Option, ℕ, refl, sym, subst}
use Rattle.std.specs.Prelude.{option_map}
use Rattle.std.proofs.lemmas.Result.{err_from_is_err_and}
use Rattle.msg_body.specs.Messages.{Message}
use Rattle.msg_body.specs.Views.{message_of}
use Rattle.msg_body.specs.WholeTexts.{reading_for}
use Rattle.intake.specs.Files.{Other}
use Rattle.intake.specs.MessageFiles.{IsMessageFileRefused}
use Rattle.refusals.specs.declared.refusal.TheConstants.{MAX_INPUT_BYTES}
use Rattle.refusals.specs.declared.role.Role.TheVariants.{Other as OfOther}
use Rattle.program.specs.tools.Parts.{HasOther, values_of}
use Rattle.program.proofs.AskedFiles.{record_late}
use Rattle.program.proofs.FaultCounts.{shelf_counts, text_counts}
use Rattle.program.proofs.TextInputs.{source_counts}
use Rattle.program.proofs.Reports.{file_had, other_answers, record_had, record_stopped, same_related, text_stop}
use Rattle.program.proofs.RestFiles.{unread}
use Rattle.program.proofs.over_message.over_record.Goals as goal

-- ---- the record isn't taken

pub returns-in_err-text-clause-report : goal.returns-in_err-text-clause-report
returns-in_err-text-clause-report g c =
    let p = err_from_is_err_and c.from_residual.result c.from_residual.ensures.1 in
    let files = values_of c.args.files in
    rw (p.1, p.2) (record_stopped (g.C.OverMessage.reports c.args.command.now) files (option_map (λ word. word.now) c.args.name) (g.F.Shelf.files c.args.shelf.now)
    (c.args.source.now ≡ c.args.source.now) (g.S.Source.left c.args.source.now) (g.S.Source.left c.args.source.now) c.in_err-text.field-0.0 refl
    (c.in_err-text.ensures.refused (reading_for files.related)))

pub returns-in_err-text-clause-uses : goal.returns-in_err-text-clause-uses
returns-in_err-text-clause-uses g c =
    let p = err_from_is_err_and c.from_residual.result c.from_residual.ensures.1 in
    rw (p.1, p.2) (record {
      cause = shelf_counts (Option (List ℕ)) (c.args.source.now ≡ c.args.source.now) (g.F.Shelf.faults c.args.shelf.now) (g.F.Shelf.faults c.args.shelf.now)
          (g.F.Shelf.faults c.fetch_message.new.shelf) (g.S.Source.faults c.args.source.now) c.in_err-text.field-0.0 refl c.in_err-text.ensures.cause refl;
      later = c.in_err-text.ensures.later;
      reads = unread g.S.Source.left g.S.Source.given g.S.Source.ended g.S.Source.idle g.S.Source.faults (MAX_INPUT_BYTES + 1) c.args.source.now;
    })

pub returns-in_err-text-clause-late : goal.returns-in_err-text-clause-late
returns-in_err-text-clause-late g c =
    let p = err_from_is_err_and c.from_residual.result c.from_residual.ensures.1 in
    let name = option_map (λ word. word.now) c.args.name in
    let reading = reading_for (values_of c.args.files).related in
    rw (p.1, p.2) (record_late (λ found. IsMessageFileRefused reading name found) (g.F.Shelf.files c.args.shelf.now) name c.in_err-text.field-0.0 (c.in_err-text.ensures.refused reading))

-- ---- its text is refused

pub returns-in_err-other-clause-report : goal.returns-in_err-other-clause-report
returns-in_err-other-clause-report g c =
    let p = err_from_is_err_and c.from_residual-in_err-other.result c.from_residual-in_err-other.ensures.1 in
    let files = values_of c.args.files in
    let name = option_map (λ word. word.now) c.args.name in
    let shelf = g.F.Shelf.files c.args.shelf.now in
    rw (p.1, p.2) (record_stopped (g.C.OverMessage.reports c.args.command.now) files name shelf
    (c.args.source.now ≡ c.args.source.now) (g.S.Source.left c.args.source.now) (g.S.Source.left c.args.source.now) c.in_err-other.field-0.0 refl
    (text_stop (reading_for files.related) OfOther shelf name c.in_ok-text.text _ _ c.in_err-other.field-0.0 c.of_input-reading.ensures c.as_ref.ensures.value c.in_ok-text.ensures.ok c.in_err-other.ensures.refused))

pub returns-in_err-other-clause-uses : goal.returns-in_err-other-clause-uses
returns-in_err-other-clause-uses g c =
    let p = err_from_is_err_and c.from_residual-in_err-other.result c.from_residual-in_err-other.ensures.1 in
    rw (p.1, p.2) (record {
      cause = text_counts (c.args.source.now ≡ c.args.source.now) (g.F.Shelf.faults c.args.shelf.now) (g.F.Shelf.faults c.fetch_message.new.shelf) (g.S.Source.faults c.args.source.now)
          c.in_err-other.field-0.0 _ c.in_err-other.ensures.refused c.in_ok-text.ensures.cause;
      later = c.in_ok-text.ensures.later;
      reads = unread g.S.Source.left g.S.Source.given g.S.Source.ended g.S.Source.idle g.S.Source.faults (MAX_INPUT_BYTES + 1) c.args.source.now;
    })

pub returns-in_err-other-clause-late : goal.returns-in_err-other-clause-late
returns-in_err-other-clause-late g c =
    let p = err_from_is_err_and c.from_residual-in_err-other.result c.from_residual-in_err-other.ensures.1 in
    let name = option_map (λ word. word.now) c.args.name in
    let reading = reading_for (values_of c.args.files).related in
    let shelf = g.F.Shelf.files c.args.shelf.now in
    rw (p.1, p.2) (record_late (λ found. IsMessageFileRefused reading name found) shelf name c.in_err-other.field-0.0
    (text_stop reading OfOther shelf name c.in_ok-text.text _ _ c.in_err-other.field-0.0 c.of_input-reading.ensures c.as_ref.ensures.value c.in_ok-text.ensures.ok c.in_err-other.ensures.refused))

-- ---- it is read

pub over_source-requires-clause-other : goal.over_source-requires-clause-other
over_source-requires-clause-other g c =
    let related = (values_of c.args.files).related in
    let name = option_map (λ word. word.now) c.args.name in
    let other = option_map (λ view. message_of view) c.in_ok-other.other in
    let had = file_had (reading_for related) (g.F.Shelf.files c.args.shelf.now) name c.in_ok-text.text _ _ other c.of_input-reading.ensures c.as_ref.ensures.value c.in_ok-text.ensures.ok c.in_ok-other.ensures.ok in
    let same = same_related (λ view. view.now) c.as_ref-2.result c.in_ok-other.other c.as_ref-2.ensures.value in
    subst (λ (o : Option Message). HasOther (g.C.OverMessage.names c.args.command.now Other) related o) (sym same)
    (subst (λ (n : Option (List ℕ)). HasOther n related other) (sym c.requires.named) (other_answers name had.found related other had.holds))

pub returns-clause-report : goal.returns-clause-report
returns-clause-report g c =
    let files = values_of c.args.files in
    let name = option_map (λ word. word.now) c.args.name in
    let shelf = g.F.Shelf.files c.args.shelf.now in
    let other = option_map (λ view. message_of view) c.in_ok-other.other in
    let had = file_had (reading_for files.related) shelf name c.in_ok-text.text _ _ other c.of_input-reading.ensures c.as_ref.ensures.value c.in_ok-text.ensures.ok c.in_ok-other.ensures.ok in
    let same = same_related (λ view. view.now) c.as_ref-2.result c.in_ok-other.other c.as_ref-2.ensures.value in
    record_had (g.C.OverMessage.reports c.args.command.now) files name shelf (c.over_source.new.source ≡ c.args.source.now) (g.S.Source.left c.args.source.now)
    (g.S.Source.left c.over_source.new.source) other c.over_source.result _ same had c.over_source.ensures.report

pub returns-clause-uses : goal.returns-clause-uses
returns-clause-uses g c =
    record {
      cause = source_counts (c.over_source.new.source ≡ c.args.source.now) (g.F.Shelf.faults c.args.shelf.now) (g.F.Shelf.faults c.fetch_message.new.shelf) (g.S.Source.faults c.args.source.now)
          (g.S.Source.faults c.over_source.new.source) c.over_source.result c.in_ok-text.ensures.cause c.over_source.ensures.cause;
      later = c.in_ok-text.ensures.later;
      reads = c.over_source.ensures.reads;
    }

pub returns-in_err-text-clause-asks : goal.returns-in_err-text-clause-asks
returns-in_err-text-clause-asks g c = record { keeps = c.in_err-text.ensures.files; asks = c.in_err-text.ensures.asked; reaches = c.in_err-text.ensures.reached; unasked = c.in_err-text.ensures.unasked }

pub returns-in_err-other-clause-asks : goal.returns-in_err-other-clause-asks
returns-in_err-other-clause-asks g c = record { keeps = c.in_ok-text.ensures.files; asks = c.in_ok-text.ensures.asked; reaches = c.in_ok-text.ensures.reached; unasked = c.in_ok-text.ensures.unasked }

pub returns-clause-asks : goal.returns-clause-asks
returns-clause-asks g c = record { keeps = c.in_ok-text.ensures.files; asks = c.in_ok-text.ensures.asked; reaches = c.in_ok-text.ensures.reached; unasked = c.in_ok-text.ensures.unasked }
