use Rattle.std.proofs.Common.{arith, ◌≡◌, ◌+◌, List, [], ◌∷◌, Err, refl, sym, subst, ℕ, Option}
use Rattle.std.specs.Prelude.{option_map}
use Rattle.std.proofs.lemmas.Result.{err_from_is_err_and}
use Rattle.conf.specs.ConfMeaning.{meaning}
use Rattle.msg_body.specs.Messages.{Message}
use Rattle.msg_body.specs.Views.{message_of}
use Rattle.msg_body.specs.WholeTexts.{one_request}
use Rattle.intake.specs.Files.{FileNames, HasFound, Conf, Other, Request, Script, Wanted}
use Rattle.intake.specs.MessageFiles.{IsRequested, IsRequestRefused}
use Rattle.refusals.specs.declared.refusal.TheConstants.{MAX_INPUT_BYTES}
use Rattle.refusals.specs.declared.role.Role.TheVariants.{Request as OfRequest}
use Rattle.program.specs.Intake.{names_of}
use Rattle.program.specs.tools.Parts.{HasRequested}
use Rattle.program.proofs.AskedFiles.{asked_until, until_request}
use Rattle.program.proofs.FaultCounts.{after_shelf, shelf_counts, text_counts}
use Rattle.program.proofs.Reports.{file_had, has_requested, keeps_both, message_had, message_refused, refused_before, request_stopped, same_related, text_stop}
use Rattle.program.proofs.RestFiles.{ends_asked, then_asked, unread}
use Rattle.program.proofs.over_message.over_request.Goals as goal

-- ---- the request isn't taken

pub returns-in_err-request-clause-report : goal.returns-in_err-request-clause-report
returns-in_err-request-clause-report g c =
    let p = err_from_is_err_and c.from_residual.result c.from_residual.ensures.1 in
    let words = c.files-names.result in
    let stop = c.in_err-request.field-0.0 in
    rw (p.1, p.2, c.files-names.ensures) (λ first has. request_stopped (g.C.OverMessage.tables c.args.command.now) (g.C.OverMessage.reports c.args.command.now) words first (c.args.source.now ≡ c.args.source.now) (g.S.Source.left c.args.source.now) (g.S.Source.left c.args.source.now) (meaning c.args.conf.now) has.configured stop refl
    (refused_before first words Request IsRequestRefused OfRequest stop (g.F.Shelf.files c.args.shelf.now) has.kept (c.in_err-request.ensures.refused one_request)))

pub returns-in_err-request-clause-uses : goal.returns-in_err-request-clause-uses
returns-in_err-request-clause-uses g c =
    let p = err_from_is_err_and c.from_residual.result c.from_residual.ensures.1 in
    rw (p.1, p.2) (record {
      cause = shelf_counts (Option (List ℕ)) (c.args.source.now ≡ c.args.source.now) (g.F.Shelf.faults c.args.shelf.now) (g.F.Shelf.faults c.args.shelf.now) (g.F.Shelf.faults c.fetch_message.new.shelf) (g.S.Source.faults c.args.source.now)
          c.in_err-request.field-0.0 refl c.in_err-request.ensures.cause refl;
      later = c.in_err-request.ensures.later;
      reads = unread g.S.Source.left g.S.Source.given g.S.Source.ended g.S.Source.idle g.S.Source.faults (MAX_INPUT_BYTES + 1) c.args.source.now;
    })

pub returns-in_err-request-clause-asks : goal.returns-in_err-request-clause-asks
returns-in_err-request-clause-asks g c =
    let p = err_from_is_err_and c.from_residual.result c.from_residual.ensures.1 in
    let words = c.files-names.result in
    let stop = c.in_err-request.field-0.0 in
    rw (p.1, p.2, c.files-names.ensures) (ends_asked g.F.Shelf.files g.F.Shelf.asked g.F.Shelf.reached (λ word. word.now) (names_of words) (Conf ∷ []) Request words.request refl c.args.shelf.now c.fetch_message.new.shelf (record { keeps = c.in_err-request.ensures.files; asks = c.in_err-request.ensures.asked; reaches = c.in_err-request.ensures.reached; unasked = c.in_err-request.ensures.unasked })
    (Wanted ∷ Script ∷ Other ∷ []) refl (Err stop) (λ n had. asked_until (g.F.Shelf.files c.args.shelf.now) words Request IsRequestRefused OfRequest stop (c.in_err-request.ensures.refused one_request) (Conf ∷ Request ∷ []) until_request (names_of words) n (g.F.Shelf.asked c.fetch_message.new.shelf) had))

-- ---- its text is refused

pub returns-in_err-related-clause-report : goal.returns-in_err-related-clause-report
returns-in_err-related-clause-report g c =
    let p = err_from_is_err_and c.from_residual-in_err-related.result c.from_residual-in_err-related.ensures.1 in
    let words = c.files-names.result in
    let stop = c.in_err-related.field-0.0 in
    rw (p.1, p.2, c.files-names.ensures) (λ first has. request_stopped (g.C.OverMessage.tables c.args.command.now) (g.C.OverMessage.reports c.args.command.now) words first (c.args.source.now ≡ c.args.source.now) (g.S.Source.left c.args.source.now) (g.S.Source.left c.args.source.now) (meaning c.args.conf.now) has.configured stop refl
    (message_refused first words Request one_request OfRequest c.in_ok-request.request _ _ stop (g.F.Shelf.files c.args.shelf.now) has.kept c.of_request-reading.ensures c.as_ref.ensures.value c.in_ok-request.ensures.ok c.in_err-related.ensures.refused))

pub returns-in_err-related-clause-uses : goal.returns-in_err-related-clause-uses
returns-in_err-related-clause-uses g c =
    let p = err_from_is_err_and c.from_residual-in_err-related.result c.from_residual-in_err-related.ensures.1 in
    rw (p.1, p.2) (record {
      cause = text_counts (c.args.source.now ≡ c.args.source.now) (g.F.Shelf.faults c.args.shelf.now) (g.F.Shelf.faults c.fetch_message.new.shelf) (g.S.Source.faults c.args.source.now) c.in_err-related.field-0.0 _ c.in_err-related.ensures.refused c.in_ok-request.ensures.cause;
      later = c.in_ok-request.ensures.later;
      reads = unread g.S.Source.left g.S.Source.given g.S.Source.ended g.S.Source.idle g.S.Source.faults (MAX_INPUT_BYTES + 1) c.args.source.now;
    })

pub returns-in_err-related-clause-asks : goal.returns-in_err-related-clause-asks
returns-in_err-related-clause-asks g c =
    let p = err_from_is_err_and c.from_residual-in_err-related.result c.from_residual-in_err-related.ensures.1 in
    let words = c.files-names.result in
    let stop = c.in_err-related.field-0.0 in
    let stopped = text_stop one_request OfRequest (g.F.Shelf.files c.args.shelf.now) (names_of words Request) c.in_ok-request.request _ _ stop c.of_request-reading.ensures c.as_ref.ensures.value c.in_ok-request.ensures.ok c.in_err-related.ensures.refused in
    rw (p.1, p.2, c.files-names.ensures) (ends_asked g.F.Shelf.files g.F.Shelf.asked g.F.Shelf.reached (λ word. word.now) (names_of words) (Conf ∷ []) Request words.request refl c.args.shelf.now c.fetch_message.new.shelf (record { keeps = c.in_ok-request.ensures.files; asks = c.in_ok-request.ensures.asked; reaches = c.in_ok-request.ensures.reached; unasked = c.in_ok-request.ensures.unasked })
    (Wanted ∷ Script ∷ Other ∷ []) refl (Err stop) (λ n had. asked_until (g.F.Shelf.files c.args.shelf.now) words Request IsRequestRefused OfRequest stop stopped (Conf ∷ Request ∷ []) until_request (names_of words) n (g.F.Shelf.asked c.fetch_message.new.shelf) had))

-- ---- it is read

pub over_wishes-answer-requires-clause-requested : goal.over_wishes-answer-requires-clause-requested
over_wishes-answer-requires-clause-requested g c =
    let words = c.files-names.result in
    let related = option_map (λ view. message_of view) c.in_ok-related.related in
    let had = file_had one_request (g.F.Shelf.files c.args.shelf.now) (names_of words Request) c.in_ok-request.request _ _ related c.of_request-reading.ensures c.as_ref.ensures.value c.in_ok-request.ensures.ok c.in_ok-related.ensures.ok in
    let same = same_related (λ view. view.now) c.as_ref-2.result c.in_ok-related.related c.as_ref-2.ensures.value in
    subst (λ (names : FileNames). HasRequested (names Request) (option_map (λ view. message_of view.now) c.as_ref-2.result)) (sym c.files-names.ensures)
    (subst (λ (r : Option Message). HasRequested (names_of words Request) r) (sym same) (has_requested (names_of words Request) had.found related had.holds))

pub returns-clause-report : goal.returns-clause-report
returns-clause-report g c =
    let words = c.files-names.result in
    let related = option_map (λ view. message_of view) c.in_ok-related.related in
    let same = same_related (λ view. view.now) c.as_ref-2.result c.in_ok-related.related c.as_ref-2.ensures.value in
    rw (c.files-names.ensures) (
    λ first has.
    let requested = message_had first words Request one_request c.in_ok-request.request _ _ related (g.F.Shelf.files c.args.shelf.now) has.kept c.of_request-reading.ensures c.as_ref.ensures.value c.in_ok-request.ensures.ok c.in_ok-related.ensures.ok in
    (rw c.files-names.ensures at c.over_wishes-answer.ensures.report) first (record {
      before = record { kept = keeps_both first (g.F.Shelf.files c.args.shelf.now) (g.F.Shelf.files c.fetch_message.new.shelf) has.kept c.in_ok-request.ensures.files; configured = has.configured };
      requested = subst (λ (r : Option Message). HasFound first (names_of words Request) (λ found. IsRequested (names_of words Request) found r)) (sym same) requested;
    }))

pub returns-clause-uses : goal.returns-clause-uses
returns-clause-uses g c =
    record {
      cause = after_shelf (c.over_wishes-answer.new.source ≡ c.args.source.now) (g.F.Shelf.faults c.args.shelf.now) (g.F.Shelf.faults c.fetch_message.new.shelf) (g.F.Shelf.faults c.over_wishes-answer.new.shelf)
          (g.S.Source.faults c.args.source.now) (g.S.Source.faults c.over_wishes-answer.new.source) c.over_wishes-answer.result c.in_ok-request.ensures.cause c.over_wishes-answer.ensures.uses.cause;
      later = omega (arith, c.in_ok-request.ensures.later, c.over_wishes-answer.ensures.uses.later);
      reads = c.over_wishes-answer.ensures.uses.reads;
    }

pub returns-clause-asks : goal.returns-clause-asks
returns-clause-asks g c =
    let words = c.files-names.result in
    rw (c.files-names.ensures) (then_asked g.F.Shelf.files g.F.Shelf.asked g.F.Shelf.reached (λ word. word.now) (names_of words) (Conf ∷ []) Request words.request refl c.args.shelf.now c.fetch_message.new.shelf (record { keeps = c.in_ok-request.ensures.files; asks = c.in_ok-request.ensures.asked; reaches = c.in_ok-request.ensures.reached; unasked = c.in_ok-request.ensures.unasked }) c.over_wishes-answer.result c.over_wishes-answer.new.shelf (rw c.files-names.ensures at c.over_wishes-answer.ensures.asks))
