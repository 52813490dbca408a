use Rattle.std.proofs.Common.{arith, ◌≡◌, ◌∙◌, ◌+◌, List, [], ◌∷◌, Err, refl, sym, ap, subst, ℕ, Option}
use Rattle.std.specs.Prelude.{IsTrue, option_map}
use Rattle.std.specs.List.{list_all}
use Rattle.std.proofs.lemmas.Result.{err_from_is_err_and}
use Rattle.conf.specs.ConfMeaning.{meaning}
use Rattle.msg_body.specs.Views.{message_of}
use Rattle.msg_body.specs.WholeTexts.{any_message}
use Rattle.intake.specs.Files.{FileNames, Conf, Other, Request, Script, Wanted}
use Rattle.intake.specs.MessageFiles.{IsWantedRefused}
use Rattle.intake.specs.Scripts.{IsScripted, IsScriptRefused}
use Rattle.refusals.specs.declared.refusal.TheConstants.{MAX_INPUT_BYTES}
use Rattle.refusals.specs.declared.role.Role.TheVariants.{Script as OfScript, Wanted as OfWanted}
use Rattle.rewrite_script.specs.Lines.{is_writable}
use Rattle.rewrite_script.specs.declared.rewrite.Rewrite.{Rewrite}
use Rattle.program.specs.Intake.{names_of}
use Rattle.program.proofs.AskedFiles.{asked_until, until_script, until_wanted}
use Rattle.program.proofs.FaultCounts.{after_shelf, shelf_counts, text_counts}
use Rattle.program.proofs.Reports.{all_read, keeps_both, message_had, message_refused, read_before, refused_before, same_related, script_stopped, script_writable, text_stop, wishes_stopped}
use Rattle.program.proofs.RestFiles.{ends_asked, last_asked, then_asked, unread}
use Rattle.program.proofs.over_message.over_wishes.Goals as goal

-- ---- the message that asks for signatures isn't taken

pub returns-in_err-wanted-clause-report : goal.returns-in_err-wanted-clause-report
returns-in_err-wanted-clause-report g c =
    let p = err_from_is_err_and c.from_residual.result c.from_residual.ensures.1 in
    let words = c.files-names.result in
    let conf = meaning c.args.conf.now in
    let related = option_map (λ view. message_of view.now) c.args.related in
    let stop = c.in_err-wanted.field-0.0 in
    rw (p.1, p.2, c.files-names.ensures) (λ first has. wishes_stopped (g.C.OverMessage.tables c.args.command.now) (g.C.OverMessage.reports c.args.command.now) words first (c.args.source.now ≡ c.args.source.now) (g.S.Source.left c.args.source.now) (g.S.Source.left c.args.source.now) conf has.before.configured related has.requested stop refl
    (refused_before first words Wanted IsWantedRefused OfWanted stop (g.F.Shelf.files c.args.shelf.now) has.before.kept (c.in_err-wanted.ensures.refused any_message)))

pub returns-in_err-wanted-clause-uses : goal.returns-in_err-wanted-clause-uses
returns-in_err-wanted-clause-uses g c =
    let p = err_from_is_err_and c.from_residual.result c.from_residual.ensures.1 in
    rw (p.1, p.2) (record {
      cause = shelf_counts (Option (List ℕ)) (c.args.source.now ≡ c.args.source.now) (g.F.Shelf.faults c.args.shelf.now) (g.F.Shelf.faults c.args.shelf.now) (g.F.Shelf.faults c.fetch_message.new.shelf) (g.S.Source.faults c.args.source.now)
          c.in_err-wanted.field-0.0 refl c.in_err-wanted.ensures.cause refl;
      later = c.in_err-wanted.ensures.later;
      reads = unread g.S.Source.left g.S.Source.given g.S.Source.ended g.S.Source.idle g.S.Source.faults (MAX_INPUT_BYTES + 1) c.args.source.now;
    })

pub returns-in_err-wanted-clause-asks : goal.returns-in_err-wanted-clause-asks
returns-in_err-wanted-clause-asks g c =
    let p = err_from_is_err_and c.from_residual.result c.from_residual.ensures.1 in
    let words = c.files-names.result in
    let stop = c.in_err-wanted.field-0.0 in
    rw (p.1, p.2, c.files-names.ensures) (ends_asked g.F.Shelf.files g.F.Shelf.asked g.F.Shelf.reached (λ word. word.now) (names_of words) (Conf ∷ Request ∷ []) Wanted words.wanted refl c.args.shelf.now c.fetch_message.new.shelf (record { keeps = c.in_err-wanted.ensures.files; asks = c.in_err-wanted.ensures.asked; reaches = c.in_err-wanted.ensures.reached; unasked = c.in_err-wanted.ensures.unasked })
    (Script ∷ Other ∷ []) refl (Err stop) (λ n had. asked_until (g.F.Shelf.files c.args.shelf.now) words Wanted IsWantedRefused OfWanted stop (c.in_err-wanted.ensures.refused any_message) (Conf ∷ Request ∷ Wanted ∷ []) until_wanted (names_of words) n (g.F.Shelf.asked c.fetch_message.new.shelf) had))

-- ---- its text is refused

pub returns-in_err-wishes-clause-report : goal.returns-in_err-wishes-clause-report
returns-in_err-wishes-clause-report g c =
    let p = err_from_is_err_and c.from_residual-in_err-wishes.result c.from_residual-in_err-wishes.ensures.1 in
    let words = c.files-names.result in
    let conf = meaning c.args.conf.now in
    let related = option_map (λ view. message_of view.now) c.args.related in
    let stop = c.in_err-wishes.field-0.0 in
    rw (p.1, p.2, c.files-names.ensures) (λ first has. wishes_stopped (g.C.OverMessage.tables c.args.command.now) (g.C.OverMessage.reports c.args.command.now) words first (c.args.source.now ≡ c.args.source.now) (g.S.Source.left c.args.source.now) (g.S.Source.left c.args.source.now) conf has.before.configured related has.requested stop refl
    (message_refused first words Wanted any_message OfWanted c.in_ok-wanted.wanted _ _ stop (g.F.Shelf.files c.args.shelf.now) has.before.kept c.of_any.ensures c.as_ref.ensures.value c.in_ok-wanted.ensures.ok c.in_err-wishes.ensures.refused))

pub returns-in_err-wishes-clause-uses : goal.returns-in_err-wishes-clause-uses
returns-in_err-wishes-clause-uses g c =
    let p = err_from_is_err_and c.from_residual-in_err-wishes.result c.from_residual-in_err-wishes.ensures.1 in
    rw (p.1, p.2) (record {
      cause = text_counts (c.args.source.now ≡ c.args.source.now) (g.F.Shelf.faults c.args.shelf.now) (g.F.Shelf.faults c.fetch_message.new.shelf) (g.S.Source.faults c.args.source.now) c.in_err-wishes.field-0.0 _ c.in_err-wishes.ensures.refused c.in_ok-wanted.ensures.cause;
      later = c.in_ok-wanted.ensures.later;
      reads = unread g.S.Source.left g.S.Source.given g.S.Source.ended g.S.Source.idle g.S.Source.faults (MAX_INPUT_BYTES + 1) c.args.source.now;
    })

pub returns-in_err-wishes-clause-asks : goal.returns-in_err-wishes-clause-asks
returns-in_err-wishes-clause-asks g c =
    let p = err_from_is_err_and c.from_residual-in_err-wishes.result c.from_residual-in_err-wishes.ensures.1 in
    let words = c.files-names.result in
    let stop = c.in_err-wishes.field-0.0 in
    let stopped = text_stop any_message OfWanted (g.F.Shelf.files c.args.shelf.now) (names_of words Wanted) c.in_ok-wanted.wanted _ _ stop c.of_any.ensures c.as_ref.ensures.value c.in_ok-wanted.ensures.ok c.in_err-wishes.ensures.refused in
    rw (p.1, p.2, c.files-names.ensures) (ends_asked g.F.Shelf.files g.F.Shelf.asked g.F.Shelf.reached (λ word. word.now) (names_of words) (Conf ∷ Request ∷ []) Wanted words.wanted refl c.args.shelf.now c.fetch_message.new.shelf (record { keeps = c.in_ok-wanted.ensures.files; asks = c.in_ok-wanted.ensures.asked; reaches = c.in_ok-wanted.ensures.reached; unasked = c.in_ok-wanted.ensures.unasked })
    (Script ∷ Other ∷ []) refl (Err stop) (λ n had. asked_until (g.F.Shelf.files c.args.shelf.now) words Wanted IsWantedRefused OfWanted stop stopped (Conf ∷ Request ∷ Wanted ∷ []) until_wanted (names_of words) n (g.F.Shelf.asked c.fetch_message.new.shelf) had))

-- ---- the script is refused

pub returns-in_err-script-clause-report : goal.returns-in_err-script-clause-report
returns-in_err-script-clause-report g c =
    let p = err_from_is_err_and c.from_residual-in_err-script.result c.from_residual-in_err-script.ensures.1 in
    let words = c.files-names.result in
    let conf = meaning c.args.conf.now in
    let related = option_map (λ view. message_of view.now) c.args.related in
    let stop = c.in_err-script.field-0.0 in
    let wishes = option_map (λ view. message_of view) c.in_ok-wishes.wishes in
    let second = g.F.Shelf.files c.fetch_message.new.shelf in
    rw (p.1, p.2, c.files-names.ensures) (λ first has. script_stopped (g.C.OverMessage.tables c.args.command.now) (g.C.OverMessage.reports c.args.command.now) words first (c.args.source.now ≡ c.args.source.now) (g.S.Source.left c.args.source.now) (g.S.Source.left c.args.source.now) conf has.before.configured related has.requested wishes
    (message_had first words Wanted any_message c.in_ok-wanted.wanted _ _ wishes (g.F.Shelf.files c.args.shelf.now) has.before.kept c.of_any.ensures c.as_ref.ensures.value c.in_ok-wanted.ensures.ok c.in_ok-wishes.ensures.ok) stop refl
    (refused_before first words Script IsScriptRefused OfScript stop second (keeps_both first (g.F.Shelf.files c.args.shelf.now) second has.before.kept c.in_ok-wanted.ensures.files) c.in_err-script.ensures.refused))

pub returns-in_err-script-clause-uses : goal.returns-in_err-script-clause-uses
returns-in_err-script-clause-uses g c =
    let p = err_from_is_err_and c.from_residual-in_err-script.result c.from_residual-in_err-script.ensures.1 in
    rw (p.1, p.2) (record {
      cause = shelf_counts (List Rewrite) (c.args.source.now ≡ c.args.source.now) (g.F.Shelf.faults c.args.shelf.now) (g.F.Shelf.faults c.fetch_message.new.shelf) (g.F.Shelf.faults c.read_script_file.new.shelf) (g.S.Source.faults c.args.source.now)
          c.in_err-script.field-0.0 c.in_ok-wanted.ensures.cause c.in_err-script.ensures.cause refl;
      later = omega (arith, c.in_ok-wanted.ensures.later, c.in_err-script.ensures.later);
      reads = unread g.S.Source.left g.S.Source.given g.S.Source.ended g.S.Source.idle g.S.Source.faults (MAX_INPUT_BYTES + 1) c.args.source.now;
    })

pub returns-in_err-script-clause-asks : goal.returns-in_err-script-clause-asks
returns-in_err-script-clause-asks g c =
    let p = err_from_is_err_and c.from_residual-in_err-script.result c.from_residual-in_err-script.ensures.1 in
    let words = c.files-names.result in
    let stop = c.in_err-script.field-0.0 in
    rw (p.1, p.2, c.files-names.ensures) (then_asked g.F.Shelf.files g.F.Shelf.asked g.F.Shelf.reached (λ word. word.now) (names_of words) (Conf ∷ Request ∷ []) Wanted words.wanted refl c.args.shelf.now c.fetch_message.new.shelf (record { keeps = c.in_ok-wanted.ensures.files; asks = c.in_ok-wanted.ensures.asked; reaches = c.in_ok-wanted.ensures.reached; unasked = c.in_ok-wanted.ensures.unasked }) (Err stop) c.read_script_file.new.shelf
    (ends_asked g.F.Shelf.files g.F.Shelf.asked g.F.Shelf.reached (λ word. word.now) (names_of words) (Conf ∷ Request ∷ Wanted ∷ []) Script words.script refl c.fetch_message.new.shelf c.read_script_file.new.shelf (record { keeps = c.in_err-script.ensures.files; asks = c.in_err-script.ensures.asked; reaches = c.in_err-script.ensures.reached; unasked = c.in_err-script.ensures.unasked })
    (Other ∷ []) refl (Err stop) (λ n had. asked_until (g.F.Shelf.files c.fetch_message.new.shelf) words Script IsScriptRefused OfScript stop c.in_err-script.ensures.refused (Conf ∷ Request ∷ Wanted ∷ Script ∷ []) until_script (names_of words) n (g.F.Shelf.asked c.read_script_file.new.shelf) had)))

-- ---- all of it is read

pub over_record-answer-requires-clause-writable : goal.over_record-answer-requires-clause-writable
over_record-answer-requires-clause-writable g c =
    let name = option_map (λ word. word.now) c.files-names.result.script in
    subst (λ (s : List Rewrite). IsTrue (list_all is_writable s)) (sym c.as_slice.ensures)
    (script_writable (g.F.Shelf.files c.fetch_message.new.shelf) name c.in_ok-script.script c.in_ok-script.ensures.ok)

pub over_record-answer-requires-clause-named : goal.over_record-answer-requires-clause-named
over_record-answer-requires-clause-named g c =
    ap (λ (names : FileNames). names Other) c.files-names.ensures

pub returns-clause-report : goal.returns-clause-report
returns-clause-report g c =
    let words = c.files-names.result in
    let conf = meaning c.args.conf.now in
    let related = option_map (λ view. message_of view.now) c.args.related in
    let wishes = option_map (λ view. message_of view) c.in_ok-wishes.wishes in
    let second = g.F.Shelf.files c.fetch_message.new.shelf in
    let third = g.F.Shelf.files c.read_script_file.new.shelf in
    let also = same_related (λ view. view.now) c.as_ref-2.result c.in_ok-wishes.wishes c.as_ref-2.ensures.value in
    rw (c.files-names.ensures) (
    λ first has.
    let kept = keeps_both first (g.F.Shelf.files c.args.shelf.now) second has.before.kept c.in_ok-wanted.ensures.files in
    all_read (g.C.OverMessage.tables c.args.command.now) (g.C.OverMessage.reports c.args.command.now) words first (c.over_record-answer.new.source ≡ c.args.source.now) (g.S.Source.left c.args.source.now) (g.S.Source.left c.over_record-answer.new.source) conf has.before.configured related has.requested wishes
    (message_had first words Wanted any_message c.in_ok-wanted.wanted _ _ wishes (g.F.Shelf.files c.args.shelf.now) has.before.kept c.of_any.ensures c.as_ref.ensures.value c.in_ok-wanted.ensures.ok c.in_ok-wishes.ensures.ok) c.in_ok-script.script
    (read_before first words Script IsScripted c.in_ok-script.script second kept c.in_ok-script.ensures.ok) c.over_record-answer.result _ third
    (λ i. record { conf = conf; related = related; wishes = also i; script = c.as_slice.ensures i }) (keeps_both first second third kept c.in_ok-script.ensures.files) c.over_record-answer.ensures.report)

pub returns-clause-uses : goal.returns-clause-uses
returns-clause-uses g c =
    record {
      cause = after_shelf (c.over_record-answer.new.source ≡ c.args.source.now) (g.F.Shelf.faults c.args.shelf.now) (g.F.Shelf.faults c.read_script_file.new.shelf) (g.F.Shelf.faults c.over_record-answer.new.shelf)
          (g.S.Source.faults c.args.source.now) (g.S.Source.faults c.over_record-answer.new.source) c.over_record-answer.result (c.in_ok-script.ensures.cause ∙ c.in_ok-wanted.ensures.cause) c.over_record-answer.ensures.uses.cause;
      later = omega (arith, c.in_ok-wanted.ensures.later, c.in_ok-script.ensures.later, c.over_record-answer.ensures.uses.later);
      reads = c.over_record-answer.ensures.uses.reads;
    }

pub returns-clause-asks : goal.returns-clause-asks
returns-clause-asks g c =
    let words = c.files-names.result in
    rw (c.files-names.ensures) (then_asked g.F.Shelf.files g.F.Shelf.asked g.F.Shelf.reached (λ word. word.now) (names_of words) (Conf ∷ Request ∷ []) Wanted words.wanted refl c.args.shelf.now c.fetch_message.new.shelf (record { keeps = c.in_ok-wanted.ensures.files; asks = c.in_ok-wanted.ensures.asked; reaches = c.in_ok-wanted.ensures.reached; unasked = c.in_ok-wanted.ensures.unasked }) c.over_record-answer.result c.over_record-answer.new.shelf
    (then_asked g.F.Shelf.files g.F.Shelf.asked g.F.Shelf.reached (λ word. word.now) (names_of words) (Conf ∷ Request ∷ Wanted ∷ []) Script words.script refl c.fetch_message.new.shelf c.read_script_file.new.shelf (record { keeps = c.in_ok-script.ensures.files; asks = c.in_ok-script.ensures.asked; reaches = c.in_ok-script.ensures.reached; unasked = c.in_ok-script.ensures.unasked }) c.over_record-answer.result c.over_record-answer.new.shelf
    (last_asked g.F.Shelf.files g.F.Shelf.asked g.F.Shelf.reached (λ word. word.now) (names_of words) (Conf ∷ Request ∷ Wanted ∷ Script ∷ []) Other words.other refl c.read_script_file.new.shelf c.over_record-answer.new.shelf c.over_record-answer.ensures.asks [] refl c.over_record-answer.result c.over_record-answer.ensures.late)))
