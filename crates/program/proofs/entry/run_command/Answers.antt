use Rattle.std.proofs.Common.{◌≡◌, ◌+◌, ◌≤◌, Bool, option_map, map, string_bytes, refl, sym, subst, Ok}
use Rattle.std.proofs.Math.Nat.{le_refl}
use Rattle.command_line.specs.Command.{CommandLine, Help, HelpOf, Version, Base, Verify, Sign, Rewrite, Explain, Audit, Gateway, Lists, Negotiate, Sample, base_words, verify_words, sign_words, rewrite_words, explain_words, audit_words, gateway_words, lists_words, negotiate_words, sample_words}
use Rattle.intake.specs.Files.{AreFound, file_bytes}
use Rattle.commands.specs.Outcome.{IfOutcome}
use Rattle.refusals.specs.declared.refusal.TheConstants.{MAX_INPUT_BYTES}
use Rattle.program.specs.Commands.{input_use, name_of, GivesAtMost, LosesFew, Whole}
use Rattle.program.specs.Ends.{HasOutcome, Leaves}
use Rattle.program.specs.Report.{ReportsTurned}
use Rattle.program.specs.tools.Parts.{conf_names}
use Rattle.command_line.proofs.CommandWords.{sample_bounded}
use Rattle.program.proofs.AskedFiles.{asks_of, no_more, none_asked}
use Rattle.program.proofs.Sampled.{sampled}
use Rattle.program.proofs.Sources.{none_gone}
use Rattle.program.proofs.Reports.{alone, never_read, no_command, nothing_named, of_command, spelled}
use Rattle.program.proofs.entry.run_command.Goals as goal

pub returns-in_default-clause-report : goal.returns-in_default-clause-report
returns-in_default-clause-report g c =
    no_command (map string_bytes c.args.arguments.now) (g.F.Shelf.files c.args.shelf.now) (c.args.source.now ≡ c.args.source.now) (g.S.Source.left c.args.source.now)
    (g.S.Source.left c.args.source.now) c.in_default.ensures.none refl

pub returns-in_default-clause-few : goal.returns-in_default-clause-few
returns-in_default-clause-few g c = λ command is. absurd (c.in_default.ensures.none command is)

pub returns-in_default-clause-given : goal.returns-in_default-clause-given
returns-in_default-clause-given g c = λ command is. absurd (c.in_default.ensures.none command is)

pub returns-in_default-clause-asked : goal.returns-in_default-clause-asked
returns-in_default-clause-asked g c =
    record { until = λ command is. absurd (c.in_default.ensures.none command is); most = λ command is. absurd (c.in_default.ensures.none command is) }

pub returns-in_default-clause-reached : goal.returns-in_default-clause-reached
returns-in_default-clause-reached g c = λ command is. absurd (c.in_default.ensures.none command is)

pub returns-in_ok-help_outcome-in-Help-clause-report : goal.returns-in_ok-help_outcome-in-Help-clause-report
returns-in_ok-help_outcome-in-Help-clause-report g c =
    let outcome = c.in_ok-help_outcome-in-Help.field-0 in
    spelled (map string_bytes c.args.arguments.now) Help (rw c.in-Help.is at c.in-Some.ensures.some) (g.F.Shelf.files c.args.shelf.now) (c.args.source.now ≡ c.args.source.now)
    (g.S.Source.left c.args.source.now) (g.S.Source.left c.args.source.now) (Ok outcome)
    (alone Help (g.F.Shelf.files c.args.shelf.now) (c.args.source.now ≡ c.args.source.now) (g.S.Source.left c.args.source.now) (g.S.Source.left c.args.source.now) outcome refl (nothing_named (g.F.Shelf.files c.args.shelf.now)) refl
    (λ found input. c.in_ok-help_outcome-in-Help.ensures))

pub returns-in_ok-help_outcome-in-Help-clause-asked : goal.returns-in_ok-help_outcome-in-Help-clause-asked
returns-in_ok-help_outcome-in-Help-clause-asked g c =
    asks_of (map string_bytes c.args.arguments.now) Help (rw c.in-Help.is at c.in-Some.ensures.some) (Ok c.in_ok-help_outcome-in-Help.field-0) (g.F.Shelf.asked c.args.shelf.now) (g.F.Shelf.asked c.args.shelf.now) (none_asked (Ok c.in_ok-help_outcome-in-Help.field-0) (g.F.Shelf.asked c.args.shelf.now)) (no_more (g.F.Shelf.asked c.args.shelf.now))

pub returns-in_ok-write_help_of-in-HelpOf-clause-report : goal.returns-in_ok-write_help_of-in-HelpOf-clause-report
returns-in_ok-write_help_of-in-HelpOf-clause-report g c =
    let outcome = c.in_ok-write_help_of-in-HelpOf.field-0 in
    let line = HelpOf c.in-HelpOf.name in
    spelled (map string_bytes c.args.arguments.now) line (rw c.in-HelpOf.is at c.in-Some.ensures.some) (g.F.Shelf.files c.args.shelf.now) (c.args.source.now ≡ c.args.source.now)
    (g.S.Source.left c.args.source.now) (g.S.Source.left c.args.source.now) (Ok outcome)
    (alone line (g.F.Shelf.files c.args.shelf.now) (c.args.source.now ≡ c.args.source.now) (g.S.Source.left c.args.source.now) (g.S.Source.left c.args.source.now) outcome refl (nothing_named (g.F.Shelf.files c.args.shelf.now)) refl
    (λ found input. c.in_ok-write_help_of-in-HelpOf.ensures))

pub returns-in_ok-write_help_of-in-HelpOf-clause-asked : goal.returns-in_ok-write_help_of-in-HelpOf-clause-asked
returns-in_ok-write_help_of-in-HelpOf-clause-asked g c =
    asks_of (map string_bytes c.args.arguments.now) (HelpOf c.in-HelpOf.name) (rw c.in-HelpOf.is at c.in-Some.ensures.some) (Ok c.in_ok-write_help_of-in-HelpOf.field-0) (g.F.Shelf.asked c.args.shelf.now) (g.F.Shelf.asked c.args.shelf.now) (none_asked (Ok c.in_ok-write_help_of-in-HelpOf.field-0) (g.F.Shelf.asked c.args.shelf.now)) (no_more (g.F.Shelf.asked c.args.shelf.now))

pub returns-in_ok-version_outcome-in-Version-clause-report : goal.returns-in_ok-version_outcome-in-Version-clause-report
returns-in_ok-version_outcome-in-Version-clause-report g c =
    let outcome = c.in_ok-version_outcome-in-Version.field-0 in
    spelled (map string_bytes c.args.arguments.now) Version (rw c.in-Version.is at c.in-Some.ensures.some) (g.F.Shelf.files c.args.shelf.now) (c.args.source.now ≡ c.args.source.now)
    (g.S.Source.left c.args.source.now) (g.S.Source.left c.args.source.now) (Ok outcome)
    (alone Version (g.F.Shelf.files c.args.shelf.now) (c.args.source.now ≡ c.args.source.now) (g.S.Source.left c.args.source.now) (g.S.Source.left c.args.source.now) outcome refl (nothing_named (g.F.Shelf.files c.args.shelf.now)) refl
    (λ found input. c.in_ok-version_outcome-in-Version.ensures))

pub returns-in_ok-version_outcome-in-Version-clause-asked : goal.returns-in_ok-version_outcome-in-Version-clause-asked
returns-in_ok-version_outcome-in-Version-clause-asked g c =
    asks_of (map string_bytes c.args.arguments.now) Version (rw c.in-Version.is at c.in-Some.ensures.some) (Ok c.in_ok-version_outcome-in-Version.field-0) (g.F.Shelf.asked c.args.shelf.now) (g.F.Shelf.asked c.args.shelf.now) (none_asked (Ok c.in_ok-version_outcome-in-Version.field-0) (g.F.Shelf.asked c.args.shelf.now)) (no_more (g.F.Shelf.asked c.args.shelf.now))

pub returns-in-Base-clause-report : goal.returns-in-Base-clause-report
returns-in-Base-clause-report g c =
    spelled (map string_bytes c.args.arguments.now) (Base (base_words c.in-Base.words)) (rw c.in-Base.is at c.in-Some.ensures.some) (g.F.Shelf.files c.args.shelf.now)
    (c.over_message.new.source ≡ c.args.source.now) (g.S.Source.left c.args.source.now) (g.S.Source.left c.over_message.new.source) c.over_message.result c.over_message.ensures.report

pub returns-in-Base-clause-few : goal.returns-in-Base-clause-few
returns-in-Base-clause-few g c =
    of_command (λ (line : CommandLine). LosesFew (input_use line) (g.S.Source.left c.args.source.now) (g.S.Source.left c.over_message.new.source))
    (map string_bytes c.args.arguments.now) (Base (base_words c.in-Base.words)) (rw c.in-Base.is at c.in-Some.ensures.some) c.over_message.ensures.uses.reads.few

pub returns-in-Base-clause-given : goal.returns-in-Base-clause-given
returns-in-Base-clause-given g c =
    of_command (λ (line : CommandLine). GivesAtMost (input_use line) (g.S.Source.given c.args.source.now) (g.S.Source.given c.over_message.new.source))
    (map string_bytes c.args.arguments.now) (Base (base_words c.in-Base.words)) (rw c.in-Base.is at c.in-Some.ensures.some) c.over_message.ensures.uses.reads.gives

pub returns-in-Base-clause-asked : goal.returns-in-Base-clause-asked
returns-in-Base-clause-asked g c =
    asks_of (map string_bytes c.args.arguments.now) (Base (base_words c.in-Base.words)) (rw c.in-Base.is at c.in-Some.ensures.some) c.over_message.result (g.F.Shelf.asked c.args.shelf.now) (g.F.Shelf.asked c.over_message.new.shelf)
    c.over_message.ensures.asked c.over_message.ensures.asks.asks

pub returns-in-Base-clause-reached : goal.returns-in-Base-clause-reached
returns-in-Base-clause-reached g c =
    of_command (λ (line : CommandLine). g.F.Shelf.reached c.over_message.new.shelf ≤ g.F.Shelf.reached c.args.shelf.now + file_bytes (name_of line))
    (map string_bytes c.args.arguments.now) (Base (base_words c.in-Base.words)) (rw c.in-Base.is at c.in-Some.ensures.some) c.over_message.ensures.asks.reaches

pub returns-in-Base-clause-unread : goal.returns-in-Base-clause-unread
returns-in-Base-clause-unread g c = λ none. never_read _ (none (Base (base_words c.in-Base.words)) (rw c.in-Base.is at c.in-Some.ensures.some))

pub returns-in-Base-clause-unasked : goal.returns-in-Base-clause-unasked
returns-in-Base-clause-unasked g c = λ named. c.over_message.ensures.asks.unasked (named (Base (base_words c.in-Base.words)) (rw c.in-Base.is at c.in-Some.ensures.some))

pub returns-in-Base-clause-files : goal.returns-in-Base-clause-files
returns-in-Base-clause-files g c = c.over_message.ensures.asks.files

pub returns-in-Verify-clause-report : goal.returns-in-Verify-clause-report
returns-in-Verify-clause-report g c =
    spelled (map string_bytes c.args.arguments.now) (Verify (verify_words c.in-Verify.words)) (rw c.in-Verify.is at c.in-Some.ensures.some) (g.F.Shelf.files c.args.shelf.now)
    (c.over_message-in-Verify.new.source ≡ c.args.source.now) (g.S.Source.left c.args.source.now) (g.S.Source.left c.over_message-in-Verify.new.source) c.over_message-in-Verify.result c.over_message-in-Verify.ensures.report

pub returns-in-Verify-clause-few : goal.returns-in-Verify-clause-few
returns-in-Verify-clause-few g c =
    of_command (λ (line : CommandLine). LosesFew (input_use line) (g.S.Source.left c.args.source.now) (g.S.Source.left c.over_message-in-Verify.new.source))
    (map string_bytes c.args.arguments.now) (Verify (verify_words c.in-Verify.words)) (rw c.in-Verify.is at c.in-Some.ensures.some) c.over_message-in-Verify.ensures.uses.reads.few

pub returns-in-Verify-clause-given : goal.returns-in-Verify-clause-given
returns-in-Verify-clause-given g c =
    of_command (λ (line : CommandLine). GivesAtMost (input_use line) (g.S.Source.given c.args.source.now) (g.S.Source.given c.over_message-in-Verify.new.source))
    (map string_bytes c.args.arguments.now) (Verify (verify_words c.in-Verify.words)) (rw c.in-Verify.is at c.in-Some.ensures.some) c.over_message-in-Verify.ensures.uses.reads.gives

pub returns-in-Verify-clause-asked : goal.returns-in-Verify-clause-asked
returns-in-Verify-clause-asked g c =
    asks_of (map string_bytes c.args.arguments.now) (Verify (verify_words c.in-Verify.words)) (rw c.in-Verify.is at c.in-Some.ensures.some) c.over_message-in-Verify.result (g.F.Shelf.asked c.args.shelf.now) (g.F.Shelf.asked c.over_message-in-Verify.new.shelf)
    c.over_message-in-Verify.ensures.asked c.over_message-in-Verify.ensures.asks.asks

pub returns-in-Verify-clause-reached : goal.returns-in-Verify-clause-reached
returns-in-Verify-clause-reached g c =
    of_command (λ (line : CommandLine). g.F.Shelf.reached c.over_message-in-Verify.new.shelf ≤ g.F.Shelf.reached c.args.shelf.now + file_bytes (name_of line))
    (map string_bytes c.args.arguments.now) (Verify (verify_words c.in-Verify.words)) (rw c.in-Verify.is at c.in-Some.ensures.some) c.over_message-in-Verify.ensures.asks.reaches

pub returns-in-Verify-clause-unread : goal.returns-in-Verify-clause-unread
returns-in-Verify-clause-unread g c = λ none. never_read _ (none (Verify (verify_words c.in-Verify.words)) (rw c.in-Verify.is at c.in-Some.ensures.some))

pub returns-in-Verify-clause-unasked : goal.returns-in-Verify-clause-unasked
returns-in-Verify-clause-unasked g c = λ named. c.over_message-in-Verify.ensures.asks.unasked (named (Verify (verify_words c.in-Verify.words)) (rw c.in-Verify.is at c.in-Some.ensures.some))

pub returns-in-Verify-clause-files : goal.returns-in-Verify-clause-files
returns-in-Verify-clause-files g c = c.over_message-in-Verify.ensures.asks.files

pub returns-in-Sign-clause-report : goal.returns-in-Sign-clause-report
returns-in-Sign-clause-report g c =
    spelled (map string_bytes c.args.arguments.now) (Sign (sign_words c.in-Sign.words)) (rw c.in-Sign.is at c.in-Some.ensures.some) (g.F.Shelf.files c.args.shelf.now)
    (c.over_message-in-Sign.new.source ≡ c.args.source.now) (g.S.Source.left c.args.source.now) (g.S.Source.left c.over_message-in-Sign.new.source) c.over_message-in-Sign.result c.over_message-in-Sign.ensures.report

pub returns-in-Sign-clause-few : goal.returns-in-Sign-clause-few
returns-in-Sign-clause-few g c =
    of_command (λ (line : CommandLine). LosesFew (input_use line) (g.S.Source.left c.args.source.now) (g.S.Source.left c.over_message-in-Sign.new.source))
    (map string_bytes c.args.arguments.now) (Sign (sign_words c.in-Sign.words)) (rw c.in-Sign.is at c.in-Some.ensures.some) c.over_message-in-Sign.ensures.uses.reads.few

pub returns-in-Sign-clause-given : goal.returns-in-Sign-clause-given
returns-in-Sign-clause-given g c =
    of_command (λ (line : CommandLine). GivesAtMost (input_use line) (g.S.Source.given c.args.source.now) (g.S.Source.given c.over_message-in-Sign.new.source))
    (map string_bytes c.args.arguments.now) (Sign (sign_words c.in-Sign.words)) (rw c.in-Sign.is at c.in-Some.ensures.some) c.over_message-in-Sign.ensures.uses.reads.gives

pub returns-in-Sign-clause-asked : goal.returns-in-Sign-clause-asked
returns-in-Sign-clause-asked g c =
    asks_of (map string_bytes c.args.arguments.now) (Sign (sign_words c.in-Sign.words)) (rw c.in-Sign.is at c.in-Some.ensures.some) c.over_message-in-Sign.result (g.F.Shelf.asked c.args.shelf.now) (g.F.Shelf.asked c.over_message-in-Sign.new.shelf)
    c.over_message-in-Sign.ensures.asked c.over_message-in-Sign.ensures.asks.asks

pub returns-in-Sign-clause-reached : goal.returns-in-Sign-clause-reached
returns-in-Sign-clause-reached g c =
    of_command (λ (line : CommandLine). g.F.Shelf.reached c.over_message-in-Sign.new.shelf ≤ g.F.Shelf.reached c.args.shelf.now + file_bytes (name_of line))
    (map string_bytes c.args.arguments.now) (Sign (sign_words c.in-Sign.words)) (rw c.in-Sign.is at c.in-Some.ensures.some) c.over_message-in-Sign.ensures.asks.reaches

pub returns-in-Sign-clause-unread : goal.returns-in-Sign-clause-unread
returns-in-Sign-clause-unread g c = λ none. never_read _ (none (Sign (sign_words c.in-Sign.words)) (rw c.in-Sign.is at c.in-Some.ensures.some))

pub returns-in-Sign-clause-unasked : goal.returns-in-Sign-clause-unasked
returns-in-Sign-clause-unasked g c = λ named. c.over_message-in-Sign.ensures.asks.unasked (named (Sign (sign_words c.in-Sign.words)) (rw c.in-Sign.is at c.in-Some.ensures.some))

pub returns-in-Sign-clause-files : goal.returns-in-Sign-clause-files
returns-in-Sign-clause-files g c = c.over_message-in-Sign.ensures.asks.files

pub returns-in-Rewrite-clause-report : goal.returns-in-Rewrite-clause-report
returns-in-Rewrite-clause-report g c =
    spelled (map string_bytes c.args.arguments.now) (Rewrite (rewrite_words c.in-Rewrite.words)) (rw c.in-Rewrite.is at c.in-Some.ensures.some) (g.F.Shelf.files c.args.shelf.now)
    (c.over_message-in-Rewrite.new.source ≡ c.args.source.now) (g.S.Source.left c.args.source.now) (g.S.Source.left c.over_message-in-Rewrite.new.source) c.over_message-in-Rewrite.result c.over_message-in-Rewrite.ensures.report

pub returns-in-Rewrite-clause-few : goal.returns-in-Rewrite-clause-few
returns-in-Rewrite-clause-few g c =
    of_command (λ (line : CommandLine). LosesFew (input_use line) (g.S.Source.left c.args.source.now) (g.S.Source.left c.over_message-in-Rewrite.new.source))
    (map string_bytes c.args.arguments.now) (Rewrite (rewrite_words c.in-Rewrite.words)) (rw c.in-Rewrite.is at c.in-Some.ensures.some) c.over_message-in-Rewrite.ensures.uses.reads.few

pub returns-in-Rewrite-clause-given : goal.returns-in-Rewrite-clause-given
returns-in-Rewrite-clause-given g c =
    of_command (λ (line : CommandLine). GivesAtMost (input_use line) (g.S.Source.given c.args.source.now) (g.S.Source.given c.over_message-in-Rewrite.new.source))
    (map string_bytes c.args.arguments.now) (Rewrite (rewrite_words c.in-Rewrite.words)) (rw c.in-Rewrite.is at c.in-Some.ensures.some) c.over_message-in-Rewrite.ensures.uses.reads.gives

pub returns-in-Rewrite-clause-asked : goal.returns-in-Rewrite-clause-asked
returns-in-Rewrite-clause-asked g c =
    asks_of (map string_bytes c.args.arguments.now) (Rewrite (rewrite_words c.in-Rewrite.words)) (rw c.in-Rewrite.is at c.in-Some.ensures.some) c.over_message-in-Rewrite.result (g.F.Shelf.asked c.args.shelf.now) (g.F.Shelf.asked c.over_message-in-Rewrite.new.shelf)
    c.over_message-in-Rewrite.ensures.asked c.over_message-in-Rewrite.ensures.asks.asks

pub returns-in-Rewrite-clause-reached : goal.returns-in-Rewrite-clause-reached
returns-in-Rewrite-clause-reached g c =
    of_command (λ (line : CommandLine). g.F.Shelf.reached c.over_message-in-Rewrite.new.shelf ≤ g.F.Shelf.reached c.args.shelf.now + file_bytes (name_of line))
    (map string_bytes c.args.arguments.now) (Rewrite (rewrite_words c.in-Rewrite.words)) (rw c.in-Rewrite.is at c.in-Some.ensures.some) c.over_message-in-Rewrite.ensures.asks.reaches

pub returns-in-Rewrite-clause-unread : goal.returns-in-Rewrite-clause-unread
returns-in-Rewrite-clause-unread g c = λ none. never_read _ (none (Rewrite (rewrite_words c.in-Rewrite.words)) (rw c.in-Rewrite.is at c.in-Some.ensures.some))

pub returns-in-Rewrite-clause-unasked : goal.returns-in-Rewrite-clause-unasked
returns-in-Rewrite-clause-unasked g c = λ named. c.over_message-in-Rewrite.ensures.asks.unasked (named (Rewrite (rewrite_words c.in-Rewrite.words)) (rw c.in-Rewrite.is at c.in-Some.ensures.some))

pub returns-in-Rewrite-clause-files : goal.returns-in-Rewrite-clause-files
returns-in-Rewrite-clause-files g c = c.over_message-in-Rewrite.ensures.asks.files

pub returns-in-Explain-clause-report : goal.returns-in-Explain-clause-report
returns-in-Explain-clause-report g c =
    spelled (map string_bytes c.args.arguments.now) (Explain (explain_words c.in-Explain.words)) (rw c.in-Explain.is at c.in-Some.ensures.some) (g.F.Shelf.files c.args.shelf.now)
    (c.over_message-in-Explain.new.source ≡ c.args.source.now) (g.S.Source.left c.args.source.now) (g.S.Source.left c.over_message-in-Explain.new.source) c.over_message-in-Explain.result c.over_message-in-Explain.ensures.report

pub returns-in-Explain-clause-few : goal.returns-in-Explain-clause-few
returns-in-Explain-clause-few g c =
    of_command (λ (line : CommandLine). LosesFew (input_use line) (g.S.Source.left c.args.source.now) (g.S.Source.left c.over_message-in-Explain.new.source))
    (map string_bytes c.args.arguments.now) (Explain (explain_words c.in-Explain.words)) (rw c.in-Explain.is at c.in-Some.ensures.some) c.over_message-in-Explain.ensures.uses.reads.few

pub returns-in-Explain-clause-given : goal.returns-in-Explain-clause-given
returns-in-Explain-clause-given g c =
    of_command (λ (line : CommandLine). GivesAtMost (input_use line) (g.S.Source.given c.args.source.now) (g.S.Source.given c.over_message-in-Explain.new.source))
    (map string_bytes c.args.arguments.now) (Explain (explain_words c.in-Explain.words)) (rw c.in-Explain.is at c.in-Some.ensures.some) c.over_message-in-Explain.ensures.uses.reads.gives

pub returns-in-Explain-clause-asked : goal.returns-in-Explain-clause-asked
returns-in-Explain-clause-asked g c =
    asks_of (map string_bytes c.args.arguments.now) (Explain (explain_words c.in-Explain.words)) (rw c.in-Explain.is at c.in-Some.ensures.some) c.over_message-in-Explain.result (g.F.Shelf.asked c.args.shelf.now) (g.F.Shelf.asked c.over_message-in-Explain.new.shelf)
    c.over_message-in-Explain.ensures.asked c.over_message-in-Explain.ensures.asks.asks

pub returns-in-Explain-clause-reached : goal.returns-in-Explain-clause-reached
returns-in-Explain-clause-reached g c =
    of_command (λ (line : CommandLine). g.F.Shelf.reached c.over_message-in-Explain.new.shelf ≤ g.F.Shelf.reached c.args.shelf.now + file_bytes (name_of line))
    (map string_bytes c.args.arguments.now) (Explain (explain_words c.in-Explain.words)) (rw c.in-Explain.is at c.in-Some.ensures.some) c.over_message-in-Explain.ensures.asks.reaches

pub returns-in-Explain-clause-unread : goal.returns-in-Explain-clause-unread
returns-in-Explain-clause-unread g c = λ none. never_read _ (none (Explain (explain_words c.in-Explain.words)) (rw c.in-Explain.is at c.in-Some.ensures.some))

pub returns-in-Explain-clause-unasked : goal.returns-in-Explain-clause-unasked
returns-in-Explain-clause-unasked g c = λ named. c.over_message-in-Explain.ensures.asks.unasked (named (Explain (explain_words c.in-Explain.words)) (rw c.in-Explain.is at c.in-Some.ensures.some))

pub returns-in-Explain-clause-files : goal.returns-in-Explain-clause-files
returns-in-Explain-clause-files g c = c.over_message-in-Explain.ensures.asks.files

pub returns-in-Audit-clause-report : goal.returns-in-Audit-clause-report
returns-in-Audit-clause-report g c =
    spelled (map string_bytes c.args.arguments.now) (Audit (audit_words c.in-Audit.words)) (rw c.in-Audit.is at c.in-Some.ensures.some) (g.F.Shelf.files c.args.shelf.now)
    (c.over_text.new.source ≡ c.args.source.now) (g.S.Source.left c.args.source.now) (g.S.Source.left c.over_text.new.source) c.over_text.result c.over_text.ensures.report

pub returns-in-Audit-clause-few : goal.returns-in-Audit-clause-few
returns-in-Audit-clause-few g c =
    of_command (λ (line : CommandLine). LosesFew (input_use line) (g.S.Source.left c.args.source.now) (g.S.Source.left c.over_text.new.source))
    (map string_bytes c.args.arguments.now) (Audit (audit_words c.in-Audit.words)) (rw c.in-Audit.is at c.in-Some.ensures.some) c.over_text.ensures.uses.reads.few

pub returns-in-Audit-clause-given : goal.returns-in-Audit-clause-given
returns-in-Audit-clause-given g c =
    of_command (λ (line : CommandLine). GivesAtMost (input_use line) (g.S.Source.given c.args.source.now) (g.S.Source.given c.over_text.new.source))
    (map string_bytes c.args.arguments.now) (Audit (audit_words c.in-Audit.words)) (rw c.in-Audit.is at c.in-Some.ensures.some) c.over_text.ensures.uses.reads.gives

pub returns-in-Audit-clause-asked : goal.returns-in-Audit-clause-asked
returns-in-Audit-clause-asked g c =
    asks_of (map string_bytes c.args.arguments.now) (Audit (audit_words c.in-Audit.words)) (rw c.in-Audit.is at c.in-Some.ensures.some) c.over_text.result (g.F.Shelf.asked c.args.shelf.now) (g.F.Shelf.asked c.over_text.new.shelf)
    c.over_text.ensures.asked c.over_text.ensures.asks.asks

pub returns-in-Audit-clause-reached : goal.returns-in-Audit-clause-reached
returns-in-Audit-clause-reached g c =
    of_command (λ (line : CommandLine). g.F.Shelf.reached c.over_text.new.shelf ≤ g.F.Shelf.reached c.args.shelf.now + file_bytes (name_of line))
    (map string_bytes c.args.arguments.now) (Audit (audit_words c.in-Audit.words)) (rw c.in-Audit.is at c.in-Some.ensures.some) c.over_text.ensures.asks.reaches

pub returns-in-Audit-clause-unread : goal.returns-in-Audit-clause-unread
returns-in-Audit-clause-unread g c = λ none. never_read _ (none (Audit (audit_words c.in-Audit.words)) (rw c.in-Audit.is at c.in-Some.ensures.some))

pub returns-in-Audit-clause-unasked : goal.returns-in-Audit-clause-unasked
returns-in-Audit-clause-unasked g c = λ named. c.over_text.ensures.asks.unasked (named (Audit (audit_words c.in-Audit.words)) (rw c.in-Audit.is at c.in-Some.ensures.some))

pub returns-in-Audit-clause-files : goal.returns-in-Audit-clause-files
returns-in-Audit-clause-files g c = c.over_text.ensures.asks.files

pub returns-then-words-clause-report : goal.returns-then-words-clause-report
returns-then-words-clause-report g c =
    spelled (map string_bytes c.args.arguments.now) (Lists (lists_words c.in-Lists.words)) (rw c.in-Lists.is at c.in-Some.ensures.some) (g.F.Shelf.files c.args.shelf.now)
    (c.over_text-then-words.new.source ≡ c.args.source.now) (g.S.Source.left c.args.source.now) (g.S.Source.left c.over_text-then-words.new.source) c.over_text-then-words.result (subst (λ (into : Bool). IfOutcome c.over_text-then-words.result (HasOutcome (ReportsTurned into (conf_names (option_map (λ word. word.now) c.in-Lists.words.conf))) (Leaves (Whole MAX_INPUT_BYTES) (c.over_text-then-words.new.source ≡ c.args.source.now) (g.S.Source.left c.args.source.now) (g.S.Source.left c.over_text-then-words.new.source))
    (AreFound (g.F.Shelf.files c.args.shelf.now) (conf_names (option_map (λ word. word.now) c.in-Lists.words.conf))) (g.S.Source.left c.args.source.now))) (sym c.if-words.true) c.over_text-then-words.ensures.report)

pub returns-then-words-clause-few : goal.returns-then-words-clause-few
returns-then-words-clause-few g c =
    of_command (λ (line : CommandLine). LosesFew (input_use line) (g.S.Source.left c.args.source.now) (g.S.Source.left c.over_text-then-words.new.source))
    (map string_bytes c.args.arguments.now) (Lists (lists_words c.in-Lists.words)) (rw c.in-Lists.is at c.in-Some.ensures.some) c.over_text-then-words.ensures.uses.reads.few

pub returns-then-words-clause-given : goal.returns-then-words-clause-given
returns-then-words-clause-given g c =
    of_command (λ (line : CommandLine). GivesAtMost (input_use line) (g.S.Source.given c.args.source.now) (g.S.Source.given c.over_text-then-words.new.source))
    (map string_bytes c.args.arguments.now) (Lists (lists_words c.in-Lists.words)) (rw c.in-Lists.is at c.in-Some.ensures.some) c.over_text-then-words.ensures.uses.reads.gives

pub returns-then-words-clause-asked : goal.returns-then-words-clause-asked
returns-then-words-clause-asked g c =
    asks_of (map string_bytes c.args.arguments.now) (Lists (lists_words c.in-Lists.words)) (rw c.in-Lists.is at c.in-Some.ensures.some) c.over_text-then-words.result (g.F.Shelf.asked c.args.shelf.now) (g.F.Shelf.asked c.over_text-then-words.new.shelf)
    c.over_text-then-words.ensures.asked c.over_text-then-words.ensures.asks.asks

pub returns-then-words-clause-reached : goal.returns-then-words-clause-reached
returns-then-words-clause-reached g c =
    of_command (λ (line : CommandLine). g.F.Shelf.reached c.over_text-then-words.new.shelf ≤ g.F.Shelf.reached c.args.shelf.now + file_bytes (name_of line))
    (map string_bytes c.args.arguments.now) (Lists (lists_words c.in-Lists.words)) (rw c.in-Lists.is at c.in-Some.ensures.some) c.over_text-then-words.ensures.asks.reaches

pub returns-then-words-clause-unread : goal.returns-then-words-clause-unread
returns-then-words-clause-unread g c = λ none. never_read _ (none (Lists (lists_words c.in-Lists.words)) (rw c.in-Lists.is at c.in-Some.ensures.some))

pub returns-then-words-clause-unasked : goal.returns-then-words-clause-unasked
returns-then-words-clause-unasked g c = λ named. c.over_text-then-words.ensures.asks.unasked (named (Lists (lists_words c.in-Lists.words)) (rw c.in-Lists.is at c.in-Some.ensures.some))

pub returns-then-words-clause-files : goal.returns-then-words-clause-files
returns-then-words-clause-files g c = c.over_text-then-words.ensures.asks.files

pub returns-else-words-clause-report : goal.returns-else-words-clause-report
returns-else-words-clause-report g c =
    spelled (map string_bytes c.args.arguments.now) (Lists (lists_words c.in-Lists.words)) (rw c.in-Lists.is at c.in-Some.ensures.some) (g.F.Shelf.files c.args.shelf.now)
    (c.over_message-else-words.new.source ≡ c.args.source.now) (g.S.Source.left c.args.source.now) (g.S.Source.left c.over_message-else-words.new.source) c.over_message-else-words.result (subst (λ (into : Bool). IfOutcome c.over_message-else-words.result (HasOutcome (ReportsTurned into (conf_names (option_map (λ word. word.now) c.in-Lists.words.conf))) (Leaves (Whole MAX_INPUT_BYTES) (c.over_message-else-words.new.source ≡ c.args.source.now) (g.S.Source.left c.args.source.now) (g.S.Source.left c.over_message-else-words.new.source))
    (AreFound (g.F.Shelf.files c.args.shelf.now) (conf_names (option_map (λ word. word.now) c.in-Lists.words.conf))) (g.S.Source.left c.args.source.now))) (sym c.if-words.false) c.over_message-else-words.ensures.report)

pub returns-else-words-clause-few : goal.returns-else-words-clause-few
returns-else-words-clause-few g c =
    of_command (λ (line : CommandLine). LosesFew (input_use line) (g.S.Source.left c.args.source.now) (g.S.Source.left c.over_message-else-words.new.source))
    (map string_bytes c.args.arguments.now) (Lists (lists_words c.in-Lists.words)) (rw c.in-Lists.is at c.in-Some.ensures.some) c.over_message-else-words.ensures.uses.reads.few

pub returns-else-words-clause-given : goal.returns-else-words-clause-given
returns-else-words-clause-given g c =
    of_command (λ (line : CommandLine). GivesAtMost (input_use line) (g.S.Source.given c.args.source.now) (g.S.Source.given c.over_message-else-words.new.source))
    (map string_bytes c.args.arguments.now) (Lists (lists_words c.in-Lists.words)) (rw c.in-Lists.is at c.in-Some.ensures.some) c.over_message-else-words.ensures.uses.reads.gives

pub returns-else-words-clause-asked : goal.returns-else-words-clause-asked
returns-else-words-clause-asked g c =
    asks_of (map string_bytes c.args.arguments.now) (Lists (lists_words c.in-Lists.words)) (rw c.in-Lists.is at c.in-Some.ensures.some) c.over_message-else-words.result (g.F.Shelf.asked c.args.shelf.now) (g.F.Shelf.asked c.over_message-else-words.new.shelf)
    c.over_message-else-words.ensures.asked c.over_message-else-words.ensures.asks.asks

pub returns-else-words-clause-reached : goal.returns-else-words-clause-reached
returns-else-words-clause-reached g c =
    of_command (λ (line : CommandLine). g.F.Shelf.reached c.over_message-else-words.new.shelf ≤ g.F.Shelf.reached c.args.shelf.now + file_bytes (name_of line))
    (map string_bytes c.args.arguments.now) (Lists (lists_words c.in-Lists.words)) (rw c.in-Lists.is at c.in-Some.ensures.some) c.over_message-else-words.ensures.asks.reaches

pub returns-else-words-clause-unread : goal.returns-else-words-clause-unread
returns-else-words-clause-unread g c = λ none. never_read _ (none (Lists (lists_words c.in-Lists.words)) (rw c.in-Lists.is at c.in-Some.ensures.some))

pub returns-else-words-clause-unasked : goal.returns-else-words-clause-unasked
returns-else-words-clause-unasked g c = λ named. c.over_message-else-words.ensures.asks.unasked (named (Lists (lists_words c.in-Lists.words)) (rw c.in-Lists.is at c.in-Some.ensures.some))

pub returns-else-words-clause-files : goal.returns-else-words-clause-files
returns-else-words-clause-files g c = c.over_message-else-words.ensures.asks.files

pub returns-in-Negotiate-clause-report : goal.returns-in-Negotiate-clause-report
returns-in-Negotiate-clause-report g c =
    spelled (map string_bytes c.args.arguments.now) (Negotiate (negotiate_words c.in-Negotiate.words)) (rw c.in-Negotiate.is at c.in-Some.ensures.some) (g.F.Shelf.files c.args.shelf.now)
    (c.over_message-in-Negotiate.new.source ≡ c.args.source.now) (g.S.Source.left c.args.source.now) (g.S.Source.left c.over_message-in-Negotiate.new.source) c.over_message-in-Negotiate.result c.over_message-in-Negotiate.ensures.report

pub returns-in-Negotiate-clause-few : goal.returns-in-Negotiate-clause-few
returns-in-Negotiate-clause-few g c =
    of_command (λ (line : CommandLine). LosesFew (input_use line) (g.S.Source.left c.args.source.now) (g.S.Source.left c.over_message-in-Negotiate.new.source))
    (map string_bytes c.args.arguments.now) (Negotiate (negotiate_words c.in-Negotiate.words)) (rw c.in-Negotiate.is at c.in-Some.ensures.some) c.over_message-in-Negotiate.ensures.uses.reads.few

pub returns-in-Negotiate-clause-given : goal.returns-in-Negotiate-clause-given
returns-in-Negotiate-clause-given g c =
    of_command (λ (line : CommandLine). GivesAtMost (input_use line) (g.S.Source.given c.args.source.now) (g.S.Source.given c.over_message-in-Negotiate.new.source))
    (map string_bytes c.args.arguments.now) (Negotiate (negotiate_words c.in-Negotiate.words)) (rw c.in-Negotiate.is at c.in-Some.ensures.some) c.over_message-in-Negotiate.ensures.uses.reads.gives

pub returns-in-Negotiate-clause-asked : goal.returns-in-Negotiate-clause-asked
returns-in-Negotiate-clause-asked g c =
    asks_of (map string_bytes c.args.arguments.now) (Negotiate (negotiate_words c.in-Negotiate.words)) (rw c.in-Negotiate.is at c.in-Some.ensures.some) c.over_message-in-Negotiate.result (g.F.Shelf.asked c.args.shelf.now) (g.F.Shelf.asked c.over_message-in-Negotiate.new.shelf)
    c.over_message-in-Negotiate.ensures.asked c.over_message-in-Negotiate.ensures.asks.asks

pub returns-in-Negotiate-clause-reached : goal.returns-in-Negotiate-clause-reached
returns-in-Negotiate-clause-reached g c =
    of_command (λ (line : CommandLine). g.F.Shelf.reached c.over_message-in-Negotiate.new.shelf ≤ g.F.Shelf.reached c.args.shelf.now + file_bytes (name_of line))
    (map string_bytes c.args.arguments.now) (Negotiate (negotiate_words c.in-Negotiate.words)) (rw c.in-Negotiate.is at c.in-Some.ensures.some) c.over_message-in-Negotiate.ensures.asks.reaches

pub returns-in-Negotiate-clause-unread : goal.returns-in-Negotiate-clause-unread
returns-in-Negotiate-clause-unread g c = λ none. never_read _ (none (Negotiate (negotiate_words c.in-Negotiate.words)) (rw c.in-Negotiate.is at c.in-Some.ensures.some))

pub returns-in-Negotiate-clause-unasked : goal.returns-in-Negotiate-clause-unasked
returns-in-Negotiate-clause-unasked g c = λ named. c.over_message-in-Negotiate.ensures.asks.unasked (named (Negotiate (negotiate_words c.in-Negotiate.words)) (rw c.in-Negotiate.is at c.in-Some.ensures.some))

pub returns-in-Negotiate-clause-files : goal.returns-in-Negotiate-clause-files
returns-in-Negotiate-clause-files g c = c.over_message-in-Negotiate.ensures.asks.files

pub sample_outcome-requires-clause-seed : goal.sample_outcome-requires-clause-seed
sample_outcome-requires-clause-seed g c =
    (sample_bounded (map string_bytes c.args.arguments.now) (sample_words c.in-Sample.words) (rw c.in-Sample.is at c.in-Some.ensures.some)).0

pub sample_outcome-requires-clause-count : goal.sample_outcome-requires-clause-count
sample_outcome-requires-clause-count g c =
    (sample_bounded (map string_bytes c.args.arguments.now) (sample_words c.in-Sample.words) (rw c.in-Sample.is at c.in-Some.ensures.some)).1

pub returns-in-Sample-clause-report : goal.returns-in-Sample-clause-report
returns-in-Sample-clause-report g c =
    spelled (map string_bytes c.args.arguments.now) (Sample (sample_words c.in-Sample.words)) (rw c.in-Sample.is at c.in-Some.ensures.some) (g.F.Shelf.files c.args.shelf.now)
    (c.args.source.now ≡ c.args.source.now) (g.S.Source.left c.args.source.now) (g.S.Source.left c.args.source.now) c.sample_outcome.result
    (sampled (sample_words c.in-Sample.words) (g.F.Shelf.files c.args.shelf.now) (c.args.source.now ≡ c.args.source.now) (g.S.Source.left c.args.source.now) (g.S.Source.left c.args.source.now) refl c.sample_outcome.result
    c.sample_outcome.ensures.report)

pub returns-in-Sample-clause-few : goal.returns-in-Sample-clause-few
returns-in-Sample-clause-few g c =
    of_command (λ (line : CommandLine). LosesFew (input_use line) (g.S.Source.left c.args.source.now) (g.S.Source.left c.args.source.now))
    (map string_bytes c.args.arguments.now) (Sample (sample_words c.in-Sample.words)) (rw c.in-Sample.is at c.in-Some.ensures.some) (none_gone 0 (g.S.Source.left c.args.source.now) (g.S.Source.left c.args.source.now) refl)

pub returns-in-Sample-clause-given : goal.returns-in-Sample-clause-given
returns-in-Sample-clause-given g c =
    of_command (λ (line : CommandLine). GivesAtMost (input_use line) (g.S.Source.given c.args.source.now) (g.S.Source.given c.args.source.now))
    (map string_bytes c.args.arguments.now) (Sample (sample_words c.in-Sample.words)) (rw c.in-Sample.is at c.in-Some.ensures.some) (le_refl (g.S.Source.given c.args.source.now))

pub returns-in-Sample-clause-asked : goal.returns-in-Sample-clause-asked
returns-in-Sample-clause-asked g c =
    asks_of (map string_bytes c.args.arguments.now) (Sample (sample_words c.in-Sample.words)) (rw c.in-Sample.is at c.in-Some.ensures.some) c.sample_outcome.result (g.F.Shelf.asked c.args.shelf.now) (g.F.Shelf.asked c.args.shelf.now) (none_asked c.sample_outcome.result (g.F.Shelf.asked c.args.shelf.now)) (no_more (g.F.Shelf.asked c.args.shelf.now))

pub unreachable-requires : goal.unreachable-requires
unreachable-requires g c =
    cc (c.requires (Gateway (gateway_words c.in-Gateway.field-0)) (rw c.in-Gateway.is at c.in-Some.ensures.some))
