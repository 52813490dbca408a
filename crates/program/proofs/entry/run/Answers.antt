use Rattle.std.proofs.Common.{◌≡◌, ◌⊎◌, ◌+◌, ◌≤◌, inl, map, string_bytes, ap}
use Rattle.command_line.specs.Command.{CommandLine, Base, Verify, Sign, Rewrite, Explain, Audit, Gateway, Lists, Negotiate, GatewayWords, gateway_words}
use Rattle.command_line.proofs.CommandLaws.{one_command}
use Rattle.intake.specs.Files.{Found, AreFound, Conf, file_bytes}
use Rattle.program.specs.Commands.{GivesAtMost, LosesFew, input_use, name_of}
use Rattle.program.specs.Ends.{AsksFor, HasReport, WritesRefusal}
use Rattle.program.specs.StreamEnds.{EndsStream}
use Rattle.program.specs.StreamMeanings.{TellsStream}
use Rattle.program.proofs.AskedFiles.{conf_told}
use Rattle.program.proofs.Meanings.{writes_explanation, writes_negotiated, writes_one_base, writes_one_chain, writes_rewritten, writes_signed, writes_turned, writes_verdicts}
use Rattle.program.proofs.Reports.{never, of_command}
use Rattle.program.proofs.StreamRecords.{told_rightly}
use Rattle.program.proofs.StreamRuns.{for_gateway, stream_few, why_stream, why_whole_told}
use Rattle.program.proofs.entry.run.Goals as goal

-- ---- `gateway`

pub returns-in-Some-clause-ends : goal.returns-in-Some-clause-ends
returns-in-Some-clause-ends g c = λ whole. absurd (cc (whole (Gateway (gateway_words c.in-Some.words)) c.in-Some.ensures.some))

pub returns-in-Some-clause-gateway : goal.returns-in-Some-clause-gateway
returns-in-Some-clause-gateway g c =
    for_gateway (λ (words : GatewayWords). EndsStream words (g.F.Shelf.files c.args.shelf.now) (c.over_stream.new.source ≡ c.args.source.now) (g.S.Source.left c.args.source.now) (g.S.Source.left c.over_stream.new.source)
    (g.K.Sink.taken c.args.out.now) (g.K.Sink.taken c.over_stream.new.out) c.over_stream.result.status c.over_stream.result.refusal) (map string_bytes c.args.arguments.now) (gateway_words c.in-Some.words) c.in-Some.ensures.some c.over_stream.ensures.ends

pub returns-in-Some-clause-why : goal.returns-in-Some-clause-why
returns-in-Some-clause-why g c =
    why_stream (map string_bytes c.args.arguments.now) (gateway_words c.in-Some.words) c.in-Some.ensures.some (g.F.Shelf.files c.args.shelf.now) (c.over_stream.new.source ≡ c.args.source.now)
    (g.S.Source.left c.args.source.now) (g.S.Source.left c.over_stream.new.source) (g.K.Sink.taken c.args.out.now) (g.K.Sink.taken c.over_stream.new.out) c.over_stream.result.status c.over_stream.result.refusal c.over_stream.ensures.ends

pub returns-in-Some-clause-passed : goal.returns-in-Some-clause-passed
returns-in-Some-clause-passed g c =
    for_gateway (λ (words : GatewayWords). (found : Found) × AreFound (g.F.Shelf.files c.args.shelf.now) (name_of (Gateway words)) found × ((c.over_stream.new.source ≡ c.args.source.now) ⊎ TellsStream words found (g.S.Source.left c.args.source.now) (g.S.Source.left c.over_stream.new.source)
    (g.K.Sink.taken c.args.out.now) (g.K.Sink.taken c.over_stream.new.out) c.over_stream.result.status c.over_stream.result.refusal)) (map string_bytes c.args.arguments.now) (gateway_words c.in-Some.words) c.in-Some.ensures.some
    (told_rightly (gateway_words c.in-Some.words) (g.F.Shelf.files c.args.shelf.now) (c.over_stream.new.source ≡ c.args.source.now) (g.S.Source.left c.args.source.now) (g.S.Source.left c.over_stream.new.source)
    (g.K.Sink.taken c.args.out.now) (g.K.Sink.taken c.over_stream.new.out) c.over_stream.result.status c.over_stream.result.refusal c.over_stream.ensures.ends)

pub returns-in-Some-clause-base : goal.returns-in-Some-clause-base
returns-in-Some-clause-base g c = λ words is done. absurd (cc (one_command (map string_bytes c.args.arguments.now) (Gateway (gateway_words c.in-Some.words)) (Base words) c.in-Some.ensures.some is))

pub returns-in-Some-clause-verify : goal.returns-in-Some-clause-verify
returns-in-Some-clause-verify g c = λ words is done. absurd (cc (one_command (map string_bytes c.args.arguments.now) (Gateway (gateway_words c.in-Some.words)) (Verify words) c.in-Some.ensures.some is))

pub returns-in-Some-clause-sign : goal.returns-in-Some-clause-sign
returns-in-Some-clause-sign g c = λ words is done. absurd (cc (one_command (map string_bytes c.args.arguments.now) (Gateway (gateway_words c.in-Some.words)) (Sign words) c.in-Some.ensures.some is))

pub returns-in-Some-clause-explain : goal.returns-in-Some-clause-explain
returns-in-Some-clause-explain g c = λ words is done. absurd (cc (one_command (map string_bytes c.args.arguments.now) (Gateway (gateway_words c.in-Some.words)) (Explain words) c.in-Some.ensures.some is))

pub returns-in-Some-clause-lists : goal.returns-in-Some-clause-lists
returns-in-Some-clause-lists g c = λ words is done. absurd (cc (one_command (map string_bytes c.args.arguments.now) (Gateway (gateway_words c.in-Some.words)) (Lists words) c.in-Some.ensures.some is))

pub returns-in-Some-clause-rewrite : goal.returns-in-Some-clause-rewrite
returns-in-Some-clause-rewrite g c = λ words is done. absurd (cc (one_command (map string_bytes c.args.arguments.now) (Gateway (gateway_words c.in-Some.words)) (Rewrite words) c.in-Some.ensures.some is))

pub returns-in-Some-clause-negotiate : goal.returns-in-Some-clause-negotiate
returns-in-Some-clause-negotiate g c = λ words is done. absurd (cc (one_command (map string_bytes c.args.arguments.now) (Gateway (gateway_words c.in-Some.words)) (Negotiate words) c.in-Some.ensures.some is))

pub returns-in-Some-clause-audit : goal.returns-in-Some-clause-audit
returns-in-Some-clause-audit g c = λ words is done. absurd (cc (one_command (map string_bytes c.args.arguments.now) (Gateway (gateway_words c.in-Some.words)) (Audit words) c.in-Some.ensures.some is))

pub returns-in-Some-clause-refused : goal.returns-in-Some-clause-refused
returns-in-Some-clause-refused g c = λ none. absurd (none (Gateway (gateway_words c.in-Some.words)) c.in-Some.ensures.some)

pub returns-in-Some-clause-unread : goal.returns-in-Some-clause-unread
returns-in-Some-clause-unread g c = λ none. absurd (cc (none (Gateway (gateway_words c.in-Some.words)) c.in-Some.ensures.some))

pub returns-in-Some-clause-unasked : goal.returns-in-Some-clause-unasked
returns-in-Some-clause-unasked g c = λ named. never c.in-Some.words.conf.now (named (Gateway (gateway_words c.in-Some.words)) c.in-Some.ensures.some Conf)

pub returns-in-Some-clause-few : goal.returns-in-Some-clause-few
returns-in-Some-clause-few g c =
    of_command (λ (line : CommandLine). LosesFew (input_use line) (g.S.Source.left c.args.source.now) (g.S.Source.left c.over_stream.new.source)) (map string_bytes c.args.arguments.now) (Gateway (gateway_words c.in-Some.words)) c.in-Some.ensures.some
    (stream_few (gateway_words c.in-Some.words) (g.F.Shelf.files c.args.shelf.now) (c.over_stream.new.source ≡ c.args.source.now) (g.S.Source.left c.args.source.now) (g.S.Source.left c.over_stream.new.source)
    (g.K.Sink.taken c.args.out.now) (g.K.Sink.taken c.over_stream.new.out) c.over_stream.result.status c.over_stream.result.refusal c.over_stream.ensures.ends (λ same. ap g.S.Source.left same))

pub returns-in-Some-clause-given : goal.returns-in-Some-clause-given
returns-in-Some-clause-given g c =
    of_command (λ (line : CommandLine). GivesAtMost (input_use line) (g.S.Source.given c.args.source.now) (g.S.Source.given c.over_stream.new.source)) (map string_bytes c.args.arguments.now) (Gateway (gateway_words c.in-Some.words)) c.in-Some.ensures.some tt

pub returns-in-Some-clause-asked : goal.returns-in-Some-clause-asked
returns-in-Some-clause-asked g c =
    of_command (λ (line : CommandLine). AsksFor (name_of line) c.over_stream.result.refusal (g.F.Shelf.asked c.args.shelf.now) (g.F.Shelf.asked c.over_stream.new.shelf)) (map string_bytes c.args.arguments.now) (Gateway (gateway_words c.in-Some.words)) c.in-Some.ensures.some
    (conf_told c.in-Some.words.conf.now c.over_stream.result.refusal (g.F.Shelf.asked c.args.shelf.now) (g.F.Shelf.asked c.over_stream.new.shelf) c.over_stream.ensures.asked)

pub returns-in-Some-clause-reached : goal.returns-in-Some-clause-reached
returns-in-Some-clause-reached g c =
    of_command (λ (line : CommandLine). g.F.Shelf.reached c.over_stream.new.shelf ≤ g.F.Shelf.reached c.args.shelf.now + file_bytes (name_of line)) (map string_bytes c.args.arguments.now) (Gateway (gateway_words c.in-Some.words)) c.in-Some.ensures.some c.over_stream.ensures.reached

-- ---- the other commands

pub returns-in-None-clause-gateway : goal.returns-in-None-clause-gateway
returns-in-None-clause-gateway g c = λ words is. absurd (cc (c.in-None.ensures.none (Gateway words) is))

pub returns-in-None-clause-why : goal.returns-in-None-clause-why
returns-in-None-clause-why g c =
    why_whole_told (map string_bytes c.args.arguments.now) (g.F.Shelf.files c.args.shelf.now) (c.run_whole.new.source ≡ c.args.source.now) (g.S.Source.left c.args.source.now) (g.S.Source.left c.run_whole.new.source)
    (g.K.Sink.taken c.args.out.now) (g.K.Sink.taken c.run_whole.new.out) c.run_whole.result.status c.run_whole.result.refusal
    (WritesRefusal (HasReport (map string_bytes c.args.arguments.now) (g.F.Shelf.files c.args.shelf.now) (c.run_whole.new.source ≡ c.args.source.now) (g.S.Source.left c.args.source.now) (g.S.Source.left c.run_whole.new.source))
    (g.K.Sink.taken c.args.out.now) (g.K.Sink.taken c.run_whole.new.out)) (λ refusal is. inl is) c.run_whole.ensures.why

pub returns-in-None-clause-passed : goal.returns-in-None-clause-passed
returns-in-None-clause-passed g c = λ words is. absurd (cc (c.in-None.ensures.none (Gateway words) is))

pub returns-in-None-clause-base : goal.returns-in-None-clause-base
returns-in-None-clause-base g c =
    writes_one_base (map string_bytes c.args.arguments.now) (g.F.Shelf.files c.args.shelf.now) (c.run_whole.new.source ≡ c.args.source.now) (g.S.Source.left c.args.source.now) (g.S.Source.left c.run_whole.new.source)
    (g.K.Sink.taken c.args.out.now) (g.K.Sink.taken c.run_whole.new.out) c.run_whole.result.status c.run_whole.ensures.ends

pub returns-in-None-clause-verify : goal.returns-in-None-clause-verify
returns-in-None-clause-verify g c =
    writes_verdicts (map string_bytes c.args.arguments.now) (g.F.Shelf.files c.args.shelf.now) (c.run_whole.new.source ≡ c.args.source.now) (g.S.Source.left c.args.source.now) (g.S.Source.left c.run_whole.new.source)
    (g.K.Sink.taken c.args.out.now) (g.K.Sink.taken c.run_whole.new.out) c.run_whole.result.status c.run_whole.ensures.ends

pub returns-in-None-clause-sign : goal.returns-in-None-clause-sign
returns-in-None-clause-sign g c =
    writes_signed (map string_bytes c.args.arguments.now) (g.F.Shelf.files c.args.shelf.now) (c.run_whole.new.source ≡ c.args.source.now) (g.S.Source.left c.args.source.now) (g.S.Source.left c.run_whole.new.source)
    (g.K.Sink.taken c.args.out.now) (g.K.Sink.taken c.run_whole.new.out) c.run_whole.result.status c.run_whole.ensures.ends

pub returns-in-None-clause-explain : goal.returns-in-None-clause-explain
returns-in-None-clause-explain g c =
    writes_explanation (map string_bytes c.args.arguments.now) (g.F.Shelf.files c.args.shelf.now) (c.run_whole.new.source ≡ c.args.source.now) (g.S.Source.left c.args.source.now) (g.S.Source.left c.run_whole.new.source)
    (g.K.Sink.taken c.args.out.now) (g.K.Sink.taken c.run_whole.new.out) c.run_whole.result.status c.run_whole.ensures.ends

pub returns-in-None-clause-lists : goal.returns-in-None-clause-lists
returns-in-None-clause-lists g c =
    writes_turned (map string_bytes c.args.arguments.now) (g.F.Shelf.files c.args.shelf.now) (c.run_whole.new.source ≡ c.args.source.now) (g.S.Source.left c.args.source.now) (g.S.Source.left c.run_whole.new.source)
    (g.K.Sink.taken c.args.out.now) (g.K.Sink.taken c.run_whole.new.out) c.run_whole.result.status c.run_whole.ensures.ends

pub returns-in-None-clause-rewrite : goal.returns-in-None-clause-rewrite
returns-in-None-clause-rewrite g c =
    writes_rewritten (map string_bytes c.args.arguments.now) (g.F.Shelf.files c.args.shelf.now) (c.run_whole.new.source ≡ c.args.source.now) (g.S.Source.left c.args.source.now) (g.S.Source.left c.run_whole.new.source)
    (g.K.Sink.taken c.args.out.now) (g.K.Sink.taken c.run_whole.new.out) c.run_whole.result.status c.run_whole.ensures.ends

pub returns-in-None-clause-negotiate : goal.returns-in-None-clause-negotiate
returns-in-None-clause-negotiate g c =
    writes_negotiated (map string_bytes c.args.arguments.now) (g.F.Shelf.files c.args.shelf.now) (c.run_whole.new.source ≡ c.args.source.now) (g.S.Source.left c.args.source.now) (g.S.Source.left c.run_whole.new.source)
    (g.K.Sink.taken c.args.out.now) (g.K.Sink.taken c.run_whole.new.out) c.run_whole.result.status c.run_whole.ensures.ends

pub returns-in-None-clause-audit : goal.returns-in-None-clause-audit
returns-in-None-clause-audit g c =
    writes_one_chain (map string_bytes c.args.arguments.now) (g.F.Shelf.files c.args.shelf.now) (c.run_whole.new.source ≡ c.args.source.now) (g.S.Source.left c.args.source.now) (g.S.Source.left c.run_whole.new.source)
    (g.K.Sink.taken c.args.out.now) (g.K.Sink.taken c.run_whole.new.out) c.run_whole.result.status c.run_whole.ensures.ends
