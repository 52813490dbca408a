use Rattle.std.proofs.Common.{sym, subst, ◌∙◌}
use Rattle.byte_grammar.proofs.AnswerLaws.{err_of}
use Rattle.msg_head.specs.declared.error.HeadError.TheVariants.{Memory}
use Rattle.msg_head.specs.TrailerViews.{TrailerParts, TrailerFills}
use Rattle.msg_head.specs.tools.TrailerJudged.{IsTrailerSectionView, IsTrailerSectionFault}
use Rattle.msg_head.proofs.TrailerCuts.{clean_trailer, trailer_lines}
use Rattle.msg_head.proofs.TrailerAnswers.{trailer_view}
use Rattle.msg_head.proofs.trailer.read_section.Goals as goal

pub returns-in_err-spans-clause-err : goal.returns-in_err-spans-clause-err
returns-in_err-spans-clause-err c clean =
    let section = c.args.section.now in
    let lines = trailer_lines section c.requires.is clean in
    err_of c.from_residual.result (λ f. IsTrailerSectionFault section f) c.in_err-spans.field-0.0 c.from_residual.ensures.1 (lines.0, lines.1, c.in_err-spans.ensures.err lines.0 lines.1)

pub new-requires : goal.new-requires
new-requires c =
    let section = c.args.section.now in
    let lines = trailer_lines section c.requires.is (clean_trailer section c.requires.is c.in_ok-spans.ensures.clean) in
    (c.in_ok-spans.ensures.ok lines.0 lines.1).lie

pub returns-in_err-lines-clause-err : goal.returns-in_err-lines-clause-err
returns-in_err-lines-clause-err c clean =
    let section = c.args.section.now in
    let lines = trailer_lines section c.requires.is clean in
    err_of c.from_residual-in_err-lines.result (λ f. IsTrailerSectionFault section f) Memory c.from_residual-in_err-lines.ensures.1 (lines.0, lines.1, tt)

pub new-requires-2 : goal.new-requires-2
new-requires-2 c =
    let section = c.args.section.now in
    let lines = trailer_lines section c.requires.is (clean_trailer section c.requires.is c.in_ok-spans.ensures.clean) in
    let view = trailer_view section _ c.requires.short (c.in_ok-spans.ensures.ok lines.0 lines.1) in
    subst (λ (v : TrailerParts). TrailerFills v) (sym c.in_ok-lines.ensures) view.fills

pub returns-clause-ok : goal.returns-clause-ok
returns-clause-ok c =
    let section = c.args.section.now in
    let lines = trailer_lines section c.requires.is (clean_trailer section c.requires.is c.in_ok-spans.ensures.clean) in
    let view = trailer_view section _ c.requires.short (c.in_ok-spans.ensures.ok lines.0 lines.1) in
    subst (λ (v : TrailerParts). IsTrailerSectionView v section) (sym (c.new-2.ensures ∙ c.in_ok-lines.ensures)) view
