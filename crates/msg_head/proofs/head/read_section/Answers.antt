use Rattle.std.proofs.Common.{sym, subst, ap, ◌∙◌}
use Rattle.byte_grammar.proofs.AnswerLaws.{err_of}
use Rattle.msg_head.specs.declared.error.HeadError.TheVariants.{Memory}
use Rattle.msg_head.specs.Starts.{StartLine}
use Rattle.msg_head.specs.Views.{View, Fills, start_line_of}
use Rattle.msg_head.specs.TrailerViews.{TrailerParts}
use Rattle.msg_head.specs.tools.Judged.{IsSectionView, IsSectionFault}
use Rattle.msg_head.proofs.CleanTexts.{clean_section}
use Rattle.msg_head.proofs.Grouping.{section_cut, well_started, bad_start}
use Rattle.msg_head.proofs.FaultLaws.{late_fault}
use Rattle.msg_head.proofs.Wholes.{section_view}
use Rattle.msg_head.proofs.head.read_section.Goals as goal

pub returns-in_default-clause-err : goal.returns-in_default-clause-err
returns-in_default-clause-err c clean =
    let section = c.args.section.now in
    let cut = section_cut section (record { is = c.requires.is; clean = clean }) in
    (cut.start, cut.lines, cut.cut, bad_start section cut c.in_default.ensures.none)

pub returns-in_err-spans-clause-err : goal.returns-in_err-spans-clause-err
returns-in_err-spans-clause-err c clean =
    let section = c.args.section.now in
    let cut = section_cut section (record { is = c.requires.is; clean = clean }) in
    let well = well_started section cut _ _ c.in-Some.ensures.some in
    let fault = c.in_err-spans.ensures.err cut.lines well.rest_is in
    err_of c.from_residual.result (λ f. IsSectionFault section f) c.in_err-spans.field-0.0 c.from_residual.ensures.1 (cut.start, cut.lines, cut.cut, late_fault cut.start cut.lines c.in_err-spans.field-0.0 well.good fault)

pub new-requires : goal.new-requires
new-requires c =
    let section = c.args.section.now in
    let clean = clean_section section _ _ c.requires.is c.in-Some.ensures.some c.in_ok-spans.ensures.clean in
    let cut = section_cut section (record { is = c.requires.is; clean = clean }) in
    let well = well_started section cut _ _ c.in-Some.ensures.some in
    (c.in_ok-spans.ensures.ok cut.lines well.rest_is).lie

pub returns-in_err-lines-clause-err : goal.returns-in_err-lines-clause-err
returns-in_err-lines-clause-err c clean =
    let section = c.args.section.now in
    let cut = section_cut section (record { is = c.requires.is; clean = clean }) in
    let well = well_started section cut _ _ c.in-Some.ensures.some in
    err_of c.from_residual-in_err-lines.result (λ f. IsSectionFault section f) Memory c.from_residual-in_err-lines.ensures.1 (cut.start, cut.lines, cut.cut, late_fault cut.start cut.lines Memory well.good tt)

-- the view of a head of this start line and these field lines
abbrev view_by : StartLine → TrailerParts → View
view_by start lines = record { bytes = lines.bytes; start = start; spans = lines.spans }

pub new-requires-2 : goal.new-requires-2
new-requires-2 c =
    let section = c.args.section.now in
    let clean = clean_section section _ _ c.requires.is c.in-Some.ensures.some c.in_ok-spans.ensures.clean in
    let cut = section_cut section (record { is = c.requires.is; clean = clean }) in
    let well = well_started section cut _ _ c.in-Some.ensures.some in
    let spans = c.in_ok-spans.ensures.ok cut.lines well.rest_is in
    let view = section_view section _ _ _ c.requires.short c.in-Some.ensures.some spans in
    subst (λ (lines : TrailerParts). Fills (view_by (start_line_of c.in-Some.start) lines)) (sym c.in_ok-lines.ensures) view.fills

pub returns-clause-ok : goal.returns-clause-ok
returns-clause-ok c =
    let section = c.args.section.now in
    let clean = clean_section section _ _ c.requires.is c.in-Some.ensures.some c.in_ok-spans.ensures.clean in
    let cut = section_cut section (record { is = c.requires.is; clean = clean }) in
    let well = well_started section cut _ _ c.in-Some.ensures.some in
    let spans = c.in_ok-spans.ensures.ok cut.lines well.rest_is in
    let view = section_view section _ _ _ c.requires.short c.in-Some.ensures.some spans in
    let same = c.new-2.ensures ∙ ap (view_by (start_line_of c.in-Some.start)) c.in_ok-lines.ensures in
    subst (λ (v : View). IsSectionView v section) (sym same) view
