use Rattle.std.proofs.Common.{◌<◌, ◌≤◌, List, length, map, ap, arith, sym, ◌∙◌}
use Rattle.std.specs.Prelude.{nat_le}
use Rattle.msg_head.specs.declared.limits.TheConstants.{MAX_HEAD_BYTES, MAX_HEAD_LINES}
use Rattle.msg_head.specs.Trailers.{trailer_text}
use Rattle.list_texts.specs.declared.list.Field.{Field}
use Rattle.field_lists.specs.ToMessages.{line_of_field}
use Rattle.field_lists.specs.tools.Views.{control_of}
use Rattle.field_lists.proofs.Sizes.{passed_first, passed_fourth, passed_none, passed_second, passed_third}
use Rattle.field_lists.proofs.parts.Parts.passed_limit.Goals as goal

pub returns-then-not-head_fits-clause-some : goal.returns-then-not-head_fits-clause-some
returns-then-not-head_fits-clause-some c =
    let parts = c.args.self.now in
    passed_first (control_of parts.control) parts.others.now parts.list.now c.requires (sym c.head_fits.ensures ∙ c.if-not-head_fits.true)

pub returns-then-not-trailers_fit-clause-some : goal.returns-then-not-trailers_fit-clause-some
returns-then-not-trailers_fit-clause-some c =
    let parts = c.args.self.now in
    let control = control_of parts.control in
    let others = parts.others.now in
    let list = parts.list.now in
    let trailers = ap (λ (fs : List Field). nat_le (length (trailer_text (map line_of_field fs))) MAX_HEAD_BYTES) (sym c.as_slice-trailers.ensures) ∙ sym c.trailers_fit.ensures in
    passed_second control others list c.requires (sym c.head_fits.ensures ∙ c.if-not-head_fits.false) (trailers ∙ c.if-not-trailers_fit.true)

pub returns-then-has_many_lines-clause-some : goal.returns-then-has_many_lines-clause-some
returns-then-has_many_lines-clause-some c =
    let parts = c.args.self.now in
    let control = control_of parts.control in
    let others = parts.others.now in
    let list = parts.list.now in
    let trailers = ap (λ (fs : List Field). nat_le (length (trailer_text (map line_of_field fs))) MAX_HEAD_BYTES) (sym c.as_slice-trailers.ensures) ∙ sym c.trailers_fit.ensures in
    passed_third control others list c.requires (sym c.head_fits.ensures ∙ c.if-not-head_fits.false) (trailers ∙ c.if-not-trailers_fit.false) (sym c.has_many_lines.ensures ∙ c.if-has_many_lines.true)

pub returns-then-trailers-gt-MAX_HEAD_LINES-clause-some : goal.returns-then-trailers-gt-MAX_HEAD_LINES-clause-some
returns-then-trailers-gt-MAX_HEAD_LINES-clause-some c =
    let parts = c.args.self.now in
    let control = control_of parts.control in
    let others = parts.others.now in
    let list = parts.list.now in
    let trailers = ap (λ (fs : List Field). nat_le (length (trailer_text (map line_of_field fs))) MAX_HEAD_BYTES) (sym c.as_slice-trailers.ensures) ∙ sym c.trailers_fit.ensures in
    let more : MAX_HEAD_LINES < length list.trailers = omega (arith, ap (λ (fs : List Field). length fs) c.as_slice-trailers.ensures) in
    passed_fourth control others list c.requires (sym c.head_fits.ensures ∙ c.if-not-head_fits.false) (trailers ∙ c.if-not-trailers_fit.false) (sym c.has_many_lines.ensures ∙ c.if-has_many_lines.false) more

pub returns-clause-none : goal.returns-clause-none
returns-clause-none c =
    let parts = c.args.self.now in
    let control = control_of parts.control in
    let others = parts.others.now in
    let list = parts.list.now in
    let trailers = ap (λ (fs : List Field). nat_le (length (trailer_text (map line_of_field fs))) MAX_HEAD_BYTES) (sym c.as_slice-trailers.ensures) ∙ sym c.trailers_fit.ensures in
    let most : length list.trailers ≤ MAX_HEAD_LINES = omega (arith, ap (λ (fs : List Field). length fs) c.as_slice-trailers.ensures) in
    passed_none control others list c.requires (sym c.head_fits.ensures ∙ c.if-not-head_fits.false) (trailers ∙ c.if-not-trailers_fit.false) (sym c.has_many_lines.ensures ∙ c.if-has_many_lines.false) most
