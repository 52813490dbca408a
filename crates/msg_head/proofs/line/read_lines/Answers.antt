use Rattle.std.proofs.Common.{◌≡◌, ◌<◌, ◌-◌, ℕ, [], ◌∷◌, length, refl, arith, subst, length-append}
use Rattle.msg_head.specs.declared.limits.TheConstants.{MAX_HEAD_LINES}
use Rattle.msg_head.specs.tools.Sections.{IsFaultFrom, span_at}
use Rattle.msg_head.specs.Views.{field_line_of}
use Rattle.msg_head.proofs.Walks.{next_of}
use Rattle.msg_head.proofs.Spans.{walk_more, all_walked, fault_is}
use Rattle.msg_head.proofs.CleanTexts.{clean_both}
use Rattle.msg_head.proofs.line.read_lines.Goals as goal

pub returns-then-begins_with_crlf-clause-clean : goal.returns-then-begins_with_crlf-clause-clean
returns-then-begins_with_crlf-clause-clean c =
    (c.lines.left.now, c.lines.invariant.clean, c.if-begins_with_crlf.ensures.yes refl)

pub returns-then-begins_with_crlf-clause-ok : goal.returns-then-begins_with_crlf-clause-ok
returns-then-begins_with_crlf-clause-ok c lines a =
    all_walked c.args.bytes.now c.args.rest.now lines c.lines.spans.items c.lines.left.now c.lines.invariant.few (c.lines.invariant.still lines a) (c.if-begins_with_crlf.ensures.yes refl)

pub returns-in_default-clause-err : goal.returns-in_default-clause-err
returns-in_default-clause-err c lines a =
    let w = c.lines.invariant.still lines a in
    let next = next_of c.lines.left.now w.others w.left_are (c.if-begins_with_crlf.ensures.not refl) in
    let size : c.len-in_default.result ≡ length c.lines.spans.items = omega (arith, c.len-in_default.ensures) in
    let from = c.fault_from.ensures w.others w.left_are in
    fault_is c.args.side c.fault_from.result c.args.bytes.now c.args.rest.now lines c.lines.spans.items c.lines.left.now w next (c.in_default.ensures.there next.line _ next.begins) (subst (λ (n : ℕ). IsFaultFrom c.args.side n w.others c.fault_from.result) size from)

pub lines-preserved : goal.lines-preserved
lines-preserved c =
    let few : length c.lines.spans.items < MAX_HEAD_LINES = omega (arith, c.len.ensures, c.if-len-eq-MAX_HEAD_LINES.false, c.lines.invariant.few) in
    rw c.in_ok-push.ensures.items (rw c.span_at.ensures (record {
      within = omega (arith, c.in-Some.ensures.sized, c.lines.invariant.within);
      few = omega (arith, few, length-append c.lines.spans.items (span_at (length c.args.bytes.now - length c.lines.left.now) (field_line_of c.in-Some.line) ∷ []));
      clean = clean_both c.args.rest.now c.lines.left.now c.in-Some.after.now c.lines.invariant.clean c.in-Some.ensures.clean;
      still = λ lines a.
          let w = c.lines.invariant.still lines a in
          let next = next_of c.lines.left.now w.others w.left_are (c.if-begins_with_crlf.ensures.not refl) in
          walk_more c.args.bytes.now c.args.rest.now lines c.lines.spans.items c.lines.left.now c.in-Some.after.now (field_line_of c.in-Some.line) w next (c.in-Some.ensures.there next.line _ next.begins);
    }))
