use Rattle.std.proofs.Common.{◌+◌, List, [], refl, subst, sym, take}
use Rattle.hop_audit.specs.declared.walk.Mark.{Mark}
use Rattle.hop_audit.specs.tools.Walked.{AreMarksOf}
use Rattle.hop_audit.proofs.JudgedHops.{all_marks, mark_of, more_marks}
use Rattle.hop_audit.proofs.hop_lines.marks_of.Goals as goal

pub loop-label-init : goal.loop-label-init
loop-label-init c = λ message is. subst (λ (l : List Mark). AreMarksOf message [] l) (sym c.in_ok-marks.ensures.items) tt

pub loop-label-preserved : goal.loop-label-preserved
loop-label-preserved c = λ message is.
    let mark : Mark = record { label = c.bytes-label.result; read = c.find-read.result; permitted = c.is_some-permitted.result } in
    let own = mark_of message c.label-item.result mark c.bytes-label.ensures (c.find-read.ensures.is message is) c.is_some-permitted.ensures in
    subst (λ (l : List Mark). AreMarksOf message (take (c.loop-label.label-index + 1) c.labels-labels.result.now) l) (sym c.in_ok-push.ensures.items)
    (more_marks message c.labels-labels.result.now c.loop-label.label-index c.label-item.result c.loop-label.marks.items mark c.loop-label-test.true c.label-item.is
    (c.loop-label.invariant message is) own)

pub returns : goal.returns
returns c = λ message is. record {
  labels = c.labels-labels.result.now;
  are = c.labels-labels.ensures message is;
  each = all_marks message c.labels-labels.result.now c.labels-labels.result.now c.loop-label.label-index c.loop-label.marks.items c.loop-label-test.false refl (c.loop-label.invariant message is);
}
