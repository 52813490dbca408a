use Rattle.std.proofs.Common.{◌+◌, ◌∙◌, List, ap, refl, subst, sym}
use Rattle.component_values.specs.Context.{MessageContext}
use Rattle.signatures.specs.Exchanges.{ExchangeState}
use Rattle.msg_body.specs.Messages.{Message}
use Rattle.hop_audit.specs.declared.line.AuditLine.{AuditLine}
use Rattle.hop_audit.specs.Hops.{PlacedHop}
use Rattle.hop_audit.specs.Report.{IsLabelLine}
use Rattle.hop_audit.specs.tools.Compared.{AreCompared}
use Rattle.hop_audit.specs.tools.HopLines.{AreAddedSoFar, IsJudged}
use Rattle.hop_audit.specs.tools.Stages.{StageState}
use Rattle.hop_audit.proofs.JudgedHops.{all_lines, in_same, more_lines, no_lines}
use Rattle.hop_audit.proofs.hop_lines.add_label_lines.Goals as goal

pub loop-mark-init : goal.loop-mark-init
loop-mark-init c =
    let context = c.args.before.now.context in
    let other = c.args.after.now.context.message in
    record {
      before = refl;
      after = refl;
      compared = c.new-comparison.ensures context other;
      added = λ script labels judged. no_lines context c.args.hop.index script other labels c.args.marks.now c.args.hop.explained c.args.lines.now;
    }

pub loop-mark-preserved : goal.loop-mark-preserved
loop-mark-preserved c =
    let context = c.args.before.now.context in
    let other = c.args.after.now.context.message in
    let k = c.loop-mark.invariant in
    let b = ap (λ (e : ExchangeState). e.context) k.before in
    let a = ap (λ (s : StageState). s.context.message) k.after in
    let mark = c.mark-item.result in
    let line = in_same (λ (m : MessageContext) (o : Message). (placed : PlacedHop) → IsJudged m placed o c.args.hop.index c.args.hop.explained mark → IsLabelLine m placed mark.label.now c.in_ok-line.line)
    c.loop-mark.before.context context c.loop-mark.after.context.message other c.in_ok-line.ensures.line b a in
    record {
      before = c.in_ok-line.ensures.before ∙ k.before;
      after = c.in_ok-line.ensures.after ∙ k.after;
      compared = in_same (λ (m : MessageContext) (o : Message). AreCompared m o c.label_line.new.comparison.compared) c.loop-mark.before.context context c.loop-mark.after.context.message other
          c.in_ok-line.ensures.compared b a;
      added = λ script labels judged.
          subst (λ (lines : List AuditLine). AreAddedSoFar context c.args.hop.index script other labels (c.loop-mark.mark-index + 1) c.args.lines.now lines) (sym c.in_ok-push.ensures.ok)
          (more_lines context c.args.hop.index script other labels c.args.marks.now c.args.hop.explained judged c.loop-mark.mark-index c.args.lines.now c.loop-mark.lines (k.added script labels judged) mark
          c.in_ok-line.line c.loop-mark-test.true c.mark-item.is line);
    }

pub returns-clause-lines : goal.returns-clause-lines
returns-clause-lines c = λ script labels judged.
    all_lines c.args.before.now.context c.args.hop.index script c.args.after.now.context.message labels c.args.marks.now c.args.hop.explained judged c.loop-mark.mark-index c.args.lines.now c.loop-mark.lines
    (c.loop-mark.invariant.added script labels judged) c.loop-mark-test.false
