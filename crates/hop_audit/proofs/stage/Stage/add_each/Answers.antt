use Rattle.std.proofs.Common.{◌≡◌, ◌∙◌, List, ℕ, get_or, length, subst, sym, refl}
use Rattle.std.proofs.lemmas.Result.{on_ok_weaker}
use Rattle.signatures.specs.Signatures.{AreLabels}
use Rattle.hop_audit.specs.tools.Stages.{StageState, judged}
use Rattle.hop_audit.specs.tools.Written.{AddsMessageLine}
use Rattle.hop_audit.proofs.ReportLines.{all_added, none_added, one_more_added, only_none_added, within_labels}
use Rattle.hop_audit.proofs.stage.Stage.add_each.Goals as goal

pub returns-then-count-eq0-clause-lines : goal.returns-then-count-eq0-clause-lines
returns-then-count-eq0-clause-lines g c =
    let labels = c.labels-count.result.now in
    let are = subst (λ (s : StageState). AreLabels s.context.message labels) c.self.view_is (c.labels-count.ensures c.self.inside.exchange.context.message c.self.invariant.signatures_are) in
    on_ok_weaker c.add_line.result
    (only_none_added c.args.self.now c.args.index (length labels) labels c.in_ok-none.none c.args.lines.now c.add_line.new.lines are refl c.if-count-eq0.true c.in_ok-none.ensures.ok)
    c.add_line.ensures.line

pub loop-place-init : goal.loop-place-init
loop-place-init g c =
    let labels = c.labels-count.result.now in
    let are = subst (λ (s : StageState). AreLabels s.context.message labels) c.self.view_is (c.labels-count.ensures c.self.inside.exchange.context.message c.self.invariant.signatures_are) in
    (none_added c.args.self.now c.args.index (length labels) labels c.args.lines.now are refl, refl)

pub bounds-labels-place : goal.bounds-labels-place
bounds-labels-place g c =
    let labels = c.labels.result.now in
    let here = c.self-in-loop-place in
    let are = subst (λ (s : StageState). AreLabels s.context.message labels) (here.view_is ∙ c.loop-place.invariant.1)
    (c.labels.ensures here.inside.exchange.context.message here.invariant.signatures_are) in
    within_labels c.args.self.now c.args.index (length c.labels-count.result.now) c.loop-place.place c.args.lines.now c.loop-place.lines labels c.loop-place.invariant.0 are c.loop-place-test.true

pub loop-place-preserved : goal.loop-place-preserved
loop-place-preserved g c =
    let labels = c.labels.result.now in
    let label = c.in_ok-label.label in
    let place = c.loop-place.place in
    let here = c.self-in-loop-place in
    let are = subst (λ (s : StageState). AreLabels s.context.message labels) (here.view_is ∙ c.loop-place.invariant.1)
    (c.labels.ensures here.inside.exchange.context.message here.invariant.signatures_are) in
    let label_is : label ≡ get_or labels place label = subst (λ (l : List ℕ). l ≡ get_or labels place l) (sym c.in_ok-label.ensures.ok) c.index-labels-place.is in
    let adds = subst (λ (s : StageState). AddsMessageLine (judged s label) c.args.index c.loop-place.lines c.add_line-in-loop-place.new.lines) c.loop-place.invariant.1 c.in_ok-add_line.ensures.line in (
      one_more_added c.args.self.now c.args.index (length c.labels-count.result.now) place c.args.lines.now c.loop-place.lines c.add_line-in-loop-place.new.lines labels label
          c.loop-place.invariant.0 are c.loop-place-test.true label_is adds,
      c.add_line-in-loop-place.ensures.same ∙ c.loop-place.invariant.1,
    )

pub returns-clause-lines : goal.returns-clause-lines
returns-clause-lines g c =
    all_added c.args.self.now c.args.index (length c.labels-count.result.now) c.loop-place.place c.args.lines.now c.loop-place.lines c.loop-place.invariant.0 c.if-count-eq0.false c.loop-place-test.false
