use Rattle.std.proofs.Common.{◌+◌, ◌∙◌, Bor, Option, ap, refl, subst, sym}
use Rattle.std.proofs.lemmas.Bool.{false≢true}
use Rattle.std.specs.Prelude.{option_map}
use Rattle.component_ids.specs.declared.id.ComponentId.{ComponentId}
use Rattle.component_values.specs.Context.{MessageContext}
use Rattle.msg_body.specs.Messages.{Message}
use Rattle.hop_audit.specs.declared.line.Fate.TheVariants.{Lacking}
use Rattle.hop_audit.specs.Fates.{HasChanged, IsFirstOf}
use Rattle.hop_audit.specs.tools.Compared.{AreCompared, AreComparedSoFar, IsComponentFate, SaysCompared}
use Rattle.hop_audit.proofs.Comparing.{at_same, changed_here, more_compared, none_lacks, one_lacks}
use Rattle.hop_audit.proofs.comparison.Comparison.of_components.Goals as goal

pub returns-then-is_changed-clause-fate : goal.returns-then-is_changed-clause-fate
returns-then-is_changed-clause-fate c =
    let context = c.args.before.now.context in
    let other = c.args.after.now.context.message in
    let k = c.loop-id.invariant in
    let fate = at_same (λ (m : MessageContext) (o : Message). IsComponentFate m o c.id-item.result c.in_ok-fate.fate) c.loop-id.before c.args.before.now c.loop-id.after c.args.after.now k.before k.after
    c.in_ok-fate.ensures.fate in
    subst (λ (i : ComponentId). IsFirstOf (HasChanged context other) c.args.ids.now i) (sym c.in_ok-copy.ensures)
    (changed_here context other c.args.ids.now c.loop-id.id-index c.id-item.result c.loop-id-test.true c.id-item.is _ c.in_ok-fate.fate k.so_far fate (c.if-is_changed.ensures.0 refl))

pub loop-id-preserved : goal.loop-id-preserved
loop-id-preserved c =
    let context = c.args.before.now.context in
    let other = c.args.after.now.context.message in
    let k = c.loop-id.invariant in
    let fate = at_same (λ (m : MessageContext) (o : Message). IsComponentFate m o c.id-item.result c.in_ok-fate.fate) c.loop-id.before c.args.before.now c.loop-id.after c.args.after.now k.before k.after
    c.in_ok-fate.ensures.fate in
    let more = more_compared context other c.args.ids.now c.loop-id.id-index c.id-item.result c.loop-id-test.true c.id-item.is _ c.in_ok-fate.fate k.so_far fate
    (λ same. false≢true (c.if-is_changed.ensures.1 same)) in
    record {
      before = c.in_ok-fate.ensures.before ∙ k.before;
      after = c.in_ok-fate.ensures.after ∙ k.after;
      compared = at_same (λ (m : MessageContext) (o : Message). AreCompared m o c.component_fate.new.self.compared) c.loop-id.before c.args.before.now c.loop-id.after c.args.after.now k.before k.after
          c.in_ok-fate.ensures.compared;
      so_far = subst (λ (first : Option ComponentId). AreComparedSoFar context other c.args.ids.now (c.loop-id.id-index + 1) first) (sym c.first_lacking-lacking.ensures) more;
    }

pub returns-in_ok-copy-in-Some-clause-fate : goal.returns-in_ok-copy-in-Some-clause-fate
returns-in_ok-copy-in-Some-clause-fate c =
    let context = c.args.before.now.context in
    let other = c.args.after.now.context.message in
    let so_far = subst (λ (first : Option ComponentId). AreComparedSoFar context other c.args.ids.now c.loop-id.id-index first) (ap (option_map (λ (i : Bor ComponentId). i.now)) c.in-Some.is)
    c.loop-id.invariant.so_far in
    subst (λ (i : ComponentId). SaysCompared context other c.args.ids.now (Lacking i)) (sym c.in_ok-copy-in-Some.ensures)
    (one_lacks context other c.args.ids.now c.loop-id.id-index c.loop-id-test.false c.in-Some.id.now so_far)

pub returns-in-None-clause-fate : goal.returns-in-None-clause-fate
returns-in-None-clause-fate c =
    none_lacks c.args.before.now.context c.args.after.now.context.message c.args.ids.now c.loop-id.id-index c.loop-id-test.false (rw c.in-None.is at c.loop-id.invariant.so_far)
