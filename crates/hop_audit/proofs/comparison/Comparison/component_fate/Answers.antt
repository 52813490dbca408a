use Rattle.std.proofs.Common.{List, subst, sym}
use Rattle.component_values.specs.Context.{MessageContext}
use Rattle.component_values.specs.Values.{ComesTo}
use Rattle.sfv_text.specs.declared.pair.Pair.{Pair}
use Rattle.hop_audit.specs.declared.comparison.ComponentFate.{ComponentFate}
use Rattle.hop_audit.specs.Fates.{ComesToBoth}
use Rattle.hop_audit.specs.tools.Compared.{AreCompared, answer_of}
use Rattle.hop_audit.proofs.Comparing.{compared_more}
use Rattle.hop_audit.proofs.comparison.Comparison.component_fate.Goals as goal

pub returns-clause-compared : goal.returns-clause-compared
returns-clause-compared c =
    let context = c.args.before.now.context in
    let other = c.args.after.now.context.message in
    let id = c.args.id.now in
    let both : ComesToBoth context other id (answer_of c.in_ok-was.was') (answer_of c.in_ok-now.now) = record {
      before = c.in_ok-was.ensures.is;
      after = subst (λ (m : MessageContext). ComesTo m id (answer_of c.in_ok-now.now)) c.requires.alike c.in_ok-now.ensures.is;
    } in
    subst (λ (pairs : List (Pair ComponentFate)). AreCompared context other pairs) (sym c.in_ok-put.ensures.ok)
    (compared_more context other c.args.self.now.compared id c.in_ok-text.text c.fate_between-fate.result c.requires.compared c.requires.in_range c.in_ok-text.ensures.is
    (c.fate_between-fate.ensures context other id both))
