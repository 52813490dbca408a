use Rattle.std.proofs.Common.{sym, ◌∙◌, subst, List}
use Rattle.std.proofs.lemmas.List.{take_all}
use Rattle.component_ids.specs.declared.id.ComponentId.{ComponentId}
use Rattle.component_ids.specs.Identifiers.{AreDistinct}
use Rattle.component_ids.proofs.RepeatedLaws.{distinct_more, first_repeated_is}
use Rattle.component_ids.proofs.same.first_repeated.Goals as goal

pub returns-then-is_repeated-clause-some : goal.returns-then-is_repeated-clause-some
returns-then-is_repeated-clause-some c =
    first_repeated_is c.args.ids.now c.loop-index.index c.index-ids-index.result c.loop-index-test.true c.index-ids-index.is
    (sym c.is_repeated.ensures ∙ c.if-is_repeated.true) c.loop-index.invariant

pub loop-index-preserved : goal.loop-index-preserved
loop-index-preserved c =
    distinct_more c.args.ids.now c.loop-index.index c.index-ids-index.result c.loop-index-test.true c.index-ids-index.is
    (sym c.is_repeated.ensures ∙ c.if-is_repeated.false) c.loop-index.invariant

pub returns-clause-none : goal.returns-clause-none
returns-clause-none c =
    subst (λ (ids : List ComponentId). AreDistinct ids) (take_all c.loop-index.index c.args.ids.now c.loop-index-test.false) c.loop-index.invariant
