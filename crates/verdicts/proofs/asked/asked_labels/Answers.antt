use Rattle.std.proofs.Common.{refl}
use Rattle.std.proofs.lemmas.Bool.{false≢true}
use Rattle.verdicts.proofs.AskedLabels.{none_asked, all_asked}
use Rattle.verdicts.proofs.asked.asked_labels.Goals as goal

pub returns-then-is_empty-clause-asked : goal.returns-then-is_empty-clause-asked
returns-then-is_empty-clause-asked c =
    rw c.in_default.is
    (none_asked c.args.exchange.now.context.message c.in_ok-labels.labels c.one_label-then-is_empty.result c.in_ok-labels.ensures.labels (c.if-is_empty.ensures.0 refl) c.one_label-then-is_empty.ensures)

pub returns-clause-asked : goal.returns-clause-asked
returns-clause-asked c =
    rw c.in_default.is (all_asked c.args.exchange.now.context.message c.in_ok-labels.labels c.in_ok-labels.ensures.labels (λ empty. false≢true (c.if-is_empty.ensures.1 empty)))
