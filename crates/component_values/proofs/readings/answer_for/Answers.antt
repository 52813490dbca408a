use Rattle.component_values.specs.tools.Rows.{field_meant}
use Rattle.component_values.proofs.FieldAnswers.{none_kept, none_more}
use Rattle.component_values.proofs.readings.answer_for.Goals as goal

pub loop-own-preserved : goal.loop-own-preserved
loop-own-preserved g c =
    none_more c.args.answers.now c.loop-own.own-index c.own-item.result (field_meant c.args.field) c.is.result c.loop-own-test.true c.own-item.is c.loop-own.invariant c.is.ensures c.if-is.false

pub returns-clause-none : goal.returns-clause-none
returns-clause-none g c = none_kept c.args.answers.now c.loop-own.own-index (field_meant c.args.field) c.loop-own-test.false c.loop-own.invariant
