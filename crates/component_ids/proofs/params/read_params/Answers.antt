use Rattle.component_ids.proofs.AnswerLaws.{answers_fault, answers_only, answers_in_range}
use Rattle.component_ids.proofs.params.read_params.Goals as goal

pub returns-clause-only : goal.returns-clause-only
returns-clause-only c = answers_only c.args.list.now c.judge_list.result c.judge_list.ensures.explains

pub returns-clause-fault : goal.returns-clause-fault
returns-clause-fault c = answers_fault c.args.list.now c.judge_list.result c.judge_list.ensures.explains

pub returns-clause-in_range : goal.returns-clause-in_range
returns-clause-in_range c = answers_in_range c.args.list.now c.judge_list.result c.judge_list.ensures.explains
