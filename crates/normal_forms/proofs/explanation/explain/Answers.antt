use Rattle.component_values.specs.Context.{context_of}
use Rattle.normal_forms.proofs.ExplainedLaws.{explained_fault, explained_ok}
use Rattle.normal_forms.proofs.explanation.explain.Goals as goal

pub returns : goal.returns
returns c = record {
  ok = explained_ok (context_of c.args.first.now) (context_of c.args.second.now) c.args.label.now c.judge.result c.judge.ensures;
  fault = explained_fault (context_of c.args.first.now) (context_of c.args.second.now) c.args.label.now c.judge.result c.judge.ensures;
}
