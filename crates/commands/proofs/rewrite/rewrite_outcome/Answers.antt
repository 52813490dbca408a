use Rattle.std.proofs.Common.{subst, ◌∙◌}
use Rattle.std.specs.Prelude.{option_map}
use Rattle.std.proofs.lemmas.Result.{err_from_is_err_and}
use Rattle.component_values.specs.Context.{context_of}
use Rattle.commands.specs.declared.rewrite.ByLabel.{ByLabel}
use Rattle.commands.specs.tools.Rewritten.{IsJudged}
use Rattle.commands.proofs.Rewriting.{all_taken, not_all_taken, quiet}
use Rattle.commands.proofs.rewrite.rewrite_outcome.Goals as goal

pub returns-clause-report : goal.returns-clause-report
returns-clause-report c =
    all_taken _ (record { label = c.args.label }) (option_map (λ word. word.now) c.args.label)
    (λ context step was now judgement same is. (is.0 ∙ same, subst (λ (w : ByLabel). IsJudged (option_map (λ word. word.now) w.label) context step judgement) same is.1))
    (context_of c.args.context.now) c.args.script.now c.walk.new.watcher c.in_ok-text.text c.in_ok-text.ensures

pub returns-in_err-text-clause-report : goal.returns-in_err-text-clause-report
returns-in_err-text-clause-report c =
    let p = err_from_is_err_and c.from_residual.result c.from_residual.ensures.1 in
    rw (p.1, p.2) (not_all_taken _ (record { label = c.args.label }) (option_map (λ word. word.now) c.args.label)
    (λ context step was now judgement same is. (is.0 ∙ same, subst (λ (w : ByLabel). IsJudged (option_map (λ word. word.now) w.label) context step judgement) same is.1))
    (context_of c.args.context.now) c.args.script.now c.walk.new.watcher c.in_err-text.field-0.0 c.in_err-text.ensures)

pub returns-in_err-text-clause-reads_nothing : goal.returns-in_err-text-clause-reads_nothing
returns-in_err-text-clause-reads_nothing c =
    let p = err_from_is_err_and c.from_residual.result c.from_residual.ensures.1 in
    rw (p.1, p.2) (quiet c.in_err-text.field-0.0)
