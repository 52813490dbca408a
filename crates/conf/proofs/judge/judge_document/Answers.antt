use Rattle.std.proofs.lemmas.Result.{IfErr-weaker, err_from_is_err_and}
use Rattle.toml.specs.View.{table_view}
use Rattle.conf.proofs.JudgedLaws.{first_is, below_typed, below_allowed}
use Rattle.conf.proofs.judge.judge_document.Goals as goal

pub returns-in_err-judge_rows-clause-err : goal.returns-in_err-judge_rows-clause-err
returns-in_err-judge_rows-clause-err c =
    let first = first_is 4 (table_view c.args.tables.document.now) c.in_err-judge_rows.field-0.0 (below_typed (table_view c.args.tables.document.now) c.in_ok-judge_keys.ensures.ok) c.in_err-judge_rows.ensures.err in
    let p = err_from_is_err_and c.from_residual-in_err-judge_rows.result c.from_residual-in_err-judge_rows.ensures.1 in
    rw (p.1, p.2) first

pub returns-clause-err : goal.returns-clause-err
returns-clause-err c =
    let below = below_allowed (table_view c.args.tables.document.now) c.in_ok-judge_keys.ensures.ok c.in_ok-judge_rows.ensures.ok in
    IfErr-weaker c.judge_rows-2.result _ _ (λ f h. first_is 5 (table_view c.args.tables.document.now) f below h) c.judge_rows-2.ensures.err
