use Rattle.std.proofs.Common.{sym}
use Rattle.std.proofs.lemmas.Result.{IfErr-weaker}
use Rattle.toml.specs.View.{array_view, table_view, view}
use Rattle.conf.proofs.GatewayLaws.{steps_fault}
use Rattle.conf.proofs.gateway_reader.read_steps.Goals as goal

pub returns-in-Some-as_array-clause-err : goal.returns-in-Some-as_array-clause-err
returns-in-Some-as_array-clause-err c =
    let document = table_view c.args.tables.document.now in
    let value = view c.in-Some.value.now in
    let items = array_view c.in-Some-as_array.array.now in
    IfErr-weaker c.steps_in.result _ _ (λ f h. steps_fault document value items f (sym (rw c.in-Some.is at c.value_at.ensures)) (sym (rw c.in-Some-as_array.is at c.as_array.ensures)) h) c.steps_in.ensures.err
