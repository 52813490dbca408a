use Rattle.std.proofs.Common.{◌≢◌, ◌∙◌, refl, sym, subst}
use Rattle.msg_body.specs.WholeTexts.{IsMessageFault, out_of_memory}
use Rattle.msg_body.specs.declared.whole.Reading.{Reading}
use Rattle.gateway.specs.Arrivals.{arrival_of}
use Rattle.gateway.proofs.Stepping.{related_refused}
use Rattle.gateway.proofs.gateway.related_request.Goals as goal

pub returns-in_ok-bad_fault-in-Err : goal.returns-in_ok-bad_fault-in-Err
returns-in_ok-bad_fault-in-Err c =
    let fault = c.in-Err.fault in
    let own = c.in_ok-bad_fault-in-Err.ensures.same in
    let known : fault ≢ out_of_memory = λ none. own.1 (own.0 ∙ none) in
    let faulty = (c.in-Err.ensures.fault fault known).only refl in
    related_refused (arrival_of c.args.arrival) c.in-Some.text.now fault (sym c.in-Some.ensures)
    (subst (λ (r : Reading). IsMessageFault r c.in-Some.text.now fault) c.of_request.ensures faulty)
