use Rattle.std.proofs.Common.{◌-◌, refl, Ok, Err}
use Rattle.std.proofs.lemmas.Result.{err_from_is_err_and}
use Rattle.recording.specs.declared.chain.OrderFault.TheVariants.{TooManyHops}
use Rattle.recording.proofs.HeldOrder.{first_answer, held_answer, hops_answer, long_answer}
use Rattle.recording.proofs.OrderAnswers.{fault_answered}
use Rattle.recording.proofs.order.recorded_chain.Goals as goal

pub returns-in_default-first : goal.returns-in_default-first
returns-in_default-first c =
    let fault = c.fault-in_default-first.result in
    record {
      chain = tt;
      fault = fault_answered c.args.recording.now (Err fault)
          (first_answer (record { items = c.args.recording.now; taken = 0 }) c.moment.new.self c.in-Some.moment refl (rw c.of-left.ensures at c.in-Some.ensures.some) c.first.new.self fault c.in_default-first.ensures.none c.fault-in_default-first.ensures);
    }

pub returns-in_err-hops : goal.returns-in_err-hops
returns-in_err-hops c =
    let p = err_from_is_err_and c.from_residual.result c.from_residual.ensures.1 in
    let fault = c.in_err-hops.field-0.0 in
    rw (p.1, p.2) (record {
      chain = tt;
      fault = fault_answered c.args.recording.now (Err fault)
          (hops_answer (record { items = c.args.recording.now; taken = 0 }) c.moment.new.self c.in-Some.moment refl (rw c.of-left.ensures at c.in-Some.ensures.some) c.in-Some-first.subject c.in-Some-first.first c.first.new.self c.in-Some-first.ensures.some c.hops.new.self fault c.in_err-hops.ensures);
    })

pub returns-then-is_long : goal.returns-then-is_long
returns-then-is_long c = record {
  chain = tt;
  fault = fault_answered c.args.recording.now (Err TooManyHops)
      (long_answer (record { items = c.args.recording.now; taken = 0 }) c.moment.new.self c.in-Some.moment refl (rw c.of-left.ensures at c.in-Some.ensures.some) c.in-Some-first.subject c.in-Some-first.first c.first.new.self c.in-Some-first.ensures.some
      c.hops.new.self c.in_ok-hops.hops c.in_ok-hops.is_long c.in_ok-hops.ensures.0 c.in_ok-hops.ensures.1 c.if-is_long.true);
}

pub returns : goal.returns
returns c =
    let held = held_answer (record { items = c.args.recording.now; taken = 0 }) c.moment.new.self c.in-Some.moment refl (rw c.of-left.ensures at c.in-Some.ensures.some) c.in-Some-first.subject c.in-Some-first.first c.first.new.self c.in-Some-first.ensures.some
    c.hops.new.self c.in_ok-hops.hops c.in_ok-hops.is_long c.in_ok-hops.ensures.0 c.in_ok-hops.ensures.1 c.if-is_long.false in
    rw c.taken-item.ensures (record {
      chain = held;
      fault = fault_answered c.args.recording.now (Ok (record {
        moment = c.in-Some.moment;
        subject = c.in-Some-first.subject;
        item = c.first.new.self.taken - 1;
        first = c.in-Some-first.first;
        hops = c.in_ok-hops.hops;
      })) held;
    })
