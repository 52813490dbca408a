use Rattle.std.proofs.Common.{◌≡◌, sym, ◌∙◌, ap}
use Rattle.nonces.specs.Books.{hour_of}
use Rattle.nonces.proofs.Turned.{put_coarse, put_fine}
use Rattle.nonces.proofs.wheels.Wheels.add.Goals as goal

pub invariant_of-self : goal.invariant_of-self
invariant_of-self g c =
    let old = c.self.inside in
    let hour : c.hour_of-hour.result ≡ hour_of c.args.entry.until =
    c.hour_of-hour.ensures ∙ ap hour_of c.until-until.ensures in
    let put = rw c.until-until.ensures at c.put.ensures.put in
    rw put.1 (
    put_fine old.store c.put.new.store old.fine old.coarse old.hour put.0 c.args.entry c.self.invariant
    (sym hour ∙ c.if-hour-self.true) put.2
    )

pub invariant_of-self-else-hour-self : goal.invariant_of-self-else-hour-self
invariant_of-self-else-hour-self g c =
    let old = c.self.inside in
    let hour : c.hour_of-hour.result ≡ hour_of c.args.entry.until =
    c.hour_of-hour.ensures ∙ ap hour_of c.until-until.ensures in
    let put = rw hour at c.put-else-hour-self.ensures.put in
    rw put.1 (
    put_coarse old.store c.put-else-hour-self.new.store old.fine old.coarse old.hour put.0 c.args.entry c.self.invariant
    (λ same. c.if-hour-self.false (hour ∙ same)) put.2
    )
