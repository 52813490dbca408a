use Rattle.settings.specs.ConfMeaning.{meaning}
use Rattle.signing.proofs.Wanting.{met_more, met_all, unmet}
use Rattle.signing.proofs.wishes.specs_of_wishes.Goals as goal

pub loop-index-preserved : goal.loop-index-preserved
loop-index-preserved c =
    rw c.in_ok-push-in-Ok.ensures.ok
    (met_more (meaning c.args.conf.now) c.args.sign.now c.args.now c.args.wishes.now c.loop-index.index c.index-wishes-index.result c.loop-index.specs c.in-Ok.spec c.loop-index-test.true
    c.index-wishes-index.is c.loop-index.invariant c.in-Ok.ensures.0 c.in-Ok.ensures.1 c.in-Ok.ensures.2)

pub returns-in-Err : goal.returns-in-Err
returns-in-Err c =
    rw c.fault_at.ensures
    (unmet (meaning c.args.conf.now) c.args.sign.now c.args.now c.args.wishes.now c.loop-index.index c.index-wishes-index.result c.loop-index.specs c.in-Err.fault c.loop-index-test.true
    c.index-wishes-index.is c.loop-index.invariant c.in-Err.ensures)

pub returns : goal.returns
returns c = met_all (meaning c.args.conf.now) c.args.sign.now c.args.now c.args.wishes.now c.loop-index.index c.loop-index.specs c.loop-index-test.false c.loop-index.invariant
