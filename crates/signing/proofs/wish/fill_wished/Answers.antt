use Rattle.signing.proofs.Filling.{filled_by_steps}
use Rattle.signing.proofs.wish.fill_wished.Goals as goal

pub returns : goal.returns
returns c =
    filled_by_steps c.args.sign.now c.args.now c.args.params.now c.fill_expires.new.params c.fill_created.new.params c.add_keyid.new.params c.add_keyid.result
    c.in_ok-fill_expires.ensures c.in_ok-fill_created.ensures c.add_keyid.ensures
