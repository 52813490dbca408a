use Rattle.std.specs.Prelude.{IsTrue}
use Rattle.std.specs.FinMap as map
use Rattle.settings.specs.ConfMeaning.{meaning}
use Rattle.settings.specs.Keys.{IsHmacKey, is_keyid}
use Rattle.settings.proofs.ValidInside.{lent_is, valid_inside}
use Rattle.settings.proofs.conf.Conf.hmac_key.Goals as goal

pub returns-clause-valid : goal.returns-clause-valid
returns-clause-valid c =
    let conf = meaning c.args.self.now in
    let keyid = c.args.keyid.now in
    lent_is IsHmacKey c.get.result (map.get conf.keys keyid) c.get.ensures ((valid_inside conf c.args.self.now.valid).keys keyid)

pub returns-clause-keyid : goal.returns-clause-keyid
returns-clause-keyid c =
    let conf = meaning c.args.self.now in
    let keyid = c.args.keyid.now in
    lent_is (λ key. IsTrue (is_keyid keyid)) c.get.result (map.get conf.keys keyid) c.get.ensures ((valid_inside conf c.args.self.now.valid).keyids keyid)
