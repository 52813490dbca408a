use Rattle.hmac_sha256.specs.Hmac.{key_block}
use Rattle.signatures.specs.SignatureBase.{signature_base}
use Rattle.signing.proofs.mac.tag_of.Goals as goal

pub returns : goal.returns
returns c =
    let key = c.args.key.now in
    let base = signature_base c.args.prepared.now.params c.args.prepared.now.values in
    c.finish.ensures.absorbed key base (c.feed_base.ensures (key_block key) c.hmac-mac.ensures.absorbed)
