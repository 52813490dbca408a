use Rattle.hmac_sha256.specs.Hmac.{key_block}
use Rattle.signatures.specs.SignatureBase.{signature_base}
use Rattle.verdicts.proofs.mac.tag_matches.Goals as goal

pub returns : goal.returns
returns c =
    let base = signature_base c.args.prepared.now.params c.args.prepared.now.values in
    c.has_tag.ensures c.args.key.now base (c.feed_base.ensures (key_block c.args.key.now) c.new-mac.ensures.absorbed)
