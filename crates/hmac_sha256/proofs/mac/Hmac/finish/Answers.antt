use Rattle.std.proofs.Common.{◌++◌, subst, sym, ◌∙◌}
use Rattle.hmac_sha256.proofs.Blocks.{same_parts, length-key_block}
use Rattle.hmac_sha256.specs.Hmac.{key_block}
use Rattle.hmac_sha256.specs.State.{HasAbsorbed}
use Rattle.hmac_sha256.proofs.mac.Hmac.finish.Goals as goal

pub returns-clause-absorbed : goal.returns-clause-absorbed
returns-clause-absorbed c key text absorbed =
    let held = subst (λ state. HasAbsorbed state (key_block key ++ text)) (sym c.self.view_is) absorbed in
    let long = length-key_block key ∙ sym (length-key_block held.key) in
    let parts = same_parts (key_block key) (key_block held.key) text held.text held.parts long in
    rw (parts.0, parts.1, c.finalize.ensures _ (c.update.ensures _ held.has.outer), c.finalize-inner.ensures _ held.has.inner)
