use Rattle.sfv_read.proofs.KeyReads.{key_read, key_promises}
use Rattle.sfv_read.proofs.read.has_key.Goals as goal

pub returns : goal.returns
returns c =
    let p = key_promises c.args.key.now c.args.text.now c.answer.result (c.answer.ensures (λ t. key_read c.args.key.now t) c.read_separated.ensures.gives) in
    record { ok = p.ok; only = p.only; fault = p.fault }
