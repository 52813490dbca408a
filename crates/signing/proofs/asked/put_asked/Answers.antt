use Rattle.std.specs.Prelude.{option_copied}
use Rattle.signing.proofs.Asking.{put_by_steps}
use Rattle.signing.proofs.asked.put_asked.Goals as goal

pub returns : goal.returns
returns c =
    rw (← c.expires_of.ensures.is, ← c.alg_of.ensures, ← c.tag_of.ensures)
    (put_by_steps c.args.now c.expires_of.result (option_copied c.args.nonce) (option_copied c.alg_of.result) c.args.sign.now.keyid (option_copied c.tag_of.result)
    c.args.params.now c.put_moment.new.params c.put_moment-2.new.params c.put_string.new.params c.put_string-2.new.params c.put_string-3.new.params c.put_string-4.new.params c.put_string-4.result
    c.requires.none c.in_ok-put_moment.ensures c.in_ok-put_moment-2.ensures c.in_ok-put_string.ensures c.in_ok-put_string-2.ensures (rw c.bytes.ensures at c.in_ok-put_string-3.ensures) c.put_string-4.ensures)
