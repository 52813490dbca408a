use Rattle.std.proofs.Common.{◌++◌}
use Rattle.signing.specs.SignCauses.{any_tag}
use Rattle.signing.specs.Written.{digest_lines, signature_lines}
use Rattle.signing.proofs.Made.{all_bytes, all_lines}
use Rattle.signing.proofs.limit.limit_of_signed.Goals as goal

pub returns : goal.returns
returns c = λ message are lines.
    let spec = c.args.spec.now in
    c.passed_limit.ensures message (digest_lines message spec.digest ++ signature_lines spec any_tag) are
    (rw c.bytes.ensures (all_bytes message spec c.args.parts c.args.digest.now are lines c.signature_lines_len.result c.signature_lines_len.ensures.is)) (all_lines message spec c.args.parts c.args.digest.now are lines)
