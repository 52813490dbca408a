use Rattle.hmac_sha256.specs.Hmac.{key_block}
use Rattle.verdicts.proofs.Judging.{lack_says, tag_answered}
use Rattle.verdicts.proofs.mac.judge_base.Goals as goal

pub fault_of_lack-requires : goal.fault_of_lack-requires
fault_of_lack-requires c = rw c.as_slice.ensures c.in-Err.ensures.index

pub returns-in-Err-clause-explains : goal.returns-in-Err-clause-explains
returns-in-Err-clause-explains c =
    lack_says c.args.exchange.now.context c.args.read.now.params c.args.read.now.tag c.args.key.now c.in-Err.fault c.fault_of_lack.result c.in-Err.ensures.lacks
    (rw c.as_slice.ensures at c.fault_of_lack.ensures)

pub returns-in-Ok-clause-explains : goal.returns-in-Ok-clause-explains
returns-in-Ok-clause-explains c =
    let read = c.args.read.now in
    let key = c.args.key.now in
    let fed = c.in-Ok.ensures.base in
    tag_answered c.args.exchange.now.context read.params read.tag key fed.0 fed.1 c.judge_tag.result
    (rw c.bytes.ensures at (c.judge_tag.ensures read.params fed.0 key (fed.2 (key_block key) c.hmac-mac.ensures.absorbed)))
