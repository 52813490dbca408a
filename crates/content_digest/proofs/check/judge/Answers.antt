use Rattle.std.proofs.Common.{sym, subst}
use Rattle.sfv_read.specs.Reads.{ReadsDict}
use Rattle.content_digest.proofs.check.judge.Goals as goal

pub returns : goal.returns
returns c = c.judge_members.ensures c.args.text.now (subst (ReadsDict c.args.text.now) (sym c.as_slice.ensures.is) c.in_ok-dict.ensures.ok)
