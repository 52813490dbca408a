use Rattle.content_digest.proofs.DigestLaws.{has_digest_answer, no_fault_where_holds, one_digest_fault}
use Rattle.content_digest.proofs.laws.digests_hold_or_have_one_fault.Goals as goal

pub returns : goal.returns
returns c = record {
  answer = has_digest_answer;
  either = no_fault_where_holds;
  one = one_digest_fault;
}
