use Rattle.verdicts.proofs.AlikeMessages.{depends_on_its_signature, depends_on_signature}
use Rattle.verdicts.proofs.laws.a_verdict_depends_on_its_signature.Goals as goal

pub returns : goal.returns
returns c = record { label = depends_on_its_signature; signed = depends_on_signature }
