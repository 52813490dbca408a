use Rattle.samples.proofs.KeptReports.{keeps_its_signature}
use Rattle.samples.proofs.laws.a_sample_keeps_its_signature.Goals as goal

pub returns : goal.returns
returns c = keeps_its_signature
