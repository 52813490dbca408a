use Rattle.samples.proofs.OneSample.{one_sample}
use Rattle.samples.proofs.Signable.{no_sign_fault}
use Rattle.samples.proofs.SomeSample.{some_sample}
use Rattle.samples.proofs.laws.a_sample_has_one_summary.Goals as goal

pub returns : goal.returns
returns c = record { one = one_sample; some = some_sample; signable = no_sign_fault }
