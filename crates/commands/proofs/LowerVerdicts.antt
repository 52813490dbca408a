-- Laws of verdicts, in the form that the proofs here use.
use Rattle.verdicts.proofs.Judging as judging
use Rattle.signatures.proofs.Reading as reading
use Rattle.signatures.specs.Laws.{HasOneListOfLabels}
use Rattle.verdicts.specs.Laws.{HasOneVerdict}

pub one_list_of_labels : HasOneListOfLabels
one_list_of_labels = reading.has_one_list_of_labels

pub one_verdict : HasOneVerdict
one_verdict = judging.has_one_verdict
