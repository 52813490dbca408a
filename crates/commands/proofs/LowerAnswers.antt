-- Laws of the crates below that something is read or has a fault, in the form that the proofs here
-- use.
use Rattle.sfv_read.specs.Laws.{HasValueOrNone, HasFault}
use Rattle.sfv_read.specs.Reads.{ReadsInner}
use Rattle.sfv_read.proofs.Readings.{inner_is_decided, inner_judges}
use Rattle.sfv_read.proofs.TextLaws.{has_fault}
use Rattle.component_ids.specs.Laws.{HasAnswer as HasIdsAnswer}
use Rattle.component_ids.proofs.Judged as ids
use Rattle.component_values.specs.Laws.{HaveOrLack}
use Rattle.component_values.proofs.FirstLacks.{have_or_lack}
use Rattle.signatures.specs.Laws.{HasLabels}
use Rattle.signatures.proofs.Reading.{has_labels}
use Rattle.verdicts.specs.Laws.{HasVerdict}
use Rattle.verdicts.proofs.Judging.{has_verdict}

pub inner_or_not : HasValueOrNone ReadsInner
inner_or_not = inner_is_decided

pub inner_fault : HasFault ReadsInner
inner_fault = has_fault inner_judges

pub ids_answer : HasIdsAnswer
ids_answer = ids.has_answer

pub values_or_lack : HaveOrLack
values_or_lack = have_or_lack

pub some_labels : HasLabels
some_labels = has_labels

pub some_verdict : HasVerdict
some_verdict = has_verdict
