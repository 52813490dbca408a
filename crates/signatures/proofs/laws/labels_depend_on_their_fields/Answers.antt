use Rattle.signatures.proofs.SameFields.{have_same_signature, fail_to_read_the_same}
use Rattle.signatures.proofs.laws.labels_depend_on_their_fields.Goals as goal

pub returns : goal.returns
returns c = record { signature = have_same_signature; rules = fail_to_read_the_same }
