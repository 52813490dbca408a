use Rattle.component_values.proofs.SameReadings.{depends_on_its_reading, has_form_of_reading}
use Rattle.component_values.proofs.StrictEnds.{has_no_blank_ends}
use Rattle.component_values.proofs.laws.strict_texts_come_to_the_same.Goals as goal

pub returns : goal.returns
returns c = record { ends = has_no_blank_ends; reading = depends_on_its_reading; form = has_form_of_reading }
