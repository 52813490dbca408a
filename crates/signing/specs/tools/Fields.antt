-- What was read of a header field that is to be a Dictionary. No public clause cites this module.
use Rattle.std.specs.Prelude.{ℕ, Option, Some, None, List}
use Rattle.msg_body.specs.Messages.{Message}
use Rattle.signing.specs.SignCauses.{IsMalformed, HasLabel}
use Rattle.signing.specs.declared.fault.SignFault.{SignFault}
use Rattle.signing.specs.declared.fault.SignFault.TheVariants as fault
use Rattle.signing.specs.declared.place.LabelPlace.{LabelPlace}
use Rattle.signing.specs.declared.place.LabelPlace.TheVariants as place

-- what the field says of the label
abbrev pub IsPlaceIn : Message → List ℕ → List ℕ → LabelPlace → Type 0
IsPlaceIn message name label place.Malformed = IsMalformed message name
IsPlaceIn message name label place.Taken =
    HasLabel message name label × ¬ IsMalformed message name
IsPlaceIn message name label place.Free =
    (¬ HasLabel message name label) × ¬ IsMalformed message name

-- the fault by what `Signature-Input` and `Signature` say of the label
abbrev pub fault_of_places : LabelPlace → LabelPlace → Option SignFault
fault_of_places place.Malformed signature = Some fault.InputMalformed
fault_of_places input place.Malformed = Some fault.SignatureMalformed
fault_of_places place.Taken signature = Some fault.LabelThere
fault_of_places input place.Taken = Some fault.LabelThere
fault_of_places place.Free place.Free = None
