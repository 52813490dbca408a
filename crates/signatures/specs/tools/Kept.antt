-- What an exchange keeps. No public clause cites this module.
use Rattle.std.specs.Prelude.{Option, IfSome}
use Rattle.component_values.specs.Context.{MessageContext}
use Rattle.component_values.specs.Readings.{AreReadOf}
use Rattle.component_values.specs.declared.readings.Readings.{Readings}
use Rattle.signatures.specs.Fields.{AreFieldsOf}
use Rattle.signatures.specs.declared.fields.SignatureFields.{SignatureFields}
use Rattle.signatures.specs.declared.place.DigestReason.{DigestReason}
use Rattle.signatures.specs.ContentDigests.{IsDigestAnswer}

-- all of it was read of this context
pub record AreReadFor (context : MessageContext) (fields : Option SignatureFields)
    (values : Readings) (digest : Option (Option DigestReason)) : Type 0 where
  pub fields_are : IfSome fields (AreFieldsOf context.message)
  pub values_are : AreReadOf context values
  pub digest_is : IfSome digest (IsDigestAnswer context.message)
