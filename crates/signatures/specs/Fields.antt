-- What is read of the two header fields that have the signatures of a message (RFC 9421 sections
-- 4.1 and 4.2).
use Rattle.std.specs.Prelude.{ℕ, List}
use Rattle.sfv_text.specs.declared.pair.Pair.{Pair}
use Rattle.sfv_text.specs.declared.value.Member.{Member}
use Rattle.msg_body.specs.Messages.{Message}
use Rattle.signatures.specs.Signatures.{input_name, signature_name, HasField, HasDict}
use Rattle.signatures.specs.declared.field.DictField.{DictField}
use Rattle.signatures.specs.declared.field.DictField.TheVariants.{Absent, Malformed, Dict}
use Rattle.signatures.specs.declared.fields.SignatureFields.{SignatureFields}

-- this is the message's field of the name, as a Dictionary
abbrev pub IsFieldOf : Message → List ℕ → DictField → Type 0
IsFieldOf message name Absent = ¬ HasField message name
IsFieldOf message name Malformed =
    HasField message name × ((dict : List (Pair Member)) → ¬ HasDict message name dict)
IsFieldOf message name (Dict dict) = HasDict message name dict

-- these are the message's `Signature-Input` and `Signature`
pub record AreFieldsOf (message : Message) (fields : SignatureFields) : Type 0 where
  pub input : IsFieldOf message input_name fields.input
  pub signature : IsFieldOf message signature_name fields.signature
