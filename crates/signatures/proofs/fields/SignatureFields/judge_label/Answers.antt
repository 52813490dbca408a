use Rattle.std.proofs.Common.{subst}
use Rattle.signatures.specs.declared.field.DictField.{DictField}
use Rattle.signatures.specs.Fields.{IsFieldOf}
use Rattle.signatures.specs.Signatures.{input_name, signature_name}
use Rattle.signatures.proofs.Reading.{no_signature, bad_signature}
use Rattle.signatures.proofs.fields.SignatureFields.judge_label.Goals as goal

pub returns-in-Absent-signature : goal.returns-in-Absent-signature
returns-in-Absent-signature c = λ message are.
    no_signature message c.args.label.now c.in-Dict.dict
    (subst (λ (f : DictField). IsFieldOf message input_name f) c.in-Dict.is are.input)
    (subst (λ (f : DictField). IsFieldOf message signature_name f) c.in-Absent-signature.is are.signature)

pub returns-in-Malformed-signature : goal.returns-in-Malformed-signature
returns-in-Malformed-signature c = λ message are.
    bad_signature message c.args.label.now c.in-Dict.dict
    (subst (λ (f : DictField). IsFieldOf message input_name f) c.in-Dict.is are.input)
    (subst (λ (f : DictField). IsFieldOf message signature_name f) c.in-Malformed-signature.is are.signature)
