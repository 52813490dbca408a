use Rattle.std.proofs.Common.{◌∙◌, refl}
use Rattle.base64.specs.Engines.{standard_no_pad}
use Rattle.base64.specs.GeneralPurpose.{IsStrict}
use Rattle.sfv_read.proofs.Base64Letters.{decodes, not_whole}
use Rattle.sfv_read.proofs.byte_sequence.decode.Goals as goal

is_strict : IsStrict standard_no_pad
is_strict = (refl, refl)

pub returns-in-Ok-clause-ok : goal.returns-in-Ok-clause-ok
returns-in-Ok-clause-ok c =
    let d = decodes c.args.letters.now c.in-Ok.bytes.items (c.in-Ok.ensures.exact is_strict) c.in-Ok.ensures.bytes in
    (d.0, c.from_vec.ensures ∙ d.1)

pub returns-in-Err-DecodeError-clause-ok : goal.returns-in-Err-DecodeError-clause-ok
returns-in-Err-DecodeError-clause-ok c =
    not_whole c.args.letters.now c.in-Err-DecodeError.field-0-0 c.requires (λ b h. c.in-Err-DecodeError.ensures.strict is_strict b h) (rw c.in-Err-DecodeError.field-0-is at c.in-Err-DecodeError.ensures).err
