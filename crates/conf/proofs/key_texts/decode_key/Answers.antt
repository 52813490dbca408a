use Rattle.std.proofs.Common.{refl, sym}
use Rattle.conf.proofs.KeyLaws.{key_is, key_isnt, no_key, of_length}
use Rattle.conf.proofs.key_texts.decode_key.Goals as goal

pub returns-then-is_key_length : goal.returns-then-is_key_length
returns-then-is_key_length c =
    key_is c.args.text.now c.in-Ok.bytes.items (record {
      bytes = c.in-Ok.ensures.bytes;
      spelled = c.in-Ok.ensures.exact (refl, refl);
      is_key = of_length c.in-Ok.bytes.items (rw c.as_slice.ensures.value at (sym c.if-is_key_length.ensures));
    })

pub returns-else-is_key_length : goal.returns-else-is_key_length
returns-else-is_key_length c =
    key_isnt c.args.text.now c.in-Ok.bytes.items c.in-Ok.ensures.bytes (c.in-Ok.ensures.exact (refl, refl)) (rw c.as_slice.ensures.value at (sym c.if-is_key_length.ensures))

pub returns-in-Err-DecodeError : goal.returns-in-Err-DecodeError
returns-in-Err-DecodeError c = no_key c.args.text.now c.in-Err-DecodeError.field-0-0 (rw c.in-Err-DecodeError.field-0-is at c.in-Err-DecodeError.ensures).err
