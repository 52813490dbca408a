use Rattle.std.proofs.Common.{◌∙◌, refl, subst, arith}
use Rattle.base64.specs.Engines.{standard_no_pad}
use Rattle.base64.specs.GeneralPurpose.{IsStrict, IsBytes}
use Rattle.base64.proofs.EngineFacts.{decode_of_iff, decode_of_strict}
use Rattle.sfv_read.proofs.Base64Letters.{decodes, not_whole}
use Rattle.sfv_read.proofs.byte_sequence.decode_few.Goals as goal

is_strict : IsStrict standard_no_pad
is_strict = (refl, refl)

pub returns-in_ok-text_of-in-Ok-clause-ok : goal.returns-in_ok-text_of-in-Ok-clause-ok
returns-in_ok-text_of-in-Ok-clause-ok c =
    let letters = c.args.letters.now in
    let text = c.in_ok-text_of-in-Ok.ensures in
    let spelled = decode_of_strict standard_no_pad letters _ is_strict (λ i. omega (arith, c.type_inv.letters i)) c.in-Ok.ensures.ok.0 in
    let d = decodes letters _ spelled (subst IsBytes text.same text.bytes) in
    (d.0, text.same ∙ d.1)

pub returns-in-Err-clause-ok : goal.returns-in-Err-clause-ok
returns-in-Err-clause-ok c =
    let letters = c.args.letters.now in
    not_whole letters c.in-Err.field-0 c.requires.letters (λ b bytes. decode_of_iff standard_no_pad letters b is_strict (λ i. omega (arith, c.type_inv.letters i)) bytes) c.in-Err.ensures.err
