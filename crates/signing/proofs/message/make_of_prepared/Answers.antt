use Rattle.std.proofs.Common.{sym, ap, ◌∙◌}
use Rattle.component_ids.specs.declared.params.SigParams.{SigParams}
use Rattle.hmac_sha256.specs.Hmac.{hmac}
use Rattle.signatures.specs.SignatureBase.{signature_base}
use Rattle.signing.specs.Written.{digest_lines, signature_lines}
use Rattle.signing.proofs.Making.{text_is}
use Rattle.signing.proofs.Made.{too_long, fits, made, tag_bytes}
use Rattle.signing.proofs.message.make_of_prepared.Goals as goal

pub returns-in-Some : goal.returns-in-Some
returns-in-Some c = λ context are have.
    too_long context c.args.spec.now are.none c.in-Some.limit (sym (c.limit_of_signed.ensures context.message are.parts_are are.digest_is) ∙ c.in-Some.is)

pub signature_lines-requires-clause-bytes : goal.signature_lines-requires-clause-bytes
signature_lines-requires-clause-bytes c =
    tag_bytes c.tag_of-tag.result c.args.spec.now.key (signature_base c.args.prepared.now.params c.args.prepared.now.values) c.tag_of-tag.ensures

pub returns : goal.returns
returns c = λ context are have.
    let spec = c.args.spec.now in
    let tag = c.tag_of-tag.result in
    let values = c.args.prepared.now.values in
    made context spec (fits context spec are.none (sym (c.limit_of_signed.ensures context.message are.parts_are are.digest_is) ∙ c.in_default.is)) values tag c.in_ok-text_of.field-0 have
    (c.tag_of-tag.ensures ∙ ap (λ (p : SigParams). hmac spec.key (signature_base p values)) c.requires)
    (rw (c.bytes.ensures, c.bytes-2.ensures) at c.in_ok-text_of.ensures
    ∙ text_is context.message c.args.parts are.parts_are (digest_lines context.message spec.digest) (signature_lines spec tag) c.args.digest.now c.in_ok-signature.signature are.digest_is c.in_ok-signature.ensures)
