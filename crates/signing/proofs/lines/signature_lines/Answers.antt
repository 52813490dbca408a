use Rattle.std.proofs.Common.{codes}
use Rattle.sfv_text.specs.Strict.{bytes_text}
use Rattle.component_ids.specs.SignatureParams.{sig_params_text}
use Rattle.signing.specs.Written.{member_line}
use Rattle.signing.proofs.LineTexts.{two_lines}
use Rattle.signing.proofs.lines.signature_lines.Goals as goal

pub returns : goal.returns
returns c =
    let spec = c.args.spec.now in
    two_lines (member_line (codes "Signature-Input") spec.label (sig_params_text spec.params)) (member_line (codes "Signature") spec.label (bytes_text c.args.tag.now)) c.append_member.new.text c.append_member-2.new.text
    (rw (c.in_ok-text.ensures.ok, c.bytes-label.ensures, c.requires.params) at c.in_ok-append_member.ensures)
    (rw (c.bytes-label.ensures, c.bytes.ensures, c.in_ok-value.ensures.is, c.in_ok-from_bytes.ensures.ok) at c.in_ok-append_member-2.ensures)
