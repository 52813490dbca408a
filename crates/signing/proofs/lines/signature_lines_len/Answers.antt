use Rattle.std.proofs.Common.{refl}
use Rattle.sfv_text.specs.Strict.{bytes_text}
use Rattle.signing.specs.SignCauses.{any_tag}
use Rattle.signing.proofs.TagLengths.{lines_of_lengths, any_tag_length}
use Rattle.signing.proofs.lines.signature_lines_len.Goals as goal

pub returns-clause-is : goal.returns-clause-is
returns-clause-is c =
    let spec = c.args.spec.now in
    lines_of_lengths spec c.member_line_len.result c.member_line_len-2.result
    (rw (c.bytes-label.ensures, c.requires) at (c.member_line_len.ensures.is c.args.params.now refl)) (rw c.bytes-label.ensures at (c.member_line_len-2.ensures.is (bytes_text any_tag) any_tag_length))
