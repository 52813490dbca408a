use Rattle.std.proofs.Common.{refl}
use Rattle.msg_head.specs.Cuts.{IsSection}
use Rattle.msg_head.specs.Trailers.{IsTrailerSection}
use Rattle.msg_head.proofs.Prefixes.{some_more, none_more}
use Rattle.msg_head.proofs.Ends.{empty_section, no_end_after, section_after}
use Rattle.msg_head.proofs.section.trailer_section.Goals as goal

pub returns-then-begins_with_crlf-clause-some : goal.returns-then-begins_with_crlf-clause-some
returns-then-begins_with_crlf-clause-some c = empty_section c.args.bytes.now (c.if-begins_with_crlf.ensures.yes refl)

pub returns-clause-some : goal.returns-clause-some
returns-clause-some c =
    let bytes = c.args.bytes.now in
    some_more (λ section. IsSection bytes section.now) (λ section. IsTrailerSection bytes section.now) c.head_section.result (λ section. section_after bytes section.now (c.if-begins_with_crlf.ensures.not refl)) c.head_section.ensures.some

pub returns-clause-none : goal.returns-clause-none
returns-clause-none c =
    none_more c.head_section.result (no_end_after c.args.bytes.now (c.if-begins_with_crlf.ensures.not refl)) c.head_section.ensures.none
