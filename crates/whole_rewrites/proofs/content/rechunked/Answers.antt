use Rattle.std.proofs.Common.{◌++◌, ap, ◌∙◌}
use Rattle.framing.specs.Chunks.{chunks_text}
use Rattle.component_values.specs.Context.{context_of}
use Rattle.msg_body.specs.Views.{message_content}
use Rattle.line_rewrites.specs.Sides.{lines_text}
use Rattle.framing.specs.Sizes.{sized_chunks}
use Rattle.whole_rewrites.specs.tools.HeadLines.{head_in}
use Rattle.whole_rewrites.proofs.ContentMade.{rechunk_offered, rechunk_unfit, same_sizes}
use Rattle.whole_rewrites.proofs.content.rechunked.Goals as goal

pub returns-then-not-are_chunk_sizes : goal.returns-then-not-are_chunk_sizes
returns-then-not-are_chunk_sizes c =
    rechunk_unfit (context_of c.args.context.now) c.args.sizes.now
    (same_sizes (context_of c.args.context.now) c.args.sizes.now c.content_len.result c.are_chunk_sizes.result _ c.content_len.ensures c.are_chunk_sizes.ensures c.if-not-are_chunk_sizes.true)

pub returns : goal.returns
returns c =
    let context = context_of c.args.context.now in
    let sizes = c.args.sizes.now in
    let fits = same_sizes context sizes c.content_len.result c.are_chunk_sizes.result _ c.content_len.ensures c.are_chunk_sizes.ensures c.if-not-are_chunk_sizes.false in
    let chunks = chunks_text (sized_chunks sizes (message_content context.message)) in
    let head = c.in_ok-append_head.ensures ∙ (λ i. c.in_ok-text.ensures.ok i ++ head_in (c.header_of.ensures i)) in
    let rest = c.rest_from.ensures ∙ (λ i. lines_text (c.in-Some.ensures.1 i).lines ++ (c.in-Some.ensures.1 i).after) in
    let text = c.in_ok-append.ensures.ok ∙ (λ i. (c.in_ok-append_in_chunks.ensures ∙ ap (λ t. t ++ chunks) head) i ++ rest i) in
    rechunk_offered context c.append.new.self c.requires.whole sizes c.in-Some.ensures.0 fits text
