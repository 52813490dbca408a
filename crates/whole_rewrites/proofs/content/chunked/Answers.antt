use Rattle.std.proofs.Common.{◌++◌, ◌≡◌, ap, ◌∙◌, codes, rules}
use Rattle.framing.specs.Chunks.{chunks_text}
use Rattle.component_values.specs.Context.{context_of}
use Rattle.framing.specs.declared.kind.Framing.TheVariants.{Length}
use Rattle.msg_body.specs.Views.{message_content}
use Rattle.whole_rewrites.specs.Content.{coding_line}
use Rattle.framing.specs.Sizes.{sized_chunks}
use Rattle.whole_rewrites.specs.tools.HeadLines.{head_with}
use Rattle.whole_rewrites.proofs.ContentMade.{chunk_no_line, chunk_offered, chunk_unfit, same_sizes}
use Rattle.whole_rewrites.proofs.content.chunked.Goals as goal

pub returns-then-not-are_chunk_sizes : goal.returns-then-not-are_chunk_sizes
returns-then-not-are_chunk_sizes c =
    chunk_unfit (context_of c.args.context.now) c.args.sizes.now
    (same_sizes (context_of c.args.context.now) c.args.sizes.now c.content_len.result c.are_chunk_sizes.result _ c.content_len.ensures c.are_chunk_sizes.ensures c.if-not-are_chunk_sizes.true)

pub returns-in_default : goal.returns-in_default
returns-in_default c = chunk_no_line (context_of c.args.context.now) c.args.sizes.now c.in_default.ensures

pub returns : goal.returns
returns c =
    let context = context_of c.args.context.now in
    let sizes = c.args.sizes.now in
    let fits = same_sizes context sizes c.content_len.result c.are_chunk_sizes.result _ c.content_len.ensures c.are_chunk_sizes.ensures c.if-not-are_chunk_sizes.false in
    let chunks = chunks_text (sized_chunks sizes (message_content context.message)) in
    let framing : context.message.framing ≡ Length = search rules in
    let head = c.in_ok-append_head_with.ensures ∙ (λ i. c.in_ok-text.ensures.ok i ++ head_with (c.header_of-lines.ensures i) c.in-Some.index coding_line) in
    let text = c.in_ok-append.ensures.ok ∙ ap (λ t. t ++ codes "\r\n") (c.in_ok-append_in_chunks.ensures ∙ ap (λ t. t ++ chunks) head) in
    chunk_offered context c.append.new.self c.requires.whole sizes c.in-Some.index framing fits c.in-Some.ensures text
