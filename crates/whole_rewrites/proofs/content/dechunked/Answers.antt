use Rattle.std.proofs.Common.{◌++◌, ◌≡◌, ◌≤◌, length, ap, ◌∙◌, rules, arith}
use Rattle.component_values.specs.Context.{context_of}
use Rattle.framing.specs.declared.kind.Framing.TheVariants.{Chunked}
use Rattle.msg_body.specs.Bodies.{trailers_in}
use Rattle.msg_body.specs.Views.{message_content}
use Rattle.whole_rewrites.specs.Content.{length_line}
use Rattle.whole_rewrites.specs.tools.HeadLines.{head_with}
use Rattle.whole_rewrites.proofs.ContentMade.{dechunk_no_line, dechunk_offered}
use Rattle.whole_rewrites.proofs.content.dechunked.Goals as goal

pub returns-in_default : goal.returns-in_default
returns-in_default c = dechunk_no_line (context_of c.args.context.now) c.in_default.ensures

pub returns : goal.returns
returns c =
    let context = context_of c.args.context.now in
    let framing : context.message.framing ≡ Chunked = search rules in
    let none : length (trailers_in context.message.body) ≤ 0 = omega (arith, c.line_count.ensures, c.if-line_count-gt0.false) in
    let head =
    c.in_ok-append_head_of_length.ensures
    ∙ (λ i. c.in_ok-text.ensures.ok i ++ head_with (c.header_of-lines.ensures i) c.in-Some.index (length_line (c.content_len.ensures i))) in
    let text = c.in_ok-append_content.ensures ∙ ap (λ t. t ++ message_content context.message) head in
    dechunk_offered context c.append_content.new.text c.requires.whole c.in-Some.index framing none c.in-Some.ensures text
