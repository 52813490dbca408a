use Rattle.std.proofs.Common.{◌∙◌, ap, sym}
use Rattle.msg_head.specs.Views.{field_line_of}
use Rattle.framing.specs.Framings.{is_request}
use Rattle.component_values.specs.Context.{context_of}
use Rattle.whole_rewrites.proofs.FieldTexts.{host_offered, many_hosts}
use Rattle.whole_rewrites.proofs.field.with_host.Goals as goal

pub returns-then-is_between : goal.returns-then-is_between
returns-then-is_between c = λ made makes message.
    many_hosts (context_of c.args.context.now) c.args.text.now c.header_of-lines.result c.in-Some.host.index c.count.result (field_line_of c.in-Some.host.line) c.is_between.result c.header_of-lines.ensures
    c.in-Some.ensures.first c.count.ensures c.is_between.ensures c.if-is_between.true made makes

pub returns : goal.returns
returns c =
    host_offered (context_of c.args.context.now) c.args.text.now c.header_of-lines.result c.in-Some.host.index c.count.result (field_line_of c.in-Some.host.line) c.is_between.result c.header_of-lines.ensures
    c.in-Some.ensures.first c.count.ensures c.is_between.ensures c.if-is_between.false c.requires.writable c.requires.whole (sym (c.is_request.ensures ∙ ap is_request c.start.ensures) ∙ c.if-not-is_request.false) _ _ c.in_ok-rewritten.ensures.ok
    c.in_ok-append_with_text.ensures
