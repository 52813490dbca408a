use Rattle.std.proofs.Common.{ℕ, List, ◌++◌, ◌∙◌, ap}
use Rattle.msg_head.specs.Lines.{line_text}
use Rattle.msg_head.specs.Views.{field_line_of}
use Rattle.line_rewrites.specs.LineLists.{line_of}
use Rattle.msg_body.specs.Views.{message_of}
use Rattle.component_values.specs.Context.{context_of}
use Rattle.whole_rewrites.proofs.FieldTexts.{no_line_there, no_strict_line, strict_offered}
use Rattle.whole_rewrites.proofs.field.in_strict_form.Goals as goal

pub returns-in_default : goal.returns-in_default
returns-in_default c = λ made makes message. no_strict_line (context_of c.args.context.now) c.args.side c.args.name.now c.in_default.ensures.first made makes

pub unreachable-requires : goal.unreachable-requires
unreachable-requires c = no_line_there c.args.side (message_of c.args.context.now.message.now) c.in-Some.first.index c.in_default-of.ensures c.in-Some.ensures.there

pub returns : goal.returns
returns c =
    strict_offered (context_of c.args.context.now) c.args.side c.args.name.now c.in-Ok.strict c.in-Some-of.lines c.in-Some.first.index c.count.result (field_line_of c.in-Some.first.line) c.in-Some-of.ensures.0
    c.in-Some-of.ensures.1 c.in-Some.ensures.first c.count.ensures c.in-Ok.ensures c.requires.whole _ _ _ _ _ _ _ c.in_ok-rewritten.ensures.ok c.before-2.ensures c.rest_from.ensures c.in_ok-append.ensures.ok
    (c.in_ok-append_text_line.ensures ∙ ap (λ (t : List ℕ). c.append.new.self ++ line_text (line_of c.in-Some.first.line.name.now t)) c.bytes-3.ensures) c.in_ok-append_others.ensures
    c.in_ok-append-2.ensures.ok
