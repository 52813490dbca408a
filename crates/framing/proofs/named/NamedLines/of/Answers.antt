use Rattle.std.proofs.Common.{◌∷◌, ap, ◌∙◌, map}
use Rattle.msg_head.specs.Lines.{FieldLine}
use Rattle.msg_head.specs.Views.{field_line_of}
use Rattle.msg_head.specs.Values.{value}
use Rattle.framing.proofs.named.NamedLines.of.Goals as goal

pub returns-in-Some-next : goal.returns-in-Some-next
returns-in-Some-next c = (
  value c.in-Some.line.raw.now,
  value c.in-Some-next.field-0.raw.now,
  map (λ (line : FieldLine). value line.raw) c.next-2.new.self,
  ap (map (λ (line : FieldLine). value line.raw)) (c.in-Some.ensures.steps ∙ ap (λ lines. field_line_of c.in-Some.line ∷ lines) c.in-Some-next.ensures.steps),
)
