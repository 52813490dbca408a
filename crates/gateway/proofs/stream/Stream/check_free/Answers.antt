use Rattle.std.proofs.Common.{refl, sym, ap, ◌∙◌}
use Rattle.gateway.specs.tools.HeldStreams.{HeldStream, related_held}
use Rattle.gateway.proofs.stream.Stream.check_free.Goals as goal

pub returns-in-Some : goal.returns-in-Some
returns-in-Some c =
    (refl, record { offset = c.in-Some.field-0.offset; text = c.in-Some.field-0.text }, sym (ap (λ (h : HeldStream). h.related) c.self.view_is) ∙ ap related_held c.in-Some.is)
