use Rattle.std.proofs.Common.{refl, sym, ap, ◌∙◌}
use Rattle.gateway.specs.tools.HeldStreams.{HeldStream, related_held}
use Rattle.gateway.proofs.stream.Stream.finish.Goals as goal

pub returns-in-Some : goal.returns-in-Some
returns-in-Some c =
    (record { offset = c.in-Some.request.offset; text = c.in-Some.request.text }, sym (ap (λ (h : HeldStream). h.related) c.self.view_is) ∙ ap related_held c.in-Some.is, refl)
