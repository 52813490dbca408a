use Rattle.std.proofs.Common.{◌&&◌, sym, ap, ◌∙◌}
use Rattle.framing.specs.Sizes.{add_up_to}
use Rattle.framing.proofs.SizeLaws.{adds_up_is}
use Rattle.framing.proofs.write.are_chunk_sizes.Goals as goal

pub returns-then-are_some : goal.returns-then-are_some
returns-then-are_some c =
    c.add_up.ensures
    ∙ (adds_up_is c.args.count c.args.sizes.now ∙ ap (λ b. b && add_up_to c.args.count c.args.sizes.now) (sym c.if-are_some.true ∙ c.are_some.ensures))
