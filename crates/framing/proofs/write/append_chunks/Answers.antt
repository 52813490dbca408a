use Rattle.std.proofs.Common.{rules, ◌≡◌, ◌++◌, List, ℕ, length, ap, ◌∙◌}
use Rattle.std.specs.Slice.Iter.{iter_rest}
use Rattle.framing.specs.Chunks.{chunks_text}
use Rattle.framing.specs.Sizes.{sized_chunks}
use Rattle.framing.specs.tools.Written.{adds_up}
use Rattle.framing.proofs.SizeLaws.{adds_up_is}
use Rattle.framing.proofs.write.append_chunks.Goals as goal

pub loop-size-init : goal.loop-size-init
loop-size-init c =
    let rest : iter_rest c.into_iter-size-iterator.result ≡ c.args.sizes.now = search rules in (
      tt,
      tt,
      ap (adds_up (length c.args.content.now)) rest ∙ (adds_up_is (length c.args.content.now) c.args.sizes.now ∙ c.requires),
      ap (λ (sizes : List ℕ). c.args.text.now ++ chunks_text (sized_chunks sizes c.args.content.now)) rest,
    )
