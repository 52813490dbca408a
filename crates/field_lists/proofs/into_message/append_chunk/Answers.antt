use Rattle.std.proofs.Common.{◌≡◌, ℕ, true, List, length, subst, sym}
use Rattle.framing.specs.Sizes.{add_up_to}
use Rattle.field_lists.proofs.Written.{adds_up, chunk_written, on_ok}
use Rattle.field_lists.proofs.into_message.append_chunk.Goals as goal

pub append_chunks-requires : goal.append_chunks-requires
append_chunks-requires c =
    let content = c.args.content.now in
    subst (λ (ss : List ℕ). add_up_to (length content) ss ≡ true) (sym c.in_ok-sizes.ensures) (adds_up content)

pub returns : goal.returns
returns c = on_ok c.append_chunks.result (chunk_written c.args.text.now c.append_chunks.new.text c.args.content.now c.in_ok-sizes.sizes c.in_ok-sizes.ensures) c.append_chunks.ensures
