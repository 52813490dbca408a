use Rattle.std.proofs.Common.{◌≡◌, ◌++◌, List, ℕ, OnOk, length, subst, ◌∙◌, ap}
use Rattle.framing.specs.Chunks.{chunks_text}
use Rattle.framing.specs.Sizes.{add_up_to, sized_chunks}
use Rattle.msg_body.specs.Views.{message_content, message_of}
use Rattle.whole_rewrites.proofs.content.append_in_chunks.Goals as goal

pub append_chunks-requires : goal.append_chunks-requires
append_chunks-requires c =
    let own = message_content (message_of c.args.message.now) in
    let content : c.bytes.result.now ≡ own = c.bytes.ensures ∙ (c.in_ok-append_content.ensures ∙ ap (λ (t : List ℕ). t ++ own) c.in_ok-content.ensures.ok) in
    ap (λ (t : List ℕ). add_up_to (length t) c.args.sizes.now) content ∙ c.requires

pub returns : goal.returns
returns c =
    let own = message_content (message_of c.args.message.now) in
    let content : c.bytes.result.now ≡ own = c.bytes.ensures ∙ (c.in_ok-append_content.ensures ∙ ap (λ (t : List ℕ). t ++ own) c.in_ok-content.ensures.ok) in
    subst (λ (t : List ℕ). OnOk c.append_chunks.result (c.append_chunks.new.text ≡ c.args.text.now ++ chunks_text (sized_chunks c.args.sizes.now t))) content c.append_chunks.ensures
