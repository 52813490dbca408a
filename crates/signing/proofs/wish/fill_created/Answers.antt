use Rattle.std.proofs.Common.{◌≡◌, List, OnOk, subst}
use Rattle.sfv_text.specs.declared.pair.Pair.{Pair}
use Rattle.sfv_text.specs.declared.value.BareItem.{BareItem}
use Rattle.signing.proofs.Filling.{created_put}
use Rattle.signing.proofs.wish.fill_created.Goals as goal

pub returns : goal.returns
returns c =
    subst (λ (ps : List (Pair BareItem)). OnOk c.put.result (c.put.new.self ≡ ps)) (rw (c.in_ok-from_bytes.ensures.ok, c.moment_item.ensures) (created_put c.args.now c.args.params.now)) c.put.ensures.ok
