use Rattle.std.proofs.Common.{◌≡◌, List, OnOk, sym, subst, ◌∙◌}
use Rattle.sfv_text.specs.declared.pair.Pair.{Pair}
use Rattle.sfv_text.specs.declared.value.BareItem.{BareItem}
use Rattle.sfv_text.specs.declared.value.BareItem.TheVariants.{Str}
use Rattle.signing.proofs.Filling.{keyid_put}
use Rattle.signing.proofs.wish.add_keyid.Goals as goal

pub returns : goal.returns
returns c =
    subst (λ (ps : List (Pair BareItem)). OnOk c.put.result (c.put.new.self ≡ ps))
    (rw (c.in_ok-from_bytes.ensures.ok, c.in_ok-copy.ensures.ok) (keyid_put c.args.params.now (Str c.args.keyid.now) (sym c.has_param.ensures ∙ c.if-has_param.false))) c.put.ensures.ok
