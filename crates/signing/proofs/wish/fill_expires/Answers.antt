use Rattle.std.proofs.Common.{◌≡◌, List, OnOk, sym, subst, ◌∙◌}
use Rattle.sfv_text.specs.declared.pair.Pair.{Pair}
use Rattle.sfv_text.specs.declared.value.BareItem.{BareItem}
use Rattle.signing.proofs.Filling.{expires_put, expires_missing, expires_unset}
use Rattle.signing.proofs.wish.fill_expires.Goals as goal

pub returns-in_default : goal.returns-in_default
returns-in_default c = rw c.in_default.is (expires_unset c.args.now c.args.params.now)

pub returns-then-not-has_param : goal.returns-then-not-has_param
returns-then-not-has_param c = rw c.in-Some.is (expires_missing c.args.now c.in-Some.after c.args.params.now (sym c.has_param.ensures ∙ c.if-not-has_param.true))

pub returns : goal.returns
returns c =
    subst (λ (ps : List (Pair BareItem)). OnOk c.put.result (c.put.new.self ≡ ps))
    (rw (c.in_ok-from_bytes.ensures.ok, c.moment_item-moment.ensures, c.expires_at.ensures.is, c.in-Some.is) (expires_put c.args.now c.in-Some.after c.args.params.now (sym c.has_param.ensures ∙ c.if-not-has_param.false))) c.put.ensures.ok
