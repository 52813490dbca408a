use Rattle.std.proofs.Common.{ap, ◌∙◌, List}
use Rattle.std.proofs.lemmas.Result.{err_from_is_err_and}
use Rattle.byte_grammar.specs.tools.Walks.{turns_read, with_prefix}
use Rattle.byte_grammar.proofs.Loops.{loop_last, loop_err, loop_more, some_next}
use Rattle.sfv_text.specs.declared.value.Item.{Item}
use Rattle.sfv_read.specs.tools.InnerWalk.{next_item_read}
use Rattle.sfv_read.proofs.InnerLists.{inner_step, inner_shorter}
use Rattle.sfv_read.proofs.Stopping.{stops_more}
use Rattle.sfv_read.proofs.inner.read_more.Goals as goal

pub returns-in_err-next : goal.returns-in_err-next
returns-in_err-next c =
    let p = err_from_is_err_and c.from_residual.result c.from_residual.ensures.1 in
    rw (p.1, p.2) (stops_more _ _ _ (loop_err next_item_read inner_step c.items.items c.items.rest.now _ c.items.invariant) c.in_err-next.ensures)

pub returns-in-None : goal.returns-in-None
returns-in-None c = loop_last next_item_read inner_step c.items.items c.items.rest.now _ c.items.invariant _ (some_next _ _ _ _ c.in_ok-next.ensures c.in-None.is)

pub items-smaller : goal.items-smaller
items-smaller c = inner_shorter c.items.rest.now c.in-Some.item c.in_ok-next.after.now (some_next _ _ _ _ c.in_ok-next.ensures c.in-Some.is)

pub items-preserved : goal.items-preserved
items-preserved c =
    ap (λ (items : List Item). with_prefix items (turns_read next_item_read c.in_ok-next.after.now)) c.in_ok-push-in-Some.ensures.ok
    ∙ loop_more next_item_read inner_step c.items.items c.items.rest.now _ c.items.invariant c.in-Some.item c.in_ok-next.after.now (some_next _ _ _ _ c.in_ok-next.ensures c.in-Some.is)
