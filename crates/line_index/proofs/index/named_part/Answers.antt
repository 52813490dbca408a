use Rattle.std.proofs.Common.{◌∙◌, arith, sym, ap}
use Rattle.std.proofs.lemmas.List.{take_all, get_or_default}
use Rattle.line_index.specs.tools.Index.{is_named}
use Rattle.line_index.proofs.NamedPart.{part_is}
use Rattle.line_index.proofs.index.named_part.Goals as goal

pub returns-then-not-is_named : goal.returns-then-not-is_named
returns-then-not-is_named c =
    let bytes = c.args.bytes.now in
    let spans = c.args.spans.now in
    let name = c.args.name.now in
    let index = c.args.index.now in
    let rest = c.rest_from_name-rest.result.now in
    let count = c.loop-count.count in
    c.split_at.ensures.front
    ∙ part_is bytes spans name index rest count (λ k. omega (arith, c.type_inv.bytes k)) c.rest_from_name-rest.ensures c.loop-count.auto.count-end c.loop-count.invariant
    (λ d less. ap (is_named bytes spans name) (get_or_default rest count d _ less) ∙ sym c.is_named.ensures ∙ c.if-not-is_named.true)

pub returns : goal.returns
returns c =
    let bytes = c.args.bytes.now in
    let spans = c.args.spans.now in
    let name = c.args.name.now in
    let index = c.args.index.now in
    let rest = c.rest_from_name-rest.result.now in
    sym (take_all c.loop-count.count rest c.loop-count-test.false)
    ∙ part_is bytes spans name index rest c.loop-count.count (λ k. omega (arith, c.type_inv.bytes k)) c.rest_from_name-rest.ensures c.loop-count.auto.count-end c.loop-count.invariant
    (λ d less. absurd (omega (arith, less, c.loop-count-test.false)))
