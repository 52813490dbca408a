use Rattle.std.proofs.Common.{sym, ◌∙◌}
use Rattle.samples.proofs.MadeChains.{last_none, last_some}
use Rattle.samples.proofs.chain.last_of.Goals as goal

pub returns-in-Some : goal.returns-in-Some
returns-in-Some c = λ seed count is.
    c.bytes.ensures ∙ last_some is.own.signed is.are.hops c.args.hops.now c.in-Some.hop.now is.are.texts (sym c.in-Some.ensures.value)

pub returns-in-None : goal.returns-in-None
returns-in-None c = λ seed count is.
    c.bytes-in-None.ensures ∙ last_none is.own.signed c.args.first.now is.are.hops c.args.hops.now is.own.spells is.are.texts (sym c.in-None.ensures.value)
