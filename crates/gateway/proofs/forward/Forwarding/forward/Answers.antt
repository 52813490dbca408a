use Rattle.std.proofs.Common.{List, sym, subst}
use Rattle.std.specs.Prelude.{IsTrue}
use Rattle.std.specs.List.{list_all}
use Rattle.component_values.specs.Context.{context_of}
use Rattle.rewrite_script.specs.Lines.{is_writable}
use Rattle.rewrite_script.specs.declared.rewrite.Rewrite.{Rewrite}
use Rattle.gateway.specs.tools.Walked.{GoesOn, IsOnTheWay}
use Rattle.gateway.proofs.Forwarding.{done, further, left_writable, made_signed}
use Rattle.gateway.proofs.forward.Forwarding.forward.Goals as goal

pub returns-in-Done : goal.returns-in-Done
returns-in-Done c = done c.args.self.now (context_of c.args.context.now) c.args.steps.now c.steps.given c.steps.left.now c.in-Done.outcome (rw c.in-Done.is at c.steps.invariant)

pub advance-requires-clause-writable : goal.advance-requires-clause-writable
advance-requires-clause-writable c =
    subst (λ (ss : List Rewrite). IsTrue (list_all is_writable ss)) (sym c.steps_after-left.ensures)
    (left_writable c.args.self.now (context_of c.args.context.now) c.args.steps.now c.steps.given c.steps.left.now c.in-Made.made (rw c.in-Made.is at c.steps.invariant))

pub advance-requires-clause-signature : goal.advance-requires-clause-signature
advance-requires-clause-signature c =
    made_signed c.args.self.now (context_of c.args.context.now) c.args.steps.now c.steps.given c.steps.left.now c.in-Made.made (rw c.in-Made.is at c.steps.invariant)

pub steps-preserved : goal.steps-preserved
steps-preserved c =
    let self = c.args.self.now in
    let context = context_of c.args.context.now in
    let way = rw c.in-Made.is at c.steps.invariant in
    let new = c.advance.new.given in
    let own = c.in_ok-met-2.met in
    let goes = subst (λ (ss : List Rewrite). GoesOn self context ss way.message c.in-Made.made.text new own) c.steps_after-left.ensures (c.in_ok-met-2.ensures way.message way.given_is) in
    subst (λ (ss : List Rewrite). IsOnTheWay self context c.args.steps.now new ss own) (sym c.steps_after-left.ensures)
    (further self context c.args.steps.now c.steps.given c.steps.left.now c.in-Made.made way new own goes)
