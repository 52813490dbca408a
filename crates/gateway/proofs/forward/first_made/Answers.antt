use Rattle.std.proofs.Common.{ℕ, ◌+◌, List, [], ◌∷◌, ◌++◌, take, drop, sym, ap, subst, ◌∙◌, arith}
use Rattle.std.specs.List.{All}
use Rattle.std.proofs.lemmas.List.{length-take-le, take_all, take_more}
use Rattle.std.proofs.lemmas.List.Elements.{All-push}
use Rattle.component_values.specs.Context.{context_of}
use Rattle.rewrite_script.specs.declared.rewrite.Rewrite.{Rewrite}
use Rattle.gateway.specs.tools.Walked.{IsLeftOut}
use Rattle.gateway.proofs.Forwarding.{parts_at}
use Rattle.gateway.proofs.forward.first_made.Goals as goal

pub returns-in-Some : goal.returns-in-Some
returns-in-Some c =
    let steps = c.args.steps.now in
    let index = c.loop-index.index in
    let step = c.index-steps-index.result in
    record {
      before = take index steps;
      step = step;
      rest = drop (index + 1) steps;
      parts = parts_at steps index step c.loop-index-test.true c.index-steps-index.is;
      count = ap (λ (n : ℕ). n + 1) (sym (length-take-le index steps (omega (arith, c.loop-index-test.true))));
      out = c.loop-index.invariant;
      is = rw c.in-Some.is at c.in_ok-text.ensures;
    }

pub loop-index-preserved : goal.loop-index-preserved
loop-index-preserved c =
    let steps = c.args.steps.now in
    let index = c.loop-index.index in
    let step = c.index-steps-index.result in
    let P : Rewrite → Type 0 = IsLeftOut c.args.accepted.now (context_of c.args.context.now) in
    let more = take_more steps index step c.loop-index-test.true ∙ ap (λ (s : Rewrite). take index steps ++ s ∷ []) (sym c.index-steps-index.is) in
    subst (λ (ss : List Rewrite). All P ss) (sym more) (All-push P (take index steps) step c.loop-index.invariant (rw c.in_default.is at c.in_ok-text.ensures))

pub returns : goal.returns
returns c =
    subst (λ (ss : List Rewrite). All (IsLeftOut c.args.accepted.now (context_of c.args.context.now)) ss) (take_all c.loop-index.index c.args.steps.now c.loop-index-test.false) c.loop-index.invariant
