use Rattle.std.proofs.Common.{List, ℕ, false, ap, subst, sym, ◌∙◌, arith}
use Rattle.msg_body.specs.Messages.{Spells}
use Rattle.rewrite_script.specs.Scripts.{script_text}
use Rattle.rewrite_script.specs.declared.rewrite.Rewrite.{Rewrite}
use Rattle.rewrites.specs.Steps.{Step, Steps}
use Rattle.samples.specs.Chains.{sample_context}
use Rattle.samples.proofs.DrawnSteps.{goes_through}
use Rattle.samples.proofs.FirstReady.{first_ready}
use Rattle.samples.proofs.HopSteps.{steps_writable}
use Rattle.samples.proofs.MadeHops.{none_made, more_made, all_made}
use Rattle.samples.proofs.chain.hops_from.Goals as goal

pub loop-init : goal.loop-init
loop-init c = λ own.
    rw c.new-hops.ensures (none_made own.signed c.args.seed c.in_ok-text.text (subst (λ (t : List ℕ). Spells false own.signed t) (sym c.in_ok-text.ensures.ok) own.spells)
    (first_ready c.args.seed own.unsigned own.signed own.unsigned_is own.signed_is))

pub taken-requires-clause-writable : goal.taken-requires-clause-writable
taken-requires-clause-writable c =
    steps_writable c.loop.draws.state c.in_ok-steps.steps c.as_slice-in-loop.result.now c.as_slice-in-loop.ensures c.in_ok-steps.ensures.0

pub taken-requires-clause-lead : goal.taken-requires-clause-lead
taken-requires-clause-lead c =
    let far = c.loop.invariant c.requires.signed in
    let on = goes_through c.loop.draws.state far.met far.ready in (
      far.met,
      on.after,
      far.spells,
      subst (λ (list : List Rewrite). Steps Step (sample_context far.met) list on.after) (sym (c.as_slice-in-loop.ensures ∙ c.in_ok-steps.ensures.0)) on.lead,
    )

pub loop-preserved : goal.loop-preserved
loop-preserved c = λ own.
    more_made own.signed c.args.seed c.loop.counter c.loop.hops c.loop.draws.state c.loop.text (c.loop.invariant own)
    (record { script = c.in_ok-script.script; message = c.in_ok-message.message }) c.push.new.self c.as_slice-in-loop.result.now c.hop_script.new.draws.state c.in_ok-text-2.text
    c.in_ok-push.ensures.ok (c.as_slice-in-loop.ensures ∙ c.in_ok-steps.ensures.0) c.in_ok-steps.ensures.1
    (c.in_ok-script.ensures.text ∙ ap script_text (c.as_slice.ensures ∙ sym c.as_slice-in-loop.ensures)) c.in_ok-message.ensures.ok c.in_ok-text-2.ensures

pub returns : goal.returns
returns c = λ own.
    all_made own.signed c.args.seed c.loop.counter c.loop.hops c.loop.draws.state c.loop.text (c.loop.invariant own) c.args.count (omega arith)
