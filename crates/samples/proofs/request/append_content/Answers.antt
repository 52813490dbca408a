use Rattle.std.proofs.Common.{◌++◌, ◌∙◌, List, ℕ, ap}
use Rattle.samples.proofs.Parts.{content_all, content_more}
use Rattle.samples.proofs.request.append_content.Goals as goal

pub loop-j-preserved : goal.loop-j-preserved
loop-j-preserved c =
    content_more c.args.seed c.loop-j.j c.args.text.now c.loop-j.text c.push.new.self c.loop-j.invariant c.in_ok-push.ensures.ok

pub returns : goal.returns
returns c =
    c.loop-j.invariant
    ∙ ap (λ (t : List ℕ). c.args.text.now ++ t) (content_all c.args.seed c.loop-j.j c.loop-j-test.false c.loop-j.auto.j-end)
