use Rattle.std.proofs.Common.{ap, List, ℕ, ◌∙◌}
use Rattle.content_digest.specs.Algorithms.{algorithm_of}
use Rattle.negotiation.proofs.Preferring.{passed, preferred, taken}
use Rattle.negotiation.proofs.preference.most_preferred.Goals as goal
use Rattle.negotiation.proofs.preference.most_preferred.Goals.{then-preference-greatest, else-preference-greatest}

pub loop-member-preserved : goal.loop-member-preserved
loop-member-preserved c =
    let members = c.args.members.now in
    let loop = c.loop-member in
    let member = c.member-item.result in
    elim c.if-preference-greatest.branch [
      | then-preference-greatest w ↦
          taken members loop.member-index loop.greatest loop.algorithm member c.loop-member-test.true c.member-item.is loop.invariant
          c.preference_of-preference.result c.preference_of-preference.ensures c.if-preference-greatest.greatest c.if-preference-greatest.algorithm w.if-preference-greatest.true w.greatest-is
          (w.algorithm-is ∙ (w.of_key-algorithm.ensures ∙ ap (λ (k : List ℕ). algorithm_of k) w.bytes.ensures))
      | else-preference-greatest w ↦
          passed members loop.member-index loop.greatest loop.algorithm member c.loop-member-test.true c.member-item.is loop.invariant
          c.preference_of-preference.result c.preference_of-preference.ensures c.if-preference-greatest.greatest c.if-preference-greatest.algorithm w.if-preference-greatest.false w.greatest-is w.algorithm-is
    ]

pub returns : goal.returns
returns c = preferred c.args.members.now c.loop-member.member-index c.loop-member.greatest c.loop-member.algorithm c.loop-member-test.false c.loop-member.invariant
