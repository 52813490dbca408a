use Rattle.std.proofs.Common.{sym, ◌∙◌}
use Rattle.msg_head.proofs.Prefixes.{at_end_of_prefix}
use Rattle.msg_head.proofs.slices.prefix_before.Goals as goal

pub returns-else-first-end-clause-none : goal.returns-else-first-end-clause-none
returns-else-first-end-clause-none g c = λ prefix more s.
    let here = at_end_of_prefix (g.C.ByteClass.members c.args.class) c.args.end c.split_class.result.0.now prefix c.split_class.result.1.now more c.requires c.split_class.ensures.all s.each c.split_class.ensures.ends (sym c.split_class.ensures.joined ∙ s.joined) in
    let parts = c.in_ok-first.ensures.cases.0 in
    c.if-first-end.false (cc (here, parts))
