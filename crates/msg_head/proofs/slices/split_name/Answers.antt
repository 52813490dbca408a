use Rattle.std.proofs.Common.{sym, ◌∙◌, refl}
use Rattle.byte_grammar.specs.Classes.{is_tchar}
use Rattle.msg_head.proofs.Prefixes.{at_end_of_prefix}
use Rattle.msg_head.proofs.slices.split_name.Goals as goal

pub returns-else-first-eq58-clause-none : goal.returns-else-first-eq58-clause-none
returns-else-first-eq58-clause-none c = λ prefix more s.
    let here = at_end_of_prefix is_tchar 58 c.split_tchars.result.0.now prefix c.split_tchars.result.1.now more refl c.split_tchars.ensures.all s.each c.split_tchars.ensures.ends (sym c.split_tchars.ensures.joined ∙ s.joined) in
    let parts = c.in_ok-first.ensures.cases.0 in
    c.if-first-eq58.false (cc (here, parts))
