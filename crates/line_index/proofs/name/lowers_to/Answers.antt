use Rattle.std.proofs.Common.{rules, tests, ap, ◌∙◌}
use Rattle.std.proofs.lemmas.Iterator.Search.{all_from_yields_List}
use Rattle.std.proofs.lemmas.Iterator.{YieldsList-from_slice, YieldsList-from_zip}
use Rattle.std.specs.Slice.Iter.{iter_rest}
use Rattle.line_index.proofs.Lowered.{is_pair_lowered, all_lowered}
use Rattle.line_index.proofs.name.lowers_to.Goals as goal

pub returns-then-text-name : goal.returns-then-text-name
returns-then-text-name c =
    all_from_yields_List is_pair_lowered c.all.new.self _ _ c.all.ensures.ran
    (YieldsList-from_zip (YieldsList-from_slice c.args.text.now (ap iter_rest c.zip.ensures.first ∙ c.iter.ensures.rest)) (YieldsList-from_slice c.args.name.now c.zip.ensures.second.0)) (λ x b q called. search (rules, tests))
    ∙ all_lowered c.args.text.now c.args.name.now c.if-text-name.true
