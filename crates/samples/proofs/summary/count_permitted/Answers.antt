use Rattle.std.proofs.Common.{◌∙◌, rules, tests}
use Rattle.std.proofs.lemmas.Iterator.{YieldsList-from_slice}
use Rattle.std.proofs.lemmas.Iterator.Consumers.{YieldsList-from_filter, count_from_yields_List}
use Rattle.std.proofs.lemmas.List.Sums.{length-filter}
use Rattle.samples.specs.Summary.{is_permitted_line}
use Rattle.samples.proofs.summary.count_permitted.Goals as goal

pub returns : goal.returns
returns c =
    count_from_yields_List c.filter.result c.count.result c.count.ensures.ran
    (YieldsList-from_filter _ is_permitted_line (YieldsList-from_slice c.args.lines.now (cc)) c.filter.ensures.closure (λ x b q k. search (rules, tests)))
    ∙ length-filter is_permitted_line c.args.lines.now
