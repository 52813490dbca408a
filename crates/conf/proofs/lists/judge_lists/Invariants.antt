use Rattle.std.proofs.Common.{drop}
use Rattle.toml.specs.View.{array_view, items_view}
use Rattle.conf_values.specs.Parts.{tables_of}
use Rattle.conf.specs.tools.SectionReads.{AreGoodLists}
use Rattle.conf.proofs.lists.judge_lists.Given as goal

abbrev pub invariant-loop-value : goal.invariant-loop-value
invariant-loop-value l =
    AreGoodLists l.name (tables_of (items_view (drop l.value-index l.value-items))) → AreGoodLists l.name (tables_of (array_view l.array))
