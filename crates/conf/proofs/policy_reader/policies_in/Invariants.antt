use Rattle.std.proofs.Common.{take}
use Rattle.std.specs.List.{AllZip}
use Rattle.toml.specs.View.{items_view}
use Rattle.conf_values.specs.declared.table.Version.TheVariants.{Two}
use Rattle.conf_values.specs.Parts.{tables_of}
use Rattle.conf.specs.tools.PolicyReads.{IsReadPolicy}
use Rattle.conf.proofs.policy_reader.policies_in.Given as goal

abbrev pub invariant-loop-value : goal.invariant-loop-value
invariant-loop-value l = AllZip (IsReadPolicy Two) (tables_of (items_view (take l.value-index l.value-items))) l.policies
