use Rattle.std.proofs.Common.{◌≡◌, Some, drop, map}
use Rattle.std.specs.Prelude.{option_copied}
use Rattle.std.specs.List.{list_any}
use Rattle.toml.specs.View.{view}
use Rattle.conf_values.specs.Parts.{members_in}
use Rattle.conf_values.specs.Values.{is_same_tag, tag_in}
use Rattle.conf_values.proofs.tags.has_tag.Given as goal

abbrev pub invariant-loop-table : goal.invariant-loop-table
invariant-loop-table l =
    list_any (λ other. is_same_tag (option_copied l.tag) (tag_in other)) (map (λ value. members_in (Some (view value))) l.tables)
    ≡ list_any (λ other. is_same_tag (option_copied l.tag) (tag_in other)) (map (λ value. members_in (Some (view value))) (drop l.table-index l.tables))
