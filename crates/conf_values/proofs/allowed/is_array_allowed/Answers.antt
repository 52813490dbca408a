use Rattle.std.proofs.Common.{◌≡◌, ℕ, true, false, Some, map, nat_le, refl, sym, ap, ◌∙◌}
use Rattle.toml.specs.View.{array_view, view}
use Rattle.conf_values.specs.declared.table.ValueRule.{ValueRule}
use Rattle.conf_values.specs.Parts.{members_in}
use Rattle.conf_values.specs.Values.{have_distinct_tags, is_array_allowed}
use Rattle.conf_values.proofs.ArrayLaws.{count_of, policies_allowed}
use Rattle.conf_values.proofs.allowed.is_array_allowed.Goals as goal

pub returns-in-Steps : goal.returns-in-Steps
returns-in-Steps c =
    ap (λ (n : ℕ). nat_le n 256) (c.len.ensures ∙ c.args.array.now.ok.0 ∙ sym (count_of c.args.array.now.items))
    ∙ ap (λ (rule : ValueRule). is_array_allowed rule (array_view c.args.array.now)) (sym c.in-Steps.is)

pub returns-then-is_policy_count : goal.returns-then-is_policy_count
returns-then-is_policy_count c =
    let values = c.args.array.now.items in
    let distinct : c.have_distinct_tags.result ≡ have_distinct_tags (map (λ value. members_in (Some (view value))) values) =
    rw c.as_slice.ensures.value at c.have_distinct_tags.ensures in
    sym (policies_allowed values c.len-in-Policies.result true c.have_distinct_tags.result (c.len-in-Policies.ensures ∙ c.args.array.now.ok.0) c.if-is_policy_count.ensures distinct)
    ∙ ap (λ (rule : ValueRule). is_array_allowed rule (array_view c.args.array.now)) (sym c.in-Policies.is)

pub returns-else-is_policy_count : goal.returns-else-is_policy_count
returns-else-is_policy_count c =
    let values = c.args.array.now.items in
    c.if-is_policy_count.false
    ∙ sym (policies_allowed values c.len-in-Policies.result false (have_distinct_tags (map (λ value. members_in (Some (view value))) values))
    (c.len-in-Policies.ensures ∙ c.args.array.now.ok.0) c.if-is_policy_count.ensures refl)
    ∙ ap (λ (rule : ValueRule). is_array_allowed rule (array_view c.args.array.now)) (sym c.in-Policies.is)
