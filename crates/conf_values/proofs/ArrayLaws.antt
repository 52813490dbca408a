-- The values of an array of the code.
use Rattle.std.proofs.Common.{◌≡◌, ◌&&◌, ℕ, suc, Bool, List, [], ◌∷◌, Some, length, map, refl, sym, ap, ◌∙◌}
use Rattle.toml.specs.Data.{Members}
use Rattle.toml.specs.View.{items_view, view}
use Rattle.toml.specs.declared.value.Value.{Value}
use Rattle.conf_values.specs.declared.table.ValueRule.TheVariants.{Policies}
use Rattle.conf_values.specs.Parts.{members_in, tables_of, values_of}
use Rattle.conf_values.specs.Values.{have_distinct_tags, is_array_allowed, is_policy_count}

-- the values are as many as those of the code
pub count_of : (values : List Value) → length (values_of (items_view values)) ≡ length values
count_of [] = refl
count_of (value ∷ values) = ap suc (count_of values)

-- their tables are those of the code's values
pub tables_are : (values : List Value) → map (λ value. members_in (Some (view value))) values ≡ tables_of (items_view values)
tables_are [] = refl
tables_are (value ∷ values) = ap (λ (tables : List Members). members_in (Some (view value)) ∷ tables) (tables_are values)

-- an array of policies is allowed by the count of its tables and by their tags
pub policies_allowed : (values : List Value) (n : ℕ) (few distinct : Bool) → n ≡ length values → few ≡ is_policy_count n
    → distinct ≡ have_distinct_tags (map (λ value. members_in (Some (view value))) values) → is_array_allowed Policies (items_view values) ≡ (few && distinct)
policies_allowed values n few distinct long few_is distinct_is =
    let first : is_policy_count (length (values_of (items_view values))) ≡ few = ap (λ (count : ℕ). is_policy_count count) (count_of values ∙ sym long) ∙ sym few_is in
    let second : have_distinct_tags (tables_of (items_view values)) ≡ distinct = ap (λ (tables : List Members). have_distinct_tags tables) (sym (tables_are values)) ∙ sym distinct_is in
    λ i. first i && second i
