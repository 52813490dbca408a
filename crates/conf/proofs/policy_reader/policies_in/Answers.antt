use Rattle.std.proofs.Common.{◌≡◌, ◌+◌, ◌++◌, List, [], ◌∷◌, Some, codes, get_or, take, sym, subst, arith}
use Rattle.std.proofs.lemmas.Grind.{common_steps}
use Rattle.std.specs.List.{AllZip}
use Rattle.toml.specs.Data.{Members, get_member}
use Rattle.toml.specs.View.{items_view, view}
use Rattle.toml.specs.declared.value.Value.{Value}
use Rattle.conf_values.specs.declared.table.Version.TheVariants.{Two}
use Rattle.conf_values.specs.Parts.{members_in, tables_of}
use Rattle.conf_values.specs.Views.{table_members}
use Rattle.settings.specs.declared.policy.Policy.{Policy}
use Rattle.conf.specs.tools.PolicyReads.{IsReadPolicy}
use Rattle.conf.specs.tools.SectionReads.{AreGoodLists, IsGoodList}
use Rattle.conf.proofs.TableLaws.{all_read, good_at, members_of_table, more_read}
use Rattle.conf.proofs.policy_reader.policies_in.Goals as goal

pub policy_of-requires : goal.policy_of-requires
policy_of-requires c =
    let values = c.deref-value-items.result.now in
    let i = c.loop-value.value-index in
    let value = c.value-item.result in
    let at : get_or values i value ≡ value = grind (arith, common_steps) in
    let own : members_in (Some (view value)) ≡ table_members c.as_table.result = sym (members_of_table c.as_table.result (view value) c.as_table.ensures) in
    let same = sym c.deref-value-items.ensures.value in
    let requests = subst (λ (given : List Value). AreGoodLists (codes "require-request") (tables_of (items_view given))) same c.requires.request in
    let responses = subst (λ (given : List Value). AreGoodLists (codes "require-response") (tables_of (items_view given))) same c.requires.response in
    record {
      request = subst (λ (pairs : Members). IsGoodList (get_member (codes "require-request") pairs)) own (good_at (codes "require-request") values i value c.loop-value-test.true at requests);
      response = subst (λ (pairs : Members). IsGoodList (get_member (codes "require-response") pairs)) own (good_at (codes "require-response") values i value c.loop-value-test.true at responses);
    }

pub loop-value-preserved : goal.loop-value-preserved
loop-value-preserved c =
    let values = c.deref-value-items.result.now in
    let i = c.loop-value.value-index in
    let value = c.value-item.result in
    let policy = c.in_ok-policy_of.field-0 in
    let at : get_or values i value ≡ value = grind (arith, common_steps) in
    let pairs = members_of_table c.as_table.result (view value) c.as_table.ensures in
    let read = subst (λ (pairs : Members). IsReadPolicy Two pairs policy) pairs c.in_ok-policy_of.ensures in
    let more = more_read values i value c.loop-value.policies policy c.loop-value-test.true at c.loop-value.invariant read in
    let new : c.push.new.self ≡ c.loop-value.policies ++ policy ∷ [] = c.in_ok-push.ensures.ok in
    subst (λ (policies : List Policy). AllZip (IsReadPolicy Two) (tables_of (items_view (take (i + 1) values))) policies) (sym new) more

pub returns : goal.returns
returns c =
    let values = c.deref-value-items.result.now in
    let read = all_read values c.loop-value.value-index c.loop-value.policies c.loop-value-test.false c.loop-value.invariant in
    subst (λ (given : List Value). AllZip (IsReadPolicy Two) (tables_of (items_view given)) c.loop-value.policies) c.deref-value-items.ensures.value read
