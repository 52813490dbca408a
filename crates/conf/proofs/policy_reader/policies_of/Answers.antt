use Rattle.std.proofs.Common.{◌≡◌, ◌∙◌, List, [], ◌∷◌, Some, None, ap, codes, sym, subst}
use Rattle.std.specs.Prelude.{option_and_then}
use Rattle.std.specs.List.{AllZip}
use Rattle.std.proofs.lemmas.Result.{IfOk-weaker}
use Rattle.toml.specs.Data.{Members, no_members, as_array, get_member}
use Rattle.toml.specs.View.{table_view}
use Rattle.conf_values.specs.declared.table.Version.{Version}
use Rattle.conf_values.specs.declared.table.Version.TheVariants.{Two}
use Rattle.conf.specs.Table.{version_in}
use Rattle.conf.specs.tools.PolicyReads.{AreReadPolicies, IsReadPolicy}
use Rattle.conf.proofs.RowFacts.{policies_typed}
use Rattle.conf.proofs.TableLaws.{no_policies, read_as}
use Rattle.conf.proofs.policy_reader.policies_of.Goals as goal

pub returns-in-None : goal.returns-in-None
returns-in-None c =
    let document = table_view c.args.tables.document.now in
    let value = get_member (codes "policies") document in
    let known : c.in-Some-Two.field-0 ≡ Two = rw c.in-Some-Two.is at c.in-Some-Two.field-0-is in
    let version : Some Two ≡ version_in document = sym (c.in-Some-Two.is ∙ ap (λ (v : Version). Some v) known) ∙ c.requires.tables.version in
    let none : None ≡ option_and_then as_array value = rw c.in-None.is at c.requires.tables.policies in
    let tables = no_policies value (policies_typed document c.requires.judged) none in
    IfOk-weaker c.one_policy.result (AllZip (IsReadPolicy Two) (no_members ∷ [])) (AreReadPolicies document)
    (λ policies read. read_as document (Some Two) policies version (subst (λ (given : List Members). AllZip (IsReadPolicy Two) given policies) (sym tables) read))
    c.one_policy.ensures
