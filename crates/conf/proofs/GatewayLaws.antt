-- What the table `gateway` says, once it is judged and read.
use Rattle.std.proofs.Common.{◌≡◌, ◌≤◌, ℕ, true, false, List, length, Option, Some, None, MatchOption, IsTrue, codes, refl, sym, ◌∙◌, inl, inr, arith}
use Rattle.std.specs.Prelude.{option_and_then}
use Rattle.std.specs.Option.{ForSome}
use Rattle.std.specs.List.{list_all}
use Rattle.std.proofs.lemmas.Bool.{false≢true}
use Rattle.std.proofs.lemmas.Bool.Decides.{nat_tests}
use Rattle.std.proofs.lemmas.Slice.Zip.{AllZip-long}
use Rattle.sfv_text.specs.Range.{is_key}
use Rattle.rewrite_script.specs.Lines.{is_writable}
use Rattle.rewrite_script.specs.Scripts.{HaveValues}
use Rattle.rewrite_script.specs.declared.limits.TheConstants.{MAX_SCRIPT_LINES}
use Rattle.rewrite_script.specs.declared.rewrite.Rewrite.{Rewrite}
use Rattle.toml.specs.Data.{Data, Items, Members, string, array, table, as_array, as_str, get_member}
use Rattle.conf.specs.declared.fault.ConfFault.{ConfFault}
use Rattle.conf.specs.declared.fault.ConfFault.TheVariants as fault
use Rattle.conf_values.specs.declared.table.TableName.TheVariants.{Gateway}
use Rattle.conf_values.specs.declared.table.ValueRule.TheVariants as rule
use Rattle.conf.specs.Rows.{fails}
use Rattle.conf.specs.Table.{has_place}
use Rattle.conf_values.specs.Parts.{values_of}
use Rattle.conf_values.specs.Values.{IsStepText, is_allowed}
use Rattle.settings.specs.declared.gateway_conf.GatewayConf.{GatewayConf}
use Rattle.settings.specs.ValidSections.{IsValidGateway}
use Rattle.conf.specs.Sections.{AreSteps, HasGateway, IsGatewayConf}
use Rattle.conf.specs.Refusals.{HasBadStep}
use Rattle.conf.specs.tools.GatewayReads.{AreReadSteps, IsReadGateway, IsStepsFault}
use Rattle.conf.specs.tools.Judged.{IsCauseNumbered, IsJudged}
use Rattle.conf.specs.tools.SectionReads.{value_of}
use Rattle.conf.proofs.RowFacts.{passes, gateway_label_allowed, gateway_typed, steps_allowed, steps_least, steps_typed}
use Rattle.conf.proofs.SectionLaws.{table_or_none}
use Rattle.conf.proofs.StepLaws.{all_written, read_are, steps_not_bad}

-- ---- faults

bad_step : (value : Option Data) (given : Data) (items : Items) → value ≡ Some given → as_array given ≡ Some items → HasBadStep rule.Steps (Some (array items)) → HasBadStep rule.Steps value
bad_step value (array own) items is array_is bad =
    let same : own ≡ items = cc in
    rw (is, same) bad
bad_step value given items is array_is bad = absurd cc

-- what is answered of an array has the number of bad steps
pub steps_fault : (document : Members) (given : Data) (items : Items) (f : ConfFault) → value_of document Gateway (codes "steps") ≡ Some given → as_array given ≡ Some items
    → IsStepsFault items f → IsCauseNumbered 8 document f
steps_fault document given items fault.Memory is array_is h = tt
steps_fault document given items (fault.BadScript path) is array_is h =
    (refl, rw h.0 (steps_least document (bad_step (value_of document Gateway (codes "steps")) given items is array_is h.1)))
steps_fault document given items f is array_is h = absurd h

-- ---- the steps that are read

pub steps_said : (document : Members) (steps : List Rewrite) → IsJudged document → AreReadSteps document steps → AreSteps (value_of document Gateway (codes "steps")) steps
steps_said document steps judged read = read_are (value_of document Gateway (codes "steps")) steps (steps_typed document judged) read

-- and none of them is bad
pub none_is_bad : (document : Members) (steps : List Rewrite) → IsJudged document → AreReadSteps document steps → HasBadStep rule.Steps (value_of document Gateway (codes "steps")) → ⊥
none_is_bad document steps judged read = steps_not_bad (value_of document Gateway (codes "steps")) steps (steps_said document steps judged read)

-- ---- the table

-- the document has no table, or says what was read of it
pub gateway_said : (document : Members) (o : Option GatewayConf) → IsJudged document → MatchOption o (has_place document Gateway ≡ false) (IsReadGateway document)
    → HasGateway (get_member (codes "gateway") document) o
gateway_said document None judged none = elim (table_or_none (get_member (codes "gateway") document) (gateway_typed document judged)) [
  | inl isnt ↦ rw isnt refl
  | inr is ↦
      let there : has_place document Gateway ≡ true = rw is.1 refl in
      absurd (false≢true (sym none ∙ there))
]
gateway_said document (Some gateway) judged read = elim (table_or_none (get_member (codes "gateway") document) (gateway_typed document judged)) [
  | inl isnt ↦
      let none : has_place document Gateway ≡ false = rw isnt refl in
      absurd (false≢true (sym none ∙ read.there))
  | inr is ↦
      let says : IsGatewayConf is.0 gateway = record { label = rw is.1 at read.label; steps = rw is.1 at (steps_said document gateway.steps judged read.steps) } in
      rw is.1 says
]

-- ---- it is valid

valid_label : (document : Members) (value : Option Data) → (IsTrue (fails (is_allowed document rule.Label) value) → ⊥) → (label : List ℕ) → option_and_then as_str value ≡ Some label
    → is_key label ≡ true
valid_label document (Some (string text)) allowed label is =
    let same : text ≡ label = cc in
    rw (← same) (passes (is_allowed document rule.Label) (Some (string text)) (string text) allowed refl)
valid_label document value allowed label is = absurd cc

valid_steps : (document : Members) (value : Option Data) (steps : List Rewrite) → (IsTrue (fails (is_allowed document rule.Steps) value) → ⊥) → AreSteps value steps
    → (list_all is_writable steps ≡ true) × HaveValues steps × (length steps ≤ MAX_SCRIPT_LINES)
valid_steps document None steps allowed are = rw are (refl, tt, omega arith)
valid_steps document (Some (array items)) steps allowed are =
    let few = passes (is_allowed document rule.Steps) (Some (array items)) (array items) allowed refl in
    let long : length steps ≡ length (values_of items) = AllZip-long IsStepText (values_of items) steps are in
    let all = all_written (values_of items) steps are in
    (all.0, all.1, grind (arith, nat_tests, few, long))
valid_steps document (Some value) steps allowed are = absurd are

-- what the table says is the value of `gateway`
table_of : (value : Option Data) (gateway : GatewayConf) → HasGateway value (Some gateway) → (pairs : Members) × (value ≡ Some (table pairs)) × IsGatewayConf pairs gateway
table_of None gateway has = absurd cc
table_of (Some (table pairs)) gateway has = (pairs, refl, has)
table_of (Some value) gateway has = absurd has

valid_one : (document : Members) (gateway : GatewayConf) → IsJudged document → HasGateway (get_member (codes "gateway") document) (Some gateway) → IsValidGateway gateway
valid_one document gateway judged said =
    let has = table_of (get_member (codes "gateway") document) gateway said in
    let says = has.2 in
    let label : gateway.label ≡ option_and_then as_str (value_of document Gateway (codes "label")) = rw has.1 says.label in
    let steps : AreSteps (value_of document Gateway (codes "steps")) gateway.steps = rw has.1 says.steps in
    let valid = valid_steps document (value_of document Gateway (codes "steps")) gateway.steps (steps_allowed document judged) steps in
    record {
      label = λ text there. valid_label document (value_of document Gateway (codes "label")) (gateway_label_allowed document judged) text (sym label ∙ there);
      writable = valid.0;
      values = valid.1;
      few = valid.2;
    }

pub valid_gateway : (document : Members) (o : Option GatewayConf) → IsJudged document → HasGateway (get_member (codes "gateway") document) o → ForSome o IsValidGateway
valid_gateway document None judged said gateway there = absurd cc
valid_gateway document (Some own) judged said gateway there =
    let same : own ≡ gateway = cc in
    rw (← same) (valid_one document own judged said)
