-- The configuration of the empty text.
use Rattle.std.proofs.Common.{◌≡◌, Bool, [], None, option_map, IsTrue, refl, sym, ap}
use Rattle.std.specs.FinMap as map
use Rattle.std.specs.List.{find}
use Rattle.std.specs.Ordering.{nat_cmp}
use Rattle.std.specs.Cmp.Lexicographic.{slice_cmp}
use Rattle.toml.proofs.OnLiterals.{toml_on_literals}
use Rattle.toml.specs.Data.{no_members}
use Rattle.conf.specs.Rows.{is_ill_typed, is_out_of_range}
use Rattle.conf.specs.Table.{Row, rows, places, place_path, has_unknown, is_missing}
use Rattle.settings.specs.Configuration.{Configuration}
use Rattle.settings.specs.Standard.{standard_configuration, standard_policy}
use Rattle.conf_values.specs.declared.table.Version.TheVariants.{One}
use Rattle.conf.specs.Sections.{IsPolicy}
use Rattle.conf.specs.Meaning.{Configures, IsConfiguration, IsDocument}
use Rattle.conf.specs.Paths.{HoldsOfNone}
use Rattle.conf.proofs.LeastLaws.{found_none}

empty_document : IsDocument [] no_members
unfolding toml_on_literals
empty_document = (([], (refl, refl)), refl)

known : HoldsOfNone (λ place. IsTrue (has_unknown no_members place)) places
unfolding places
known = found_none place_path (has_unknown no_members) places refl

-- a test that no row passes
none_pass : (test : Row → Bool) → find test rows ≡ None → HoldsOfNone (λ row. IsTrue (test row)) rows
none_pass test none = found_none (λ (row : Row). row.path) test rows (sym (ap (option_map (λ (row : Row). row.path)) none))

typed : HoldsOfNone (λ row. IsTrue (is_ill_typed no_members row)) rows
unfolding rows
typed = none_pass (is_ill_typed no_members) refl

allowed : HoldsOfNone (λ row. IsTrue (is_out_of_range no_members row)) rows
unfolding rows
allowed = none_pass (is_out_of_range no_members) refl

complete : HoldsOfNone (λ row. IsTrue (is_missing no_members row)) rows
unfolding rows
complete = none_pass (is_missing no_members) refl

standard_is : IsPolicy One no_members standard_policy
standard_is = record {
  selects = refl;
  max_age = refl;
  skew = refl;
  require_request = refl;
  require_response = refl;
  expires = refl;
  nonce = refl;
  tag = refl;
  digest = refl;
}

standard_says : IsConfiguration no_members standard_configuration
standard_says = record {
  known = known;
  typed = typed;
  allowed = allowed;
  complete = complete;
  scheme = refl;
  keys = λ keyid. map.get-empty (slice_cmp nat_cmp) keyid;
  types = λ name. refl;
  policies = (standard_is, tt);
  nonces = refl;
  sign = refl;
  gateway = refl;
}

-- the configuration where nothing is said is that of the empty text
pub empty_configures : (conf : Configuration) → conf ≡ standard_configuration → Configures [] conf
empty_configures conf is = rw is (no_members, empty_document, standard_says)
