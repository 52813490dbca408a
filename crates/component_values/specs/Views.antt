-- What prepared components stand for.
use Rattle.std.specs.Prelude.{ℕ, List}
use Rattle.component_ids.specs.declared.params.SigParams.{SigParams}

-- signature parameters, and a value for each component that they cover
pub record PreparedParts : Type 0 where
  pub params : SigParams
  pub values : List (List ℕ)
