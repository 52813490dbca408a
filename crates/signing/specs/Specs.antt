-- What a signature is to be, so that it can be made.
use Rattle.std.specs.Prelude.{IsTrue}
use Rattle.sfv_text.specs.Range.{is_key}
use Rattle.component_ids.specs.SignatureParams.{IsSigParams, are_sig_params_in_range}
use Rattle.signing.specs.declared.spec.SignSpec.{SignSpec}

-- the label is a key of a Dictionary, and the parameters are signature parameters that a
-- structured field can hold (RFC 9421 sections 2.3 and 4)
pub record IsValidSpec (spec : SignSpec) : Type 0 where
  pub label : IsTrue (is_key spec.label)
  pub params : IsSigParams spec.params
  pub in_range : IsTrue (are_sig_params_in_range spec.params)
