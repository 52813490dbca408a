-- Laws of signature bases.
use Rattle.std.specs.Prelude.{◌≡◌, ◌↔◌, ◌==◌, not, ℕ, Bool, IsTrue, List, length}
use Rattle.std.specs.List.{list_all}
use Rattle.std.specs.Str.{byte}
use Rattle.component_ids.specs.SignatureParams.{are_sig_params_in_range}
use Rattle.component_ids.specs.declared.params.SigParams.{SigParams}
use Rattle.signatures.specs.SignatureBase.{signature_base}

-- the text has no LF
abbrev pub is_one_line : List ℕ → Bool
is_one_line text = list_all (λ c. not (c == byte "\n")) text

-- the signature parameters can be written, and there is a value for each component
pub record HaveBase (params : SigParams) (values : List (List ℕ)) : Type 0 where
  pub in_range : IsTrue (are_sig_params_in_range params)
  pub each : length values ≡ length params.ids

-- A base of values without LF has one reading: it is equal to another exactly where the signature
-- parameters are equal, all orders included, and the values are. The other's values may have LF.
abbrev pub HasOneReading : Type 0
HasOneReading =
    (params others : SigParams) (values also : List (List ℕ))
    → HaveBase params values → IsTrue (list_all is_one_line values) → HaveBase others also
    → (signature_base params values ≡ signature_base others also)
    ↔ ((params ≡ others) × (values ≡ also))
