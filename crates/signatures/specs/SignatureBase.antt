-- The signature base (RFC 9421 section 2.5).
use Rattle.std.specs.Prelude.{ℕ, List, ◌++◌, codes}
use Rattle.std.specs.List.{flat_map, zip}
use Rattle.component_ids.specs.Identifiers.{id_text}
use Rattle.component_ids.specs.SignatureParams.{sig_params_text}
use Rattle.component_ids.specs.declared.id.ComponentId.{ComponentId}
use Rattle.component_ids.specs.declared.params.SigParams.{SigParams}

-- the line of a component and its value: the identifier's strict text, a colon, a space, the value,
-- and LF
abbrev pub component_line : ComponentId × List ℕ → List ℕ
component_line component =
    id_text component.0 ++ (codes ": " ++ (component.1 ++ codes "\n"))

-- the lines of the components in order, and the line of the signature parameters, without an end
abbrev pub signature_base : SigParams → List (List ℕ) → List ℕ
signature_base params values =
    flat_map component_line (zip params.ids values)
    ++ (codes "\"@signature-params\": " ++ sig_params_text params)
