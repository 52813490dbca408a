-- The texts of identifiers and of signature parameters.
use Rattle.std.proofs.Common.{◌≡◌, ℕ, true, List, [], ◌∷◌, ◌++◌, codes, map, refl, sym, ap, ◌∙◌, append_assoc}
use Rattle.std.specs.List.{join_by, list_all}
use Rattle.std.proofs.lemmas.List.Folds.{flat_map-map}
use Rattle.sfv_text.specs.Range.{is_string_byte}
use Rattle.sfv_text.specs.Strict.{item_text, params_text}
use Rattle.sfv_text.proofs.Printable.{item_is, inner_is}
use Rattle.component_ids.specs.declared.id.ComponentId.{ComponentId}
use Rattle.component_ids.specs.declared.params.SigParams.{SigParams}
use Rattle.component_ids.specs.Identifiers.{item_of, id_text, is_id_in_range}
use Rattle.component_ids.specs.SignatureParams.{list_of, sig_params_text, are_sig_params_in_range}
use Rattle.component_ids.proofs.AnswerLaws.{in_range_of_list}

-- the texts of the items of identifiers are those of the identifiers
joined_items : (ids : List ComponentId) → join_by item_text (codes " ") (map item_of ids) ≡ join_by id_text (codes " ") ids
joined_items [] = refl
joined_items (id ∷ ids) = ap (λ (t : List ℕ). id_text id ++ t) (flat_map-map (λ item. codes " " ++ item_text item) item_of ids)

-- a text with the identifiers in parentheses and the parameters
pub text_of_parts : (text first second third whole : List ℕ) (params : SigParams) → first ≡ text ++ codes "(" → second ≡ first ++ join_by id_text (codes " ") params.ids
    → third ≡ second ++ codes ")" → whole ≡ third ++ params_text params.params → whole ≡ text ++ sig_params_text params
text_of_parts text first second third whole params a b c d =
    rw (d, c, b, a, append_assoc, append_assoc, append_assoc, joined_items params.ids) refl

pub id_is_printable : (id : ComponentId) → is_id_in_range id ≡ true → list_all is_string_byte (id_text id) ≡ true
id_is_printable id in_range = item_is (item_of id) in_range

pub params_are_printable : (params : SigParams) → are_sig_params_in_range params ≡ true → list_all is_string_byte (sig_params_text params) ≡ true
params_are_printable params in_range = inner_is (list_of params) (sym (in_range_of_list params) ∙ in_range)
