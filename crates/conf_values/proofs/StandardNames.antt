-- The names of the fields that are structured by their own standards.
use Rattle.std.proofs.Common.{◌≡◌, ℕ, Bool, true, false, cond, List, [], ◌∷◌, Option, Some, refl, sym, ap, ◌∙◌, codes}
use Rattle.std.specs.Prelude.{◌||◌, is_some}
use Rattle.std.specs.FinMap as map
use Rattle.std.specs.List.{list_any}
use Rattle.std.specs.Str.{bytes_eq}
use Rattle.std.proofs.lemmas.Cmp.{nat_list_cmp_total}
use Rattle.std.proofs.lemmas.Map.Text.{is_eq-slice_cmp}
use Rattle.component_ids.specs.Table.{is_listed}
use Rattle.component_ids.specs.declared.types.FieldKind.{FieldKind}
use Rattle.component_ids.specs.declared.types.FieldKind.TheVariants.{Dictionary}
use Rattle.settings.proofs.Names.{name_cmp}
use Rattle.conf_values.specs.Values.{is_standard_field}

first_or_later : (is any : Bool) (kind : FieldKind) (later : Option FieldKind) → any ≡ is_some later → (is || any) ≡ is_some (cond is (Some kind) later)
first_or_later true any kind later same = refl
first_or_later false any kind later same = same

listed_is_found : (entries : List (List ℕ × FieldKind)) (name : List ℕ) → list_any (λ e. bytes_eq name e.0) entries ≡ is_some (map.find name_cmp name entries)
listed_is_found [] name = refl
listed_is_found (e ∷ es) name =
    first_or_later (bytes_eq name e.0) (list_any (λ x. bytes_eq name x.0) es) e.1 (map.find name_cmp name es) (listed_is_found es name)
    ∙ ap (λ (is : Bool). is_some (cond is (Some e.1) (map.find name_cmp name es))) (sym (is_eq-slice_cmp name e.0))

-- a name of the list is that of such a field
pub standard_listed : (name : List ℕ)
    → is_listed (codes "signature-input" ∷ codes "signature" ∷ codes "accept-signature" ∷ codes "content-digest" ∷ []) name ≡ is_standard_field name
standard_listed name =
    listed_is_found entries name ∙ sym (ap (λ (o : Option FieldKind). is_some o) (map.get-from_entries nat_list_cmp_total entries name))
  where
    entries : List (List ℕ × FieldKind)
    entries =
        (codes "signature-input", Dictionary) ∷ (codes "signature", Dictionary) ∷ (codes "accept-signature", Dictionary) ∷ (codes "content-digest", Dictionary) ∷ []
