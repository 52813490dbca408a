-- Texts that are lists of covered components.
use Rattle.std.proofs.Common.{◌≡◌, true, false, Option, Some, None, Err, List, [], map, MatchOption, IsTrue, ℕ, sym, ap, ◌∙◌}
use Rattle.std.specs.List.{list_all}
use Rattle.std.proofs.lemmas.Bool.{and_parts, false≢true}
use Rattle.std.proofs.lemmas.List.Folds.{list_all-map}
use Rattle.sfv_text.specs.Range.{is_item_in_range, is_inner_in_range, are_params_in_range}
use Rattle.sfv_text.specs.declared.value.InnerList.{InnerList}
use Rattle.sfv_read.specs.Fault.{IsRead}
use Rattle.sfv_read.specs.Reads.{ReadsInner}
use Rattle.sfv_read.specs.declared.error.SfError.{SfError}
use Rattle.sfv_read.specs.declared.error.SfError.TheVariants as sf_error
use Rattle.sfv_read.proofs.Readings.{inner_has_one_value}
use Rattle.component_ids.specs.declared.fault.IdFault.{IdFault}
use Rattle.component_ids.specs.declared.fault.IdFault.TheVariants as id_fault
use Rattle.component_ids.specs.declared.id.ComponentId.{ComponentId}
use Rattle.component_ids.specs.Identifiers.{item_of, is_id_in_range}
use Rattle.component_ids.specs.SignatureParams.{list_of}
use Rattle.settings.specs.Covered.{IsCoveredList, params_of}
use Rattle.settings.specs.ReadList.{IsReadList}
use Rattle.settings.specs.tools.Lists.{is_id_memory, is_sf_memory, IsIdsOf}

pub not_id_memory : (f : IdFault) → is_id_memory f ≡ false → ¬ (f ≡ id_fault.Memory)
not_id_memory f isnt is = let memory = rw is at isnt in false≢true (sym memory)

-- an error that isn't of memory reads no value
pub not_read : (error : SfError) (list : InnerList) → is_sf_memory error ≡ false → ¬ IsRead (Err error) list
not_read sf_error.Memory list isnt is = false≢true (sym isnt)
not_read (sf_error.Syntax offset) list isnt is = is

pub in_range_of : (ids : List ComponentId) → is_inner_in_range (list_of (params_of ids)) ≡ true → list_all is_id_in_range ids ≡ true
in_range_of ids ranged =
    sym (list_all-map is_item_in_range item_of ids) ∙ (and_parts (list_all is_item_in_range (map item_of ids)) (are_params_in_range []) ranged).0

-- what a text covers, whose Inner List was read
pub covered_of : (text : List ℕ) (list : InnerList) → ReadsInner text list → IsTrue (is_inner_in_range list) → (o : Option (List ComponentId)) → IsIdsOf list o
    → MatchOption o ((ids : List ComponentId) → ¬ IsCoveredList text ids) (IsReadList text)
covered_of text list reads ranged None isnt = λ ids covered. isnt ids (inner_has_one_value text _ _ covered.reads reads) covered.components
covered_of text list reads ranged (Some ids) is = record {
  covered = record { reads = rw is.1 reads; components = is.0 };
  in_range = in_range_of ids (ap is_inner_in_range is.1 ∙ ranged);
}
