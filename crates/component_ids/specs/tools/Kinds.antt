-- The code of a map of kinds by the bytes of names.
-- No public clause cites this module but the view of `Types`.
use Rattle.std.specs.Prelude.{◌≡◌, ℕ, zero, suc, refl}
use Rattle.std.specs.FinMap as finite
use Rattle.std.specs.Coded.{Coded, code_by, coded_list, coded_ℕ}
use Rattle.component_ids.specs.declared.types.FieldKind.{FieldKind}
use Rattle.component_ids.specs.declared.types.FieldKind.TheVariants.{Item, List as ListKind, Dictionary}
use Rattle.component_ids.specs.Types.{KindMap}

-- a kind as a number
abbrev number_of : FieldKind → ℕ
number_of Item = 0
number_of ListKind = 1
number_of Dictionary = 2

abbrev kind_of_number : ℕ → FieldKind
kind_of_number zero = Item
kind_of_number (suc zero) = ListKind
kind_of_number (suc (suc n)) = Dictionary

pub number_gives_kind : (kind : FieldKind) → kind_of_number (number_of kind) ≡ kind
number_gives_kind Item = refl
number_gives_kind ListKind = refl
number_gives_kind Dictionary = refl

abbrev pub kinds_code : Coded KindMap
kinds_code =
    finite.code (coded_list coded_ℕ) (code_by ℕ coded_ℕ number_of kind_of_number number_gives_kind)
