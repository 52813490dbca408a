-- Which fields are structured, and how (RFC 9421 section 2.1.1).
use Rattle.std.specs.Prelude.{ℕ, List, [], ◌∷◌, Option, codes}
use Rattle.std.specs.Ordering.{nat_cmp}
use Rattle.std.specs.Cmp.Lexicographic.{slice_cmp}
use Rattle.std.specs.FinMap as map
use Rattle.component_ids.specs.declared.types.FieldKind.{FieldKind}
use Rattle.component_ids.specs.declared.types.FieldKind.TheVariants.{Dictionary}

-- from the names of fields to their kinds (RFC 9651 section 3)
abbrev pub KindMap : Type 0
KindMap = map.FinMap (slice_cmp nat_cmp) FieldKind

-- the kind of the field of that name, where it is structured
abbrev pub kind_in : KindMap → List ℕ → Option FieldKind
kind_in types name = map.get types name

-- the fields of RFC 9421 sections 4.1, 4.2 and 5.1, and that of RFC 9530 section 2
abbrev pub standard_types : KindMap
standard_types =
    map.from_entries (
    (codes "signature-input", Dictionary) ∷ (codes "signature", Dictionary)
    ∷ (codes "accept-signature", Dictionary) ∷ (codes "content-digest", Dictionary) ∷ [])
