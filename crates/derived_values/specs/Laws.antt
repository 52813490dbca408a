-- Laws of derived components: what one rests on.
use Rattle.std.specs.Prelude.{◌≡◌, ◌↔◌, ⊤, ℕ, List, Result}
use Rattle.sfv_text.specs.declared.pair.Pair.{Pair}
use Rattle.sfv_text.specs.declared.value.BareItem.{BareItem}
use Rattle.derived_values.specs.Targets.{TargetParts, SpellsTarget, path_of, query_of}
use Rattle.derived_values.specs.Derived.{RequestParts, RequestRow, TargetAuthorityRow, scheme_of, param_value}
use Rattle.derived_values.specs.declared.derived.DerivedName.{DerivedName}
use Rattle.derived_values.specs.declared.derived.DerivedName.TheVariants.{Method, RequestTarget, Status, OfTarget}
use Rattle.derived_values.specs.declared.derived.TargetName.TheVariants as name
use Rattle.derived_values.specs.declared.lack.Lack.{Lack}

-- both requests have the same of what a component asks of the target as it is sent, and of the
-- query
abbrev pub HasSameAsked : DerivedName → List (Pair BareItem) → RequestParts → RequestParts
    → TargetParts → TargetParts → Type 0
HasSameAsked Method params one other parts others = ⊤
HasSameAsked Status params one other parts others = ⊤
HasSameAsked RequestTarget params one other parts others = other.target ≡ one.target
HasSameAsked (OfTarget name.Scheme) params one other parts others = ⊤
HasSameAsked (OfTarget name.Authority) params one other parts others = ⊤
HasSameAsked (OfTarget name.Path) params one other parts others = ⊤
HasSameAsked (OfTarget name.Query) params one other parts others =
    query_of others ≡ query_of parts
HasSameAsked (OfTarget name.TargetUri) params one other parts others =
    query_of others ≡ query_of parts
HasSameAsked (OfTarget name.QueryParam) params one other parts others =
    param_value (query_of others) params ≡ param_value (query_of parts) params

-- both requests have the method, the scheme, the authority and the path
pub record HaveSameParts (one other : RequestParts) (parts others : TargetParts) : Type 0 where
  pub spells : SpellsTarget one.method one.target parts
  pub other_spells : SpellsTarget other.method other.target others
  pub method : other.method ≡ one.method
  pub scheme : scheme_of other others ≡ scheme_of one parts
  pub authority : (result : Result (List ℕ) Lack)
      → TargetAuthorityRow one parts result ↔ TargetAuthorityRow other others result
  pub path : path_of others ≡ path_of parts

-- A component is the same in both, where what it asks more is.
abbrev pub DependsOnParts : Type 0
DependsOnParts =
    (derived : DerivedName) (params : List (Pair BareItem)) (one other : RequestParts)
    (parts others : TargetParts) (result : Result (List ℕ) Lack)
    → HaveSameParts one other parts others → HasSameAsked derived params one other parts others
    → RequestRow derived params one result ↔ RequestRow derived params other result
