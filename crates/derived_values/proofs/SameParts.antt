-- A derived component of a request depends on the parts of its target.
use Rattle.std.proofs.Common.{◌≡◌, ℕ, Bool, true, false, Option, Some, None, Result, Ok, List, ◌++◌, codes, refl, sym, ap, subst, ◌∙◌, inl, inr}
use Rattle.std.specs.Prelude.{ok_or}
use Rattle.std.specs.Result.{result_map_both}
use Rattle.sfv_text.specs.declared.pair.Pair.{Pair}
use Rattle.sfv_text.specs.declared.value.BareItem.{BareItem}
use Rattle.derived_values.specs.Targets.{TargetParts, has_path, path_of, query_of, query_text}
use Rattle.derived_values.proofs.TargetParts.{one_target}
use Rattle.derived_values.specs.Derived.{FormedRow, RequestParts, RequestRow, TargetRow, TargetUriRow, uri_text}
use Rattle.derived_values.specs.Laws.{DependsOnParts, HasSameAsked, HaveSameParts}
use Rattle.derived_values.specs.declared.derived.DerivedName.{DerivedName}
use Rattle.derived_values.specs.declared.derived.DerivedName.TheVariants.{Method, RequestTarget, Status, OfTarget}
use Rattle.derived_values.specs.declared.derived.TargetName.{TargetName}
use Rattle.derived_values.specs.declared.derived.TargetName.TheVariants as name
use Rattle.derived_values.specs.declared.lack.Lack.{Lack}
use Rattle.derived_values.specs.declared.lack.Lack.TheVariants.{Underivable}

-- a target with a path has its own query
own_query : (parts : TargetParts) (path : List ℕ) → path_of parts ≡ Some path → query_of parts ≡ Some parts.query
own_query parts path is = at_form (has_path parts.form) refl
  where
    at_form : (has : Bool) → has_path parts.form ≡ has → query_of parts ≡ Some parts.query
    at_form true has = rw has refl
    at_form false has = let none = rw has at is in absurd cc

module _ (one other : RequestParts) (parts others : TargetParts) (same : HaveSameParts one other parts others) where
  same_uri : (path : List ℕ) → path_of parts ≡ Some path → query_of others ≡ query_of parts → (authority : List ℕ) → uri_text one parts path authority ≡ uri_text other others path authority
  same_uri path is asked authority =
      let here = own_query parts path is in
      let there = own_query others path (same.path ∙ is) in
      let queries : Some parts.query ≡ Some others.query = sym here ∙ sym asked ∙ there in
      let query : parts.query ≡ others.query = cc in
      λ i. sym same.scheme i ++ (codes "://" ++ (authority ++ (path ++ query_text (query i))))

  uri_row : (path : Option (List ℕ)) → path_of parts ≡ path → query_of others ≡ query_of parts → (result : Result (List ℕ) Lack) → TargetUriRow path one parts result → TargetUriRow path other others result
  uri_row None is asked result row = row
  uri_row (Some path) is asked result row = (
    row.0,
    (same.authority row.0).0 row.1,
    row.2 ∙ (λ i. result_map_both (λ authority. same_uri path is asked authority i) (λ lack. lack) row.0),
  )

  target_row : (of_target : TargetName) (params : List (Pair BareItem)) (result : Result (List ℕ) Lack) → HasSameAsked (OfTarget of_target) params one other parts others → TargetRow of_target params one parts result
      → TargetRow of_target params other others result
  target_row name.Scheme params result asked row = row ∙ ap Ok (sym same.scheme)
  target_row name.Authority params result asked row = (same.authority result).0 row
  target_row name.Path params result asked row = row ∙ ap (λ path. ok_or path Underivable) (sym same.path)
  target_row name.Query params result asked row = rw asked row
  target_row name.TargetUri params result asked row =
      subst (λ (path : Option (List ℕ)). TargetUriRow path other others result) (sym same.path) (uri_row (path_of parts) refl asked result row)
  target_row name.QueryParam params result asked row = row ∙ sym asked

  formed_row : (of_target : TargetName) (params : List (Pair BareItem)) (result : Result (List ℕ) Lack) → HasSameAsked (OfTarget of_target) params one other parts others → FormedRow of_target params one result
      → FormedRow of_target params other result
  formed_row of_target params result asked (inl (found, spells, row)) =
      let is = one_target one.method one.target found parts spells same.spells in
      inl (others, same.other_spells, target_row of_target params result asked (subst (λ (target : TargetParts). TargetRow of_target params one target result) is row))
  formed_row of_target params result asked (inr (none, is)) = absurd (none parts same.spells)

  request_row : (derived : DerivedName) (params : List (Pair BareItem)) (result : Result (List ℕ) Lack) → HasSameAsked derived params one other parts others → RequestRow derived params one result
      → RequestRow derived params other result
  request_row Method params result asked row = row ∙ ap Ok (sym same.method)
  request_row RequestTarget params result asked row = row ∙ ap Ok (sym asked)
  request_row Status params result asked row = row
  request_row (OfTarget of_target) params result asked row = formed_row of_target params result asked row

  parts_back : HaveSameParts other one others parts
  parts_back = record {
    spells = same.other_spells;
    other_spells = same.spells;
    method = sym same.method;
    scheme = sym same.scheme;
    authority = λ result. ((same.authority result).1, (same.authority result).0);
    path = sym same.path;
  }

  asked_back : (derived : DerivedName) (params : List (Pair BareItem)) → HasSameAsked derived params one other parts others → HasSameAsked derived params other one others parts
  asked_back Method params asked = tt
  asked_back Status params asked = tt
  asked_back RequestTarget params asked = sym asked
  asked_back (OfTarget name.Scheme) params asked = tt
  asked_back (OfTarget name.Authority) params asked = tt
  asked_back (OfTarget name.Path) params asked = tt
  asked_back (OfTarget name.Query) params asked = sym asked
  asked_back (OfTarget name.TargetUri) params asked = sym asked
  asked_back (OfTarget name.QueryParam) params asked = sym asked

pub depends_on_parts : DependsOnParts
depends_on_parts derived params one other parts others result same asked = (
  request_row one other parts others same derived params result asked,
  request_row other one others parts (parts_back one other parts others same) derived params result (asked_back one other parts others same derived params asked),
)
