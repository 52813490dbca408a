-- What a signature covers, as the forms of its components and the rule of the digest ask for it.
use Rattle.std.proofs.Common.{◌≡◌, ◌<◌, ℕ, [], ◌∷◌, ◌∙◌, Bool, true, false, Option, Some, None, List, codes, length, get_or, refl, sym, ap, inl, inr}
use Rattle.std.specs.Cmp.Derive.{both_true}
use Rattle.std.specs.List.{list_all}
use Rattle.std.specs.Prelude.{option_map, unwrap_or, if◌then◌else◌}
use Rattle.std.specs.Str.{bytes_eq}
use Rattle.std.proofs.lemmas.Bool.{and_parts, cases_Bool, false≢true}
use Rattle.std.proofs.lemmas.List.Folds.{Any-from_list_any, list_any-from_Any, list_any_at}
use Rattle.std.proofs.lemmas.Slice.Eq.{bytes_eq-Decides}
use Rattle.sfv_text.specs.Keys.{has_key}
use Rattle.sfv_text.specs.declared.pair.Pair.{Pair}
use Rattle.sfv_text.specs.declared.value.BareItem.{BareItem}
use Rattle.msg_head.specs.Lines.{FieldLine}
use Rattle.msg_head.specs.declared.error.Side.TheVariants.{Header}
use Rattle.msg_body.specs.SameFields.{HasSameField, HasSameValues}
use Rattle.component_ids.specs.Table.{has_param, is_field_name, is_listed}
use Rattle.component_ids.specs.declared.id.ComponentId.{ComponentId}
use Rattle.component_ids.specs.declared.params.SigParams.{SigParams}
use Rattle.component_values.specs.Alike.{AreSameIn, is_own_field}
use Rattle.component_values.specs.Forms.{form_of, member_key}
use Rattle.component_values.specs.Forms as form
use Rattle.component_values.specs.Values.{side_of}
use Rattle.verdicts.specs.ContentDigest.{covers_digest, digest_name, is_whole_digest, keeps_whole}
use Rattle.line_rewrites.specs.Covered.{covers_field, covers_lines, is_field_on, is_on, is_wrapped_on}

-- ---- a component among those of the parameters

-- its field is on its side
pub on_its_side : (id : ComponentId) → is_on (side_of id.params) id ≡ true
on_its_side id = elim (cases_Bool (has_param id.params (codes "tr"))) [
  | inl trailer ↦ rw trailer trailer
  | inr header ↦ rw header (rw header refl)
]

pub own_field : (id : ComponentId) → is_own_field id ≡ true → is_field_on (side_of id.params) id.name id ≡ true
own_field id own = both_true own (both_true (on_its_side id) ((bytes_eq-Decides id.name id.name).1 refl))

module _ (params : SigParams) (k : ℕ) (d : ComponentId) (lt : k < length params.ids) where
  abbrev id : ComponentId
  id = get_or params.ids k d

  pub field_is_covered : is_own_field id ≡ true → covers_field (side_of id.params) id.name params ≡ true
  field_is_covered own = list_any_at (is_field_on (side_of id.params) id.name) params.ids k d lt (own_field id own)

  pub lines_are_covered : is_own_field id ≡ true → has_param id.params (codes "bs") ≡ true → covers_lines (side_of id.params) id.name params ≡ true
  lines_are_covered own wrapped =
      list_any_at (is_wrapped_on (side_of id.params) id.name) params.ids k d lt (both_true (own_field id own) wrapped)

-- ---- forms

module _ (xs ys : List FieldLine) (name : List ℕ) (field : HasSameField xs ys name) where
  same_by_form : (bs : Bool) (key : Option (List ℕ)) (sf : Bool) → (bs ≡ true → HasSameValues xs ys name)
      → AreSameIn (if bs then form.wrapped else unwrap_or (option_map form.member key) (if sf then form.strict else form.plain)) xs ys name
  same_by_form true key sf lines = lines refl
  same_by_form false (Some key) sf lines = field
  same_by_form false None true lines = field
  same_by_form false None false lines = field

  -- the same field is the same in each form, where its lines are as well for the form line by line
  pub same_in_form : (params : List (Pair BareItem)) → (has_param params (codes "bs") ≡ true → HasSameValues xs ys name) → AreSameIn (form_of params) xs ys name
  same_in_form params lines = same_by_form (has_param params (codes "bs")) (member_key params) (has_param params (codes "sf")) lines

-- ---- the field of the digests

-- none of the parameters takes part of the field, or another one
none_but_whole : (params : List (Pair BareItem)) (key : List ℕ) → list_all keeps_whole params ≡ true → is_listed (codes "sf" ∷ codes "bs" ∷ []) key ≡ false → has_param params key ≡ false
none_but_whole [] key all other = refl
none_but_whole (param ∷ params) key all other =
    let parts = and_parts (keeps_whole param) (list_all keeps_whole params) all in
    elim (cases_Bool (has_key key param)) [
      | inl has ↦
          let same : param.key ≡ key = (bytes_eq-Decides param.key key).0 has in
          absurd (false≢true (sym other ∙ (ap (is_listed (codes "sf" ∷ codes "bs" ∷ [])) (sym same) ∙ parts.0)))
      | inr hasnt ↦ rw hasnt (none_but_whole params key parts.1 other)
    ]

whole_is_field : (id : ComponentId) → is_whole_digest id ≡ true → is_field_on Header digest_name id ≡ true
whole_is_field id whole =
    let parts = and_parts (bytes_eq id.name digest_name) (list_all keeps_whole id.params) whole in
    let name : id.name ≡ digest_name = (bytes_eq-Decides id.name digest_name).0 parts.0 in
    let field : is_field_name id.name ≡ true = ap is_field_name name in
    both_true (rw (field, none_but_whole id.params (codes "req") parts.1 refl) refl) (both_true (rw (none_but_whole id.params (codes "tr") parts.1 refl) refl) parts.0)

-- where the digest is covered, its field is
pub digest_is_covered : (params : SigParams) → covers_digest params.ids ≡ true → covers_field Header digest_name params ≡ true
digest_is_covered params covered =
    let at = Any-from_list_any is_whole_digest params.ids covered in
    list_any-from_Any (is_field_on Header digest_name) params.ids (at.0, at.1, at.2, at.3, whole_is_field at.1 at.4)
