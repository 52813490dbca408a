-- What a component comes to depends on its field, as far as its form asks, and on the values of `Host`.
use Rattle.std.proofs.Common.{◌≡◌, ℕ, Bool, true, false, not, Option, Some, None, Result, Ok, Err, List, codes, refl, sym, ap, subst, inl, inr}
use Rattle.std.proofs.lemmas.Bool.{and_parts, cases_Bool, not-true}
use Rattle.sfv_text.specs.declared.pair.Pair.{Pair}
use Rattle.sfv_text.specs.declared.value.BareItem.{BareItem}
use Rattle.msg_head.specs.Lines.{FieldLine}
use Rattle.msg_head.specs.Starts.{StartLine, request, status}
use Rattle.msg_head.specs.Values.{is_there, values}
use Rattle.framing.specs.Framings.{is_request}
use Rattle.msg_body.specs.Messages.{Message}
use Rattle.msg_body.specs.Views.{lines_on}
use Rattle.msg_head.specs.declared.error.Side.TheVariants.{Header}
use Rattle.component_ids.specs.Types.{kind_in}
use Rattle.component_ids.specs.Table.{is_field_name, has_param}
use Rattle.component_ids.specs.declared.id.ComponentId.{ComponentId}
use Rattle.component_ids.specs.declared.scheme.Scheme.{Scheme}
use Rattle.component_ids.specs.declared.types.FieldKind.{FieldKind}
use Rattle.derived_values.specs.Targets.{TargetParts, path_of}
use Rattle.derived_values.specs.Derived.{derived_of, RequestParts, DerivedRow, FormedRow, RequestRow, StartRow, TargetAuthorityRow, TargetRow, TargetUriRow, AuthorityRow, named_authority, scheme_of, sole_value}
use Rattle.derived_values.specs.declared.derived.DerivedName.{DerivedName}
use Rattle.derived_values.specs.declared.derived.DerivedName.TheVariants.{Method, RequestTarget, Status, OfTarget}
use Rattle.derived_values.specs.declared.derived.TargetName.{TargetName}
use Rattle.derived_values.specs.declared.derived.TargetName.TheVariants as target
use Rattle.derived_values.specs.declared.lack.Lack.{Lack}
use Rattle.component_values.specs.Alike.{AreAlikeFor, AreSameIn, is_own_field}
use Rattle.component_values.specs.Context.{MessageContext, context_with}
use Rattle.component_values.specs.Forms.{Form, form_of}
use Rattle.component_values.specs.Forms as form
use Rattle.component_values.specs.Laws.{DependsOnItsLines, DependsOnItsRow, DependsOnKind, DependsOnOwnLines, HasSameRow}
use Rattle.component_values.specs.Values.{side_of, ComesTo, FieldRow, FormRow, KeyRow, KindRow, LineRow, MessageRow, NameRow, related_message}

-- ---- derived components

-- requests that differ in lines of other names than `Host`
module _ (method text : List ℕ) (xs ys : List FieldLine) (scheme : Scheme) (hosts : values ys (codes "host") ≡ values xs (codes "host")) where
  abbrev before : RequestParts
  before = record { method = method; target = text; lines = xs; scheme = scheme }

  abbrev after : RequestParts
  after = record { method = method; target = text; lines = ys; scheme = scheme }

  named_same : (authority : Option (List ℕ)) → named_authority before authority ≡ named_authority after authority
  named_same None = ap sole_value (sym hosts)
  named_same (Some given) = refl

  authority_same : (parts : TargetParts) (result : Result (List ℕ) Lack) → TargetAuthorityRow before parts result → TargetAuthorityRow after parts result
  authority_same parts result row = subst (λ (named : Result (List ℕ) Lack). AuthorityRow (scheme_of before parts) named result) (named_same parts.authority) row

  uri_same : (path : Option (List ℕ)) (parts : TargetParts) (result : Result (List ℕ) Lack) → TargetUriRow path before parts result → TargetUriRow path after parts result
  uri_same None parts result row = row
  uri_same (Some path) parts result row = (row.0, authority_same parts row.0 row.1, row.2)

  target_same : (name : TargetName) (params : List (Pair BareItem)) (parts : TargetParts) (result : Result (List ℕ) Lack) → TargetRow name params before parts result → TargetRow name params after parts result
  target_same target.Scheme params parts result row = row
  target_same target.Authority params parts result row = authority_same parts result row
  target_same target.Path params parts result row = row
  target_same target.Query params parts result row = row
  target_same target.TargetUri params parts result row = uri_same (path_of parts) parts result row
  target_same target.QueryParam params parts result row = row

  formed_same : (name : TargetName) (params : List (Pair BareItem)) (result : Result (List ℕ) Lack) → FormedRow name params before result → FormedRow name params after result
  formed_same name params result (inl row) = inl (row.0, row.1, target_same name params row.0 result row.2)
  formed_same name params result (inr row) = inr row

  request_same : (name : DerivedName) (params : List (Pair BareItem)) (result : Result (List ℕ) Lack) → RequestRow name params before result → RequestRow name params after result
  request_same Method params result row = row
  request_same RequestTarget params result row = row
  request_same Status params result row = row
  request_same (OfTarget name) params result row = formed_same name params result row

module _ (xs ys : List FieldLine) (hosts : values ys (codes "host") ≡ values xs (codes "host")) (params : List (Pair BareItem)) (scheme : Scheme) where
  start_same : (name : DerivedName) (start : StartLine) (result : Result (List ℕ) Lack) → StartRow name params scheme xs start result → StartRow name params scheme ys start result
  start_same name (request line) result row = request_same line.method line.target xs ys scheme hosts name params result row
  start_same name (status line) result row = row

  pub derived_same : (name : Option DerivedName) (start : StartLine) (result : Result (List ℕ) Lack) → DerivedRow name params scheme xs start result → DerivedRow name params scheme ys start result
  derived_same None start result row = row
  derived_same (Some name) start result row = start_same name start result row

-- ---- fields

-- a field of whose name there is the same, as far as the form asks
module _ (xs ys : List FieldLine) (name : List ℕ) where
  there_same : (form : Form) → AreSameIn form xs ys name → is_there ys name ≡ is_there xs name
  there_same form.wrapped same = same.there
  there_same (form.member key) same = same.there
  there_same form.strict same = same.there
  there_same form.plain same = same.there

  form_same : (form : Form) (field : Option FieldKind) (result : Result (List ℕ) Lack) → AreSameIn form xs ys name → FormRow form field xs name result → FormRow form field ys name result
  form_same form.wrapped field result same row = rw same.same row
  form_same (form.member key) field result same row = subst (λ (t : List ℕ). KeyRow field key t result) (sym same.combined) row
  form_same form.strict field result same row = subst (λ (t : List ℕ). KindRow field t result) (sym same.combined) row
  form_same form.plain field result same row = rw same.combined row

  line_same : (is : Bool) (params : List (Pair BareItem)) (field : Option FieldKind) (result : Result (List ℕ) Lack) → AreSameIn (form_of params) xs ys name → LineRow is params field xs name result
      → LineRow is params field ys name result
  line_same false params field result same row = row
  line_same true params field result same row = form_same (form_of params) field result same row

  field_same : (params : List (Pair BareItem)) (field : Option FieldKind) (result : Result (List ℕ) Lack) → AreSameIn (form_of params) xs ys name → FieldRow params field xs name result
      → FieldRow params field ys name result
  field_same params field result same row = rw (there_same (form_of params) same) (line_same (is_there xs name) params field result same row)

  same_back : (form : Form) → AreSameIn form xs ys name → AreSameIn form ys xs name
  same_back form.wrapped same = record { there = sym same.there; same = sym same.same }
  same_back (form.member key) same = record { there = sym same.there; combined = sym same.combined }
  same_back form.strict same = record { there = sym same.there; combined = sym same.combined }
  same_back form.plain same = record { there = sym same.there; combined = sym same.combined }

-- ---- components

module _ (context : MessageContext) (other : Message) where
  abbrev moved : MessageContext
  moved = context_with context other

  drawn_same : (is : Bool) (id : ComponentId) (message : Message) (result : Result (List ℕ) Lack) → NameRow is context id message result → NameRow is moved id message result
  drawn_same true id message result row = row
  drawn_same false id message result row = row

  related_row : (drawn : Result Message Lack) (id : ComponentId) (result : Result (List ℕ) Lack) → MessageRow drawn context id result → MessageRow drawn moved id result
  related_row (Err lack) id result row = row
  related_row (Ok message) id result row = drawn_same (is_field_name id.name) id message result row

  related_same : is_request other.head.start ≡ is_request context.message.head.start → related_message moved ≡ related_message context
  related_same same = rw same refl

  by_kind : (id : ComponentId) → has_param id.params (codes "req") ≡ true → is_request other.head.start ≡ is_request context.message.head.start → (result : Result (List ℕ) Lack) → ComesTo context id result
      → ComesTo moved id result
  by_kind id req same result comes =
      rw req (subst (λ (drawn : Result Message Lack). MessageRow drawn moved id result) (sym (related_same same)) (related_row (related_message context) id result (rw req at comes)))

  by_lines : (id : ComponentId) → is_own_field id ≡ true → AreSameIn (form_of id.params) (lines_on (side_of id.params) context.message) (lines_on (side_of id.params) other) id.name → (result : Result (List ℕ) Lack)
      → ComesTo context id result → ComesTo moved id result
  by_lines id own same result comes =
      let both = and_parts (is_field_name id.name) (not (has_param id.params (codes "req"))) own in
      let is : has_param id.params (codes "req") ≡ false = not-true (has_param id.params (codes "req")) both.1 in
      rw (is, both.0) (field_same (lines_on (side_of id.params) context.message) (lines_on (side_of id.params) other) id.name id.params (kind_in context.types id.name) result same (rw (is, both.0) at comes))

  by_row : (id : ComponentId) → has_param id.params (codes "req") ≡ false → is_field_name id.name ≡ false → HasSameRow context other id → (result : Result (List ℕ) Lack) → ComesTo context id result → ComesTo moved id result
  by_row id own derived same result comes = rw (own, derived) ((same result).0 (rw (own, derived) at comes))

-- ---- the laws

pub depends_on_kind : DependsOnKind
depends_on_kind context other id req same result = (by_kind context other id req same result, by_kind (context_with context other) context.message id req (sym same) result)

pub depends_on_own_lines : DependsOnOwnLines
depends_on_own_lines context other id own same result =
    let side = side_of id.params in
    let back = same_back (lines_on side context.message) (lines_on side other) id.name (form_of id.params) same in
    (by_lines context other id own same result, by_lines (context_with context other) context.message id own back result)

pub depends_on_its_row : DependsOnItsRow
depends_on_its_row context other id own derived same result =
    (by_row context other id own derived same result, by_row (context_with context other) context.message id own derived (λ result. ((same result).1, (same result).0)) result)

-- the row over the same start line and the same values of `Host`
row_same : (context : MessageContext) (other : Message) (id : ComponentId) → AreAlikeFor id context.message other → HasSameRow context other id
row_same context other id alike result =
    let name = derived_of id.name in
    let before = lines_on Header context.message in
    let after = lines_on Header other in (
      λ row. subst (λ (s : StartLine). DerivedRow name id.params context.scheme after s result) (sym alike.start)
          (derived_same before after alike.hosts id.params context.scheme name context.message.head.start result row),
      λ row. subst (λ (s : StartLine). DerivedRow name id.params context.scheme before s result) alike.start
          (derived_same after before (sym alike.hosts) id.params context.scheme name other.head.start result row),
    )

pub depends_on_its_lines : DependsOnItsLines
depends_on_its_lines context other id alike = elim (cases_Bool (has_param id.params (codes "req"))) [
  | inl req ↦ depends_on_kind context other id req (ap is_request alike.start)
  | inr mine ↦ elim (cases_Bool (is_field_name id.name)) [
    | inl field ↦ let own : is_own_field id ≡ true = rw (field, mine) refl in depends_on_own_lines context other id own (alike.own own)
    | inr derived ↦ depends_on_its_row context other id mine derived (row_same context other id alike)
  ]
]
