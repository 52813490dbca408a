-- Of a message and of its list a component comes to the same.
use Rattle.std.proofs.Common.{◌≡◌, ◌≢◌, ℕ, Bool, true, false, not, ◌||◌, ◌==◌, Option, Some, None, Result, Ok, List, [], ◌∷◌, ◌++◌, length, map, refl, sym, ap, subst, ◌∙◌, inl, inr, arith, codes}
use Rattle.std.specs.Prelude.{filter, option_map, unwrap_or, if◌then◌else◌}
use Rattle.std.specs.List.{list_all}
use Rattle.std.specs.Str.{byte, bytes_eq, str_to_ascii_lowercase}
use Rattle.std.proofs.lemmas.Bool.{and_parts, cases_Bool, eq-eqb, eqb-true, false≢true, false_from_ne_true, not-true, or_parts}
use Rattle.std.proofs.lemmas.Slice.Eq.{bytes_eq-Decides}
use Rattle.std.proofs.lemmas.Str.Ascii.{lowercase-lowercase}
use Rattle.std.specs.Char.{to_ascii_lowercase}
use Rattle.byte_grammar.specs.Classes.{is_one_of}
use Rattle.byte_grammar.proofs.ListLaws.{all_implied}
use Rattle.sfv_text.specs.declared.pair.Pair.{Pair}
use Rattle.sfv_text.specs.declared.value.BareItem.{BareItem}
use Rattle.msg_head.specs.declared.error.Side.{Side}
use Rattle.msg_head.specs.declared.error.Side.TheVariants.{Header, Trailer}
use Rattle.msg_head.specs.Lines.{FieldLine}
use Rattle.msg_head.specs.Starts as start
use Rattle.msg_head.specs.Starts.{RequestLine, StartLine}
use Rattle.msg_head.specs.Names.{has_name}
use Rattle.msg_head.specs.Values.{is_there, value, values}
use Rattle.msg_body.specs.Messages.{Message}
use Rattle.msg_body.specs.Views.{lines_on}
use Rattle.msg_body.specs.SameFields.{HasSameValues}
use Rattle.msg_body.proofs.ValueLaws.{is_value_of_itself}
use Rattle.derived_values.specs.declared.target.Form.TheVariants.{Absolute}
use Rattle.derived_values.specs.UriBytes.{is_path_byte}
use Rattle.derived_values.specs.Targets.{TargetParts, SpellsTarget, has_path, is_path, path_of, query_of, is_absolute_path}
use Rattle.derived_values.proofs.TargetParts.{one_target}
use Rattle.component_ids.specs.Table.{is_field_name}
use Rattle.component_ids.specs.Types.{kind_in}
use Rattle.component_ids.specs.declared.id.ComponentId.{ComponentId}
use Rattle.component_ids.specs.declared.scheme.Scheme.{Scheme}
use Rattle.component_ids.specs.declared.scheme.Scheme.TheVariants.{Http, Https}
use Rattle.derived_values.specs.Derived.{DerivedRow, FormedRow, NamedRow, RequestParts, StartRow, TargetRow, derived_of, scheme_of, scheme_text, target_name_of}
use Rattle.derived_values.specs.declared.derived.DerivedName.{DerivedName}
use Rattle.derived_values.specs.declared.derived.DerivedName.TheVariants.{Method, RequestTarget, Status, OfTarget}
use Rattle.derived_values.specs.declared.derived.TargetName.{TargetName}
use Rattle.derived_values.specs.declared.lack.Lack.{Lack}
use Rattle.component_values.specs.Context.{MessageContext}
use Rattle.component_values.specs.Values.{ComesTo, side_of}
use Rattle.list_texts.specs.declared.list.Field.{Field}
use Rattle.list_texts.specs.declared.list.FieldList.{FieldList}
use Rattle.field_lists.specs.Controls.{Control, RequestControl, request, response, ArePseudo, HasPseudo}
use Rattle.field_lists.specs.FromMessages.{IsControlOf, IsRequestOf, field_of_line, kept_fields, list_with, pseudo_fields, request_parts}
use Rattle.field_lists.specs.Laws.{IsOwn, ListHasTheSame}
use Rattle.field_lists.specs.ListValues.{ControlRow, IsTargetOf, ListComesTo, PseudoRow, UriRow, parts_of, raw_line, raw_lines}
use Rattle.field_lists.specs.ToCauses.{is_refused_name}
use Rattle.field_lists.proofs.FromLaws.{no_path, some_is}
use Rattle.field_lists.proofs.LineNames.{list_values, spaced}
use Rattle.field_lists.proofs.MessageRows.{field_row, same_after, same_back}
use Rattle.field_lists.proofs.PseudoLaws.{one_pseudo}
use Rattle.field_lists.proofs.TargetRows.{one_uri, target_row}

-- ---- the lines of a name

lowered_twice : (text : List ℕ) → str_to_ascii_lowercase (str_to_ascii_lowercase text) ≡ str_to_ascii_lowercase text
lowered_twice [] = refl
lowered_twice (c ∷ text) = ap (λ (d : ℕ). d ∷ str_to_ascii_lowercase (str_to_ascii_lowercase text)) (lowercase-lowercase c) ∙ ap (λ (t : List ℕ). to_ascii_lowercase c ∷ t) (lowered_twice text)

-- a value is its own
value_of_value : (raw : List ℕ) → value (value raw) ≡ value raw
value_of_value raw = sym (spaced (value raw)) ∙ is_value_of_itself raw

-- fields that are kept by a test that the name passes
module _ (refused : List ℕ → Bool) (name : List ℕ) (keeps : refused name ≡ false) where
  abbrev kept : List FieldLine → List Field
  kept lines = filter (λ field. not (refused field.name)) (map field_of_line lines)

  -- a line that isn't kept has another name
  other_line : (line : FieldLine) → refused (str_to_ascii_lowercase line.name) ≡ true → has_name name line ≡ false
  other_line line gone = elim (cases_Bool (has_name name line)) [
    | inr fails ↦ fails
    | inl is ↦
        let same : str_to_ascii_lowercase line.name ≡ name = (bytes_eq-Decides (str_to_ascii_lowercase line.name) name).0 is in
        absurd (false≢true (sym keeps ∙ ap refused (sym same) ∙ gone))
  ]

  same_name : (line : FieldLine) → has_name name (raw_line (field_of_line line)) ≡ has_name name line
  same_name line = ap (λ (text : List ℕ). bytes_eq text name) (lowered_twice line.name)

  kept_there : (lines : List FieldLine) → is_there (map raw_line (kept lines)) name ≡ is_there lines name
  kept_there [] = refl
  kept_there (line ∷ lines) = elim (cases_Bool (refused (str_to_ascii_lowercase line.name))) [
    | inl gone ↦ rw (gone, other_line line gone) (kept_there lines)
    | inr keep ↦ rw keep (λ i. same_name line i || kept_there lines i)
  ]

  kept_values : (lines : List FieldLine) → values (map raw_line (kept lines)) name ≡ values lines name
  kept_values [] = refl
  kept_values (line ∷ lines) = elim (cases_Bool (refused (str_to_ascii_lowercase line.name))) [
    | inl gone ↦ rw (gone, other_line line gone) (kept_values lines)
    | inr keep ↦ elim (cases_Bool (has_name name line)) [
      | inl is ↦ rw (keep, same_name line ∙ is, is) (λ i. value_of_value line.raw i ∷ kept_values lines i)
      | inr other ↦ rw (keep, same_name line ∙ other, other) (kept_values lines)
    ]
  ]

-- the pseudo-header fields are those of the control data
pub are_pseudo : (control : Control) → ArePseudo (pseudo_fields control) control
are_pseudo (request c) = record {
  count = refl;
  method = (0, omega arith, refl);
  scheme = (1, omega arith, refl);
  authority = (2, omega arith, refl);
  path = (3, omega arith, refl);
}
are_pseudo (response code) = refl

pub begins : (control : Control) (others : List Field) → HasPseudo (pseudo_fields control ++ others) control others
begins control others = record { pseudo = pseudo_fields control; are = are_pseudo control; joined = refl }

-- the lines of a field name in a message and in its list
side_values : (control : Control) (message : Message) (side : Side) (name : List ℕ) → is_field_name name ≡ true → is_refused_name name ≡ false → HasSameValues (lines_on side message) (raw_lines (list_with control message) side) name
side_values control message Trailer name is keeps =
    let lines = lines_on Trailer message in
    record { there = kept_there is_refused_name name keeps lines; same = kept_values is_refused_name name keeps lines }
side_values control message Header name is keeps =
    let lines = lines_on Header message in
    let fields = kept_fields lines in
    same_after lines (map raw_line fields) (map raw_line (pseudo_fields control ++ fields)) name
    (record { there = kept_there is_refused_name name keeps lines; same = kept_values is_refused_name name keeps lines })
    (list_values (pseudo_fields control ++ fields) (pseudo_fields control) fields control name (are_pseudo control) refl is)

-- ---- the path of a target

-- the path, `/` where it is empty
abbrev pub written : List ℕ → List ℕ
written path = if length path == 0 then codes "/" else path

pub written_full : (c : ℕ) (path : List ℕ) → written (c ∷ path) ≡ c ∷ path
written_full c path =
    let full : (length (c ∷ path) == 0) ≡ false = false_from_ne_true (length (c ∷ path) == 0) (λ is. omega (arith, eqb-true (length (c ∷ path)) 0 is)) in
    rw full refl

written_twice : (path : List ℕ) → written (written path) ≡ written path
written_twice [] = written_full (byte "/") []
written_twice (c ∷ path) = ap written (written_full c path)

path_is : (target : TargetParts) → has_path target.form ≡ true → path_of target ≡ Some (written target.path)
path_is target has = rw has refl

query_is : (target : TargetParts) → has_path target.form ≡ true → query_of target ≡ Some target.query
query_is target has = rw has refl

no_mark : (c : ℕ) → is_path_byte c ≡ true → not (c == byte "?") ≡ true
no_mark c is =
    let none : (byte "?" == c) ≡ false = (or_parts (byte "?" == c) ((byte "#" == c) || false) (not-true (is_one_of (codes "?#") c) is)).0 in
    ap not (false_from_ne_true (c == byte "?") (λ e. false≢true (sym none ∙ eq-eqb (byte "?") c (sym (eqb-true c (byte "?") e)))))

written_no_mark : (path : List ℕ) → list_all is_path_byte path ≡ true → list_all (λ c. not (c == byte "?")) (written path) ≡ true
written_no_mark [] all = refl
written_no_mark (c ∷ path) all = ap (list_all (λ d. not (d == byte "?"))) (written_full c path) ∙ all_implied is_path_byte (λ d. not (d == byte "?")) no_mark (c ∷ path) all

path_bytes : (path : List ℕ) → is_path path ≡ true → list_all is_path_byte path ≡ true
path_bytes [] is = refl
path_bytes (c ∷ path) is = (and_parts (c == byte "/") (list_all is_path_byte (c ∷ path)) is).1

not_form : (parts : TargetParts) (other : TargetParts) → parts ≡ other → has_path other.form ≡ false → has_path parts.form ≡ true → ⊥
not_form parts other same fails has = false≢true (sym fails ∙ ap (λ (p : TargetParts). has_path p.form) (sym same) ∙ has)

target_path : (method target : List ℕ) (parts : TargetParts) → SpellsTarget method target parts → has_path parts.form ≡ true → list_all is_path_byte parts.path ≡ true
target_path method target parts (inl (is, form)) has = absurd (not_form parts _ form.parts_are refl has)
target_path method target parts (inr (is, inl form)) has = origin parts.path form.path
  where
    origin : (path : List ℕ) → is_absolute_path path ≡ true → list_all is_path_byte path ≡ true
    origin [] is = refl
    origin (c ∷ path) is = (and_parts (c == byte "/") (list_all is_path_byte (c ∷ path)) is).1
target_path method target parts (inr (is, inr (inl form))) has = path_bytes parts.path form.path
target_path method target parts (inr (is, inr (inr form))) has = absurd (not_form parts _ form.parts_are refl has)

-- ---- what is drawn from the target

lower_scheme : (scheme : Scheme) → str_to_ascii_lowercase (scheme_text scheme) ≡ scheme_text scheme
lower_scheme Http = refl
lower_scheme Https = refl

scheme_lower : (scheme : Scheme) (given : Option (List ℕ)) → str_to_ascii_lowercase (unwrap_or (option_map str_to_ascii_lowercase given) (scheme_text scheme)) ≡ unwrap_or (option_map str_to_ascii_lowercase given) (scheme_text scheme)
scheme_lower scheme None = lower_scheme scheme
scheme_lower scheme (Some text) = lowered_twice text

module _ (context : MessageContext) (line : RequestLine) (c : RequestControl) (x : IsRequestOf context line c) where
  abbrev sent : RequestParts
  sent = request_parts context line

  form_has : has_path x.target.form ≡ true
  form_has = elim (cases_Bool (has_path x.target.form)) [
    | inl has ↦ has
    | inr fails ↦ absurd (no_path x.target x.path fails x.path_is)
  ]

  path_written : written x.target.path ≡ x.path
  path_written = some_is (written x.target.path) x.path (sym (path_is x.target form_has) ∙ x.path_is)

  -- the parts of the list's target URI
  abbrev uri : TargetParts
  uri = record { form = Absolute; scheme = Some c.scheme; authority = Some c.authority; path = x.path; query = x.target.query }

  is_uri : IsTargetOf c uri
  is_uri = record {
    form = refl;
    scheme = refl;
    authority = refl;
    no_mark = ap (list_all (λ c. not (c == byte "?"))) (sym path_written) ∙ written_no_mark x.target.path (target_path line.method line.target x.target x.spells form_has);
    joined = x.joined;
  }

  scheme_same : scheme_of sent x.target ≡ scheme_of (parts_of c) uri
  scheme_same = sym (ap str_to_ascii_lowercase x.scheme ∙ scheme_lower context.scheme x.target.scheme)

  path_same : path_of x.target ≡ path_of uri
  path_same = x.path_is ∙ ap (λ (p : List ℕ). Some p) (sym path_written ∙ sym (written_twice x.target.path) ∙ ap written path_written)

  query_same : query_of x.target ≡ query_of uri
  query_same = query_is x.target form_has

  uri_there : (of_target : TargetName) (params : List (Pair BareItem)) (result : Result (List ℕ) Lack) → FormedRow of_target params sent result → UriRow c params of_target result
  uri_there of_target params result (inl (found, spells, row)) =
      let same = one_target line.method line.target found x.target spells x.spells in
      let own = subst (λ (t : TargetParts). TargetRow of_target params sent t result) same row in
      (uri, is_uri, target_row sent (parts_of c) x.target uri scheme_same x.named path_same query_same refl of_target params result own)
  uri_there of_target params result (inr (none, is)) = absurd (none x.target x.spells)

  uri_back : (of_target : TargetName) (params : List (Pair BareItem)) (result : Result (List ℕ) Lack) → UriRow c params of_target result → FormedRow of_target params sent result
  uri_back of_target params result (found, is, row) =
      let same : found ≡ uri = one_uri c found is ∙ sym (one_uri c uri is_uri) in
      let own = subst (λ (t : TargetParts). TargetRow of_target params (parts_of c) t result) same row in
      inl (x.target, x.spells, target_row (parts_of c) sent uri x.target (sym scheme_same) (sym x.named) (sym path_same) (sym query_same) refl of_target params result own)

-- ---- derived components

module _ (context : MessageContext) (params : List (Pair BareItem)) (result : Result (List ℕ) Lack) where
  abbrev Sent : DerivedName → StartLine → Type 0
  Sent derived line = StartRow derived params context.scheme (lines_on Header context.message) line result

  start_there : (line : StartLine) (control : Control) → IsControlOf context line control → (derived : DerivedName) → derived ≢ RequestTarget → Sent derived line → ControlRow control params derived result
  start_there (start.request line) (request c) x Method other row = row ∙ ap Ok (sym x.method)
  start_there (start.request line) (request c) x RequestTarget other row = absurd (other refl)
  start_there (start.request line) (request c) x Status other row = row
  start_there (start.request line) (request c) x (OfTarget of_target) other row = uri_there context line c x of_target params result row
  start_there (start.request line) (response code) x derived other row = absurd x
  start_there (start.status line) (request c) x derived other row = absurd x
  start_there (start.status line) (response code) x Status other row = row ∙ ap Ok (sym x)
  start_there (start.status line) (response code) x Method other row = row
  start_there (start.status line) (response code) x RequestTarget other row = row
  start_there (start.status line) (response code) x (OfTarget of_target) other row = row

  start_back : (line : StartLine) (control : Control) → IsControlOf context line control → (derived : DerivedName) → derived ≢ RequestTarget → ControlRow control params derived result → Sent derived line
  start_back (start.request line) (request c) x Method other row = row ∙ ap Ok x.method
  start_back (start.request line) (request c) x RequestTarget other row = absurd (other refl)
  start_back (start.request line) (request c) x Status other row = row
  start_back (start.request line) (request c) x (OfTarget of_target) other row = uri_back context line c x of_target params result row
  start_back (start.request line) (response code) x derived other row = absurd x
  start_back (start.status line) (request c) x derived other row = absurd x
  start_back (start.status line) (response code) x Status other row = row ∙ ap Ok x
  start_back (start.status line) (response code) x Method other row = row
  start_back (start.status line) (response code) x RequestTarget other row = row
  start_back (start.status line) (response code) x (OfTarget of_target) other row = row

  abbrev IsOther : Option DerivedName → Type 0
  IsOther derived = derived ≢ Some RequestTarget

  other_name : (derived : DerivedName) → IsOther (Some derived) → derived ≢ RequestTarget
  other_name derived other e = other (ap (λ (d : DerivedName). Some d) e)

  module _ (control : Control) (x : IsControlOf context context.message.head.start control) where
    abbrev fields : List Field
    fields = pseudo_fields control ++ kept_fields (lines_on Header context.message)

    derived_there : (derived : Option DerivedName) → IsOther derived → DerivedRow derived params context.scheme (lines_on Header context.message) context.message.head.start result
        → NamedRow (λ name given. PseudoRow fields params name given) derived result
    derived_there None other row = row
    derived_there (Some derived) other row = (
      control,
      kept_fields (lines_on Header context.message),
      begins control (kept_fields (lines_on Header context.message)),
      start_there context.message.head.start control x derived (other_name derived other) row,
    )

    derived_back : (derived : Option DerivedName) → IsOther derived → NamedRow (λ name given. PseudoRow fields params name given) derived result
        → DerivedRow derived params context.scheme (lines_on Header context.message) context.message.head.start result
    derived_back None other row = row
    derived_back (Some derived) other (c, xs, has, row) =
        let same = one_pseudo fields c control xs (kept_fields (lines_on Header context.message)) has (begins control (kept_fields (lines_on Header context.message))) in
        start_back context.message.head.start control x derived (other_name derived other) (subst (λ (d : Control). ControlRow d params derived result) same.0 row)

-- a name of another derived component
no_request_target : (method target status : Bool) (other : Option TargetName) → target ≡ false → (if method then Some Method else if target then Some RequestTarget else if status then Some Status else option_map OfTarget other) ≢ Some RequestTarget
no_request_target true target status other fails e = absurd (cc e)
no_request_target false true status other fails e = absurd (false≢true (sym fails))
no_request_target false false true other fails e = absurd (cc e)
no_request_target false false false None fails e = absurd (cc e)
no_request_target false false false (Some name) fails e = absurd (cc e)

is_other : (text : List ℕ) → text ≢ codes "@request-target" → derived_of text ≢ Some RequestTarget
is_other text apart = no_request_target (bytes_eq text (codes "@method")) (bytes_eq text (codes "@request-target")) (bytes_eq text (codes "@status")) (target_name_of text) none
  where
    none : bytes_eq text (codes "@request-target") ≡ false
    none = elim (cases_Bool (bytes_eq text (codes "@request-target"))) [
      | inr fails ↦ fails
      | inl same ↦ absurd (apart ((bytes_eq-Decides text (codes "@request-target")).0 same))
    ]

-- ---- components

module _ (context : MessageContext) (control : Control) (x : IsControlOf context context.message.head.start control) (id : ComponentId) (result : Result (List ℕ) Lack) (own : IsOwn id) (keeps : is_refused_name id.name ≡ false) where
  abbrev list : FieldList
  list = list_with control context.message

  there : ComesTo context id result → ListComesTo list context.types id result
  there row = elim (cases_Bool (is_field_name id.name)) [
    | inl is ↦ rw is (field_row (lines_on (side_of id.params) context.message) (raw_lines list (side_of id.params)) id.name (side_values control context.message (side_of id.params) id.name is keeps) id.params (kind_in context.types id.name) result
        (rw (own.no_req, is) at row))
    | inr fails ↦ rw fails (derived_there context id.params result control x (derived_of id.name) (is_other id.name own.no_target) (rw (own.no_req, fails) at row))
  ]

  back : ListComesTo list context.types id result → ComesTo context id result
  back row = elim (cases_Bool (is_field_name id.name)) [
    | inl is ↦ rw (own.no_req, is) (field_row (raw_lines list (side_of id.params)) (lines_on (side_of id.params) context.message) id.name
        (same_back (lines_on (side_of id.params) context.message) (raw_lines list (side_of id.params)) id.name (side_values control context.message (side_of id.params) id.name is keeps)) id.params (kind_in context.types id.name) result
        (rw is at row))
    | inr fails ↦ rw (own.no_req, fails) (derived_back context id.params result control x (derived_of id.name) (is_other id.name own.no_target) (rw fails at row))
  ]

pub list_has_the_same : ListHasTheSame
list_has_the_same context given id result turns own keeps = (
  λ row. back context turns.control turns.is_of id result own keeps (subst (λ (l : FieldList). ListComesTo l context.types id result) turns.is row),
  λ row. subst (λ (l : FieldList). ListComesTo l context.types id result) (sym turns.is) (there context turns.control turns.is_of id result own keeps row),
)
