-- Of a list and of its message a component comes to the same.
use Rattle.std.proofs.Common.{◌≡◌, ◌≢◌, ℕ, Bool, true, false, not, ◌&&◌, Option, Some, None, Result, Ok, List, [], ◌∷◌, ◌++◌, length, map, refl, sym, subst, ◌∙◌, inl, inr, arith, codes}
use Rattle.std.specs.Prelude.{nat_lt, if◌then◌else◌}
use Rattle.std.specs.List.{join_by, list_all}
use Rattle.std.proofs.lemmas.Bool.{cases_Bool, false_from_ne_true, ltb-false, not-false, or_parts}
use Rattle.byte_grammar.proofs.ListLaws.{all_parts}
use Rattle.sfv_text.specs.declared.pair.Pair.{Pair}
use Rattle.sfv_text.specs.declared.value.BareItem.{BareItem}
use Rattle.msg_head.specs.declared.error.Side.{Side}
use Rattle.msg_head.specs.declared.error.Side.TheVariants.{Header, Trailer}
use Rattle.msg_head.specs.Lines.{FieldLine}
use Rattle.msg_head.specs.Values.{is_there}
use Rattle.msg_body.specs.Bodies.{trailers_in}
use Rattle.msg_body.specs.Messages.{Message}
use Rattle.msg_body.specs.Views.{lines_on}
use Rattle.msg_body.specs.SameFields.{HasSameValues}
use Rattle.component_ids.specs.Table.{is_field_name}
use Rattle.component_ids.specs.Types.{KindMap, kind_in}
use Rattle.component_ids.specs.declared.id.ComponentId.{ComponentId}
use Rattle.component_ids.specs.declared.scheme.Scheme.{Scheme}
use Rattle.component_ids.specs.declared.types.FieldKind.{FieldKind}
use Rattle.derived_values.specs.Derived.{DerivedRow, NamedRow, StartRow, derived_of, scheme_text}
use Rattle.derived_values.specs.declared.derived.DerivedName.{DerivedName}
use Rattle.derived_values.specs.declared.lack.Lack.{Lack}
use Rattle.component_values.specs.Forms.{Form, form_of}
use Rattle.component_values.specs.Forms as form
use Rattle.component_values.specs.Values.{ComesTo, FieldRow, FormRow, KeyRow, KindRow, LineRow, byte_sequences, plain_value, side_of}
use Rattle.list_texts.specs.declared.list.Field.{Field}
use Rattle.list_texts.specs.declared.list.FieldList.{FieldList}
use Rattle.field_lists.specs.declared.to_fault.ToFault.TheVariants.{SchemeOther, BadField, BodyRefused}
use Rattle.field_lists.specs.Controls.{Control, RequestControl, request, response, IsOf, is_request, is_without_content}
use Rattle.field_lists.specs.Laws.{IsOwn, MessageHasTheSame, alone}
use Rattle.field_lists.specs.ListValues.{ControlRow, ListComesTo, PseudoRow, raw_line, raw_lines}
use Rattle.field_lists.specs.ToCauses.{IsOtherScheme, TurnsInto, is_body_refused, is_good}
use Rattle.field_lists.specs.ToMessages.{body_with, has_body, has_field, head_lines, is_in_chunks, line_of_field, message_with, start_of}
use Rattle.field_lists.proofs.BadFields.{all_turned}
use Rattle.field_lists.proofs.ControlOrNone.{text_or_not}
use Rattle.field_lists.proofs.LineNames.{head_values, list_values, same_there, same_values}
use Rattle.field_lists.proofs.PseudoLaws.{one_pseudo}
use Rattle.field_lists.proofs.TargetRows.{FitsRequest, request_back, request_there}

-- ---- fields

-- a field depends on the values of its name alone
module _ (lines others : List FieldLine) (name : List ℕ) (same : HasSameValues lines others name) where
  form_row : (form : Form) (field : Option FieldKind) (result : Result (List ℕ) Lack) → FormRow form field lines name result → FormRow form field others name result
  form_row form.wrapped field result row = subst (λ (vs : List (List ℕ)). result ≡ Ok (byte_sequences vs)) (sym same.same) row
  form_row (form.member key) field result row = subst (λ (vs : List (List ℕ)). KeyRow field key (join_by (λ text. text) (codes ", ") vs) result) (sym same.same) row
  form_row form.strict field result row = subst (λ (vs : List (List ℕ)). KindRow field (join_by (λ text. text) (codes ", ") vs) result) (sym same.same) row
  form_row form.plain field result row = subst (λ (vs : List (List ℕ)). result ≡ plain_value (join_by (λ text. text) (codes ", ") vs)) (sym same.same) row

  line_row : (is : Bool) (params : List (Pair BareItem)) (field : Option FieldKind) (result : Result (List ℕ) Lack) → LineRow is params field lines name result → LineRow is params field others name result
  line_row false params field result row = row
  line_row true params field result row = form_row (form_of params) field result row

  pub field_row : (params : List (Pair BareItem)) (field : Option FieldKind) (result : Result (List ℕ) Lack) → FieldRow params field lines name result → FieldRow params field others name result
  field_row params field result row =
      subst (λ (is : Bool). LineRow is params field others name result) (sym same.there) (line_row (is_there lines name) params field result row)

pub same_back : (lines others : List FieldLine) (name : List ℕ) → HasSameValues lines others name → HasSameValues others lines name
same_back lines others name same = record { there = sym same.there; same = sym same.same }

pub same_after : (lines others further : List FieldLine) (name : List ℕ) → HasSameValues lines others name → HasSameValues others further name → HasSameValues lines further name
same_after lines others further name one two = record { there = two.there ∙ one.there; same = two.same ∙ one.same }

-- ---- a list that is turned

-- nothing that is empty has bytes
pub none_in : {X : Type 0} (xs : List X) → nat_lt 0 (length xs) ≡ false → xs ≡ []
none_in [] none = refl
none_in (x ∷ xs) none = let some = ltb-false 0 (length (x ∷ xs)) none in absurd (omega arith)

-- what isn't sent in chunks has no trailer fields
pub no_trailers : (control : Control) (others : List Field) (list : FieldList) → is_in_chunks control others list ≡ false → is_body_refused control others list ≡ false → list.trailers ≡ []
no_trailers control others list plain taken = elim (cases_Bool (has_field (codes "content-length") others)) [
  | inl has ↦
      let parts = or_parts (is_without_content control && has_body list) (has_field (codes "content-length") others && nat_lt 0 (length list.trailers)) taken in
      none_in list.trailers (rw has at parts.1)
  | inr fails ↦
      let none : has_body list ≡ false = no_body control (rw fails at plain) (or_parts (is_without_content control && has_body list) (has_field (codes "content-length") others && nat_lt 0 (length list.trailers)) taken).0 in
      none_in list.trailers (or_parts (nat_lt 0 (length list.content)) (nat_lt 0 (length list.trailers)) none).1
]
  where
    no_body : (c : Control) → (if is_request c then has_body list else not (is_without_content c)) ≡ false → (is_without_content c && has_body list) ≡ false → has_body list ≡ false
    no_body (request r) plain taken = plain
    no_body (response code) plain taken = rw (not-false (is_without_content (response code)) plain) at taken

-- what the laws take of a list that is turned
pub record Turned (list : FieldList) (scheme : Scheme) (control : Control) (others : List Field) : Type 0 where
  pub is_of : IsOf list control others
  pub good : list_all is_good others ≡ true
  pub good_trailers : list_all is_good list.trailers ≡ true
  pub taken : is_body_refused control others list ≡ false
  pub same_scheme : ¬ IsOtherScheme scheme control

pub are_good : (list : FieldList) (scheme : Scheme) (message : Message) (t : TurnsInto list scheme message) → list_all is_good (t.others ++ list.trailers) ≡ true
are_good list scheme message t = all_turned list t.is_of.begins.pseudo t.others t.is_of.begins.joined (λ index bad. t.none (BadField index) (t.control, t.others, t.is_of, bad))

pub turned : (list : FieldList) (scheme : Scheme) (message : Message) (t : TurnsInto list scheme message) → Turned list scheme t.control t.others
turned list scheme message t =
    let both = all_parts is_good t.others list.trailers (are_good list scheme message t) in
    record {
      is_of = t.is_of;
      good = both.0;
      good_trailers = both.1;
      taken = false_from_ne_true (is_body_refused t.control t.others list) (λ refused. t.none BodyRefused (t.control, t.others, t.is_of, refused));
      same_scheme = λ other. t.none SchemeOther (t.control, t.others, t.is_of, other);
    }

-- ---- the lines of a name

module _ (list : FieldList) (scheme : Scheme) (control : Control) (others : List Field) (t : Turned list scheme control others) where
  header_values : (name : List ℕ) → is_field_name name ≡ true → name ≢ codes "host" → name ≢ codes "transfer-encoding"
      → HasSameValues (raw_lines list Header) (lines_on Header (message_with control others list)) name
  header_values name is no_host no_coding =
      let begins = t.is_of.begins in
      let listed = list_values list.fields begins.pseudo others control name begins.are begins.joined is in
      let head = head_values control others (is_in_chunks control others list) name no_host no_coding in
      let fields : HasSameValues (map raw_line others) (map line_of_field others) name = record { there = same_there others name; same = same_values others name } in
      same_after (map raw_line list.fields) (map raw_line others) (lines_on Header (message_with control others list)) name
      (same_back (map raw_line others) (map raw_line list.fields) name listed)
      (same_after (map raw_line others) (map line_of_field others) (lines_on Header (message_with control others list)) name fields head)

  trailer_at : (name : List ℕ) (in_chunks : Bool) → (in_chunks ≡ false → list.trailers ≡ []) → HasSameValues (map raw_line list.trailers) (trailers_in (body_with in_chunks list)) name
  trailer_at name true none = record { there = same_there list.trailers name; same = same_values list.trailers name }
  trailer_at name false none = subst (λ (fs : List Field). HasSameValues (map raw_line fs) [] name) (sym (none refl)) (record { there = refl; same = refl })

  trailer_values : (name : List ℕ) → HasSameValues (raw_lines list Trailer) (lines_on Trailer (message_with control others list)) name
  trailer_values name = trailer_at name (is_in_chunks control others list) (λ plain. no_trailers control others list plain t.taken)

  pub side_values : (side : Side) (name : List ℕ) → is_field_name name ≡ true → name ≢ codes "host" → name ≢ codes "transfer-encoding"
      → HasSameValues (raw_lines list side) (lines_on side (message_with control others list)) name
  side_values Header name is no_host no_coding = header_values name is no_host no_coding
  side_values Trailer name is no_host no_coding = trailer_values name

-- ---- derived components

fits : (list : FieldList) (scheme : Scheme) (c : RequestControl) (others : List Field) → Turned list scheme (request c) others → FitsRequest c others scheme
fits list scheme c others t = record {
  allowed = t.is_of.allowed;
  same_scheme = elim (text_or_not c.scheme (scheme_text scheme)) [ inl same ↦ same | inr other ↦ absurd (t.same_scheme other) ];
  good = t.good;
}

module _ (list : FieldList) (scheme : Scheme) (others : List Field) (params : List (Pair BareItem)) (result : Result (List ℕ) Lack) where
  start_there : (control : Control) → Turned list scheme control others → (derived : DerivedName) → ControlRow control params derived result
      → StartRow derived params scheme (head_lines control others (is_in_chunks control others list)) (start_of control) result
  start_there (request c) t derived row = request_back c others (is_in_chunks (request c) others list) scheme (fits list scheme c others t) derived params result row
  start_there (response code) t derived row = row

  start_back : (control : Control) → Turned list scheme control others → (derived : DerivedName) → StartRow derived params scheme (head_lines control others (is_in_chunks control others list)) (start_of control) result
      → ControlRow control params derived result
  start_back (request c) t derived row = request_there c others (is_in_chunks (request c) others list) scheme (fits list scheme c others t) derived params result row
  start_back (response code) t derived row = row

  pub derived_there : (control : Control) → Turned list scheme control others → (derived : Option DerivedName) → NamedRow (λ name given. PseudoRow list.fields params name given) derived result
      → DerivedRow derived params scheme (head_lines control others (is_in_chunks control others list)) (start_of control) result
  derived_there control t None row = row
  derived_there control t (Some derived) (c, xs, begins, row) =
      let same = one_pseudo list.fields c control xs others begins t.is_of.begins in
      start_there control t derived (subst (λ (d : Control). ControlRow d params derived result) same.0 row)

  pub derived_back : (control : Control) → Turned list scheme control others → (derived : Option DerivedName) → DerivedRow derived params scheme (head_lines control others (is_in_chunks control others list)) (start_of control) result
      → NamedRow (λ name given. PseudoRow list.fields params name given) derived result
  derived_back control t None row = row
  derived_back control t (Some derived) row = (control, others, t.is_of.begins, start_back control t derived row)

-- ---- components

module _ (list : FieldList) (scheme : Scheme) (control : Control) (others : List Field) (types : KindMap) (id : ComponentId) (result : Result (List ℕ) Lack)
    (t : Turned list scheme control others) (own : IsOwn id) (no_host : id.name ≢ codes "host") (no_coding : id.name ≢ codes "transfer-encoding") where
  abbrev whole : Message
  whole = message_with control others list

  there : ListComesTo list types id result → ComesTo (alone whole scheme types) id result
  there row = elim (cases_Bool (is_field_name id.name)) [
    | inl is ↦ rw (own.no_req, is) (field_row (raw_lines list (side_of id.params)) (lines_on (side_of id.params) whole) id.name
        (side_values list scheme control others t (side_of id.params) id.name is no_host no_coding) id.params (kind_in types id.name) result (rw is at row))
    | inr fails ↦ rw (own.no_req, fails) (derived_there list scheme others id.params result control t (derived_of id.name) (rw fails at row))
  ]

  back : ComesTo (alone whole scheme types) id result → ListComesTo list types id result
  back row = elim (cases_Bool (is_field_name id.name)) [
    | inl is ↦ rw is (field_row (lines_on (side_of id.params) whole) (raw_lines list (side_of id.params)) id.name
        (same_back (raw_lines list (side_of id.params)) (lines_on (side_of id.params) whole) id.name (side_values list scheme control others t (side_of id.params) id.name is no_host no_coding))
        id.params (kind_in types id.name) result (rw (own.no_req, is) at row))
    | inr fails ↦ rw fails (derived_back list scheme others id.params result control t (derived_of id.name) (rw (own.no_req, fails) at row))
  ]

pub message_has_the_same : MessageHasTheSame
message_has_the_same list scheme message types id result into own no_host no_coding =
    let t = turned list scheme message into in (
      λ row. subst (λ (m : Message). ComesTo (alone m scheme types) id result) (sym into.is) (there list scheme into.control into.others types id result t own no_host no_coding row),
      λ row. back list scheme into.control into.others types id result t own no_host no_coding (subst (λ (m : Message). ComesTo (alone m scheme types) id result) into.is row),
    )
