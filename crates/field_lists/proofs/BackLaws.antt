-- A list's message is turned back into the list.
use Rattle.std.proofs.Common.{◌≡◌, ℕ, Bool, true, false, not, ◌==◌, Some, Result, Ok, List, [], ◌∷◌, ◌++◌, length, map, refl, sym, ap, subst, ◌∙◌, inl, inr, codes}
use Rattle.std.specs.Prelude.{filter, nat_lt, if◌then◌else◌}
use Rattle.std.specs.List.{list_all}
use Rattle.std.specs.Str.{str_to_ascii_lowercase}
use Rattle.std.proofs.lemmas.Bool.{and_parts, false≢true}
use Rattle.std.proofs.lemmas.List.{append-nil}
use Rattle.msg_body.specs.Bodies.{content_in, trailers_in}
use Rattle.msg_body.specs.Messages.{Message}
use Rattle.framing.specs.Chunks.{content_of}
use Rattle.framing.specs.Sizes.{chunk_of}
use Rattle.derived_values.specs.Authorities.{IsAuthorityValue}
use Rattle.derived_values.specs.Targets.{is_absolute_path}
use Rattle.component_ids.specs.Types.{KindMap}
use Rattle.component_ids.specs.declared.scheme.Scheme.{Scheme}
use Rattle.derived_values.specs.Derived.{AuthorityRow, scheme_text, sole_value}
use Rattle.derived_values.specs.declared.lack.Lack.{Lack}
use Rattle.component_values.specs.Context.{MessageContext}
use Rattle.list_texts.specs.declared.list.Field.{Field}
use Rattle.list_texts.specs.declared.list.FieldList.{FieldList}
use Rattle.field_lists.specs.Controls.{Control, RequestControl, IsAllowedRequest, request, response, field_of}
use Rattle.field_lists.specs.FromMessages.{IsControlOf, TurnsIntoList, field_of_line, kept_fields, list_with, pseudo_fields}
use Rattle.field_lists.specs.Laws.{HasAuthority, TurnsBack, alone, normal_field, normal_list}
use Rattle.field_lists.specs.ToCauses.{is_good, is_refused_name}
use Rattle.field_lists.specs.ToMessages.{body_with, coding_lines, host_lines, is_in_chunks, line_of_field, message_with, one_chunk, start_of}
use Rattle.field_lists.proofs.ControlOrNone.{text_or_not}
use Rattle.field_lists.proofs.FromParts.{kept_joined}
use Rattle.field_lists.proofs.LineNames.{good_parts, lower_name, spaced}
use Rattle.field_lists.proofs.ListRows.{written_full}
use Rattle.field_lists.proofs.MessageRows.{Turned, no_trailers, none_in, turned}
use Rattle.field_lists.proofs.TargetRows.{cut_of, host_values, is_origin, origin_of, spells_origin}

-- ---- fields

keep_first : (p : Field → Bool) (f : Field) (fs : List Field) → p f ≡ true → filter p (f ∷ fs) ≡ f ∷ filter p fs
keep_first p f fs is = rw is refl

-- the line of a field is turned back into the field
kept_good : (fields : List Field) → list_all is_good fields ≡ true → kept_fields (map line_of_field fields) ≡ map normal_field fields
kept_good [] all = refl
kept_good (f ∷ fs) all =
    let both = and_parts (is_good f) (list_all is_good fs) all in
    let good = good_parts f both.0 in
    let lower : str_to_ascii_lowercase f.name ≡ f.name = lower_name f.name good.name in
    let keeps : is_refused_name (str_to_ascii_lowercase f.name) ≡ false = ap is_refused_name lower ∙ good.kept in
    keep_first (λ field. not (is_refused_name field.name)) (field_of_line (line_of_field f)) (map field_of_line (map line_of_field fs)) (ap not keeps)
    ∙ (λ i. field_of (lower i) (spaced f.value i) ∷ kept_good fs both.1 i)

host_goes : (control : Control) → kept_fields (host_lines control) ≡ []
host_goes (request c) = refl
host_goes (response code) = refl

coding_goes : (in_chunks : Bool) → kept_fields (coding_lines in_chunks) ≡ []
coding_goes true = refl
coding_goes false = refl

head_fields : (control : Control) (others : List Field) (in_chunks : Bool) → list_all is_good others ≡ true → kept_fields (host_lines control ++ (map line_of_field others ++ coding_lines in_chunks)) ≡ map normal_field others
head_fields control others in_chunks good =
    kept_joined (host_lines control) (map line_of_field others ++ coding_lines in_chunks)
    ∙ (λ i. host_goes control i ++ kept_joined (map line_of_field others) (coding_lines in_chunks) i)
    ∙ (λ i. kept_good others good i ++ coding_goes in_chunks i)
    ∙ append-nil (map normal_field others)

-- ---- the content and the trailer fields

chunk_by : (some : Bool) (content : List ℕ) → nat_lt 0 (length content) ≡ some → content_of (record { chunks = if some then chunk_of content ∷ [] else []; last = codes "0" }) ≡ content
chunk_by true content is = append-nil content
chunk_by false content is = sym (none_in content is)

chunk_content : (content : List ℕ) → content_of (one_chunk content) ≡ content
chunk_content content = chunk_by (nat_lt 0 (length content)) content refl

body_content : (in_chunks : Bool) (list : FieldList) → content_in (body_with in_chunks list) ≡ list.content
body_content true list = chunk_content list.content
body_content false list = refl

body_trailers : (in_chunks : Bool) (list : FieldList) → list_all is_good list.trailers ≡ true → (in_chunks ≡ false → list.trailers ≡ []) → kept_fields (trailers_in (body_with in_chunks list)) ≡ map normal_field list.trailers
body_trailers true list good none = kept_good list.trailers good
body_trailers false list good none = sym (ap (map normal_field) (none refl))

-- ---- the control data

-- a path that begins with `/` is written as it is
written_is : (path : List ℕ) → is_absolute_path path ≡ true → (if length path == 0 then codes "/" else path) ≡ path
written_is [] is = absurd (false≢true is)
written_is (c ∷ path) is = written_full c path

module _ (list : FieldList) (scheme : Scheme) (types : KindMap) (others : List Field) where
  -- the message of the list, by its control data
  abbrev sent : Control → MessageContext
  sent control = alone (message_with control others list) scheme types

  request_back : (c : RequestControl) → Turned list scheme (request c) others → HasAuthority (request c) → IsControlOf (sent (request c)) (start_of (request c)) (request c)
  request_back c t (value, is) =
      let allowed : IsAllowedRequest c = t.is_of.allowed in
      let in_chunks : Bool = is_in_chunks (request c) others list in
      let same_scheme : c.scheme ≡ scheme_text scheme = elim (text_or_not c.scheme (scheme_text scheme)) [ inl same ↦ same | inr other ↦ absurd (t.same_scheme other) ] in
      let named = ap sole_value (host_values c others in_chunks allowed.authority t.good) in
      record {
        target = origin_of c;
        spells = spells_origin c allowed;
        path = (cut_of c.path).path;
        path_is = ap (λ (p : List ℕ). Some p) (written_is (cut_of c.path).path (is_origin c allowed.path).path);
        named = named;
        authority_value = value;
        has_authority = subst (λ (n : Result (List ℕ) Lack). AuthorityRow (scheme_text scheme) n (Ok value)) (sym named) (subst (λ (s : List ℕ). IsAuthorityValue s c.authority value) same_scheme is);
        method = refl;
        scheme = same_scheme;
        joined = (cut_of c.path).joined;
      }

  control_back : (control : Control) → Turned list scheme control others → HasAuthority control → IsControlOf (sent control) (start_of control) control
  control_back (request c) t has = request_back c t has
  control_back (response code) t has = refl

  list_back : (control : Control) → Turned list scheme control others → normal_list control others list ≡ list_with control (message_with control others list)
  list_back control t =
      let in_chunks : Bool = is_in_chunks control others list in
      let fields = sym (head_fields control others in_chunks t.good) in
      let content = sym (body_content in_chunks list) in
      let trailers = sym (body_trailers in_chunks list t.good_trailers (λ plain. no_trailers control others list plain t.taken)) in
      λ i. record { fields = pseudo_fields control ++ fields i; content = content i; trailers = trailers i }

  back : (control : Control) → Turned list scheme control others → HasAuthority control → TurnsIntoList (sent control) (normal_list control others list)
  back control t has = record { control = control; is_of = control_back control t has; is = list_back control t }

pub turns_back : TurnsBack
turns_back list scheme message types into has =
    subst (λ (m : Message). TurnsIntoList (alone m scheme types) (normal_list into.control into.others list)) (sym into.is)
    (back list scheme types into.others into.control (turned list scheme message into) has)
