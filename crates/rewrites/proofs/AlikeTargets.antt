-- A target that changes keeps what a signature that permits it rests on.
use Rattle.std.proofs.Common.{◌≡◌, ◌≢◌, ◌↔◌, ◌<◌, ℕ, [], ◌∷◌, ◌++◌, ◌∙◌, append_assoc, arith, true, false, Option, Some, None, Result, Ok, Err, List, codes, length, get_or, refl, sym, subst, ap, inl, inr}
use Rattle.std.specs.List.{list_all}
use Rattle.std.specs.Prelude.{◌==◌, option_map, unwrap_or, if◌then◌else◌}
use Rattle.std.specs.Str.{str_to_ascii_lowercase}
use Rattle.std.proofs.lemmas.Bool.{and_parts, eqb-true, false_from_ne_true, false≢true}
use Rattle.std.proofs.lemmas.List.{append_cancel_right}
use Rattle.byte_grammar.specs.Classes.{is_visible}
use Rattle.byte_grammar.proofs.ListLaws.{all_implied}
use Rattle.sfv_text.specs.declared.pair.Pair.{Pair}
use Rattle.sfv_text.specs.declared.value.BareItem.{BareItem}
use Rattle.msg_head.specs.Lines.{FieldLine}
use Rattle.msg_head.specs.Starts.{RequestLine, StartLine, request}
use Rattle.msg_head.specs.Values.{value, values}
use Rattle.msg_head.specs.declared.error.Side.{Side}
use Rattle.msg_head.specs.declared.error.Side.TheVariants.{Header, Trailer}
use Rattle.framing.specs.Framings.{is_request}
use Rattle.msg_body.specs.Messages.{Message}
use Rattle.msg_body.specs.Views.{lines_on}
use Rattle.derived_values.specs.Authorities.{IsAuthorityValue}
use Rattle.derived_values.specs.Query.{matches}
use Rattle.derived_values.specs.Targets.{IsAbsoluteForm, IsOriginForm, IsQuery, has_path, is_absolute_path, is_path, is_scheme, TargetParts, SpellsTarget, path_of, query_of, query_text}
use Rattle.derived_values.specs.UriBytes.{is_query_byte}
use Rattle.derived_values.specs.declared.target.Form.TheVariants.{Origin as OriginForm, Absolute as AbsoluteForm}
use Rattle.derived_values.proofs.AuthorityParts.{one_authority_value}
use Rattle.derived_values.proofs.AuthorityValues.{has_itself_for_value, is_authority_in_target}
use Rattle.derived_values.proofs.TargetParts.{one_target}
use Rattle.component_ids.specs.Table.{has_param, is_field_name, is_listed}
use Rattle.component_ids.specs.declared.id.ComponentId.{ComponentId}
use Rattle.component_ids.specs.declared.params.SigParams.{SigParams}
use Rattle.component_ids.specs.declared.scheme.Scheme.{Scheme}
use Rattle.component_ids.specs.declared.scheme.Scheme.TheVariants.{Http, Https}
use Rattle.derived_values.specs.Derived.{FormedRow, named_authority, param_name, scheme_of, scheme_text, sole_value, AuthorityRow, DerivedRow, RequestParts, StartRow, derived_of, param_value}
use Rattle.derived_values.specs.Laws.{HasSameAsked, HaveSameParts}
use Rattle.derived_values.specs.declared.derived.DerivedName.{DerivedName}
use Rattle.derived_values.specs.declared.derived.DerivedName.TheVariants.{Method, RequestTarget, Status, OfTarget as FromTarget}
use Rattle.derived_values.specs.declared.derived.TargetName.TheVariants as name
use Rattle.derived_values.specs.declared.lack.Lack.{Lack}
use Rattle.derived_values.proofs.SameParts.{depends_on_parts}
use Rattle.component_values.specs.Alike.{AreSameIn, ComesToSame, is_own_field}
use Rattle.component_values.specs.Context.{MessageContext, answers_head}
use Rattle.component_values.specs.Forms.{form_of}
use Rattle.component_values.specs.Values.{side_of}
use Rattle.component_values.proofs.LineLaws.{depends_on_its_row, depends_on_own_lines}
use Rattle.signatures.specs.Signatures.{HasSignature, input_name, signature_name}
use Rattle.verdicts.specs.ContentDigest.{digest_text}
use Rattle.rewrite_script.specs.Lines.{is_query, is_visible_query_byte as is_written_byte}
use Rattle.rewrite_script.specs.declared.rewrite.WholeRewrite.TheVariants.{Query, Origin, Absolute}
use Rattle.line_rewrites.specs.Steps.{with_head}
use Rattle.rewrites.specs.Laws.{IsAlikeAfter, IsAlikeForLabel}
use Rattle.whole_rewrites.specs.Permitted.{HasSameMatches, MayChangeQuery, MayChangeTarget, NamesHost, whole_query_names}
use Rattle.whole_rewrites.specs.Targets.{query_in, HasTarget, HasOtherQuery, IsAbsoluteOf, IsOriginOf, with_target}
use Rattle.rewrites.proofs.AlikeParts.{come_to_same, derived_name, derived_named, field_itself, is_not_listed, read_alike, signed_as_well}
use Rattle.rewrites.proofs.CoveredFields.{same_in_form}

-- ---- the parts of a request

-- a request's line and the parts of its target are there once
line_is : (line other : RequestLine) → request other ≡ request line → other ≡ line
line_is line other same = cc

pub one_of : (message : Message) (line other : RequestLine) (parts others : TargetParts) → HasTarget message line parts → HasTarget message other others
    → (other ≡ line) × (others ≡ parts)
one_of message line other parts others one two =
    let same = line_is line other (sym two.start_is ∙ one.start_is) in
    (same, one_target line.method line.target others parts (subst (λ (l : RequestLine). SpellsTarget l.method l.target others) same two.spells) one.spells)

-- texts that are authorities of one value come to the same
pub authority_as_well : (scheme one other value : List ℕ) → IsAuthorityValue scheme one value → IsAuthorityValue scheme other value → (result : Result (List ℕ) Lack)
    → AuthorityRow scheme (Ok one) result → AuthorityRow scheme (Ok other) result
authority_as_well scheme one other value is also (Ok found) row = subst (λ (t : List ℕ). IsAuthorityValue scheme other t) (one_authority_value scheme one value found is row) also
authority_as_well scheme one other value is also (Err lack) row = absurd (row.1 value is)

-- what is asked of the query is the same where the query is, and of the target where it isn't asked
pub asked_of_query : (derived : DerivedName) (name : List ℕ) (params : List (Pair BareItem)) (one other : RequestParts) (parts others : TargetParts) → name ≡ derived_name derived
    → is_listed (codes "@request-target" ∷ []) name ≡ false → query_of others ≡ query_of parts → HasSameAsked derived params one other parts others
asked_of_query Method name params one other parts others named none same = tt
asked_of_query Status name params one other parts others named none same = tt
asked_of_query RequestTarget name params one other parts others named none same = absurd (false≢true (sym none ∙ ap (is_listed (codes "@request-target" ∷ [])) named))
asked_of_query (FromTarget name.Scheme) name params one other parts others named none same = tt
asked_of_query (FromTarget name.Authority) name params one other parts others named none same = tt
asked_of_query (FromTarget name.Path) name params one other parts others named none same = tt
asked_of_query (FromTarget name.Query) name params one other parts others named none same = same
asked_of_query (FromTarget name.TargetUri) name params one other parts others named none same = same
asked_of_query (FromTarget name.QueryParam) name params one other parts others named none same = ap (λ (q : Option (Option (List ℕ))). param_value q params) same

-- ---- queries

-- the query that the text is
abbrev pub query_made : Option (List ℕ) → Option (List ℕ)
query_made None = None
query_made (Some []) = None
query_made (Some (c ∷ rest)) = Some rest

-- a byte of a query that is written is one of a query
query_byte : (c : ℕ) → is_written_byte c ≡ true → is_query_byte c ≡ true
query_byte c is = (and_parts (is_visible c) (is_query_byte c) is).1

query_made_text : (text : Option (List ℕ)) → is_query text ≡ true → unwrap_or text [] ≡ query_text (query_made text)
query_made_text None writable = refl
query_made_text (Some []) writable = refl
query_made_text (Some (c ∷ rest)) writable =
    let same : c ≡ 63 = eqb-true c 63 (and_parts (c == 63) (list_all is_written_byte (c ∷ rest)) writable).0 in
    ap (λ (d : ℕ). d ∷ rest) same

query_made_is : (text : Option (List ℕ)) → is_query text ≡ true → IsQuery (query_made text)
query_made_is None writable = tt
query_made_is (Some []) writable = tt
query_made_is (Some (c ∷ rest)) writable =
    all_implied is_written_byte is_query_byte query_byte rest
    (and_parts (is_written_byte c) (list_all is_written_byte rest) (and_parts (c == 63) (list_all is_written_byte (c ∷ rest)) writable).1).1

-- the query in the text is the one that it makes
query_in_made : (text : Option (List ℕ)) → unwrap_or (query_made text) [] ≡ query_in text
query_in_made None = refl
query_in_made (Some []) = refl
query_in_made (Some (c ∷ rest)) = refl

-- a parameter has its values in both
param_same : (text : Option (List ℕ)) (parts others : TargetParts) (id : ComponentId) → has_path parts.form ≡ true → others.form ≡ parts.form → others.query ≡ query_made text → HasSameMatches text id parts
    → param_value (query_of others) id.params ≡ param_value (query_of parts) id.params
param_same text parts others id form same_form query is =
    let before : param_value (query_of parts) id.params ≡ sole_value (matches (unwrap_or is.query []) (param_name id.params)) =
    ap (λ (q : Option (Option (List ℕ))). param_value q id.params) is.query_is in
    let there : query_of others ≡ Some (query_made text) = rw (same_form, form, query) refl in
    let after : param_value (query_of others) id.params ≡ sole_value (matches (unwrap_or (query_made text) []) (param_name id.params)) =
    ap (λ (q : Option (Option (List ℕ))). param_value q id.params) there in
    after ∙ (ap (λ (q : List ℕ). sole_value (matches q (param_name id.params))) (query_in_made text) ∙ (ap sole_value is.same ∙ sym before))

-- ---- paths and forms

-- the path, `/` where it is empty
abbrev whole_path : List ℕ → List ℕ
whole_path path = if length path == 0 then codes "/" else path

some_is : (x y : List ℕ) → Some x ≡ Some y → x ≡ y
some_is x y e = cc

path_under : (parts : TargetParts) → has_path parts.form ≡ true → path_of parts ≡ Some (whole_path parts.path)
path_under parts has = rw has refl

query_under : (parts : TargetParts) → has_path parts.form ≡ true → query_of parts ≡ Some parts.query
query_under parts has = rw has refl

whole_of_full : (c : ℕ) (rest : List ℕ) → whole_path (c ∷ rest) ≡ c ∷ rest
whole_of_full c rest =
    let full : (length (c ∷ rest) == 0) ≡ false = false_from_ne_true (length (c ∷ rest) == 0) (λ is. omega (arith, eqb-true (length (c ∷ rest)) 0 is)) in
    rw full refl

whole_is_absolute : (path : List ℕ) → is_path path ≡ true → is_absolute_path (whole_path path) ≡ true
whole_is_absolute [] is = refl
whole_is_absolute (c ∷ rest) is = ap is_absolute_path (whole_of_full c rest) ∙ is

whole_of_absolute : (path : List ℕ) → is_absolute_path path ≡ true → whole_path path ≡ path
whole_of_absolute [] is = absurd cc
whole_of_absolute (c ∷ rest) is = whole_of_full c rest

absolute_is_path : (path : List ℕ) → is_absolute_path path ≡ true → is_path path ≡ true
absolute_is_path [] is = refl
absolute_is_path (c ∷ rest) is = is

origin_form : (method target : List ℕ) (parts : TargetParts) → parts.form ≡ OriginForm → SpellsTarget method target parts → (method ≢ codes "CONNECT") × IsOriginForm target parts
origin_form method target parts form (inl (connects, is)) = absurd (cc (ap (λ (p : TargetParts). p.form) is.parts_are, form))
origin_form method target parts form (inr (other, inl is)) = (other, is)
origin_form method target parts form (inr (other, inr (inl is))) = absurd (cc (is.form, form))
origin_form method target parts form (inr (other, inr (inr is))) = absurd (cc (ap (λ (p : TargetParts). p.form) is.parts_are, form))

absolute_form : (method target : List ℕ) (parts : TargetParts) → parts.form ≡ AbsoluteForm → SpellsTarget method target parts → (method ≢ codes "CONNECT") × IsAbsoluteForm target parts
absolute_form method target parts form (inl (connects, is)) = absurd (cc (ap (λ (p : TargetParts). p.form) is.parts_are, form))
absolute_form method target parts form (inr (other, inl is)) = absurd (cc (is.form, form))
absolute_form method target parts form (inr (other, inr (inl is))) = (other, is)
absolute_form method target parts form (inr (other, inr (inr is))) = absurd (cc (ap (λ (p : TargetParts). p.form) is.parts_are, form))

-- ---- schemes and authorities

scheme_lowered : (scheme : Scheme) → str_to_ascii_lowercase (scheme_text scheme) ≡ scheme_text scheme
scheme_lowered Http = refl
scheme_lowered Https = refl

scheme_spelt : (scheme : Scheme) → is_scheme (scheme_text scheme) ≡ true
scheme_spelt Http = refl
scheme_spelt Https = refl

-- under one scheme the rows of texts that are authorities of one value are the same
pub authority_rows : (one_scheme other_scheme scheme one other value : List ℕ) (named others : Result (List ℕ) Lack) → one_scheme ≡ scheme → other_scheme ≡ scheme → named ≡ Ok one → others ≡ Ok other
    → IsAuthorityValue scheme one value → IsAuthorityValue scheme other value → (result : Result (List ℕ) Lack) → AuthorityRow one_scheme named result ↔ AuthorityRow other_scheme others result
authority_rows one_scheme other_scheme scheme one other value named others same_one same_other is_one is_other is also result =
    rw (same_one, same_other, is_one, is_other) (authority_as_well scheme one other value is also result, authority_as_well scheme other one value also is result)

-- a value comes of a text that is there
text_named : (scheme authority : List ℕ) (named : Result (List ℕ) Lack) → AuthorityRow scheme named (Ok authority) → (text : List ℕ) × (named ≡ Ok text) × IsAuthorityValue scheme text authority
text_named scheme authority (Ok text) row = (text, refl, row)
text_named scheme authority (Err lack) row = absurd cc

scheme_before : (parts : RequestParts) (target : TargetParts) (scheme : Option (List ℕ)) → target.scheme ≡ scheme → scheme_of parts target ≡ unwrap_or (option_map str_to_ascii_lowercase scheme) (scheme_text parts.scheme)
scheme_before parts target scheme is = ap (λ (s : Option (List ℕ)). unwrap_or (option_map str_to_ascii_lowercase s) (scheme_text parts.scheme)) is

-- ---- rows of derived components

-- of a request of this line
abbrev pub of_line : MessageContext → List FieldLine → RequestLine → RequestParts
of_line context lines line = record { method = line.method; target = line.target; lines = lines; scheme = context.scheme }

module _ (context : MessageContext) (other : Message) (line new : RequestLine) (parts others : TargetParts)
    (was : context.message.head.start ≡ request line) (is : other.head.start ≡ request new) where
  abbrev pub before : RequestParts
  before = of_line context (lines_on Header context.message) line

  abbrev pub after : RequestParts
  after = of_line context (lines_on Header other) new

  row_kept : HaveSameParts before after parts others → (derived : Option DerivedName) (params : List (Pair BareItem))
      → ((d : DerivedName) → derived ≡ Some d → HasSameAsked d params before after parts others) → (result : Result (List ℕ) Lack)
      → DerivedRow derived params context.scheme (lines_on Header context.message) context.message.head.start result
      ↔ DerivedRow derived params context.scheme (lines_on Header other) other.head.start result
  row_kept same None params asked result = (λ row. row, λ row. row)
  row_kept same (Some d) params asked result =
      let rows : StartRow d params context.scheme (lines_on Header context.message) (request line) result ↔ StartRow d params context.scheme (lines_on Header other) (request new) result =
      depends_on_parts d params before after parts others result same (asked d refl) in
      rw (was, is) rows

  pub derived_kept : HaveSameParts before after parts others → (id : ComponentId) → has_param id.params (codes "req") ≡ false → is_field_name id.name ≡ false
      → ((d : DerivedName) → id.name ≡ derived_name d → HasSameAsked d id.params before after parts others) → ComesToSame context other id
  derived_kept same id own derived asked =
      depends_on_its_row context other id own derived (row_kept same (derived_of id.name) id.params (λ d is_named. asked d (derived_named id.name d is_named)))

-- ---- another target

module _ (context : MessageContext) (line : RequestLine) (parts : TargetParts) (target : List ℕ) (was : HasTarget context.message line parts) where
  abbrev changed : Message
  changed = with_head (answers_head context.related) context.message (record { start = request (with_target line target); lines = context.message.head.lines })

  lines_kept : (side : Side) → lines_on side changed ≡ lines_on side context.message
  lines_kept Header = refl
  lines_kept Trailer = refl

  field_kept : (id : ComponentId) → is_own_field id ≡ true → ComesToSame context changed id
  field_kept id own =
      let lines = lines_on (side_of id.params) context.message in
      depends_on_own_lines context changed id own
      (subst (λ (ls : List FieldLine). AreSameIn (form_of id.params) lines ls id.name) (sym (lines_kept (side_of id.params)))
      (same_in_form lines lines id.name (field_itself lines id.name) id.params (λ wrapped. record { there = refl; same = refl })))

  abbrev Asked : TargetParts → ComponentId → Type 0
  Asked others id = (d : DerivedName) → id.name ≡ derived_name d
      → HasSameAsked d id.params (of_line context context.message.head.lines line) (of_line context context.message.head.lines (with_target line target)) parts others

  pub alike_changed : (others : TargetParts) → HaveSameParts (of_line context context.message.head.lines line) (of_line context context.message.head.lines (with_target line target)) parts others
      → (label : List ℕ) (params : SigParams) (tag : List ℕ) → HasSignature context.message label params tag
      → ((k : ℕ) (d : ComponentId) → k < length params.ids → has_param (get_or params.ids k d).params (codes "req") ≡ false → Asked others (get_or params.ids k d))
      → IsAlikeForLabel context label params tag changed
  alike_changed others same label params tag has asked =
      let lines = context.message.head.lines in
      let kind : is_request changed.head.start ≡ is_request context.message.head.start = sym (ap is_request was.start_is) in
      record {
        kind = kind;
        content = refl;
        signature = signed_as_well context.message changed label params tag (field_itself lines input_name) (field_itself lines signature_name) has;
        components = come_to_same context changed params.ids kind (λ k d lt own. field_kept (get_or params.ids k d) own)
            (λ k d lt own derived. derived_kept context changed line (with_target line target) parts others was.start_is refl same (get_or params.ids k d) own derived (asked k d lt own));
        digests = λ covered. read_alike (digest_text context.message) (digest_text changed) refl;
      }

  -- ---- another query

  module _ (text : Option (List ℕ)) (writable : is_query text ≡ true) (change : HasOtherQuery text line parts target) where
    abbrev queried : TargetParts
    queried = record { form = parts.form; scheme = parts.scheme; authority = parts.authority; path = parts.path; query = query_made text }

    query_spelt : SpellsTarget line.method target queried
    query_spelt = respelled was.spells
      where
        respelled : SpellsTarget line.method line.target parts → SpellsTarget line.method target queried
        respelled (inl (connects, is)) = absurd (cc (ap (λ (p : TargetParts). has_path p.form) is.parts_are, change.form))
        respelled (inr (other, inl is)) =
            let before = append_cancel_right change.before parts.path (query_text parts.query) (sym change.target_was ∙ is.joined) in
            inr (
              other,
              inl (record {
                form = is.form;
                no_scheme = is.no_scheme;
                no_authority = is.no_authority;
                path = is.path;
                query = query_made_is text writable;
                joined = change.target_is ∙ (ap (λ (t : List ℕ). t ++ unwrap_or text []) before ∙ ap (λ (t : List ℕ). parts.path ++ t) (query_made_text text writable));
              }),
            )
        respelled (inr (other, inr (inl is))) =
            let front_text = is.scheme ++ (codes "://" ++ (is.authority ++ parts.path)) in
            let apart : (more : List ℕ) → is.scheme ++ (codes "://" ++ (is.authority ++ (parts.path ++ more))) ≡ front_text ++ more =
            λ more. ap (λ (t : List ℕ). is.scheme ++ (codes "://" ++ t)) (sym (append_assoc is.authority parts.path more)) ∙ sym (append_assoc is.scheme (codes "://" ++ (is.authority ++ parts.path)) more) in
            let before = append_cancel_right change.before front_text (query_text parts.query) (sym change.target_was ∙ (is.joined ∙ apart (query_text parts.query))) in
            inr (
              other,
              inr (inl (record {
                scheme = is.scheme;
                authority = is.authority;
                form = is.form;
                scheme_is = is.scheme_is;
                authority_is = is.authority_is;
                is_scheme = is.is_scheme;
                is_authority = is.is_authority;
                path = is.path;
                query = query_made_is text writable;
                joined = change.target_is
                    ∙ (ap (λ (t : List ℕ). t ++ unwrap_or text []) before ∙ (ap (λ (t : List ℕ). front_text ++ t) (query_made_text text writable) ∙ sym (apart (query_text (query_made text)))));
              })),
            )
        respelled (inr (other, inr (inr is))) = absurd (cc (ap (λ (p : TargetParts). has_path p.form) is.parts_are, change.form))

    query_same : HaveSameParts (of_line context context.message.head.lines line) (of_line context context.message.head.lines (with_target line target)) parts queried
    query_same = record {
      spells = was.spells;
      other_spells = query_spelt;
      method = refl;
      scheme = refl;
      authority = λ result. (λ row. row, λ row. row);
      path = refl;
    }

    query_asked : (params : SigParams) → MayChangeQuery context.message text params → (k : ℕ) (d : ComponentId) → k < length params.ids
        → has_param (get_or params.ids k d).params (codes "req") ≡ false → Asked queried (get_or params.ids k d)
    query_asked params may k d lt own derived named = asked derived named
      where
        id : ComponentId
        id = get_or params.ids k d

        none : is_listed whole_query_names id.name ≡ false
        none = is_not_listed whole_query_names params k d lt may.covered own

        param_kept : id.name ≡ codes "@query-param" → param_value (query_of queried) id.params ≡ param_value (query_of parts) id.params
        param_kept is =
            let kept = may.each k d lt (rw (own, is) refl) in
            let same = one_of context.message line kept.0 parts kept.1 was kept.2 in
            param_same text parts queried id change.form refl refl (subst (λ (p : TargetParts). HasSameMatches text id p) same.1 kept.3)

        asked : (d : DerivedName) → id.name ≡ derived_name d
            → HasSameAsked d id.params (of_line context context.message.head.lines line) (of_line context context.message.head.lines (with_target line target)) parts queried
        asked Method is = tt
        asked Status is = tt
        asked RequestTarget is = absurd (false≢true (sym none ∙ ap (is_listed whole_query_names) is))
        asked (FromTarget name.Scheme) is = tt
        asked (FromTarget name.Authority) is = tt
        asked (FromTarget name.Path) is = tt
        asked (FromTarget name.Query) is = absurd (false≢true (sym none ∙ ap (is_listed whole_query_names) is))
        asked (FromTarget name.TargetUri) is = absurd (false≢true (sym none ∙ ap (is_listed whole_query_names) is))
        asked (FromTarget name.QueryParam) is = param_kept is

  -- ---- from absolute form to origin form

  abbrev line_before : RequestParts
  line_before = of_line context context.message.head.lines line

  abbrev line_after : RequestParts
  line_after = of_line context context.message.head.lines (with_target line target)

  module _ (change : IsOriginOf parts target) (named : NamesHost context parts) where
    abbrev shortened : TargetParts
    shortened = record { form = OriginForm; scheme = None; authority = None; path = change.path; query = parts.query }

    absolute_was : (line.method ≢ codes "CONNECT") × IsAbsoluteForm line.target parts
    absolute_was = absolute_form line.method line.target parts change.form was.spells

    shortened_path : change.path ≡ whole_path parts.path
    shortened_path = some_is change.path (whole_path parts.path) (sym change.path_is ∙ path_under parts (ap has_path change.form))

    shortened_is_path : is_absolute_path change.path ≡ true
    shortened_is_path = ap is_absolute_path shortened_path ∙ whole_is_absolute parts.path absolute_was.1.path

    shortened_spelt : SpellsTarget line.method target shortened
    shortened_spelt = inr (
      absolute_was.0,
      inl (record {
        form = refl;
        no_scheme = refl;
        no_authority = refl;
        path = shortened_is_path;
        query = absolute_was.1.query;
        joined = change.target_is;
      }),
    )

    shortened_same : HaveSameParts line_before line_after parts shortened
    shortened_same =
        let scheme_was : scheme_of line_before parts ≡ scheme_text context.scheme = scheme_before line_before parts (Some named.scheme) named.scheme_is ∙ named.same_scheme in
        record {
          spells = was.spells;
          other_spells = shortened_spelt;
          method = refl;
          scheme = sym scheme_was;
          authority = authority_rows (scheme_of line_before parts) (scheme_text context.scheme) (scheme_text context.scheme) named.authority named.host named.same.0
              (named_authority line_before parts.authority) (named_authority line_after None) scheme_was refl (ap (named_authority line_before) named.authority_is)
              (ap sole_value named.one_host) named.same.2 named.same.1;
          path = ap (λ (p : List ℕ). Some p) (whole_of_absolute change.path shortened_is_path) ∙ sym change.path_is;
        }

    shortened_asked : (params : SigParams) → MayChangeTarget params → (k : ℕ) (d : ComponentId) → k < length params.ids → has_param (get_or params.ids k d).params (codes "req") ≡ false
        → Asked shortened (get_or params.ids k d)
    shortened_asked params may k d lt own derived is =
        let id = get_or params.ids k d in
        asked_of_query derived id.name id.params line_before line_after parts shortened is (is_not_listed (codes "@request-target" ∷ []) params k d lt may own)
        (sym (query_under parts (ap has_path change.form)))

  -- ---- from origin form to absolute form

  module _ (change : IsAbsoluteOf context line parts target) where
    abbrev scheme : List ℕ
    scheme = scheme_text context.scheme

    abbrev lengthened : TargetParts
    lengthened = record { form = AbsoluteForm; scheme = Some scheme; authority = Some change.authority; path = parts.path; query = parts.query }

    origin_was : (line.method ≢ codes "CONNECT") × IsOriginForm line.target parts
    origin_was = origin_form line.method line.target parts change.form was.spells

    origin_scheme : scheme_of line_before parts ≡ scheme
    origin_scheme = scheme_before line_before parts None origin_was.1.no_scheme

    -- the text of the one line `Host`, of which the value is
    authority_text_was : (text : List ℕ) × (named_authority line_before parts.authority ≡ Ok text) × IsAuthorityValue scheme text change.authority
    authority_text_was = from_row (subst (λ (s : StartLine). DerivedRow (Some (FromTarget name.Authority)) [] context.scheme context.message.head.lines s (Ok change.authority)) was.start_is change.has)
      where
        of_parts : (own : TargetParts) → own ≡ parts → AuthorityRow (scheme_of line_before own) (named_authority line_before own.authority) (Ok change.authority)
            → (text : List ℕ) × (named_authority line_before parts.authority ≡ Ok text) × IsAuthorityValue scheme text change.authority
        of_parts own same row =
            text_named scheme change.authority (named_authority line_before parts.authority)
            (subst (λ (s : List ℕ). AuthorityRow s (named_authority line_before parts.authority) (Ok change.authority)) origin_scheme
            (subst (λ (p : TargetParts). AuthorityRow (scheme_of line_before p) (named_authority line_before p.authority) (Ok change.authority)) same row))

        from_row : FormedRow name.Authority [] line_before (Ok change.authority)
            → (text : List ℕ) × (named_authority line_before parts.authority ≡ Ok text) × IsAuthorityValue scheme text change.authority
        from_row (inl (own, spells, row)) = of_parts own (one_target line.method line.target own parts spells was.spells) row
        from_row (inr (none, lacks)) = absurd (none parts was.spells)

    lengthened_spelt : SpellsTarget line.method target lengthened
    lengthened_spelt = inr (
      origin_was.0,
      inr (inl (record {
        scheme = scheme;
        authority = change.authority;
        form = refl;
        scheme_is = refl;
        authority_is = refl;
        is_scheme = scheme_spelt context.scheme;
        is_authority = is_authority_in_target scheme authority_text_was.0 change.authority authority_text_was.2;
        path = absolute_is_path parts.path origin_was.1.path;
        query = origin_was.1.query;
        joined = change.target_is ∙ ap (λ (t : List ℕ). scheme ++ (codes "://" ++ (change.authority ++ t))) origin_was.1.joined;
      })),
    )

    lengthened_same : HaveSameParts line_before line_after parts lengthened
    lengthened_same = record {
      spells = was.spells;
      other_spells = lengthened_spelt;
      method = refl;
      scheme = scheme_lowered context.scheme ∙ sym origin_scheme;
      authority = authority_rows (scheme_of line_before parts) (str_to_ascii_lowercase scheme) scheme authority_text_was.0 change.authority change.authority
          (named_authority line_before parts.authority) (Ok change.authority) origin_scheme (scheme_lowered context.scheme) authority_text_was.1 refl authority_text_was.2
          (has_itself_for_value scheme authority_text_was.0 change.authority authority_text_was.2);
      path = sym (path_under parts (ap has_path change.form));
    }

    lengthened_asked : (params : SigParams) → MayChangeTarget params → (k : ℕ) (d : ComponentId) → k < length params.ids → has_param (get_or params.ids k d).params (codes "req") ≡ false
        → Asked lengthened (get_or params.ids k d)
    lengthened_asked params may k d lt own derived is =
        let id = get_or params.ids k d in
        asked_of_query derived id.name id.params line_before line_after parts lengthened is (is_not_listed (codes "@request-target" ∷ []) params k d lt may own)
        (sym (query_under parts (ap has_path change.form)))

-- ---- the kinds

pub origin_alike : IsAlikeAfter Origin
origin_alike context label params tag made writable values has gives may =
    let is = gives.makes in
    let of_target = may.1 in
    let same = one_of context.message is.line of_target.0 is.parts of_target.1 is.has of_target.2 in
    let named = subst (λ (p : TargetParts). NamesHost context p) same.1 of_target.3 in
    subst (λ (m : Message). IsAlikeForLabel context label params tag m) (sym is.made_is)
    (alike_changed context is.line is.parts is.target is.has (shortened context is.line is.parts is.target is.has is.change named)
    (shortened_same context is.line is.parts is.target is.has is.change named) label params tag has
    (shortened_asked context is.line is.parts is.target is.has is.change named params may.0))

pub absolute_alike : IsAlikeAfter Absolute
absolute_alike context label params tag made writable values has gives may =
    let is = gives.makes in
    subst (λ (m : Message). IsAlikeForLabel context label params tag m) (sym is.made_is)
    (alike_changed context is.line is.parts is.target is.has (lengthened context is.line is.parts is.target is.has is.change)
    (lengthened_same context is.line is.parts is.target is.has is.change) label params tag has
    (lengthened_asked context is.line is.parts is.target is.has is.change params may))

pub query_alike : (text : Option (List ℕ)) → IsAlikeAfter (Query text)
query_alike text context label params tag made writable values has gives may =
    let is = gives.makes in
    subst (λ (m : Message). IsAlikeForLabel context label params tag m) (sym is.made_is)
    (alike_changed context is.line is.parts is.target is.has (queried context is.line is.parts is.target is.has text writable is.change)
    (query_same context is.line is.parts is.target is.has text writable is.change) label params tag has
    (query_asked context is.line is.parts is.target is.has text writable is.change params may))
