-- What the parts of a message give for its list.
use Rattle.std.proofs.Common.{◌≡◌, ℕ, zero, suc, ◌+◌, ◌≤◌, true, not, List, [], ◌∷◌, ◌++◌, length, drop, map, Option, Some, None, Result, Ok, Err, refl, sym, ap, subst, ◌∙◌, append_assoc, arith, inl, inr}
use Rattle.std.specs.Prelude.{filter, slice_get, is_err, is_some, IfSome, IfNone, IsErrAnd}
use Rattle.std.proofs.lemmas.Bool.{cases_Bool, false≢true}
use Rattle.std.proofs.lemmas.List.{append-nil, drop_all, map-append}
use Rattle.std.proofs.lemmas.List.Elements.{filter-append}
use Rattle.msg_head.specs.declared.error.Side.TheVariants.{Header, Trailer}
use Rattle.msg_head.specs.Lines.{FieldLine}
use Rattle.msg_head.specs.Starts as start
use Rattle.msg_head.specs.Starts.{RequestLine, StatusLine, StartLine}
use Rattle.msg_body.specs.Views.{lines_on, message_content}
use Rattle.derived_values.specs.Authorities.{AuthorityParts, IsAuthority, IsAuthorityFor, IsAuthorityValue, authority_text}
use Rattle.derived_values.specs.Targets.{TargetParts, SpellsTarget, has_path, path_of, query_text}
use Rattle.derived_values.specs.declared.lack.Lack.{Lack}
use Rattle.derived_values.specs.declared.lack.Lack.TheVariants.{Underivable}
use Rattle.derived_values.specs.Derived.{AuthorityRow, named_authority, scheme_of}
use Rattle.component_values.specs.Context.{MessageContext}
use Rattle.list_texts.specs.declared.list.Field.{Field}
use Rattle.list_texts.specs.declared.list.FieldList.{FieldList}
use Rattle.field_lists.specs.declared.from_fault.FromFault.{FromFault}
use Rattle.field_lists.specs.declared.from_fault.FromFault.TheVariants.{Memory, NoForm, NoAuthority}
use Rattle.field_lists.specs.declared.into_list.RequestTexts.{RequestTexts}
use Rattle.field_lists.specs.Controls.{RequestControl, request, response}
use Rattle.field_lists.specs.FromCauses.{HasNoForm, IsFromFault}
use Rattle.field_lists.specs.FromMessages.{IsControlOf, IsRequestOf, TurnsIntoList, field_of_line, kept_fields, pseudo_fields, request_parts}
use Rattle.field_lists.specs.ToCauses.{is_refused_name}
use Rattle.field_lists.specs.tools.FromViews.{GivesAuthority, GivesFields, GivesList, GivesRequest, LacksInTarget}
use Rattle.field_lists.proofs.FromLaws.{no_form, fault_of_form, fault_of_authority}

-- ---- the fields of lines

pub kept_joined : (xs ys : List FieldLine) → kept_fields (xs ++ ys) ≡ kept_fields xs ++ kept_fields ys
kept_joined xs ys =
    ap (filter (λ field. not (is_refused_name field.name))) (map-append field_of_line xs ys)
    ∙ filter-append (λ field. not (is_refused_name field.name)) (map field_of_line xs) (map field_of_line ys)

left_at : (lines : List FieldLine) (index : ℕ) (line : FieldLine) → slice_get lines index ≡ Some line → drop index lines ≡ line ∷ drop (index + 1) lines
left_at [] index line there = absurd cc
left_at (first ∷ lines) zero line there = let same : first ≡ line = cc in ap (λ (l : FieldLine). l ∷ lines) same
left_at (first ∷ lines) (suc index) line there =
    let next : suc (index + 1) ≡ suc index + 1 = omega arith in
    left_at lines index line there ∙ ap (λ (n : ℕ). line ∷ drop n (first ∷ lines)) next

-- the fields so far, and those of the lines that are left
pub further_field : (lines : List FieldLine) (index : ℕ) (line : FieldLine) (all fields new : List Field) → slice_get lines index ≡ Some line
    → fields ++ kept_fields (drop index lines) ≡ all → new ≡ fields ++ kept_fields (line ∷ []) → new ++ kept_fields (drop (index + 1) lines) ≡ all
further_field lines index line all fields new there so_far is =
    let rest = kept_fields (drop (index + 1) lines) in
    ap (λ (fs : List Field). fs ++ rest) is
    ∙ append_assoc fields (kept_fields (line ∷ [])) rest
    ∙ ap (λ (fs : List Field). fields ++ fs) (sym (kept_joined (line ∷ []) (drop (index + 1) lines)))
    ∙ ap (λ (ls : List FieldLine). fields ++ kept_fields ls) (sym (left_at lines index line there))
    ∙ so_far

-- no line is left
pub all_kept : (lines : List FieldLine) (index : ℕ) (all fields : List Field) → length lines ≤ index → fields ++ kept_fields (drop index lines) ≡ all → fields ≡ all
all_kept lines index all fields end so_far = sym (append-nil fields) ∙ ap (λ (ls : List FieldLine). fields ++ kept_fields ls) (sym (drop_all index lines end)) ∙ so_far

-- ---- the authority

pub has_value : (scheme text : List ℕ) (parts : AuthorityParts) → IsAuthorityFor scheme text parts → (value : List ℕ) × IsAuthorityValue scheme text value
has_value scheme text parts is = (authority_text parts, (parts, is, refl))

pub no_value : (scheme text : List ℕ) → ((host : List ℕ) (port : Option (List ℕ)) → ¬ IsAuthority text host port) → (value : List ℕ) → ¬ IsAuthorityValue scheme text value
no_value scheme text none value (parts, (port, is, kept), same) = none parts.host port is

pub authority_there : {A : Type 0} (parts : A → AuthorityParts) (scheme text : List ℕ) (found : Option A) → IfSome found (λ a. IsAuthorityFor scheme text (parts a)) → is_some found ≡ true → (value : List ℕ) × IsAuthorityValue scheme text value
authority_there parts scheme text (Some a) some there = has_value scheme text (parts a) some
authority_there parts scheme text None some there = absurd (false≢true there)

pub authority_found : {A : Type 0} (scheme text : List ℕ) (found : Option A) → IfNone found ((host : List ℕ) (port : Option (List ℕ)) → ¬ IsAuthority text host port) → (value : List ℕ) → IsAuthorityValue scheme text value → is_some found ≡ true
authority_found scheme text (Some a) none value is = refl
authority_found scheme text None none value is = absurd (no_value scheme text none value is)

-- where no authority is named, and where what is named is none
pub none_named : (scheme : List ℕ) (named : Result (List ℕ) Lack) → is_err named ≡ true → GivesAuthority named scheme (Err NoAuthority)
none_named scheme (Err lack) none = (lack, refl)
none_named scheme (Ok text) none = absurd (false≢true none)

pub no_authority : (scheme text : List ℕ) (named : Result (List ℕ) Lack) → named ≡ Ok text → ((value : List ℕ) → ¬ IsAuthorityValue scheme text value) → GivesAuthority named scheme (Err NoAuthority)
no_authority scheme text named is none = (Underivable, subst (λ (n : Result (List ℕ) Lack). AuthorityRow scheme n (Err Underivable)) (sym is) (refl, none))

-- ---- a request line

pub no_path_form : (line : RequestLine) (target : TargetParts) → SpellsTarget line.method line.target target → path_of target ≡ None → HasNoForm line
no_path_form line target spells none = elim (cases_Bool (has_path target.form)) [
  | inl has ↦ let some = rw has at none in absurd (cc some)
  | inr fails ↦ no_form line target spells fails
]

form_is : (target : TargetParts) (path : List ℕ) → path_of target ≡ Some path → has_path target.form ≡ true
form_is target path is = elim (cases_Bool (has_path target.form)) [
  | inl has ↦ has
  | inr fails ↦ let none = rw fails at is in absurd (cc none)
]

module _ (context : MessageContext) (line : RequestLine) (target : TargetParts) (path scheme : List ℕ) (spells : SpellsTarget line.method line.target target) (path_is : path_of target ≡ Some path)
    (scheme_is : scheme ≡ scheme_of (request_parts context line) target) where
  pub request_is : (c : RequestControl) → c.scheme ≡ scheme → c.method ≡ line.method → c.path ≡ path ++ query_text target.query
      → GivesAuthority (named_authority (request_parts context line) target.authority) scheme (Ok c.authority) → IsRequestOf context line c
  request_is c same method joined gives =
      let value = gives.1.0 in
      let is : IsAuthorityValue (scheme_of (request_parts context line) target) c.authority value = subst (λ (s : List ℕ). IsAuthorityValue s c.authority value) scheme_is gives.1.1 in
      record {
        target = target;
        spells = spells;
        path = path;
        path_is = path_is;
        named = gives.0;
        authority_value = value;
        has_authority = subst (λ (n : Result (List ℕ) Lack). AuthorityRow (scheme_of (request_parts context line) target) n (Ok value)) (sym gives.0) is;
        method = method;
        scheme = same ∙ scheme_is;
        joined = joined;
      }

  pub lacks_in_target : GivesAuthority (named_authority (request_parts context line) target.authority) scheme (Err NoAuthority) → LacksInTarget context line
  lacks_in_target gives = record {
    target = target;
    spells = spells;
    form = form_is target path path_is;
    lack = gives.0;
    row = subst (λ (s : List ℕ). AuthorityRow s (named_authority (request_parts context line) target.authority) (Err gives.0)) scheme_is gives.1;
  }

  pub authority_fails : (fault : FromFault) → GivesAuthority (named_authority (request_parts context line) target.authority) scheme (Err fault) → GivesRequest context line (Err fault)
  authority_fails Memory gives = gives
  authority_fails NoForm gives = absurd gives
  authority_fails NoAuthority gives = lacks_in_target gives

  -- the fault is handed on
  pub request_handed : (result : Result RequestTexts FromFault) (fault : FromFault) → IsErrAnd result (λ given. given ≡ fault) → GivesAuthority (named_authority (request_parts context line) target.authority) scheme (Err fault) → GivesRequest context line result
  request_handed (Ok texts) fault is gives = absurd is
  request_handed (Err given) fault is gives = subst (λ (f : FromFault). GivesRequest context line (Err f)) (sym is) (authority_fails fault gives)

-- ---- the pseudo-header fields

pub request_gives : (context : MessageContext) (line : RequestLine) (c : RequestControl) (fields : List Field) → start.request line ≡ context.message.head.start → IsRequestOf context line c → fields ≡ pseudo_fields (request c) → GivesFields context (Ok fields)
request_gives context line c fields e is same = (request c, subst (λ (s : StartLine). IsControlOf context s (request c)) e is, same)

pub status_gives : (context : MessageContext) (line : StatusLine) (fields : List Field) → start.status line ≡ context.message.head.start → fields ≡ pseudo_fields (response line.code) → GivesFields context (Ok fields)
status_gives context line fields e same = (response line.code, subst (λ (s : StartLine). IsControlOf context s (response line.code)) e refl, same)

pub form_fault : (context : MessageContext) (line : RequestLine) → start.request line ≡ context.message.head.start → HasNoForm line → IsFromFault context NoForm
form_fault context line e none = fault_of_form context line (sym e) none

pub authority_fault : (context : MessageContext) (line : RequestLine) → start.request line ≡ context.message.head.start → LacksInTarget context line → IsFromFault context NoAuthority
authority_fault context line e lacks = fault_of_authority context line (sym e) lacks

pub request_fails : (context : MessageContext) (line : RequestLine) → start.request line ≡ context.message.head.start → (fault : FromFault) → GivesRequest context line (Err fault) → GivesFields context (Err fault)
request_fails context line e Memory gives = λ own. absurd (own refl)
request_fails context line e NoForm gives = λ own. form_fault context line e gives
request_fails context line e NoAuthority gives = λ own. authority_fault context line e gives

pub fields_handed : (context : MessageContext) (line : RequestLine) (result : Result (List Field) FromFault) (fault : FromFault) → IsErrAnd result (λ given. given ≡ fault) → start.request line ≡ context.message.head.start → GivesRequest context line (Err fault) → GivesFields context result
fields_handed context line (Ok fields) fault is e gives = absurd is
fields_handed context line (Err given) fault is e gives = subst (λ (f : FromFault). GivesFields context (Err f)) (sym is) (request_fails context line e fault gives)

-- ---- the list

pub list_handed : (context : MessageContext) (result : Result FieldList FromFault) (fault : FromFault) → IsErrAnd result (λ given. given ≡ fault) → GivesFields context (Err fault) → GivesList context result
list_handed context (Ok list) fault is gives = absurd is
list_handed context (Err given) fault is gives = subst (λ (f : FromFault). GivesList context (Err f)) (sym is) gives

pub list_given : (context : MessageContext) (list : FieldList) (pseudo : List Field) → GivesFields context (Ok pseudo) → list.fields ≡ pseudo ++ kept_fields (lines_on Header context.message) → list.content ≡ message_content context.message
    → list.trailers ≡ kept_fields (lines_on Trailer context.message) → TurnsIntoList context list
list_given context list pseudo (control, is, same) fields content trailers = record {
  control = control;
  is_of = is;
  is = λ i. record { fields = (fields ∙ ap (λ (fs : List Field). fs ++ kept_fields (lines_on Header context.message)) same) i; content = content i; trailers = trailers i };
}
