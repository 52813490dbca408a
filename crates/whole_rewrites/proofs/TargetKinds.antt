-- The kinds of rewriting that change the request target: each makes one message or none, sound where the line has room, of the same content. What it makes rests on the messages.
use Rattle.std.proofs.Common.{◌≡◌, ◌⊎◌, ◌==◌, ℕ, true, Option, Some, None, IfSome, Result, Ok, Err, List, [], ◌∷◌, ◌++◌, length, refl, sym, subst, ap, ◌∙◌, inl, inr, append_assoc, arith}
use Rattle.std.specs.Prelude.{codes, if◌then◌else◌, nat_lt, unwrap_or}
use Rattle.std.specs.List.{list_all}
use Rattle.std.specs.Str.{byte}
use Rattle.std.proofs.lemmas.Bool.{and_parts, cases_Bool, eqb-true, false≢true}
use Rattle.std.proofs.lemmas.List.{append_cancel_right}
use Rattle.byte_grammar.specs.Classes.{is_visible}
use Rattle.byte_grammar.specs.Language.{starts_in}
use Rattle.byte_grammar.proofs.ListLaws.{all_implied, all_joined, all_parts}
use Rattle.msg_head.specs.Starts.{RequestLine, StartLine, is_target, request, status}
use Rattle.msg_body.specs.Messages.{Message}
use Rattle.msg_body.specs.Views.{lines_on}
use Rattle.derived_values.specs.declared.target.Form.{Form}
use Rattle.derived_values.specs.declared.target.Form.TheVariants.{Origin as OriginForm, Absolute as AbsoluteForm, Authority as AuthorityForm, Asterisk as AsteriskForm}
use Rattle.derived_values.specs.Targets.{SpellsTarget, TargetParts, has_path, is_absolute_path, is_scheme, query_text}
use Rattle.derived_values.proofs.Visible.{has_visible_parts, has_visible_value}
use Rattle.component_ids.specs.declared.scheme.Scheme.{Scheme}
use Rattle.component_ids.specs.declared.scheme.Scheme.TheVariants.{Http, Https}
use Rattle.derived_values.specs.Derived.{AuthorityRow, RequestParts, StartRow, named_authority, scheme_of, scheme_text}
use Rattle.derived_values.specs.declared.derived.DerivedName.TheVariants.{OfTarget}
use Rattle.derived_values.specs.declared.derived.TargetName.TheVariants as name
use Rattle.derived_values.specs.declared.lack.Lack.{Lack}
use Rattle.msg_head.specs.declared.error.Side.TheVariants.{Header}
use Rattle.component_values.specs.Context.{MessageContext}
use Rattle.component_values.specs.Values.{Has}
use Rattle.component_values.proofs.RowLaws.{has_one_value, has_or_lacks, lacks_no_value}
use Rattle.rewrite_script.specs.Lines.{is_query, is_visible_query_byte}
use Rattle.rewrite_script.specs.declared.rewrite.WholeRewrite.TheVariants.{Absolute, Origin, Query}
use Rattle.whole_rewrites.specs.Laws.{IsOfMessages, IsReadAs}
use Rattle.whole_rewrites.specs.Steps.{Makes}
use Rattle.whole_rewrites.specs.Targets.{HasTarget, derived_id, HasOtherQuery, IsAbsoluteOf, IsOriginOf}
use Rattle.whole_rewrites.specs.tools.Kinds.{IsExactKind}
use Rattle.whole_rewrites.proofs.Targeted.{GivesOneTarget, changes_content, changes_one, changes_or_none, changes_sound, goes_on, retargeted, some_target}

abbrev IsVisible : List ℕ → Type 0
IsVisible text = list_all is_visible text ≡ true

query_visible : (query : Option (List ℕ)) → ((text : List ℕ) → query ≡ Some text → IsVisible text) → IsVisible (query_text query)
query_visible None each = refl
query_visible (Some text) each = each text refl

-- ---- origin

pub origin_one : GivesOneTarget (λ line. IsOriginOf)
origin_one line parts one other spells a b =
    let paths : Some a.path ≡ Some b.path = sym a.path_is ∙ b.path_is in
    let same : a.path ≡ b.path = cc in
    a.target_is ∙ (ap (λ t. t ++ query_text parts.query) same ∙ sym b.target_is)

form_or_not : (form : Form) → (form ≡ AbsoluteForm) ⊎ (¬ (form ≡ AbsoluteForm))
form_or_not OriginForm = inr (λ e. cc)
form_or_not AbsoluteForm = inl refl
form_or_not AuthorityForm = inr (λ e. cc)
form_or_not AsteriskForm = inr (λ e. cc)

-- the path, `/` where it is empty
abbrev whole_path : List ℕ → List ℕ
whole_path path = if length path == 0 then codes "/" else path

origin_or_not : (parts : TargetParts) → ((target : List ℕ) × IsOriginOf parts target) ⊎ ((target : List ℕ) → ¬ IsOriginOf parts target)
origin_or_not parts = elim (form_or_not parts.form) [
  | inr other ↦ inr (λ target is. other is.form)
  | inl form ↦ inl (
    whole_path parts.path ++ query_text parts.query,
    record {
      form = form;
      path = whole_path parts.path;
      path_is = rw form refl;
      target_is = refl;
    },
  )
]

path_target : (path : List ℕ) → IsVisible path → is_target (whole_path path) ≡ true
path_target [] all = refl
path_target (c ∷ cs) all = elim (cases_Bool (length (c ∷ cs) == 0)) [
  | inl none ↦ absurd (let e = eqb-true (length (c ∷ cs)) 0 none in omega (arith, e))
  | inr some ↦ rw some (some_target c cs all)
]

pub origin_target : (line : RequestLine) (parts : TargetParts) (target : List ℕ) → SpellsTarget line.method line.target parts → is_target line.target ≡ true → IsOriginOf parts target → is_target target ≡ true
origin_target line parts target spells some is =
    let visible = has_visible_parts line.method line.target parts spells (and_parts (nat_lt 0 (length line.target)) (list_all is_visible line.target) some).1 in
    let path : Some (whole_path parts.path) ≡ Some is.path = rw is.form at is.path_is in
    let same : whole_path parts.path ≡ is.path = cc in
    let first : is_target is.path ≡ true = subst (λ t. is_target t ≡ true) same (path_target parts.path visible.path) in
    subst (λ t. is_target t ≡ true) (sym is.target_is) (goes_on is.path (query_text parts.query) first (query_visible parts.query (λ text e. by parts.query visible.query text e)))
  where
    by : (query : Option (List ℕ)) → IfSome query (λ text. list_all is_visible text ≡ true) → (text : List ℕ) → query ≡ Some text → IsVisible text
    by None is text e = absurd cc
    by (Some other) is text e = let same : other ≡ text = cc in subst (λ t. IsVisible t) same is

pub origin_exact : IsExactKind Origin
origin_exact = record {
  one = λ context one other a b. changes_one context (λ line. IsOriginOf) origin_one one other a b;
  or_not = λ context writable is. changes_or_none context (λ line. IsOriginOf) (λ line parts has. origin_or_not parts);
  sound = λ context made writable is makes. changes_sound context (λ line. IsOriginOf) origin_target is made makes;
  content = λ context made makes. changes_content context (λ line. IsOriginOf) made makes;
}

-- ---- absolute

pub absolute_one : (context : MessageContext) → GivesOneTarget (IsAbsoluteOf context)
absolute_one context line parts one other spells a b =
    let same = has_one_value context (derived_id (codes "@authority")) a.authority b.authority a.has b.has in
    a.target_is ∙ (ap (λ t. scheme_text context.scheme ++ (codes "://" ++ (t ++ line.target))) same ∙ sym b.target_is)

origin_form_or_not : (form : Form) → (form ≡ OriginForm) ⊎ (¬ (form ≡ OriginForm))
origin_form_or_not OriginForm = inl refl
origin_form_or_not AbsoluteForm = inr (λ e. cc)
origin_form_or_not AuthorityForm = inr (λ e. cc)
origin_form_or_not AsteriskForm = inr (λ e. cc)

absolute_or_not : (context : MessageContext) (line : RequestLine) (parts : TargetParts) → ((target : List ℕ) × IsAbsoluteOf context line parts target) ⊎ ((target : List ℕ) → ¬ IsAbsoluteOf context line parts target)
absolute_or_not context line parts = elim (origin_form_or_not parts.form) [
  | inr other ↦ inr (λ target is. other is.form)
  | inl form ↦ elim (has_or_lacks context (derived_id (codes "@authority"))) [
    | inl (value, has) ↦ inl (scheme_text context.scheme ++ (codes "://" ++ (value ++ line.target)), record { form = form; authority = value; has = has; target_is = refl })
    | inr (lack, lacks) ↦ inr (λ target is. lacks_no_value context (derived_id (codes "@authority")) is.authority lack is.has lacks)
  ]
]

-- the value of `@authority` is visible
named_visible : (scheme value : List ℕ) (text : Result (List ℕ) Lack) → AuthorityRow scheme text (Ok value) → IsVisible value
named_visible scheme value (Ok text) is = has_visible_value scheme text value is
named_visible scheme value (Err lack) is = absurd cc

pub authority_visible : (context : MessageContext) (value : List ℕ) → Has context (derived_id (codes "@authority")) value → IsVisible value
authority_visible context value has = by context.message.head.start has
  where
    by : (start : StartLine) → StartRow (OfTarget name.Authority) [] context.scheme (lines_on Header context.message) start (Ok value) → IsVisible value
    by (status line) is = absurd cc
    by (request line) (inr (none, is)) = absurd cc
    by (request line) (inl (target, spells, row)) =
        let parts : RequestParts = record { method = line.method; target = line.target; lines = lines_on Header context.message; scheme = context.scheme } in
        named_visible (scheme_of parts target) value (named_authority parts target.authority) row

scheme_target : (scheme : Scheme) → is_target (scheme_text scheme) ≡ true
scheme_target Http = refl
scheme_target Https = refl

pub absolute_target : (context : MessageContext) (line : RequestLine) (parts : TargetParts) (target : List ℕ) → SpellsTarget line.method line.target parts → is_target line.target ≡ true
    → IsAbsoluteOf context line parts target → is_target target ≡ true
absolute_target context line parts target spells some is =
    let old = (and_parts (nat_lt 0 (length line.target)) (list_all is_visible line.target) some).1 in
    let rest = all_joined is_visible is.authority line.target (authority_visible context is.authority is.has) old in
    subst (λ t. is_target t ≡ true) (sym is.target_is)
    (goes_on (scheme_text context.scheme) (codes "://" ++ (is.authority ++ line.target)) (scheme_target context.scheme) (all_joined is_visible (codes "://") (is.authority ++ line.target) refl rest))

pub absolute_exact : IsExactKind Absolute
absolute_exact = record {
  one = λ context one other a b. changes_one context (IsAbsoluteOf context) (absolute_one context) one other a b;
  or_not = λ context writable is. changes_or_none context (IsAbsoluteOf context) (λ line parts has. absolute_or_not context line parts);
  sound = λ context made writable is makes. changes_sound context (IsAbsoluteOf context) (absolute_target context) is made makes;
  content = λ context made makes. changes_content context (IsAbsoluteOf context) made makes;
}

-- ---- query

-- what is before the query of a target that may have one, which isn't empty
pub record Front (target : List ℕ) (parts : TargetParts) : Type 0 where
  pub first : ℕ
  pub rest : List ℕ
  pub joined : target ≡ (first ∷ rest) ++ query_text parts.query

absolute_path_front : (target path : List ℕ) (parts : TargetParts) → is_absolute_path path ≡ true → target ≡ path ++ query_text parts.query → Front target parts
absolute_path_front target [] parts absolute joined = absurd (false≢true absolute)
absolute_path_front target (c ∷ cs) parts absolute joined = record { first = c; rest = cs; joined = joined }

scheme_front : (target scheme authority : List ℕ) (parts : TargetParts) → is_scheme scheme ≡ true → target ≡ scheme ++ (codes "://" ++ (authority ++ (parts.path ++ query_text parts.query))) → Front target parts
scheme_front target [] authority parts is joined = absurd (false≢true is)
scheme_front target (c ∷ cs) authority parts is joined = record {
  first = c;
  rest = cs ++ (codes "://" ++ (authority ++ parts.path));
  joined = joined
      ∙ (ap (λ (t : List ℕ). c ∷ (cs ++ (codes "://" ++ t))) (sym (append_assoc authority parts.path (query_text parts.query)))
      ∙ sym (append_assoc (c ∷ cs) (codes "://" ++ (authority ++ parts.path)) (query_text parts.query)));
}

pub front_of : (method target : List ℕ) (parts : TargetParts) → SpellsTarget method target parts → has_path parts.form ≡ true → Front target parts
front_of method target parts (inl (connect, is)) path = absurd (false≢true (ap (λ (p : TargetParts). has_path p.form) (sym is.parts_are) ∙ path))
front_of method target parts (inr (other, inl is)) path = absolute_path_front target parts.path parts is.path is.joined
front_of method target parts (inr (other, inr (inl is))) path = scheme_front target is.scheme is.authority parts is.is_scheme is.joined
front_of method target parts (inr (other, inr (inr is))) path = absurd (false≢true (ap (λ (p : TargetParts). has_path p.form) (sym is.parts_are) ∙ path))

pub query_one : (text : Option (List ℕ)) → GivesOneTarget (HasOtherQuery text)
query_one text line parts one other spells a b =
    let same = append_cancel_right a.before b.before (query_text parts.query) (sym a.target_was ∙ b.target_was) in
    a.target_is ∙ (ap (λ t. t ++ unwrap_or text []) same ∙ sym b.target_is)

query_or_not : (text : Option (List ℕ)) (line : RequestLine) (parts : TargetParts) → SpellsTarget line.method line.target parts
    → ((target : List ℕ) × HasOtherQuery text line parts target) ⊎ ((target : List ℕ) → ¬ HasOtherQuery text line parts target)
query_or_not text line parts spells = elim (cases_Bool (has_path parts.form)) [
  | inr other ↦ inr (λ target is. false≢true (sym other ∙ is.form))
  | inl form ↦
      let f = front_of line.method line.target parts spells form in
      inl ((f.first ∷ f.rest) ++ unwrap_or text [], record { form = form; before = f.first ∷ f.rest; target_was = f.joined; target_is = refl })
]

new_query_visible : (text : Option (List ℕ)) → is_query text ≡ true → IsVisible (unwrap_or text [])
new_query_visible None is = refl
new_query_visible (Some text) is =
    all_implied is_visible_query_byte is_visible (λ c both. (and_parts (is_visible c) _ both).0) text (and_parts (starts_in (λ c. c == byte "?") text) (list_all is_visible_query_byte text) is).1

pub query_target : (text : Option (List ℕ)) → is_query text ≡ true → (line : RequestLine) (parts : TargetParts) (target : List ℕ) → SpellsTarget line.method line.target parts → is_target line.target ≡ true
    → HasOtherQuery text line parts target → is_target target ≡ true
query_target text writable line parts target spells some is =
    let old = (and_parts (nat_lt 0 (length line.target)) (list_all is_visible line.target) some).1 in
    let f = front_of line.method line.target parts spells is.form in
    let visible = all_parts is_visible (f.first ∷ f.rest) (query_text parts.query) (sym (ap (list_all is_visible) f.joined) ∙ old) in
    let same : is.before ≡ f.first ∷ f.rest = append_cancel_right is.before (f.first ∷ f.rest) (query_text parts.query) (sym is.target_was ∙ f.joined) in
    let whole : target ≡ (f.first ∷ f.rest) ++ unwrap_or text [] = is.target_is ∙ ap (λ t. t ++ unwrap_or text []) same in
    subst (λ t. is_target t ≡ true) (sym whole) (goes_on (f.first ∷ f.rest) (unwrap_or text []) (some_target f.first f.rest visible.0) (new_query_visible text writable))

pub query_exact : (text : Option (List ℕ)) → IsExactKind (Query text)
query_exact text = record {
  one = λ context one other a b. changes_one context (HasOtherQuery text) (query_one text) one other a b;
  or_not = λ context writable is. changes_or_none context (HasOtherQuery text) (λ line parts has. query_or_not text line parts has.spells);
  sound = λ context made writable is makes. changes_sound context (HasOtherQuery text) (query_target text writable) is made makes;
  content = λ context made makes. changes_content context (HasOtherQuery text) made makes;
}

-- ---- what it makes rests on the messages

pub query_makes : (text : Option (List ℕ)) (context other : MessageContext) → IsOfMessages context other → (made : Message) → Makes context (Query text) made → Makes other (Query text) made
query_makes text context other agree made is = record {
  line = is.line;
  parts = is.parts;
  has = subst (λ (m : Message). HasTarget m is.line is.parts) (sym agree.0) is.has;
  target = is.target;
  change = is.change;
  made_is = is.made_is ∙ (λ i. retargeted (record { message = sym agree.0 i; related = sym agree.1 i; scheme = other.scheme; types = other.types }) is.line is.target);
}

same_context : (context other : MessageContext) → IsOfMessages context other → IsReadAs context other → context ≡ other
same_context context other agree alike = λ i. record { message = sym agree.0 i; related = sym agree.1 i; scheme = sym alike.0 i; types = sym alike.1 i }

pub origin_makes : (context other : MessageContext) → IsOfMessages context other → IsReadAs context other → (made : Message) → Makes context Origin made → Makes other Origin made
origin_makes context other agree alike made is = subst (λ (c : MessageContext). Makes c Origin made) (same_context context other agree alike) is

pub absolute_makes : (context other : MessageContext) → IsOfMessages context other → IsReadAs context other → (made : Message) → Makes context Absolute made → Makes other Absolute made
absolute_makes context other agree alike made is = subst (λ (c : MessageContext). Makes c Absolute made) (same_context context other agree alike) is
