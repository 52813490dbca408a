-- What is drawn from the target of a list's message is what is drawn from the list's pseudo-header fields.
use Rattle.std.proofs.Common.{◌≡◌, ℕ, Bool, true, false, not, ◌&&◌, ◌==◌, Option, Some, None, Result, Ok, List, [], ◌∷◌, ◌++◌, length, map, refl, sym, ap, subst, ◌∙◌, inl, inr, arith, codes}
use Rattle.std.specs.Prelude.{IfSome, reverse, nat_lt, ok_or, option_map, unwrap_or}
use Rattle.std.specs.Char.{is_ascii_uppercase, to_ascii_lowercase}
use Rattle.std.specs.List.{list_all, list_any}
use Rattle.std.specs.Result.{result_map_both}
use Rattle.std.specs.Str.{byte, str_to_ascii_lowercase}
use Rattle.std.proofs.lemmas.Bool.{and_parts, and_from, cases_Bool, eqb-true, false≢true, not-true, or_parts}
use Rattle.std.proofs.lemmas.Bool.Decides.{nat_tests}
use Rattle.std.proofs.lemmas.List.Folds.{list_any-append}
use Rattle.byte_grammar.specs.Classes.{is_blank, is_line_byte, is_one_of, is_visible}
use Rattle.byte_grammar.specs.Language.{starts_in}
use Rattle.byte_grammar.proofs.ListLaws.{all_implied, all_reverse}
use Rattle.sfv_text.specs.declared.pair.Pair.{Pair}
use Rattle.sfv_text.specs.declared.value.BareItem.{BareItem}
use Rattle.msg_head.specs.Values.{is_there, value, values}
use Rattle.msg_head.proofs.MoreLines.{value_after_space}
use Rattle.component_ids.specs.declared.scheme.Scheme.{Scheme}
use Rattle.derived_values.specs.declared.target.Form.TheVariants.{Origin, Absolute}
use Rattle.derived_values.specs.UriBytes.{is_path_byte, is_query_byte}
use Rattle.derived_values.specs.Targets.{TargetParts, IsOriginForm, SpellsTarget, is_scheme, path_of, query_of, query_text}
use Rattle.derived_values.proofs.TargetParts.{one_target}
use Rattle.derived_values.specs.Derived.{AuthorityRow, FormedRow, RequestParts, RequestRow, TargetAuthorityRow, TargetRow, TargetUriRow, named_authority, param_value, scheme_of, scheme_text, sole_value, uri_text}
use Rattle.derived_values.specs.declared.derived.DerivedName.{DerivedName}
use Rattle.derived_values.specs.declared.derived.DerivedName.TheVariants.{Method, RequestTarget, Status, OfTarget}
use Rattle.derived_values.specs.declared.derived.TargetName.{TargetName}
use Rattle.derived_values.specs.declared.derived.TargetName.TheVariants as name
use Rattle.derived_values.specs.declared.lack.Lack.{Lack}
use Rattle.derived_values.specs.declared.lack.Lack.TheVariants.{Underivable}
use Rattle.list_texts.specs.declared.list.Field.{Field}
use Rattle.field_lists.specs.Controls.{RequestControl, IsAllowedRequest, is_path_text, is_text, request}
use Rattle.field_lists.specs.ListValues.{ControlRow, IsTargetOf, UriRow, parts_of}
use Rattle.field_lists.specs.ToCauses.{is_good}
use Rattle.field_lists.specs.ToMessages.{coding_lines, head_lines, host_lines, line_of_field}
use Rattle.field_lists.proofs.LineNames.{none_refused, no_values, or_none, plain_there, there_joined, values_joined}

-- ---- the path up to the first mark

pub record Cut (text : List ℕ) : Type 0 where
  pub path : List ℕ
  pub query : Option (List ℕ)
  pub no_mark : list_all (λ c. not (c == byte "?")) path ≡ true
  pub joined : text ≡ path ++ query_text query

pub cut_of : (text : List ℕ) → Cut text
cut_of [] = record { path = []; query = None; no_mark = refl; joined = refl }
cut_of (c ∷ cs) = elim (cases_Bool (c == byte "?")) [
  | inl is ↦ let mark = eqb-true c (byte "?") is in record { path = []; query = Some cs; no_mark = refl; joined = ap (λ d. d ∷ cs) mark }
  | inr fails ↦
      let rest = cut_of cs in
      let other : not (c == byte "?") ≡ true = rw fails refl in
      record { path = c ∷ rest.path; query = rest.query; no_mark = and_from (not (c == byte "?")) (list_all (λ d. not (d == byte "?")) rest.path) other rest.no_mark; joined = ap (λ ds. c ∷ ds) rest.joined }
]

one_query : (query other : Option (List ℕ)) → query_text query ≡ query_text other → query ≡ other
one_query None None e = refl
one_query (Some text) (Some other) e = let same : text ≡ other = cc in ap Some same
one_query None (Some other) e = absurd cc
one_query (Some text) None e = absurd cc

no_mark_first : (c : ℕ) (path : List ℕ) → list_all (λ d. not (d == byte "?")) (c ∷ path) ≡ true → ¬ (c ≡ byte "?")
no_mark_first c path none is =
    let first = (and_parts (not (c == byte "?")) (list_all (λ d. not (d == byte "?")) path) none).0 in
    let wrong : not (byte "?" == byte "?") ≡ true = ap (λ d. not (d == byte "?")) (sym is) ∙ first in
    false≢true wrong

mark_first : (query : Option (List ℕ)) (c : ℕ) (rest : List ℕ) → query_text query ≡ c ∷ rest → c ≡ byte "?"
mark_first None c rest e = absurd cc
mark_first (Some text) c rest e = cc

one_cut : (path other : List ℕ) (query last : Option (List ℕ)) → list_all (λ d. not (d == byte "?")) path ≡ true → list_all (λ d. not (d == byte "?")) other ≡ true
    → path ++ query_text query ≡ other ++ query_text last → (path ≡ other) × (query ≡ last)
one_cut [] [] query last none nor e = (refl, one_query query last e)
one_cut [] (c ∷ other) query last none nor e = absurd (no_mark_first c other nor (mark_first query c (other ++ query_text last) e))
one_cut (c ∷ path) [] query last none nor e = absurd (no_mark_first c path none (mark_first last c (path ++ query_text query) (sym e)))
one_cut (c ∷ path) (d ∷ other) query last none nor e =
    let first : c ≡ d = cc in
    let rest : path ++ query_text query ≡ other ++ query_text last = cc in
    let same = one_cut path other query last (and_parts (not (c == byte "?")) (list_all (λ b. not (b == byte "?")) path) none).1 (and_parts (not (d == byte "?")) (list_all (λ b. not (b == byte "?")) other) nor).1 rest in
    ((λ i. first i ∷ same.0 i), same.1)

-- ---- the two targets

-- the parts of the target in the list's message
abbrev pub origin_of : RequestControl → TargetParts
origin_of control = record { form = Origin; scheme = None; authority = None; path = (cut_of control.path).path; query = (cut_of control.path).query }

-- the parts of the list's target URI
abbrev pub uri_of : RequestControl → TargetParts
uri_of control = record { form = Absolute; scheme = Some control.scheme; authority = Some control.authority; path = (cut_of control.path).path; query = (cut_of control.path).query }

pub is_target : (control : RequestControl) → IsTargetOf control (uri_of control)
is_target control = record {
  form = refl;
  scheme = refl;
  authority = refl;
  no_mark = (cut_of control.path).no_mark;
  joined = (cut_of control.path).joined;
}

pub one_uri : (control : RequestControl) (target : TargetParts) → IsTargetOf control target → target ≡ uri_of control
one_uri control target is =
    let cut = cut_of control.path in
    let same = one_cut target.path cut.path target.query cut.query is.no_mark cut.no_mark (sym is.joined ∙ cut.joined) in
    λ i. record { form = is.form i; scheme = is.scheme i; authority = is.authority i; path = same.0 i; query = same.1 i }

-- ---- the origin form

begins_path : (path : List ℕ) (query : Option (List ℕ)) → starts_in (is_one_of (codes "/")) (path ++ query_text query) ≡ true → starts_in (λ c. c == byte "/") path ≡ true
begins_path [] None begins = absurd (false≢true begins)
begins_path [] (Some text) begins = absurd (false≢true begins)
begins_path (c ∷ path) query begins =
    let same : byte "/" ≡ c = eqb-true (byte "/") c (sym (or_none (byte "/" == c)) ∙ begins) in
    ap (λ d. d == byte "/") (sym same)

path_byte : (c : ℕ) → not (c == byte "?") ≡ true → is_one_of (codes "#") c ≡ false → is_path_byte c ≡ true
path_byte c no_mark no_hash = grind (arith, nat_tests)

query_byte : (c : ℕ) → is_one_of (codes "#") c ≡ false → is_query_byte c ≡ true
query_byte c no_hash = grind (arith, nat_tests)

path_bytes : (path : List ℕ) → list_all (λ c. not (c == byte "?")) path ≡ true → list_any (is_one_of (codes "#")) path ≡ false → list_all is_path_byte path ≡ true
path_bytes [] none nor = refl
path_bytes (c ∷ path) none nor =
    let one = and_parts (not (c == byte "?")) (list_all (λ d. not (d == byte "?")) path) none in
    let two = or_parts (is_one_of (codes "#") c) (list_any (is_one_of (codes "#")) path) nor in
    and_from (is_path_byte c) (list_all is_path_byte path) (path_byte c one.0 two.0) (path_bytes path one.1 two.1)

query_bytes : (text : List ℕ) → list_any (is_one_of (codes "#")) text ≡ false → list_all is_query_byte text ≡ true
query_bytes [] none = refl
query_bytes (c ∷ text) none =
    let two = or_parts (is_one_of (codes "#") c) (list_any (is_one_of (codes "#")) text) none in
    and_from (is_query_byte c) (list_all is_query_byte text) (query_byte c two.0) (query_bytes text two.1)

query_is : (query : Option (List ℕ)) → list_any (is_one_of (codes "#")) (query_text query) ≡ false → IfSome query (λ text. list_all is_query_byte text ≡ true)
query_is None none = tt
query_is (Some text) none = query_bytes text (or_parts (is_one_of (codes "#") (byte "?")) (list_any (is_one_of (codes "#")) text) none).1

-- the path and query of a list are a target in origin form
pub is_origin : (control : RequestControl) → is_path_text control.path ≡ true → IsOriginForm control.path (origin_of control)
is_origin control is =
    let cut = cut_of control.path in
    let parts = and_parts (starts_in (is_one_of (codes "/")) control.path) (list_all is_visible control.path && not (list_any (is_one_of (codes "#")) control.path)) is in
    let rest = and_parts (list_all is_visible control.path) (not (list_any (is_one_of (codes "#")) control.path)) parts.1 in
    let begins = begins_path cut.path cut.query (ap (starts_in (is_one_of (codes "/"))) (sym cut.joined) ∙ parts.0) in
    let no_hash : list_any (is_one_of (codes "#")) (cut.path ++ query_text cut.query) ≡ false = ap (list_any (is_one_of (codes "#"))) (sym cut.joined) ∙ not-true (list_any (is_one_of (codes "#")) control.path) rest.1 in
    let both = or_parts (list_any (is_one_of (codes "#")) cut.path) (list_any (is_one_of (codes "#")) (query_text cut.query)) (sym (list_any-append (is_one_of (codes "#")) cut.path (query_text cut.query)) ∙ no_hash) in
    record {
      form = refl;
      no_scheme = refl;
      no_authority = refl;
      path = and_from (starts_in (λ c. c == byte "/") cut.path) (list_all is_path_byte cut.path) begins (path_bytes cut.path cut.no_mark both.0);
      query = query_is cut.query both.1;
      joined = cut.joined;
    }

pub spells_origin : (control : RequestControl) → IsAllowedRequest control → SpellsTarget control.method control.path (origin_of control)
spells_origin control allowed = inr (allowed.no_tunnel, inl (is_origin control allowed.path))

-- ---- the scheme and the authority

lower_byte : (c : ℕ) → is_ascii_uppercase c ≡ false → to_ascii_lowercase c ≡ c
lower_byte c is = grind (arith, nat_tests)

lower_text : (text : List ℕ) → list_any is_ascii_uppercase text ≡ false → str_to_ascii_lowercase text ≡ text
lower_text [] none = refl
lower_text (c ∷ cs) none =
    let both = or_parts (is_ascii_uppercase c) (list_any is_ascii_uppercase cs) none in
    let lower = lower_byte c both.0 in
    λ i. lower i ∷ lower_text cs both.1 i

visible_clean : (c : ℕ) → is_visible c ≡ true → is_line_byte c ≡ true
visible_clean c is = grind (arith, nat_tests)

visible_solid : (c : ℕ) → is_visible c ≡ true → is_blank c ≡ false
visible_solid c is = grind (arith, nat_tests)

begins_solid : (text : List ℕ) → list_all is_visible text ≡ true → starts_in is_blank text ≡ false
begins_solid [] all = refl
begins_solid (c ∷ cs) all = visible_solid c (and_parts (is_visible c) (list_all is_visible cs) all).0

-- the value of a line of visible bytes is these
pub visible_value : (text : List ℕ) → is_text text ≡ true → value (byte " " ∷ text) ≡ text
visible_value text is =
    let both = and_parts (nat_lt 0 (length text)) (list_all is_visible text) is in
    value_after_space text (all_implied is_visible is_line_byte visible_clean text both.1) both.0 (begins_solid text both.1) (begins_solid (reverse text) (all_reverse is_visible text both.1))

no_coding_host : (in_chunks : Bool) → is_there (coding_lines in_chunks) (codes "host") ≡ false
no_coding_host true = refl
no_coding_host false = refl

-- the value of `Host` is the authority
pub host_values : (control : RequestControl) (others : List Field) (in_chunks : Bool) → is_text control.authority ≡ true → list_all is_good others ≡ true
    → values (head_lines (request control) others in_chunks) (codes "host") ≡ control.authority ∷ []
host_values control others in_chunks is good =
    let none : is_there (map line_of_field others ++ coding_lines in_chunks) (codes "host") ≡ false =
    there_joined (map line_of_field others) (coding_lines in_chunks) (codes "host")
    ∙ rw (plain_there others (codes "host") good ∙ none_refused others (codes "host") refl good, no_coding_host in_chunks) refl in
    values_joined (host_lines (request control)) (map line_of_field others ++ coding_lines in_chunks) (codes "host")
    ∙ (λ i. visible_value control.authority is i ∷ no_values (map line_of_field others ++ coding_lines in_chunks) (codes "host") none i)

-- ---- rows

-- what is drawn from two targets that have the same scheme, authority, path and query
module _ (one other : RequestParts) (t u : TargetParts) (scheme : scheme_of one t ≡ scheme_of other u) (named : named_authority one t.authority ≡ named_authority other u.authority) (path : path_of t ≡ path_of u)
    (query : query_of t ≡ query_of u) (text : t.query ≡ u.query) where
  authority_row : (result : Result (List ℕ) Lack) → TargetAuthorityRow one t result → TargetAuthorityRow other u result
  authority_row result row =
      subst (λ (n : Result (List ℕ) Lack). AuthorityRow (scheme_of other u) n result) named
      (subst (λ (s : List ℕ). AuthorityRow s (named_authority one t.authority) result) scheme row)

  uri_same : (given authority : List ℕ) → uri_text one t given authority ≡ uri_text other u given authority
  uri_same given authority = λ i. scheme i ++ (codes "://" ++ (authority ++ (given ++ query_text (text i))))

  uri_row : (given : Option (List ℕ)) (result : Result (List ℕ) Lack) → TargetUriRow given one t result → TargetUriRow given other u result
  uri_row None result row = row
  uri_row (Some given) result row = (
    row.0,
    authority_row row.0 row.1,
    row.2 ∙ (λ i. result_map_both (λ authority. uri_same given authority i) (λ lack. lack) row.0),
  )

  pub target_row : (of_target : TargetName) (params : List (Pair BareItem)) (result : Result (List ℕ) Lack) → TargetRow of_target params one t result → TargetRow of_target params other u result
  target_row name.Scheme params result row = row ∙ ap Ok scheme
  target_row name.Authority params result row = authority_row result row
  target_row name.Path params result row = row ∙ ap (λ given. ok_or given Underivable) path
  target_row name.Query params result row = row ∙ ap (λ asked. ok_or (option_map (λ q. byte "?" ∷ unwrap_or q []) asked) Underivable) query
  target_row name.TargetUri params result row = subst (λ (given : Option (List ℕ)). TargetUriRow given other u result) path (uri_row (path_of t) result row)
  target_row name.QueryParam params result row = row ∙ ap (λ asked. param_value asked params) query

-- ---- the request of a list and the request that is sent

-- what is allowed and turned, under the scheme of the list
pub record FitsRequest (control : RequestControl) (others : List Field) (scheme : Scheme) : Type 0 where
  pub allowed : IsAllowedRequest control
  pub same_scheme : control.scheme ≡ scheme_text scheme
  pub good : list_all is_good others ≡ true

-- what derived components of the message are drawn from
abbrev pub sent : RequestControl → List Field → Bool → Scheme → RequestParts
sent control others in_chunks scheme = record { method = control.method; target = control.path; lines = head_lines (request control) others in_chunks; scheme = scheme }

module _ (control : RequestControl) (others : List Field) (in_chunks : Bool) (scheme : Scheme) (fits : FitsRequest control others scheme) where
  one_scheme : scheme_of (sent control others in_chunks scheme) (origin_of control) ≡ scheme_of (parts_of control) (uri_of control)
  one_scheme =
      let lower = and_parts (is_scheme control.scheme) (not (list_any is_ascii_uppercase control.scheme)) fits.allowed.scheme in
      sym fits.same_scheme ∙ sym (lower_text control.scheme (not-true (list_any is_ascii_uppercase control.scheme) lower.1))

  one_named : named_authority (sent control others in_chunks scheme) None ≡ Ok control.authority
  one_named = ap sole_value (host_values control others in_chunks fits.allowed.authority fits.good)

  there : (of_target : TargetName) (params : List (Pair BareItem)) (result : Result (List ℕ) Lack) → TargetRow of_target params (sent control others in_chunks scheme) (origin_of control) result
      → TargetRow of_target params (parts_of control) (uri_of control) result
  there of_target params result row =
      target_row (sent control others in_chunks scheme) (parts_of control) (origin_of control) (uri_of control) one_scheme one_named refl refl refl of_target params result row

  back : (of_target : TargetName) (params : List (Pair BareItem)) (result : Result (List ℕ) Lack) → TargetRow of_target params (parts_of control) (uri_of control) result
      → TargetRow of_target params (sent control others in_chunks scheme) (origin_of control) result
  back of_target params result row =
      target_row (parts_of control) (sent control others in_chunks scheme) (uri_of control) (origin_of control) (sym one_scheme) (sym one_named) refl refl refl of_target params result row

  -- the row over the target that is sent
  formed_there : (of_target : TargetName) (params : List (Pair BareItem)) (result : Result (List ℕ) Lack) → FormedRow of_target params (sent control others in_chunks scheme) result → UriRow control params of_target result
  formed_there of_target params result (inl (found, spells, row)) =
      let same = one_target control.method control.path found (origin_of control) spells (spells_origin control fits.allowed) in (
        uri_of control,
        is_target control,
        there of_target params result (subst (λ (t : TargetParts). TargetRow of_target params (sent control others in_chunks scheme) t result) same row),
      )
  formed_there of_target params result (inr (none, is)) = absurd (none (origin_of control) (spells_origin control fits.allowed))

  formed_back : (of_target : TargetName) (params : List (Pair BareItem)) (result : Result (List ℕ) Lack) → UriRow control params of_target result → FormedRow of_target params (sent control others in_chunks scheme) result
  formed_back of_target params result (target, is, row) =
      let own = subst (λ (t : TargetParts). TargetRow of_target params (parts_of control) t result) (one_uri control target is) row in
      inl (origin_of control, spells_origin control fits.allowed, back of_target params result own)

  -- the row of a derived component
  pub request_there : (derived : DerivedName) (params : List (Pair BareItem)) (result : Result (List ℕ) Lack) → RequestRow derived params (sent control others in_chunks scheme) result → ControlRow (request control) params derived result
  request_there Method params result row = row
  request_there RequestTarget params result row = row
  request_there Status params result row = row
  request_there (OfTarget of_target) params result row = formed_there of_target params result row

  pub request_back : (derived : DerivedName) (params : List (Pair BareItem)) (result : Result (List ℕ) Lack) → ControlRow (request control) params derived result → RequestRow derived params (sent control others in_chunks scheme) result
  request_back Method params result row = row
  request_back RequestTarget params result row = row
  request_back Status params result row = row
  request_back (OfTarget of_target) params result row = formed_back of_target params result row
