-- Request targets: RFC 9112 section 3.2, of parts as RFC 3986 section 3 has them.
use Rattle.std.specs.Prelude.{◌≡◌, ◌≢◌, ◌⊎◌, ℕ, Bool, true, false, IsTrue, ◌&&◌, ◌==◌, List, [], ◌∷◌, ◌++◌, length, codes, Option, Some, None, IfSome, if◌then◌else◌}
use Rattle.std.specs.List.{list_all}
use Rattle.std.specs.Str.{byte}
use Rattle.byte_grammar.specs.Classes.{is_alpha}
use Rattle.byte_grammar.specs.Language.{starts_in}
use Rattle.msg_head.specs.Starts.{RequestLine, StartLine, request}
use Rattle.derived_values.specs.declared.target.Form.{Form}
use Rattle.derived_values.specs.declared.target.Form.TheVariants.{Origin, Absolute, Authority, Asterisk}
use Rattle.derived_values.specs.UriBytes.{is_scheme_byte, is_authority_byte, is_path_byte, is_query_byte}
use Rattle.derived_values.specs.Marks.{marked_text}

-- the parts of a target; one that its form doesn't have is None, or empty
pub record TargetParts : Type 0 where
  pub form : Form
  pub scheme : Option (List ℕ)
  pub authority : Option (List ℕ)
  pub path : List ℕ
  pub query : Option (List ℕ)

-- ---- parts of URIs

-- a letter, and then letters, digits, `+`, `-` and `.` (RFC 3986 section 3.1)
abbrev pub is_scheme : List ℕ → Bool
is_scheme [] = false
is_scheme (c ∷ rest) = is_alpha c && list_all is_scheme_byte rest

-- absolute-path: a path that begins with `/` (RFC 9110 section 4.1). What a segment has isn't
-- judged.
abbrev pub is_absolute_path : List ℕ → Bool
is_absolute_path path = starts_in (λ c. c == byte "/") path && list_all is_path_byte path

-- path-abempty: such a path, or none (RFC 3986 section 3.3)
abbrev pub is_path : List ℕ → Bool
is_path [] = true
is_path (c ∷ rest) = is_absolute_path (c ∷ rest)

-- a query, where there is one (RFC 3986 section 3.4); what it has isn't judged
abbrev pub IsQuery : Option (List ℕ) → Type 0
IsQuery query = IfSome query (λ text. IsTrue (list_all is_query_byte text))

-- `?` and the query, or nothing
abbrev pub query_text : Option (List ℕ) → List ℕ
query_text query = marked_text (byte "?") query

-- ---- forms

-- origin-form: RFC 9112 section 3.2.1
pub record IsOriginForm (target : List ℕ) (parts : TargetParts) : Type 0 where
  pub form : parts.form ≡ Origin
  pub no_scheme : parts.scheme ≡ None
  pub no_authority : parts.authority ≡ None
  pub path : IsTrue (is_absolute_path parts.path)
  pub query : IsQuery parts.query
  pub joined : target ≡ parts.path ++ query_text parts.query

-- absolute-form: RFC 9112 section 3.2.2. The authority may be empty.
pub record IsAbsoluteForm (target : List ℕ) (parts : TargetParts) : Type 0 where
  pub scheme : List ℕ
  pub authority : List ℕ
  pub form : parts.form ≡ Absolute
  pub scheme_is : parts.scheme ≡ Some scheme
  pub authority_is : parts.authority ≡ Some authority
  pub is_scheme : IsTrue (is_scheme scheme)
  pub is_authority : IsTrue (list_all is_authority_byte authority)
  pub path : IsTrue (is_path parts.path)
  pub query : IsQuery parts.query
  pub joined : target ≡
      scheme ++ (codes "://" ++ (authority ++ (parts.path ++ query_text parts.query)))

-- authority-form: RFC 9112 section 3.2.3
pub record IsAuthorityForm (target : List ℕ) (parts : TargetParts) : Type 0 where
  pub is_authority : IsTrue (list_all is_authority_byte target)
  pub parts_are : parts ≡ record {
    form = Authority;
    scheme = None;
    authority = Some target;
    path = [];
    query = None;
  }

-- asterisk-form: RFC 9112 section 3.2.4
pub record IsAsteriskForm (target : List ℕ) (parts : TargetParts) : Type 0 where
  pub is_asterisk : target ≡ codes "*"
  pub parts_are : parts ≡ record {
    form = Asterisk;
    scheme = None;
    authority = None;
    path = [];
    query = None;
  }

-- the forms of other methods than CONNECT; OPTIONS isn't asked for (RFC 9112 section 3.2.4)
abbrev pub IsOtherForm : List ℕ → TargetParts → Type 0
IsOtherForm target parts =
    IsOriginForm target parts ⊎ IsAbsoluteForm target parts ⊎ IsAsteriskForm target parts

-- the target of the method is of these parts: with CONNECT in authority form, with each other
-- method in one of the other forms
abbrev pub SpellsTarget : List ℕ → List ℕ → TargetParts → Type 0
SpellsTarget method target parts =
    ((method ≡ codes "CONNECT") × IsAuthorityForm target parts)
    ⊎ ((method ≢ codes "CONNECT") × IsOtherForm target parts)

-- the start line is this request line, whose target is in a form and has these parts
pub record IsRequestOf (start : StartLine) (line : RequestLine) (parts : TargetParts) : Type 0 where
  pub start_is : start ≡ request line
  pub spells : SpellsTarget line.method line.target parts

-- ---- the path and the query

-- a target of the form has a path and a query
abbrev pub has_path : Form → Bool
has_path Origin = true
has_path Absolute = true
has_path Authority = false
has_path Asterisk = false

-- the path, `/` where it is empty (RFC 9421 section 2.2.6)
abbrev pub path_of : TargetParts → Option (List ℕ)
path_of parts =
    if has_path parts.form
    then Some (if length parts.path == 0 then codes "/" else parts.path)
    else None

-- the query, if there is one (RFC 9421 section 2.2.7)
abbrev pub query_of : TargetParts → Option (Option (List ℕ))
query_of parts = if has_path parts.form then Some parts.query else None
