-- The control data of a message in pseudo-header fields: RFC 9113 section 8.3, RFC 9114 section
-- 4.3.
use Rattle.std.specs.Prelude.{◌≡◌, ◌≢◌, ℕ, ◌&&◌, not, nat_lt, Bool, false, true, IsTrue, List, [], ◌∷◌, ◌++◌, length, codes}
use Rattle.std.specs.List.{Contains, list_all, list_any}
use Rattle.std.specs.Char.{is_ascii_uppercase}
use Rattle.byte_grammar.specs.Classes.{is_token, is_visible, is_one_of}
use Rattle.byte_grammar.specs.Language.{starts_in}
use Rattle.framing.specs.Framings.{is_code_without_content}
use Rattle.msg_head.specs.Starts.{is_code}
use Rattle.derived_values.specs.Targets.{is_scheme}
use Rattle.list_texts.specs.declared.list.Field.{Field}
use Rattle.list_texts.specs.declared.list.FieldList.{FieldList}

-- what the pseudo-header fields of a request say (RFC 9113 section 8.3.1)
pub record RequestControl : Type 0 where
  pub method : List ℕ
  pub scheme : List ℕ
  pub authority : List ℕ
  pub path : List ℕ

-- what a message does: a request, or a response with its status code (RFC 9110 section 6.2)
pub data Control : Type 0 where
  request : RequestControl → Control
  response : List ℕ → Control

-- the field of this name and value
abbrev pub field_of : List ℕ → List ℕ → Field
field_of name value = record { name = name; value = value }

-- the four pseudo-header fields of a request, in any order (RFC 9113 section 8.3.1)
pub record AreOfRequest (fields : List Field) (control : RequestControl) : Type 0 where
  pub count : length fields ≡ 4
  pub method : Contains fields (field_of (codes ":method") control.method)
  pub scheme : Contains fields (field_of (codes ":scheme") control.scheme)
  pub authority : Contains fields (field_of (codes ":authority") control.authority)
  pub path : Contains fields (field_of (codes ":path") control.path)

-- these are the pseudo-header fields of that control data (RFC 9113 sections 8.3.1 and 8.3.2)
abbrev pub ArePseudo : List Field → Control → Type 0
ArePseudo fields (request control) = AreOfRequest fields control
ArePseudo fields (response code) = fields ≡ field_of (codes ":status") code ∷ []

-- The fields begin with the pseudo-header fields of the control data, and these are the others (RFC
-- 9113 section 8.3).
pub record HasPseudo (fields : List Field) (control : Control) (others : List Field) : Type 0 where
  pub pseudo : List Field
  pub are : ArePseudo pseudo control
  pub joined : fields ≡ pseudo ++ others

-- ---- values that are allowed

-- one or more bytes, none of them SP or a control byte or above ASCII
abbrev pub is_text : List ℕ → Bool
is_text text = nat_lt 0 (length text) && list_all is_visible text

-- a scheme in lower case (RFC 3986 section 3.1)
abbrev pub is_lower_scheme : List ℕ → Bool
is_lower_scheme text = is_scheme text && not (list_any is_ascii_uppercase text)

-- a path and a query, without a fragment (RFC 9113 section 8.3.1)
abbrev pub is_path_text : List ℕ → Bool
is_path_text text =
    starts_in (is_one_of (codes "/")) text
    && (list_all is_visible text && not (list_any (is_one_of (codes "#")) text))

-- A tunnel (RFC 9113 section 8.5) isn't read here.
pub record IsAllowedRequest (control : RequestControl) : Type 0 where
  pub method : IsTrue (is_token control.method)
  pub no_tunnel : control.method ≢ codes "CONNECT"
  pub scheme : IsTrue (is_lower_scheme control.scheme)
  pub authority : IsTrue (is_text control.authority)
  pub path : IsTrue (is_path_text control.path)

-- the values are those that pseudo-header fields may have here
abbrev pub IsAllowed : Control → Type 0
IsAllowed (request control) = IsAllowedRequest control
IsAllowed (response code) = IsTrue (is_code code)

-- ---- what a list is of

-- the list begins with pseudo-header fields that are right, and these are its other fields
pub record IsOf (list : FieldList) (control : Control) (others : List Field) : Type 0 where
  pub begins : HasPseudo list.fields control others
  pub allowed : IsAllowed control

-- the message is a response that has no content, whatever its fields say (RFC 9110 section 6.4.1)
abbrev pub is_without_content : Control → Bool
is_without_content (request control) = false
is_without_content (response code) = is_code_without_content code

-- it is a request
abbrev pub is_request : Control → Bool
is_request (request control) = true
is_request (response code) = false
