-- The request target that a message has (RFC 9112 section 3.2), and what a rewriting makes of it,
-- by its parts.
use Rattle.std.specs.Prelude.{◌≡◌, ℕ, IsTrue, Option, Some, unwrap_or, List, [], ◌++◌, drop, codes}
use Rattle.msg_head.specs.Starts.{RequestLine, request}
use Rattle.msg_body.specs.Messages.{Message}
use Rattle.derived_values.specs.declared.target.Form.TheVariants.{Origin as OriginForm, Absolute as AbsoluteForm}
use Rattle.derived_values.specs.Targets.{IsRequestOf, TargetParts, has_path, path_of, query_text}
use Rattle.derived_values.specs.Authorities.{IsAuthorityValue}
use Rattle.component_ids.specs.declared.id.ComponentId.{ComponentId}
use Rattle.derived_values.specs.Derived.{scheme_text}
use Rattle.component_values.specs.Context.{MessageContext, answers_head}
use Rattle.component_values.specs.Values.{Has}
use Rattle.line_rewrites.specs.Steps.{with_head}

-- ---- targets of requests

-- the message is a request of this line, whose target is in a form and has these parts
abbrev pub HasTarget : Message → RequestLine → TargetParts → Type 0
HasTarget message line parts = IsRequestOf message.head.start line parts

-- it holds of the parts of the request's target, which are there
abbrev pub OfTarget : Message → (TargetParts → Type 0) → Type 0
OfTarget message Holds =
    (line : RequestLine) × (parts : TargetParts) × HasTarget message line parts × Holds parts

-- the derived component of the name, which has no parameters (RFC 9421 section 2.2)
abbrev pub derived_id : List ℕ → ComponentId
derived_id name = record { name = name; params = [] }

-- the query of the text, without the `?` that the text begins with
abbrev pub query_in : Option (List ℕ) → List ℕ
query_in text = drop 1 (unwrap_or text [])

-- ---- authorities

-- under the scheme both texts are authorities, of one value (RFC 9421 section 2.2.3)
abbrev pub AreOneAuthority : List ℕ → List ℕ → List ℕ → Type 0
AreOneAuthority scheme one other = (text : List ℕ)
    × IsAuthorityValue scheme one text × IsAuthorityValue scheme other text

-- ---- another target

-- the line with this target
abbrev pub with_target : RequestLine → List ℕ → RequestLine
with_target line target =
    record { method = line.method; target = target; version = line.version }

-- The target becomes another by its parts, and all else stays.
pub record ChangesTarget (context : MessageContext)
    (Change : RequestLine → TargetParts → List ℕ → Type 0) (made : Message) : Type 0 where
  pub line : RequestLine
  pub parts : TargetParts
  pub has : HasTarget context.message line parts
  pub target : List ℕ
  pub change : Change line parts target
  pub made_is : made ≡ with_head (answers_head context.related) context.message
      (record { start = request (with_target line target); lines = context.message.head.lines })

-- ---- what rewritings make of it

-- `origin`: of an absolute target the path stays, `/` where it is empty, with the query (RFC 9112
-- section 3.2.1)
pub record IsOriginOf (parts : TargetParts) (target : List ℕ) : Type 0 where
  pub form : parts.form ≡ AbsoluteForm
  pub path : List ℕ
  pub path_is : path_of parts ≡ Some path
  pub target_is : target ≡ path ++ query_text parts.query

-- `absolute`: before an origin target come the configured scheme, `://`, and the value of
-- `@authority`, which is there (RFC 9112 section 3.2.2)
pub record IsAbsoluteOf (context : MessageContext) (line : RequestLine) (parts : TargetParts)
    (target : List ℕ) : Type 0 where
  pub form : parts.form ≡ OriginForm
  pub authority : List ℕ
  pub has : Has context (derived_id (codes "@authority")) authority
  pub target_is : target ≡
      scheme_text context.scheme ++ (codes "://" ++ (authority ++ line.target))

-- `query`: what is before the `?` of an origin or an absolute target stays, and then comes the
-- text, or nothing (RFC 3986 section 3.4)
pub record HasOtherQuery (text : Option (List ℕ)) (line : RequestLine) (parts : TargetParts)
    (target : List ℕ) : Type 0 where
  pub form : IsTrue (has_path parts.form)
  pub before : List ℕ
  pub target_was : line.target ≡ before ++ query_text parts.query
  pub target_is : target ≡ before ++ unwrap_or text []
