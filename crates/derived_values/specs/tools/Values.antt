-- The text of a value, by its parts. No public clause cites this module but the view of a value.
use Rattle.std.specs.Prelude.{⊤, ℕ, List, ◌∷◌, ◌++◌, codes, Result, Ok, Err, option_map}
use Rattle.std.specs.Str.{byte, str_to_ascii_lowercase}
use Rattle.derived_values.specs.declared.authority.Authority.{Authority}
use Rattle.derived_values.specs.Authorities.{authority_text}
use Rattle.derived_values.specs.Targets.{query_text}
use Rattle.derived_values.specs.Views.{authority_parts}
use Rattle.derived_values.specs.declared.lack.Lack.{Lack}
use Rattle.derived_values.specs.declared.lack.NoValue.{NoValue}
use Rattle.derived_values.specs.declared.lack.NoValue.TheVariants.{Memory, Lacks}
use Rattle.derived_values.specs.declared.value.TargetUri.{TargetUri}
use Rattle.derived_values.specs.declared.value.Parts.{Parts}
use Rattle.derived_values.specs.declared.value.Parts.TheVariants as parts

abbrev pub target_uri_text : TargetUri → List ℕ
target_uri_text uri =
    str_to_ascii_lowercase uri.scheme.now
    ++ (codes "://" ++ (authority_text (authority_parts uri.authority)
    ++ (uri.path.now ++ query_text (option_map (λ text. text.now) uri.query))))

abbrev pub parts_text : Parts → List ℕ
parts_text (parts.Bytes text) = text.now
parts_text (parts.Scheme text) = str_to_ascii_lowercase text.now
parts_text (parts.Authority authority) = authority_text (authority_parts authority)
parts_text (parts.Query query) = byte "?" ∷ query.now
parts_text (parts.TargetUri uri) = target_uri_text uri
parts_text (parts.Text text) = text

-- what the row says, of an answer that gives an authority
abbrev pub GivesAuthority : (Result (List ℕ) Lack → Type 0) → Result Authority Lack → Type 0
GivesAuthority Row (Ok authority) = Row (Ok (authority_text (authority_parts authority)))
GivesAuthority Row (Err lack) = Row (Err lack)

-- the same of one that gives what a value is made of
abbrev pub GivesParts : (Result (List ℕ) Lack → Type 0) → Result Parts Lack → Type 0
GivesParts Row (Ok found) = Row (Ok (parts_text found))
GivesParts Row (Err lack) = Row (Err lack)

-- and where memory may run out
abbrev pub AnswersParts : (Result (List ℕ) Lack → Type 0) → Result Parts NoValue → Type 0
AnswersParts Row (Ok found) = Row (Ok (parts_text found))
AnswersParts Row (Err (Lacks lack)) = Row (Err lack)
AnswersParts Row (Err Memory) = ⊤
