-- What bytes begin with, by parts of a target and of an authority. No public clause cites this
-- module.
use Rattle.std.specs.Prelude.{◌≡◌, ◌⊎◌, ℕ, Bool, false, IsTrue, List, ◌++◌, codes, Option, IfSome}
use Rattle.std.specs.List.{list_all}
use Rattle.byte_grammar.specs.Language.{starts_in}
use Rattle.derived_values.specs.UriBytes.{is_path_byte, is_host_byte}
use Rattle.derived_values.specs.Marks.{marked_text}
use Rattle.derived_values.specs.Targets.{IsQuery, query_text, is_scheme}
use Rattle.derived_values.specs.Authorities.{IsLiteral, is_reg_name}

-- the text is nothing, or the mark and bytes of the class
pub record IsMarked (mark : ℕ) (class : ℕ → Bool) (text : List ℕ) (part : Option (List ℕ))
    : Type 0 where
  pub each : IfSome part (λ bytes. IsTrue (list_all class bytes))
  pub joined : text ≡ marked_text mark part

-- the text is bytes of a path, and then a query, if there is one
pub record IsPathAndQuery (text path : List ℕ) (query : Option (List ℕ)) : Type 0 where
  pub each : IsTrue (list_all is_path_byte path)
  pub is_query : IsQuery query
  pub joined : text ≡ path ++ query_text query

pub record BeginsWithScheme (bytes scheme rest : List ℕ) : Type 0 where
  pub is : IsTrue (is_scheme scheme)
  pub joined : bytes ≡ scheme ++ (codes "://" ++ rest)

pub record BeginsWithLiteral (bytes host rest : List ℕ) : Type 0 where
  pub is : IsLiteral host
  pub joined : bytes ≡ host ++ rest

-- the name ends where other bytes stand
pub record BeginsWithRegName (bytes host rest : List ℕ) : Type 0 where
  pub is : IsTrue (is_reg_name host)
  pub ends : starts_in is_host_byte rest ≡ false
  pub joined : bytes ≡ host ++ rest

abbrev pub BeginsWithHost : List ℕ → List ℕ → List ℕ → Type 0
BeginsWithHost bytes host rest =
    BeginsWithLiteral bytes host rest ⊎ BeginsWithRegName bytes host rest
