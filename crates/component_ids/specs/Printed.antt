-- What the text of signature parameters stands for, where its identifiers are marked.
use Rattle.std.specs.Prelude.{ℕ, List}

-- a text, and the texts of the identifiers in it
pub record PrintedParams : Type 0 where
  pub whole : List ℕ
  pub ids : List (List ℕ)
