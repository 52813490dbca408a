-- The texts that the readers of lists of fields read. No public clause cites this module.
use Rattle.std.specs.Prelude.{◌≡◌, ℕ, List, ◌++◌, length, codes}
use Rattle.std.specs.List.{All, flat_map}
use Rattle.byte_grammar.specs.Numbers.{IsNumber, number_line}
use Rattle.list_texts.specs.declared.list.Field.{Field}
use Rattle.list_texts.specs.Lists.{numbers_line, field_text, content_text, fields_text, IsCountable}

-- the line of a field
pub record IsSizes (word text : List ℕ) (sizes : ℕ × ℕ) : Type 0 where
  pub is : text ≡ numbers_line word sizes.0 sizes.1
  pub name : IsNumber sizes.0
  pub value : IsNumber sizes.1

-- a name and a value, and LF
pub record IsPair (name value : ℕ) (text : List ℕ) (field : Field) : Type 0 where
  pub is : text ≡ field.name ++ (field.value ++ codes "\n")
  pub name_size : length field.name ≡ name
  pub value_size : length field.value ≡ value

pub record IsFieldText (word text : List ℕ) (field : Field) : Type 0 where
  pub is : text ≡ field_text word field
  pub countable : IsCountable field

-- fields, each with this word
pub record AreFields (word text : List ℕ) (fields : List Field) : Type 0 where
  pub is : text ≡ flat_map (field_text word) fields
  pub countable : All IsCountable fields

-- the line of the content
pub record IsSize (text : List ℕ) (size : ℕ) : Type 0 where
  pub is : text ≡ number_line (codes "content ") size
  pub number : IsNumber size

pub record IsContentText (text content : List ℕ) : Type 0 where
  pub is : text ≡ content_text content
  pub number : IsNumber (length content)

pub record IsBeginText (text : List ℕ) (fields : List Field) : Type 0 where
  pub is : text ≡ fields_text fields
  pub countable : All IsCountable fields

pub record IsEndText (text : List ℕ) (trailers : List Field) : Type 0 where
  pub is : text ≡ flat_map (field_text (codes "trailer ")) trailers ++ codes "end\n"
  pub countable : All IsCountable trailers
