-- Lists of fields as they are recorded: of a message of HTTP/2 or HTTP/3 its pseudo-header fields
-- and its header fields, its content, and its trailer fields (RFC 9113 section 8.1, RFC 9114
-- section 4.1).
use Rattle.std.specs.Prelude.{◌≡◌, ℕ, ◌≤◌, List, ◌++◌, length, codes}
use Rattle.std.specs.Fmt.{decimal}
use Rattle.std.specs.List.{All, flat_map}
use Rattle.byte_grammar.specs.Numbers.{IsNumber, number_line}
use Rattle.framing.specs.declared.chunk_limits.TheConstants.{MAX_CONTENT_BYTES}
use Rattle.list_texts.specs.declared.limits.TheConstants.{MAX_FIELD_BYTES}
use Rattle.list_texts.specs.declared.list.Field.{Field}
use Rattle.list_texts.specs.declared.list.FieldList.{FieldList}

-- ---- the text of a list

-- a line with two numbers, SP between them
abbrev pub numbers_line : List ℕ → ℕ → ℕ → List ℕ
numbers_line word number other = word ++ (decimal number ++ number_line (codes " ") other)

-- a line that says how many bytes the name and the value have, these bytes, and LF
abbrev pub field_text : List ℕ → Field → List ℕ
field_text word field =
    numbers_line word (length field.name) (length field.value)
    ++ (field.name ++ (field.value ++ codes "\n"))

-- a line that says how many bytes the content has, these bytes, and LF
abbrev pub content_text : List ℕ → List ℕ
content_text content =
    number_line (codes "content ") (length content) ++ (content ++ codes "\n")

-- the line that names the format, and the fields after it
abbrev pub fields_text : List Field → List ℕ
fields_text fields = codes "hms-fields 1\n" ++ flat_map (field_text (codes "field ")) fields

-- and after these the content and the trailer fields
abbrev pub items_text : FieldList → List ℕ
items_text list =
    fields_text list.fields
    ++ (content_text list.content ++ flat_map (field_text (codes "trailer ")) list.trailers)

-- and the last line
abbrev pub list_text : FieldList → List ℕ
list_text list = items_text list ++ codes "end\n"

-- ---- what is spelled

-- the numbers of the field's line have few digits
pub record IsCountable (field : Field) : Type 0 where
  pub name : IsNumber (length field.name)
  pub value : IsNumber (length field.value)

-- the text has the form of this list, however much it has
pub record HasForm (text : List ℕ) (list : FieldList) : Type 0 where
  pub fields : All IsCountable list.fields
  pub content : IsNumber (length list.content)
  pub trailers : All IsCountable list.trailers
  pub joined : text ≡ list_text list

-- neither the name nor the value has too many bytes
pub record IsShort (field : Field) : Type 0 where
  pub name : length field.name ≤ MAX_FIELD_BYTES
  pub value : length field.value ≤ MAX_FIELD_BYTES

-- the list is within the limits that are set here
pub record IsWithinLimits (list : FieldList) : Type 0 where
  pub fields : All IsShort list.fields
  pub content : length list.content ≤ MAX_CONTENT_BYTES
  pub trailers : All IsShort list.trailers

-- the text is the list's
pub record SpellsList (text : List ℕ) (list : FieldList) : Type 0 where
  pub form : HasForm text list
  pub within : IsWithinLimits list
