-- The chunks of a chunked message: RFC 9112 section 7.1.
use Rattle.std.specs.Prelude.{◌≡◌, ◌⊎◌, ℕ, ◌<◌, ◌≤◌, Bool, IsTrue, List, [], ◌++◌, length, take, codes}
use Rattle.std.specs.List.{All, list_all, flat_map}
use Rattle.std.specs.Char.{is_ascii_hexdigit}
use Rattle.std.specs.Str.Parse.{digits_value}
use Rattle.byte_grammar.specs.Classes.{is_one_of, is_line_byte}
use Rattle.byte_grammar.specs.Language.{starts_in, AreBytesOf}
use Rattle.framing.specs.declared.chunk_limits.TheConstants.{MAX_SIZE_DIGITS, MAX_EXTENSION_BYTES, MAX_CONTENT_BYTES}

-- ---- chunk lines

-- A chunk extension (RFC 9112 section 7.1.1) begins with `;`, SP or HTAB. The RFC has a blank there
-- only before a `;`; here blanks alone are read too.
abbrev pub begins_extension : ℕ → Bool
begins_extension c = is_one_of (codes "; \t") c

-- An extension, or none. Its inner grammar isn't judged: any byte but NUL, CR and LF may be in it.
-- The RFC sets no greatest length; here there is one.
pub record IsExtension (text : List ℕ) : Type 0 where
  pub begins : (text ≡ []) ⊎ IsTrue (starts_in begins_extension text)
  pub clean : IsTrue (list_all is_line_byte text)
  pub short : length text ≤ MAX_EXTENSION_BYTES

-- The hexadecimal digits of a size and an extension, without the CRLF after them. RFC 9112 section
-- 7.1 sets no greatest number of digits; here there is one.
pub record IsChunkLine (line : List ℕ) (size : ℕ) : Type 0 where
  pub digits : List ℕ
  pub extension : List ℕ
  pub joined : line ≡ digits ++ extension
  pub are_digits : AreBytesOf is_ascii_hexdigit 1 MAX_SIZE_DIGITS digits
  pub value : size ≡ digits_value 16 digits
  pub is_extension : IsExtension extension

-- ---- chunks

-- the line as it is written, and the data
pub record Chunk : Type 0 where
  pub line : List ℕ
  pub chunk_data : List ℕ

-- the chunks in order, and the line of the last chunk, which has no data
pub record Chunks : Type 0 where
  pub chunks : List Chunk
  pub last : List ℕ

-- the line, CRLF, the data, CRLF
abbrev pub chunk_text : Chunk → List ℕ
chunk_text c = c.line ++ (codes "\r\n" ++ (c.chunk_data ++ codes "\r\n"))

-- each chunk, the last line, CRLF. A trailer section comes after it.
abbrev pub chunks_text : Chunks → List ℕ
chunks_text cs = flat_map chunk_text cs.chunks ++ (cs.last ++ codes "\r\n")

-- the data of these chunks, joined
abbrev pub data_of : List Chunk → List ℕ
data_of chunks = flat_map (λ c. c.chunk_data) chunks

-- the content that is left when the chunks are decoded (RFC 9112 section 7.1.3)
abbrev pub content_of : Chunks → List ℕ
content_of cs = data_of cs.chunks

-- the line's size is that of the data, which isn't empty
pub record IsChunk (c : Chunk) : Type 0 where
  pub line : IsChunkLine c.line (length c.chunk_data)
  pub some : 0 < length c.chunk_data

-- the size of the last chunk is 0
pub record AreChunks (cs : Chunks) : Type 0 where
  pub each : All IsChunk cs.chunks
  pub last : IsChunkLine cs.last 0

-- the bytes are the text of chunks, and nothing more
pub record AreChunksText (cs : Chunks) (bytes : List ℕ) : Type 0 where
  pub are : AreChunks cs
  pub text : bytes ≡ chunks_text cs

-- the first bytes, so many, are the text of chunks whose content is within the limit set here
pub record SpellsChunks (cs : Chunks) (used : ℕ) (bytes : List ℕ) : Type 0 where
  pub within : used ≤ length bytes
  pub text : AreChunksText cs (take used bytes)
  pub short : length (content_of cs) ≤ MAX_CONTENT_BYTES
