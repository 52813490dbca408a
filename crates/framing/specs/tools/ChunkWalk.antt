-- Readers of chunks over lists, from left to right. No public clause cites this module.
use Rattle.std.specs.Prelude.{ℕ, zero, suc, ◌==◌, List, ◌++◌, codes, Option, Some, None, Ok, if◌then◌else◌}
use Rattle.std.specs.Char.{is_ascii_hexdigit}
use Rattle.std.specs.Str.{byte}
use Rattle.std.specs.Str.Parse.{digits_value}
use Rattle.byte_grammar.specs.Classes.{is_line_byte}
use Rattle.byte_grammar.specs.Language.{starts_in}
use Rattle.byte_grammar.specs.Walk.{Reader, ◌>>=◌, byte_read, run_read}
use Rattle.byte_grammar.specs.tools.CountedWalk.{bytes_read}
use Rattle.framing.specs.declared.chunk_limits.TheConstants.{MAX_SIZE_DIGITS, MAX_EXTENSION_BYTES}
use Rattle.framing.specs.Chunks.{Chunk, begins_extension}

unfoldable pub crlf_read : Reader (List ℕ)
crlf_read bytes = do
  r ← byte_read (λ c. c == byte "\r") bytes
  n ← byte_read (λ c. c == byte "\n") r.1
  Ok (codes "\r\n", n.1)

unfoldable pub extension_read : Reader (List ℕ)
extension_read bytes =
    run_read is_line_byte 0
    (if starts_in begins_extension bytes then MAX_EXTENSION_BYTES else 0) bytes

-- a chunk line as it is written, and its size
unfoldable pub line_read : Reader (List ℕ × ℕ)
line_read bytes = do
  d ← run_read is_ascii_hexdigit 1 MAX_SIZE_DIGITS bytes
  e ← extension_read d.1
  c ← crlf_read e.1
  Ok ((d.0 ++ e.0, digits_value 16 d.0), c.1)

-- so much data, and CRLF
unfoldable pub data_read : ℕ → Reader (List ℕ)
data_read size bytes = do
  d ← bytes_read size bytes
  c ← crlf_read d.1
  Ok (d.0, c.1)

-- what comes after a chunk line of that size
unfoldable pub body_read : List ℕ × ℕ → Reader (Option Chunk)
body_read (line, zero) bytes = Ok (None, bytes)
body_read (line, suc size) bytes = do
  d ← data_read (suc size) bytes
  Ok (Some (record { line = line; chunk_data = d.0 }), d.1)

-- a chunk, or the last line
unfoldable pub turn_read : Reader (Option Chunk)
turn_read bytes = do
  l ← line_read bytes
  body_read l.0 l.1
