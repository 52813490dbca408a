-- Readers over lists of given texts, of numbers, and of bytes that a number counts. No public
-- clause cites this module.
use Rattle.std.specs.Prelude.{ℕ, Bool, ◌-◌, ◌==◌, nat_lt, List, length, drop, Ok, Err, if◌then◌else◌}
use Rattle.std.specs.List.{common_prefix_len}
use Rattle.std.specs.Str.{byte}
use Rattle.std.specs.Str.Parse.{digits_value}
use Rattle.byte_grammar.specs.Classes.{is_digit}
use Rattle.byte_grammar.specs.Language.{starts_in}
use Rattle.byte_grammar.specs.Walk.{Reader, ◌>>=◌, byte_read, cut_at, run_read}
use Rattle.byte_grammar.specs.declared.number.TheConstants.{MAX_NUMBER_DIGITS}

-- how many first bytes are the same
abbrev pub common_length : List ℕ → List ℕ → ℕ
common_length text bytes = common_prefix_len (λ a b. a == b) text bytes

-- reads this text
unfoldable pub literal_read : List ℕ → Reader (List ℕ)
literal_read text bytes =
    if nat_lt (common_length text bytes) (length text)
    then Err (length bytes - common_length text bytes)
    else Ok (text, drop (length text) bytes)

-- digits, not more than one where the first is zero
unfoldable pub digits_read : Reader (List ℕ)
digits_read bytes =
    run_read is_digit 1
    (if starts_in (λ c. c == byte "0") bytes then 1 else MAX_NUMBER_DIGITS) bytes

-- the byte is this one
abbrev pub is_end : ℕ → ℕ → Bool
is_end end c = c == end

-- a number, and this byte
unfoldable pub number_read : ℕ → Reader ℕ
number_read end bytes = do
  d ← digits_read bytes
  n ← byte_read (is_end end) d.1
  Ok (digits_value 10 d.0, n.1)

-- so many bytes
unfoldable pub bytes_read : ℕ → Reader (List ℕ)
bytes_read size bytes = if nat_lt (length bytes) size then Err 0 else cut_at size bytes

-- so many bytes, and LF
unfoldable pub counted_read : ℕ → Reader (List ℕ)
counted_read size bytes = do
  d ← bytes_read size bytes
  n ← byte_read (is_end (byte "\n")) d.1
  Ok (d.0, n.1)
