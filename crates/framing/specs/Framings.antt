-- How the head of a message says that its content ends: RFC 9112 sections 6.1 to 6.3.
use Rattle.std.specs.Prelude.{ℕ, Bool, true, false, IsTrue, IsFalse, ◌&&◌, ◌||◌, ◌==◌, nat_lt, nat_le, List, [], ◌∷◌, if◌then◌else◌, length, codes}
use Rattle.std.specs.List.{list_all}
use Rattle.std.specs.Str.{byte, bytes_eq, str_to_ascii_lowercase}
use Rattle.std.specs.Str.Parse.{digits_value}
use Rattle.byte_grammar.specs.Classes.{is_digit}
use Rattle.byte_grammar.specs.Language.{starts_in}
use Rattle.msg_head.specs.Starts.{StartLine, request, status}
use Rattle.msg_head.specs.Heads.{Head}
use Rattle.msg_head.specs.Values.{values, is_there}
use Rattle.framing.specs.declared.kind.Framing.{Framing}
use Rattle.framing.specs.declared.kind.Framing.TheVariants.{None, Length, Chunked, ToEnd}
use Rattle.framing.specs.declared.limits.TheConstants.{MAX_LENGTH_DIGITS}

-- ---- start lines

-- the start line is a request line (RFC 9112 section 3)
abbrev pub is_request : StartLine → Bool
is_request (request line) = true
is_request (status line) = false

-- it is a request line whose method is HEAD (RFC 9110 section 9.3.2)
abbrev pub is_head_request : StartLine → Bool
is_head_request (request line) = bytes_eq line.method (codes "HEAD")
is_head_request (status line) = false

-- the version that the start line has (RFC 9112 section 2.3)
abbrev pub version_of : StartLine → List ℕ
version_of (request line) = line.version
version_of (status line) = line.version

-- 1xx, 204 or 304: no response with this status code has content (RFC 9110 section 6.4.1)
abbrev pub is_code_without_content : List ℕ → Bool
is_code_without_content code = starts_in (λ c. c == byte "1") code
    || (bytes_eq code (codes "204") || bytes_eq code (codes "304"))

-- The message is a response that has no content, whatever its lines say: its code has none, or it
-- answers a HEAD request (RFC 9112 section 6.3, number 1). A 2xx response to CONNECT has none
-- either (number 2); tunnels aren't read here, and it is framed as any other response.
abbrev pub has_no_content : Bool → StartLine → Bool
has_no_content to_head (request line) = false
has_no_content to_head (status line) = to_head || is_code_without_content line.code

-- ---- the lines that frame

-- the values of the Transfer-Encoding lines (RFC 9112 section 6.1)
abbrev pub codings_of : Head → List (List ℕ)
codings_of head = values head.lines (codes "transfer-encoding")

-- the values of the Content-Length lines (RFC 9112 section 6.2)
abbrev pub lengths_of : Head → List (List ℕ)
lengths_of head = values head.lines (codes "content-length")

-- there is a Transfer-Encoding line
abbrev pub has_codings : Head → Bool
has_codings head = is_there head.lines (codes "transfer-encoding")

-- there is a Content-Length line
abbrev pub has_lengths : Head → Bool
has_lengths head = is_there head.lines (codes "content-length")

-- the one transfer coding that is read, in which case doesn't count (RFC 9112 section 7)
abbrev pub is_chunked : List ℕ → Bool
is_chunked text = bytes_eq (str_to_ascii_lowercase text) (codes "chunked")

-- a number of bytes, which may begin with zeros. RFC 9110 section 8.6 sets no greatest number of
-- digits; here there is one.
abbrev pub is_length : List ℕ → Bool
is_length text =
    nat_lt 0 (length text) && (nat_le (length text) MAX_LENGTH_DIGITS && list_all is_digit text)

-- The Transfer-Encoding lines are accepted: there is none, or one of `chunked` in HTTP/1.1. RFC
-- 9112 section 6.1 has further codings, and lists of them; here they are refused.
abbrev pub are_accepted_codings : List ℕ → List (List ℕ) → Bool
are_accepted_codings version [] = true
are_accepted_codings version (text ∷ []) = is_chunked text && bytes_eq version (codes "HTTP/1.1")
are_accepted_codings version (text ∷ (other ∷ others)) = false

-- The Content-Length lines are accepted: there is none, or one that is a length. RFC 9112 section
-- 6.3, number 5, lets a recipient take equal ones for one; here they are refused.
abbrev pub are_accepted_lengths : List (List ℕ) → Bool
are_accepted_lengths [] = true
are_accepted_lengths (text ∷ []) = is_length text
are_accepted_lengths (text ∷ (other ∷ others)) = false

-- There are lines of both. RFC 9112 section 6.3, number 3, lets a recipient read the chunks; here
-- such a head is refused.
abbrev pub is_conflict : Head → Bool
is_conflict head = has_codings head && has_lengths head

-- the head says how its message's content ends, or that there is none
pub record IsFramable (head : Head) : Type 0 where
  pub no_conflict : IsFalse (is_conflict head)
  pub lengths : IsTrue (are_accepted_lengths (lengths_of head))
  pub codings : IsTrue (are_accepted_codings (version_of head.start) (codings_of head))

-- ---- the framing

-- the framing of a message with this start line, where there are such lines or none (RFC 9112
-- section 6.3)
abbrev pub framing_by : Bool → StartLine → Bool → Bool → Framing
framing_by to_head start has_codings has_lengths =
    if has_no_content to_head start then None
    else if has_codings then Chunked
    else if has_lengths then Length
    else if is_request start then None
    else ToEnd

-- the framing of the head's message, which answers a HEAD request or doesn't
abbrev pub framing_of : Bool → Head → Framing
framing_of to_head head =
    framing_by to_head head.start (has_codings head) (has_lengths head)

-- the number that the first of these values spells, 0 where there is none
abbrev pub first_length : List (List ℕ) → ℕ
first_length [] = 0
first_length (text ∷ texts) = digits_value 10 text

-- the length that the head has, 0 where it has none
abbrev pub content_length_of : Head → ℕ
content_length_of head = first_length (lengths_of head)
