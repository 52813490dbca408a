-- Start lines: RFC 9112 sections 2.1, 3 and 4.
use Rattle.std.specs.Prelude.{ℕ, Bool, IsTrue, ◌&&◌, ◌||◌, ◌==◌, nat_lt, List, [], ◌∷◌, ◌++◌, length, codes, Option, Some, None, IfSome}
use Rattle.std.specs.List.{list_all}
use Rattle.std.specs.Str.{byte, bytes_eq}
use Rattle.byte_grammar.specs.Classes.{is_token, is_visible, is_digit, is_line_byte}

-- a request line: method, target and version (RFC 9112 section 3)
pub record RequestLine : Type 0 where
  pub method : List ℕ
  pub target : List ℕ
  pub version : List ℕ

-- a status line (RFC 9112 section 4); there is no reason where the second SP isn't there
pub record StatusLine : Type 0 where
  pub version : List ℕ
  pub code : List ℕ
  pub reason : Option (List ℕ)

-- The target's inner grammar (RFC 9112 section 3.2) isn't judged: it is any text of visible bytes.
abbrev pub is_target : List ℕ → Bool
is_target text = nat_lt 0 (length text) && list_all is_visible text

-- HTTP-version (RFC 9112 section 2.3): of the versions that it has these two are read
abbrev pub is_version : List ℕ → Bool
is_version text = bytes_eq text (codes "HTTP/1.1") || bytes_eq text (codes "HTTP/1.0")

-- status-code: three digits (RFC 9112 section 4)
abbrev pub is_code : List ℕ → Bool
is_code text = (length text == 3) && list_all is_digit text

-- the parts are those that a request line has
pub record IsRequestLine (line : RequestLine) : Type 0 where
  pub method : IsTrue (is_token line.method)
  pub target : IsTrue (is_target line.target)
  pub version : IsTrue (is_version line.version)

-- the parts are those that a status line has; a reason may be empty
pub record IsStatusLine (line : StatusLine) : Type 0 where
  pub version : IsTrue (is_version line.version)
  pub code : IsTrue (is_code line.code)
  pub reason : IfSome line.reason (λ reason. IsTrue (list_all is_line_byte reason))

-- method, SP, target, SP, version, CRLF
abbrev pub request_text : RequestLine → List ℕ
request_text line =
    line.method ++ byte " " ∷ (line.target ++ byte " " ∷ (line.version ++ codes "\r\n"))

-- SP and the reason, or nothing
abbrev pub reason_text : Option (List ℕ) → List ℕ
reason_text None = []
reason_text (Some reason) = byte " " ∷ reason

-- version, SP, code, SP and reason or nothing, CRLF. RFC 9112 has the second SP always.
abbrev pub status_text : StatusLine → List ℕ
status_text line =
    line.version ++ byte " " ∷ (line.code ++ (reason_text line.reason ++ codes "\r\n"))

-- a start line is one of the two (RFC 9112 section 2.1)
pub data StartLine : Type 0 where
  request : RequestLine → StartLine
  status : StatusLine → StartLine

-- the parts are those of a request line or of a status line (RFC 9112 section 2.1)
abbrev pub IsStartLine : StartLine → Type 0
IsStartLine (request line) = IsRequestLine line
IsStartLine (status line) = IsStatusLine line

-- the text of a start line, CRLF at its end (RFC 9112 section 2.1)
abbrev pub start_text : StartLine → List ℕ
start_text (request line) = request_text line
start_text (status line) = status_text line
