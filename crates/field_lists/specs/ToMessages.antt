-- The message of HTTP/1.1 that a list of fields is turned into (RFC 9113 section 8.3, RFC 9112).
use Rattle.std.specs.Prelude.{ℕ, Bool, true, false, ◌&&◌, ◌||◌, not, nat_lt, List, [], ◌∷◌, ◌++◌, length, map, codes, Some, if◌then◌else◌}
use Rattle.std.specs.List.{list_any}
use Rattle.std.specs.Str.{bytes_eq}
use Rattle.msg_head.specs.Starts as start
use Rattle.msg_head.specs.Starts.{StartLine}
use Rattle.msg_head.specs.Lines.{FieldLine, line_of}
use Rattle.msg_head.specs.Heads.{Head}
use Rattle.framing.specs.Chunks.{Chunks}
use Rattle.framing.specs.Sizes.{chunk_of}
use Rattle.framing.specs.Framings.{framing_of}
use Rattle.msg_body.specs.Bodies.{Body, plain, chunked}
use Rattle.msg_body.specs.Messages.{Message}
use Rattle.list_texts.specs.declared.list.Field.{Field}
use Rattle.list_texts.specs.declared.list.FieldList.{FieldList}
use Rattle.field_lists.specs.Controls.{Control, request, response, is_request, is_without_content}

-- ---- the head

-- the start line; the target is in origin form (RFC 9112 section 3.2.1), and the reason is empty
abbrev pub start_of : Control → StartLine
start_of (request control) = start.request (record {
  method = control.method;
  target = control.path;
  version = codes "HTTP/1.1";
})
start_of (response code) = start.status (record {
  version = codes "HTTP/1.1";
  code = code;
  reason = Some [];
})

-- the field line of a field
abbrev pub line_of_field : Field → FieldLine
line_of_field field = line_of field.name field.value

-- the `Host` line of a request (RFC 9112 section 3.2)
abbrev pub host_lines : Control → List FieldLine
host_lines (request control) = line_of (codes "host") control.authority ∷ []
host_lines (response code) = []

-- a field has the name
abbrev pub has_field : List ℕ → List Field → Bool
has_field name fields = list_any (λ field. bytes_eq field.name name) fields

-- there is content, or there are trailer fields
abbrev pub has_body : FieldList → Bool
has_body list = nat_lt 0 (length list.content) || nat_lt 0 (length list.trailers)

-- The content goes in chunks: no length is said, and there is content, or it is a response that may
-- have some (RFC 9112 section 6.3).
abbrev pub is_in_chunks : Control → List Field → FieldList → Bool
is_in_chunks control others list =
    not (has_field (codes "content-length") others)
    && (if is_request control then has_body list else not (is_without_content control))

-- the line that says so (RFC 9112 section 6.1)
abbrev pub coding_lines : Bool → List FieldLine
coding_lines true = line_of (codes "transfer-encoding") (codes "chunked") ∷ []
coding_lines false = []

-- the field lines: `Host`, the other fields in order, and `Transfer-Encoding`
abbrev pub head_lines : Control → List Field → Bool → List FieldLine
head_lines control others in_chunks =
    host_lines control ++ (map line_of_field others ++ coding_lines in_chunks)

-- the start line, and the field lines
abbrev pub head_with : Control → List Field → Bool → Head
head_with control others in_chunks =
    record { start = start_of control; lines = head_lines control others in_chunks }

-- ---- the body

-- the content in one chunk, or in none where it is empty (RFC 9112 section 7.1)
abbrev pub one_chunk : List ℕ → Chunks
one_chunk content = record {
  chunks = if nat_lt 0 (length content) then chunk_of content ∷ [] else [];
  last = codes "0";
}

-- the content as it is, or in chunks, and the trailer section after it
abbrev pub body_with : Bool → FieldList → Body
body_with true list = chunked (one_chunk list.content) (map line_of_field list.trailers)
body_with false list = plain list.content

-- ---- the message

-- the list's message, where the list is of this control data and has these other fields
abbrev pub message_with : Control → List Field → FieldList → Message
message_with control others list = record {
  head = head_with control others (is_in_chunks control others list);
  framing = framing_of false (head_with control others (is_in_chunks control others list));
  body = body_with (is_in_chunks control others list) list;
}
