-- How many bytes the parts of a head have. No public clause cites this module.
use Rattle.std.specs.Prelude.{◌≡◌, ℕ, ◌+◌, ◌<◌, Bool, true, false, Option, Some, None, List, [], ◌∷◌, length, nat_lt, if◌then◌else◌}
use Rattle.std.specs.Str.{bytes_eq}
use Rattle.list_texts.specs.declared.list.Field.{Field}
use Rattle.field_lists.specs.Controls.{Control, request, response}

-- so much of the room is left after so many bytes, or they don't fit
abbrev pub LeavesRoom : Option ℕ → ℕ → ℕ → Type 0
LeavesRoom (Some left) size room = left + size ≡ room
LeavesRoom None size room = room < size

-- the field line of a field: a colon, SP and CRLF beside the name and the value
abbrev pub line_size : Field → ℕ
line_size field = length field.name + length field.value + 4

-- the field lines of these fields
abbrev pub lines_size : List Field → ℕ
lines_size [] = 0
lines_size (field ∷ fields) = line_size field + lines_size fields

-- the start line and the `Host` line
abbrev pub own_size : Control → ℕ
own_size (request control) =
    length control.method + length control.path + length control.authority + 20
own_size (response code) = length code + 12

-- the line that says that chunks come
abbrev pub coding_size : Bool → ℕ
coding_size true = 28
coding_size false = 0

-- and with these the empty line
abbrev pub fixed_size : Control → Bool → ℕ
fixed_size control in_chunks = own_size control + coding_size in_chunks + 2

-- the field has the name
abbrev pub is_named : List ℕ → Field → Bool
is_named name field = bytes_eq field.name name

-- the size of the one chunk, or none where the content is empty
abbrev pub sizes_of : List ℕ → List ℕ
sizes_of content = if nat_lt 0 (length content) then length content ∷ [] else []
