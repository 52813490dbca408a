-- What a rewriting makes of the lines of a side, computed, or None where it makes nothing of them.
-- No public clause cites this module.
use Rattle.std.specs.Prelude.{ℕ, ◌+◌, ◌-◌, Bool, false, ◌&&◌, ◌==◌, not, nat_le, nat_lt, Option, Some, None, option_map, List, [], ◌∷◌, ◌++◌, if◌then◌else◌, length, take, drop, reverse, slice_get, codes}
use Rattle.std.specs.Str.{byte, bytes_eq, str_to_ascii_lowercase}
use Rattle.byte_grammar.specs.Classes.{is_blank}
use Rattle.byte_grammar.specs.Language.{starts_in}
use Rattle.msg_head.specs.declared.error.Side.{Side}
use Rattle.msg_head.specs.Lines.{FieldLine}
use Rattle.msg_head.specs.Values.{has_bytes, is_there, value}
use Rattle.msg_body.specs.Messages.{Message}
use Rattle.rewrite_script.specs.declared.rewrite.LineRewrite.{LineRewrite}
use Rattle.rewrite_script.specs.declared.rewrite.LineRewrite.TheVariants.{Pad, Fold, Unfold, Join, Split, Move, Case, Add, Remove}
use Rattle.line_rewrites.specs.declared.raw.RawParts.{RawParts}
use Rattle.line_rewrites.specs.declared.line.NewLine.{NewLine}
use Rattle.msg_body.specs.SameFields.{name_of}
use Rattle.line_rewrites.specs.LineLists.{line_of}
use Rattle.msg_body.specs.Spacing.{is_solid}
pub use Rattle.line_rewrites.specs.RawValues.{without_first_spacing, without_last_spacing}
use Rattle.line_rewrites.specs.Sides.{SideParts, text_with, side_parts, has_side}

-- ---- raw values

-- the parts one after the other
abbrev pub raw_text : RawParts → List ℕ
raw_text parts = parts.first.now ++ (parts.second.now ++ (parts.third.now ++ parts.last.now))

-- the raw value without the spacing at its ends
abbrev pub core_of : List ℕ → List ℕ
core_of raw = without_last_spacing (without_first_spacing raw)

-- the raw value with these texts at its ends, in place of its spacing
abbrev pub padded : List ℕ → List ℕ → List ℕ → List ℕ
padded before after raw = before ++ (core_of raw ++ after)

-- the text ends with CRLF
abbrev pub is_crlf_before : List ℕ → Bool
is_crlf_before text = bytes_eq (take 2 (reverse text)) (codes "\n\r")

-- the raw value of these two parts, the second of which begins with the blank
abbrev pub folded_at : List ℕ → List ℕ → List ℕ → Option (List ℕ)
folded_at blanks before [] = None
folded_at blanks before (c ∷ after) =
    if is_blank c && (has_bytes blanks && not (is_crlf_before before))
    then Some (before ++ (codes "\r\n" ++ (blanks ++ after))) else None

-- the raw value with CRLF and the blanks in place of the blank at the offset; a CRLF before it
-- would be that of an empty line
abbrev pub folded : ℕ → List ℕ → List ℕ → Option (List ℕ)
folded offset blanks raw = folded_at blanks (take offset raw) (drop offset raw)

-- the raw value with SP in place of the CRLF at the offset and the spacing around it
abbrev pub unfolded : ℕ → List ℕ → Option (List ℕ)
unfolded offset raw =
    if bytes_eq (take 2 (drop offset raw)) (codes "\r\n")
    then Some (without_last_spacing (take offset raw)
    ++ byte " " ∷ without_first_spacing (drop 2 (drop offset raw)))
    else None

-- the byte is a comma
abbrev pub is_comma : ℕ → Bool
is_comma c = c == byte ","

-- the two parts, where the second begins with the comma between them
abbrev pub comma_at : List ℕ → List ℕ → Option (List ℕ × List ℕ)
comma_at first [] = None
comma_at first (c ∷ last) = if is_comma c then Some (first, last) else None

-- what is before the comma at the offset, and after it
abbrev pub cut_at_comma : ℕ → List ℕ → Option (List ℕ × List ℕ)
cut_at_comma offset raw = comma_at (take offset raw) (drop offset raw)

-- the text is a space, a byte that is no spacing, and more
abbrev pub is_space_before_solid : List ℕ → Bool
is_space_before_solid [] = false
is_space_before_solid (c ∷ rest) = (c == byte " ") && starts_in is_solid rest

-- ---- one line

-- the line of these parts
abbrev pub new_line_of : NewLine → FieldLine
new_line_of line = record { name = line.name.now; raw = raw_text line.raw }

-- the line with another raw value
abbrev pub with_raw : FieldLine → List ℕ → FieldLine
with_raw line raw = record { name = line.name; raw = raw }

-- the line with another name
abbrev pub with_name : FieldLine → List ℕ → FieldLine
with_name line name = record { name = name; raw = line.raw }

-- the one line that the line becomes
abbrev pub line_becomes : LineRewrite → FieldLine → Option FieldLine
line_becomes (Pad side index before after) line =
    Some (with_raw line (padded before after line.raw))
line_becomes (Fold side index offset blanks) line =
    option_map (with_raw line) (folded offset blanks line.raw)
line_becomes (Unfold side index offset) line =
    option_map (with_raw line) (unfolded offset line.raw)
line_becomes (Case side index name) line =
    if bytes_eq (name_of line) (str_to_ascii_lowercase name) then Some (with_name line name)
    else None
line_becomes (Join side index later) line = None
line_becomes (Split side index offset) line = None
line_becomes (Move side index to) line = None
line_becomes (Add side index name text) line = None
line_becomes (Remove side index) line = None

-- ---- lists of lines

-- this line in place of that of the index
abbrev pub with_line : ℕ → List FieldLine → FieldLine → List FieldLine
with_line index lines line = take index lines ++ line ∷ drop (index + 1) lines

-- the line that is there becomes another
abbrev pub replaced_at : LineRewrite → ℕ → List FieldLine → Option FieldLine
    → Option (List FieldLine)
replaced_at step index lines None = None
replaced_at step index lines (Some line) =
    option_map (with_line index lines) (line_becomes step line)

-- the lines from the one index up to the other
abbrev pub lines_between : ℕ → ℕ → List FieldLine → List FieldLine
lines_between from to lines = take (to - from) (drop from lines)

-- the line that has the values of both
abbrev pub joined_line : FieldLine → FieldLine → FieldLine
joined_line line other =
    line_of line.name (value line.raw ++ (codes ", " ++ value other.raw))

-- both have one name, which no line between them has
abbrev pub are_joinable : ℕ → ℕ → List FieldLine → FieldLine → FieldLine → Bool
are_joinable index later lines line other = nat_lt index later
    && (bytes_eq (name_of other) (name_of line)
    && not (is_there (lines_between (index + 1) later lines) (name_of line)))

-- the two lines that are there become one
abbrev pub joined_at : ℕ → ℕ → List FieldLine → Option FieldLine → Option FieldLine
    → Option (List FieldLine)
joined_at index later lines None other = None
joined_at index later lines (Some line) None = None
joined_at index later lines (Some line) (Some other) =
    if are_joinable index later lines line other
    then Some (take index lines ++ joined_line line other
    ∷ (lines_between (index + 1) later lines ++ drop (later + 1) lines))
    else None

-- the line becomes two, of the values of these parts
abbrev pub split_parts : ℕ → List FieldLine → FieldLine → Option (List ℕ × List ℕ)
    → Option (List FieldLine)
split_parts index lines line None = None
split_parts index lines line (Some parts) =
    Some (take index lines ++ line_of line.name (value parts.0)
    ∷ line_of line.name (value parts.1) ∷ drop (index + 1) lines)

-- the line that is there becomes two at its comma
abbrev pub split_at : ℕ → ℕ → List FieldLine → Option FieldLine → Option (List FieldLine)
split_at index offset lines None = None
split_at index offset lines (Some line) =
    split_parts index lines line (cut_at_comma offset line.raw)

-- the line at an index that isn't before its own
abbrev pub moved_forward : ℕ → ℕ → List FieldLine → FieldLine → List FieldLine
moved_forward index to lines line = take index lines
    ++ (lines_between (index + 1) (to + 1) lines ++ line ∷ drop (to + 1) lines)

-- the line at an index before its own
abbrev pub moved_backward : ℕ → ℕ → List FieldLine → FieldLine → List FieldLine
moved_backward index to lines line = take to lines
    ++ line ∷ (lines_between to index lines ++ drop (index + 1) lines)

-- the line that is there comes to the other index
abbrev pub moved_at : ℕ → ℕ → List FieldLine → Option FieldLine → Option (List FieldLine)
moved_at index to lines None = None
moved_at index to lines (Some line) =
    if nat_lt to (length lines)
    then Some (if nat_le index to then moved_forward index to lines line
    else moved_backward index to lines line)
    else None

-- the line is put in
abbrev pub added : ℕ → FieldLine → List FieldLine → Option (List FieldLine)
added index line lines =
    if nat_le index (length lines) then Some (take index lines ++ line ∷ drop index lines)
    else None

-- the line goes
abbrev pub removed : ℕ → List FieldLine → Option (List FieldLine)
removed index lines =
    if nat_lt index (length lines) then Some (take index lines ++ drop (index + 1) lines)
    else None

-- the lines that the step makes of these lines of its side
abbrev pub changed : LineRewrite → List FieldLine → Option (List FieldLine)
changed (Pad side index before after) lines =
    replaced_at (Pad side index before after) index lines (slice_get lines index)
changed (Fold side index offset blanks) lines =
    replaced_at (Fold side index offset blanks) index lines (slice_get lines index)
changed (Unfold side index offset) lines =
    replaced_at (Unfold side index offset) index lines (slice_get lines index)
changed (Case side index name) lines =
    replaced_at (Case side index name) index lines (slice_get lines index)
changed (Join side index later) lines =
    joined_at index later lines (slice_get lines index) (slice_get lines later)
changed (Split side index offset) lines = split_at index offset lines (slice_get lines index)
changed (Move side index to) lines = moved_at index to lines (slice_get lines index)
changed (Add side index name text) lines = added index (line_of name text) lines
changed (Remove side index) lines = removed index lines

-- ---- messages

-- the side that the step changes
abbrev pub changed_side : LineRewrite → Side
changed_side (Pad side index before after) = side
changed_side (Fold side index offset blanks) = side
changed_side (Unfold side index offset) = side
changed_side (Case side index name) = side
changed_side (Join side index later) = side
changed_side (Split side index offset) = side
changed_side (Move side index to) = side
changed_side (Add side index name text) = side
changed_side (Remove side index) = side

-- the bytes of the parts with the lines that the step makes
abbrev pub changed_text : SideParts → LineRewrite → Option (List ℕ)
changed_text parts step = option_map (text_with parts) (changed step parts.lines)

-- the bytes of the message with the lines that the step makes
abbrev pub rewritten : Message → LineRewrite → Option (List ℕ)
rewritten message step =
    if has_side (changed_side step) message
    then changed_text (side_parts (changed_side step) message) step
    else None
