-- What a view stands for.
use Rattle.std.specs.Prelude.{◌≡◌, ℕ, ◌+◌, ◌<◌, ◌≤◌, Bool, ◌&&◌, nat_le, nat_lt, List, [], ◌∷◌, length, map, take, option_map}
use Rattle.std.specs.List.{slice_range}
use Rattle.line_index.specs.declared.span.LineSpan.{LineSpan}
use Rattle.msg_head.specs.declared.line.LineView.{LineView}
use Rattle.msg_head.specs.declared.start.Start.{Start}
use Rattle.msg_head.specs.declared.start.Start.TheVariants.{Request, Status}
use Rattle.msg_head.specs.Lines.{FieldLine}
use Rattle.msg_head.specs.Starts.{StartLine, request, status, start_text}
use Rattle.msg_head.specs.Heads.{Head, IsHeadText}

-- the bytes of a head, its start line, and where its field lines are in the bytes
pub record View : Type 0 where
  pub bytes : List ℕ
  pub start : StartLine
  pub spans : List LineSpan

-- the field line at these offsets
abbrev pub line_at : List ℕ → LineSpan → FieldLine
line_at bytes span = record {
  name = slice_range bytes span.name span.colon;
  raw = slice_range bytes (span.colon + 1) span.end;
}

-- the field lines of the view
abbrev pub lines_of : View → List FieldLine
lines_of view = map (line_at view.bytes) view.spans

-- the head that the view stands for
abbrev pub head_of : View → Head
head_of view = record { start = view.start; lines = lines_of view }

-- the offsets are in order, and lie in so many bytes
abbrev pub lies_in : ℕ → LineSpan → Bool
lies_in count span =
    nat_le span.name span.colon && (nat_lt span.colon span.end && nat_le span.end count)

-- From the one offset to the other field lines follow each other. Between a name's end and the raw
-- value is one byte, the colon, and after the raw value two, its CRLF.
abbrev pub FollowEachOther : ℕ → List LineSpan → ℕ → Type 0
FollowEachOther from [] to = from ≡ to
FollowEachOther from (span ∷ spans) to =
    (span.name ≡ from) × (span.name < span.colon) × (span.colon < span.end)
    × FollowEachOther (span.end + 2) spans to

-- the start line, the field lines and an empty line, of two bytes, fill the bytes
abbrev pub Fills : View → Type 0
Fills view = (end : ℕ) × FollowEachOther (length (start_text view.start)) view.spans end
    × (length view.bytes ≡ end + 2)

-- the view is that of the head that the first bytes, so many, spell
pub record IsViewOf (bytes : List ℕ) (view : View) (used : ℕ) : Type 0 where
  pub within : used ≤ length bytes
  pub bytes_are : view.bytes ≡ take used bytes
  pub spells : IsHeadText (head_of view) view.bytes
  pub fills : Fills view

-- the field line of these borrowed parts
abbrev pub field_line_of : LineView → FieldLine
field_line_of line = record { name = line.name.now; raw = line.raw.now }

-- the start line of these borrowed parts
abbrev pub start_line_of : Start → StartLine
start_line_of (Request method target version) =
    request (record { method = method.now; target = target.now; version = version.now })
start_line_of (Status version code reason) = status (record {
  version = version.now;
  code = code.now;
  reason = option_map (λ text. text.now) reason;
})
