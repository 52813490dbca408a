-- Field lines in order of their names. No public clause cites this module.
use Rattle.std.specs.Prelude.{◌≡◌, ◌==◌, ◌&&◌, ◌<◌, ℕ, Bool, IsFalse, List, [], length, drop, filter, map, nat_lt, slice_index, if◌then◌else◌}
use Rattle.std.specs.Int.{from_be_bytes, w128}
use Rattle.std.specs.List.{All, list_all, range_with_len, slice_index_or}
use Rattle.std.specs.List.Sorted.{IsPermutation, IsSortedBy}
use Rattle.std.specs.Cmp.Lexicographic.{slice_cmp}
use Rattle.std.specs.Ordering.{ordering_then, nat_cmp, is_lt}
use Rattle.std.specs.Str.{bytes_eq, str_to_ascii_lowercase}
use Rattle.std.specs.declared.cmp.Ordering.{Ordering}
use Rattle.line_index.specs.declared.span.LineSpan.{LineSpan}
use Rattle.line_index.specs.declared.index.IndexEntry.{IndexEntry}
use Rattle.line_index.specs.Spans.{span_name, is_span_named}

-- where no line is
abbrev pub no_span : LineSpan
no_span = record { name = 0; colon = 0; end = 0 }

-- where the field line with the index is
abbrev pub span_by : List LineSpan → ℕ → LineSpan
span_by spans index = slice_index_or spans index no_span

-- its name
abbrev pub name_by : List ℕ → List LineSpan → ℕ → List ℕ
name_by bytes spans index = span_name bytes (span_by spans index)

-- its name in lower case
abbrev pub lowered_name : List ℕ → List LineSpan → ℕ → List ℕ
lowered_name bytes spans index = str_to_ascii_lowercase (name_by bytes spans index)

-- the number that the first sixteen bytes are, 0 for each that is missing
abbrev pub first_bytes : List ℕ → ℕ
first_bytes text = from_be_bytes w128 text

-- the bytes are the first sixteen of the text, 0 for each that is missing
abbrev pub HasFirstPart : List ℕ → List ℕ → Type 0
HasFirstPart text bytes = (k : ℕ) → k < 16 → slice_index bytes k ≡ slice_index text k

-- how two texts in lower case are ordered: by the first byte that differs, and where there is none
-- the shorter comes first
abbrev pub text_cmp : List ℕ → List ℕ → Ordering
text_cmp = slice_cmp nat_cmp

-- how the lines with the indexes are ordered: by name in lower case, and then by index
abbrev pub line_cmp : List ℕ → List LineSpan → ℕ → ℕ → Ordering
line_cmp bytes spans one other = ordering_then
    (text_cmp (lowered_name bytes spans one) (lowered_name bytes spans other)) (nat_cmp one other)

-- whether the line of the one entry comes before that of the other
abbrev pub comes_before : List ℕ → List LineSpan → IndexEntry → IndexEntry → Bool
comes_before bytes spans one other = is_lt (line_cmp bytes spans one.line other.line)

-- whether the line with the index has the name
abbrev pub is_line_named : List ℕ → List LineSpan → List ℕ → ℕ → Bool
is_line_named bytes spans name index = is_span_named bytes name (span_by spans index)

-- whether the entry's line has the name
abbrev pub is_named : List ℕ → List LineSpan → List ℕ → IndexEntry → Bool
is_named bytes spans name entry = is_line_named bytes spans name entry.line

-- the entry of the line with the index
abbrev pub entry_of : List ℕ → List LineSpan → ℕ → IndexEntry
entry_of bytes spans index = record {
  first_bytes = first_bytes (lowered_name bytes spans index);
  name_len = length (name_by bytes spans index);
  line = index;
}

-- the entry is that of its line
pub record IsEntry (bytes : List ℕ) (spans : List LineSpan) (entry : IndexEntry) : Type 0 where
  pub first : entry.first_bytes ≡ first_bytes (lowered_name bytes spans entry.line)
  pub size : entry.name_len ≡ length (name_by bytes spans entry.line)

-- each line's entry is there once, in order of the lines' names in lower case and, where these are
-- the same, of the lines
pub record IsIndexOf (bytes : List ℕ) (spans : List LineSpan) (index : List IndexEntry)
    : Type 0 where
  pub each : IsPermutation (map (entry_of bytes spans) (range_with_len 0 (length spans))) index
  pub sorted : IsSortedBy (comes_before bytes spans) index

-- where the field line of the entry is
abbrev pub entry_span : List LineSpan → IndexEntry → LineSpan
entry_span spans entry = span_by spans entry.line

-- each entry is that of one of so many lines
abbrev pub are_inside : ℕ → List IndexEntry → Bool
are_inside count entries = list_all (λ entry. nat_lt entry.line count) entries

-- ---- how the code compares, which gives that order

-- what comes after the first sixteen bytes
abbrev pub after_first : List ℕ → List ℕ
after_first text = drop 16 text

-- how it orders two names in lower case of which the first sixteen bytes are the same: by what
-- comes after them, and then by length
abbrev pub name_cmp : List ℕ → List ℕ → Ordering
name_cmp one other = ordering_then (text_cmp (after_first one) (after_first other))
    (nat_cmp (length one) (length other))

-- how it orders two names with their first bytes: by these, and then by the names
abbrev pub key_cmp : ℕ × List ℕ → ℕ × List ℕ → Ordering
key_cmp one other = ordering_then (nat_cmp one.0 other.0) (name_cmp one.1 other.1)

-- the first bytes that the entry has, and the name of its line in lower case
abbrev pub entry_key : List ℕ → List LineSpan → IndexEntry → ℕ × List ℕ
entry_key bytes spans entry = (entry.first_bytes, lowered_name bytes spans entry.line)

-- what comes after the first sixteen bytes of the name of the entry's line in lower case; nothing
-- where it says that the name has no more
abbrev pub rest_of_name : List ℕ → List LineSpan → IndexEntry → List ℕ
rest_of_name bytes spans entry =
    if nat_lt 16 entry.name_len then after_first (lowered_name bytes spans entry.line) else []

-- how it orders two entries of equal first bytes: by the rest of the names, then by their lengths,
-- and then by the indexes of the lines
abbrev pub tied_cmp : List ℕ → List LineSpan → IndexEntry → IndexEntry → Ordering
tied_cmp bytes spans one other = ordering_then
    (ordering_then (text_cmp (rest_of_name bytes spans one) (rest_of_name bytes spans other))
    (nat_cmp one.name_len other.name_len)) (nat_cmp one.line other.line)

-- how it orders two entries: by the first bytes, and then in this way
abbrev pub entry_cmp : List ℕ → List LineSpan → IndexEntry → IndexEntry → Ordering
entry_cmp bytes spans one other =
    ordering_then (nat_cmp one.first_bytes other.first_bytes) (tied_cmp bytes spans one other)

-- whether it has the entry's name before the name in lower case with those first bytes
abbrev pub is_key_below : List ℕ → List LineSpan → ℕ × List ℕ → IndexEntry → Bool
is_key_below bytes spans key entry = is_lt (key_cmp (entry_key bytes spans entry) key)

-- the first bytes of the name as it is written, and the name in lower case
abbrev pub name_key : List ℕ → ℕ × List ℕ
name_key name = (first_bytes name, str_to_ascii_lowercase name)

-- those that it doesn't have before the name, among them all of lines that have the name
pub record IsRestFrom (bytes : List ℕ) (spans : List LineSpan) (name : List ℕ)
    (index rest : List IndexEntry) : Type 0 where
  pub sorted : IsSortedBy (comes_before bytes spans) rest
  pub above : All (λ entry. IsFalse (is_key_below bytes spans (name_key name) entry)) rest
  pub right : All (IsEntry bytes spans) rest
  pub all : filter (is_named bytes spans name) rest ≡ filter (is_named bytes spans name) index

-- whether two names of which the first sixteen bytes are the same are the same
abbrev pub is_rest_named : List ℕ → List ℕ → Bool
is_rest_named one other =
    (length one == length other) && bytes_eq (after_first one) (after_first other)
