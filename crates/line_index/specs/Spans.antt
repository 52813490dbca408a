-- Where field lines are in bytes, and their names, in which case doesn't count: RFC 9110 section
-- 5.1.
use Rattle.std.specs.Prelude.{ℕ, Bool, List}
use Rattle.std.specs.List.{slice_range}
use Rattle.std.specs.Str.{bytes_eq, str_to_ascii_lowercase}
use Rattle.line_index.specs.declared.span.LineSpan.{LineSpan}

-- bytes, and where field lines are in them
pub record SpannedLines : Type 0 where
  pub bytes : List ℕ
  pub spans : List LineSpan

-- the name of the field line at these offsets: what is before the colon
abbrev pub span_name : List ℕ → LineSpan → List ℕ
span_name bytes span = slice_range bytes span.name span.colon

-- that name in lower case is the name
abbrev pub is_span_named : List ℕ → List ℕ → LineSpan → Bool
is_span_named bytes name span = bytes_eq (str_to_ascii_lowercase (span_name bytes span)) name
