-- Where the identifiers are in a text. No public clause cites this module but the view of
-- `ParamsText`.
use Rattle.std.specs.Prelude.{◌≡◌, ℕ, Bool, true, ◌&&◌, nat_le, List, length, map}
use Rattle.std.specs.List.{list_all, slice_range}
use Rattle.component_ids.specs.declared.params_text.IdSpan.{IdSpan}

-- the part at these offsets
abbrev pub part_at : List ℕ → IdSpan → List ℕ
part_at text span = slice_range text span.begin span.end

-- the offsets are in order, and lie in the text
abbrev pub lies_in : List ℕ → IdSpan → Bool
lies_in text span = nat_le span.begin span.end && nat_le span.end (length text)

-- the parts at the offsets are these
pub record HasParts (text : List ℕ) (spans : List IdSpan) (parts : List (List ℕ)) : Type 0 where
  pub lie : list_all (lies_in text) spans ≡ true
  pub are : map (part_at text) spans ≡ parts
