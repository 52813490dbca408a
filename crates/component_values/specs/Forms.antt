-- The form of a field's value that parameters ask for (RFC 9421 section 2.1).
use Rattle.std.specs.Prelude.{ℕ, Option, option_map, option_and_then, unwrap_or, List, codes, if◌then◌else◌}
use Rattle.sfv_text.specs.Keys.{value_of}
use Rattle.sfv_text.specs.Parts.{string_in}
use Rattle.sfv_text.specs.declared.pair.Pair.{Pair}
use Rattle.sfv_text.specs.declared.value.BareItem.{BareItem}
use Rattle.component_ids.specs.Table.{has_param}

-- each line by itself as a Byte Sequence (section 2.1.3); the member of a key (section 2.1.2); the
-- strict text (section 2.1.1); the combined value itself
pub data Form : Type 0 where
  wrapped : Form
  member : List ℕ → Form
  strict : Form
  plain : Form

-- the key that the parameter `key` names
abbrev pub member_key : List (Pair BareItem) → Option (List ℕ)
member_key params = option_and_then string_in (value_of params (codes "key"))

-- `bs`, or `key`, or `sf`, or none of them
abbrev pub form_of : List (Pair BareItem) → Form
form_of params =
    if has_param params (codes "bs") then wrapped
    else unwrap_or (option_map member (member_key params))
    (if has_param params (codes "sf") then strict else plain)
