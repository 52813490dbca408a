-- Which fields of a message its signature covers, by the side of their lines (RFC 9421 section
-- 2.1).
use Rattle.std.specs.Prelude.{ℕ, Bool, ◌&&◌, not, List, codes}
use Rattle.std.specs.List.{list_any}
use Rattle.std.specs.Str.{bytes_eq}
use Rattle.msg_head.specs.declared.error.Side.{Side}
use Rattle.msg_head.specs.declared.error.Side.TheVariants.{Header, Trailer}
use Rattle.component_ids.specs.Table.{has_param}
use Rattle.component_ids.specs.declared.id.ComponentId.{ComponentId}
use Rattle.component_ids.specs.declared.params.SigParams.{SigParams}
use Rattle.component_values.specs.Alike.{is_own_field}

-- its lines are those of the side (section 2.1.4)
abbrev pub is_on : Side → ComponentId → Bool
is_on Header id = not (has_param id.params (codes "tr"))
is_on Trailer id = has_param id.params (codes "tr")

-- it is the field of the name on the side
abbrev pub is_field_on : Side → List ℕ → ComponentId → Bool
is_field_on side name id = is_own_field id && (is_on side id && bytes_eq id.name name)

-- it is that field line by line, each as a Byte Sequence (section 2.1.3)
abbrev pub is_wrapped_on : Side → List ℕ → ComponentId → Bool
is_wrapped_on side name id = is_field_on side name id && has_param id.params (codes "bs")

-- a component is the field of the name on the side
abbrev pub covers_field : Side → List ℕ → SigParams → Bool
covers_field side name params = list_any (is_field_on side name) params.ids

-- a component is that field line by line
abbrev pub covers_lines : Side → List ℕ → SigParams → Bool
covers_lines side name params = list_any (is_wrapped_on side name) params.ids
