-- What a signature covers of the derived components and of what fields read as (RFC 9421 sections
-- 2.1 and 2.2).
use Rattle.std.specs.Prelude.{ℕ, Bool, false, ◌&&◌, ◌||◌, not, option_map, unwrap_or, List, codes}
use Rattle.std.specs.List.{list_any}
use Rattle.std.specs.Str.{bytes_eq}
use Rattle.msg_head.specs.declared.error.Side.{Side}
use Rattle.msg_head.specs.declared.error.Side.TheVariants.{Header}
use Rattle.component_ids.specs.Table.{has_param, is_listed}
use Rattle.component_ids.specs.declared.id.ComponentId.{ComponentId}
use Rattle.component_ids.specs.declared.params.SigParams.{SigParams}
use Rattle.component_values.specs.Forms.{member_key}
use Rattle.signatures.specs.Signatures.{input_name, signature_name}
use Rattle.line_rewrites.specs.Covered.{is_field_on}

-- a component of the message itself, of one of the names
abbrev pub is_own_of : List (List ℕ) → ComponentId → Bool
is_own_of names id = not (has_param id.params (codes "req")) && is_listed names id.name

-- a component of the message itself has one of the names
abbrev pub covers_one_of : List (List ℕ) → SigParams → Bool
covers_one_of names params = list_any (is_own_of names) params.ids

-- it is the field of the name on the side, and neither its strict form nor a member of it
-- (sections 2.1.1 and 2.1.2)
abbrev pub is_unread_on : Side → List ℕ → ComponentId → Bool
is_unread_on side name id = is_field_on side name id
    && not (has_param id.params (codes "sf") || has_param id.params (codes "key"))

-- a component is that field, and no value that it reads as
abbrev pub covers_unread : Side → List ℕ → SigParams → Bool
covers_unread side name params = list_any (is_unread_on side name) params.ids

-- it is the member of another label
abbrev pub is_of_other : List ℕ → ComponentId → Bool
is_of_other added id =
    unwrap_or (option_map (λ key. not (bytes_eq key added)) (member_key id.params)) false

-- it is a field of signatures of the header, and not the member of another label there
abbrev pub rests_on_label : List ℕ → ComponentId → Bool
rests_on_label added id =
    (is_field_on Header input_name id || is_field_on Header signature_name id)
    && not (is_of_other added id)
