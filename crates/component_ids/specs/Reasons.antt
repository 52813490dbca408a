-- Why an item is no component identifier (RFC 9421 section 2).
use Rattle.std.specs.Prelude.{ℕ, Bool, false, not, Option, Some, None, List, [], ◌∷◌, codes}
use Rattle.std.specs.List.{find, list_any}
use Rattle.sfv_text.specs.Parts.{string_in}
use Rattle.sfv_text.specs.declared.pair.Pair.{Pair}
use Rattle.sfv_text.specs.declared.value.BareItem.{BareItem}
use Rattle.sfv_text.specs.declared.value.Item.{Item}
use Rattle.component_ids.specs.declared.fault.BadReason.{BadReason}
use Rattle.component_ids.specs.declared.fault.BadReason.TheVariants.{NotAString, Name, ParameterUnknown, ParameterType, ParametersClash, NameMissing}
use Rattle.component_ids.specs.Table.{is_name, goes_with, has_value_type, have_clash, has_needed}

-- the reason holds against a String of that name with these parameters
abbrev pub applies : List ℕ → List (Pair BareItem) → BadReason → Bool
applies name params NotAString = false
applies name params Name = not (is_name name)
applies name params ParameterUnknown = list_any (λ p. not (goes_with name p.key)) params
applies name params ParameterType = list_any (λ p. not (has_value_type p)) params
applies name params ParametersClash = have_clash params
applies name params NameMissing = not (has_needed name params)

-- the reasons against a String, the least first
abbrev pub reasons : List BadReason
reasons = Name ∷ ParameterUnknown ∷ ParameterType ∷ ParametersClash ∷ NameMissing ∷ []

-- the least reason against a String of that name, or what is none, with these parameters
abbrev pub reason_against : Option (List ℕ) → List (Pair BareItem) → Option BadReason
reason_against (Some name) params = find (applies name params) reasons
reason_against None params = Some NotAString

-- the least reason for which the item is no identifier
abbrev pub reason_of : Item → Option BadReason
reason_of item = reason_against (string_in item.bare) item.params

-- the word of a reason
abbrev pub word_of : BadReason → List ℕ
word_of NotAString = codes "not-a-string"
word_of Name = codes "name"
word_of ParameterUnknown = codes "parameter-unknown"
word_of ParameterType = codes "parameter-type"
word_of ParametersClash = codes "parameters-clash"
word_of NameMissing = codes "name-missing"
