-- Lists of pairs by their keys (RFC 9651 sections 3.1.2 and 3.2).
use Rattle.std.specs.Prelude.{ℕ, Bool, true, ◌&&◌, not, Option, option_map, List, [], ◌∷◌, ◌++◌, map, if◌then◌else◌}
use Rattle.std.specs.List.{find, list_any}
use Rattle.std.specs.Str.{bytes_eq}
use Rattle.sfv_text.specs.declared.pair.Pair.{Pair}

-- the pair has this key
abbrev pub has_key : {V : Type 0} → List ℕ → Pair V → Bool
has_key key pair = bytes_eq pair.key key

-- no two pairs have one key
abbrev pub have_distinct_keys : {V : Type 0} → List (Pair V) → Bool
have_distinct_keys [] = true
have_distinct_keys (pair ∷ pairs) =
    not (list_any (has_key pair.key) pairs) && have_distinct_keys pairs

-- the value of the key, where a pair has it
abbrev pub value_of : {V : Type 0} → List (Pair V) → List ℕ → Option V
value_of pairs key = option_map (λ pair. pair.value) (find (has_key key) pairs)

-- the pair, with the value where it has the key
abbrev pub with_value : {V : Type 0} → List ℕ → V → Pair V → Pair V
with_value key value pair = if has_key key pair then record pair { value = value } else pair

-- the pairs, with this value in place of the key's value, or with the pair at the end
abbrev pub put : {V : Type 0} → List (Pair V) → List ℕ → V → List (Pair V)
put pairs key value =
    if list_any (has_key key) pairs then map (with_value key value) pairs
    else pairs ++ record { key = key; value = value } ∷ []
