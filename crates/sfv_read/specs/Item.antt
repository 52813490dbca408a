-- The texts of parameters and Items (RFC 9651 sections 3.1.2 and 3.3).
use Rattle.std.specs.Prelude.{◌≡◌, ℕ, ◌⊎◌, true, List, [], ◌∷◌, ◌++◌, IsTrue}
use Rattle.std.specs.Str.{byte}
use Rattle.std.specs.List.{list_all}
use Rattle.byte_grammar.specs.Language.{IsWord, Each, after_all}
use Rattle.sfv_text.specs.declared.value.BareItem.{BareItem}
use Rattle.sfv_text.specs.declared.value.BareItem.TheVariants.{Bool as Boolean}
use Rattle.sfv_text.specs.declared.value.Item.{Item}
use Rattle.sfv_text.specs.declared.pair.Pair.{Pair}
use Rattle.sfv_text.specs.Keys.{put}
use Rattle.sfv_text.specs.Range.{is_key_first, is_key_rest}
use Rattle.byte_grammar.specs.Classes.{is_space}
use Rattle.sfv_read.specs.BareItem.{IsBareItem}

-- a lower-case letter or `*`, and then lower-case letters, digits, `_`, `-`, `.` or `*`
abbrev pub IsKey : List ℕ → List ℕ → Type 0
IsKey text key = IsWord is_key_first is_key_rest text key

-- `=` and a bare item, or nothing for true
abbrev pub IsValue : List ℕ → BareItem → Type 0
IsValue text value = ((bare : List ℕ) × (text ≡ byte "=" ∷ bare) × IsBareItem bare value)
    ⊎ ((text ≡ []) × (value ≡ Boolean true))

-- a semicolon, spaces, a key, and its value
pub record IsParameter (text : List ℕ) (p : Pair BareItem) : Type 0 where
  pub spaces : List ℕ
  pub key : List ℕ
  pub value : List ℕ
  pub joined : text ≡ byte ";" ∷ (spaces ++ (key ++ value))
  pub are_spaces : IsTrue (list_all is_space spaces)
  pub is_key : IsKey key p.key
  pub is_value : IsValue value p.value

-- parameters one after the other, as they are written
abbrev pub AreParameters : List ℕ → List (Pair BareItem) → Type 0
AreParameters text ps = Each IsParameter text ps

-- the pairs with one more: its value is put at its key
abbrev pub put_pair : {V : Type 0} → List (Pair V) → Pair V → List (Pair V)
put_pair ps p = put ps p.key p.value

-- the pairs that are made of those that stand there: a repeated key stands where it first stood
-- and has its last value
abbrev pub distinct_pairs : {V : Type 0} → List (Pair V) → List (Pair V)
distinct_pairs ps = after_all put_pair [] ps

-- a bare item and parameters
pub record IsItem (text : List ℕ) (item : Item) : Type 0 where
  pub bare : List ℕ
  pub params : List ℕ
  pub written : List (Pair BareItem)
  pub joined : text ≡ bare ++ params
  pub is_bare : IsBareItem bare item.bare
  pub are_params : AreParameters params written
  pub are_distinct : item.params ≡ distinct_pairs written
