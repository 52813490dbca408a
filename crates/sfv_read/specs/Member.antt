-- The texts of Lists and Dictionaries (RFC 9651 sections 3.1 and 3.2).
use Rattle.std.specs.Prelude.{◌≡◌, ℕ, ◌⊎◌, true, List, [], ◌∷◌, ◌++◌, IsTrue}
use Rattle.std.specs.Str.{byte}
use Rattle.std.specs.List.{list_all}
use Rattle.byte_grammar.specs.Language.{SeparatedBy}
use Rattle.sfv_text.specs.declared.value.BareItem.{BareItem}
use Rattle.sfv_text.specs.declared.value.BareItem.TheVariants.{Bool as Boolean}
use Rattle.sfv_text.specs.declared.value.Item.{Item}
use Rattle.sfv_text.specs.declared.value.Member.{Member}
use Rattle.sfv_text.specs.declared.value.Member.TheVariants.{Item as ItemMember, InnerList as InnerMember}
use Rattle.sfv_text.specs.declared.pair.Pair.{Pair}
use Rattle.byte_grammar.specs.Classes.{is_space, is_blank}
use Rattle.sfv_read.specs.Item.{IsItem, IsKey, AreParameters, distinct_pairs}
use Rattle.sfv_read.specs.Inner.{IsInner}

-- an Item or an Inner List
abbrev pub IsMember : List ℕ → Member → Type 0
IsMember text (ItemMember item) = IsItem text item
IsMember text (InnerMember list) = IsInner text list

-- the Item true with these parameters
abbrev pub true_item : List (Pair BareItem) → Item
true_item params = record { bare = Boolean true; params = params }

-- `=` and a member, or parameters alone for true
abbrev pub IsDictValue : List ℕ → Member → Type 0
IsDictValue text value = ((member : List ℕ) × (text ≡ byte "=" ∷ member) × IsMember member value)
    ⊎ ((written : List (Pair BareItem)) × AreParameters text written
    × (value ≡ ItemMember (true_item (distinct_pairs written))))

-- a key and its value
pub record IsDictMember (text : List ℕ) (p : Pair Member) : Type 0 where
  pub key : List ℕ
  pub rest : List ℕ
  pub joined : text ≡ key ++ rest
  pub is_key : IsKey key p.key
  pub value : IsDictValue rest p.value

-- a comma, with OWS at both ends (RFC 9110 section 5.6.3)
pub record IsComma (text : List ℕ) : Type 0 where
  pub before : List ℕ
  pub after : List ℕ
  pub joined : text ≡ before ++ byte "," ∷ after
  pub blanks_before : IsTrue (list_all is_blank before)
  pub blanks_after : IsTrue (list_all is_blank after)

-- spaces, members separated by commas, and OWS
pub record AreSomeMembers {V : Type 0} (M : List ℕ → V → Type 0) (text : List ℕ) (vs : List V)
    : Type 0 where
  pub before : List ℕ
  pub members : List ℕ
  pub after : List ℕ
  pub joined : text ≡ before ++ (members ++ after)
  pub spaces_before : IsTrue (list_all is_space before)
  pub blanks_after : IsTrue (list_all is_blank after)
  pub are_members : SeparatedBy IsComma M members vs

-- spaces alone where there is no member
abbrev pub AreMembers : {V : Type 0} → (List ℕ → V → Type 0) → List ℕ → List V → Type 0
AreMembers M text [] = IsTrue (list_all is_space text)
AreMembers M text (v ∷ vs) = AreSomeMembers M text (v ∷ vs)
