-- The texts of the four kinds of structured field, with spaces at both ends (RFC 9651 sections 3
-- and 4.2).
use Rattle.std.specs.Prelude.{◌≡◌, ℕ, List}
use Rattle.byte_grammar.specs.Language.{Padded}
use Rattle.sfv_text.specs.declared.value.Item.{Item}
use Rattle.sfv_text.specs.declared.value.InnerList.{InnerList}
use Rattle.sfv_text.specs.declared.value.Member.{Member}
use Rattle.sfv_text.specs.declared.pair.Pair.{Pair}
use Rattle.byte_grammar.specs.Classes.{is_space}
use Rattle.sfv_read.specs.Item.{IsItem, distinct_pairs}
use Rattle.sfv_read.specs.Inner.{IsInner}
use Rattle.sfv_read.specs.Member.{IsMember, IsDictMember, AreMembers}

-- the text reads as that Item
abbrev pub ReadsItem : List ℕ → Item → Type 0
ReadsItem text item = Padded is_space IsItem text item

-- the text reads as that Inner List
abbrev pub ReadsInner : List ℕ → InnerList → Type 0
ReadsInner text list = Padded is_space IsInner text list

-- the text reads as that List
abbrev pub ReadsList : List ℕ → List Member → Type 0
ReadsList text list = AreMembers IsMember text list

-- the text reads as that Dictionary
abbrev pub ReadsDict : List ℕ → List (Pair Member) → Type 0
ReadsDict text dict = (written : List (Pair Member))
    × AreMembers IsDictMember text written × (dict ≡ distinct_pairs written)
