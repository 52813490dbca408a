-- What bare items and members hold, by their type (RFC 9651 section 3.3).
use Rattle.std.specs.Prelude.{ℕ, ℤ, Bool, true, false, Option, Some, None, List}
use Rattle.sfv_text.specs.declared.value.BareItem.{BareItem}
use Rattle.sfv_text.specs.declared.value.BareItem.TheVariants.{Integer, Str, Bytes, Bool as Boolean}
use Rattle.sfv_text.specs.declared.value.Member.{Member}
use Rattle.sfv_text.specs.declared.value.Member.TheVariants.{Item as ItemMember, InnerList as InnerMember}

-- it is an Integer (RFC 9651 section 3.3.1)
abbrev pub is_integer : BareItem → Bool
is_integer (Integer z) = true
is_integer bare = false

-- it is a String (RFC 9651 section 3.3.3)
abbrev pub is_string : BareItem → Bool
is_string (Str text) = true
is_string bare = false

-- it is Boolean true, which is written as the key alone (RFC 9651 section 3.1.2)
abbrev pub is_true : BareItem → Bool
is_true (Boolean b) = b
is_true bare = false

-- the number of an Integer
abbrev pub integer_in : BareItem → Option ℤ
integer_in (Integer z) = Some z
integer_in bare = None

-- the characters of a String
abbrev pub string_in : BareItem → Option (List ℕ)
string_in (Str text) = Some text
string_in bare = None

-- the bytes of a Byte Sequence
abbrev pub bytes_in : BareItem → Option (List ℕ)
bytes_in (Bytes bytes) = Some bytes
bytes_in bare = None

-- the bytes of a member that is a Byte Sequence; its parameters say nothing
abbrev pub byte_sequence_in : Member → Option (List ℕ)
byte_sequence_in (ItemMember item) = bytes_in item.bare
byte_sequence_in (InnerMember list) = None
