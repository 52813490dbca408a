-- The text of a value (RFC 9651 section 4.1).
use Rattle.std.specs.Prelude.{ℕ, ◌+◌, ◌/◌, ◌%◌, ℤ, pos, negsuc, Bool, true, false, ◌||◌, ◌==◌, unsigned_abs, List, [], ◌∷◌, ◌++◌, codes, if◌then◌else◌}
use Rattle.std.specs.Char.{digit_char}
use Rattle.std.specs.Str.{byte}
use Rattle.std.specs.Fmt.{decimal}
use Rattle.std.specs.List.{flat_map, join_by}
use Rattle.base64.specs.Engines.{standard}
use Rattle.base64.specs.GeneralPurpose.{encode_of}
use Rattle.sfv_text.specs.Classes.{is_unencoded}
use Rattle.sfv_text.specs.declared.pair.Pair.{Pair}
use Rattle.sfv_text.specs.declared.value.BareItem.{BareItem}
use Rattle.sfv_text.specs.declared.value.BareItem.TheVariants.{Integer, Decimal, Str, Token, Bytes, Bool as Boolean, Date, Display}
use Rattle.sfv_text.specs.declared.value.Item.{Item}
use Rattle.sfv_text.specs.declared.value.InnerList.{InnerList}
use Rattle.sfv_text.specs.declared.value.Member.{Member}
use Rattle.sfv_text.specs.declared.value.Member.TheVariants.{Item as ItemMember, InnerList as InnerMember}

-- ---- bare items (section 4.1.3.1)

-- `-` before a negative number
abbrev pub sign_text : ℤ → List ℕ
sign_text (pos n) = []
sign_text (negsuc n) = codes "-"

-- an Integer (section 4.1.4)
abbrev pub integer_text : ℤ → List ℕ
integer_text z = sign_text z ++ decimal (unsigned_abs z)

-- three digits of thousandths, without zeros at the end after the first
abbrev pub fraction_text : ℕ → List ℕ
fraction_text n =
    (byte "0" + n / 100) ∷ (if n % 100 == 0 then [] else (byte "0" + n / 10 % 10)
    ∷ (if n % 10 == 0 then [] else (byte "0" + n % 10) ∷ []))

-- a Decimal by its thousandths (section 4.1.5)
abbrev pub decimal_text : ℤ → List ℕ
decimal_text z =
    sign_text z
    ++ (decimal (unsigned_abs z / 1000) ++ byte "." ∷ fraction_text (unsigned_abs z % 1000))

-- a character of a String; `"` and `\` come after a `\` (section 4.1.6)
abbrev pub character_text : ℕ → List ℕ
character_text c = if (c == byte "\"") || (c == byte "\\") then byte "\\" ∷ c ∷ [] else c ∷ []

-- a String (section 4.1.6)
abbrev pub string_text : List ℕ → List ℕ
string_text text = byte "\"" ∷ (flat_map character_text text ++ byte "\"" ∷ [])

-- a Byte Sequence (section 4.1.8)
abbrev pub bytes_text : List ℕ → List ℕ
bytes_text bytes = byte ":" ∷ (encode_of standard bytes ++ byte ":" ∷ [])

-- a Boolean (section 4.1.9)
abbrev pub bool_text : Bool → List ℕ
bool_text false = codes "?0"
bool_text true = codes "?1"

-- a Date (section 4.1.10)
abbrev pub date_text : ℤ → List ℕ
date_text z = byte "@" ∷ integer_text z

-- a byte as `%` and two lower-case hexadecimal digits (section 4.1.11)
abbrev pub encoded_byte : ℕ → List ℕ
encoded_byte b = byte "%" ∷ digit_char (b / 16) ∷ digit_char (b % 16) ∷ []

-- a byte of a Display String; each but printable ASCII is encoded, and so are `%` and `"` (section
-- 4.1.11)
abbrev pub display_byte_text : ℕ → List ℕ
display_byte_text b = if is_unencoded b then b ∷ [] else encoded_byte b

-- a Display String, by the bytes of its UTF-8 (section 4.1.11)
abbrev pub display_text : List ℕ → List ℕ
display_text bytes =
    byte "%" ∷ byte "\"" ∷ (flat_map display_byte_text bytes ++ byte "\"" ∷ [])

-- a bare item, by its kind (section 4.1.3.1)
abbrev pub bare_text : BareItem → List ℕ
bare_text (Integer z) = integer_text z
bare_text (Decimal z) = decimal_text z
bare_text (Str text) = string_text text
bare_text (Token text) = text
bare_text (Bytes bytes) = bytes_text bytes
bare_text (Boolean b) = bool_text b
bare_text (Date z) = date_text z
bare_text (Display bytes) = display_text bytes

-- ---- parameters (section 4.1.1.2)

-- what a parameter has after its key; Boolean true is not written (section 4.1.1.2)
abbrev pub param_value_text : BareItem → List ℕ
param_value_text (Boolean true) = []
param_value_text bare = byte "=" ∷ bare_text bare

-- a parameter: `;`, the key, and its value (section 4.1.1.2)
abbrev pub param_text : Pair BareItem → List ℕ
param_text param = byte ";" ∷ (param.key ++ param_value_text param.value)

-- parameters, one after the other (section 4.1.1.2)
abbrev pub params_text : List (Pair BareItem) → List ℕ
params_text params = flat_map param_text params

-- ---- items, Inner Lists, Lists and Dictionaries

-- an Item: its bare item, and its parameters (section 4.1.3)
abbrev pub item_text : Item → List ℕ
item_text item = bare_text item.bare ++ params_text item.params

-- an Inner List: its Items in parentheses, and its parameters (section 4.1.1.1)
abbrev pub inner_text : InnerList → List ℕ
inner_text inner =
    byte "(" ∷ (join_by item_text (codes " ") inner.items ++ byte ")" ∷ params_text inner.params)

-- a member of a List: an Item or an Inner List (section 4.1.1)
abbrev pub member_text : Member → List ℕ
member_text (ItemMember item) = item_text item
member_text (InnerMember inner) = inner_text inner

-- a List: its members, with a comma and a space between two (section 4.1.1)
abbrev pub list_text : List Member → List ℕ
list_text members = join_by member_text (codes ", ") members

-- an Item of Boolean true is its parameters alone
abbrev pub dict_item_text : BareItem → List (Pair BareItem) → List ℕ
dict_item_text (Boolean true) params = params_text params
dict_item_text bare params = byte "=" ∷ (bare_text bare ++ params_text params)

-- what a member of a Dictionary has after its key (section 4.1.2)
abbrev pub dict_value_text : Member → List ℕ
dict_value_text (ItemMember item) = dict_item_text item.bare item.params
dict_value_text (InnerMember inner) = byte "=" ∷ inner_text inner

-- a member of a Dictionary: the key, and what comes after it (section 4.1.2)
abbrev pub dict_member_text : Pair Member → List ℕ
dict_member_text entry = entry.key ++ dict_value_text entry.value

-- a Dictionary: its members, with a comma and a space between two (section 4.1.2)
abbrev pub dict_text : List (Pair Member) → List ℕ
dict_text entries = join_by dict_member_text (codes ", ") entries
