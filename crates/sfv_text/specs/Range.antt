-- The values that a structured field can hold (RFC 9651 section 3).
use Rattle.std.specs.Prelude.{ℤ, ◌^◌, Bool, true, ◌&&◌, nat_lt, unsigned_abs, List}
use Rattle.std.specs.List.{list_all}
use Rattle.std.specs.Str.{is_utf8}
pub use Rattle.sfv_text.specs.Classes.{is_string_byte, is_unencoded, is_byte}
pub use Rattle.sfv_text.specs.Classes.{is_token_first, is_token_rest}
pub use Rattle.sfv_text.specs.Classes.{is_key_first, is_key_rest, is_word, is_sf_token, is_key}
use Rattle.sfv_text.specs.Keys.{have_distinct_keys}
use Rattle.sfv_text.specs.declared.pair.Pair.{Pair}
use Rattle.sfv_text.specs.declared.value.BareItem.{BareItem}
use Rattle.sfv_text.specs.declared.value.BareItem.TheVariants.{Integer, Decimal, Str, Token, Bytes, Bool as Boolean, Date, Display}
use Rattle.sfv_text.specs.declared.value.Item.{Item}
use Rattle.sfv_text.specs.declared.value.InnerList.{InnerList}
use Rattle.sfv_text.specs.declared.value.Member.{Member}
use Rattle.sfv_text.specs.declared.value.Member.TheVariants.{Item as ItemMember, InnerList as InnerMember}

-- an Integer or a Date of at most 15 digits, or the thousandths of a Decimal of at most 12 and 3
-- digits (RFC 9651 sections 3.3.1, 3.3.2 and 3.3.7)
abbrev pub is_number_in_range : ℤ → Bool
is_number_in_range z = nat_lt (unsigned_abs z) (10 ^ 15)

-- a bare item of each kind that a structured field can hold (RFC 9651 section 3.3)
abbrev pub is_bare_in_range : BareItem → Bool
is_bare_in_range (Integer z) = is_number_in_range z
is_bare_in_range (Decimal z) = is_number_in_range z
is_bare_in_range (Str text) = list_all is_string_byte text
is_bare_in_range (Token text) = is_sf_token text
is_bare_in_range (Bytes bytes) = list_all is_byte bytes
is_bare_in_range (Boolean b) = true
is_bare_in_range (Date z) = is_number_in_range z
is_bare_in_range (Display bytes) = is_utf8 bytes

-- a parameter with a key and a bare item in range (RFC 9651 section 3.1.2)
abbrev pub is_param_in_range : Pair BareItem → Bool
is_param_in_range param = is_key param.key && is_bare_in_range param.value

-- parameters in range, whose keys are distinct (RFC 9651 section 3.1.2)
abbrev pub are_params_in_range : List (Pair BareItem) → Bool
are_params_in_range params = have_distinct_keys params && list_all is_param_in_range params

-- an Item whose bare item and parameters are in range (RFC 9651 section 3.3)
abbrev pub is_item_in_range : Item → Bool
is_item_in_range item = is_bare_in_range item.bare && are_params_in_range item.params

-- an Inner List whose Items and parameters are in range (RFC 9651 section 3.1.1)
abbrev pub is_inner_in_range : InnerList → Bool
is_inner_in_range inner = list_all is_item_in_range inner.items && are_params_in_range inner.params

-- a member that is an Item or an Inner List in range (RFC 9651 section 3.1)
abbrev pub is_member_in_range : Member → Bool
is_member_in_range (ItemMember item) = is_item_in_range item
is_member_in_range (InnerMember inner) = is_inner_in_range inner

-- a List whose members are in range (RFC 9651 section 3.1)
abbrev pub is_list_in_range : List Member → Bool
is_list_in_range members = list_all is_member_in_range members

-- a member of a Dictionary, with its key
abbrev pub is_dict_member_in_range : Pair Member → Bool
is_dict_member_in_range entry = is_key entry.key && is_member_in_range entry.value

-- a Dictionary whose members are in range and whose keys are distinct (RFC 9651 section 3.2)
abbrev pub is_dict_in_range : List (Pair Member) → Bool
is_dict_in_range entries = have_distinct_keys entries && list_all is_dict_member_in_range entries
