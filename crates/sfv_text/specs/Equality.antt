-- Whether two bare items, or two parameters, are equal (RFC 9651 sections 3.1.2 and 3.3).
use Rattle.std.specs.Prelude.{Bool, false, ◌&&◌, not, if◌then◌else◌}
use Rattle.std.specs.Ordering.{int_eq}
use Rattle.std.specs.Str.{bytes_eq}
use Rattle.sfv_text.specs.declared.pair.Pair.{Pair}
use Rattle.sfv_text.specs.declared.value.BareItem.{BareItem}
use Rattle.sfv_text.specs.declared.value.BareItem.TheVariants.{Integer, Decimal, Str, Token, Bytes, Bool as Boolean, Date, Display}

-- the type and the value are the same
abbrev pub is_equal_bare : BareItem → BareItem → Bool
is_equal_bare (Integer a) (Integer b) = int_eq a b
is_equal_bare (Decimal a) (Decimal b) = int_eq a b
is_equal_bare (Str a) (Str b) = bytes_eq a b
is_equal_bare (Token a) (Token b) = bytes_eq a b
is_equal_bare (Bytes a) (Bytes b) = bytes_eq a b
is_equal_bare (Boolean a) (Boolean b) = if a then b else not b
is_equal_bare (Date a) (Date b) = int_eq a b
is_equal_bare (Display a) (Display b) = bytes_eq a b
is_equal_bare a b = false

-- the key and the value are the same
abbrev pub is_equal_param : Pair BareItem → Pair BareItem → Bool
is_equal_param a b = bytes_eq a.key b.key && is_equal_bare a.value b.value
