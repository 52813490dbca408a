-- What a bare item owns (RFC 9651 section 3.3).
use Rattle.std.specs.Prelude.{ℕ, List, []}
use Rattle.sfv_text.specs.declared.value.BareItem.{BareItem}
use Rattle.sfv_text.specs.declared.value.BareItem.TheVariants.{Str, Token, Bytes, Display}

-- the bytes of a String, a Token, a Byte Sequence or a Display String; other bare items have none
abbrev pub own_bytes : BareItem → List ℕ
own_bytes (Str text) = text
own_bytes (Token text) = text
own_bytes (Bytes bytes) = bytes
own_bytes (Display bytes) = bytes
own_bytes bare = []
