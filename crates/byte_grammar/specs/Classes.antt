-- Classes of bytes that several formats share.
use Rattle.std.specs.Prelude.{ℕ, Bool, ◌&&◌, ◌||◌, ◌==◌, not, nat_lt, List, length, codes}
use Rattle.std.specs.Char.{is_ascii_alphabetic, is_ascii_alphanumeric, is_ascii_digit, is_ascii_graphic, is_ascii_uppercase}
use Rattle.std.specs.List.{list_all, list_any}
use Rattle.std.specs.Str.{byte}
use Rattle.byte_grammar.specs.declared.class.Class.{Class}
use Rattle.byte_grammar.specs.declared.class.Class.TheVariants.{Digit, Alpha, Tchar, Blank, Visible, LineByte}

-- one of these bytes
abbrev pub is_one_of : List ℕ → ℕ → Bool
is_one_of bytes c = list_any (λ b. b == c) bytes

-- DIGIT (RFC 5234 appendix B.1)
abbrev pub is_digit : ℕ → Bool
is_digit c = is_ascii_digit c

-- ALPHA (RFC 5234 appendix B.1)
abbrev pub is_alpha : ℕ → Bool
is_alpha c = is_ascii_alphabetic c

-- VCHAR, any visible byte of ASCII (RFC 5234 appendix B.1)
abbrev pub is_visible : ℕ → Bool
is_visible c = is_ascii_graphic c

-- SP alone
abbrev pub is_space : ℕ → Bool
is_space c = c == byte " "

-- SP or HTAB, of which OWS is made (RFC 9110 section 5.6.3)
abbrev pub is_blank : ℕ → Bool
is_blank c = (c == byte " ") || (c == byte "\t")

-- tchar (RFC 9110 section 5.6.2)
abbrev pub is_tchar : ℕ → Bool
is_tchar c = is_ascii_alphanumeric c || is_one_of (codes "!#$%&'*+-.^_`|~") c

-- token: one tchar or more (RFC 9110 section 5.6.2)
abbrev pub is_token : List ℕ → Bool
is_token text = nat_lt 0 (length text) && list_all is_tchar text

-- a tchar that is no upper-case letter
abbrev pub is_name_byte : ℕ → Bool
is_name_byte c = is_tchar c && not (is_ascii_uppercase c)

-- a field name in lower case (RFC 9421 section 2.1)
abbrev pub is_field_name : List ℕ → Bool
is_field_name name = nat_lt 0 (length name) && list_all is_name_byte name

-- any byte but NUL, CR and LF, which a line may have between its ends (RFC 9110 section 5.5, RFC
-- 9112 section 2.2)
abbrev pub is_line_byte : ℕ → Bool
is_line_byte c = not (is_one_of (codes "\0\r\n") c)

-- the bytes of a class
abbrev pub members : Class → ℕ → Bool
members Digit c = is_digit c
members Alpha c = is_alpha c
members Tchar c = is_tchar c
members Blank c = is_blank c
members Visible c = is_visible c
members LineByte c = is_line_byte c
