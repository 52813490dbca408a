-- Classes of bytes of URIs (RFC 3986 sections 2 and 3).
use Rattle.std.specs.Prelude.{ℕ, Bool, ◌||◌, ◌==◌, not, codes}
use Rattle.std.specs.Char.{is_ascii_alphanumeric}
use Rattle.std.specs.Str.{byte}
use Rattle.byte_grammar.specs.Classes.{is_one_of}
use Rattle.derived_values.specs.declared.uri_byte.UriByte.{UriByte}
use Rattle.derived_values.specs.declared.uri_byte.UriByte.TheVariants.{Scheme, Authority, Path, Query, Host, Literal}

-- unreserved and sub-delims (RFC 3986 sections 2.3 and 2.2)
abbrev pub is_unreserved_or_delim : ℕ → Bool
is_unreserved_or_delim c = is_ascii_alphanumeric c || is_one_of (codes "-._~!$&'()*+,;=") c

-- what a scheme has after its first letter (RFC 3986 section 3.1)
abbrev pub is_scheme_byte : ℕ → Bool
is_scheme_byte c = is_ascii_alphanumeric c || is_one_of (codes "+-.") c

-- `/`, `?` and `#` end an authority (RFC 3986 section 3.2)
abbrev pub is_authority_byte : ℕ → Bool
is_authority_byte c = not (is_one_of (codes "/?#") c)

-- `?` and `#` end a path (RFC 3986 section 3.3)
abbrev pub is_path_byte : ℕ → Bool
is_path_byte c = not (is_one_of (codes "?#") c)

-- `#` ends a query (RFC 3986 section 3.4)
abbrev pub is_query_byte : ℕ → Bool
is_query_byte c = not (c == byte "#")

-- what a reg-name has; that `%` begins a triplet isn't judged (RFC 3986 section 3.2.2)
abbrev pub is_host_byte : ℕ → Bool
is_host_byte c = is_unreserved_or_delim c || (c == byte "%")

-- what an IP-literal has in its brackets; that it is an address isn't judged (RFC 3986 section
-- 3.2.2)
abbrev pub is_literal_byte : ℕ → Bool
is_literal_byte c = is_unreserved_or_delim c || (c == byte ":")

-- the bytes of a class of URIs, by its name
abbrev pub members : UriByte → ℕ → Bool
members Scheme c = is_scheme_byte c
members Authority c = is_authority_byte c
members Path c = is_path_byte c
members Query c = is_query_byte c
members Host c = is_host_byte c
members Literal c = is_literal_byte c
