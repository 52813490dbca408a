-- The lines of rewritings. Each has one line: the kind and the arguments as words, with one SP
-- between two of them. Only the last argument of `add`, `add-label` and `host` may itself have SP
-- in it.
use Rattle.std.specs.Prelude.{◌≡◌, ⊤, ℕ, ◌^◌, Bool, true, ◌&&◌, ◌||◌, ◌==◌, not, nat_lt, nat_le, List, [], ◌∷◌, length, reverse, map, codes, Option, Some, None, IsTrue, if◌then◌else◌}
use Rattle.std.specs.Fmt.{decimal}
use Rattle.std.specs.List.{join_by, list_all}
use Rattle.std.specs.Str.{byte}
use Rattle.base64.specs.Engines.{standard}
use Rattle.base64.specs.GeneralPurpose.{IsBytes, encode_of}
use Rattle.byte_grammar.specs.Classes.{is_alpha, is_blank, is_digit, is_field_name, is_line_byte, is_one_of, is_token, is_visible}
use Rattle.byte_grammar.specs.Language.{starts_in}
use Rattle.sfv_text.specs.Classes.{is_key}
use Rattle.sfv_text.specs.declared.value.InnerList.{InnerList}
use Rattle.sfv_read.specs.Reads.{ReadsInner}
use Rattle.msg_head.specs.declared.error.Side.{Side}
use Rattle.msg_head.specs.declared.error.Side.TheVariants.{Header, Trailer}
use Rattle.rewrite_script.specs.declared.limits.TheConstants.{MAX_BLANKS, MAX_NUMBER_DIGITS}
use Rattle.rewrite_script.specs.declared.rewrite.LineRewrite.{LineRewrite}
use Rattle.rewrite_script.specs.declared.rewrite.Rewrite.{Rewrite}
use Rattle.rewrite_script.specs.declared.rewrite.WholeRewrite.{WholeRewrite}
use Rattle.rewrite_script.specs.declared.rewrite.LineRewrite.TheVariants.{Pad, Fold, Unfold, Join, Split, Move, Case, Add, Remove}
use Rattle.rewrite_script.specs.declared.rewrite.Rewrite.TheVariants.{Lines, Whole}
use Rattle.rewrite_script.specs.declared.rewrite.WholeRewrite.TheVariants.{AddLabel, Rechunk, Chunk, Dechunk, Origin, Absolute, Host, Query, Resf}

-- ---- words

-- the word of a side
abbrev pub side_word : Side → List ℕ
side_word Header = codes "h"
side_word Trailer = codes "t"

-- the letter of a blank
abbrev pub blank_letter : ℕ → ℕ
blank_letter blank = if blank == byte " " then byte "s" else byte "t"

-- the word of blanks: a letter for each, or `-` where there are none
abbrev pub blanks_word : List ℕ → List ℕ
blanks_word [] = codes "-"
blanks_word (blank ∷ blanks) = map blank_letter (blank ∷ blanks)

-- the words of a new query: its text, or none where the query goes
abbrev pub query_words : Option (List ℕ) → List (List ℕ)
query_words (Some text) = text ∷ []
query_words None = []

-- ---- lines

-- the words of the line of a rewriting of field lines; a number has no leading zeros
abbrev pub line_rewrite_words : LineRewrite → List (List ℕ)
line_rewrite_words (Pad side index before after) = codes "pad" ∷ side_word side ∷ decimal index
    ∷ blanks_word before ∷ blanks_word after ∷ []
line_rewrite_words (Fold side index at blanks) = codes "fold" ∷ side_word side ∷ decimal index
    ∷ decimal at ∷ blanks_word blanks ∷ []
line_rewrite_words (Unfold side index at) =
    codes "unfold" ∷ side_word side ∷ decimal index ∷ decimal at ∷ []
line_rewrite_words (Join side index later) =
    codes "join" ∷ side_word side ∷ decimal index ∷ decimal later ∷ []
line_rewrite_words (Split side index at) =
    codes "split" ∷ side_word side ∷ decimal index ∷ decimal at ∷ []
line_rewrite_words (Move side index to) =
    codes "move" ∷ side_word side ∷ decimal index ∷ decimal to ∷ []
line_rewrite_words (Case side index name) =
    codes "case" ∷ side_word side ∷ decimal index ∷ name ∷ []
line_rewrite_words (Add side index name text) =
    codes "add" ∷ side_word side ∷ decimal index ∷ name ∷ text ∷ []
line_rewrite_words (Remove side index) = codes "remove" ∷ side_word side ∷ decimal index ∷ []

-- the words of the line of a rewriting of a whole message
abbrev pub whole_rewrite_words : WholeRewrite → List (List ℕ)
whole_rewrite_words (AddLabel label tag params) = codes "add-label" ∷ label ∷ tag ∷ params ∷ []
whole_rewrite_words (Rechunk sizes) = codes "rechunk" ∷ map decimal sizes
whole_rewrite_words (Chunk sizes) = codes "chunk" ∷ map decimal sizes
whole_rewrite_words Dechunk = codes "dechunk" ∷ []
whole_rewrite_words Origin = codes "origin" ∷ []
whole_rewrite_words Absolute = codes "absolute" ∷ []
whole_rewrite_words (Host text) = codes "host" ∷ text ∷ []
whole_rewrite_words (Query text) = codes "query" ∷ query_words text
whole_rewrite_words (Resf side name) = codes "resf" ∷ side_word side ∷ name ∷ []

-- the words of the rewriting's line
abbrev pub rewrite_words : Rewrite → List (List ℕ)
rewrite_words (Lines rewrite) = line_rewrite_words rewrite
rewrite_words (Whole rewrite) = whole_rewrite_words rewrite

-- the rewriting's line, without the LF at its end
abbrev pub rewrite_line : Rewrite → List ℕ
rewrite_line rewrite = join_by (λ word. word) (codes " ") (rewrite_words rewrite)

-- ---- what a line can write

-- an index, an offset or a size of few digits
abbrev pub is_number : ℕ → Bool
is_number n = nat_lt n (10 ^ MAX_NUMBER_DIGITS)

-- few blanks
abbrev pub are_blanks : List ℕ → Bool
are_blanks text = nat_le (length text) MAX_BLANKS && list_all is_blank text

-- a letter of base64, or its padding (RFC 4648 section 4)
abbrev pub is_base64_byte : ℕ → Bool
is_base64_byte c = is_alpha c || (is_digit c || is_one_of (codes "+/=") c)

-- the text's last byte is SP
abbrev pub ends_in_space : List ℕ → Bool
ends_in_space text = starts_in (λ c. c == byte " ") (reverse text)

-- a text without NUL, CR and LF that begins with `(` and has no SP at its end
abbrev pub is_list_text : List ℕ → Bool
is_list_text text = list_all is_line_byte text
    && (starts_in (λ c. c == byte "(") text && not (ends_in_space text))

-- any visible byte but `#`, with which a fragment begins (RFC 3986 section 3.5)
abbrev pub is_visible_query_byte : ℕ → Bool
is_visible_query_byte c = is_visible c && not (c == byte "#")

-- `?` and the bytes of a query
abbrev pub is_query_text : List ℕ → Bool
is_query_text text = starts_in (λ c. c == byte "?") text && list_all is_visible_query_byte text

-- a new query, or none where the query goes
abbrev pub is_query : Option (List ℕ) → Bool
is_query (Some text) = is_query_text text
is_query None = true

-- A line can write the rewriting of field lines: its numbers have few digits, its blanks are few,
-- its name is a field name (RFC 9110 section 5.1), and its text has no NUL, CR or LF (section 5.5).
abbrev pub is_line_writable : LineRewrite → Bool
is_line_writable (Pad side index before after) =
    is_number index && (are_blanks before && are_blanks after)
is_line_writable (Fold side index at blanks) =
    is_number index && (is_number at && are_blanks blanks)
is_line_writable (Unfold side index at) = is_number index && is_number at
is_line_writable (Join side index later) = is_number index && is_number later
is_line_writable (Split side index at) = is_number index && is_number at
is_line_writable (Move side index to) = is_number index && is_number to
is_line_writable (Case side index name) = is_number index && is_token name
is_line_writable (Add side index name text) =
    is_number index && (is_token name && list_all is_line_byte text)
is_line_writable (Remove side index) = is_number index

-- A line can write the rewriting of a whole message: its label is a key (RFC 9651 section 3.1.2),
-- its name is in lower case, and its text has no NUL, CR or LF. What a tag and parameters say is
-- `HasValues`.
abbrev pub is_whole_writable : WholeRewrite → Bool
is_whole_writable (AddLabel label tag params) =
    is_key label && (list_all is_base64_byte tag && is_list_text params)
is_whole_writable (Rechunk sizes) = list_all is_number sizes
is_whole_writable (Chunk sizes) = list_all is_number sizes
is_whole_writable Dechunk = true
is_whole_writable Origin = true
is_whole_writable Absolute = true
is_whole_writable (Host text) = list_all is_line_byte text
is_whole_writable (Query text) = is_query text
is_whole_writable (Resf side name) = is_field_name name

-- a line can write the rewriting
abbrev pub is_writable : Rewrite → Bool
is_writable (Lines rewrite) = is_line_writable rewrite
is_writable (Whole rewrite) = is_whole_writable rewrite

-- ---- what the words of a signature say

-- the text is that of bytes in base64 with all its padding (RFC 4648 section 4)
pub record IsBase64 (text : List ℕ) : Type 0 where
  pub bytes : List ℕ
  pub are_bytes : IsBytes bytes
  pub encoded : text ≡ encode_of standard bytes

-- the text reads as an Inner List (RFC 9651 section 3.1.1)
pub record ReadsAsInner (text : List ℕ) : Type 0 where
  pub list : InnerList
  pub reads : ReadsInner text list

-- The tag of a signature is in base64, and its parameters are an Inner List (RFC 9421 section 4).
-- No other rewriting has such words.
abbrev pub HasWholeValues : WholeRewrite → Type 0
HasWholeValues (AddLabel label tag params) = IsBase64 tag × ReadsAsInner params
HasWholeValues _ = ⊤

-- what the words of the rewriting say has values
abbrev pub HasValues : Rewrite → Type 0
HasValues (Lines rewrite) = ⊤
HasValues (Whole rewrite) = HasWholeValues rewrite

-- the text is the line of the rewriting, without the LF at its end
pub record SpellsLine (text : List ℕ) (rewrite : Rewrite) : Type 0 where
  pub writable : IsTrue (is_writable rewrite)
  pub values : HasValues rewrite
  pub line : text ≡ rewrite_line rewrite

-- the text is the line of no rewriting
abbrev pub IsNoLine : List ℕ → Type 0
IsNoLine text = (rewrite : Rewrite) → ¬ SpellsLine text rewrite
