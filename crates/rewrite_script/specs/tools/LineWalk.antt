-- Readers of lines over lists, from left to right. No public clause cites this module.
use Rattle.std.specs.Prelude.{ℕ, Bool, ◌&&◌, ◌||◌, ◌==◌, not, nat_lt, nat_le, List, [], ◌∷◌, ◌++◌, length, map, codes, Option, Some, None, option_map, if◌then◌else◌}
use Rattle.std.specs.List.{list_all}
use Rattle.std.specs.Str.{byte, bytes_eq}
use Rattle.std.specs.Str.Parse.{digits_value}
use Rattle.byte_grammar.specs.Classes.{is_digit, is_field_name, is_line_byte, is_token}
use Rattle.byte_grammar.specs.Language.{starts_in}
use Rattle.sfv_text.specs.Classes.{is_key}
use Rattle.msg_head.specs.declared.error.Side.{Side}
use Rattle.msg_head.specs.declared.error.Side.TheVariants.{Header, Trailer}
use Rattle.rewrite_script.specs.declared.limits.TheConstants.{MAX_BLANKS, MAX_NUMBER_DIGITS}
use Rattle.rewrite_script.specs.Lines.{is_base64_byte, is_list_text, is_query_text}
use Rattle.rewrite_script.specs.declared.rewrite.Rewrite.{Rewrite}
use Rattle.rewrite_script.specs.declared.rewrite.LineRewrite.TheVariants.{Pad, Fold, Unfold, Join, Split, Move, Case, Add, Remove}
use Rattle.rewrite_script.specs.declared.rewrite.Rewrite.TheVariants.{Lines, Whole}
use Rattle.rewrite_script.specs.declared.rewrite.WholeRewrite.TheVariants.{AddLabel, Rechunk, Chunk, Dechunk, Origin, Absolute, Host, Query, Resf}

-- A reader gives the value of a text, or none.
abbrev pub Reader : Type 0 → Type 0
Reader V = List ℕ → Option V

infixl 10 ◌>>=◌
-- one reader, and then another over what the first gives
abbrev pub ◌>>=◌ : {A B : Type 0} → Option A → (A → Option B) → Option B
(Some x) >>= f = f x
None >>= f = None

abbrev pub some_if : {V : Type 0} → Bool → V → Option V
some_if b v = if b then Some v else None

-- ---- words

-- words with one SP between two of them
abbrev pub spaced : List (List ℕ) → List ℕ
spaced [] = []
spaced (word ∷ []) = word
spaced (word ∷ next ∷ words) = word ++ byte " " ∷ spaced (next ∷ words)

abbrev pub cut_if : Bool → ℕ → List ℕ → Option (List ℕ × List ℕ) → Option (List ℕ × List ℕ)
cut_if b c rest later = if b then Some ([], rest) else option_map (λ x. (c ∷ x.0, x.1)) later

-- the bytes before the first such byte, and those after it
unfoldable pub cut_read : ℕ → Reader (List ℕ × List ℕ)
cut_read end [] = None
cut_read end (c ∷ rest) = cut_if (c == end) c rest (cut_read end rest)

-- what is read of the bytes before the first such byte, and the bytes after it
unfoldable pub first_read : {V : Type 0} → ℕ → Reader V → Reader (V × List ℕ)
first_read end read bytes = cut_read end bytes >>= λ w. read w.0 >>= λ v. Some (v, w.1)

-- one word, and what comes after the SP
unfoldable pub then_read : {U V : Type 0} → Reader U → Reader V → Reader (U × V)
then_read first second bytes =
    first_read (byte " ") first bytes >>= λ u. second u.1 >>= λ v. Some (u.0, v)

-- ---- arguments

abbrev pub side_read : Reader Side
side_read word = if bytes_eq word (codes "h") then Some Header
    else if bytes_eq word (codes "t") then Some Trailer
    else None

abbrev pub has_leading_zero : List ℕ → Bool
has_leading_zero word = nat_lt 1 (length word) && starts_in (λ c. c == byte "0") word

abbrev pub is_number_word : List ℕ → Bool
is_number_word word = nat_lt 0 (length word) && (nat_le (length word) MAX_NUMBER_DIGITS
    && (list_all is_digit word && not (has_leading_zero word)))

unfoldable pub number_read : Reader ℕ
number_read word = some_if (is_number_word word) (digits_value 10 word)

abbrev pub is_blank_letter : ℕ → Bool
is_blank_letter c = (c == byte "s") || (c == byte "t")

abbrev pub are_blank_letters : List ℕ → Bool
are_blank_letters word =
    nat_lt 0 (length word) && (nat_le (length word) MAX_BLANKS && list_all is_blank_letter word)

abbrev pub blank_of : ℕ → ℕ
blank_of letter = if letter == byte "s" then byte " " else byte "\t"

unfoldable pub blanks_read : Reader (List ℕ)
blanks_read word = if bytes_eq word (codes "-") then Some []
    else some_if (are_blank_letters word) (map blank_of word)

unfoldable pub name_read : Reader (List ℕ)
name_read word = some_if (is_token word) word

unfoldable pub text_read : Reader (List ℕ)
text_read text = some_if (list_all is_line_byte text) text

unfoldable pub lower_name_read : Reader (List ℕ)
lower_name_read word = some_if (is_field_name word) word

unfoldable pub query_text_read : Reader (List ℕ)
query_text_read text = some_if (is_query_text text) text

unfoldable pub key_read : Reader (List ℕ)
key_read word = some_if (is_key word) word

unfoldable pub tag_read : Reader (List ℕ)
tag_read word = some_if (list_all is_base64_byte word) word

unfoldable pub params_read : Reader (List ℕ)
params_read text = some_if (is_list_text text) text

-- ---- sizes

-- the words, the first with one more byte before it
abbrev pub first_more : ℕ → List (List ℕ) → List (List ℕ)
first_more c [] = (c ∷ []) ∷ []
first_more c (word ∷ words) = (c ∷ word) ∷ words

abbrev pub word_if : Bool → ℕ → List (List ℕ) → List (List ℕ)
word_if b c words = if b then [] ∷ words else first_more c words

-- the words with SP between them
unfoldable pub words_read : List ℕ → List (List ℕ)
words_read [] = [] ∷ []
words_read (c ∷ rest) = word_if (c == byte " ") c (words_read rest)

-- the number of each word
unfoldable pub numbers_read : List (List ℕ) → Option (List ℕ)
numbers_read [] = Some []
numbers_read (word ∷ words) =
    number_read word >>= λ n. numbers_read words >>= λ ns. Some (n ∷ ns)

unfoldable pub sizes_read : Reader (List ℕ)
sizes_read bytes = numbers_read (words_read bytes)

-- ---- kinds

unfoldable pub pad_read : Reader Rewrite
pad_read rest = then_read side_read (then_read number_read (then_read blanks_read blanks_read)) rest
    >>= λ a. Some (Lines (Pad a.0 a.1.0 a.1.1.0 a.1.1.1))

unfoldable pub fold_read : Reader Rewrite
fold_read rest =
    then_read side_read (then_read number_read (then_read number_read blanks_read)) rest
    >>= λ a. Some (Lines (Fold a.0 a.1.0 a.1.1.0 a.1.1.1))

unfoldable pub two_read : Reader (Side × (ℕ × ℕ))
two_read rest = then_read side_read (then_read number_read number_read) rest

unfoldable pub unfold_read : Reader Rewrite
unfold_read rest = two_read rest >>= λ a. Some (Lines (Unfold a.0 a.1.0 a.1.1))

unfoldable pub join_read : Reader Rewrite
join_read rest = two_read rest >>= λ a. Some (Lines (Join a.0 a.1.0 a.1.1))

unfoldable pub split_read : Reader Rewrite
split_read rest = two_read rest >>= λ a. Some (Lines (Split a.0 a.1.0 a.1.1))

unfoldable pub move_read : Reader Rewrite
move_read rest = two_read rest >>= λ a. Some (Lines (Move a.0 a.1.0 a.1.1))

unfoldable pub case_read : Reader Rewrite
case_read rest = then_read side_read (then_read number_read name_read) rest
    >>= λ a. Some (Lines (Case a.0 a.1.0 a.1.1))

unfoldable pub add_read : Reader Rewrite
add_read rest = then_read side_read (then_read number_read (then_read name_read text_read)) rest
    >>= λ a. Some (Lines (Add a.0 a.1.0 a.1.1.0 a.1.1.1))

unfoldable pub remove_read : Reader Rewrite
remove_read rest = then_read side_read number_read rest >>= λ a. Some (Lines (Remove a.0 a.1))

unfoldable pub add_label_read : Reader Rewrite
add_label_read rest = then_read key_read (then_read tag_read params_read) rest
    >>= λ a. Some (Whole (AddLabel a.0 a.1.0 a.1.1))

unfoldable pub rechunk_read : Reader Rewrite
rechunk_read rest = sizes_read rest >>= λ sizes. Some (Whole (Rechunk sizes))

unfoldable pub chunk_read : Reader Rewrite
chunk_read rest = sizes_read rest >>= λ sizes. Some (Whole (Chunk sizes))

unfoldable pub host_read : Reader Rewrite
host_read rest = text_read rest >>= λ text. Some (Whole (Host text))

unfoldable pub query_read : Reader Rewrite
query_read rest = query_text_read rest >>= λ text. Some (Whole (Query (Some text)))

unfoldable pub resf_read : Reader Rewrite
resf_read rest = then_read side_read lower_name_read rest >>= λ a. Some (Whole (Resf a.0 a.1))

-- ---- lines

-- by the kind's word, where more words come after it and the kind changes more than field lines
unfoldable pub message_read : List ℕ → Reader Rewrite
message_read kind rest = if bytes_eq kind (codes "add-label") then add_label_read rest
    else if bytes_eq kind (codes "rechunk") then rechunk_read rest
    else if bytes_eq kind (codes "chunk") then chunk_read rest
    else if bytes_eq kind (codes "host") then host_read rest
    else if bytes_eq kind (codes "query") then query_read rest
    else if bytes_eq kind (codes "resf") then resf_read rest
    else None

-- by the kind's word, where more words come after it
unfoldable pub rewrite_read : List ℕ → Reader Rewrite
rewrite_read kind rest = if bytes_eq kind (codes "pad") then pad_read rest
    else if bytes_eq kind (codes "fold") then fold_read rest
    else if bytes_eq kind (codes "unfold") then unfold_read rest
    else if bytes_eq kind (codes "join") then join_read rest
    else if bytes_eq kind (codes "split") then split_read rest
    else if bytes_eq kind (codes "move") then move_read rest
    else if bytes_eq kind (codes "case") then case_read rest
    else if bytes_eq kind (codes "add") then add_read rest
    else if bytes_eq kind (codes "remove") then remove_read rest
    else message_read kind rest

-- a line of one word
unfoldable pub word_read : Reader Rewrite
word_read word = if bytes_eq word (codes "rechunk") then Some (Whole (Rechunk []))
    else if bytes_eq word (codes "chunk") then Some (Whole (Chunk []))
    else if bytes_eq word (codes "dechunk") then Some (Whole Dechunk)
    else if bytes_eq word (codes "origin") then Some (Whole Origin)
    else if bytes_eq word (codes "absolute") then Some (Whole Absolute)
    else if bytes_eq word (codes "query") then Some (Whole (Query None))
    else None

-- a line that is cut at its first SP, or has none
abbrev pub parts_read : List ℕ → Option (List ℕ × List ℕ) → Option Rewrite
parts_read line (Some w) = rewrite_read w.0 w.1
parts_read line None = word_read line

-- a line without the LF at its end
unfoldable pub line_read : Reader Rewrite
line_read line = parts_read line (cut_read (byte " ") line)

-- a line with its LF, and the bytes after it
unfoldable pub ended_read : Reader (Rewrite × List ℕ)
ended_read bytes = first_read (byte "\n") line_read bytes
