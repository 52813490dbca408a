-- The strict text of a value in range has the bytes of a String alone.
use Rattle.std.proofs.Common.{◌≡◌, ℕ, zero, suc, ◌+◌, ◌*◌, ◌/◌, ◌%◌, ◌^◌, ◌<◌, Bool, true, false, ◌&&◌, ◌||◌, eqb, ℤ, pos, negsuc, List, [], ◌∷◌, ◌++◌, length, replicate, codes, slice_index, if◌then◌else◌, ◌-◌, inl, inr, refl, arith}
use Rattle.std.specs.Prelude.{unsigned_abs}
use Rattle.std.specs.Char.{is_ascii_alphabetic, is_ascii_alphanumeric, is_ascii_digit, is_ascii_lowercase, digit_char}
use Rattle.std.specs.Fmt.{decimal}
use Rattle.std.specs.List.{list_all, flat_map, join_by}
use Rattle.std.specs.Str.{is_utf8}
use Rattle.std.proofs.lemmas.Bool.{cases_Bool, and_parts, or_cases, eqb-true, ltb-true, false≢true}
use Rattle.std.proofs.lemmas.Bool.Decides.{nat_tests}
use Rattle.std.proofs.lemmas.Fmt.{decimal_by_steps}
use Rattle.std.proofs.lemmas.List.Folds.{list_all-append}
use Rattle.std.proofs.lemmas.List.Sums.{AllPass-from_list_all}
use Rattle.base64.specs.Engines.{standard}
use Rattle.base64.specs.GeneralPurpose.{engine_symbols, encode_of}
use Rattle.base64.specs.Rfc4648.{encode_symbols}
use Rattle.sfv_text.specs.declared.pair.Pair.{Pair}
use Rattle.sfv_text.specs.declared.value.BareItem.{BareItem}
use Rattle.sfv_text.specs.declared.value.BareItem.TheVariants.{Integer, Decimal, Str, Token, Bytes, Bool as Boolean, Date, Display}
use Rattle.sfv_text.specs.declared.value.Item.{Item}
use Rattle.sfv_text.specs.declared.value.InnerList.{InnerList}
use Rattle.sfv_text.specs.declared.value.Member.{Member}
use Rattle.sfv_text.specs.declared.value.Member.TheVariants.{Item as ItemMember, InnerList as InnerMember}
use Rattle.sfv_text.specs.Keys.{have_distinct_keys}
use Rattle.byte_grammar.specs.Classes.{is_one_of, is_tchar}
use Rattle.sfv_text.specs.Range.{is_string_byte, is_unencoded, is_byte, is_token_first, is_token_rest, is_key_first, is_key_rest, is_word, is_sf_token, is_key, is_number_in_range, is_bare_in_range, is_param_in_range, are_params_in_range, is_item_in_range, is_inner_in_range, is_member_in_range, is_list_in_range, is_dict_member_in_range, is_dict_in_range}
use Rattle.sfv_text.specs.Strict.{sign_text, integer_text, fraction_text, decimal_text, character_text, string_text, bytes_text, encoded_byte, display_byte_text, display_text, bare_text, param_value_text, param_text, params_text, item_text, inner_text, member_text, list_text, dict_item_text, dict_value_text, dict_member_text, dict_text}
use Rattle.sfv_text.proofs.Utf8Bytes.{utf8_bytes}

abbrev pub IsPrintable : List ℕ → Type 0
IsPrintable text = list_all is_string_byte text ≡ true

-- ---- joined texts

joined : (a b : List ℕ) → IsPrintable a → IsPrintable b → IsPrintable (a ++ b)
joined a b p q = rw (list_all-append is_string_byte a b, p) q

flat : {X : Type 0} (f : X → List ℕ) (test : X → Bool) → ((x : X) → test x ≡ true → IsPrintable (f x)) → (xs : List X) → list_all test xs ≡ true → IsPrintable (flat_map f xs)
flat f test each [] h = refl
flat f test each (x ∷ xs) h =
    let p = and_parts (test x) (list_all test xs) h in
    joined (f x) (flat_map f xs) (each x p.0) (flat f test each xs p.1)

separated : {X : Type 0} (f : X → List ℕ) (sep : List ℕ) (test : X → Bool) → IsPrintable sep → ((x : X) → test x ≡ true → IsPrintable (f x)) → (xs : List X) → list_all test xs ≡ true → IsPrintable (join_by f sep xs)
separated f sep test s each [] h = refl
separated f sep test s each (x ∷ xs) h =
    let p = and_parts (test x) (list_all test xs) h in
    joined (f x) (flat_map (λ y. sep ++ f y) xs) (each x p.0) (flat (λ y. sep ++ f y) test (λ y t. joined sep (f y) s (each y t)) xs p.1)

-- ---- words

one_of : (test : ℕ → Bool) (bytes : List ℕ) (c : ℕ) → list_all test bytes ≡ true → is_one_of bytes c ≡ true → test c ≡ true
one_of test [] c all h = absurd (false≢true h)
one_of test (b ∷ bytes) c all h = elim (or_cases (eqb b c) (is_one_of bytes c) h) [
  | inl same ↦ rw (← eqb-true b c same) (and_parts (test b) (list_all test bytes) all).0
  | inr more ↦ one_of test bytes c (and_parts (test b) (list_all test bytes) all).1 more
]

alphanumeric : (c : ℕ) → is_ascii_alphanumeric c ≡ true → is_string_byte c ≡ true
alphanumeric c h = grind (arith, nat_tests)

alphabetic : (c : ℕ) → is_ascii_alphabetic c ≡ true → is_string_byte c ≡ true
alphabetic c h = grind (arith, nat_tests)

lowercase : (c : ℕ) → is_ascii_lowercase c ≡ true → is_string_byte c ≡ true
lowercase c h = grind (arith, nat_tests)

digit : (c : ℕ) → is_ascii_digit c ≡ true → is_string_byte c ≡ true
digit c h = grind (arith, nat_tests)

star : (c : ℕ) → eqb c 42 ≡ true → is_string_byte c ≡ true
star c h = rw (eqb-true c 42 h) refl

tchar : (c : ℕ) → is_tchar c ≡ true → is_string_byte c ≡ true
tchar c h = elim (or_cases (is_ascii_alphanumeric c) (is_one_of (codes "!#$%&'*+-.^_`|~") c) h) [
  | inl a ↦ alphanumeric c a
  | inr o ↦ one_of is_string_byte (codes "!#$%&'*+-.^_`|~") c refl o
]

token_first : (c : ℕ) → is_token_first c ≡ true → is_string_byte c ≡ true
token_first c h = elim (or_cases (is_ascii_alphabetic c) (eqb c 42) h) [ inl a ↦ alphabetic c a | inr s ↦ star c s ]

token_rest : (c : ℕ) → is_token_rest c ≡ true → is_string_byte c ≡ true
token_rest c h = elim (or_cases (is_tchar c) (is_one_of (codes ":/") c) h) [ inl t ↦ tchar c t | inr o ↦ one_of is_string_byte (codes ":/") c refl o ]

key_first : (c : ℕ) → is_key_first c ≡ true → is_string_byte c ≡ true
key_first c h = elim (or_cases (is_ascii_lowercase c) (eqb c 42) h) [ inl a ↦ lowercase c a | inr s ↦ star c s ]

key_rest : (c : ℕ) → is_key_rest c ≡ true → is_string_byte c ≡ true
key_rest c h = elim (or_cases (is_ascii_lowercase c || is_ascii_digit c) (is_one_of (codes "_-.*") c) h) [
  | inl a ↦ elim (or_cases (is_ascii_lowercase c) (is_ascii_digit c) a) [ inl l ↦ lowercase c l | inr d ↦ digit c d ]
  | inr o ↦ one_of is_string_byte (codes "_-.*") c refl o
]

all_more : (test : ℕ → Bool) → ((c : ℕ) → test c ≡ true → is_string_byte c ≡ true) → (cs : List ℕ) → list_all test cs ≡ true → IsPrintable cs
all_more test each [] h = refl
all_more test each (c ∷ cs) h =
    let p = and_parts (test c) (list_all test cs) h in
    rw (each c p.0) (all_more test each cs p.1)

word : (first others : ℕ → Bool) → ((c : ℕ) → first c ≡ true → is_string_byte c ≡ true) → ((c : ℕ) → others c ≡ true → is_string_byte c ≡ true) → (text : List ℕ) → is_word first others text ≡ true → IsPrintable text
word first others f o [] h = refl
word first others f o (c ∷ cs) h =
    let p = and_parts (first c) (list_all others cs) h in
    rw (f c p.0) (all_more others o cs p.1)

token : (text : List ℕ) → is_sf_token text ≡ true → IsPrintable text
token text h = word is_token_first is_token_rest token_first token_rest text h

key : (text : List ℕ) → is_key text ≡ true → IsPrintable text
key text h = word is_key_first is_key_rest key_first key_rest text h

-- ---- numbers

one_digit : (n : ℕ) → n < 10 → is_string_byte (48 + n) ≡ true
one_digit n h = grind (arith, nat_tests)

digits : (n : ℕ) → n < 2 ^ 64 → IsPrintable (decimal n)
digits n h = decimal_by_steps (λ n ds. IsPrintable ds) (λ n small. rw (one_digit n small) refl)
    (λ n ds large p. joined ds ((48 + n % 10) ∷ []) p (rw (one_digit (n % 10) (omega arith)) refl)) n h

sign : (z : ℤ) → IsPrintable (sign_text z)
sign (pos n) = refl
sign (negsuc n) = refl

small : (z : ℤ) → is_number_in_range z ≡ true → unsigned_abs z < 2 ^ 64
small z h = let s = ltb-true (unsigned_abs z) (10 ^ 15) h in omega arith

integer : (z : ℤ) → is_number_in_range z ≡ true → IsPrintable (integer_text z)
integer z h = joined (sign_text z) (decimal (unsigned_abs z)) (sign z) (digits (unsigned_abs z) (small z h))

third : (n : ℕ) (zero_end : Bool) → IsPrintable (if zero_end then [] else (48 + n % 10) ∷ [])
third n true = refl
third n false = rw (one_digit (n % 10) (omega arith)) refl

second : (n : ℕ) (zero_end last : Bool) → IsPrintable (if zero_end then [] else (48 + n / 10 % 10) ∷ (if last then [] else (48 + n % 10) ∷ []))
second n true last = refl
second n false last = rw (one_digit (n / 10 % 10) (omega arith)) (third n last)

fraction : (n : ℕ) → n < 1000 → IsPrintable (fraction_text n)
fraction n h = rw (one_digit (n / 100) (omega arith)) (second n (eqb (n % 100) 0) (eqb (n % 10) 0))

decimal_is : (z : ℤ) → is_number_in_range z ≡ true → IsPrintable (decimal_text z)
decimal_is z h =
    let s = small z h in
    joined (sign_text z) (decimal (unsigned_abs z / 1000) ++ 46 ∷ fraction_text (unsigned_abs z % 1000)) (sign z)
    (joined (decimal (unsigned_abs z / 1000)) (46 ∷ fraction_text (unsigned_abs z % 1000)) (digits (unsigned_abs z / 1000) (omega arith))
    (fraction (unsigned_abs z % 1000) (omega arith)))

-- ---- Strings and Byte Sequences

character : (c : ℕ) → is_string_byte c ≡ true → IsPrintable (character_text c)
character c h = by (eqb c 34 || eqb c 92)
  where
    by : (b : Bool) → IsPrintable (if b then 92 ∷ c ∷ [] else c ∷ [])
    by true = rw h refl
    by false = rw h refl

string : (text : List ℕ) → IsPrintable text → IsPrintable (string_text text)
string text h = joined (flat_map character_text text) (34 ∷ []) (flat character_text is_string_byte character text h) refl

letter : (i : ℕ) → i < 64 → is_string_byte (slice_index (engine_symbols standard) i) ≡ true
letter i lt = AllPass-from_list_all is_string_byte (engine_symbols standard) refl i 0 lt

symbols : (bytes : List ℕ) → list_all is_byte bytes ≡ true → IsPrintable (encode_symbols (engine_symbols standard) bytes)
unfolding encode_symbols
symbols [] h = refl
symbols (a ∷ []) h =
    let a0 = ltb-true a 256 (and_parts (is_byte a) true h).0 in
    rw (letter (a / 4) (omega arith), letter (a % 4 * 16) (omega arith)) refl
symbols (a ∷ b ∷ []) h =
    let p = and_parts (is_byte a) (is_byte b && true) h in
    let a0 = ltb-true a 256 p.0 in
    let b0 = ltb-true b 256 (and_parts (is_byte b) true p.1).0 in
    rw (letter (a / 4) (omega arith), letter (a % 4 * 16 + b / 16) (omega arith), letter (b % 16 * 4) (omega arith)) refl
symbols (a ∷ b ∷ c ∷ rest) h =
    let p = and_parts (is_byte a) (is_byte b && (is_byte c && list_all is_byte rest)) h in
    let q = and_parts (is_byte b) (is_byte c && list_all is_byte rest) p.1 in
    let r = and_parts (is_byte c) (list_all is_byte rest) q.1 in
    let a0 = ltb-true a 256 p.0 in
    let b0 = ltb-true b 256 q.0 in
    let c0 = ltb-true c 256 r.0 in
    rw (letter (a / 4) (omega arith), letter (a % 4 * 16 + b / 16) (omega arith), letter (b % 16 * 4 + c / 64) (omega arith), letter (c % 64) (omega arith)) (symbols rest r.1)

padding : (n : ℕ) → IsPrintable (replicate n 61)
padding zero = refl
padding (suc n) = padding n

byte_sequence : (bytes : List ℕ) → list_all is_byte bytes ≡ true → IsPrintable (bytes_text bytes)
byte_sequence bytes h =
    joined (encode_of standard bytes) (58 ∷ [])
    (joined (encode_symbols (engine_symbols standard) bytes) (replicate ((3 - length bytes % 3) % 3) 61) (symbols bytes h) (padding ((3 - length bytes % 3) % 3))) refl

-- ---- Display Strings

hex : (n : ℕ) → n < 16 → is_string_byte (digit_char n) ≡ true
hex n h = grind (arith, nat_tests)

encoded : (b : ℕ) → b < 2 ^ 8 → IsPrintable (encoded_byte b)
encoded b h = rw (hex (b / 16) (omega arith), hex (b % 16) (omega arith)) refl

display_byte : (b : ℕ) → is_byte b ≡ true → IsPrintable (display_byte_text b)
display_byte b h = elim (cases_Bool (is_unencoded b)) [
  | inl plain ↦ rw (plain, (and_parts (is_string_byte b) _ plain).0) refl
  | inr other ↦ rw other (encoded b (ltb-true _ _ h))
]

display_string : (bytes : List ℕ) → is_utf8 bytes ≡ true → IsPrintable (display_text bytes)
display_string bytes h = joined (flat_map display_byte_text bytes) (34 ∷ []) (flat display_byte_text is_byte display_byte bytes (utf8_bytes bytes h)) refl

-- ---- bare items and parameters

pub bare_is : (bare : BareItem) → is_bare_in_range bare ≡ true → IsPrintable (bare_text bare)
bare_is (Integer z) h = integer z h
bare_is (Decimal z) h = decimal_is z h
bare_is (Str text) h = string text h
bare_is (Token text) h = token text h
bare_is (Bytes b) h = byte_sequence b h
bare_is (Boolean true) h = refl
bare_is (Boolean false) h = refl
bare_is (Date z) h = integer z h
bare_is (Display b) h = display_string b h

param_value : (bare : BareItem) → is_bare_in_range bare ≡ true → IsPrintable (param_value_text bare)
param_value (Integer z) h = bare_is (Integer z) h
param_value (Decimal z) h = bare_is (Decimal z) h
param_value (Str text) h = bare_is (Str text) h
param_value (Token text) h = bare_is (Token text) h
param_value (Bytes b) h = bare_is (Bytes b) h
param_value (Boolean true) h = refl
param_value (Boolean false) h = refl
param_value (Date z) h = bare_is (Date z) h
param_value (Display b) h = bare_is (Display b) h

param : (p : Pair BareItem) → is_param_in_range p ≡ true → IsPrintable (param_text p)
param p h =
    let q = and_parts (is_key p.key) (is_bare_in_range p.value) h in
    joined p.key (param_value_text p.value) (key p.key q.0) (param_value p.value q.1)

params : (ps : List (Pair BareItem)) → are_params_in_range ps ≡ true → IsPrintable (params_text ps)
params ps h = flat param_text is_param_in_range param ps (and_parts (have_distinct_keys ps) (list_all is_param_in_range ps) h).1

-- ---- Items, Inner Lists, Lists and Dictionaries

pub item_is : (item : Item) → is_item_in_range item ≡ true → IsPrintable (item_text item)
item_is item h =
    let p = and_parts (is_bare_in_range item.bare) (are_params_in_range item.params) h in
    joined (bare_text item.bare) (params_text item.params) (bare_is item.bare p.0) (params item.params p.1)

pub inner_is : (inner : InnerList) → is_inner_in_range inner ≡ true → IsPrintable (inner_text inner)
inner_is inner h =
    let p = and_parts (list_all is_item_in_range inner.items) (are_params_in_range inner.params) h in
    joined (join_by item_text (codes " ") inner.items) (41 ∷ params_text inner.params) (separated item_text (codes " ") is_item_in_range refl item_is inner.items p.0) (params inner.params p.1)

pub member_is : (m : Member) → is_member_in_range m ≡ true → IsPrintable (member_text m)
member_is (ItemMember item) h = item_is item h
member_is (InnerMember inner) h = inner_is inner h

pub list_is : (members : List Member) → is_list_in_range members ≡ true → IsPrintable (list_text members)
list_is members h = separated member_text (codes ", ") is_member_in_range refl member_is members h

entry_item : (bare : BareItem) (ps : List (Pair BareItem)) → is_bare_in_range bare ≡ true → IsPrintable (params_text ps) → IsPrintable (dict_item_text bare ps)
entry_item (Integer z) ps h p = joined (bare_text (Integer z)) (params_text ps) (bare_is (Integer z) h) p
entry_item (Decimal z) ps h p = joined (bare_text (Decimal z)) (params_text ps) (bare_is (Decimal z) h) p
entry_item (Str text) ps h p = joined (bare_text (Str text)) (params_text ps) (bare_is (Str text) h) p
entry_item (Token text) ps h p = joined (bare_text (Token text)) (params_text ps) (bare_is (Token text) h) p
entry_item (Bytes b) ps h p = joined (bare_text (Bytes b)) (params_text ps) (bare_is (Bytes b) h) p
entry_item (Boolean true) ps h p = p
entry_item (Boolean false) ps h p = joined (bare_text (Boolean false)) (params_text ps) refl p
entry_item (Date z) ps h p = joined (bare_text (Date z)) (params_text ps) (bare_is (Date z) h) p
entry_item (Display b) ps h p = joined (bare_text (Display b)) (params_text ps) (bare_is (Display b) h) p

entry_value : (m : Member) → is_member_in_range m ≡ true → IsPrintable (dict_value_text m)
entry_value (ItemMember item) h =
    let p = and_parts (is_bare_in_range item.bare) (are_params_in_range item.params) h in
    entry_item item.bare item.params p.0 (params item.params p.1)
entry_value (InnerMember inner) h = inner_is inner h

entry : (e : Pair Member) → is_dict_member_in_range e ≡ true → IsPrintable (dict_member_text e)
entry e h =
    let p = and_parts (is_key e.key) (is_member_in_range e.value) h in
    joined e.key (dict_value_text e.value) (key e.key p.0) (entry_value e.value p.1)

pub dict_is : (entries : List (Pair Member)) → is_dict_in_range entries ≡ true → IsPrintable (dict_text entries)
dict_is entries h = separated dict_member_text (codes ", ") is_dict_member_in_range refl entry entries (and_parts (have_distinct_keys entries) (list_all is_dict_member_in_range entries) h).1
