-- Sides, blanks, names and texts.
use Rattle.std.proofs.Common.{◌≡◌, ℕ, ◌≤◌, Bool, true, false, not, ◌&&◌, ◌||◌, List, [], ◌∷◌, length, map, codes, Some, None, refl, sym, ap, ◌∙◌, inl, inr, eqb, bytes_eq, cond, arith}
use Rattle.std.specs.Prelude.{nat_lt, nat_le}
use Rattle.std.specs.Char.{is_ascii_uppercase}
use Rattle.std.specs.List.{list_all}
use Rattle.std.proofs.lemmas.Bool.{cases_Bool, and_parts, and_from, eqb-true}
use Rattle.std.proofs.lemmas.Bool.Decides.{nat_tests}
use Rattle.std.proofs.lemmas.List.{length-map}
use Rattle.std.proofs.lemmas.Slice.Eq.{bytes_eq-Decides}
use Rattle.byte_grammar.specs.Classes.{is_blank, is_field_name, is_line_byte, is_name_byte, is_tchar, is_token}
use Rattle.byte_grammar.specs.Language.{starts_in}
use Rattle.byte_grammar.proofs.ChoiceLaws.{apart}
use Rattle.byte_grammar.proofs.ListLaws.{all_implied}
use Rattle.sfv_text.specs.Classes.{is_key, is_key_first, is_key_rest}
use Rattle.msg_head.specs.declared.error.Side.{Side}
use Rattle.msg_head.specs.declared.error.Side.TheVariants.{Header, Trailer}
use Rattle.rewrite_script.specs.Lines.{side_word, blank_letter, blanks_word, are_blanks, ends_in_space, is_base64_byte, is_list_text, is_visible_query_byte, is_query_text}
use Rattle.rewrite_script.specs.tools.LineWalk.{side_read, is_blank_letter, are_blank_letters, blank_of, blanks_read, name_read, text_read, lower_name_read, query_text_read, key_read, tag_read, params_read}
use Rattle.rewrite_script.proofs.Cuts.{but}
use Rattle.rewrite_script.proofs.Exactness.{IsExact, choice, itself_exact, line_byte_of, some_if_is, some_is}

-- ---- sides

side_sound : (word : List ℕ) (side : Side) → side_read word ≡ Some side → word ≡ side_word side
side_sound word side e = elim (choice (bytes_eq word (codes "h")) (Some Header) (cond (bytes_eq word (codes "t")) (Some Trailer) None) side e) [
  | inl header ↦ (bytes_eq-Decides word (codes "h")).0 header.0 ∙ ap side_word (some_is Header side header.1)
  | inr other ↦ elim (choice (bytes_eq word (codes "t")) (Some Trailer) None side other) [
    | inl trailer ↦ (bytes_eq-Decides word (codes "t")).0 trailer.0 ∙ ap side_word (some_is Trailer side trailer.1)
    | inr none ↦ absurd cc
  ]
]

side_complete : (side : Side) → side_read (side_word side) ≡ Some side
side_complete Header = refl
side_complete Trailer = refl

side_clean : (side : Side) → list_all is_line_byte (side_word side) ≡ true
side_clean Header = refl
side_clean Trailer = refl

pub side_exact : IsExact side_word (λ _. true) side_read
side_exact = record {
  sound = λ bytes side e. (refl, side_sound bytes side e);
  complete = λ side is. side_complete side;
  clean = λ side is. side_clean side;
}

pub side_free : (side : Side) → true ≡ true → list_all (but 32) (side_word side) ≡ true
side_free Header is = refl
side_free Trailer is = refl

-- ---- blanks

blank_is : (c : ℕ) → is_blank c ≡ true → (blank_of (blank_letter c) ≡ c) × (is_blank_letter (blank_letter c) ≡ true)
blank_is c is = elim (cases_Bool (eqb c 32)) [
  | inl space ↦ rw space (sym (eqb-true c 32 space), refl)
  | inr other ↦ let tab : eqb c 9 ≡ true = rw other at is in rw other (sym (eqb-true c 9 tab), refl)
]

letter_is : (c : ℕ) → is_blank_letter c ≡ true → (blank_letter (blank_of c) ≡ c) × (is_blank (blank_of c) ≡ true)
letter_is c is = elim (cases_Bool (eqb c 115)) [
  | inl space ↦ rw space (sym (eqb-true c 115 space), refl)
  | inr other ↦ let tab : eqb c 116 ≡ true = rw other at is in rw other (sym (eqb-true c 116 tab), refl)
]

blanks_are : (cs : List ℕ) → list_all is_blank cs ≡ true → (map blank_of (map blank_letter cs) ≡ cs) × (list_all is_blank_letter (map blank_letter cs) ≡ true)
blanks_are [] all = (refl, refl)
blanks_are (c ∷ cs) all =
    let both = and_parts (is_blank c) (list_all is_blank cs) all in
    let one = blank_is c both.0 in
    let more = blanks_are cs both.1 in
    (λ i. one.0 i ∷ more.0 i, and_from (is_blank_letter (blank_letter c)) (list_all is_blank_letter (map blank_letter cs)) one.1 more.1)

letters_are : (cs : List ℕ) → list_all is_blank_letter cs ≡ true → (map blank_letter (map blank_of cs) ≡ cs) × (list_all is_blank (map blank_of cs) ≡ true)
letters_are [] all = (refl, refl)
letters_are (c ∷ cs) all =
    let both = and_parts (is_blank_letter c) (list_all is_blank_letter cs) all in
    let one = letter_is c both.0 in
    let more = letters_are cs both.1 in
    (λ i. one.0 i ∷ more.0 i, and_from (is_blank (blank_of c)) (list_all is_blank (map blank_of cs)) one.1 more.1)

-- no letter is `-`
no_dash : (cs : List ℕ) → list_all is_blank_letter cs ≡ true → bytes_eq cs (codes "-") ≡ false
no_dash cs all = elim (cases_Bool (bytes_eq cs (codes "-"))) [
  | inl dash ↦ let none : list_all is_blank_letter (codes "-") ≡ true = ap (list_all is_blank_letter) (sym ((bytes_eq-Decides cs (codes "-")).0 dash)) ∙ all in absurd (cc none)
  | inr other ↦ other
]

some_length : (c : ℕ) (cs : List ℕ) → nat_lt 0 (length (c ∷ cs)) ≡ true
some_length c cs = let some : 1 ≤ length (c ∷ cs) = omega arith in grind (arith, nat_tests)

as_letters : (c : ℕ) (cs : List ℕ) → are_blanks (c ∷ cs) ≡ true → are_blank_letters (map blank_letter (c ∷ cs)) ≡ true
as_letters c cs is =
    let both = and_parts (nat_le (length (c ∷ cs)) 64) (list_all is_blank (c ∷ cs)) is in
    let count : length (map blank_letter (c ∷ cs)) ≡ length (c ∷ cs) = length-map (c ∷ cs) blank_letter in
    let few : nat_le (length (map blank_letter (c ∷ cs))) 64 ≡ true = ap (λ (n : ℕ). nat_le n 64) count ∙ both.0 in
    let some : nat_lt 0 (length (map blank_letter (c ∷ cs))) ≡ true = ap (λ (n : ℕ). nat_lt 0 n) count ∙ some_length c cs in
    and_from (nat_lt 0 (length (map blank_letter (c ∷ cs)))) (nat_le (length (map blank_letter (c ∷ cs))) 64 && list_all is_blank_letter (map blank_letter (c ∷ cs))) some
    (and_from (nat_le (length (map blank_letter (c ∷ cs))) 64) (list_all is_blank_letter (map blank_letter (c ∷ cs))) few (blanks_are (c ∷ cs) both.1).1)

as_blanks : (cs : List ℕ) → are_blank_letters cs ≡ true → (are_blanks (map blank_of cs) ≡ true) × (cs ≡ blanks_word (map blank_of cs))
as_blanks [] is = absurd cc
as_blanks (c ∷ cs) is =
    let a = and_parts (nat_lt 0 (length (c ∷ cs))) (nat_le (length (c ∷ cs)) 64 && list_all is_blank_letter (c ∷ cs)) is in
    let b = and_parts (nat_le (length (c ∷ cs)) 64) (list_all is_blank_letter (c ∷ cs)) a.1 in
    let all = letters_are (c ∷ cs) b.1 in
    let few : nat_le (length (map blank_of (c ∷ cs))) 64 ≡ true = ap (λ (n : ℕ). nat_le n 64) (length-map (c ∷ cs) blank_of) ∙ b.0 in
    (and_from (nat_le (length (map blank_of (c ∷ cs))) 64) (list_all is_blank (map blank_of (c ∷ cs))) few all.1, sym all.0)

blanks_sound : (word blanks : List ℕ) → blanks_read word ≡ Some blanks → (are_blanks blanks ≡ true) × (word ≡ blanks_word blanks)
unfolding blanks_read
blanks_sound word blanks e = go (bytes_eq word (codes "-")) refl e
  where
    go : (b : Bool) → bytes_eq word (codes "-") ≡ b → cond b (Some []) (cond (are_blank_letters word) (Some (map blank_of word)) None) ≡ Some blanks → (are_blanks blanks ≡ true) × (word ≡ blanks_word blanks)
    go true is e =
        let same : [] ≡ blanks = some_is _ _ e in
        (ap are_blanks (sym same), (bytes_eq-Decides word (codes "-")).0 is ∙ ap blanks_word same)
    go false is e =
        let s = some_if_is (are_blank_letters word) (map blank_of word) blanks e in
        let t = as_blanks word s.0 in
        (ap are_blanks (sym s.1) ∙ t.0, t.1 ∙ ap blanks_word s.1)

blanks_complete : (blanks : List ℕ) → are_blanks blanks ≡ true → blanks_read (blanks_word blanks) ≡ Some blanks
unfolding blanks_read
blanks_complete [] is = refl
blanks_complete (c ∷ cs) is =
    let both = and_parts (nat_le (length (c ∷ cs)) 64) (list_all is_blank (c ∷ cs)) is in
    let all = blanks_are (c ∷ cs) both.1 in
    ap (λ (b : Bool). cond b (Some []) (cond (are_blank_letters (map blank_letter (c ∷ cs))) (Some (map blank_of (map blank_letter (c ∷ cs)))) None)) (no_dash (map blank_letter (c ∷ cs)) all.1)
    ∙ ap (λ (b : Bool). cond b (Some (map blank_of (map blank_letter (c ∷ cs)))) None) (as_letters c cs is)
    ∙ ap (λ (y : List ℕ). Some y) all.0

blanks_letters : (test : ℕ → Bool) → test 45 ≡ true → ((c : ℕ) → is_blank_letter c ≡ true → test c ≡ true) → (blanks : List ℕ) → are_blanks blanks ≡ true → list_all test (blanks_word blanks) ≡ true
blanks_letters test dash each [] is = rw dash refl
blanks_letters test dash each (c ∷ cs) is =
    let both = and_parts (nat_le (length (c ∷ cs)) 64) (list_all is_blank (c ∷ cs)) is in
    all_implied is_blank_letter test each (map blank_letter (c ∷ cs)) (blanks_are (c ∷ cs) both.1).1

pub blanks_exact : IsExact blanks_word are_blanks blanks_read
blanks_exact = record {
  sound = blanks_sound;
  complete = blanks_complete;
  clean = blanks_letters is_line_byte refl (line_byte_of is_blank_letter refl);
}

pub blanks_free : (blanks : List ℕ) → are_blanks blanks ≡ true → list_all (but 32) (blanks_word blanks) ≡ true
blanks_free = blanks_letters (but 32) refl (apart is_blank_letter 32 refl)

-- ---- names and texts

token_parts : (text : List ℕ) → is_token text ≡ true → list_all is_tchar text ≡ true
token_parts text is = (and_parts (nat_lt 0 (length text)) (list_all is_tchar text) is).1

pub name_exact : IsExact (λ name. name) is_token name_read
unfolding name_read
name_exact = itself_exact is_token (λ name is. all_implied is_tchar is_line_byte (line_byte_of is_tchar refl) name (token_parts name is))

pub name_free : (name : List ℕ) → is_token name ≡ true → list_all (but 32) name ≡ true
name_free name is = all_implied is_tchar (but 32) (apart is_tchar 32 refl) name (token_parts name is)

pub text_exact : IsExact (λ text. text) (list_all is_line_byte) text_read
unfolding text_read
text_exact = itself_exact (list_all is_line_byte) (λ text is. is)

lower_tchars : (name : List ℕ) → is_field_name name ≡ true → list_all is_tchar name ≡ true
lower_tchars name is =
    let all = (and_parts (nat_lt 0 (length name)) (list_all is_name_byte name) is).1 in
    all_implied is_name_byte is_tchar (λ c one. (and_parts (is_tchar c) (not (is_ascii_uppercase c)) one).0) name all

pub lower_name_exact : IsExact (λ name. name) is_field_name lower_name_read
unfolding lower_name_read
lower_name_exact = itself_exact is_field_name (λ name is. all_implied is_tchar is_line_byte (line_byte_of is_tchar refl) name (lower_tchars name is))

pub query_text_exact : IsExact (λ text. text) is_query_text query_text_read
unfolding query_text_read
query_text_exact = itself_exact is_query_text (λ text is. all_implied is_visible_query_byte is_line_byte (line_byte_of is_visible_query_byte refl) text (and_parts (starts_in (λ c. eqb c 63) text) (list_all is_visible_query_byte text) is).1)

-- ---- labels, tags and parameters

abbrev is_key_byte : ℕ → Bool
is_key_byte c = is_key_first c || is_key_rest c

key_bytes : (key : List ℕ) → is_key key ≡ true → list_all is_key_byte key ≡ true
key_bytes [] is = absurd cc
key_bytes (c ∷ cs) is =
    let both = and_parts (is_key_first c) (list_all is_key_rest cs) is in
    and_from (is_key_byte c) (list_all is_key_byte cs) (or_left (is_key_first c) (is_key_rest c) both.0) (all_implied is_key_rest is_key_byte (λ d one. or_right (is_key_first d) (is_key_rest d) one) cs both.1)
  where
    or_left : (a b : Bool) → a ≡ true → (a || b) ≡ true
    or_left true b e = refl
    or_left false b e = absurd cc

    or_right : (a b : Bool) → b ≡ true → (a || b) ≡ true
    or_right true b e = refl
    or_right false b e = e

pub key_exact : IsExact (λ key. key) is_key key_read
unfolding key_read
key_exact = itself_exact is_key (λ key is. all_implied is_key_byte is_line_byte (line_byte_of is_key_byte refl) key (key_bytes key is))

pub key_free : (key : List ℕ) → is_key key ≡ true → list_all (but 32) key ≡ true
key_free key is = all_implied is_key_byte (but 32) (apart is_key_byte 32 refl) key (key_bytes key is)

pub tag_exact : IsExact (λ tag. tag) (list_all is_base64_byte) tag_read
unfolding tag_read
tag_exact = itself_exact (list_all is_base64_byte) (λ tag is. all_implied is_base64_byte is_line_byte (line_byte_of is_base64_byte refl) tag is)

pub tag_free : (tag : List ℕ) → list_all is_base64_byte tag ≡ true → list_all (but 32) tag ≡ true
tag_free tag is = all_implied is_base64_byte (but 32) (apart is_base64_byte 32 refl) tag is

pub params_exact : IsExact (λ params. params) is_list_text params_read
unfolding params_read
params_exact = itself_exact is_list_text (λ params is. (and_parts (list_all is_line_byte params) (starts_in (λ c. eqb c 40) params && not (ends_in_space params)) is).0)
