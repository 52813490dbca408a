-- The encoded characters are those of UTF-8.
use Rattle.std.proofs.Common.{◌≡◌, ◌⊎◌, inl, inr, ℕ, zero, suc, ◌+◌, ◌-◌, ◌*◌, ◌/◌, ◌%◌, ◌<◌, ◌≤◌, Bool, true, nat_le, List, [], ◌∷◌, ◌++◌, IsUtf8, refl, sym, ap, subst, ◌∙◌, arith}
use Rattle.std.specs.List.{flat_map, list_all}
use Rattle.std.specs.Str.{continuation_len}
use Rattle.std.proofs.lemmas.Bool.{cases_lt, le-leb, lt-ltb, le-ltb}
use Rattle.std.proofs.lemmas.Bool.Decides.{nat_tests}
use Rattle.std.proofs.lemmas.Str.{IsUtf8-encode, encode_ascii}
use lib.Utf8.{scalar, encode, scalar_cases, low_scalar}
use Rattle.sfv_text.specs.Strict.{encoded_byte}
use Rattle.sfv_read.specs.declared.display_string.HexDigits.{HexDigits}
use Rattle.sfv_read.specs.declared.display_string.HexDigits.TheVariants.{Lead}
use Rattle.sfv_read.specs.tools.DisplayWalk.{has_value, after_lead, after_first, any_digit, continuation}
use Rattle.sfv_read.proofs.EncodedBytes.{IsContinuations, IsCharacter}

-- ---- the digits of bytes

-- the first digit and the second are those of the first byte of a character
abbrev IsFirst : ℕ → Type 0
IsFirst b = (b < 256) × (has_value Lead (b / 16) ≡ true) × (has_value (after_lead (b / 16)) (b % 16) ≡ true)

first_from : (b : ℕ) → IsFirst b → (b < 128) ⊎ ((194 ≤ b) × (b < 245))
first_from b h = elim (cases_lt b 128) [
  | inl low ↦ inl low
  | inr high ↦ inr (grind (arith, nat_tests), grind (arith, nat_tests))
]

first_low : (b : ℕ) → b < 128 → IsFirst b
first_low b lt = (omega arith, grind (arith, nat_tests), grind (arith, nat_tests))

first_high : (b : ℕ) → 194 ≤ b → b < 245 → IsFirst b
first_high b le lt = (omega arith, grind (arith, nat_tests), grind (arith, nat_tests))

-- what the second byte of a character is, after its first (RFC 3629 section 4)
record IsSecond (b c : ℕ) : Type 0 where
  least : 128 ≤ c
  most : c < 192
  no_short_three : b ≡ 224 → 160 ≤ c
  no_surrogate : b ≡ 237 → c < 160
  no_short_four : b ≡ 240 → 144 ≤ c
  no_large : b ≡ 244 → c < 144

second_from : (b c : ℕ) → has_value (after_first b) (c / 16) ≡ true → IsSecond b c
second_from b c h = record {
  least = grind (arith, nat_tests);
  most = grind (arith, nat_tests);
  no_short_three = λ e. grind (arith, nat_tests);
  no_surrogate = λ e. grind (arith, nat_tests);
  no_short_four = λ e. grind (arith, nat_tests);
  no_large = λ e. grind (arith, nat_tests);
}

second_passes : (b c : ℕ) → IsSecond b c → has_value (after_first b) (c / 16) ≡ true
second_passes b c s =
    let least = s.least in
    let most = s.most in
    let short_three = s.no_short_three in
    let surrogate = s.no_surrogate in
    let short_four = s.no_short_four in
    let large = s.no_large in
    grind (arith, nat_tests)

further_from : (c : ℕ) → has_value continuation (c / 16) ≡ true → (128 ≤ c) × (c < 192)
further_from c h = (grind (arith, nat_tests), grind (arith, nat_tests))

further_passes : (c : ℕ) → 128 ≤ c → c < 192 → has_value continuation (c / 16) ≡ true
further_passes c le lt = grind (arith, nat_tests)

any_passes : (c : ℕ) → has_value (any_digit (c / 16)) (c % 16) ≡ true
any_passes c = grind (arith, nat_tests)

-- ---- the bytes of a character

-- so many bytes, whose first digits are these
abbrev AreContinuations : ℕ → HexDigits → List ℕ → Type 0
AreContinuations zero firsts cs = cs ≡ []
AreContinuations (suc n) firsts cs = (c : ℕ) × (ds : List ℕ) × (cs ≡ c ∷ ds) × (c < 256) × (has_value firsts (c / 16) ≡ true) × AreContinuations n continuation ds

record AreBytesOf (s : List ℕ) : Type 0 where
  first : ℕ
  others : List ℕ
  joined : s ≡ first ∷ others
  is_first : IsFirst first
  are_others : AreContinuations (continuation_len first) (after_first first) others

encodings : (n : ℕ) (firsts : HexDigits) (x cs : List ℕ) → IsContinuations n firsts x cs → AreContinuations n firsts cs × (x ≡ flat_map encoded_byte cs)
encodings zero firsts x cs h = (sym h.1, h.0 ∙ ap (flat_map encoded_byte) h.1)
encodings (suc n) firsts x cs t =
    let b = t.spells in
    let ds = t.more.0 in
    let others = encodings n continuation t.second ds t.more.1 in (
      (t.value, ds, sym t.more.2, b.1, b.2, others.0),
      t.joined ∙ (λ i. b.0 i ++ others.1 i) ∙ ap (flat_map encoded_byte) t.more.2,
    )

encoded_all : (n : ℕ) (firsts : HexDigits) (cs : List ℕ) → AreContinuations n firsts cs → IsContinuations n firsts (flat_map encoded_byte cs) cs
encoded_all zero firsts cs h = (ap (flat_map encoded_byte) h, sym h)
encoded_all (suc n) firsts cs h = record {
  first = encoded_byte h.0;
  second = flat_map encoded_byte h.1;
  value = h.0;
  joined = ap (flat_map encoded_byte) h.2;
  spells = (refl, h.3, h.4, any_passes h.0);
  more = (h.1, encoded_all n continuation h.1 h.5, sym h.2);
}

character_parts : (x s : List ℕ) → IsCharacter x s → AreBytesOf s × (x ≡ flat_map encoded_byte s)
character_parts x s t =
    let b = t.spells in
    let others = encodings (continuation_len t.value) (after_first t.value) t.second t.more.0 t.more.1 in (
      record { first = t.value; others = t.more.0; joined = sym t.more.2; is_first = (b.1, b.2, b.3); are_others = others.0 },
      t.joined ∙ (λ i. b.0 i ++ others.1 i) ∙ ap (flat_map encoded_byte) t.more.2,
    )

character_of : (s : List ℕ) → AreBytesOf s → IsCharacter (flat_map encoded_byte s) s
character_of s h = record {
  first = encoded_byte h.first;
  second = flat_map encoded_byte h.others;
  value = h.first;
  joined = ap (flat_map encoded_byte) h.joined;
  spells = (refl, h.is_first.0, h.is_first.1, h.is_first.2);
  more = (h.others, encoded_all (continuation_len h.first) (after_first h.first) h.others h.are_others, sym h.joined);
}

-- ---- the bytes of UTF-8, by the number of a character

encode_two : (c : ℕ) → 128 ≤ c → c < 2048 → encode c ≡ (192 + c / 64) ∷ (128 + c % 64) ∷ []
unfolding encode
encode_two c le lt = rw (le-ltb c 128 le, lt-ltb c 2048 lt) refl

encode_three : (c : ℕ) → 2048 ≤ c → c < 65536 → encode c ≡ (224 + c / 4096) ∷ (128 + c / 64 % 64) ∷ (128 + c % 64) ∷ []
unfolding encode
encode_three c le lt = rw (le-ltb c 128 (omega arith), le-ltb c 2048 le, lt-ltb c 65536 lt) refl

encode_four : (c : ℕ) → 65536 ≤ c → encode c ≡ (240 + c / 262144) ∷ (128 + c / 4096 % 64) ∷ (128 + c / 64 % 64) ∷ (128 + c % 64) ∷ []
unfolding encode
encode_four c le = rw (le-ltb c 128 (omega arith), le-ltb c 2048 (omega arith), le-ltb c 65536 le) refl

high_scalar : (c : ℕ) → 57344 ≤ c → c < 1114112 → scalar c ≡ true
high_scalar c le lt = rw (le-ltb c 55296 (omega arith), le-leb 57344 c le, lt-ltb c 1114112 lt) refl

of_two : (x y : ℕ) → 194 ≤ x → x < 224 → 128 ≤ y → y < 192 → IsUtf8 (x ∷ y ∷ [])
of_two x y xl xm yl ym =
    let c : ℕ = (x - 192) * 64 + (y - 128) in
    let p : 192 + c / 64 ≡ x = omega arith in
    let q : 128 + c % 64 ≡ y = omega arith in
    subst IsUtf8 (encode_two c (omega arith) (omega arith) ∙ (λ i. p i ∷ q i ∷ [])) (IsUtf8-encode c (low_scalar c (omega arith)))

of_three : (x y z : ℕ) → 224 ≤ x → x < 240 → 128 ≤ y → y < 192 → 128 ≤ z → z < 192 → 2048 ≤ (x - 224) * 4096 + (y - 128) * 64 + (z - 128)
    → ((x - 224) * 4096 + (y - 128) * 64 + (z - 128) < 55296) ⊎ (57344 ≤ (x - 224) * 4096 + (y - 128) * 64 + (z - 128)) → IsUtf8 (x ∷ y ∷ z ∷ [])
of_three x y z xl xm yl ym zl zm long apart =
    let c : ℕ = (x - 224) * 4096 + (y - 128) * 64 + (z - 128) in
    let p : 224 + c / 4096 ≡ x = omega arith in
    let q : 128 + c / 64 % 64 ≡ y = omega arith in
    let r : 128 + c % 64 ≡ z = omega arith in
    let is : scalar c ≡ true = elim apart [ inl low ↦ low_scalar c low | inr high ↦ high_scalar c high (omega arith) ] in
    subst IsUtf8 (encode_three c long (omega arith) ∙ (λ i. p i ∷ q i ∷ r i ∷ [])) (IsUtf8-encode c is)

of_four : (x y z w : ℕ) → 240 ≤ x → x < 245 → 128 ≤ y → y < 192 → 128 ≤ z → z < 192 → 128 ≤ w → w < 192 → 16 ≤ (x - 240) * 64 + (y - 128) → (x - 240) * 64 + (y - 128) < 272 → IsUtf8 (x ∷ y ∷ z ∷ w ∷ [])
of_four x y z w xl xm yl ym zl zm wl wm long small =
    let c : ℕ = (x - 240) * 262144 + (y - 128) * 4096 + (z - 128) * 64 + (w - 128) in
    let p : 240 + c / 262144 ≡ x = omega arith in
    let q : 128 + c / 4096 % 64 ≡ y = omega arith in
    let e : c / 64 ≡ (x - 240) * 4096 + (y - 128) * 64 + (z - 128) = omega arith in
    let r : 128 + c / 64 % 64 ≡ z = subst (λ (m : ℕ). 128 + m % 64 ≡ z) (sym e) (omega arith) in
    let t : 128 + c % 64 ≡ w = omega arith in
    subst IsUtf8 (encode_four c (omega arith) ∙ (λ i. p i ∷ q i ∷ r i ∷ t i ∷ [])) (IsUtf8-encode c (high_scalar c (omega arith) (omega arith)))

-- ---- the characters are those of UTF-8

len_two : (b : ℕ) → 194 ≤ b → b < 224 → continuation_len b ≡ 1
len_two b le lt = grind (arith, nat_tests)

len_three : (b : ℕ) → 224 ≤ b → b < 240 → continuation_len b ≡ 2
len_three b le lt = grind (arith, nat_tests)

len_four : (b : ℕ) → 240 ≤ b → continuation_len b ≡ 3
len_four b le = grind (arith, nat_tests)

len_one : (b : ℕ) → b < 128 → continuation_len b ≡ 0
len_one b lt = grind (arith, nat_tests)

pub ascii_utf8 : (b : ℕ) → b < 128 → IsUtf8 (b ∷ [])
ascii_utf8 b lt = subst IsUtf8 (encode_ascii b lt) (IsUtf8-encode b (low_scalar b (omega arith)))

utf8_one : (b : ℕ) (cs : List ℕ) → b < 128 → AreContinuations 0 (after_first b) cs → IsUtf8 (b ∷ cs)
utf8_one b cs lt h = subst (λ (cs : List ℕ). IsUtf8 (b ∷ cs)) (sym h) (ascii_utf8 b lt)

utf8_two : (b : ℕ) (cs : List ℕ) → 194 ≤ b → b < 224 → AreContinuations 1 (after_first b) cs → IsUtf8 (b ∷ cs)
utf8_two b cs le lt h =
    let s = second_from b h.0 h.4 in
    let is : cs ≡ h.0 ∷ [] = h.2 ∙ ap (λ (ds : List ℕ). h.0 ∷ ds) h.5 in
    subst (λ (cs : List ℕ). IsUtf8 (b ∷ cs)) (sym is) (of_two b h.0 le lt s.least s.most)

utf8_three : (b : ℕ) (cs : List ℕ) → 224 ≤ b → b < 240 → AreContinuations 2 (after_first b) cs → IsUtf8 (b ∷ cs)
utf8_three b cs le lt h =
    let s = second_from b h.0 h.4 in
    let d = h.5 in
    let f = further_from d.0 d.4 in
    let is : cs ≡ h.0 ∷ d.0 ∷ [] = h.2 ∙ ap (λ (ds : List ℕ). h.0 ∷ ds) (d.2 ∙ ap (λ (ds : List ℕ). d.0 ∷ ds) d.5) in
    subst (λ (cs : List ℕ). IsUtf8 (b ∷ cs)) (sym is)
    (of_three b h.0 d.0 le lt s.least s.most f.0 f.1 (long s) (apart s))
  where
    long : IsSecond b h.0 → 2048 ≤ (b - 224) * 4096 + (h.0 - 128) * 64 + (h.5.0 - 128)
    long s = elim (cases_lt b 225) [
      | inl low ↦ let e : b ≡ 224 = omega arith in omega (arith, s.no_short_three e)
      | inr high ↦ omega arith
    ]

    apart : IsSecond b h.0 → ((b - 224) * 4096 + (h.0 - 128) * 64 + (h.5.0 - 128) < 55296) ⊎ (57344 ≤ (b - 224) * 4096 + (h.0 - 128) * 64 + (h.5.0 - 128))
    apart s = elim (cases_lt b 238) [
      | inl low ↦ inl (below low)
      | inr high ↦ inr (omega arith)
    ]
      where
        below : b < 238 → (b - 224) * 4096 + (h.0 - 128) * 64 + (h.5.0 - 128) < 55296
        below low = let f = further_from h.5.0 h.5.4 in
            elim (cases_lt b 237) [
              | inl less ↦ omega (arith, s.most, f.1)
              | inr same ↦ let e : b ≡ 237 = omega arith in omega (arith, s.no_surrogate e, f.1)
            ]

utf8_four : (b : ℕ) (cs : List ℕ) → 240 ≤ b → b < 245 → AreContinuations 3 (after_first b) cs → IsUtf8 (b ∷ cs)
utf8_four b cs le lt h =
    let s = second_from b h.0 h.4 in
    let d = h.5 in
    let e = d.5 in
    let f = further_from d.0 d.4 in
    let g = further_from e.0 e.4 in
    let is : cs ≡ h.0 ∷ d.0 ∷ e.0 ∷ [] = h.2 ∙ ap (λ (ds : List ℕ). h.0 ∷ ds) (d.2 ∙ ap (λ (ds : List ℕ). d.0 ∷ ds) (e.2 ∙ ap (λ (ds : List ℕ). e.0 ∷ ds) e.5)) in
    subst (λ (cs : List ℕ). IsUtf8 (b ∷ cs)) (sym is)
    (of_four b h.0 d.0 e.0 le lt s.least s.most f.0 f.1 g.0 g.1 (long s) (small s))
  where
    long : IsSecond b h.0 → 16 ≤ (b - 240) * 64 + (h.0 - 128)
    long s = elim (cases_lt b 241) [
      | inl low ↦ let e : b ≡ 240 = omega arith in omega (arith, s.no_short_four e)
      | inr high ↦ omega arith
    ]

    small : IsSecond b h.0 → (b - 240) * 64 + (h.0 - 128) < 272
    small s = elim (cases_lt b 244) [
      | inl low ↦ omega (arith, s.most)
      | inr high ↦ let e : b ≡ 244 = omega arith in omega (arith, s.no_large e)
    ]

bytes_utf8 : (s : List ℕ) → AreBytesOf s → IsUtf8 s
bytes_utf8 s h = subst IsUtf8 (sym h.joined) (elim (first_from h.first h.is_first) [
  | inl low ↦ utf8_one h.first h.others low (counted 0 (len_one h.first low))
  | inr high ↦ elim (cases_lt h.first 224) [
    | inl two_bytes ↦ utf8_two h.first h.others high.0 two_bytes (counted 1 (len_two h.first high.0 two_bytes))
    | inr more ↦ elim (cases_lt h.first 240) [
      | inl three_bytes ↦ utf8_three h.first h.others more three_bytes (counted 2 (len_three h.first more three_bytes))
      | inr four_bytes ↦ utf8_four h.first h.others four_bytes high.1 (counted 3 (len_four h.first four_bytes))
    ]
  ]
])
  where
    counted : (n : ℕ) → continuation_len h.first ≡ n → AreContinuations n (after_first h.first) h.others
    counted n e = subst (λ (n : ℕ). AreContinuations n (after_first h.first) h.others) e h.are_others

-- the bytes of an encoded character are UTF-8
pub character_utf8 : (x s : List ℕ) → IsCharacter x s → IsUtf8 s
character_utf8 x s h = bytes_utf8 s (character_parts x s h).0

-- each of them is encoded
pub character_text : (x s : List ℕ) → IsCharacter x s → x ≡ flat_map encoded_byte s
character_text x s h = (character_parts x s h).1

-- ---- and each character of UTF-8 is one

further : (c : ℕ) → 128 ≤ c → c < 192 → AreContinuations 1 continuation (c ∷ [])
further c le lt = (c, [], refl, omega arith, further_passes c le lt, refl)

further_two : (c d : ℕ) → 128 ≤ c → c < 192 → 128 ≤ d → d < 192 → AreContinuations 2 continuation (c ∷ d ∷ [])
further_two c d le lt le' lt' = (c, d ∷ [], refl, omega arith, further_passes c le lt, further d le' lt')

module _ (b : ℕ) (cs : List ℕ) (n : ℕ) (len : continuation_len b ≡ n) (is : IsFirst b) (others : AreContinuations n (after_first b) cs) where
  bytes_of : AreBytesOf (b ∷ cs)
  bytes_of = record { first = b; others = cs; joined = refl; is_first = is; are_others = subst (λ (n : ℕ). AreContinuations n (after_first b) cs) (sym len) others }

ascii_bytes : (b : ℕ) → b < 128 → AreBytesOf (b ∷ [])
ascii_bytes b lt = bytes_of b [] 0 (len_one b lt) (first_low b lt) refl

two_bytes_of : (b c : ℕ) → 194 ≤ b → b < 224 → IsSecond b c → AreBytesOf (b ∷ c ∷ [])
two_bytes_of b c le lt s = bytes_of b (c ∷ []) 1 (len_two b le lt) (first_high b le (omega arith)) (c, [], refl, omega (arith, s.most), second_passes b c s, refl)

three_bytes_of : (b c d : ℕ) → 224 ≤ b → b < 240 → IsSecond b c → 128 ≤ d → d < 192 → AreBytesOf (b ∷ c ∷ d ∷ [])
three_bytes_of b c d le lt s dl dm = bytes_of b (c ∷ d ∷ []) 2 (len_three b le lt) (first_high b (omega arith) (omega arith)) (c, d ∷ [], refl, omega (arith, s.most), second_passes b c s, further d dl dm)

four_bytes_of : (b c d e : ℕ) → 240 ≤ b → b < 245 → IsSecond b c → 128 ≤ d → d < 192 → 128 ≤ e → e < 192 → AreBytesOf (b ∷ c ∷ d ∷ e ∷ [])
four_bytes_of b c d e le lt s dl dm el em =
    bytes_of b (c ∷ d ∷ e ∷ []) 3 (len_four b le) (first_high b (omega arith) lt) (c, d ∷ e ∷ [], refl, omega (arith, s.most), second_passes b c s, further_two d e dl dm el em)

encode_bytes : (c : ℕ) → scalar c ≡ true → AreBytesOf (encode c)
encode_bytes c ok = elim (cases_lt c 128) [
  | inl low ↦ subst AreBytesOf (sym (encode_ascii c low)) (ascii_bytes c low)
  | inr some ↦ elim (cases_lt c 2048) [
    | inl few ↦ subst AreBytesOf (sym (encode_two c some few)) (two_bytes_of (192 + c / 64) (128 + c % 64) (omega arith) (omega arith) (record {
      least = omega arith;
      most = omega arith;
      no_short_three = λ e. omega arith;
      no_surrogate = λ e. omega arith;
      no_short_four = λ e. omega arith;
      no_large = λ e. omega arith;
    }))
    | inr more ↦ elim (cases_lt c 65536) [
      | inl basic ↦ subst AreBytesOf (sym (encode_three c more basic)) (three_bytes_of (224 + c / 4096) (128 + c / 64 % 64) (128 + c % 64) (omega arith) (omega arith) (record {
        least = omega arith;
        most = omega arith;
        no_short_three = λ e. omega arith;
        no_surrogate = λ e. surrogate e;
        no_short_four = λ e. omega arith;
        no_large = λ e. omega arith;
      }) (omega arith) (omega arith))
      | inr large ↦ subst AreBytesOf (sym (encode_four c large)) (four_bytes_of (240 + c / 262144) (128 + c / 4096 % 64) (128 + c / 64 % 64) (128 + c % 64) (omega arith) (top large) (record {
        least = omega arith;
        most = omega arith;
        no_short_three = λ e. omega arith;
        no_surrogate = λ e. omega arith;
        no_short_four = λ e. omega arith;
        no_large = λ e. last large e;
      }) (omega arith) (omega arith) (omega arith) (omega arith))
    ]
  ]
]
  where
    surrogate : 224 + c / 4096 ≡ 237 → 128 + c / 64 % 64 < 160
    surrogate e = elim (scalar_cases c ok) [ inl low ↦ omega arith | inr high ↦ absurd (omega (arith, e, high.0)) ]

    small : 65536 ≤ c → c < 1114112
    small le = elim (scalar_cases c ok) [ inl low ↦ omega arith | inr high ↦ high.1 ]

    top : 65536 ≤ c → 240 + c / 262144 < 245
    top le = omega (arith, small le)

    last : 65536 ≤ c → 240 + c / 262144 ≡ 244 → 128 + c / 4096 % 64 < 144
    last le e = omega (arith, small le, e)

-- the bytes of a character, each encoded
pub encode_character : (c : ℕ) → scalar c ≡ true → IsCharacter (flat_map encoded_byte (encode c)) (encode c)
encode_character c ok = character_of (encode c) (encode_bytes c ok)

-- a character outside ASCII has no byte of ASCII
abbrev pub is_high : ℕ → Bool
is_high b = nat_le 128 b

pub encode_high : (c : ℕ) → 128 ≤ c → list_all is_high (encode c) ≡ true
encode_high c le = elim (cases_lt c 2048) [
  | inl few ↦ rw (encode_two c le few, high (192 + c / 64) (omega arith), high (128 + c % 64) (omega arith)) refl
  | inr more ↦ elim (cases_lt c 65536) [
    | inl basic ↦ rw (encode_three c more basic, high (224 + c / 4096) (omega arith), high (128 + c / 64 % 64) (omega arith), high (128 + c % 64) (omega arith)) refl
    | inr large ↦ rw (encode_four c large, high (240 + c / 262144) (omega arith), high (128 + c / 4096 % 64) (omega arith), high (128 + c / 64 % 64) (omega arith), high (128 + c % 64) (omega arith)) refl
  ]
]
  where
    high : (b : ℕ) → 128 ≤ b → is_high b ≡ true
    high b le = le-leb _ _ le
