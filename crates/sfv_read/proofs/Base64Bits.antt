-- Letters and the bytes that they spell.
use Rattle.std.proofs.Common.{◌≡◌, ℕ, ◌+◌, ◌*◌, ◌/◌, ◌%◌, ◌<◌, Bool, true, false, eqb, ltb, List, [], ◌∷◌, get_or, codes, refl, subst, ◌∙◌, arith}
use Rattle.std.specs.Prelude.{◌&&◌, ◌||◌, not}
use Rattle.std.specs.List.{range_with_len}
use Rattle.std.proofs.lemmas.List.FromFn.{get_or-range_with_len, length-range_with_len}
use Rattle.std.specs.List.{list_all}
use Rattle.std.proofs.lemmas.Bool.{eqb-true, ltb-true}
use Rattle.std.proofs.lemmas.Bool.Decides.{nat_tests}
use Rattle.std.proofs.lemmas.List.Sums.{AllPass-from_list_all}
use Rattle.base64.specs.Rfc4648.{encode_symbols}
use Rattle.sfv_read.specs.tools.BareWalk.{six, are_whole, bytes_of}
use Rattle.sfv_read.specs.Class.{is_base64}
use Rattle.byte_grammar.proofs.Laws.{and_is}

abbrev pub alphabet : List ℕ
alphabet = codes "ABCDEFGHIJKLMNOPQRSTUVWXYZabcdefghijklmnopqrstuvwxyz0123456789+/"

pub six_small : (c : ℕ) → is_base64 c ≡ true → six c < 64
six_small c is = grind (arith, nat_tests)

-- four numbers below 64 from three bytes, and back
pub four : (a b c d x y z : ℕ) → a < 64 → b < 64 → c < 64 → d < 64 → x ≡ a * 4 + b / 16 → y ≡ b % 16 * 16 + c / 4 → z ≡ c % 4 * 64 + d
    → (x / 4 ≡ a) × (x % 4 * 16 + y / 16 ≡ b) × (y % 16 * 4 + z / 64 ≡ c) × (z % 64 ≡ d)
four a b c d x y z la lb lc ld ex ey ez = (omega arith, omega arith, omega arith, omega arith)

below_128 : (c : ℕ) → is_base64 c ≡ true → c < 128
below_128 c is = grind (arith, nat_tests)

agrees : ℕ → Bool
agrees c = not (is_base64 c) || eqb (get_or alphabet (six c) 0) c

table : list_all agrees (range_with_len 0 128) ≡ true
unfolding agrees
table = refl

-- a letter is the one of its six bits
pub letter_is : (c : ℕ) → is_base64 c ≡ true → get_or alphabet (six c) 0 ≡ c
unfolding agrees
letter_is c is =
    let lt = below_128 c is in
    let here : get_or (range_with_len 0 128) c 0 ≡ c = get_or-range_with_len 0 128 c 0 lt ∙ omega arith in
    let at : agrees (get_or (range_with_len 0 128) c 0) ≡ true = AllPass-from_list_all agrees (range_with_len 0 128) table c 0 (omega (arith, lt, length-range_with_len 0 128)) in
    go (is_base64 c) is (subst (λ (d : ℕ). agrees d ≡ true) here at)
  where
    go : (b : Bool) → b ≡ true → (not b || eqb (get_or alphabet (six c) 0) c) ≡ true → get_or alphabet (six c) 0 ≡ c
    go true e h = eqb-true _ _ h
    go false e h = absurd (cc (e))

-- letters whose last bits are zero are the spelling of the bytes that they spell
pub spelled_again : (letters : List ℕ) → list_all is_base64 letters ≡ true → are_whole letters ≡ true → encode_symbols alphabet (bytes_of letters) ≡ letters
unfolding encode_symbols bytes_of
spelled_again [] all whole = refl
spelled_again (a ∷ []) all whole = absurd (cc (whole))
spelled_again (a ∷ b ∷ []) all whole =
    let pa = and_is (is_base64 a) _ all in
    let pb = and_is (is_base64 b) _ pa.1 in
    let la = six_small a pa.0 in let lb = six_small b pb.0 in
    let zero_bits : six b % 16 ≡ 0 = eqb-true (six b % 16) 0 whole in
    let one : (six a * 4 + six b / 16) / 4 ≡ six a = omega arith in
    let two : (six a * 4 + six b / 16) % 4 * 16 ≡ six b = omega arith in
    rw (one, two, letter_is a pa.0, letter_is b pb.0) refl
spelled_again (a ∷ b ∷ c ∷ []) all whole =
    let pa = and_is (is_base64 a) _ all in
    let pb = and_is (is_base64 b) _ pa.1 in
    let pc = and_is (is_base64 c) _ pb.1 in
    let la = six_small a pa.0 in let lb = six_small b pb.0 in let lc = six_small c pc.0 in
    let zero_bits : six c % 4 ≡ 0 = eqb-true (six c % 4) 0 whole in
    let one : (six a * 4 + six b / 16) / 4 ≡ six a = omega arith in
    let two : (six a * 4 + six b / 16) % 4 * 16 + (six b % 16 * 16 + six c / 4) / 16 ≡ six b = omega arith in
    let three : (six b % 16 * 16 + six c / 4) % 16 * 4 ≡ six c = omega arith in
    rw (one, two, three, letter_is a pa.0, letter_is b pb.0, letter_is c pc.0) refl
spelled_again (a ∷ b ∷ c ∷ d ∷ rest) all whole =
    let pa = and_is (is_base64 a) _ all in
    let pb = and_is (is_base64 b) _ pa.1 in
    let pc = and_is (is_base64 c) _ pb.1 in
    let pd = and_is (is_base64 d) _ pc.1 in
    let f = four (six a) (six b) (six c) (six d) _ _ _ (six_small a pa.0) (six_small b pb.0) (six_small c pc.0) (six_small d pd.0) refl refl refl in
    rw (f.0, f.1, f.2, f.3, letter_is a pa.0, letter_is b pb.0, letter_is c pc.0, letter_is d pd.0, spelled_again rest pd.1 whole) refl

agrees_back : ℕ → Bool
agrees_back n = is_base64 (get_or alphabet n 0) && eqb (six (get_or alphabet n 0)) n

table_back : list_all agrees_back (range_with_len 0 64) ≡ true
unfolding agrees_back
table_back = refl

six_of : (n : ℕ) → n < 64 → (is_base64 (get_or alphabet n 0) ≡ true) × (six (get_or alphabet n 0) ≡ n)
unfolding agrees_back
six_of n lt =
    let here : get_or (range_with_len 0 64) n 0 ≡ n = get_or-range_with_len 0 64 n 0 lt ∙ omega arith in
    let at : agrees_back (get_or (range_with_len 0 64) n 0) ≡ true = AllPass-from_list_all agrees_back (range_with_len 0 64) table_back n 0 (omega (arith, lt, length-range_with_len 0 64)) in
    let both = and_is (is_base64 (get_or alphabet n 0)) (eqb (six (get_or alphabet n 0)) n) (subst (λ (d : ℕ). agrees_back d ≡ true) here at) in
    (both.0, eqb-true _ _ both.1)

pub record IsSpelling (letters bytes : List ℕ) : Type 0 where
  pub base64 : list_all is_base64 letters ≡ true
  pub whole : are_whole letters ≡ true
  pub same : bytes_of letters ≡ bytes

-- the spelling of bytes is such letters, and they spell the bytes again
pub spelling_is : (bytes : List ℕ) → list_all (λ b. ltb b 256) bytes ≡ true → IsSpelling (encode_symbols alphabet bytes) bytes
unfolding encode_symbols bytes_of
spelling_is [] all = record { base64 = refl; whole = refl; same = refl }
spelling_is (a ∷ []) all =
    let pa = and_is (ltb a 256) _ all in
    let la : a < 256 = ltb-true _ _ pa.0 in
    let p = six_of (a / 4) (omega arith) in
    let q = six_of (a % 4 * 16) (omega arith) in
    let zero_bits : (a % 4 * 16) % 16 ≡ 0 = omega arith in
    let back : a / 4 * 4 + a % 4 * 16 / 16 ≡ a = omega arith in
    record { base64 = rw (p.0, q.0) refl; whole = rw (q.1, zero_bits) refl; same = rw (p.1, q.1, back) refl }
spelling_is (a ∷ b ∷ []) all =
    let pa = and_is (ltb a 256) _ all in
    let pb = and_is (ltb b 256) _ pa.1 in
    let la : a < 256 = ltb-true _ _ pa.0 in
    let lb : b < 256 = ltb-true _ _ pb.0 in
    let p = six_of (a / 4) (omega arith) in
    let q = six_of (a % 4 * 16 + b / 16) (omega arith) in
    let r = six_of (b % 16 * 4) (omega arith) in
    let zero_bits : (b % 16 * 4) % 4 ≡ 0 = omega arith in
    let one : a / 4 * 4 + (a % 4 * 16 + b / 16) / 16 ≡ a = omega arith in
    let two : (a % 4 * 16 + b / 16) % 16 * 16 + b % 16 * 4 / 4 ≡ b = omega arith in
    record { base64 = rw (p.0, q.0, r.0) refl; whole = rw (r.1, zero_bits) refl; same = rw (p.1, q.1, r.1, one, two) refl }
spelling_is (a ∷ b ∷ c ∷ rest) all =
    let pa = and_is (ltb a 256) _ all in
    let pb = and_is (ltb b 256) _ pa.1 in
    let pc = and_is (ltb c 256) _ pb.1 in
    let la : a < 256 = ltb-true _ _ pa.0 in
    let lb : b < 256 = ltb-true _ _ pb.0 in
    let lc : c < 256 = ltb-true _ _ pc.0 in
    let p = six_of (a / 4) (omega arith) in
    let q = six_of (a % 4 * 16 + b / 16) (omega arith) in
    let r = six_of (b % 16 * 4 + c / 64) (omega arith) in
    let s = six_of (c % 64) (omega arith) in
    let one : a / 4 * 4 + (a % 4 * 16 + b / 16) / 16 ≡ a = omega arith in
    let two : (a % 4 * 16 + b / 16) % 16 * 16 + (b % 16 * 4 + c / 64) / 4 ≡ b = omega arith in
    let three : (b % 16 * 4 + c / 64) % 4 * 64 + c % 64 ≡ c = omega arith in
    let more = spelling_is rest pc.1 in
    record { base64 = rw (p.0, q.0, r.0, s.0) more.base64; whole = more.whole; same = rw (p.1, q.1, r.1, s.1, one, two, three, more.same) refl }
