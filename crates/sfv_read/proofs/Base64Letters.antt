-- Letters, the bytes that they spell, and what the base64 engines make of both.
use Rattle.std.proofs.Common.{◌≡◌, ℕ, zero, suc, ◌+◌, ◌*◌, ◌/◌, ◌%◌, ◌<◌, ◌↔◌, Bool, true, false, List, [], ◌∷◌, ◌++◌, length, replicate, Result, Ok, Err, refl, sym, ap, ◌∙◌, arith, inl, inr, ◌⊎◌}
use Rattle.std.specs.List.{list_all}
use Rattle.std.proofs.lemmas.Bool.{ltb-true, lt-ltb}
use Rattle.std.proofs.lemmas.List.{append-nil, append_assoc}
use Rattle.base64.specs.Engines.{standard, standard_no_pad}
use Rattle.base64.specs.GeneralPurpose.{encode_of, decode_of, IsBytes}
use Rattle.base64.specs.Rfc4648.{encode_symbols, padding_len}
use Rattle.base64.specs.declared.decode.DecodeError.{DecodeError}
use Rattle.byte_grammar.proofs.Laws.{and_is, Meets, meets_same}
use Rattle.sfv_text.specs.Range.{is_byte}
use Rattle.sfv_read.specs.Class.{is_base64}
use Rattle.sfv_read.specs.BareItem.{IsByteSequence}
use Rattle.sfv_read.specs.tools.BareWalk.{six, are_whole, bytes_of, pads, byte_sequence_read}
use Rattle.sfv_read.proofs.ByteSequences.{IsOctets, meets_octets}
use Rattle.sfv_read.proofs.Base64Bits.{alphabet, six_small, spelled_again, spelling_is}

-- ---- bytes

pub all_bytes : (bytes : List ℕ) → IsBytes bytes → list_all is_byte bytes ≡ true
all_bytes [] h = refl
all_bytes (c ∷ bytes) h = rw (lt-ltb c 256 (h 0), all_bytes bytes (λ i. h (suc i))) refl

pub each_byte : (bytes : List ℕ) → list_all is_byte bytes ≡ true → IsBytes bytes
each_byte [] all i = omega arith
each_byte (c ∷ bytes) all zero = ltb-true _ _ (and_is (is_byte c) (list_all is_byte bytes) all).0
each_byte (c ∷ bytes) all (suc i) = each_byte bytes (and_is (is_byte c) (list_all is_byte bytes) all).1 i

small : (n : ℕ) → n < 256 → is_byte n ≡ true
small n lt = lt-ltb n 256 lt

pub decoded_bytes : (letters : List ℕ) → list_all is_base64 letters ≡ true → list_all is_byte (bytes_of letters) ≡ true
unfolding bytes_of
decoded_bytes [] all = refl
decoded_bytes (a ∷ []) all = refl
decoded_bytes (a ∷ b ∷ []) all =
    let pa = and_is (is_base64 a) _ all in
    let pb = and_is (is_base64 b) _ pa.1 in
    let la = six_small a pa.0 in let lb = six_small b pb.0 in
    rw (small (six a * 4 + six b / 16) (omega arith)) refl
decoded_bytes (a ∷ b ∷ c ∷ []) all =
    let pa = and_is (is_base64 a) _ all in
    let pb = and_is (is_base64 b) _ pa.1 in
    let pc = and_is (is_base64 c) _ pb.1 in
    let la = six_small a pa.0 in let lb = six_small b pb.0 in let lc = six_small c pc.0 in
    rw (small (six a * 4 + six b / 16) (omega arith), small (six b % 16 * 16 + six c / 4) (omega arith)) refl
decoded_bytes (a ∷ b ∷ c ∷ d ∷ rest) all =
    let pa = and_is (is_base64 a) _ all in
    let pb = and_is (is_base64 b) _ pa.1 in
    let pc = and_is (is_base64 c) _ pb.1 in
    let pd = and_is (is_base64 d) _ pc.1 in
    let la = six_small a pa.0 in let lb = six_small b pb.0 in let lc = six_small c pc.0 in let ld = six_small d pd.0 in
    rw (small (six a * 4 + six b / 16) (omega arith), small (six b % 16 * 16 + six c / 4) (omega arith), small (six c % 4 * 64 + six d) (omega arith), decoded_bytes rest pd.1) refl

-- ---- the engines

pub unpadded : (bytes : List ℕ) → encode_of standard_no_pad bytes ≡ encode_symbols alphabet bytes
unpadded bytes = append-nil (encode_symbols alphabet bytes)

-- what decodes is whole letters, and they spell those bytes
pub decodes : (letters bytes : List ℕ) → letters ≡ encode_of standard_no_pad bytes → IsBytes bytes → (are_whole letters ≡ true) × (bytes ≡ bytes_of letters)
decodes letters bytes e h =
    let s = spelling_is bytes (all_bytes bytes h) in
    let same : letters ≡ encode_symbols alphabet bytes = e ∙ unpadded bytes in
    (ap are_whole same ∙ s.whole, sym (ap bytes_of same ∙ s.same))

ok_err : (r : Result (List ℕ) DecodeError) (b : List ℕ) (d : DecodeError) → r ≡ Ok b → r ≡ Err d → ⊥
ok_err r b d e h = absurd (cc (e, h))

-- letters that don't decode aren't whole
pub not_whole : (letters : List ℕ) (d : DecodeError) → list_all is_base64 letters ≡ true
    → ((b : List ℕ) → IsBytes b → (decode_of standard_no_pad letters ≡ Ok b) ↔ (letters ≡ encode_of standard_no_pad b))
    → decode_of standard_no_pad letters ≡ Err d → are_whole letters ≡ false
not_whole letters d all strict e = go (are_whole letters) refl
  where
    go : (b : Bool) → are_whole letters ≡ b → b ≡ false
    go false is = refl
    go true is =
        let bytes = each_byte (bytes_of letters) (decoded_bytes letters all) in
        absurd (ok_err (decode_of standard_no_pad letters) (bytes_of letters) d ((strict (bytes_of letters) bytes).1 (sym (unpadded (bytes_of letters) ∙ spelled_again letters all is))) e)

-- ---- how many `=` fill the last group

pads_more : (n : ℕ) → pads (suc (suc (suc (suc n)))) ≡ pads n
pads_more n = omega arith

padding_more : (n : ℕ) → padding_len (suc (suc (suc n))) ≡ padding_len n
padding_more n = omega arith

-- as many for the bytes as for their letters
pub pads_same : (letters : List ℕ) → are_whole letters ≡ true → padding_len (length (bytes_of letters)) ≡ pads (length letters)
unfolding bytes_of
pads_same [] whole = refl
pads_same (a ∷ []) whole = absurd (cc whole)
pads_same (a ∷ b ∷ []) whole = refl
pads_same (a ∷ b ∷ c ∷ []) whole = refl
pads_same (a ∷ b ∷ c ∷ d ∷ rest) whole = padding_more (length (bytes_of rest)) ∙ pads_same rest whole ∙ sym (pads_more (length rest))

-- ---- Byte Sequences

to_sequence : (x bytes : List ℕ) → IsOctets x bytes → IsByteSequence x bytes
to_sequence x bytes h =
    let spelled : h.letters ≡ encode_symbols alphabet bytes = sym (ap (encode_symbols alphabet) (sym h.same) ∙ spelled_again h.letters h.base64 h.whole) in
    let count : pads (length h.letters) ≡ padding_len (length bytes) = sym (pads_same h.letters h.whole) ∙ ap (λ (b : List ℕ). padding_len (length b)) h.same in
    record { are_bytes = ap (list_all is_byte) (sym h.same) ∙ decoded_bytes h.letters h.base64; joined = go spelled count h.filled }
  where
    go : h.letters ≡ encode_symbols alphabet bytes → pads (length h.letters) ≡ padding_len (length bytes) → (h.filling ≡ []) ⊎ (h.filling ≡ replicate (pads (length h.letters)) 61)
        → (x ≡ 58 ∷ (encode_of standard bytes ++ 58 ∷ [])) ⊎ (x ≡ 58 ∷ (encode_of standard_no_pad bytes ++ 58 ∷ []))
    go spelled count (inl e) = inr (h.joined ∙ ap (λ (f : List ℕ). 58 ∷ (h.letters ++ (f ++ 58 ∷ []))) e ∙ ap (λ (l : List ℕ). 58 ∷ (l ++ 58 ∷ [])) (spelled ∙ sym (unpadded bytes)))
    go spelled count (inr e) = inl (h.joined ∙ ap (λ (f : List ℕ). 58 ∷ (h.letters ++ (f ++ 58 ∷ []))) (e ∙ ap (λ (n : ℕ). replicate n 61) count)
        ∙ ap (λ (l : List ℕ). 58 ∷ (l ++ (replicate (padding_len (length bytes)) 61 ++ 58 ∷ []))) spelled
        ∙ ap (λ (l : List ℕ). 58 ∷ l) (sym (append_assoc (encode_symbols alphabet bytes) (replicate (padding_len (length bytes)) 61) (58 ∷ []))))

from_sequence : (x bytes : List ℕ) → IsByteSequence x bytes → IsOctets x bytes
from_sequence x bytes h = go h.joined
  where
    go : (x ≡ 58 ∷ (encode_of standard bytes ++ 58 ∷ [])) ⊎ (x ≡ 58 ∷ (encode_of standard_no_pad bytes ++ 58 ∷ [])) → IsOctets x bytes
    go (inl e) =
        let s = spelling_is bytes h.are_bytes in
        record {
          letters = encode_symbols alphabet bytes;
          filling = replicate (padding_len (length bytes)) 61;
          joined = e ∙ ap (λ (l : List ℕ). 58 ∷ l) (append_assoc (encode_symbols alphabet bytes) (replicate (padding_len (length bytes)) 61) (58 ∷ []));
          base64 = s.base64;
          whole = s.whole;
          filled = inr (ap (λ (n : ℕ). replicate n 61) (ap (λ (b : List ℕ). padding_len (length b)) (sym s.same) ∙ pads_same (encode_symbols alphabet bytes) s.whole));
          same = s.same;
        }
    go (inr e) =
        let s = spelling_is bytes h.are_bytes in
        record { letters = encode_symbols alphabet bytes; filling = []; joined = e ∙ ap (λ (l : List ℕ). 58 ∷ (l ++ 58 ∷ [])) (unpadded bytes); base64 = s.base64; whole = s.whole; filled = inl refl; same = s.same }

pub meets_bytes : Meets IsByteSequence (λ _ _. true) byte_sequence_read
meets_bytes = meets_same meets_octets to_sequence from_sequence (λ v c h. h)
