-- Base64 by groups.
use Rattle.std.proofs.Common.{◌≡◌, ℕ, ◌%◌, min, List, [], ◌++◌, length, sym, ap, ◌∙◌, arith, append-nil, append_assoc, length-append, inl, inr}
use Rattle.std.proofs.lemmas.Bool.{cases_lt}
use Rattle.std.proofs.lemmas.List.{nil_from_length}
use Rattle.base64.specs.declared.engine.general_purpose.GeneralPurpose.{GeneralPurpose}
use Rattle.base64.specs.GeneralPurpose.{encode_of}
use Rattle.base64.proofs.EngineFacts.{encode_of-nil, encode_of-append}

-- the first group is whole or all there is
encode_of-group : (e : GeneralPurpose) (all group rest : List ℕ) → all ≡ group ++ rest → length group ≡ min 48 (length all)
    → encode_of e group ++ encode_of e rest ≡ encode_of e all
encode_of-group e all group rest parts size =
    let sum = ap length parts ∙ length-append group rest in
    elim (cases_lt (length all) 48) [
      | inl short ↦
          let none : rest ≡ [] = nil_from_length rest (omega arith) in
          rw (parts, none, encode_of-nil, append-nil, append-nil)
      | inr long ↦ let whole : length group % 3 ≡ 0 = omega arith in sym (encode_of-append e group rest whole) ∙ ap (encode_of e) (sym parts)
    ]

-- a text with a group more
pub group_more : (e : GeneralPurpose) (text more whole all group rest : List ℕ) → all ≡ group ++ rest → length group ≡ min 48 (length all)
    → text ++ encode_of e all ≡ whole → more ≡ text ++ encode_of e group → more ++ encode_of e rest ≡ whole
group_more e text more whole all group rest parts size so_far is =
    rw (is, append_assoc, encode_of-group e all group rest parts size) so_far

-- a text with no group left
pub group_end : (e : GeneralPurpose) (text whole rest : List ℕ) → length rest ≡ 0 → text ++ encode_of e rest ≡ whole → text ≡ whole
group_end e text whole rest none so_far =
    let nil : rest ≡ [] = nil_from_length rest none in rw (nil, encode_of-nil, append-nil) at so_far
