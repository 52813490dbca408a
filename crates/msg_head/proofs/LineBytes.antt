-- Bytes of lines: any but NUL, CR and LF.
use Rattle.std.proofs.Common.{◌≡◌, ℕ, Bool, true, false, ◌==◌, List, [], ◌∷◌, refl, sym, inl, inr}
use Rattle.std.specs.List.{list_all}
use Rattle.std.proofs.lemmas.Bool.{and_parts, and_from, cases_Bool, eqb-true}
use Rattle.byte_grammar.specs.Classes.{is_line_byte}
use Rattle.msg_head.proofs.Prefixes.{outside}

-- a byte that passes a test which these three fail
pub line_byte_of : (test : ℕ → Bool) (c : ℕ) → test 0 ≡ false → test 13 ≡ false → test 10 ≡ false → test c ≡ true → is_line_byte c ≡ true
line_byte_of test c nul cr lf is = elim (cases_Bool (0 == c)) [
  | inl e ↦ absurd (outside test c 0 is nul (sym (eqb-true 0 c e)))
  | inr n0 ↦ elim (cases_Bool (13 == c)) [
    | inl e ↦ absurd (outside test c 13 is cr (sym (eqb-true 13 c e)))
    | inr n1 ↦ elim (cases_Bool (10 == c)) [
      | inl e ↦ absurd (outside test c 10 is lf (sym (eqb-true 10 c e)))
      | inr n2 ↦ rw n0 (rw n1 (rw n2 refl))
    ]
  ]
]

pub line_bytes_of : (test : ℕ → Bool) (text : List ℕ) → test 0 ≡ false → test 13 ≡ false → test 10 ≡ false → list_all test text ≡ true → list_all is_line_byte text ≡ true
line_bytes_of test [] nul cr lf is = refl
line_bytes_of test (c ∷ cs) nul cr lf is =
    let both = and_parts _ _ is in
    and_from _ _ (line_byte_of test c nul cr lf both.0) (line_bytes_of test cs nul cr lf both.1)
