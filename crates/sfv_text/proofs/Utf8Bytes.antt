-- UTF-8 is made of bytes.
use Rattle.std.proofs.Common.{◌≡◌, ℕ, true, List, [], ◌∷◌, subst, arith, refl}
use Rattle.std.specs.List.{list_all}
use Rattle.std.specs.Str.{is_utf8}
use Rattle.std.proofs.lemmas.Bool.{and_parts}
use Rattle.std.proofs.lemmas.Bool.Decides.{nat_tests}
use Rattle.std.proofs.lemmas.List.Folds.{list_all-append}
use Rattle.std.proofs.lemmas.Str.{IsUtf8-from_is_utf8}
use lib.Utf8.{scalar, scalars, encode, encodes}
use Rattle.sfv_text.specs.Range.{is_byte}

one_char : (c : ℕ) → scalar c ≡ true → list_all is_byte (encode c) ≡ true
unfolding encode
one_char c s = grind (arith, nat_tests)

all_chars : (cs : List ℕ) → scalars cs ≡ true → list_all is_byte (encodes cs) ≡ true
all_chars [] s = refl
all_chars (c ∷ cs) s =
    let h = and_parts (scalar c) (scalars cs) s in
    rw (list_all-append is_byte (encode c) (encodes cs), one_char c h.0) (all_chars cs h.1)

pub utf8_bytes : (bytes : List ℕ) → is_utf8 bytes ≡ true → list_all is_byte bytes ≡ true
utf8_bytes bytes h =
    let u = IsUtf8-from_is_utf8 bytes h in
    subst (λ bs. list_all is_byte bs ≡ true) u.1.1 (all_chars u.0 u.1.0)
