-- Values of values, and names in lower case.
use Rattle.std.proofs.Common.{◌≡◌, ◌↔◌, ◌≤◌, ℕ, Bool, true, false, IsTrue, List, [], ◌∷◌, ◌++◌, length, refl, sym, ap, ◌∙◌, append-nil, length-append, eq-eqb, arith, inl, inr}
use Rattle.std.specs.Prelude.{codes, map}
use Rattle.std.specs.Char.{to_ascii_lowercase}
use Rattle.std.specs.List.{All, list_all}
use Rattle.std.specs.Str.{byte, bytes_eq, str_to_ascii_lowercase}
use Rattle.std.proofs.lemmas.Bool.{and_parts, and_from, cases_Bool, eqb-true, false≢true, lt-ltb}
use Rattle.std.proofs.lemmas.List.Elements.{All-cons, All-nil}
use Rattle.std.proofs.lemmas.Slice.Eq.{bytes_eq-Decides}
use Rattle.std.proofs.lemmas.Str.Ascii.{lowercase-lowercase}
use Rattle.byte_grammar.specs.Classes.{is_blank, is_line_byte}
use Rattle.byte_grammar.specs.Language.{starts_in}
use Rattle.msg_body.specs.Spacing.{ends_in}
use Rattle.msg_body.proofs.ValueLaws.{forgets_spacing_at_ends, is_value_of_itself, is_value_of_joined}
use Rattle.msg_head.specs.Lines.{FieldLine}
use Rattle.msg_head.specs.Values.{has_bytes, value}
use Rattle.msg_head.proofs.MoreLines.{value_after_space}
use Rattle.normal_forms.specs.NormalLines.{IsClean}
use Rattle.normal_forms.specs.tools.Lines.{clean_line, is_low, is_lowered, joined_line}

-- ---- values

-- a space before a text counts for nothing
value_spaced : (text : List ℕ) → value (byte " " ∷ text) ≡ value text
value_spaced text = ap (λ t. value (byte " " ∷ t)) (sym (append-nil text)) ∙ forgets_spacing_at_ends (byte " " ∷ []) text [] refl refl

pub value_twice : (raw : List ℕ) → value (value raw) ≡ value raw
value_twice raw = sym (value_spaced (value raw)) ∙ is_value_of_itself raw

pub joined_value : (raw other : List ℕ) → has_bytes (value other) ≡ true → value (value raw ++ (codes ", " ++ value other)) ≡ value raw ++ (codes ", " ++ value other)
joined_value raw other some = sym (value_spaced (value raw ++ (codes ", " ++ value other))) ∙ is_value_of_joined raw other some

-- a text of bytes of lines that has no blank at its ends is its own value
pub own_value : (text : List ℕ) → list_all is_line_byte text ≡ true → starts_in is_blank text ≡ false → ends_in is_blank text ≡ false → value text ≡ text
own_value [] all first last = refl
own_value (c ∷ rest) all first last = sym (value_spaced (c ∷ rest)) ∙ value_after_space (c ∷ rest) all (lt-ltb 0 (length (c ∷ rest)) (omega arith)) first last

-- ---- names

pub lowered_twice : (name : List ℕ) → str_to_ascii_lowercase (str_to_ascii_lowercase name) ≡ str_to_ascii_lowercase name
lowered_twice [] = refl
lowered_twice (c ∷ rest) = let first = lowercase-lowercase c in let others = lowered_twice rest in (λ i. first i ∷ others i)

pub low_name : (name : List ℕ) → is_lowered name ≡ true → str_to_ascii_lowercase name ≡ name
low_name [] is = refl
low_name (c ∷ rest) is =
    let both = and_parts (is_low c) (is_lowered rest) is in
    let first = eqb-true (to_ascii_lowercase c) c both.0 in
    let others = low_name rest both.1 in
    (λ i. first i ∷ others i)

pub is_low_name : (name : List ℕ) → str_to_ascii_lowercase name ≡ name → is_lowered name ≡ true
is_low_name [] same = refl
is_low_name (c ∷ rest) same =
    let first : to_ascii_lowercase c ≡ c = cc in
    let others : str_to_ascii_lowercase rest ≡ rest = cc in
    and_from (is_low c) (is_lowered rest) (eq-eqb (to_ascii_lowercase c) c first) (is_low_name rest others)

-- names in lower case, compared as names in which case doesn't count
pub same_names : (one other : List ℕ) (r : Bool) → IsTrue r ↔ (str_to_ascii_lowercase one ≡ str_to_ascii_lowercase other)
    → r ≡ bytes_eq (str_to_ascii_lowercase (str_to_ascii_lowercase one)) (str_to_ascii_lowercase other)
same_names one other r is =
    let name = str_to_ascii_lowercase (str_to_ascii_lowercase one) in
    let lower = str_to_ascii_lowercase other in
    elim (cases_Bool r) [
      | inl same ↦ same ∙ sym ((bytes_eq-Decides name lower).1 (lowered_twice one ∙ is.0 same))
      | inr differ ↦ elim (cases_Bool (bytes_eq name lower)) [
        | inr other ↦ differ ∙ sym other
        | inl same ↦ absurd (false≢true (sym differ ∙ is.1 (sym (lowered_twice one) ∙ (bytes_eq-Decides name lower).0 same)))
      ]
    ]

-- ---- texts that aren't empty

some_bytes : (xs : List ℕ) (c : ℕ) (ys : List ℕ) → has_bytes (xs ++ c ∷ ys) ≡ true
some_bytes xs c ys = lt-ltb 0 (length (xs ++ c ∷ ys)) (omega (arith, length-append xs (c ∷ ys)))

pub no_bytes : (text : List ℕ) → has_bytes text ≡ false → text ≡ []
no_bytes [] none = refl
no_bytes (c ∷ rest) none = absurd (false≢true (sym none ∙ some_bytes [] c rest))

pub joined_bytes : (name : List ℕ) (raws : List (List ℕ)) → 2 ≤ length raws → has_bytes (joined_line name raws).raw ≡ true
joined_bytes name [] long = absurd (omega arith)
joined_bytes name (one ∷ []) long = absurd (omega arith)
joined_bytes name (one ∷ other ∷ raws) long = some_bytes (value one) 44 _

-- ---- clean lines

pub clean_is : (line : FieldLine) → IsClean (clean_line line)
clean_is line = record { name = lowered_twice line.name; raw = value_twice line.raw }

pub all_clean : (lines : List FieldLine) → All IsClean (map clean_line lines)
all_clean [] = All-nil IsClean
all_clean (line ∷ lines) = All-cons IsClean (clean_line line) (map clean_line lines) (clean_is line) (all_clean lines)
