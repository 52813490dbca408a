-- Whether some line has a name, by the lines of the name that were found.
use Rattle.std.proofs.Common.{◌≡◌, ◌==◌, ℕ, true, false, nat_lt, List, [], ◌∷◌, length, filter, refl, sym, ap, ◌∙◌, arith}
use Rattle.std.proofs.lemmas.Bool.{eqb-true}
use Rattle.std.proofs.lemmas.List.{length-map}
use Rattle.msg_head.specs.Lines.{FieldLine}
use Rattle.msg_head.specs.Names.{has_name}
use Rattle.msg_head.specs.Values.{value, is_there}
use Rattle.msg_head.proofs.NameCounts.{positive, there_count}

-- none was found, or one was
none : (found : List FieldLine) → (length found == 0) ≡ true → nat_lt 0 (length found) ≡ false
none [] empty = refl
none (line ∷ lines) empty = absurd (omega (arith, eqb-true (length (line ∷ lines)) 0 empty))

some : (found : List FieldLine) → (length found == 0) ≡ false → nat_lt 0 (length found) ≡ true
some [] full = absurd cc
some (line ∷ lines) full = sym (positive (length lines))

there : (lines found : List FieldLine) (name : List ℕ) → found ≡ filter (has_name name) lines → is_there lines name ≡ nat_lt 0 (length found)
there lines found name same =
    there_count lines name
    ∙ ap (λ n. nat_lt 0 n) (length-map (filter (has_name name) lines) (λ (line : FieldLine). value line.raw) ∙ ap (λ (ls : List FieldLine). length ls) (sym same))

pub none_there : (lines found : List FieldLine) (name : List ℕ) → found ≡ filter (has_name name) lines → (length found == 0) ≡ true → is_there lines name ≡ false
none_there lines found name same empty = there lines found name same ∙ none found empty

pub some_there : (lines found : List FieldLine) (name : List ℕ) → found ≡ filter (has_name name) lines → (length found == 0) ≡ false → is_there lines name ≡ true
some_there lines found name same full = there lines found name same ∙ some found full
