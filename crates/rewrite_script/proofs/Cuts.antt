-- The bytes before the first of a kind.
use Rattle.std.proofs.Common.{◌≡◌, ℕ, eqb, Bool, true, false, not, List, [], ◌∷◌, ◌++◌, Option, Some, None, option_map, refl, ap, ◌∙◌, append-nil, length, arith}
use Rattle.std.specs.List.{list_all}
use Rattle.std.proofs.lemmas.Bool.{and_parts, eqb-true}
use Rattle.byte_grammar.specs.Language.{starts_in}
use Rattle.rewrite_script.specs.tools.LineWalk.{cut_if, cut_read}

-- any byte but this one
abbrev pub but : ℕ → ℕ → Bool
but end c = not (eqb c end)

cut_here : (end c : ℕ) (rest : List ℕ) (later : Option (List ℕ × List ℕ)) (b : Bool) → not b ≡ false → cut_if b c rest later ≡ Some ([], rest)
cut_here end c rest later true e = refl
cut_here end c rest later false e = absurd cc

cut_on : (c : ℕ) (rest : List ℕ) (later : Option (List ℕ × List ℕ)) (b : Bool) → not b ≡ true → cut_if b c rest later ≡ option_map (λ x. (c ∷ x.0, x.1)) later
cut_on c rest later true e = absurd cc
cut_on c rest later false e = refl

pub cut_found : (end : ℕ) (front : List ℕ) (c : ℕ) (rest : List ℕ) → list_all (but end) front ≡ true → but end c ≡ false → cut_read end (front ++ c ∷ rest) ≡ Some (front, rest)
unfolding cut_read
cut_found end [] c rest all is = cut_here end c rest (cut_read end rest) (eqb c end) is
cut_found end (d ∷ front) c rest all is =
    let both = and_parts (but end d) (list_all (but end) front) all in
    cut_on d (front ++ c ∷ rest) (cut_read end (front ++ c ∷ rest)) (eqb d end) both.0
    ∙ ap (λ (later : Option (List ℕ × List ℕ)). option_map (λ x. (d ∷ x.0, x.1)) later) (cut_found end front c rest both.1 is)

pub cut_none : (end : ℕ) (front : List ℕ) → list_all (but end) front ≡ true → cut_read end front ≡ None
unfolding cut_read
cut_none end [] all = refl
cut_none end (d ∷ front) all =
    let both = and_parts (but end d) (list_all (but end) front) all in
    cut_on d front (cut_read end front) (eqb d end) both.0
    ∙ ap (λ (later : Option (List ℕ × List ℕ)). option_map (λ x. (d ∷ x.0, x.1)) later) (cut_none end front both.1)

-- what is cut is there
cut_at : (end c : ℕ) (rest : List ℕ) (later : Option (List ℕ × List ℕ)) (b : Bool) → eqb c end ≡ b → ((x : List ℕ × List ℕ) → later ≡ Some x → rest ≡ x.0 ++ end ∷ x.1)
    → (x : List ℕ × List ℕ) → cut_if b c rest later ≡ Some x → c ∷ rest ≡ x.0 ++ end ∷ x.1
cut_at end c rest later true is again x e =
    let same : ([], rest) ≡ x = cc in
    ap (λ (d : ℕ). d ∷ rest) (eqb-true c end is) ∙ ap (λ (y : List ℕ × List ℕ). y.0 ++ end ∷ y.1) same
cut_at end c rest None false is again x e = absurd cc
cut_at end c rest (Some y) false is again x e =
    let same : (c ∷ y.0, y.1) ≡ x = cc in
    ap (λ (t : List ℕ). c ∷ t) (again y refl) ∙ ap (λ (z : List ℕ × List ℕ). z.0 ++ end ∷ z.1) same

pub cut_sound : (end : ℕ) (bytes : List ℕ) (x : List ℕ × List ℕ) → cut_read end bytes ≡ Some x → bytes ≡ x.0 ++ end ∷ x.1
unfolding cut_read
cut_sound end [] x e = absurd cc
cut_sound end (c ∷ rest) x e = cut_at end c rest (cut_read end rest) (eqb c end) refl (cut_sound end rest) x e

-- ---- what the code cuts

pub cut_there : (end : ℕ) (bytes front rest : List ℕ) (c : ℕ) (after : List ℕ) → bytes ≡ front ++ rest → list_all (but end) front ≡ true → starts_in (but end) rest ≡ false → rest ≡ c ∷ after
    → cut_read end bytes ≡ Some (front, after)
cut_there end bytes front rest c after joined all ends is =
    let stops : but end c ≡ false = rw is at ends in
    ap (cut_read end) (joined ∙ ap (λ (y : List ℕ). front ++ y) is) ∙ cut_found end front c after all stops

pub cut_missing : (end : ℕ) (bytes front rest : List ℕ) → bytes ≡ front ++ rest → list_all (but end) front ≡ true → length rest ≡ 0 → cut_read end bytes ≡ None
cut_missing end bytes front [] joined all is = ap (cut_read end) (joined ∙ append-nil front) ∙ cut_none end front all
cut_missing end bytes front (c ∷ rest) joined all is = absurd (omega arith)
