-- The parts that the code makes are those of a sample.
use Rattle.std.proofs.Common.{◌≡◌, ℕ, ◌+◌, ◌%◌, ◌<◌, ◌≤◌, List, [], ◌∷◌, ◌++◌, map, take, replicate, codes, sym, ap, ◌∙◌, append_assoc, arith}
use Rattle.std.specs.List.{range_with_len}
use Rattle.std.proofs.lemmas.List.{take-replicate}
use Rattle.std.proofs.lemmas.List.FromFn.{map-range_with_len_more}
use Rattle.msg_head.specs.declared.error.Side.TheVariants.{Header}
use Rattle.rewrite_script.specs.declared.rewrite.LineRewrite.TheVariants.{Pad, Move}
use Rattle.rewrite_script.specs.declared.rewrite.Rewrite.TheVariants.{Lines, Whole}
use Rattle.rewrite_script.specs.declared.rewrite.WholeRewrite.TheVariants.{Rechunk}
use Rattle.samples.specs.Draws.{draw}
use Rattle.samples.specs.Requests.{content_of}
use Rattle.samples.specs.Scripts.{hop_steps, sizes_of}
use Rattle.samples.specs.declared.limits.TheConstants.{CONTENT_BYTES, SIGNED_LINES}
use Rattle.samples.proofs.Unsigned.{bytes_are}

-- ---- the content

-- its first bytes, so many
abbrev pub first_bytes : ℕ → ℕ → List ℕ
first_bytes seed n = map (λ k. (k + seed) % 256) (range_with_len 0 n)

-- one more of them
pub content_more : (seed j : ℕ) (start now next : List ℕ) → now ≡ start ++ first_bytes seed j → next ≡ now ++ (j + seed) % 256 ∷ []
    → next ≡ start ++ first_bytes seed (j + 1)
content_more seed j start now next now_is next_is =
    let more : first_bytes seed (j + 1) ≡ first_bytes seed j ++ (j + seed) % 256 ∷ [] =
    map-range_with_len_more (λ (k : ℕ). (k + seed) % 256) 0 j j (omega arith) in
    next_is ∙ (ap (λ (t : List ℕ). t ++ (j + seed) % 256 ∷ []) now_is
    ∙ (append_assoc start (first_bytes seed j) ((j + seed) % 256 ∷ []) ∙ ap (λ (t : List ℕ). start ++ t) (sym more)))

-- all of them
pub content_all : (seed j : ℕ) → CONTENT_BYTES ≤ j → j ≤ CONTENT_BYTES → first_bytes seed j ≡ content_of seed
content_all seed j all most =
    let n = bytes_are in
    ap (first_bytes seed) (omega (arith, n))

-- ---- the steps of a hop

pub three_pushed : {X : Type 0} (a b c d : List X) (x y z : X) → a ≡ [] → b ≡ a ++ x ∷ [] → c ≡ b ++ y ∷ [] → d ≡ c ++ z ∷ []
    → d ≡ x ∷ y ∷ z ∷ []
three_pushed {X} a b c d x y z a_is b_is c_is d_is =
    d_is ∙ ap (λ (l : List X). l ++ z ∷ []) (c_is ∙ ap (λ (l : List X). l ++ y ∷ []) (b_is ∙ ap (λ (l : List X). l ++ x ∷ []) a_is))

pub steps_are : (state index less from to more : ℕ) (before after sizes : List ℕ)
    → index ≡ draw state 1 SIGNED_LINES → less ≡ draw state 2 3 → less < 3 → from ≡ draw state 3 SIGNED_LINES → to ≡ draw state 4 SIGNED_LINES
    → more ≡ draw state 5 9000 → before ≡ take (1 + less) (codes "   ") → after ≡ [] → sizes ≡ sizes_of (1000 + more)
    → Lines (Pad Header index before after) ∷ Lines (Move Header from to) ∷ Whole (Rechunk sizes) ∷ [] ≡ hop_steps state
steps_are state index less from to more before after sizes index_is less_is low from_is to_is more_is before_is after_is sizes_are =
    let blanks : before ≡ replicate (1 + draw state 2 3) 32 =
    before_is ∙ (take-replicate (1 + less) 3 32 (omega arith) ∙ ap (λ (n : ℕ). replicate (1 + n) 32) less_is) in
    let all : sizes ≡ sizes_of (1000 + draw state 5 9000) = sizes_are ∙ ap (λ (n : ℕ). sizes_of (1000 + n)) more_is in
    λ i. Lines (Pad Header (index_is i) (blanks i) (after_is i)) ∷ Lines (Move Header (from_is i) (to_is i)) ∷ Whole (Rechunk (all i)) ∷ []
