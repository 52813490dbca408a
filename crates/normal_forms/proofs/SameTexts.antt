-- Texts that come in pieces, compared piece by piece.
use Rattle.std.proofs.Common.{◌≡◌, ◌↔◌, ℕ, ◌<◌, true, false, List, [], ◌++◌, length, take, drop, sym, ap, ◌∙◌, arith, append_assoc, length-append}
use Rattle.std.proofs.lemmas.Bool.{false≢true}
use Rattle.std.proofs.lemmas.List.{append_cancel_left, take-append-drop}
use Rattle.std.proofs.Math.Seq.{take-append_seam}

-- a text in two parts
pub parts_joined : (count : ℕ) (text front back : List ℕ) → front ≡ take count text → back ≡ drop count text → text ≡ front ++ back
parts_joined count text front back front_is back_is = sym (take-append-drop count text) ∙ (λ i. sym front_is i ++ sym back_is i)

-- a text with a piece that isn't empty isn't over
pub not_over : (left piece after : List ℕ) → left ≡ piece ++ after → 0 < length piece → (false ≡ true) ↔ (left ≡ [])
not_over left piece after is some = (
  λ no. absurd (false≢true no),
  λ none. absurd (omega (arith, length-append piece after, ap (length {A = ℕ}) (sym is ∙ none), some)),
)

-- texts with parts of one length in front have the same parts
first_same : (a b s t : List ℕ) → length a ≡ length b → a ++ s ≡ b ++ t → a ≡ b
first_same a b s t size same =
    sym (take-append_seam a s) ∙ (ap (λ (text : List ℕ). take (length a) text) same ∙ (ap (λ (n : ℕ). take n (b ++ t)) size ∙ take-append_seam b t))

module _ (Same : Type 0) (ours theirs x y a b u v : List ℕ) (goes : Same ↔ (ours ++ x ≡ theirs ++ y)) (ours_is : ours ≡ a ++ u) (theirs_is : theirs ≡ b ++ v) where
  our_parts : ours ++ x ≡ a ++ (u ++ x)
  our_parts = ap (λ t. t ++ x) ours_is ∙ append_assoc a u x

  their_parts : theirs ++ y ≡ b ++ (v ++ y)
  their_parts = ap (λ t. t ++ y) theirs_is ∙ append_assoc b v y

  -- parts that differ make the texts differ
  pub parts_apart : length a ≡ length b → (a ≡ b → ⊥) → (false ≡ true) ↔ Same
  parts_apart size apart = (
    λ no. absurd (false≢true no),
    λ same. absurd (apart (first_same a b (u ++ x) (v ++ y) size (sym our_parts ∙ (goes.0 same ∙ their_parts)))),
  )

  -- after parts that are the same the rests are compared
  pub parts_same : a ≡ b → Same ↔ (u ++ x ≡ v ++ y)
  parts_same part = (
    λ same. append_cancel_left a (u ++ x) (v ++ y) (sym our_parts ∙ (goes.0 same ∙ (their_parts ∙ ap (λ t. t ++ (v ++ y)) (sym part)))),
    λ rest. goes.1 (our_parts ∙ (ap (λ t. a ++ t) rest ∙ (ap (λ t. t ++ (v ++ y)) part ∙ sym their_parts))),
  )
