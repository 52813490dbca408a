-- Lines, from their parts.
use Rattle.std.proofs.Common.{◌≡◌, ℕ, List, [], ◌∷◌, ◌++◌, take, drop, refl, sym, ap, ◌∙◌, append_assoc, append-nil, codes}
use Rattle.rewrite_script.specs.tools.Printed.{line_of_words, words_after}

-- a line is that of its first three words, and the others with SP before each
pub parts : (words : List (List ℕ)) → line_of_words (take 3 words) ++ words_after (drop 3 words) ≡ line_of_words words
parts [] = refl
parts (a ∷ []) = append-nil (a ++ [])
parts (a ∷ b ∷ []) = append-nil (line_of_words (a ∷ b ∷ []))
parts (a ∷ b ∷ c ∷ words) =
    append_assoc a (words_after (b ∷ c ∷ [])) (words_after words)
    ∙ ap (λ (y : List ℕ). a ++ y) (append_assoc (codes " " ++ b) (words_after (c ∷ [])) (words_after words)
    ∙ ap (λ (y : List ℕ). (codes " " ++ b) ++ y) (append_assoc (codes " " ++ c) [] (words_after words)))

-- a line is its first word, and the others with SP before each
pub from_kind : (kind : List ℕ) (words : List (List ℕ)) → words ≡ kind ∷ drop 1 words → kind ++ words_after (drop 1 words) ≡ line_of_words words
from_kind kind words is = sym (ap line_of_words is)
