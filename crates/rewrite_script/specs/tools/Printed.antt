-- What is printed of words. No public clause cites this module.
use Rattle.std.specs.Prelude.{ℕ, List, ◌++◌, codes}
use Rattle.std.specs.List.{flat_map, join_by}

-- each word with SP before it
abbrev pub words_after : List (List ℕ) → List ℕ
words_after words = flat_map (λ word. codes " " ++ word) words

-- the words with one SP between two of them
abbrev pub line_of_words : List (List ℕ) → List ℕ
line_of_words words = join_by (λ word. word) (codes " ") words
