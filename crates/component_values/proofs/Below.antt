-- Texts whose bytes are all below a limit.
use Rattle.std.proofs.Common.{◌≡◌, ℕ, suc, nat_lt, ◌<◌, true, List, [], ◌∷◌, ◌++◌, slice_index, refl}
use Rattle.std.specs.Char.{is_ascii}
use Rattle.std.specs.List.{list_all}
use Rattle.std.specs.Str.{IsAscii}
use Rattle.std.proofs.lemmas.Bool.{lt-ltb}
use Rattle.std.proofs.lemmas.List.Folds.{list_all-append}

pub all_below : (limit : ℕ) (text : List ℕ) → ((i : ℕ) → slice_index text i < limit) → list_all (λ c. nat_lt c limit) text ≡ true
all_below limit [] below = refl
all_below limit (c ∷ text) below = rw (lt-ltb c limit (below 0), all_below limit text (λ i. below (suc i))) refl

pub ascii_more : (done piece : List ℕ) → list_all is_ascii done ≡ true → IsAscii piece → list_all is_ascii (done ++ piece) ≡ true
ascii_more done piece all ascii = rw (list_all-append is_ascii done piece, all, all_below 128 piece ascii) refl
