-- Lists of texts that are the same up to an index.
use Rattle.std.proofs.Common.{◌≡◌, ◌+◌, ◌<◌, ℕ, List, length, get_or, take, refl}
use Rattle.std.proofs.lemmas.List.{take_more}

pub same_more : (texts others : List (List ℕ)) (i : ℕ) (text other : List ℕ) → i < length texts → i < length others → get_or texts i text ≡ get_or others i other
    → take i texts ≡ take i others → take (i + 1) texts ≡ take (i + 1) others
same_more texts others i text other lt also same so_far = rw (take_more texts i text lt, take_more others i other also, same, so_far) refl
