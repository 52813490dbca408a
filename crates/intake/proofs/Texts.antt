-- Texts of bytes.
use Rattle.std.proofs.Common.{suc, [], ◌∷◌, refl}
use Rattle.std.proofs.lemmas.Bool.{lt-ltb}
use Rattle.intake.specs.Laws.{IsOfBytesWhereBelow}

pub all_bytes : IsOfBytesWhereBelow
all_bytes [] below = refl
all_bytes (c ∷ text) below = rw (lt-ltb c 256 (below 0), all_bytes text (λ i. below (suc i))) refl
