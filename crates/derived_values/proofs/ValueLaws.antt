-- The values under a name, of pairs and one more, and of a query.
use Rattle.std.proofs.Common.{◌≡◌, ℕ, true, false, List, [], ◌∷◌, ◌++◌, refl, append-nil}
use Rattle.std.specs.Prelude.{map, filter}
use Rattle.std.specs.List.{list_all}
use Rattle.std.specs.Str.{bytes_eq}
use Rattle.std.proofs.lemmas.List.{map-append}
use Rattle.std.proofs.lemmas.List.Elements.{filter-append}
use Rattle.sfv_text.specs.Range.{is_string_byte}
use Rattle.derived_values.specs.Query.{QueryPair, pairs, decoded, decoded_pair, encoded, values_under, matches}
use Rattle.derived_values.proofs.EncodingLaws.{printable}

pub has_one_more : (name : List ℕ) (done : List (List ℕ × List ℕ)) (raw : List ℕ × List ℕ) → bytes_eq (encoded (decoded raw.0)) name ≡ true
    → values_under name (map decoded_pair (done ++ raw ∷ [])) ≡ values_under name (map decoded_pair done) ++ encoded (decoded raw.1) ∷ []
has_one_more name done raw is = rw (map-append, filter-append, is, map-append) refl

pub has_the_same : (name : List ℕ) (done : List (List ℕ × List ℕ)) (raw : List ℕ × List ℕ) → bytes_eq (encoded (decoded raw.0)) name ≡ false
    → values_under name (map decoded_pair (done ++ raw ∷ [])) ≡ values_under name (map decoded_pair done)
has_the_same name done raw other = rw (map-append, filter-append, other, append-nil) refl

all_printable : (all : List QueryPair) → list_all (list_all is_string_byte) (map (λ pair. encoded pair.value) all) ≡ true
all_printable [] = refl
all_printable (pair ∷ others) = rw (printable pair.value, all_printable others) refl

pub matches_printable : (query name : List ℕ) → list_all (list_all is_string_byte) (matches query name) ≡ true
matches_printable query name = all_printable (filter (λ pair. bytes_eq (encoded pair.name) name) (pairs query))
