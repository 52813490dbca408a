-- A scheme in lower case is the same scheme.
use Rattle.std.proofs.Common.{◌≡◌, ℕ, ◌&&◌, ◌||◌, ◌==◌, List, [], ◌∷◌, length, Option, Some, None, refl, ap, sym, ◌∙◌, codes, if◌then◌else◌}
use Rattle.std.specs.Char.{to_ascii_lowercase}
use Rattle.std.specs.Str.{bytes_eq, str_to_ascii_lowercase}
use Rattle.std.proofs.lemmas.Str.Ascii.{lowercase-lowercase}
use Rattle.derived_values.specs.Authorities.{is_default_port, kept_port}
use Rattle.derived_values.specs.TargetLaws.{SchemeInAnyCase}

pub lowered_twice : (text : List ℕ) → str_to_ascii_lowercase (str_to_ascii_lowercase text) ≡ str_to_ascii_lowercase text
lowered_twice [] = refl
lowered_twice (c ∷ text) = ap (λ d. d ∷ str_to_ascii_lowercase (str_to_ascii_lowercase text)) (lowercase-lowercase c) ∙ ap (λ t. to_ascii_lowercase c ∷ t) (lowered_twice text)

default_in_any_case : (scheme port : List ℕ) → is_default_port scheme port ≡ is_default_port (str_to_ascii_lowercase scheme) port
default_in_any_case scheme port =
    ap (λ (s : List ℕ). (bytes_eq s (codes "http") && bytes_eq port (codes "80")) || (bytes_eq s (codes "https") && bytes_eq port (codes "443"))) (sym (lowered_twice scheme))

kept_in_any_case : (scheme : List ℕ) (port : Option (List ℕ)) → kept_port scheme port ≡ kept_port (str_to_ascii_lowercase scheme) port
kept_in_any_case scheme None = refl
kept_in_any_case scheme (Some port) = ap (λ is. if (length port == 0) || is then None else Some port) (default_in_any_case scheme port)

pub scheme_in_any_case : SchemeInAnyCase
scheme_in_any_case scheme text parts (port, is, kept) = (port, is, kept ∙ kept_in_any_case scheme port)
