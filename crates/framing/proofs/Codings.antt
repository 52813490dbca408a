-- Texts that begin with pieces, in which case doesn't count.
use Rattle.std.proofs.Common.{◌≡◌, ◌≢◌, ◌==◌, ℕ, false, List, [], ◌∷◌, ◌++◌, length, take, drop, sym, ap, ◌∙◌, arith, append_assoc, append-nil}
use Rattle.std.specs.Prelude.{codes}
use Rattle.std.specs.Str.{str_to_ascii_lowercase}
use Rattle.std.specs.Char.{to_ascii_lowercase}
use Rattle.std.proofs.lemmas.Bool.Decides.{nat_tests}
use Rattle.std.proofs.lemmas.List.{map-append, append_cancel_left, length-map, take-append-drop}
use Rattle.std.proofs.Math.Seq.{take-append_seam}
use Rattle.std.proofs.lemmas.Slice.Eq.{bytes_eq-Decides}
use Rattle.framing.specs.Framings.{is_chunked}
use Rattle.framing.proofs.Digits.{is_not}

lower_append : (a b : List ℕ) → str_to_ascii_lowercase (a ++ b) ≡ str_to_ascii_lowercase a ++ str_to_ascii_lowercase b
lower_append a b = map-append to_ascii_lowercase a b

lower_length : (a : List ℕ) → length (str_to_ascii_lowercase a) ≡ length a
lower_length a = length-map a to_ascii_lowercase

-- texts of one length that are first in one text are the same
same_front : (a b x y : List ℕ) → a ++ x ≡ b ++ y → length a ≡ length b → a ≡ b
same_front a b x y joined size =
    sym (take-append_seam a x) ∙ (ap (λ n. take n (a ++ x)) size ∙ (ap (take (length b)) joined ∙ take-append_seam b y))

-- ---- a text and a piece

parts_lowered : (text : List ℕ) (n : ℕ) → str_to_ascii_lowercase text ≡ str_to_ascii_lowercase (take n text) ++ str_to_ascii_lowercase (drop n text)
parts_lowered text n = ap str_to_ascii_lowercase (sym (take-append-drop n text)) ∙ lower_append (take n text) (drop n text)

pub begins_with : (text piece first rest : List ℕ) → first ≡ take (length piece) text → rest ≡ drop (length piece) text
    → str_to_ascii_lowercase first ≡ str_to_ascii_lowercase piece → str_to_ascii_lowercase text ≡ str_to_ascii_lowercase piece ++ str_to_ascii_lowercase rest
begins_with text piece first rest first_is rest_is same =
    parts_lowered text (length piece)
    ∙ (ap (λ t. str_to_ascii_lowercase t ++ str_to_ascii_lowercase (drop (length piece) text)) (sym first_is)
    ∙ (ap (λ t. t ++ str_to_ascii_lowercase (drop (length piece) text)) same ∙ ap (λ t. str_to_ascii_lowercase piece ++ str_to_ascii_lowercase t) (sym rest_is)))

pub begins_not_with : (text piece first more : List ℕ) → first ≡ take (length piece) text → length first ≡ length piece
    → ¬ (str_to_ascii_lowercase first ≡ str_to_ascii_lowercase piece) → str_to_ascii_lowercase text ≢ str_to_ascii_lowercase piece ++ more
begins_not_with text piece first more first_is size other joined =
    other (same_front (str_to_ascii_lowercase first) (str_to_ascii_lowercase piece) (str_to_ascii_lowercase (drop (length piece) text)) more
    (ap (λ t. str_to_ascii_lowercase t ++ str_to_ascii_lowercase (drop (length piece) text)) first_is ∙ (sym (parts_lowered text (length piece)) ∙ joined))
    (lower_length first ∙ (size ∙ sym (lower_length piece))))

-- ---- the pieces of a text, and a word

-- a piece more was taken from what is left of the word
pub taken_more : (done piece left rest word : List ℕ) → str_to_ascii_lowercase done ++ str_to_ascii_lowercase left ≡ word
    → str_to_ascii_lowercase left ≡ str_to_ascii_lowercase piece ++ str_to_ascii_lowercase rest
    → str_to_ascii_lowercase (done ++ piece) ++ str_to_ascii_lowercase rest ≡ word
taken_more done piece left rest word taken more =
    ap (λ t. t ++ str_to_ascii_lowercase rest) (lower_append done piece)
    ∙ (append_assoc (str_to_ascii_lowercase done) (str_to_ascii_lowercase piece) (str_to_ascii_lowercase rest)
    ∙ (ap (λ t. str_to_ascii_lowercase done ++ t) (sym more) ∙ taken))

-- a piece is in the text that isn't in the word
pub not_chunked : (done piece left more text : List ℕ) → done ++ (piece ++ more) ≡ text → str_to_ascii_lowercase done ++ str_to_ascii_lowercase left ≡ codes "chunked"
    → ((rest : List ℕ) → str_to_ascii_lowercase left ≢ str_to_ascii_lowercase piece ++ rest) → is_chunked text ≡ false
not_chunked done piece left more text joined taken none =
    is_not (is_chunked text) (λ is.
    let whole : str_to_ascii_lowercase text ≡ codes "chunked" = (bytes_eq-Decides (str_to_ascii_lowercase text) (codes "chunked")).0 is in
    let parts : str_to_ascii_lowercase text ≡ str_to_ascii_lowercase done ++ (str_to_ascii_lowercase piece ++ str_to_ascii_lowercase more) =
    ap str_to_ascii_lowercase (sym joined) ∙ (lower_append done (piece ++ more) ∙ ap (λ t. str_to_ascii_lowercase done ++ t) (lower_append piece more)) in
    none (str_to_ascii_lowercase more) (append_cancel_left (str_to_ascii_lowercase done) (str_to_ascii_lowercase left) (str_to_ascii_lowercase piece ++ str_to_ascii_lowercase more) (taken ∙ (sym whole ∙ parts))))

-- nothing is left of the text
pub is_chunked_where : (done left text : List ℕ) → done ++ [] ≡ text → str_to_ascii_lowercase done ++ str_to_ascii_lowercase left ≡ codes "chunked" → (length left == 0) ≡ is_chunked text
is_chunked_where done [] text joined taken =
    let same : str_to_ascii_lowercase done ≡ codes "chunked" = sym (append-nil (str_to_ascii_lowercase done)) ∙ taken in
    sym ((bytes_eq-Decides (str_to_ascii_lowercase text) (codes "chunked")).1 (ap str_to_ascii_lowercase (sym joined ∙ append-nil done) ∙ same))
is_chunked_where done (c ∷ left) text joined taken =
    let some : (length (c ∷ left) == 0) ≡ false = grind (arith, nat_tests) in
    some ∙ sym (is_not (is_chunked text) (λ is.
    let whole : str_to_ascii_lowercase text ≡ codes "chunked" = (bytes_eq-Decides (str_to_ascii_lowercase text) (codes "chunked")).0 is in
    let done_is : str_to_ascii_lowercase done ≡ codes "chunked" = ap str_to_ascii_lowercase (sym (append-nil done) ∙ joined) ∙ whole in
    let left_is : str_to_ascii_lowercase (c ∷ left) ≡ [] =
    append_cancel_left (str_to_ascii_lowercase done) (str_to_ascii_lowercase (c ∷ left)) [] (taken ∙ (sym done_is ∙ sym (append-nil (str_to_ascii_lowercase done)))) in
    absurd cc))
