-- A value of several texts.
use Rattle.std.proofs.Common.{◌≡◌, ℕ, Bool, true, false, ◌&&◌, List, ◌∷◌, ◌++◌, refl, ◌∙◌}
use Rattle.std.specs.List.{list_all, flat_map}
use Rattle.std.proofs.lemmas.List.Folds.{list_all-append}
use Rattle.byte_grammar.specs.Classes.{is_visible}
use Rattle.byte_grammar.specs.Language.{starts_in}
use Rattle.msg_head.specs.Values.{texts_of, value}
use Rattle.msg_head.specs.LeftInLines.{spaced}
use Rattle.msg_head.specs.tools.Walks.{is_solid}
use Rattle.msg_head.proofs.TextLaws.{some_text}

and_false : (b : Bool) → (b && false) ≡ false
and_false true = refl
and_false false = refl

space_within : (text other : List ℕ) (others : List (List ℕ)) → list_all is_visible (text ++ flat_map spaced (other ∷ others)) ≡ false
space_within text other others = list_all-append is_visible text (flat_map spaced (other ∷ others)) ∙ and_false (list_all is_visible text)

-- the space before a further text isn't visible
pub further_text : (raw left text rest next : List ℕ) → texts_of left ≡ texts_of raw → texts_of left ≡ text ∷ texts_of rest → texts_of next ≡ texts_of rest
    → starts_in is_solid next ≡ true → list_all is_visible (value raw) ≡ false
further_text raw left text rest next same first more solid =
    let some = some_text next solid in
    rw (← same, first, ← more, some.2) (space_within text some.0 some.1)
