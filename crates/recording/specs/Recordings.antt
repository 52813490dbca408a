-- Recordings.
use Rattle.std.specs.Prelude.{◌≡◌, ⊤, ℕ, ◌+◌, List, [], ◌∷◌, ◌++◌, length, map, codes}
use Rattle.std.specs.List.{All, flat_map}
use Rattle.std.specs.List.Sorted.{IsNonDecreasing}
use Rattle.byte_grammar.specs.Numbers.{IsNumber}
use Rattle.recording.specs.Items.{Body, moment, stored, PlacedItem, body_text, number_of, IsShort, moment_in}

-- the line that names the format, and the items after it
abbrev pub items_text : List Body → List ℕ
items_text items = codes "hms-recording 1\n" ++ flat_map body_text items

-- the first item is a moment
abbrev pub BeginWithMoment : List Body → Type 0
BeginWithMoment [] = ⊥
BeginWithMoment (moment seconds ∷ items) = ⊤
BeginWithMoment (stored kind text ∷ items) = ⊥

-- items as a recording can have them, however long they are and whatever the order of moments is
pub record AreItems (items : List Body) : Type 0 where
  pub begin : BeginWithMoment items
  pub numbers : All (λ item. IsNumber (number_of item)) items

-- the text has the form of a recording of these items: the line that names the format, the items,
-- and the last line
pub record HasForm (text : List ℕ) (items : List Body) : Type 0 where
  pub are : AreItems items
  pub joined : text ≡ items_text items ++ codes "end\n"

-- the text has the form of what comes after the first items of a recording: other items, and the
-- last line
pub record HasRestForm (text : List ℕ) (items : List Body) : Type 0 where
  pub numbers : All (λ item. IsNumber (number_of item)) items
  pub joined : text ≡ flat_map body_text items ++ codes "end\n"

-- the moments of the items, in order
abbrev pub moments : List Body → List ℕ
moments items = flat_map moment_in items

-- no item has too many bytes, and no moment is earlier than one before it
pub record AreAllowed (items : List Body) : Type 0 where
  pub short : All IsShort items
  pub in_order : IsNonDecreasing (moments items)

-- the line of the first item is at this offset, and the others follow
abbrev pub ArePlaced : ℕ → List PlacedItem → Type 0
ArePlaced offset [] = ⊤
ArePlaced offset (item ∷ items) =
    (item.offset ≡ offset) × ArePlaced (offset + length (body_text item.body)) items

-- what the items say
abbrev pub bodies : List PlacedItem → List Body
bodies items = map (λ item. item.body) items

-- the text is the recording of these items
pub record SpellsRecording (text : List ℕ) (items : List PlacedItem) : Type 0 where
  pub form : HasForm text (bodies items)
  pub allowed : AreAllowed (bodies items)
  pub placed : ArePlaced (length (codes "hms-recording 1\n")) items
