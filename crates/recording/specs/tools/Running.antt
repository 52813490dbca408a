-- Limits and the order of moments, as they are judged item by item. No public clause cites this
-- module.
use Rattle.std.specs.Prelude.{◌≡◌, ⊤, ℕ, ◌<◌, ◌≤◌, List, [], ◌∷◌, ◌++◌, length, codes}
use Rattle.recording.specs.declared.limits.TheConstants.{MAX_ITEM_BYTES}
use Rattle.byte_grammar.specs.Numbers.{number_line, IsNumber}
use Rattle.recording.specs.Items.{Body, moment, stored, Kind, kind_word}
use Rattle.recording.specs.Recordings.{AreItems, items_text}

-- the last moment, where it was this one before the item
abbrev pub moment_after : ℕ → Body → ℕ
moment_after last (moment seconds) = seconds
moment_after last (stored kind text) = last

-- the item is allowed after this moment
abbrev pub IsAllowedAfter : ℕ → Body → Type 0
IsAllowedAfter last (moment seconds) = last ≤ seconds
IsAllowedAfter last (stored kind text) = length text ≤ MAX_ITEM_BYTES

-- each item is allowed after those before it; before them was this moment
abbrev pub AreAllowedAfter : ℕ → List Body → Type 0
AreAllowedAfter last [] = ⊤
AreAllowedAfter last (item ∷ items) =
    IsAllowedAfter last item × AreAllowedAfter (moment_after last item) items

-- the last moment of the items; before them was this one
abbrev pub last_moment : ℕ → List Body → ℕ
last_moment last [] = last
last_moment last (item ∷ items) = last_moment (moment_after last item) items

-- the line of an item that is too long
pub record IsLongAfter (last : ℕ) (line : List ℕ) : Type 0 where
  pub kind : Kind
  pub size : ℕ
  pub is : line ≡ number_line (kind_word kind) size
  pub number : IsNumber size
  pub long : MAX_ITEM_BYTES < size

-- the line of a moment that is earlier than this one
pub record IsFallingAfter (last : ℕ) (line : List ℕ) : Type 0 where
  pub seconds : ℕ
  pub is : line ≡ number_line (codes "at ") seconds
  pub number : IsNumber seconds
  pub falls : seconds < last

-- such a line after items that are allowed, at this offset
pub record HasLineAfter (IsSuch : ℕ → List ℕ → Type 0) (text : List ℕ) (offset : ℕ)
    : Type 0 where
  pub before : List Body
  pub line : List ℕ
  pub more : List ℕ
  pub joined : text ≡ items_text before ++ (line ++ more)
  pub are : AreItems before
  pub allowed : AreAllowedAfter 0 before
  pub such : IsSuch (last_moment 0 before) line
  pub place : offset ≡ length (items_text before)
