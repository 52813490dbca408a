-- The two wheels of a book: the lists of its entries by the second and by the hour in which they
-- die. No public clause cites this.
use Rattle.std.specs.Prelude.{◌≡◌, ◌<◌, ◌≤◌, ℕ, ◌%◌, Bool, not, ◌&&◌, ◌==◌, Option, Some, None, List, length, slice_index_or}
use Rattle.nonces.specs.Books.{Entry, ends_in, hour_of, is_live}
use Rattle.nonces.specs.tools.Links.{IsListOf}
use Rattle.nonces.specs.tools.Nodes.{Held, Holds, link_at}
use Rattle.nonces.specs.declared.limits.TheConstants.{MAX_HOURS, SECONDS_PER_HOUR}

-- what nodes hold, and the hour whose entries are listed by seconds
pub record Timed : Type 0 where
  pub entries : List (Option Entry)
  pub hour : ℕ

-- the entry doesn't live at this moment
abbrev pub is_dead : ℕ → Entry → Bool
is_dead now entry = not (is_live now entry)

-- it dies in the hour of this moment, and before the moment
abbrev pub is_late : ℕ → Entry → Bool
is_late now entry = ends_in (hour_of now) entry && is_dead now entry

-- it dies in another hour
abbrev pub ends_out : ℕ → Entry → Bool
ends_out hour entry = not (ends_in hour entry)

-- the fine wheel: an entry of the hour is in the slot of its second
abbrev pub is_fine : ℕ → ℕ → Entry → Bool
is_fine hour slot entry = ends_in hour entry && (entry.until % SECONDS_PER_HOUR == slot)

-- the coarse wheel: an entry of another hour is in the slot of that hour
abbrev pub is_coarse : ℕ → ℕ → Entry → Bool
is_coarse hour slot entry = ends_out hour entry && (hour_of entry.until % MAX_HOURS == slot)

-- each slot's list has exactly the nodes whose entries are in the slot
abbrev pub IsWheel : Held → List (Option ℕ) → (ℕ → Entry → Bool) → Type 0
IsWheel held heads is_in =
    (slot : ℕ) → slot < length heads
    → IsListOf (link_at held) (slice_index_or heads slot None) (Holds (is_in slot) held.entries)

-- what holds of the two wheels
pub record IsWheels (held : Held) (fine coarse : List (Option ℕ)) (hour : ℕ) : Type 0 where
  pub seconds : IsWheel held fine (is_fine hour)
  pub hours : IsWheel held coarse (is_coarse hour)
  pub fine_size : length fine ≡ SECONDS_PER_HOUR
  pub coarse_size : length coarse ≡ MAX_HOURS

-- each entry lives at the first of the seconds, and dies before the last
abbrev pub AreWithin : ℕ → ℕ → List (Option Entry) → Type 0
AreWithin first last entries =
    (index : ℕ) (entry : Entry) → slice_index_or entries index None ≡ Some entry
    → (first ≤ entry.until) × (entry.until < last)
