-- The book of seen nonces: what a verifier remembers of the signatures that it accepted, so that
-- it refuses them when they come again (RFC 9421 section 7.2.2).
use Rattle.std.specs.Prelude.{◌≡◌, ◌↔◌, ◌≤◌, ℕ, ◌+◌, ◌/◌, Bool, ◌&&◌, ◌==◌, nat_le, List, length}
use Rattle.std.specs.List.{All, Contains, count_by, filter, list_any}
use Rattle.std.specs.Str.{bytes_eq}
use Rattle.nonces.specs.declared.limits.TheConstants.{MAX_ENTRIES, MAX_KEYID_BYTES, MAX_MOMENT, MAX_NONCE_BYTES, MAX_WINDOW, SECONDS_PER_HOUR}

-- a signature was accepted under this keyid with this nonce
pub record Entry : Type 0 where
  pub keyid : List ℕ
  pub nonce : List ℕ
  -- the last moment at which it would be accepted, had it not been seen
  pub until : ℕ

-- the entries that are remembered at a moment, and how many and how long they may be
pub record Book : Type 0 where
  pub entries : List Entry
  -- how many entries it can hold
  pub capacity : ℕ
  -- how many seconds after the moment the last of the entries may die
  pub window : ℕ
  pub moment : ℕ

-- the book of these parts
abbrev pub book_of : List Entry → ℕ → ℕ → ℕ → Book
book_of entries capacity window moment =
    record { entries = entries; capacity = capacity; window = window; moment = moment }

-- the entry lives at this moment
abbrev pub is_live : ℕ → Entry → Bool
is_live now entry = nat_le now entry.until

-- the entries that live at this moment
abbrev pub live_entries : ℕ → List Entry → List Entry
live_entries now entries = filter (is_live now) entries

-- the hour of a second: hours are counted from the epoch on
abbrev pub hour_of : ℕ → ℕ
hour_of second = second / SECONDS_PER_HOUR

-- the last second at which the entry lives is in this hour
abbrev pub ends_in : ℕ → Entry → Bool
ends_in hour entry = hour_of entry.until == hour

-- the entry has this keyid and this nonce
abbrev pub is_of : List ℕ → List ℕ → Entry → Bool
is_of keyid nonce entry = bytes_eq entry.keyid keyid && bytes_eq entry.nonce nonce

-- an entry has this keyid and this nonce
abbrev pub is_seen : List ℕ → List ℕ → List Entry → Bool
is_seen keyid nonce entries = list_any (is_of keyid nonce) entries

-- no keyid is there twice with the same nonce
abbrev pub HasDistinctNonces : List Entry → Type 0
HasDistinctNonces entries = (keyid nonce : List ℕ) → count_by (is_of keyid nonce) entries ≤ 1

-- the two have the same entries, in any order; entries of a book are distinct
pub record HaveSameEntries (xs ys : List Entry) : Type 0 where
  pub members : (entry : Entry) → Contains xs entry ↔ Contains ys entry
  pub length : length xs ≡ length ys

-- the book holds as many entries as it can
abbrev pub is_full : Book → Bool
is_full book = length book.entries == book.capacity

-- an entry that a book with this window can hold at this moment
pub record IsHeldAt (moment window : ℕ) (entry : Entry) : Type 0 where
  pub keyid : length entry.keyid ≤ MAX_KEYID_BYTES
  pub nonce : length entry.nonce ≤ MAX_NONCE_BYTES
  pub live : moment ≤ entry.until
  pub soon : entry.until ≤ moment + window

-- what holds of every book
pub record IsBook (book : Book) : Type 0 where
  pub distinct : HasDistinctNonces book.entries
  pub each : All (IsHeldAt book.moment book.window) book.entries
  pub within : length book.entries ≤ book.capacity
  pub some : 1 ≤ book.capacity
  pub few : book.capacity ≤ MAX_ENTRIES
  pub short : book.window ≤ MAX_WINDOW
  pub early : book.moment ≤ MAX_MOMENT
