-- The nonces that a gateway remembers (RFC 9421 section 7.2.2).
use Rattle.std.specs.Prelude.{◌≡◌, ◌+ℤ◌, ℕ, pos, IsTrue, IsSomeAnd, Some, List, [], ◌∷◌}
use Rattle.component_ids.specs.declared.params.SigParams.{SigParams}
use Rattle.nonces.specs.Books.{Book, Entry, HaveSameEntries, book_of, live_entries}
use Rattle.settings.specs.Configuration.{Configuration}
use Rattle.settings.specs.declared.policy.Policy.{Policy}
use Rattle.verdicts.specs.Choice.{policy_of, window_of}
use Rattle.verdicts.specs.Parameters.{created_of, nonce_of}
use Rattle.verdicts.specs.Policies.{asks_new}

-- nothing was seen, at this moment
abbrev pub nothing_seen : Configuration → ℕ → Book
nothing_seen conf now = book_of [] conf.nonces (window_of conf) now

-- the book has these entries, in any order, at this moment; how many it can hold, and how long, is
-- as it was
pub record HasBecome (entries : List Entry) (now : ℕ) (before after : Book) : Type 0 where
  pub entries_are : HaveSameEntries after.entries entries
  pub moment : after.moment ≡ now
  pub capacity : after.capacity ≡ before.capacity
  pub window : after.window ≡ before.window

-- it goes on to a moment: what doesn't live then is dropped
abbrev pub IsAdvanced : ℕ → Book → Book → Type 0
IsAdvanced now before after = HasBecome (live_entries now before.entries) now before after

-- The entry is the nonce of a signature under this keyid. It lives until the signature is too old
-- to be accepted by its policy. Only a policy that checks or requires nonces has them remembered.
pub record IsEntryOf (conf : Configuration) (params : SigParams) (keyid : List ℕ) (entry : Entry)
    : Type 0 where
  pub policy : Policy
  pub chosen : policy_of conf params ≡ Some policy
  pub asks : IsTrue (asks_new policy.nonce)
  pub nonce : nonce_of params ≡ Some entry.nonce
  pub keyid_is : entry.keyid ≡ keyid
  pub until : IsSomeAnd (created_of params) (λ created.
      pos entry.until ≡ created +ℤ pos policy.max_age)

-- what is remembered after a signature was accepted: its entry too, where it has one
pub record Remembers (conf : Configuration) (params : SigParams) (keyid : List ℕ)
    (before after : Book) : Type 0 where
  pub one : (entry : Entry) → IsEntryOf conf params keyid entry
      → HasBecome (entry ∷ before.entries) before.moment before after
  pub none : ((entry : Entry) → ¬ IsEntryOf conf params keyid entry) → after ≡ before
