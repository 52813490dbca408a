-- What holds of a book goes on to hold where an entry is put in and where it goes on to a moment.
use Rattle.std.proofs.Common.{◌≡◌, ◌≤◌, ℕ, ◌+◌, false, cond, Option, Some, None, List, [], ◌∷◌, ◌++◌, length, map, set, get_or, replicate, sym, ◌∙◌, ap, subst, arith, refl, length-append}
use Rattle.std.specs.List.{All, count_by}
use Rattle.std.specs.List.Sorted.{IsPermutation}
use Rattle.std.proofs.lemmas.List.{get_or_at, length-map}
use Rattle.std.proofs.lemmas.List.Elements.{All-nil}
use Rattle.std.proofs.lemmas.List.Sorted.{All-permutation, IsPermutation-append_comm, IsPermutation-sym, IsPermutation-trans, length_permutation, sum_by-IsPermutation}
use Rattle.nonces.specs.Books.{Entry, HasDistinctNonces, HaveSameEntries, IsBook, IsHeldAt, book_of, hour_of, is_full, is_of, is_seen, live_entries}
use Rattle.nonces.specs.declared.limits.TheConstants.{MAX_ENTRIES, MAX_MOMENT, MAX_WINDOW}
use Rattle.nonces.specs.tools.Nodes.{IsSpare, entries_in, let_go}
use Rattle.nonces.specs.tools.Wheels.{AreWithin, is_dead}
use Rattle.nonces.proofs.Entries.{let_go_dead, one_out, permuted_in}
use Rattle.nonces.proofs.Held.{held_live, held_more, same_equal, same_permuted}
use Rattle.nonces.proofs.Stored.{no_entries}
use Rattle.nonces.proofs.Turned.{hour_begins, hour_least}

-- ---- in another order

distinct_permuted : (xs ys : List Entry) → IsPermutation xs ys → HasDistinctNonces xs → HasDistinctNonces ys
distinct_permuted xs ys moved distinct keyid nonce =
    let same : count_by (is_of keyid nonce) ys ≡ count_by (is_of keyid nonce) xs =
    sum_by-IsPermutation (λ e. cond (is_of keyid nonce e) 1 0) xs ys moved in
    omega (arith, same, distinct keyid nonce)

held_permuted : (xs ys : List Entry) (capacity window moment : ℕ) → IsPermutation xs ys → IsBook (book_of xs capacity window moment)
    → IsBook (book_of ys capacity window moment)
held_permuted xs ys capacity window moment moved book = record {
  distinct = distinct_permuted xs ys moved book.distinct;
  each = All-permutation (IsHeldAt moment window) xs ys moved book.each;
  within = omega (arith, length_permutation xs ys moved, book.within);
  some = book.some;
  few = book.few;
  short = book.short;
  early = book.early;
}

-- ---- one more

pub held_put : (os : List (Option Entry)) (i capacity window moment : ℕ) (e : Entry) → IsSpare os i → IsHeldAt moment window e
    → is_seen e.keyid e.nonce (entries_in os) ≡ false → is_full (book_of (entries_in os) capacity window moment) ≡ false
    → IsBook (book_of (entries_in os) capacity window moment)
    → IsBook (book_of (entries_in (set os i (Some e))) capacity window moment)
held_put os i capacity window moment e spare held new room book =
    let xs = entries_in os in
    let ys = entries_in (set os i (Some e)) in
    held_permuted (xs ++ e ∷ []) ys capacity window moment (
    IsPermutation-trans (xs ++ e ∷ []) (e ∷ xs) ys (IsPermutation-append_comm xs (e ∷ []))
    (IsPermutation-sym ys (e ∷ xs) (permuted_in os i e spare.0 spare.1))
    ) (held_more xs capacity window moment e held new room book)

pub same_put : (os : List (Option Entry)) (i : ℕ) (e : Entry) → IsSpare os i
    → HaveSameEntries (entries_in (set os i (Some e))) (e ∷ entries_in os)
same_put os i e spare =
    same_permuted (entries_in (set os i (Some e))) (e ∷ entries_in os) (permuted_in os i e spare.0 spare.1)

-- ---- a later moment

-- what holds of each entry holds of one at an index
all_at : (P : Entry → Type 0) (os : List (Option Entry)) (i : ℕ) (e : Entry) → All P (entries_in os) → get_or os i None ≡ Some e → P e
all_at P os i e each is =
    let parts = one_out os i e is in
    let all : All P (parts.0 ++ e ∷ parts.1) = subst (All P) parts.2 each in
    subst P (get_or_at parts.0 e parts.1 e (length parts.0) refl)
    (all (length parts.0) e (omega (arith, length-append parts.0 (e ∷ parts.1))))

-- each entry of a book lives at its moment, and dies within a week
pub within_book : (os : List (Option Entry)) (capacity window moment : ℕ) → IsBook (book_of (entries_in os) capacity window moment)
    → AreWithin moment (moment + MAX_WINDOW + 1) os
within_book os capacity window moment book i e at =
    let held = all_at (IsHeldAt moment window) os i e book.each at in (held.live, omega (arith, held.soon, book.short))

pub advanced : (os new : List (Option Entry)) (capacity window moment now : ℕ) → IsBook (book_of (entries_in os) capacity window moment)
    → moment ≤ now → now ≤ MAX_MOMENT → new ≡ map (let_go (is_dead now)) os → IsBook (book_of (entries_in new) capacity window now)
advanced os new capacity window moment now book later early is =
    subst (λ l. IsBook (book_of l capacity window now)) (sym (ap entries_in is ∙ let_go_dead now os))
    (held_live (entries_in os) capacity window moment now later early book)

pub advanced_live : (os new : List (Option Entry)) (now : ℕ) → new ≡ map (let_go (is_dead now)) os
    → HaveSameEntries (entries_in new) (live_entries now (entries_in os))
advanced_live os new now is =
    same_equal (entries_in new) (live_entries now (entries_in os)) (ap entries_in is ∙ let_go_dead now os)

pub advanced_size : (os new : List (Option Entry)) (now : ℕ) → new ≡ map (let_go (is_dead now)) os → length new ≡ length os
advanced_size os new now is = ap length is ∙ length-map os (let_go (is_dead now))

-- a later moment is in a later hour, or in the same
pub hour_later : (moment now : ℕ) → moment ≤ now → hour_of moment ≤ hour_of now
hour_later moment now later = hour_least (hour_of moment) now (omega (arith, later, hour_begins moment))

-- ---- a new book

pub entries_opened : (os : List (Option Entry)) (capacity : ℕ) → os ≡ replicate capacity None → entries_in os ≡ []
entries_opened os capacity is = ap entries_in is ∙ no_entries capacity

pub book_opened : (os : List (Option Entry)) (capacity window now : ℕ) → os ≡ replicate capacity None
    → 1 ≤ capacity → capacity ≤ MAX_ENTRIES → window ≤ MAX_WINDOW → now ≤ MAX_MOMENT
    → IsBook (book_of (entries_in os) capacity window now)
book_opened os capacity window now is some few short early =
    let none : IsBook (book_of [] capacity window now) = record {
      distinct = λ _ _. omega arith;
      each = All-nil (IsHeldAt now window);
      within = omega arith;
      some = some;
      few = few;
      short = short;
      early = early;
    } in
    subst (λ l. IsBook (book_of l capacity window now)) (sym (entries_opened os capacity is)) none
