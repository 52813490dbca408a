-- What holds of a book goes on to hold when it advances and when it takes an entry.
use Rattle.std.proofs.Common.{◌≡◌, ◌≤◌, ◌<◌, ℕ, ◌+◌, Bool, true, false, cond, ◌&&◌, not, List, [], ◌∷◌, ◌++◌, length, refl, sym, ◌∙◌, ap, subst, arith, length-append}
use Rattle.std.specs.List.{All, count_by, list_any}
use Rattle.std.specs.List.Sorted.{IsPermutation}
use Rattle.std.specs.Str.{bytes_eq}
use Rattle.std.proofs.lemmas.Bool.{le-leb, leb-true, eqb-false, false≢true, or_parts}
use Rattle.std.proofs.lemmas.List.Elements.{All-filter, filter_passes, All-head, All-push, All-tail, All-weaker}
use Rattle.std.proofs.lemmas.List.Filters.{sum_by-filter_both}
use Rattle.std.proofs.lemmas.List.Sorted.{Contains-permutation, IsPermutation-refl, IsPermutation-sym, length_permutation}
use Rattle.std.proofs.lemmas.List.Sums.{count_by-le-length, length-filter, sum_by-append, sum_by-cons}
use Rattle.std.proofs.lemmas.Slice.Eq.{bytes_eq-Decides}
use Rattle.nonces.specs.Books.{Book, Entry, HasDistinctNonces, HaveSameEntries, IsBook, IsHeldAt, book_of, is_full, is_live, is_of, is_seen, live_entries}
use Rattle.nonces.specs.declared.limits.TheConstants.{MAX_MOMENT}

-- ---- the same entries

pub same_permuted : (xs ys : List Entry) → IsPermutation xs ys → HaveSameEntries xs ys
same_permuted xs ys moved = record {
  members = λ entry.
      (Contains-permutation xs ys entry moved, Contains-permutation ys xs entry (IsPermutation-sym xs ys moved));
  length = sym (length_permutation xs ys moved);
}

pub same_equal : (xs ys : List Entry) → xs ≡ ys → HaveSameEntries xs ys
same_equal xs ys equal = subst (HaveSameEntries xs) equal (same_permuted xs xs (IsPermutation-refl xs))

-- ---- those that live

pub distinct_live : (now : ℕ) (xs : List Entry) → HasDistinctNonces xs → HasDistinctNonces (live_entries now xs)
distinct_live now xs distinct keyid nonce =
    omega (
      arith,
      sum_by-filter_both (is_live now) (λ e. not (is_live now e)) (λ _. refl) (λ e. cond (is_of keyid nonce e) 1 0) xs,
      distinct keyid nonce,
    )

pub held_live : (entries : List Entry) (capacity window moment now : ℕ) → moment ≤ now → now ≤ MAX_MOMENT
    → IsBook (book_of entries capacity window moment) → IsBook (book_of (live_entries now entries) capacity window now)
held_live entries capacity window moment now later early book =
    let kept = All-filter (is_live now) (IsHeldAt moment window) entries book.each in
    let live = filter_passes (is_live now) entries in
    record {
      distinct = distinct_live now entries book.distinct;
      each = λ k d lt.
          let held = kept k d lt in
          let until = leb-true now _ (live k d lt) in
          record { keyid = held.keyid; nonce = held.nonce; live = until; soon = omega (arith, held.soon, later) };
      within = omega (arith, length-filter (is_live now) entries, count_by-le-length (is_live now) entries, book.within);
      some = book.some;
      few = book.few;
      short = book.short;
      early = early;
    }

-- where each lives, those that live are all
pub all_live : (now : ℕ) (xs : List Entry) → All (λ e. now ≤ e.until) xs → live_entries now xs ≡ xs
all_live now [] each = refl
all_live now (x ∷ xs) each =
    rw (le-leb now x.until (All-head (λ e. now ≤ e.until) x xs each))
    (ap (λ ys. x ∷ ys) (all_live now xs (All-tail (λ e. now ≤ e.until) x xs each)))

pub live_of_book : (book : Book) → IsBook book → live_entries book.moment book.entries ≡ book.entries
live_of_book book held =
    all_live book.moment book.entries
    (All-weaker (IsHeldAt book.moment book.window) (λ e. book.moment ≤ e.until) (λ e is. is.live) book.entries held.each)

-- ---- one more

pub and_true : (a b : Bool) → a && b ≡ true → (a ≡ true) × (b ≡ true)
and_true true b both = (refl, both)
and_true false b both = absurd (false≢true both)

none_counted : (test : Entry → Bool) (xs : List Entry) → list_any test xs ≡ false → count_by test xs ≡ 0
none_counted test [] none = refl
none_counted test (x ∷ xs) none =
    let parts = or_parts (test x) (list_any test xs) none in
    let counted : count_by test (x ∷ xs) ≡ cond (test x) 1 0 + count_by test xs = sum_by-cons (λ y. cond (test y) 1 0) x xs in
    counted ∙ rw parts.0 (omega (arith, none_counted test xs parts.1))

-- what has the keyid and the nonce of an entry is seen exactly where the entry is
pub of_itself : (keyid nonce : List ℕ) (e : Entry) → is_of keyid nonce e ≡ true → (e.keyid ≡ keyid) × (e.nonce ≡ nonce)
of_itself keyid nonce e is =
    let parts = and_true (bytes_eq e.keyid keyid) (bytes_eq e.nonce nonce) is in
    ((bytes_eq-Decides e.keyid keyid).0 parts.0, (bytes_eq-Decides e.nonce nonce).0 parts.1)

distinct_more : (xs : List Entry) (e : Entry) → HasDistinctNonces xs → is_seen e.keyid e.nonce xs ≡ false
    → HasDistinctNonces (xs ++ e ∷ [])
distinct_more xs e distinct new keyid nonce = go (is_of keyid nonce e) refl
  where
    counted : count_by (is_of keyid nonce) (xs ++ e ∷ []) ≡ count_by (is_of keyid nonce) xs + (0 + cond (is_of keyid nonce e) 1 0)
    counted = sum_by-append (λ y. cond (is_of keyid nonce y) 1 0) xs (e ∷ [])

    go : (b : Bool) → is_of keyid nonce e ≡ b → count_by (is_of keyid nonce) (xs ++ e ∷ []) ≤ 1
    go false is = rw (counted, is) (omega (arith, distinct keyid nonce))
    go true is =
        let same = of_itself keyid nonce e is in
        let none : is_seen keyid nonce xs ≡ false = rw (same.0, same.1) at new in
        rw (counted, is) (omega (arith, none_counted (is_of keyid nonce) xs none))

pub room_left : (entries : List Entry) (capacity window moment : ℕ) → IsBook (book_of entries capacity window moment)
    → is_full (book_of entries capacity window moment) ≡ false → length entries < capacity
room_left entries capacity window moment book room = omega (arith, book.within, eqb-false (length entries) capacity room)

pub held_more : (entries : List Entry) (capacity window moment : ℕ) (e : Entry) → IsHeldAt moment window e
    → is_seen e.keyid e.nonce entries ≡ false → is_full (book_of entries capacity window moment) ≡ false
    → IsBook (book_of entries capacity window moment) → IsBook (book_of (entries ++ e ∷ []) capacity window moment)
held_more entries capacity window moment e held new room book = record {
  distinct = distinct_more entries e book.distinct new;
  each = All-push (IsHeldAt moment window) entries e book.each held;
  within = omega (arith, room_left entries capacity window moment book room, length-append entries (e ∷ []));
  some = book.some;
  few = book.few;
  short = book.short;
  early = book.early;
}
