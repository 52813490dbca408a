-- Limits and the order of moments, judged item by item and of all items.
use Rattle.std.proofs.Common.{◌≡◌, ◌≤◌, ℕ, zero, suc, List, [], ◌∷◌, ◌++◌, refl, sym, ap, ◌∙◌, arith}
use Rattle.std.proofs.lemmas.List.Elements.{All-nil, All-cons, All-head, All-tail}
use Rattle.std.proofs.lemmas.List.Sorted.{IsNonDecreasingBy-short, IsNonDecreasingBy-drop}
use Rattle.std.specs.List.{All}
use Rattle.std.specs.List.Sorted.{IsNonDecreasing}
use Rattle.recording.specs.Items.{Body, moment, stored, IsShort}
use Rattle.recording.specs.Recordings.{AreItems, AreAllowed, moments}
use Rattle.recording.specs.Causes.{HasLineAt, IsLongLine, IsFallingLine}
use Rattle.recording.specs.Readers.{IsLastMoment}
use Rattle.recording.specs.tools.Running.{IsAllowedAfter, moment_after, AreAllowedAfter, last_moment, IsLongAfter, IsFallingAfter, HasLineAfter}

-- ---- order

one_ordered : (a : ℕ) → IsNonDecreasing (a ∷ [])
one_ordered a = IsNonDecreasingBy-short (λ (x : ℕ). x) (a ∷ []) (omega arith)

tail_ordered : (a : ℕ) (xs : List ℕ) → IsNonDecreasing (a ∷ xs) → IsNonDecreasing xs
tail_ordered a xs h = IsNonDecreasingBy-drop (λ (x : ℕ). x) 1 (a ∷ xs) h

head_ordered : (a b : ℕ) (xs : List ℕ) → IsNonDecreasing (a ∷ b ∷ xs) → a ≤ b
head_ordered a b xs h = h 0 1 0 (omega arith) (omega arith)

more_ordered : (a b : ℕ) (xs : List ℕ) → a ≤ b → IsNonDecreasing (b ∷ xs) → IsNonDecreasing (a ∷ b ∷ xs)
more_ordered a b xs le h zero zero d below within = omega arith
more_ordered a b xs le h zero (suc j) d below within = omega (arith, le, h 0 j d (omega arith) (omega (arith, within)))
more_ordered a b xs le h (suc i) zero d below within = absurd (omega (arith, below))
more_ordered a b xs le h (suc i) (suc j) d below within = h i j d (omega (arith, below)) (omega (arith, within))

from_zero : (xs : List ℕ) → IsNonDecreasing xs → IsNonDecreasing (0 ∷ xs)
from_zero [] h = one_ordered 0
from_zero (x ∷ xs) h = more_ordered 0 x xs (omega arith) h

-- ---- items

ordered_of : (last : ℕ) (items : List Body) → AreAllowedAfter last items → IsNonDecreasing (last ∷ moments items)
ordered_of last [] a = one_ordered last
ordered_of last (moment s ∷ items) a = more_ordered last s (moments items) a.0 (ordered_of s items a.1)
ordered_of last (stored kind text ∷ items) a = ordered_of last items a.1

short_of : (last : ℕ) (items : List Body) → AreAllowedAfter last items → All IsShort items
short_of last [] a = All-nil IsShort
short_of last (moment s ∷ items) a = All-cons IsShort (moment s) items tt (short_of s items a.1)
short_of last (stored kind text ∷ items) a = All-cons IsShort (stored kind text) items a.0 (short_of last items a.1)

pub allowed_of : (items : List Body) → AreAllowedAfter 0 items → AreAllowed items
allowed_of items a = record { short = short_of 0 items a; in_order = tail_ordered 0 (moments items) (ordered_of 0 items a) }

after_of : (last : ℕ) (items : List Body) → All IsShort items → IsNonDecreasing (last ∷ moments items) → AreAllowedAfter last items
after_of last [] all h = tt
after_of last (moment s ∷ items) all h = (head_ordered last s (moments items) h, after_of s items (All-tail IsShort (moment s) items all) (tail_ordered last (s ∷ moments items) h))
after_of last (stored kind text ∷ items) all h = (All-head IsShort (stored kind text) items all, after_of last items (All-tail IsShort (stored kind text) items all) h)

pub allowed_after : (items : List Body) → AreAllowed items → AreAllowedAfter 0 items
allowed_after items a = after_of 0 items a.short (from_zero (moments items) a.in_order)

-- ---- the last moment

ends : (last : ℕ) (items : List Body) → (others : List ℕ) × (last ∷ moments items ≡ others ++ last_moment last items ∷ [])
ends last [] = ([], refl)
ends last (moment s ∷ items) = let e = ends s items in (last ∷ e.0, ap (λ (xs : List ℕ). last ∷ xs) e.1)
ends last (stored kind text ∷ items) = ends last items

-- of items the first of which is a moment
last_of : (items : List Body) → AreItems items → (others : List ℕ) × (moments items ≡ others ++ last_moment 0 items ∷ [])
last_of [] are = absurd are.begin
last_of (stored kind text ∷ items) are = absurd are.begin
last_of (moment s ∷ items) are = ends s items

last_or : List ℕ → ℕ → ℕ
last_or [] d = d
last_or (x ∷ xs) d = last_or xs x

last_or_is : (xs : List ℕ) (a d : ℕ) → last_or (xs ++ a ∷ []) d ≡ a
unfolding last_or
last_or_is [] a d = refl
last_or_is (x ∷ xs) a d = last_or_is xs a x

-- the last one, or 0 where there is none
pub is_last : (items : List Body) → IsLastMoment (moments items) (last_moment 0 items)
is_last items = ends 0 items

pub last_moment_is : (items : List Body) (last : ℕ) → IsLastMoment (moments items) last → last ≡ last_moment 0 items
last_moment_is items last m =
    let e = ends 0 items in
    sym (last_or_is m.0 last 0) ∙ ap (λ (xs : List ℕ). last_or xs 0) (sym m.1 ∙ e.1) ∙ last_or_is e.0 (last_moment 0 items) 0

-- ---- one more item

pub last_snoc : (last : ℕ) (items : List Body) (item : Body) → last_moment last (items ++ item ∷ []) ≡ moment_after (last_moment last items) item
last_snoc last [] item = refl
last_snoc last (b ∷ items) item = last_snoc (moment_after last b) items item

pub allowed_snoc : (last : ℕ) (items : List Body) (item : Body) → AreAllowedAfter last items → IsAllowedAfter (last_moment last items) item → AreAllowedAfter last (items ++ item ∷ [])
allowed_snoc last [] item a own = (own, tt)
allowed_snoc last (b ∷ items) item a own = (a.0, allowed_snoc (moment_after last b) items item a.1 own)

pub allowed_last : (last : ℕ) (items : List Body) (item : Body) → AreAllowedAfter last (items ++ item ∷ []) → IsAllowedAfter (last_moment last items) item
allowed_last last [] item a = a.0
allowed_last last (b ∷ items) item a = allowed_last (moment_after last b) items item a.1

-- ---- lines

pub long_line_at : (text : List ℕ) (offset : ℕ) → HasLineAfter IsLongAfter text offset → HasLineAt IsLongLine text offset
long_line_at text offset l = record {
  before = l.before;
  line = l.line;
  more = l.more;
  joined = l.joined;
  are = l.are;
  allowed = allowed_of l.before l.allowed;
  such = record { kind = l.such.kind; size = l.such.size; is = l.such.is; number = l.such.number; long = l.such.long };
  place = l.place;
}

pub long_line_after : (text : List ℕ) (offset : ℕ) → HasLineAt IsLongLine text offset → HasLineAfter IsLongAfter text offset
long_line_after text offset l = record {
  before = l.before;
  line = l.line;
  more = l.more;
  joined = l.joined;
  are = l.are;
  allowed = allowed_after l.before l.allowed;
  such = record { kind = l.such.kind; size = l.such.size; is = l.such.is; number = l.such.number; long = l.such.long };
  place = l.place;
}

pub falling_line_at : (text : List ℕ) (offset : ℕ) → HasLineAfter IsFallingAfter text offset → HasLineAt IsFallingLine text offset
falling_line_at text offset l =
    let e = last_of l.before l.are in
    record {
      before = l.before;
      line = l.line;
      more = l.more;
      joined = l.joined;
      are = l.are;
      allowed = allowed_of l.before l.allowed;
      such = record { seconds = l.such.seconds; is = l.such.is; number = l.such.number; others = e.0; last = last_moment 0 l.before; last_is = e.1; falls = l.such.falls };
      place = l.place;
    }

pub falling_line_after : (text : List ℕ) (offset : ℕ) → HasLineAt IsFallingLine text offset → HasLineAfter IsFallingAfter text offset
falling_line_after text offset l =
    let e = last_of l.before l.are in
    let same : l.such.last ≡ last_moment 0 l.before = sym (last_or_is l.such.others l.such.last 0) ∙ ap (λ (xs : List ℕ). last_or xs 0) (sym l.such.last_is ∙ e.1) ∙ last_or_is e.0 (last_moment 0 l.before) 0 in
    record {
      before = l.before;
      line = l.line;
      more = l.more;
      joined = l.joined;
      are = l.are;
      allowed = allowed_after l.before l.allowed;
      such = record { seconds = l.such.seconds; is = l.such.is; number = l.such.number; falls = omega (arith, l.such.falls, same) };
      place = l.place;
    }
