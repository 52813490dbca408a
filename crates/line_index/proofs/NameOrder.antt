-- The order of names by their first bytes as a number, what comes after these, and the length is that of the names.
use Rattle.std.proofs.Common.{◌≡◌, ◌≢◌, ℕ, zero, suc, ◌+◌, ◌*◌, ◌^◌, ◌<◌, ◌≤◌, List, [], ◌∷◌, length, drop, Bool, true, false, ◌==◌, ◌&&◌, sym, ◌∙◌, ap, arith, refl, inl, inr, Ordering, Less, Equal, Greater, if◌then◌else◌}
use Rattle.std.specs.Prelude.{slice_index, nat_lt}
use Rattle.std.specs.List.{All, slice_index_or}
use Rattle.std.specs.List.Sorted.{IsSortedBy, IsPartitionedBy, IsPartitionPoint}
use Rattle.std.specs.Ordering.{is_lt, is_gt, ordering_then, nat_cmp}
use Rattle.std.specs.Cmp.{IsTotalOrder, IsStrictWeakOrder, nat_cmp_is}
use Rattle.std.specs.Char.{to_ascii_lowercase}
use Rattle.std.specs.Str.{bytes_eq}
use Rattle.std.proofs.lemmas.Bool.{cases_Bool, cases_order, false≢true, eq-eqb, eqb-true, lt-ltb, ltb-true, ltb-false}
use Rattle.std.proofs.lemmas.Cmp.{nat_list_cmp_total, nat_cmp_total, on_total, then_total, tied_itself}
use Rattle.std.proofs.lemmas.List.{drop_all, length-map}
use Rattle.std.proofs.lemmas.List.Sorted.{ranks_by}
use Rattle.std.proofs.lemmas.Map.Lookups.{exact_bytes}
use Rattle.std.proofs.lemmas.Slice.Eq.{bytes_eq-Decides}
use Rattle.line_index.specs.declared.span.LineSpan.{LineSpan}
use Rattle.line_index.specs.declared.index.IndexEntry.{IndexEntry}
use Rattle.line_index.specs.tools.Index.{no_span, first_bytes, after_first, lowered_name, text_cmp, comes_before, name_cmp, key_cmp, entry_key, rest_of_name, entry_cmp, name_by, is_key_below, is_named, is_rest_named, IsEntry, IsIndexOf}
use Rattle.line_index.proofs.ByName.{all_right, below_from, names_up, up_far}
use Rattle.line_index.proofs.FirstBytes.{AreBytes, lowered_part}

-- ---- two numbers by a first digit and what is below it

-- a first digit that is less makes the number less
step : (p x y : ℕ) → x < y → x * p + p ≤ y * p
step p x zero less = absurd (omega (arith, less))
step p zero (suc y) less = omega arith
step p (suc x) (suc y) less =
    let rest : x * p + p ≤ y * p = step p x y (omega (arith, less)) in
    omega (arith, rest)

lower : (x y : ℕ) → x < y → nat_cmp x y ≡ Less
lower x y less = sym (nat_cmp_is x y Less less)

same : (x y : ℕ) → x ≡ y → nat_cmp x y ≡ Equal
same x y e = sym (nat_cmp_is x y Equal e)

higher : (x y : ℕ) → y < x → nat_cmp x y ≡ Greater
higher x y more = sym (nat_cmp_is x y Greater more)

by_rest : (k a b m n : ℕ) → a ≡ k + m → b ≡ k + n → nat_cmp a b ≡ nat_cmp m n
by_rest k a b m n one other = elim (cases_order m n) [
  | inl e ↦ same a b (omega (arith, one, other, e)) ∙ sym (same m n e)
  | inr (inl less) ↦ lower a b (omega (arith, one, other, less)) ∙ sym (lower m n less)
  | inr (inr more) ↦ higher a b (omega (arith, one, other, more)) ∙ sym (higher m n more)
]

one_longer : (m n : ℕ) → nat_cmp (suc m) (suc n) ≡ nat_cmp m n
one_longer m n = by_rest 1 (suc m) (suc n) m n (omega arith) (omega arith)

by_digit : (p x y m n : ℕ) → m < p → n < p → nat_cmp (x * p + m) (y * p + n) ≡ ordering_then (nat_cmp x y) (nat_cmp m n)
by_digit p x y m n low small =
    let first : Ordering → Ordering = λ o. ordering_then o (nat_cmp m n) in
    elim (cases_order x y) [
      | inl e ↦ ap (λ z. nat_cmp (z * p + m) (y * p + n)) e ∙ by_rest (y * p) (y * p + m) (y * p + n) m n refl refl ∙ sym (ap first (same x y e))
      | inr (inl less) ↦ lower (x * p + m) (y * p + n) (omega (arith, step p x y less, low)) ∙ sym (ap first (lower x y less))
      | inr (inr more) ↦ higher (x * p + m) (y * p + n) (omega (arith, step p y x more, small)) ∙ sym (ap first (higher x y more))
    ]

-- ---- the number of the first bytes

-- the number that the first k bytes are, 0 for each that is missing
abbrev number : ℕ → List ℕ → ℕ
number zero text = 0
number (suc k) [] = 0
number (suc k) (c ∷ text) = c * 256 ^ k + number k text

number_below : (k : ℕ) (text : List ℕ) → AreBytes text → number k text < 256 ^ k
number_below zero text are = omega arith
number_below (suc k) [] are =
    let rest : number k [] < 256 ^ k = number_below k [] are in
    omega (arith, rest)
number_below (suc k) (c ∷ text) are =
    let rest : number k text < 256 ^ k = number_below k text (λ j. are (suc j)) in
    omega (arith, rest, step (256 ^ k) c 256 (are 0))

-- the same from an index on
abbrev number_from : ℕ → ℕ → List ℕ → ℕ
number_from zero from text = 0
number_from (suc k) from text = slice_index text from * 256 ^ k + number_from k (suc from) text

from_later : (k from c : ℕ) (text : List ℕ) → number_from k (suc from) (c ∷ text) ≡ number_from k from text
from_later zero from c text = refl
from_later (suc k) from c text = ap (λ n. slice_index text from * 256 ^ k + n) (from_later k (suc from) c text)

from_none : (k from : ℕ) → number_from k from [] ≡ 0
from_none zero from = refl
from_none (suc k) from = omega (arith, from_none k (suc from))

from_first : (k : ℕ) (text : List ℕ) → number_from k 0 text ≡ number k text
from_first zero text = refl
from_first (suc k) [] = from_none (suc k) 0
from_first (suc k) (c ∷ text) = ap (λ n. c * 256 ^ k + n) (from_later k 0 c text ∙ from_first k text)

first_is : (text : List ℕ) → first_bytes text ≡ number 16 text
first_is text =
    let sum : first_bytes text ≡ number_from 16 0 text = omega arith in
    sum ∙ from_first 16 text

-- ---- the order

then_assoc : (o p q : Ordering) → ordering_then (ordering_then o p) q ≡ ordering_then o (ordering_then p q)
then_assoc Less p q = refl
then_assoc Equal p q = refl
then_assoc Greater p q = refl

-- texts by the first k bytes as a number, what comes after these, and the length
abbrev part_cmp : ℕ → List ℕ → List ℕ → Ordering
part_cmp k one other = ordering_then (nat_cmp (number k one) (number k other)) (ordering_then (text_cmp (drop k one) (drop k other)) (nat_cmp (length one) (length other)))

whole_is : (one other : List ℕ) → ordering_then (text_cmp one other) (nat_cmp (length one) (length other)) ≡ text_cmp one other
whole_is [] [] = refl
whole_is [] (y ∷ other) = refl
whole_is (x ∷ one) [] = refl
whole_is (x ∷ one) (y ∷ other) =
    let rest = text_cmp one other in
    ap (ordering_then (ordering_then (nat_cmp x y) rest)) (one_longer (length one) (length other))
    ∙ then_assoc (nat_cmp x y) rest (nat_cmp (length one) (length other))
    ∙ ap (ordering_then (nat_cmp x y)) (whole_is one other)

none_less : (n m : ℕ) (rest : List ℕ) → ordering_then (nat_cmp 0 n) (ordering_then (text_cmp [] rest) (nat_cmp 0 (suc m))) ≡ Less
none_less zero m [] = lower 0 (suc m) (omega arith)
none_less zero m (c ∷ rest) = refl
none_less (suc n) m rest = ap (λ o. ordering_then o (ordering_then (text_cmp [] rest) (nat_cmp 0 (suc m)))) (lower 0 (suc n) (omega arith))

none_more : (n m : ℕ) (rest : List ℕ) → ordering_then (nat_cmp n 0) (ordering_then (text_cmp rest []) (nat_cmp (suc m) 0)) ≡ Greater
none_more zero m [] = higher (suc m) 0 (omega arith)
none_more zero m (c ∷ rest) = refl
none_more (suc n) m rest = ap (λ o. ordering_then o (ordering_then (text_cmp rest []) (nat_cmp (suc m) 0))) (higher (suc n) 0 (omega arith))

part_is : (k : ℕ) (one other : List ℕ) → AreBytes one → AreBytes other → part_cmp k one other ≡ text_cmp one other
part_is zero one other are too = whole_is one other
part_is (suc k) [] [] are too = refl
part_is (suc k) [] (y ∷ other) are too = none_less (number (suc k) (y ∷ other)) (length other) (drop k other)
part_is (suc k) (x ∷ one) [] are too = none_more (number (suc k) (x ∷ one)) (length one) (drop k one)
part_is (suc k) (x ∷ one) (y ∷ other) are too =
    let a = number k one in
    let b = number k other in
    let after = text_cmp (drop k one) (drop k other) in
    let rest = ordering_then after (nat_cmp (length one) (length other)) in
    let ones : AreBytes one = λ j. are (suc j) in
    let others : AreBytes other = λ j. too (suc j) in
    ap (λ o. ordering_then (nat_cmp (number (suc k) (x ∷ one)) (number (suc k) (y ∷ other))) (ordering_then after o)) (one_longer (length one) (length other))
    ∙ ap (λ o. ordering_then o rest) (by_digit (256 ^ k) x y a b (number_below k one ones) (number_below k other others))
    ∙ then_assoc (nat_cmp x y) (nat_cmp a b) rest
    ∙ ap (ordering_then (nat_cmp x y)) (part_is k one other ones others)

-- keys of names are in the order of the names
pub keys_are : (one other : List ℕ) → AreBytes one → AreBytes other → key_cmp (first_bytes one, one) (first_bytes other, other) ≡ text_cmp one other
keys_are one other are too =
    let rest = ordering_then (text_cmp (drop 16 one) (drop 16 other)) (nat_cmp (length one) (length other)) in
    ap (λ n. ordering_then (nat_cmp n (first_bytes other)) rest) (first_is one)
    ∙ ap (λ n. ordering_then (nat_cmp (number 16 one) n) rest) (first_is other)
    ∙ part_is 16 one other are too

-- ---- entries

-- the name of a line of bytes is bytes
lowered_line : (bytes : List ℕ) (spans : List LineSpan) (line : ℕ) → AreBytes bytes → AreBytes (lowered_name bytes spans line)
lowered_line bytes spans line are =
    let span = slice_index_or spans line no_span in
    lowered_part bytes span.name span.colon are

-- the keys are in a total order
pub key_total : IsTotalOrder key_cmp
key_total =
    let others : IsTotalOrder (λ (x y : ℕ × List ℕ). name_cmp x.1 y.1) = then_total (on_total (λ (key : ℕ × List ℕ). after_first key.1) nat_list_cmp_total) (on_total (λ (key : ℕ × List ℕ). length key.1) nat_cmp_total) in
    then_total (on_total (λ (key : ℕ × List ℕ). key.0) nat_cmp_total) others

-- and so are the entries, whatever they have
pub entry_order : (bytes : List ℕ) (spans : List LineSpan) → IsStrictWeakOrder (λ (one other : IndexEntry). is_lt (entry_cmp bytes spans one other))
entry_order bytes spans =
    let rests : IsTotalOrder (λ (one other : IndexEntry). text_cmp (rest_of_name bytes spans one) (rest_of_name bytes spans other)) = on_total (rest_of_name bytes spans) nat_list_cmp_total in
    let sizes = then_total rests (on_total (λ (entry : IndexEntry). entry.name_len) nat_cmp_total) in
    let ties = then_total sizes (on_total (λ (entry : IndexEntry). entry.line) nat_cmp_total) in
    ranks_by (then_total (on_total (λ (entry : IndexEntry). entry.first_bytes) nat_cmp_total) ties) (λ (entry : IndexEntry). entry)

-- a name of no more than sixteen bytes has nothing after them
rest_is_after : (size : ℕ) (text : List ℕ) → size ≡ length text → (if nat_lt 16 size then after_first text else []) ≡ after_first text
rest_is_after size text e = elim (cases_Bool (nat_lt 16 size)) [
  | inl more ↦ rw more refl
  | inr none ↦
      let few : length text ≤ 16 = omega (arith, e, ltb-false 16 size none) in
      rw none (sym (drop_all 16 text few))
]

rest_of_right : (bytes : List ℕ) (spans : List LineSpan) (entry : IndexEntry) → IsEntry bytes spans entry → rest_of_name bytes spans entry ≡ after_first (lowered_name bytes spans entry.line)
rest_of_right bytes spans entry right =
    rest_is_after entry.name_len (lowered_name bytes spans entry.line) (right.size ∙ sym (length-map (name_by bytes spans entry.line) to_ascii_lowercase))

before_is : (bytes : List ℕ) (spans : List LineSpan) (one other : IndexEntry) → AreBytes bytes → IsEntry bytes spans one → IsEntry bytes spans other → is_lt (entry_cmp bytes spans one other) ≡ comes_before bytes spans one other
before_is bytes spans one other are right too =
    let x = lowered_name bytes spans one.line in
    let y = lowered_name bytes spans other.line in
    let size : one.name_len ≡ length x = right.size ∙ sym (length-map (name_by bytes spans one.line) to_ascii_lowercase) in
    let sizes : other.name_len ≡ length y = too.size ∙ sym (length-map (name_by bytes spans other.line) to_ascii_lowercase) in
    let lines = nat_cmp one.line other.line in
    let rest = rest_of_right bytes spans one right in
    let rests = rest_of_right bytes spans other too in
    let same : entry_cmp bytes spans one other ≡ ordering_then (nat_cmp (first_bytes x) (first_bytes y)) (ordering_then (name_cmp x y) lines) =
    λ i. ordering_then (nat_cmp (right.first i) (too.first i)) (ordering_then (ordering_then (text_cmp (rest i) (rests i)) (nat_cmp (size i) (sizes i))) lines) in
    ap is_lt same
    ∙ ap is_lt (sym (then_assoc (nat_cmp (first_bytes x) (first_bytes y)) (name_cmp x y) lines))
    ∙ ap (λ o. is_lt (ordering_then o lines)) (keys_are x y (lowered_line bytes spans one.line are) (lowered_line bytes spans other.line are))

-- entries of lines that the code has put in order are in that of the names
pub sorted_is : (bytes : List ℕ) (spans : List LineSpan) (index : List IndexEntry) → AreBytes bytes → All (IsEntry bytes spans) index → IsSortedBy (λ (one other : IndexEntry). is_lt (entry_cmp bytes spans one other)) index → IsSortedBy (comes_before bytes spans) index
sorted_is bytes spans index are right up k d low high =
    let next = slice_index_or index (k + 1) d in
    let here = slice_index_or index k d in
    sym (before_is bytes spans next here are (right (k + 1) d high) (right k d (omega (arith, high)))) ∙ up k d low high

-- the keys of entries are in the order of their names
pub entry_keys : (bytes : List ℕ) (spans : List LineSpan) (one other : IndexEntry) → AreBytes bytes → IsEntry bytes spans one → IsEntry bytes spans other → key_cmp (entry_key bytes spans one) (entry_key bytes spans other) ≡ text_cmp (lowered_name bytes spans one.line) (lowered_name bytes spans other.line)
entry_keys bytes spans one other are right too =
    let x = lowered_name bytes spans one.line in
    let y = lowered_name bytes spans other.line in
    ap (λ n. key_cmp (n, x) (other.first_bytes, y)) right.first
    ∙ ap (λ n. key_cmp (first_bytes x, x) (n, y)) too.first
    ∙ keys_are x y (lowered_line bytes spans one.line are) (lowered_line bytes spans other.line are)

-- so a key parts the index
pub key_parted : (bytes : List ℕ) (spans : List LineSpan) (key : ℕ × List ℕ) (index : List IndexEntry) → AreBytes bytes → IsIndexOf bytes spans index → IsPartitionedBy (is_key_below bytes spans key) index
key_parted bytes spans key index are is i j d low high passes =
    let a = slice_index_or index i d in
    let b = slice_index_or index j d in
    let right = all_right bytes spans index is.each in
    let up = names_up bytes spans a b (up_far bytes spans index is.sorted i j d low high) in
    let same = entry_keys bytes spans a b are (right i d (omega (arith, low, high))) (right j d high) in
    below_from key_cmp key_total (entry_key bytes spans a) (entry_key bytes spans b) key (ap is_gt same ∙ up) passes

-- a name that isn't above another has no greater first bytes
first_up : (one other : List ℕ) → AreBytes one → AreBytes other → is_gt (text_cmp one other) ≡ false → first_bytes one ≤ first_bytes other
first_up one other are too up = elim (cases_order (first_bytes one) (first_bytes other)) [
  | inl e ↦ omega (arith, e)
  | inr (inl less) ↦ omega (arith, less)
  | inr (inr more) ↦
      let key : key_cmp (first_bytes one, one) (first_bytes other, other) ≡ Greater = rw (higher (first_bytes one) (first_bytes other) more) refl in
      absurd (false≢true (sym up ∙ ap is_gt (sym (keys_are one other are too) ∙ key)))
]

-- so the first bytes don't fall in the index
first_parted : (bytes : List ℕ) (spans : List LineSpan) (first : ℕ) (index : List IndexEntry) → AreBytes bytes → IsIndexOf bytes spans index → IsPartitionedBy (λ (entry : IndexEntry). nat_lt entry.first_bytes first) index
first_parted bytes spans first index are is i j d low high passes =
    let a = slice_index_or index i d in
    let b = slice_index_or index j d in
    let right = all_right bytes spans index is.each in
    let up = first_up (lowered_name bytes spans a.line) (lowered_name bytes spans b.line) (lowered_line bytes spans a.line are) (lowered_line bytes spans b.line are) (names_up bytes spans a b (up_far bytes spans index is.sorted i j d low high)) in
    let less : b.first_bytes < first = ltb-true b.first_bytes first passes in
    lt-ltb a.first_bytes first (omega (arith, up, less, (right i d (omega (arith, low, high))).first, (right j d high).first))

key_below : (bytes : List ℕ) (spans : List LineSpan) (first : ℕ) (text : List ℕ) (entry : IndexEntry) → entry.first_bytes < first → is_key_below bytes spans (first, text) entry ≡ true
key_below bytes spans first text entry less = rw (lower entry.first_bytes first less) refl

-- where they part the index, the key does, if the entry there doesn't come before it
pub first_split : (bytes : List ℕ) (spans : List LineSpan) (first : ℕ) (text : List ℕ) (index : List IndexEntry) (n : ℕ) → AreBytes bytes → IsIndexOf bytes spans index → n ≤ length index → (IsPartitionedBy (λ (entry : IndexEntry). nat_lt entry.first_bytes first) index → IsPartitionPoint (λ (entry : IndexEntry). nat_lt entry.first_bytes first ≡ true) (λ (entry : IndexEntry). nat_lt entry.first_bytes first ≡ false) index n) → ((d : IndexEntry) → n < length index → is_key_below bytes spans (first, text) (slice_index_or index n d) ≡ false) → IsPartitionPoint (λ entry. is_key_below bytes spans (first, text) entry ≡ true) (λ entry. is_key_below bytes spans (first, text) entry ≡ false) index n
first_split bytes spans first text index n are is within split stops =
    let below = is_key_below bytes spans (first, text) in
    let parted = split (first_parted bytes spans first index are is) in (
      λ k d low high. key_below bytes spans first text (slice_index_or index k d) (ltb-true _ first (parted.0 k d low high)),
      λ k d low high. elim (cases_Bool (below (slice_index_or index k d))) [
        | inl passes ↦
            let under = key_parted bytes spans (first, text) index are is n k d low high passes in
            absurd (false≢true (sym (stops d (omega (arith, low, high))) ∙ under))
        | inr not ↦ not
      ],
    )

-- ---- names of equal first bytes

-- names of which the first bytes, what comes after them and the lengths are the same are the same
tied : (one other : List ℕ) → AreBytes one → AreBytes other → first_bytes one ≡ first_bytes other → after_first one ≡ after_first other → length one ≡ length other → one ≡ other
tied one other are too first after count =
    let numbers : nat_cmp (first_bytes one) (first_bytes other) ≡ Equal = same (first_bytes one) (first_bytes other) first in
    let rest : text_cmp (after_first one) (after_first other) ≡ Equal = ap (text_cmp (after_first one)) (sym after) ∙ tied_itself nat_list_cmp_total (after_first one) in
    let lengths : nat_cmp (length one) (length other) ≡ Equal = same (length one) (length other) count in
    let key : key_cmp (first_bytes one, one) (first_bytes other, other) ≡ Equal = rw (numbers, rest, lengths) refl in
    exact_bytes one other (sym (keys_are one other are too) ∙ key)

both_of : (a b : Bool) → (a && b) ≡ true → (a ≡ true) × (b ≡ true)
both_of true b h = (refl, h)
both_of false b h = absurd (false≢true h)

same_rest : (one other : List ℕ) → AreBytes one → AreBytes other → first_bytes one ≡ first_bytes other → is_rest_named one other ≡ bytes_eq one other
same_rest one other are too first = elim (cases_Bool (bytes_eq one other)) [
  | inl is ↦
      let e : one ≡ other = (bytes_eq-Decides one other).0 is in
      let lengths : (length one == length other) ≡ true = eq-eqb (length one) (length other) (ap length e) in
      let rest : bytes_eq (after_first one) (after_first other) ≡ true = (bytes_eq-Decides (after_first one) (after_first other)).1 (ap after_first e) in
      rw (lengths, rest, is) refl
  | inr not ↦ elim (cases_Bool (is_rest_named one other)) [
    | inl both ↦
        let parts = both_of (length one == length other) (bytes_eq (after_first one) (after_first other)) both in
        let e = tied one other are too first ((bytes_eq-Decides (after_first one) (after_first other)).0 parts.1) (eqb-true (length one) (length other) parts.0) in
        absurd (false≢true (sym not ∙ (bytes_eq-Decides one other).1 e))
    | inr other ↦ other ∙ sym not
  ]
]

-- so the code has the name of an entry for the name where it is
pub named_is : (bytes : List ℕ) (spans : List LineSpan) (name : List ℕ) (entry : IndexEntry) → AreBytes bytes → AreBytes name → IsEntry bytes spans entry → entry.first_bytes ≡ first_bytes name → is_rest_named (lowered_name bytes spans entry.line) name ≡ is_named bytes spans name entry
named_is bytes spans name entry are too right first =
    same_rest (lowered_name bytes spans entry.line) name (lowered_line bytes spans entry.line are) too (sym right.first ∙ first)

-- and an entry with the name has its first bytes
pub not_named : (bytes : List ℕ) (spans : List LineSpan) (name : List ℕ) (entry : IndexEntry) → IsEntry bytes spans entry → entry.first_bytes ≢ first_bytes name → is_named bytes spans name entry ≡ false
not_named bytes spans name entry right other = elim (cases_Bool (is_named bytes spans name entry)) [
  | inl is ↦ absurd (other (right.first ∙ ap first_bytes ((bytes_eq-Decides (lowered_name bytes spans entry.line) name).0 is)))
  | inr not ↦ not
]
