-- Field lines in order of their names: where those of a name are.
use Rattle.std.proofs.Common.{◌≡◌, ℕ, ◌+◌, ◌≤◌, ◌<◌, List, [], ◌∷◌, length, take, drop, map, Bool, true, false, sym, ◌∙◌, ap, arith, refl, subst, Ordering, Less, Equal, Greater}
use Rattle.std.specs.List.{All, AllWithin, filter, slice_index_or, range_with_len}
use Rattle.std.specs.List.Sorted.{IsSortedBy, IsPermutation}
use Rattle.std.specs.Cmp.{IsTotalOrder, IsStrictWeakOrder}
use Rattle.std.specs.Ordering.{is_lt, is_gt, ordering_then, ordering_reverse, nat_cmp}
use Rattle.std.specs.Str.{str_to_ascii_lowercase}
use Rattle.std.proofs.lemmas.Bool.{false≢true}
use Rattle.std.proofs.lemmas.Cmp.{nat_list_cmp_total, nat_cmp_total, on_total, then_total}
use Rattle.std.proofs.lemmas.Grind.{common_steps}
use Rattle.std.proofs.lemmas.List.{get_or-drop, get_or-take}
use Rattle.std.proofs.lemmas.List.Elements.{All-head, All-tail, All-map}
use Rattle.std.proofs.lemmas.List.Sorted.{ranks_by, sorted_far, All-permutation}
use Rattle.std.proofs.lemmas.Map.Lookups.{exact_bytes}
use Rattle.std.proofs.lemmas.Slice.Eq.{bytes_eq-Decides}
use Rattle.std.proofs.lemmas.Str.Ascii.{lowercase-lowercase}
use Rattle.line_index.specs.declared.span.LineSpan.{LineSpan}
use Rattle.line_index.specs.declared.index.IndexEntry.{IndexEntry}
use Rattle.line_index.specs.tools.Index.{lowered_name, text_cmp, entry_of, comes_before, is_named, name_by, IsEntry}

-- ---- two names

lower_again : (text : List ℕ) → str_to_ascii_lowercase (str_to_ascii_lowercase text) ≡ str_to_ascii_lowercase text
lower_again [] = refl
lower_again (c ∷ text) = λ i. lowercase-lowercase c i ∷ lower_again text i

less_from : (o : Ordering) → is_lt o ≡ true → o ≡ Less
less_from Less h = refl
less_from Equal h = absurd (false≢true h)
less_from Greater h = absurd (false≢true h)

-- neither less nor greater
equal_from : (o : Ordering) → is_lt o ≡ false → is_gt o ≡ false → o ≡ Equal
equal_from Less h k = absurd (false≢true (sym h))
equal_from Equal h k = refl
equal_from Greater h k = absurd (false≢true (sym k))

-- a first part that is greater makes the whole less the other way round
not_above : (o r p : Ordering) → r ≡ ordering_reverse o → is_lt (ordering_then r p) ≡ false → is_gt o ≡ false
not_above Less r p e h = refl
not_above Equal r p e h = refl
not_above Greater r p e h = absurd (false≢true (sym (rw e at h)))

-- what isn't above something that comes before another comes before it
below_cases : {X : Type 0} (cmp : X → X → Ordering) → IsTotalOrder cmp → (x y z : X) (o : Ordering) → cmp x z ≡ o → is_gt (cmp x y) ≡ false → cmp y z ≡ Less → is_lt o ≡ true
below_cases cmp total x y z Less e h k = refl
below_cases cmp total x y z Equal e h k =
    let same : cmp x y ≡ cmp z y = total.congr x z y e in
    let back : cmp z y ≡ ordering_reverse (cmp y z) = total.antisymm z y in
    absurd (false≢true (sym h ∙ ap is_gt (same ∙ back ∙ ap ordering_reverse k)))
below_cases cmp total x y z Greater e h k =
    let up : cmp z x ≡ Less = total.antisymm z x ∙ ap ordering_reverse e in
    let over : cmp y x ≡ Less = total.trans y z x k up in
    let back : cmp x y ≡ ordering_reverse (cmp y x) = total.antisymm x y in
    absurd (false≢true (sym h ∙ ap is_gt (back ∙ ap ordering_reverse over)))

pub below_from : {X : Type 0} (cmp : X → X → Ordering) → IsTotalOrder cmp → (x y z : X) → is_gt (cmp x y) ≡ false → is_lt (cmp y z) ≡ true → is_lt (cmp x z) ≡ true
below_from cmp total x y z h k = below_cases cmp total x y z (cmp x z) refl h (less_from (cmp y z) k)

-- names that are neither less nor greater are the same
pub same_names : (one other : List ℕ) → is_lt (text_cmp one other) ≡ false → is_gt (text_cmp one other) ≡ false → one ≡ other
same_names one other low high = exact_bytes one other (equal_from (text_cmp one other) low high)

-- what a line that has the name is called
pub named_text : (bytes : List ℕ) (spans : List LineSpan) (name : List ℕ) (entry : IndexEntry) → is_named bytes spans name entry ≡ true → lowered_name bytes spans entry.line ≡ str_to_ascii_lowercase name
named_text bytes spans name entry is =
    let text = name_by bytes spans entry.line in
    let same : str_to_ascii_lowercase text ≡ name = (bytes_eq-Decides (str_to_ascii_lowercase text) name).0 is in
    sym (ap str_to_ascii_lowercase (sym same) ∙ lower_again text)

-- ---- lists that a test parts

pub all_first : {X : Type 0} (P : X → Type 0) (xs : List X) (n : ℕ) → n ≤ length xs → AllWithin P xs 0 n → All P (take n xs)
all_first P xs n within all k d low =
    let less : k < n = grind (arith, common_steps) in
    subst P (sym (get_or-take n xs k d less)) (all k d (omega arith) less)

pub all_rest : {X : Type 0} (P : X → Type 0) (xs : List X) (n : ℕ) → n ≤ length xs → AllWithin P xs n (length xs) → All P (drop n xs)
all_rest P xs n within all k d low =
    let less : n + k < length xs = grind (arith, common_steps) in
    subst P (sym (get_or-drop n xs k d)) (all (n + k) d (omega arith) less)

pub filter_none : {X : Type 0} (p : X → Bool) (xs : List X) → All (λ x. p x ≡ false) xs → filter p xs ≡ []
filter_none p [] none = refl
filter_none p (x ∷ xs) none = rw (All-head (λ x. p x ≡ false) x xs none) (filter_none p xs (All-tail (λ x. p x ≡ false) x xs none))

pub filter_all : {X : Type 0} (p : X → Bool) (xs : List X) → All (λ x. p x ≡ true) xs → filter p xs ≡ xs
filter_all p [] all = refl
filter_all p (x ∷ xs) all = rw (All-head (λ x. p x ≡ true) x xs all) (ap (λ ys. x ∷ ys) (filter_all p xs (All-tail (λ x. p x ≡ true) x xs all)))

-- ---- where a name's lines are in the index

-- the order of entries is one
index_order : (bytes : List ℕ) (spans : List LineSpan) → IsStrictWeakOrder (comes_before bytes spans)
index_order bytes spans =
    ranks_by (then_total (on_total (λ (entry : IndexEntry). lowered_name bytes spans entry.line) nat_list_cmp_total) (on_total (λ (entry : IndexEntry). entry.line) nat_cmp_total)) (λ (entry : IndexEntry). entry)

pub up_far : (bytes : List ℕ) (spans : List LineSpan) (index : List IndexEntry) → IsSortedBy (comes_before bytes spans) index → (i j : ℕ) (d : IndexEntry) → i ≤ j → j < length index → comes_before bytes spans (slice_index_or index j d) (slice_index_or index i d) ≡ false
up_far bytes spans index up i j d low high = sorted_far (comes_before bytes spans) (index_order bytes spans) index up i j d low high

-- of two entries in order the name of the first isn't above the other's
pub names_up : (bytes : List ℕ) (spans : List LineSpan) (one other : IndexEntry) → comes_before bytes spans other one ≡ false → is_gt (text_cmp (lowered_name bytes spans one.line) (lowered_name bytes spans other.line)) ≡ false
names_up bytes spans one other up =
    let x = lowered_name bytes spans one.line in
    let y = lowered_name bytes spans other.line in
    not_above (text_cmp x y) (text_cmp y x) (nat_cmp other.line one.line) (nat_list_cmp_total.antisymm y x) up

assoc : (n k : ℕ) → n + (k + 1) ≡ n + k + 1
assoc n k = omega arith

pub sorted_rest : {X : Type 0} (lt : X → X → Bool) (index : List X) (n : ℕ) → IsSortedBy lt index → IsSortedBy lt (drop n index)
sorted_rest lt index n up k d low high =
    let within : n + k + 1 < length index = grind (arith, common_steps) in
    let next : slice_index_or (drop n index) (k + 1) d ≡ slice_index_or index (n + k + 1) d =
    get_or-drop n index (k + 1) d ∙ ap (λ m. slice_index_or index m d) (assoc n k) in
    let here : slice_index_or (drop n index) k d ≡ slice_index_or index (n + k) d = get_or-drop n index k d in
    rw (next, here) (up (n + k) d (omega arith) within)

-- each entry is that of its line
pub all_right : (bytes : List ℕ) (spans : List LineSpan) (index : List IndexEntry) → IsPermutation (map (entry_of bytes spans) (range_with_len 0 (length spans))) index → All (IsEntry bytes spans) index
all_right bytes spans index each =
    let lines = range_with_len 0 (length spans) in
    All-permutation (IsEntry bytes spans) (map (entry_of bytes spans) lines) index each (All-map (IsEntry bytes spans) (entry_of bytes spans) lines (λ k d less. record { first = refl; size = refl }))
