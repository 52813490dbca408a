-- The lines of a name, in order, by the index of all lines.
use Rattle.std.proofs.Common.{◌≡◌, ◌≢◌, ℕ, zero, suc, ◌+◌, ◌≤◌, ◌<◌, ◌==◌, zero-add, List, [], ◌∷◌, length, map, Bool, true, false, cond, sym, ◌∙◌, ap, arith, refl, subst, inl, inr}
use Rattle.std.specs.Prelude.{⊤}
use Rattle.std.specs.List.{All, filter, slice_index_or, range_with_len, sum_by}
use Rattle.std.specs.List.Sorted.{IsSortedBy, IsPermutation}
use Rattle.std.specs.Ordering.{is_lt, ordering_then, nat_cmp}
use Rattle.std.specs.declared.cmp.Ordering.{Ordering}
use Rattle.std.proofs.lemmas.Bool.{cases_Bool, cases_order, false≢true, eq-eqb, ne_eqb, and_from, lt-ltb}
use Rattle.std.proofs.lemmas.Cmp.{nat_list_cmp_total, tied_itself}
use Rattle.std.proofs.lemmas.List.Elements.{All-head, All-tail, All-filter, All-map}
use Rattle.std.proofs.lemmas.List.FromFn.{fill_by_all, get_or-range_with_len, length-range_with_len}
use Rattle.std.proofs.lemmas.List.Sorted.{All-permutation, sum_by-IsPermutation, IsPermutation-map}
use Rattle.std.proofs.lemmas.List.Sums.{sum_by-cons}
use Rattle.line_index.specs.declared.span.LineSpan.{LineSpan}
use Rattle.line_index.specs.Spans.{is_span_named}
use Rattle.line_index.specs.declared.index.IndexEntry.{IndexEntry}
use Rattle.line_index.specs.tools.Index.{no_span, lowered_name, text_cmp, entry_of, entry_span, comes_before, is_line_named, is_named, span_by, are_inside, IsIndexOf}
use Rattle.line_index.proofs.ByName.{up_far, named_text}
use Rattle.line_index.proofs.Filtered.{map_filter}

-- ---- lists of numbers that hold each as often as others, and don't fall

-- the list doesn't fall, from the number on
abbrev Rises : ℕ → List ℕ → Type 0
Rises low [] = ⊤
Rises low (x ∷ xs) = (low ≤ x) × Rises x xs

-- how often the number is in the list
abbrev one : ℕ → ℕ → ℕ
one k x = cond (x == k) 1 0

abbrev count : ℕ → List ℕ → ℕ
count k [] = 0
count k (x ∷ xs) = one k x + count k xs

count-sum_by : (k : ℕ) (xs : List ℕ) → sum_by (one k) xs ≡ count k xs
count-sum_by k [] = refl
count-sum_by k (x ∷ xs) = sum_by-cons (one k) x xs ∙ ap (λ n. one k x + n) (count-sum_by k xs)

one_same : (k : ℕ) → one k k ≡ 1
one_same k = rw (eq-eqb k k refl)

one_other : (k x : ℕ) → x ≢ k → one k x ≡ 0
one_other k x ne = rw (ne_eqb x k ne)

count_below : (k low : ℕ) (xs : List ℕ) → k < low → Rises low xs → count k xs ≡ 0
count_below k low [] less up = refl
count_below k low (x ∷ xs) less up =
    let other : x ≢ k = λ e. absurd (omega (arith, e, less, up.0)) in
    let rest = count_below k x xs (omega (arith, less, up.0)) up.1 in
    rw (one_other k x other, rest)

no_less : (x y : ℕ) (xs ys : List ℕ) → x < y → Rises y ys → count x (x ∷ xs) ≡ count x (y ∷ ys) → ⊥
no_less x y xs ys less up same =
    let other : y ≢ x = λ e. absurd (omega (arith, e, less)) in
    let none = count_below x y ys less up in
    omega (arith, rw (one_same x, one_other x y other, none) at same)

same_lists : (low : ℕ) (xs ys : List ℕ) → Rises low xs → Rises low ys → ((k : ℕ) → count k xs ≡ count k ys) → xs ≡ ys
same_lists low [] [] up down e = refl
same_lists low [] (y ∷ ys) up down e = absurd (omega (arith, rw (one_same y) at (e y)))
same_lists low (x ∷ xs) [] up down e = absurd (omega (arith, rw (one_same x) at (e x)))
same_lists low (x ∷ xs) (y ∷ ys) up down e = elim (cases_order x y) [
  | inl same ↦
      let tail = same_lists y xs ys (rw same at up.1) down.1 (λ k. omega (arith, rw same at (e k))) in
      rw (same, tail)
  | inr (inl less) ↦ absurd (no_less x y xs ys less down.1 (e x))
  | inr (inr more) ↦ absurd (no_less y x ys xs more up.1 (sym (e y)))
]

count_step : (k x : ℕ) (a b : Bool) (p : ℕ → Bool) (xs : List ℕ) → p x ≡ a → p k ≡ b → (x ≡ k → a ≡ b) → count k (filter p xs) ≡ cond b (count k xs) 0 → count k (filter p (x ∷ xs)) ≡ cond b (count k (x ∷ xs)) 0
count_step k x true true p xs e f same ih = rw e (rw ih)
count_step k x false false p xs e f same ih = rw e ih
count_step k x true false p xs e f same ih =
    let other : x ≢ k = λ is. false≢true (sym (same is)) in
    rw e (rw (one_other k x other, zero-add) ih)
count_step k x false true p xs e f same ih =
    let other : x ≢ k = λ is. false≢true (same is) in
    rw (e, one_other k x other, zero-add) ih

count_filter : (p : ℕ → Bool) (k : ℕ) (xs : List ℕ) → count k (filter p xs) ≡ cond (p k) (count k xs) 0
count_filter p k [] = elim (cases_Bool (p k)) [ inl e ↦ rw e | inr e ↦ rw e ]
count_filter p k (x ∷ xs) = count_step k x (p x) (p k) p xs refl refl (λ e. ap p e) (count_filter p k xs)

filter_permuted : (p : ℕ → Bool) (xs ys : List ℕ) → IsPermutation xs ys → Rises 0 (filter p xs) → Rises 0 (filter p ys) → filter p xs ≡ filter p ys
filter_permuted p xs ys moved up down =
    same_lists 0 (filter p xs) (filter p ys) up down
    (λ k. count_filter p k xs ∙ ap (λ n. cond (p k) n 0) (sym (count-sum_by k xs) ∙ sym (sum_by-IsPermutation (one k) xs ys moved) ∙ count-sum_by k ys) ∙ sym (count_filter p k ys))

-- ---- what of them has a name rises

range_rises : (p : ℕ → Bool) (low from n : ℕ) → low ≤ from → Rises low (filter p (range_with_len from n))
range_rises p low from zero less = tt
range_rises p low from (suc n) less = elim (cases_Bool (p from)) [
  | inl is ↦ rw is (less, range_rises p from (from + 1) n (omega arith))
  | inr not ↦ rw not (range_rises p low (from + 1) n (omega (arith, less)))
]

-- of two entries in order with one name the first has the lower index
same_name_up : (x y : List ℕ) (a b : ℕ) → x ≡ y → is_lt (ordering_then (text_cmp y x) (nat_cmp b a)) ≡ false → a ≤ b
same_name_up x y a b same up =
    let equal = ap (text_cmp y) same ∙ tied_itself nat_list_cmp_total y in
    let by_index : is_lt (nat_cmp b a) ≡ false = sym (ap (λ (o : Ordering). is_lt (ordering_then o (nat_cmp b a))) equal) ∙ up in
    elim (cases_order b a) [
      | inl e ↦ omega (arith, e)
      | inr (inl less) ↦ absurd (false≢true (sym by_index ∙ below b a less))
      | inr (inr more) ↦ omega (arith, more)
    ]
  where
    below : (b a : ℕ) → b < a → is_lt (nat_cmp b a) ≡ true
    below b a less = rw (lt-ltb b a less)

named_up : (bytes : List ℕ) (spans : List LineSpan) (name : List ℕ) (a b : IndexEntry) → is_named bytes spans name a ≡ true → is_named bytes spans name b ≡ true → comes_before bytes spans b a ≡ false → a.line ≤ b.line
named_up bytes spans name a b one other up =
    let same = named_text bytes spans name a one ∙ sym (named_text bytes spans name b other) in
    same_name_up (lowered_name bytes spans a.line) (lowered_name bytes spans b.line) a.line b.line same up

sorted_tail : {X : Type 0} (lt : X → X → Bool) (x : X) (xs : List X) → IsSortedBy lt (x ∷ xs) → IsSortedBy lt xs
sorted_tail lt x xs up k d low high =
    let next : slice_index_or (x ∷ xs) (suc k + 1) d ≡ slice_index_or xs (k + 1) d = ap (λ m. slice_index_or (x ∷ xs) m d) (one_later k) in
    subst (λ y. lt y (slice_index_or xs k d) ≡ false) next (up (suc k) d (omega arith) (omega (arith, high)))
  where
    one_later : (k : ℕ) → suc k + 1 ≡ suc (k + 1)
    one_later k = omega arith

after_first : (bytes : List ℕ) (spans : List LineSpan) (x : IndexEntry) (xs : List IndexEntry) → IsSortedBy (comes_before bytes spans) (x ∷ xs) → All (λ y. comes_before bytes spans y x ≡ false) xs
after_first bytes spans x xs up k d less = up_far bytes spans (x ∷ xs) up 0 (suc k) d (omega arith) (omega (arith, less))

-- the lines of entries
abbrev lines_of : List IndexEntry → List ℕ
lines_of entries = map (λ (entry : IndexEntry). entry.line) entries

named_rises : (bytes : List ℕ) (spans : List LineSpan) (name : List ℕ) (low : ℕ) (xs : List IndexEntry) → IsSortedBy (comes_before bytes spans) xs → All (λ y. is_named bytes spans name y ≡ true → low ≤ y.line) xs → Rises low (lines_of (filter (is_named bytes spans name) xs))
named_rises bytes spans name low [] up above = tt
named_rises bytes spans name low (x ∷ xs) up above =
    let P : IndexEntry → Type 0 = λ y. is_named bytes spans name y ≡ true → low ≤ y.line in
    let rest = sorted_tail (comes_before bytes spans) x xs up in
    let after = after_first bytes spans x xs up in
    elim (cases_Bool (is_named bytes spans name x)) [
      | inl is ↦ rw is (All-head P x xs above is, named_rises bytes spans name x.line xs rest (λ k d less named. named_up bytes spans name x (slice_index_or xs k d) is named (after k d less)))
      | inr not ↦ rw not (named_rises bytes spans name low xs rest (All-tail P x xs above))
    ]

map_map : {X Y Z : Type 0} (g : Y → Z) (f : X → Y) (xs : List X) → map (λ x. g (f x)) xs ≡ map g (map f xs)
map_map g f [] = refl
map_map g f (x ∷ xs) = ap (λ ys. g (f x) ∷ ys) (map_map g f xs)

lines_again : (bytes : List ℕ) (spans : List LineSpan) (xs : List ℕ) → lines_of (map (entry_of bytes spans) xs) ≡ xs
lines_again bytes spans [] = refl
lines_again bytes spans (x ∷ xs) = ap (λ ys. x ∷ ys) (lines_again bytes spans xs)

pub named_index : (bytes : List ℕ) (spans : List LineSpan) (name : List ℕ) (index : List IndexEntry) → IsIndexOf bytes spans index → filter (is_line_named bytes spans name) (range_with_len 0 (length spans)) ≡ lines_of (filter (is_named bytes spans name) index)
named_index bytes spans name index is =
    let line : IndexEntry → ℕ = λ (entry : IndexEntry). entry.line in
    let lines = range_with_len 0 (length spans) in
    let named = is_line_named bytes spans name in
    let moved : IsPermutation lines (lines_of index) =
    subst (λ (xs : List ℕ). IsPermutation xs (lines_of index)) (lines_again bytes spans lines) (IsPermutation-map line (map (entry_of bytes spans) lines) index is.each) in
    let parts : lines_of (filter (is_named bytes spans name) index) ≡ filter named (lines_of index) = map_filter line named index in
    let up = named_rises bytes spans name 0 index is.sorted (λ k d less is_one. omega arith) in
    filter_permuted named lines (lines_of index) moved
    (range_rises named 0 0 (length spans) (omega arith))
    (subst (λ (xs : List ℕ). Rises 0 xs) parts up)
    ∙ sym parts

-- ---- and so the lines of the name

all_lines : (spans : List LineSpan) → map (span_by spans) (range_with_len 0 (length spans)) ≡ spans
all_lines spans = sym (fill_by_all (span_by spans) spans (length spans) no_span refl (λ k less. refl))

pub named_lines : (bytes : List ℕ) (spans : List LineSpan) (name : List ℕ) (index : List IndexEntry) → IsIndexOf bytes spans index → map (entry_span spans) (filter (is_named bytes spans name) index) ≡ filter (is_span_named bytes name) spans
named_lines bytes spans name index is =
    map_map (span_by spans) (λ (entry : IndexEntry). entry.line) (filter (is_named bytes spans name) index)
    ∙ ap (map (span_by spans)) (sym (named_index bytes spans name index is))
    ∙ map_filter (span_by spans) (is_span_named bytes name) (range_with_len 0 (length spans))
    ∙ ap (filter (is_span_named bytes name)) (all_lines spans)

-- ---- each index is of a line

range_inside : (n : ℕ) → All (λ line. line < n) (range_with_len 0 n)
range_inside n k d less =
    let within : k < n = omega (arith, length-range_with_len 0 n, less) in
    subst (λ m. m < n) (sym (get_or-range_with_len 0 n k d within)) (omega (arith, within))

list_all_from : (n : ℕ) (xs : List IndexEntry) → All (λ (entry : IndexEntry). entry.line < n) xs → are_inside n xs ≡ true
list_all_from n [] all = refl
list_all_from n (x ∷ xs) all =
    let P : IndexEntry → Type 0 = λ entry. entry.line < n in
    and_from _ _ (lt-ltb x.line n (All-head P x xs all)) (list_all_from n xs (All-tail P x xs all))

pub chosen_inside : (bytes : List ℕ) (spans : List LineSpan) (p : IndexEntry → Bool) (index : List IndexEntry) → IsIndexOf bytes spans index → are_inside (length spans) (filter p index) ≡ true
chosen_inside bytes spans p index is =
    let P : IndexEntry → Type 0 = λ entry. entry.line < length spans in
    let lines = range_with_len 0 (length spans) in
    let inside = All-permutation P (map (entry_of bytes spans) lines) index is.each (All-map P (entry_of bytes spans) lines (range_inside (length spans))) in
    list_all_from (length spans) (filter p index) (All-filter p P index inside)
