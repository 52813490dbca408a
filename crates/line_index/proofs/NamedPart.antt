-- Field lines in order of their names: where those of a name are in the index.
use Rattle.std.proofs.Common.{◌≡◌, ℕ, ◌≤◌, ◌<◌, List, ◌++◌, length, take, drop, true, false, sym, ◌∙◌, ap, arith, inl, inr}
use Rattle.std.specs.List.{AllWithin, filter, slice_index_or}
use Rattle.std.specs.List.Sorted.{IsPartitionedBy, IsPartitionPoint}
use Rattle.std.specs.Ordering.{is_lt}
use Rattle.std.specs.Str.{bytes_eq}
use Rattle.std.proofs.lemmas.Bool.{cases_Bool, false≢true}
use Rattle.std.proofs.lemmas.Cmp.{tied_itself}
use Rattle.std.proofs.lemmas.List.{append-nil, take-append-drop}
use Rattle.std.proofs.lemmas.List.Elements.{All-drop, filter-append}
use Rattle.std.proofs.lemmas.Slice.Eq.{bytes_eq-Decides}
use Rattle.line_index.specs.declared.span.LineSpan.{LineSpan}
use Rattle.line_index.specs.declared.index.IndexEntry.{IndexEntry}
use Rattle.line_index.specs.tools.Index.{lowered_name, text_cmp, first_bytes, comes_before, key_cmp, entry_key, is_key_below, name_key, is_named, IsEntry, IsIndexOf, IsRestFrom}
use Rattle.line_index.proofs.ByName.{all_first, all_rest, all_right, filter_all, filter_none, named_text, names_up, same_names, sorted_rest, up_far}
use Rattle.line_index.proofs.FirstBytes.{AreBytes}
use Rattle.line_index.proofs.NameOrder.{entry_keys, key_total}

-- an entry whose line has the name has the name's key
named_key : (bytes : List ℕ) (spans : List LineSpan) (name : List ℕ) (entry : IndexEntry) → IsEntry bytes spans entry → is_named bytes spans name entry ≡ true → entry_key bytes spans entry ≡ name_key name
named_key bytes spans name entry right is =
    let text = lowered_name bytes spans entry.line in
    let first : entry.first_bytes ≡ first_bytes name = right.first ∙ ap first_bytes ((bytes_eq-Decides text name).0 is) in
    let texts = named_text bytes spans name entry is in
    λ i. (first i, texts i)

below_not_named : (bytes : List ℕ) (spans : List LineSpan) (name : List ℕ) (entry : IndexEntry) → IsEntry bytes spans entry → is_key_below bytes spans (name_key name) entry ≡ true → is_named bytes spans name entry ≡ false
below_not_named bytes spans name entry right below = elim (cases_Bool (is_named bytes spans name entry)) [
  | inl is ↦
      let key = name_key name in
      let tied : is_key_below bytes spans key entry ≡ false = ap (λ (k : ℕ × List ℕ). is_lt (key_cmp k key)) (named_key bytes spans name entry right is) ∙ ap is_lt (tied_itself key_total key) in
      absurd (false≢true (sym tied ∙ below))
  | inr not ↦ not
]

-- what is left of the index where the name's key parts it
pub rest_is : (bytes : List ℕ) (spans : List LineSpan) (name : List ℕ) (index : List IndexEntry) (n : ℕ) → IsIndexOf bytes spans index → n ≤ length index → IsPartitionPoint (λ entry. is_key_below bytes spans (name_key name) entry ≡ true) (λ entry. is_key_below bytes spans (name_key name) entry ≡ false) index n → IsRestFrom bytes spans name index (drop n index)
rest_is bytes spans name index n is within split =
    let named = is_named bytes spans name in
    let key = name_key name in
    let rights = all_right bytes spans index is.each in
    let below = all_first (λ entry. (is_key_below bytes spans key entry ≡ true) × IsEntry bytes spans entry) index n within (λ k d low high. (split.0 k d low high, rights k d (omega (arith, high, within)))) in
    let none = filter_none named (take n index) (λ k d less. below_not_named bytes spans name (slice_index_or (take n index) k d) (below k d less).1 (below k d less).0) in
    record {
      sorted = sorted_rest (comes_before bytes spans) index n is.sorted;
      above = all_rest (λ entry. is_key_below bytes spans key entry ≡ false) index n within split.1;
      right = All-drop (IsEntry bytes spans) n index rights;
      all = sym (ap (filter named) (sym (take-append-drop n index)) ∙ filter-append named (take n index) (drop n index) ∙ ap (λ (xs : List IndexEntry). xs ++ filter named (drop n index)) none);
    }

named_first : (bytes : List ℕ) (spans : List LineSpan) (name : List ℕ) (index rest : List IndexEntry) → AreBytes bytes → IsRestFrom bytes spans name index rest → IsPartitionedBy (is_named bytes spans name) rest
named_first bytes spans name index rest are is i j d low high passes =
    let a = slice_index_or rest i d in
    let b = slice_index_or rest j d in
    let x = lowered_name bytes spans a.line in
    let y = lowered_name bytes spans b.line in
    let less : i < length rest = omega (arith, low, high) in
    let same = entry_keys bytes spans a b are (is.right i d less) (is.right j d high) in
    let key = named_key bytes spans name b (is.right j d high) passes in
    let below : is_lt (text_cmp x y) ≡ false = ap is_lt (sym same) ∙ ap (λ (k : ℕ × List ℕ). is_lt (key_cmp (entry_key bytes spans a) k)) key ∙ is.above i d less in
    let above = names_up bytes spans a b (up_far bytes spans rest is.sorted i j d low high) in
    ap (λ (t : List ℕ). bytes_eq t name) (same_names x y below above) ∙ passes

-- the rest's first entries up to one whose line hasn't the name
pub part_is : (bytes : List ℕ) (spans : List LineSpan) (name : List ℕ) (index rest : List IndexEntry) (n : ℕ) → AreBytes bytes → IsRestFrom bytes spans name index rest → n ≤ length rest → AllWithin (λ entry. is_named bytes spans name entry ≡ true) rest 0 n → ((d : IndexEntry) → n < length rest → is_named bytes spans name (slice_index_or rest n d) ≡ false) → take n rest ≡ filter (is_named bytes spans name) index
part_is bytes spans name index rest n are is within first stops =
    let named = is_named bytes spans name in
    let parted = named_first bytes spans name index rest are is in
    let others : AllWithin (λ entry. named entry ≡ false) rest n (length rest) = λ k d low high. elim (cases_Bool (named (slice_index_or rest k d))) [
      | inl passes ↦ absurd (false≢true (sym (stops d (omega (arith, low, high))) ∙ parted n k d low high passes))
      | inr not ↦ not
    ] in
    let all = filter_all named (take n rest) (all_first (λ entry. named entry ≡ true) rest n within first) in
    let none = filter_none named (drop n rest) (all_rest (λ entry. named entry ≡ false) rest n within others) in
    sym (sym is.all
    ∙ ap (filter named) (sym (take-append-drop n rest))
    ∙ filter-append named (take n rest) (drop n rest)
    ∙ ap (λ (xs : List IndexEntry). filter named (take n rest) ++ xs) none
    ∙ append-nil (filter named (take n rest))
    ∙ all)
