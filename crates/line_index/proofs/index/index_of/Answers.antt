use Rattle.std.proofs.Common.{rules, arith, length, map}
use Rattle.std.specs.List.{range_with_len}
use Rattle.std.specs.List.Sorted.{IsPermutation}
use Rattle.std.specs.Ordering.{is_lt}
use Rattle.std.proofs.lemmas.Fn.{always_returns_same}
use Rattle.line_index.specs.declared.index.IndexEntry.{IndexEntry}
use Rattle.line_index.specs.tools.Index.{entry_cmp, entry_of}
use Rattle.line_index.proofs.ByName.{all_right}
use Rattle.line_index.proofs.NameOrder.{entry_order, sorted_is}
use Rattle.line_index.proofs.index.index_of.Goals as goal

pub returns : goal.returns
returns c =
    let bytes = c.args.bytes.now in
    let spans = c.args.spans.now in
    let index = c.sort_unstable_by.new.self.items in
    let each : IsPermutation (map (entry_of bytes spans) (range_with_len 0 (length spans))) index = rw (← c.in_ok-index.ensures) c.sort_unstable_by.ensures.permutation in
    let sorted = c.sort_unstable_by.ensures.sorted (λ (one other : IndexEntry). is_lt (entry_cmp bytes spans one other)) (entry_order bytes spans) (always_returns_same _ _ _ (λ a r g k. search rules)) in
    record {
      each = each;
      sorted = sorted_is bytes spans index (λ k. omega (arith, c.type_inv.bytes k)) (all_right bytes spans index each) sorted;
    }
