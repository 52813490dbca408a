use Rattle.std.proofs.Common.{◌∷◌, [], ◌++◌, List, sym, ap, ◌∙◌, map, arith}
use Rattle.std.specs.List.{range_with_len}
use Rattle.std.proofs.lemmas.List.FromFn.{map-range_with_len_more}
use Rattle.line_index.specs.declared.index.IndexEntry.{IndexEntry}
use Rattle.line_index.specs.tools.Index.{entry_of}
use Rattle.line_index.proofs.index.entries_of.Goals as goal

pub loop-line-preserved : goal.loop-line-preserved
loop-line-preserved c =
    let bytes = c.args.bytes.now in
    let spans = c.args.spans.now in
    c.in_ok-push.ensures.items
    ∙ ap (λ (xs : List IndexEntry). xs ++ c.entry_of.result ∷ []) c.loop-line.invariant
    ∙ ap (λ (x : IndexEntry). map (entry_of bytes spans) (range_with_len 0 c.loop-line.line) ++ x ∷ []) c.entry_of.ensures
    ∙ sym (map-range_with_len_more (entry_of bytes spans) 0 c.loop-line.line c.loop-line.line (omega arith))
