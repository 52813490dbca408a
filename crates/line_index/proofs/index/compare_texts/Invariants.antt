use Rattle.std.proofs.Common.{◌≡◌, length}
use Rattle.std.specs.Str.{str_to_ascii_lowercase}
use Rattle.line_index.specs.tools.Index.{text_cmp}
use Rattle.line_index.proofs.index.compare_texts.Given as goal

abbrev pub invariant-same : goal.invariant-same
invariant-same l =
    text_cmp (str_to_ascii_lowercase l.fn.one) (str_to_ascii_lowercase l.fn.other) ≡ text_cmp (str_to_ascii_lowercase l.ones) (str_to_ascii_lowercase l.others)

abbrev pub decreases-same : goal.decreases-same
decreases-same l = length l.ones
