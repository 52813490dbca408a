use Rattle.std.proofs.Common.{◌≡◌, ◌≤◌, take}
use Rattle.std.specs.List.{count_by}
use Rattle.rewrite_script.specs.Scripts.{is_line_end}
use Rattle.rewrite_script.proofs.script.line_count.Given as goal

abbrev pub invariant-loop-byte : goal.invariant-loop-byte
invariant-loop-byte l = record {
  count : l.ended ≡ count_by is_line_end (take l.byte-index l.text);
  within : l.ended ≤ l.byte-index;
}
