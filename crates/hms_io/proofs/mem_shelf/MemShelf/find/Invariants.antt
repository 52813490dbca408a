use Rattle.std.proofs.Common.{◌≡◌}
use Rattle.std.specs.Ordering.{nat_cmp}
use Rattle.std.specs.Cmp.Lexicographic.{slice_cmp}
use Rattle.std.specs.FinMap.{get, find}
use Rattle.std.specs.VecDeque.Iter.{deque_iter_rest}
use Rattle.hms_io.proofs.mem_shelf.MemShelf.find.Given as goal

-- the file stands in what is left of the log
abbrev pub invariant-files : goal.invariant-files
invariant-files l = get l.self.files l.name ≡ find (slice_cmp nat_cmp) l.name (deque_iter_rest l.key-iterator)
