use Rattle.std.proofs.Common.{◌≡◌, ap, sym, ◌∙◌, Some, true, false}
use Rattle.std.specs.Cmp.Lexicographic.{slice_cmp, nat_list_cmp_total}
use Rattle.std.specs.FinMap.{get, find, get-from_entries}
use Rattle.std.specs.Ordering.{nat_cmp}
use Rattle.std.specs.Str.{bytes_eq}
use Rattle.hms_io.proofs.Known.{found_first}
use Rattle.hms_io.proofs.mem_shelf.MemShelf.find.Goals as goal

pub files-init : goal.files-init
files-init c =
    ap (λ s. get s.files c.args.name.now) (sym c.self.view_is)
    ∙ get-from_entries nat_list_cmp_total _ _
    ∙ ap (find (slice_cmp nat_cmp) c.args.name.now) (sym c.into_iter-key-iterator.ensures.into_iter_gives.0)

pub returns-then-eq : goal.returns-then-eq
returns-then-eq c =
    let test : true ≡ bytes_eq c.args.name.now c.in-Some.field-0.now.0 = cc in
    c.files.invariant ∙ found_first c.args.name.now c.in-Some.field-0.now _ _ true c.in-Some.ensures.steps test
    ∙ ap Some (sym c.bytes-then-eq.ensures)

pub files-preserved : goal.files-preserved
files-preserved c =
    let test : false ≡ bytes_eq c.args.name.now c.in-Some.field-0.now.0 = cc in
    c.files.invariant ∙ found_first c.args.name.now c.in-Some.field-0.now _ _ false c.in-Some.ensures.steps test
