use Rattle.std.proofs.Common.{◌≡◌, ◌↔◌, ◌<◌, ◌∙◌, IsTrue, Some, arith, get_or, length, sym, refl, subst}
use Rattle.std.specs.Prelude.{IsSomeAnd}
use Rattle.std.proofs.lemmas.Option.{slice_get-get_or}
use Rattle.rewrites.specs.Permitted.{Permits}
use Rattle.hop_audit.specs.declared.walk.Mark.{Mark}
use Rattle.hop_audit.specs.tools.Walked.{IsMarkedBy}
use Rattle.hop_audit.proofs.WalkSteps.{all_marked, marked_here}
use Rattle.hop_audit.proofs.walk.mark_all.Goals as goal

pub loop-index-init : goal.loop-index-init
loop-index-init c context step is = record { marked = tt; others = refl }

pub loop-index-preserved : goal.loop-index-preserved
loop-index-preserved c context step is =
    let marks = c.loop-index.marks in
    let index = c.loop-index.index in
    let item = c.index-marks-index.result in
    let here = c.index-marks-index-in-loop-index.result in
    let old = get_or marks index here in
    let new : Mark = record { label = old.label; read = old.read; permitted = c.still_permits.result } in
    let lt : index < length marks = omega (arith, c.loop-index.auto.marks, c.loop-index-test.true) in
    let e : Some (get_or marks index item) ≡ Some old = sym (slice_get-get_or marks index item lt) ∙ slice_get-get_or marks index here lt in
    let same : get_or marks index item ≡ old = cc in
    let permitted = subst (λ (m : Mark). IsTrue c.still_permits.result ↔ (IsTrue m.permitted × IsSomeAnd m.read (λ read. Permits context step m.label.now read.now.params))) same
    (c.still_permits.ensures context step is) in
    let by : IsMarkedBy context step old new = record { same = record { label = refl; read = refl }; permitted = permitted } in
    let so_far = c.loop-index.invariant context step is in
    marked_here c.args.marks.now marks index here so_far.others lt c.index-marks-index-in-loop-index.is context step new so_far.marked
    (subst (λ (m : Mark). IsMarkedBy context step m new) (sym c.index-marks-index-in-loop-index.is) by)

pub returns : goal.returns
returns c context step is =
    all_marked context step c.args.marks.now c.loop-index.marks c.loop-index.index (c.loop-index.invariant context step is) c.loop-index.auto.marks c.loop-index-test.false
