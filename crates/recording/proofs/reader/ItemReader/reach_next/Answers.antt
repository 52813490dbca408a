use Rattle.std.proofs.Common.{◌≤◌, List, ℕ, length, drop, Option, None, Result, Ok, refl, ap, sym, subst, ◌∙◌}
use Rattle.recording.specs.Items.{Body}
use Rattle.recording.specs.Readers.{ReaderState}
use Rattle.recording.specs.declared.read.Stop.{Stop}
use Rattle.recording.specs.tools.KeptBytes.{KeptBytes}
use Rattle.recording.specs.tools.ReaderSteps.{IsFound}
use Rattle.recording.specs.tools.RecordingWalk.{item_step}
use Rattle.recording.proofs.HeldLaws.{after_line, all_held, last_reads, next_reaches, next_stops}
use Rattle.recording.proofs.reader.ItemReader.reach_next.Goals as goal

abbrev last_at : List ℕ → Result (Option Body × List ℕ) Stop
last_at y = Ok (None, drop 4 y)

pub returns-in-Ok-Item-clause-reads : goal.returns-in-Ok-Item-clause-reads
returns-in-Ok-Item-clause-reads c =
    let old = c.args.self.now in
    let found = c.in-Ok-Item.found in
    let held = c.as_slice.ensures ∙ all_held c.self.inside old c.self.invariant c.self.view_is c.requires.none in
    let same = ap (λ (s : ReaderState). s.moment) c.self.view_is in
    let f = (rw c.in-Ok-Item.field-0-is at c.in-Ok-Item.ensures) in
    let is = subst (λ (y : List ℕ). IsFound old.moment y found) held (subst (λ (m : ℕ). IsFound m c.as_slice.result.now found) same f.1) in
    next_reaches old c.reach.new.self found c.reach.result c.requires.items f.0 is c.reach.ensures.reaches

pub returns-in-Ok-LastLine-clause-reads : goal.returns-in-Ok-LastLine-clause-reads
returns-in-Ok-LastLine-clause-reads c =
    let old = c.args.self.now in
    let slice = c.as_slice.ensures in
    let held = slice ∙ all_held c.self.inside old c.self.invariant c.self.view_is c.requires.none in
    let same = ap (λ (s : ReaderState). s.moment) c.self.view_is in
    let f = (rw c.in-Ok-LastLine.field-0-is at c.in-Ok-LastLine.ensures) in
    let long = subst (λ (y : List ℕ). 4 ≤ length y) slice f.0 in
    let after = after_line c.self.inside old c.self.invariant c.use_up.new.self.unused c.self.view_is c.requires.none long (ap (λ (b : KeptBytes). b.unused) c.use_up.ensures) in
    let here = ap (λ (m : ℕ). item_step m old.held) (sym same) ∙ ap (item_step c.self.inside.moment) (sym held) ∙ f.1 ∙ ap (λ (y : List ℕ). last_at y) held in
    last_reads old _ c.reach_nothing.result c.requires.items here after.0 after.1 same (ap (λ (s : ReaderState). s.count) c.self.view_is) refl c.reach_nothing.ensures

pub returns-in-Err-clause-reads : goal.returns-in-Err-clause-reads
returns-in-Err-clause-reads c =
    let old = c.args.self.now in
    let held = c.as_slice.ensures ∙ all_held c.self.inside old c.self.invariant c.self.view_is c.requires.none in
    let same = ap (λ (s : ReaderState). s.moment) c.self.view_is in
    let here = ap (λ (m : ℕ). item_step m old.held) (sym same) ∙ ap (item_step c.self.inside.moment) (sym held) ∙ c.in-Err.ensures.0 in
    rw c.fault_of.ensures (next_stops old c.in-Err.stop c.requires.items here c.in-Err.ensures.1)
