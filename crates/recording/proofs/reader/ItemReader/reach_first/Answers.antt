use Rattle.std.proofs.Common.{List, ℕ, ap, sym, subst, ◌∙◌}
use Rattle.recording.specs.tools.ReaderSteps.{IsFirstFound}
use Rattle.recording.specs.tools.RecordingWalk.{first_step}
use Rattle.recording.proofs.HeldLaws.{all_held, begun_zero, first_reaches, first_stops}
use Rattle.recording.proofs.reader.ItemReader.reach_first.Goals as goal

pub returns-in-Ok-Some-clause-reads : goal.returns-in-Ok-Some-clause-reads
returns-in-Ok-Some-clause-reads c =
    let old = c.args.self.now in
    let held = c.as_slice.ensures ∙ all_held c.self.inside old c.self.invariant c.self.view_is c.requires.none in
    let zero = begun_zero c.self.inside old c.self.invariant c.self.view_is c.requires.begin in
    let found = subst (λ (y : List ℕ). IsFirstFound y c.in-Ok-Some.found) held (rw c.in-Ok-Some.field-0-is at c.in-Ok-Some.ensures) in
    first_reaches old c.reach.new.self c.in-Ok-Some.found c.reach.result c.requires.begin zero found c.reach.ensures.reaches

pub returns-in-Err-clause-reads : goal.returns-in-Err-clause-reads
returns-in-Err-clause-reads c =
    let old = c.args.self.now in
    let held = c.as_slice.ensures ∙ all_held c.self.inside old c.self.invariant c.self.view_is c.requires.none in
    rw c.fault_of.ensures (first_stops old c.in-Err.stop c.requires.begin (ap first_step (sym held) ∙ c.in-Err.ensures.0) c.in-Err.ensures.1)
