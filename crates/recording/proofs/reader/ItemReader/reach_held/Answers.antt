use Rattle.std.proofs.Common.{◌∙◌, ap, sym}
use Rattle.recording.specs.Readers.{ReaderState}
use Rattle.recording.proofs.HeldLaws.{nothing_reads}
use Rattle.recording.proofs.reader.ItemReader.reach_held.Goals as goal

pub returns-in-LastLine-clause-reads : goal.returns-in-LastLine-clause-reads
returns-in-LastLine-clause-reads c = nothing_reads c.args.self.now c.reach_nothing.result (sym (ap (λ (s : ReaderState). s.stage) c.self.view_is) ∙ c.in-LastLine.is) c.reach_nothing.ensures
