use Rattle.std.proofs.Common.{◌∙◌, ap}
use Rattle.recording.specs.Readers.{ReaderState}
use Rattle.recording.proofs.PieceLaws.{end_fault}
use Rattle.recording.proofs.reader.ItemReader.reach_end.Goals as goal

pub returns-in_default-clause-ends : goal.returns-in_default-clause-ends
returns-in_default-clause-ends c = rw c.given.ensures (end_fault c.args.self.now c.requires.waits (λ e. c.in_default.not-LastLine (ap (λ (s : ReaderState). s.stage) c.self.view_is ∙ e)))
