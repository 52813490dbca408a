use Rattle.std.proofs.Common.{rules, Err, ap, subst, sym}
use Rattle.recording.specs.Readers.{ReaderState, AnswersNext}
use Rattle.recording.specs.tools.ReaderSteps.{refused}
use Rattle.recording.proofs.PieceLaws.{dropped_reading}
use Rattle.recording.proofs.reader.ItemReader.next.Goals as goal

pub returns-in-Err : goal.returns-in-Err
returns-in-Err g c = record {
  reads = λ items text h end other.
      let now = g.S.Source.left c.read_on.new.source in
      let fault = c.in-Err.fault in
      let reading = dropped_reading c.args.self.now c.drop_item.new.self items text c.drop_item.ensures.drops h end other in
      let a = c.in-Err.ensures.reads items text reading in
      (a.0, a.1, subst (λ (s : ReaderState). AnswersNext items text a.0 now s (Err fault)) (sym (ap (λ (s : ReaderState). refused s fault) c.self-2.view_is)) a.2);
  again = search rules;
  end = search rules;
  kept = search rules;
  holds = search rules;
  among = search rules;
  count = search rules;
  within = search rules;
  faults = search rules;
  later = search rules;
  ended = search rules;
  idle = search rules;
  unended = search rules;
}
