use Rattle.std.proofs.Common.{map, string_bytes, sym}
use Rattle.program.proofs.StreamNames.{no_stream}
use Rattle.program.proofs.StreamRuns.{all_read_whole}
use Rattle.program.proofs.entry.stream_words.Goals as goal

pub returns-then-not-begin_stream-clause-none : goal.returns-then-not-begin_stream-clause-none
returns-then-not-begin_stream-clause-none c = no_stream (map string_bytes c.args.arguments.now) (sym c.if-not-begin_stream.ensures)

pub returns-in_default : goal.returns-in_default
returns-in_default c = record {
  some = tt;
  none = all_read_whole (map string_bytes c.args.arguments.now) c.in_ok-words.field-0 c.in_ok-words.ensures.some c.in_default.not-Gateway;
}
