-- The reader of a line with a number meets it.
use Rattle.std.proofs.Common.{refl}
use Rattle.byte_grammar.specs.tools.CountedTexts.{Anything}
use Rattle.byte_grammar.proofs.Laws.{Meets}
use Rattle.byte_grammar.proofs.NumberLaws.{meets_number}
use Rattle.recording.specs.tools.RecordingWalk.{number_line_read}
use Rattle.recording.specs.tools.RecordingTexts.{IsNumberLine}

pub meets_number_line : Meets IsNumberLine Anything number_line_read
meets_number_line = meets_number 10 refl
