use Rattle.byte_grammar.specs.Classes.{is_tchar}
use Rattle.msg_head.proofs.FirstPlaces.{found_nearby}
use Rattle.msg_head.proofs.slices.end_nearby.Goals as goal

pub returns : goal.returns
returns c = found_nearby is_tchar c.in_ok-chunk.chunk.now c.args.bytes.now c.first_outside.result c.in_ok-chunk.ensures.cases.same c.first_outside.ensures.some
