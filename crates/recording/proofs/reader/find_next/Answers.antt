use Rattle.std.proofs.Common.{refl}
use Rattle.recording.specs.Items.{body_of}
use Rattle.recording.proofs.FoundLaws.{next_found}
use Rattle.recording.proofs.reader.find_next.Goals as goal

pub returns-in-Ok-Some-default : goal.returns-in-Ok-Some-default
returns-in-Ok-Some-default c = (
  refl,
  next_found c.args.last c.args.bytes.now c.in-Ok-Some-default.rest.now (body_of c.in-Ok-Some-default.body) c.moment_after.result
      (rw c.in-Ok-Some-default.field-0-0-is at c.in-Ok-Some-default.ensures.gives) c.moment_after.ensures,
)
