use Rattle.std.proofs.Common.{append_assoc}
use Rattle.base64.specs.Engines.{standard}
use Rattle.base64.proofs.EngineFacts.{encode_of-append}
use Rattle.component_values.proofs.byte_sequence.feed_group.Goals as goal

pub returns : goal.returns
returns g c text groups whole fed = rw (encode_of-append standard groups c.args.bytes.now whole, ← append_assoc, ← c.group.ensures) (c.absorb.ensures _ fed)
