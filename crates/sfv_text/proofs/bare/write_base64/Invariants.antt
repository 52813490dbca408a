use Rattle.std.proofs.Common.{◌≡◌, ◌++◌}
use Rattle.std.specs.Slice.Iter.{chunks_rest, chunks_size}
use Rattle.base64.specs.Engines.{standard}
use Rattle.base64.specs.GeneralPurpose.{encode_of}
use Rattle.sfv_text.proofs.bare.write_base64.Given as goal

abbrev pub invariant-loop-group : goal.invariant-loop-group
invariant-loop-group l = record {
  size : chunks_size l.group-iterator ≡ 48;
  text : l.text ++ encode_of standard (chunks_rest l.group-iterator) ≡ l.initial.text ++ encode_of standard l.bytes;
}
