use Rattle.byte_grammar.proofs.LiteralLaws.{common_ended}
use Rattle.byte_grammar.proofs.literal.common_len.Goals as goal

pub returns-else-n-bytes : goal.returns-else-n-bytes
returns-else-n-bytes c = record {
  value = common_ended c.args.text.now c.args.bytes.now c.loop-n.n c.if-n-bytes.false c.loop-n.invariant.value;
  in_text = c.loop-n.invariant.in_text;
  in_bytes = c.loop-n.invariant.in_bytes;
}
