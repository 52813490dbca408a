use Rattle.std.proofs.Common.{refl, arith}
use Rattle.byte_grammar.proofs.Tables.{agree_below, from_table}
use Rattle.sfv_text.specs.Range.{is_key_rest}
use Rattle.sfv_read.specs.declared.class.TheConstants.{KEY_REST}
use Rattle.sfv_read.proofs.class.is_key_rest.Goals as goal

pub returns : goal.returns
unfolding agree_below
returns c = from_table KEY_REST 44 is_key_rest c.args.byte (omega arith) refl
