use Rattle.std.proofs.Common.{refl, arith}
use Rattle.byte_grammar.proofs.Tables.{agree_below, from_table}
use Rattle.sfv_read.specs.Class.{is_base64}
use Rattle.sfv_read.specs.declared.class.TheConstants.{BASE64}
use Rattle.sfv_read.proofs.class.is_base64.Goals as goal

pub returns : goal.returns
unfolding agree_below
returns c = from_table BASE64 44 is_base64 c.args.byte (omega arith) refl
