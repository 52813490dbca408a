use Rattle.std.proofs.Common.{refl, arith}
use Rattle.byte_grammar.proofs.Tables.{agree_below, from_table}
use Rattle.sfv_read.specs.Class.{is_unescaped}
use Rattle.sfv_read.specs.declared.class.TheConstants.{UNESCAPED}
use Rattle.sfv_read.proofs.class.is_unescaped.Goals as goal

pub returns : goal.returns
unfolding agree_below
returns c = from_table UNESCAPED 0 is_unescaped c.args.byte (omega arith) refl
