use Rattle.std.proofs.Common.{refl, arith}
use Rattle.byte_grammar.specs.declared.class.TheConstants.{TCHARS}
use Rattle.byte_grammar.specs.Classes.{is_tchar}
use Rattle.byte_grammar.proofs.Tables.{agree_below, from_table}
use Rattle.byte_grammar.proofs.class.is_tchar.Goals as goal

pub returns : goal.returns
unfolding agree_below
returns c = from_table TCHARS 44 is_tchar c.args.byte (omega arith) refl
