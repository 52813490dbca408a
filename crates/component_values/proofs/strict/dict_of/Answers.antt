use Rattle.std.proofs.Common.{refl}
use Rattle.component_values.proofs.strict.dict_of.Goals as goal

pub returns-in-Err-Syntax : goal.returns-in-Err-Syntax
returns-in-Err-Syntax c = (refl, rw c.in-Err-Syntax.field-0-is at c.in-Err-Syntax.ensures.only)
