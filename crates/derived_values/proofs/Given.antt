-- What is so of an answer, by cases.
use Rattle.std.proofs.Common.{Option, Some, None, IfNone}

pub given_none : {X : Type 0} {P : Type 0} (found : Option X) → P → IfNone found P
given_none None p = p
given_none (Some x) p = tt

pub none_more : {X : Type 0} {P Q : Type 0} (found : Option X) → (P → Q) → IfNone found P → IfNone found Q
none_more None f p = f p
none_more (Some x) f p = tt
