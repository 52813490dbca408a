-- What is so of an answer, by cases.
use Rattle.std.proofs.Common.{Option, Some, None, IfSome, IfNone, MatchOption}

pub at_some : {X : Type 0} (N : Type 0) (P : X → Type 0) (found : Option X) → MatchOption found N P → IfSome found P
at_some N P None m = tt
at_some N P (Some x) m = m

pub at_none : {X : Type 0} (N : Type 0) (P : X → Type 0) (found : Option X) → MatchOption found N P → IfNone found N
at_none N P None m = m
at_none N P (Some x) m = tt
