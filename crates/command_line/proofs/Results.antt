-- What follows from what is said of a value that may be there.
use Rattle.std.proofs.Common.{Option, Some, None}
use Rattle.std.specs.Prelude.{IfNone, IfSome}

pub if_none : {X : Type 0} {P Q : Type 0} (found : Option X) → (P → Q) → IfNone found P → IfNone found Q
if_none None f p = f p
if_none (Some x) f p = p

pub if_some : {X : Type 0} {P Q : X → Type 0} (found : Option X) → ((x : X) → P x → Q x) → IfSome found P → IfSome found Q
if_some None f p = p
if_some (Some x) f p = f x p
