-- What the reader of heads answers.
use Rattle.std.specs.Prelude.{◌≡◌, ℕ, Result, Ok, Err, ⊤}
use Rattle.msg_head.specs.declared.head.HeadRead.{HeadRead}
use Rattle.msg_head.specs.declared.head.HeadRead.TheVariants.{Whole, Partial}
use Rattle.msg_head.specs.declared.error.HeadError.{HeadError}
use Rattle.msg_head.specs.declared.error.HeadError.TheVariants.{Memory}
use Rattle.msg_head.specs.Heads.{Head}
use Rattle.msg_head.specs.Views.{View, head_of}

-- where the answer is a head's view and length, this holds of them
abbrev pub IfWholeHead : Result HeadRead HeadError → (View → ℕ → Type 0) → Type 0
IfWholeHead (Ok (Whole view used)) P = P view used
IfWholeHead (Ok Partial) P = ⊤
IfWholeHead (Err _) P = ⊤

-- the answer is a view of this head, and its length, or out of memory
abbrev pub IsHeadUnlessMemory : Result HeadRead HeadError → Head → ℕ → Type 0
IsHeadUnlessMemory (Ok (Whole view count)) head used = (head_of view ≡ head) × (count ≡ used)
IsHeadUnlessMemory (Ok Partial) head used = ⊥
IsHeadUnlessMemory (Err error) head used = error ≡ Memory
