-- What a reader of a whole text answers.
use Rattle.std.specs.Prelude.{◌≡◌, ℕ, ◌≤◌, List, ◌++◌, length, Result, Ok, Err, codes}
use Rattle.std.specs.Fmt.{decimal}
use Rattle.byte_grammar.specs.FaultOffset.{IsFaultOffset}
use Rattle.sfv_read.specs.declared.error.SfError.{SfError}
use Rattle.sfv_read.specs.declared.error.SfError.TheVariants.{Memory, Syntax}

-- the value was read, unless memory ran out
abbrev pub IsRead : {V : Type 0} → Result V SfError → V → Type 0
IsRead (Ok x) v = x ≡ v
IsRead (Err Memory) v = Unit {0}
IsRead (Err (Syntax _)) v = ⊥

-- why a text of the kind isn't read; memory may run out, but not over the empty text
abbrev pub IsSfError : {V : Type 0} → (List ℕ → V → Type 0) → List ℕ → SfError → Type 0
IsSfError L text Memory = 1 ≤ length text
IsSfError L text (Syntax offset) = IsFaultOffset L text offset

-- what an error says
abbrev pub error_text : SfError → List ℕ
error_text Memory = codes "out of memory"
error_text (Syntax offset) =
    codes "not a structured field from byte " ++ (decimal offset ++ codes " on")
