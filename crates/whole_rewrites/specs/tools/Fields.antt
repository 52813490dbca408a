-- Where lines of a name are, and what is made of them, as the code does it. No public clause cites
-- this module.
use Rattle.std.specs.Prelude.{◌≡◌, ⊤, ℕ, ◌+◌, not, Some, IsTrue, IsFalse, Result, Ok, Err, List, ◌∷◌, ◌++◌, take, drop, filter, slice_get}
use Rattle.msg_head.specs.Lines.{FieldLine}
use Rattle.msg_head.specs.Names.{has_name}
use Rattle.msg_head.specs.Values.{is_there}
use Rattle.derived_values.specs.declared.lack.Lack.{Lack}
use Rattle.line_rewrites.specs.LineLists.{line_of}
use Rattle.line_rewrites.specs.declared.fault.ApplyFault.{ApplyFault}
use Rattle.line_rewrites.specs.declared.fault.ApplyFault.TheVariants.{Memory, NotApplicable}

-- the line of the index is the first of the name
pub record IsFirstAt (name : List ℕ) (lines : List FieldLine) (index : ℕ) (line : FieldLine)
    : Type 0 where
  pub there : slice_get lines index ≡ Some line
  pub named : IsTrue (has_name name line)
  pub none_before : IsFalse (is_there (take index lines) name)

-- the line of the index has this text
abbrev pub with_text : ℕ → FieldLine → List ℕ → List FieldLine → List FieldLine
with_text index line text lines =
    take index lines ++ line_of line.name text ∷ drop (index + 1) lines

-- the lines that don't have the name
abbrev pub without_name : List ℕ → List FieldLine → List FieldLine
without_name name lines = filter (λ line. not (has_name name line)) lines

-- the line of the index has this text, and no later one has its name
abbrev pub in_one_line : List ℕ → ℕ → FieldLine → List ℕ → List FieldLine → List FieldLine
in_one_line name index line text lines =
    take index lines ++ line_of line.name text ∷ without_name name (drop (index + 1) lines)

-- the strict text that the row says, or the row says none
abbrev pub AnswersStrict : (Result (List ℕ) Lack → Type 0) → Result (List ℕ) ApplyFault → Type 0
AnswersStrict Row (Ok strict) = Row (Ok strict)
AnswersStrict Row (Err NotApplicable) = (strict : List ℕ) → ¬ Row (Ok strict)
AnswersStrict Row (Err Memory) = ⊤
