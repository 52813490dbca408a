-- What the reader of trailer sections answers.
use Rattle.std.specs.Prelude.{◌≡◌, ℕ, List, Result, Ok, Err, ⊤}
use Rattle.msg_head.specs.declared.trailer.TrailerRead.{TrailerRead}
use Rattle.msg_head.specs.declared.trailer.TrailerRead.TheVariants.{Whole, Partial}
use Rattle.msg_head.specs.declared.error.HeadError.{HeadError}
use Rattle.msg_head.specs.declared.error.HeadError.TheVariants.{Memory}
use Rattle.msg_head.specs.Lines.{FieldLine}
use Rattle.msg_head.specs.TrailerViews.{TrailerParts, trailer_lines_of}

-- where the answer is a section's view and length, this holds of them
abbrev pub IfWholeTrailer : Result TrailerRead HeadError → (TrailerParts → ℕ → Type 0) → Type 0
IfWholeTrailer (Ok (Whole view used)) P = P view used
IfWholeTrailer (Ok Partial) P = ⊤
IfWholeTrailer (Err _) P = ⊤

-- the answer is a view of these lines, and their section's length, or out of memory
abbrev pub IsTrailerUnlessMemory : Result TrailerRead HeadError → List FieldLine → ℕ → Type 0
IsTrailerUnlessMemory (Ok (Whole view count)) lines used =
    (trailer_lines_of view ≡ lines) × (count ≡ used)
IsTrailerUnlessMemory (Ok Partial) lines used = ⊥
IsTrailerUnlessMemory (Err error) lines used = error ≡ Memory
