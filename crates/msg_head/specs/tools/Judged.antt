-- What is answered to bytes, by its cause. No public clause cites this module.
use Rattle.std.specs.Prelude.{◌≡◌, ◌≢◌, ◌⊎◌, ℕ, List, Result, Ok, Err}
use Rattle.msg_head.specs.declared.head.HeadRead.{HeadRead}
use Rattle.msg_head.specs.declared.head.HeadRead.TheVariants.{Whole, Partial}
use Rattle.msg_head.specs.declared.error.Side.TheVariants.{Header}
use Rattle.msg_head.specs.declared.error.HeadError.{HeadError}
use Rattle.msg_head.specs.declared.error.HeadError.TheVariants.{Memory, NakedEnd, BadStart}
use Rattle.msg_head.specs.RawValues.{RawPieces}
use Rattle.msg_head.specs.Cuts.{IsSection, IsFirstNakedEnd, IsCut, MakesNoStart}
use Rattle.msg_head.specs.Heads.{IsHeadText, IsUnfinished}
use Rattle.msg_head.specs.Views.{View, IsViewOf, Fills, head_of}
use Rattle.msg_head.specs.Causes.{IsHeadError}
use Rattle.msg_head.specs.tools.Texts.{IsClean}
use Rattle.msg_head.specs.tools.Sections.{IsLinesFault}

-- the bytes up to their first end, and clean
pub record IsCleanSection (section : List ℕ) : Type 0 where
  pub is : IsSection section section
  pub clean : IsClean section

-- the section's first naked end, or the fault where there is none
abbrev pub IsFirstFault : List ℕ → HeadError → HeadError → Type 0
IsFirstFault section fault first =
    (IsClean section × (first ≡ fault))
    ⊎ ((offset : ℕ) × IsFirstNakedEnd section offset × (first ≡ NakedEnd offset))

-- the view is that of the head which the section spells
pub record IsSectionView (view : View) (section : List ℕ) : Type 0 where
  pub bytes_are : view.bytes ≡ section
  pub spells : IsHeadText (head_of view) section
  pub fills : Fills view

-- the start is a start line, and the lines are refused for the fault
pub record IsLateFault (start : List ℕ) (lines : List RawPieces) (fault : HeadError) : Type 0 where
  pub good : ¬ MakesNoStart start
  pub lines_are : IsLinesFault Header lines fault

-- why a clean section that is cut in this way is refused
abbrev pub IsCutFault : List ℕ → List RawPieces → HeadError → Type 0
IsCutFault start lines BadStart = MakesNoStart start
IsCutFault start lines fault = IsLateFault start lines fault

-- why a clean section is refused
abbrev pub IsSectionFault : List ℕ → HeadError → Type 0
IsSectionFault section fault =
    (start : List ℕ) × (lines : List RawPieces)
    × IsCut start lines section × IsCutFault start lines fault

-- the answer's fact: a head's view, no end yet, or the first cause that holds
abbrev pub ExplainsHead : List ℕ → Result HeadRead HeadError → Type 0
ExplainsHead bytes (Ok (Whole view used)) = IsViewOf bytes view used
ExplainsHead bytes (Ok Partial) = IsUnfinished bytes
ExplainsHead bytes (Err fault) = fault ≢ Memory → IsHeadError bytes fault
