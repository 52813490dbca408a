-- What is answered to bytes read as a trailer section, by its cause. No public clause cites this
-- module.
use Rattle.std.specs.Prelude.{◌≡◌, ◌≢◌, ℕ, List, Result, Ok, Err}
use Rattle.msg_head.specs.declared.trailer.TrailerRead.{TrailerRead}
use Rattle.msg_head.specs.declared.trailer.TrailerRead.TheVariants.{Whole, Partial}
use Rattle.msg_head.specs.declared.error.Side.TheVariants.{Trailer}
use Rattle.msg_head.specs.declared.error.HeadError.{HeadError}
use Rattle.msg_head.specs.declared.error.HeadError.TheVariants.{Memory}
use Rattle.msg_head.specs.RawValues.{RawPieces}
use Rattle.msg_head.specs.Cuts.{AreLinesOf}
use Rattle.msg_head.specs.Trailers.{IsTrailerText, IsTrailerUnfinished}
use Rattle.msg_head.specs.TrailerCauses.{IsTrailerError}
use Rattle.msg_head.specs.TrailerViews.{TrailerParts, IsTrailerViewOf, TrailerFills, trailer_lines_of}
use Rattle.msg_head.specs.tools.Sections.{IsLinesFault}

-- the view is that of the field lines which the section spells
pub record IsTrailerSectionView (view : TrailerParts) (section : List ℕ) : Type 0 where
  pub bytes_are : view.bytes ≡ section
  pub spells : IsTrailerText (trailer_lines_of view) section
  pub fills : TrailerFills view

-- why the lines of a clean section are refused
abbrev pub IsTrailerSectionFault : List ℕ → HeadError → Type 0
IsTrailerSectionFault section fault =
    (lines : List RawPieces) × AreLinesOf section lines × IsLinesFault Trailer lines fault

-- the answer's fact: a section's view, no end yet, or the first cause that holds
abbrev pub ExplainsTrailer : List ℕ → Result TrailerRead HeadError → Type 0
ExplainsTrailer bytes (Ok (Whole view used)) = IsTrailerViewOf bytes view used
ExplainsTrailer bytes (Ok Partial) = IsTrailerUnfinished bytes
ExplainsTrailer bytes (Err fault) = fault ≢ Memory → IsTrailerError bytes fault
