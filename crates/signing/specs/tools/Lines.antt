-- The lines that signing adds, as the code keeps them. No public clause cites this module.
use Rattle.std.specs.Prelude.{◌≡◌, List, length}
use Rattle.std.specs.List.{flat_map}
use Rattle.msg_head.specs.Lines.{FieldLine, line_text}
use Rattle.signing.specs.declared.lines.AddedLines.{AddedLines}

-- the text is that of the lines, and so many there are
pub record AreLines (added : AddedLines) (lines : List FieldLine) : Type 0 where
  pub text : added.text ≡ flat_map line_text lines
  pub count : added.count ≡ length lines
