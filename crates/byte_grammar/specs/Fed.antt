-- What was fed into a text.
use Rattle.std.specs.Prelude.{◌≡◌, ℕ, true, false, List}
use Rattle.byte_grammar.specs.declared.fed_text.FedText.{FedText}

-- the text is what was fed, where memory was found for all of it
abbrev pub HasFed : FedText → List ℕ → Type 0
HasFed fed text = fed.is_short ≡ false → fed.text ≡ text

-- the text lacks a piece that was fed, since memory ran out
abbrev pub LacksPiece : FedText → Type 0
LacksPiece fed = fed.is_short ≡ true
