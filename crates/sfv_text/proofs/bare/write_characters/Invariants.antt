use Rattle.std.proofs.Common.{◌≡◌, ◌++◌, length}
use Rattle.std.specs.List.{flat_map}
use Rattle.sfv_text.specs.Strict.{character_text}
use Rattle.sfv_text.proofs.bare.write_characters.Given as goal

abbrev pub invariant-loop-character : goal.invariant-loop-character
invariant-loop-character l = l.text ++ flat_map character_text l.rest ≡ l.initial.text ++ flat_map character_text l.characters

abbrev pub decreases-loop-character : goal.decreases-loop-character
decreases-loop-character l = length l.rest
