-- The line of a label and its verdict.
use Rattle.std.specs.Prelude.{ℕ, List, [], ◌∷◌, ◌++◌, codes}
use Rattle.std.specs.Fmt.{decimal}
use Rattle.std.specs.Str.{byte}
use Rattle.component_ids.specs.Identifiers.{id_text}
use Rattle.component_ids.specs.Reasons.{word_of}
use Rattle.signatures.specs.Words.{rule_number, rule_word, reason_word}
use Rattle.verdicts.specs.declared.outcome.Verdict.{Verdict}
use Rattle.verdicts.specs.declared.outcome.Verdict.TheVariants.{Ok as Accepted, Rule as Failing}
use Rattle.signatures.specs.declared.place.Place.{Place}
use Rattle.signatures.specs.declared.place.Place.TheVariants.{None as Nowhere, Index, Component, Name, Identifier, Digest}

-- where a rule fails, after a space
abbrev pub place_text : Place → List ℕ
place_text Nowhere = []
place_text (Index index) = byte " " ∷ decimal index
place_text (Component index reason) = byte " " ∷ (decimal index ++ byte " " ∷ word_of reason)
place_text (Name text) = byte " " ∷ text
place_text (Identifier id) = byte " " ∷ id_text id
place_text (Digest reason) = byte " " ∷ reason_word reason

-- `ok`, or the number and the word of the rule that fails, and where it fails
abbrev pub verdict_text : Verdict → List ℕ
verdict_text (Accepted keyid) = codes "ok"
verdict_text (Failing rule place) =
    codes "rule " ++ (decimal (rule_number rule) ++ byte " " ∷ (rule_word rule ++ place_text place))

-- the label and its verdict
abbrev pub verdict_line : List ℕ × Verdict → List ℕ
verdict_line line = line.0 ++ byte " " ∷ (verdict_text line.1 ++ codes "\n")
