-- The texts that the readers of recordings read. No public clause cites this module.
use Rattle.std.specs.Prelude.{◌≡◌, ℕ, List, [], ◌++◌, length, codes, Option, Some, None}
use Rattle.std.specs.Fmt.{decimal}
use Rattle.std.specs.Str.{byte}
use Rattle.byte_grammar.specs.tools.CountedTexts.{IsEndedNumber}
use Rattle.byte_grammar.specs.tools.Languages.{Mapped}
use Rattle.recording.specs.declared.word.Word.{Word}
use Rattle.recording.specs.declared.word.Word.TheVariants as word
use Rattle.byte_grammar.specs.Numbers.{IsNumber}
use Rattle.recording.specs.Items.{message, script, Body, moment, stored, body_text, number_of}
use Rattle.recording.specs.tools.RecordingWalk.{word_text}

abbrev pub IsWordText : List ℕ → Word → Type 0
IsWordText text w = text ≡ word_text w

-- a number, and LF
abbrev pub IsNumberLine : List ℕ → ℕ → Type 0
IsNumberLine text n = IsEndedNumber (byte "\n") text n

abbrev pub IsStored : List ℕ → List ℕ → Type 0
IsStored text v =
    (text ≡ (decimal (length v) ++ codes "\n") ++ (v ++ codes "\n")) × IsNumber (length v)

abbrev pub IsBodyText : Word → List ℕ → Option Body → Type 0
IsBodyText word.End text o = (text ≡ []) × (None ≡ o)
IsBodyText word.At text o = Mapped (λ (n : ℕ). Some (moment n)) IsNumberLine text o
IsBodyText (word.Message role) text o =
    Mapped (λ (d : List ℕ). Some (stored (message role) d)) IsStored text o
IsBodyText word.Script text o = Mapped (λ (d : List ℕ). Some (stored script d)) IsStored text o

-- an item, or the last line
abbrev pub IsTurn : List ℕ → Option Body → Type 0
IsTurn text None = text ≡ codes "end\n"
IsTurn text (Some item) = (text ≡ body_text item) × IsNumber (number_of item)
