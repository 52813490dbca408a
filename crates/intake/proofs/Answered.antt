-- What is found is read, or has a cause to be refused: a configuration and an input.
use Rattle.std.proofs.Common.{inl, inr, ℕ, List, length, Option, Some, None, refl}
use Rattle.std.proofs.lemmas.Bool.{cases_lt}
use Rattle.settings.specs.Standard.{standard_configuration}
use Rattle.refusals.specs.declared.refusal.TheConstants.{MAX_CONF_BYTES, MAX_INPUT_BYTES}
use Rattle.refusals.specs.declared.file.FileRefusal.{FileRefusal}
use Rattle.refusals.specs.declared.file.FileRefusal.TheVariants.{Missing, TooLong, Message as NoMessage, Conf}
use Rattle.intake.specs.Configured.{IsConfText, IsConfTextRefused}
use Rattle.intake.specs.Laws.{HasConfiguration, HasMessage}
use Rattle.intake.specs.Layers.{HasAnswer, ReadsFound, IsFileRefused}
use Rattle.intake.proofs.LowerLaws.{conf_answer_of, empty_says, message_answer}

-- ---- the configuration

text_answer : (text : List ℕ) → HasAnswer (IsConfText text) (IsConfTextRefused text)
text_answer text = elim (cases_lt MAX_CONF_BYTES (length text)) [
  | inl long ↦ inr (TooLong MAX_CONF_BYTES, (refl, long))
  | inr short ↦ elim (conf_answer_of text) [
    | inl says ↦ inl (says.0, (short, says.1))
    | inr fault ↦ inr (Conf fault.0, (short, fault.1))
  ]
]

module _ {V : Type 0} (Reads : List ℕ → V → Type 0) (Causes : List ℕ → FileRefusal → Type 0) (answer : (text : List ℕ) → HasAnswer (Reads text) (Causes text)) where
  pub found_answer : (found : Option (List ℕ)) → HasAnswer (ReadsFound Reads found) (IsFileRefused Causes found)
  found_answer None = inr (Missing, refl)
  found_answer (Some text) = answer text

pub has_configuration : HasConfiguration
has_configuration None found = inl (standard_configuration, empty_says)
has_configuration (Some name) found = found_answer IsConfText IsConfTextRefused text_answer found

-- ---- the input

pub has_message : HasMessage
has_message r input bytes = elim (cases_lt MAX_INPUT_BYTES (length input)) [
  | inl long ↦ inr (TooLong MAX_INPUT_BYTES, (refl, long))
  | inr short ↦ elim (message_answer r input short) [
    | inl found ↦ inl (found.0, record { are_bytes = bytes; within = short; whole = found.1 })
    | inr fault ↦ inr (NoMessage fault.0, (short, fault.1))
  ]
]
