-- The configuration of a command.
use Rattle.std.specs.Prelude.{◌≡◌, ◌<◌, ◌≤◌, ℕ, List, [], length, Option, Some, None}
use Rattle.conf.specs.Configuration.{Configuration}
use Rattle.conf.specs.Meaning.{Configures}
use Rattle.conf.specs.Refusals.{IsConfFault}
use Rattle.intake.specs.Layers.{ReadsFound, IsFileRefused}
use Rattle.refusals.specs.declared.refusal.TheConstants.{MAX_CONF_BYTES}
use Rattle.refusals.specs.declared.file.FileRefusal.{FileRefusal}
use Rattle.refusals.specs.declared.file.FileRefusal.TheVariants.{TooLong, Conf}

-- the text is within the limit, and says the configuration
abbrev pub IsConfText : List ℕ → Configuration → Type 0
IsConfText text conf = (length text ≤ MAX_CONF_BYTES) × Configures text conf

-- why the text is refused as one
abbrev pub IsConfTextRefused : List ℕ → FileRefusal → Type 0
IsConfTextRefused text (TooLong limit) =
    (limit ≡ MAX_CONF_BYTES) × (MAX_CONF_BYTES < length text)
IsConfTextRefused text (Conf fault) = (length text ≤ MAX_CONF_BYTES) × IsConfFault text fault
IsConfTextRefused text refusal = ⊥

-- the file that was found says the configuration, which is that of the empty text where no file has
-- a name
abbrev pub IsConfigured : Option (List ℕ) → Option (List ℕ) → Configuration → Type 0
IsConfigured None found conf = Configures [] conf
IsConfigured (Some name) found conf = ReadsFound IsConfText found conf

-- why the configuration is refused
abbrev pub IsConfRefused : Option (List ℕ) → Option (List ℕ) → FileRefusal → Type 0
IsConfRefused None found refusal = ⊥
IsConfRefused (Some name) found refusal = IsFileRefused IsConfTextRefused found refusal
