-- The script of a command, in a file.
use Rattle.std.specs.Prelude.{◌≡◌, ◌<◌, ◌≤◌, ℕ, List, [], length, Option, Some, None}
use Rattle.intake.specs.Layers.{ReadsFound, IsFileRefused}
use Rattle.rewrite_script.specs.declared.limits.TheConstants.{MAX_SCRIPT_BYTES}
use Rattle.refusals.specs.declared.file.FileRefusal.{FileRefusal}
use Rattle.refusals.specs.declared.file.FileRefusal.TheVariants.{TooLong, Script}
use Rattle.rewrite_script.specs.Causes.{IsScriptFault}
pub use Rattle.rewrite_script.specs.Scripts.{IsScriptText}
use Rattle.rewrite_script.specs.declared.rewrite.Rewrite.{Rewrite}

-- why the text is refused as one
abbrev pub IsScriptTextRefused : List ℕ → FileRefusal → Type 0
IsScriptTextRefused text (TooLong limit) =
    (limit ≡ MAX_SCRIPT_BYTES) × (MAX_SCRIPT_BYTES < length text)
IsScriptTextRefused text (Script fault) =
    (length text ≤ MAX_SCRIPT_BYTES) × IsScriptFault text fault
IsScriptTextRefused text refusal = ⊥

-- the file that was found is the script, and there are no steps where no file has a name
abbrev pub IsScripted : Option (List ℕ) → Option (List ℕ) → List Rewrite → Type 0
IsScripted None found script = script ≡ []
IsScripted (Some name) found script = ReadsFound IsScriptText found script

-- why the file is refused
abbrev pub IsScriptRefused : Option (List ℕ) → Option (List ℕ) → FileRefusal → Type 0
IsScriptRefused None found refusal = ⊥
IsScriptRefused (Some name) found refusal = IsFileRefused IsScriptTextRefused found refusal
