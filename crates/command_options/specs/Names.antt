-- The commands by name.
use Rattle.std.specs.Prelude.{ℕ, List, [], ◌∷◌, codes, Option, None}
use Rattle.std.specs.List.{find}
use Rattle.std.specs.Str.{bytes_eq}
use Rattle.command_options.specs.declared.options.CommandName.{CommandName}
use Rattle.command_options.specs.declared.options.CommandName.TheVariants.{Base, Verify, Sign, Rewrite, Explain, Audit, Gateway, Lists, Negotiate, Sample}

-- the name of a command
abbrev pub command_word : CommandName → List ℕ
command_word Base = codes "base"
command_word Verify = codes "verify"
command_word Sign = codes "sign"
command_word Rewrite = codes "rewrite"
command_word Explain = codes "explain"
command_word Audit = codes "audit"
command_word Gateway = codes "gateway"
command_word Lists = codes "lists"
command_word Negotiate = codes "negotiate"
command_word Sample = codes "sample"

-- the command of that name
abbrev pub command_of : List ℕ → Option CommandName
command_of word =
    find (λ command. bytes_eq word (command_word command))
    (Base ∷ Verify ∷ Sign ∷ Rewrite ∷ Explain ∷ Audit ∷ Gateway ∷ Lists ∷ Negotiate ∷ Sample ∷ [])

-- the command of the first word
abbrev pub first_command : List (List ℕ) → Option CommandName
first_command [] = None
first_command (word ∷ words) = command_of word
